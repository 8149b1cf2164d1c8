-- Masks that are set to 0 in a list of them.
use mathlib.Core.Path.{◌≡◌, refl}
use mathlib.Core.List.{List, [], ◌∷◌}
use Prim.Native.Nat.{ℕ, zero, suc}
use lib.ListN.{get_or, set}

pub zero-here : (l : List ℕ) (i : ℕ) → get_or (set l i 0) i 0 ≡ 0
zero-here [] i = refl
zero-here (x ∷ l) zero = refl
zero-here (x ∷ l) (suc i) = zero-here l i

pub zero-kept : (l : List ℕ) (i j : ℕ) → get_or l j 0 ≡ 0 → get_or (set l i 0) j 0 ≡ 0
zero-kept [] i j e = e
zero-kept (x ∷ l) zero zero e = refl
zero-kept (x ∷ l) zero (suc j) e = e
zero-kept (x ∷ l) (suc i) zero e = e
zero-kept (x ∷ l) (suc i) (suc j) e = zero-kept l i j e
