-- What stands at a place of a list.
use mathlib.Core.Path.{◌≡◌, refl}
use mathlib.Core.List.{List, [], ◌∷◌}
use Prim.Native.Nat.{ℕ, zero, suc, ◌<◌}
use native.Mathlib.Omega.{arith}
use lib.ListN.{length, get_or}

-- What stands at a place of the text does not depend on what is read past it.
pub get_d_any : {A : Type 0} (d e : A) (l : List A) (i : ℕ) → i < length l → get_or l i d ≡ get_or l i e
get_d_any d e [] i h = absurd (omega arith)
get_d_any d e (x ∷ l) zero h = refl
get_d_any d e (x ∷ l) (suc i) h = get_d_any d e l i (omega arith)
