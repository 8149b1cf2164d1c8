-- Steps that have the same label.
use mathlib.Core.Path.{◌≡◌, ap, ◌∙◌}
use mathlib.Core.List.{List}
use Prim.Native.Nat.{ℕ, ◌+◌, ◌/◌, ◌≤◌, ◌<◌}
use native.Mathlib.Decide.{ℕ_discrete}
use native.Mathlib.Omega.{arith}
use lib.ListN.{get_or}

pub record SameLabel (steps : List ℕ) (label from k : ℕ) : Type 0 where
  pub same : (j : ℕ) → from ≤ j → j < k → get_or steps j 0 / 256 ≡ label

pub same_more : {steps : List ℕ} {label from k : ℕ} → SameLabel steps label from k → get_or steps k 0 / 256 ≡ label → SameLabel steps label from (k + 1)
same_more {steps} {label} {from} {k} s e = record { same = λ j x y. pick j x (ℕ_discrete j k) (omega arith) }
  where
    pick : (j : ℕ) → from ≤ j → Dec (j ≡ k) → j ≤ k → get_or steps j 0 / 256 ≡ label
    pick j x (yes z) y = ap (λ i. get_or steps i 0 / 256) z ∙ e
    pick j x (no z) y = s.same j x (omega arith)
