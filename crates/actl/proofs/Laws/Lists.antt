-- Lists by number: what a function of 0, 1, .. has at k; and equal bytes.
use mathlib.Core.Path.{◌≡◌, refl, sym, ap, ◌∙◌}
use mathlib.Core.Bool.{Bool, true, false, false≢true}
use mathlib.Core.List.{List, [], ◌∷◌, ◌++◌, map}
use Prim.Native.Nat.{ℕ, zero, suc, ◌+◌, ◌≤◌, ◌<◌}
use native.Mathlib.Nat.{add-zero, add-suc, suc-add}
use native.Mathlib.Numerals.{add-one}
use native.Mathlib.Decide.{dec_lt}
use native.Mathlib.Omega.{arith}
use lib.ListN.{length, get_or, take, set}
use lib.Seq.{take-suc-set}
use Rattle.lts.specs.inner.Lists.{up_from}
use Rattle.lts.specs.Lists.{every}
use Rattle.lts.proofs.Lists.{up_from-of, up_from-to, up_from_snoc, map_append, every_of, every-to}

from_at : {A : Type 0} (g : ℕ → A) (j n k : ℕ) (d : A) → k < n → get_or (map g (up_from j n)) k d ≡ g (j + k)
from_at g j zero k d h = absurd (omega arith)
from_at g j (suc n) zero d h = ap g (sym (add-zero j))
from_at g j (suc n) (suc k) d h = from_at g (suc j) n k d (omega arith) ∙ ap g (suc-add j k ∙ sym (add-suc j k))

-- A list that is filled from the front with what a function gives.
pub filled_more : (g : ℕ → ℕ) (l : List ℕ) (k : ℕ) → k < length l → take k l ≡ map g (up_from 0 k) → take (k + 1) (set l k (g k)) ≡ map g (up_from 0 (k + 1))
filled_more g l k h e =
    rw add-one
    (take-suc-set l k (g k) h ∙ (ap (λ x. x ++ (g k ∷ [])) e ∙ sym (ap (map g) (up_from_snoc k) ∙ map_append g (up_from 0 k) (k ∷ []))))

-- A test over numbers in turn: what passed so far, and what the whole gives.
abbrev pub Passed : (ℕ → Bool) → ℕ → ℕ → Type 0
Passed p a k = (i : ℕ) → a ≤ i → i < k → p i ≡ true

module _ (p : ℕ → Bool) (a : ℕ) where
  pub passed_none : Passed p a a
  passed_none i l h = absurd (omega arith)

  pub passed-more : (k : ℕ) → Passed p a k → p k ≡ true → Passed p a (k + 1)
  passed-more k h e i l m = case (dec_lt i k)
    where
      case : Dec (i < k) → p i ≡ true
      case (yes j) = h i l j
      case (no j) = let d : i ≡ k = omega arith in ap p d ∙ e

  pub passed-all : (n k : ℕ) → a + n ≤ k → Passed p a k → every p (up_from a n) ≡ true
  passed-all n k l h = every-to p (up_from a n) (λ x m. let b = up_from-of a n m in h x b.0 (omega arith))

  pub failed_one : (n k : ℕ) → a ≤ k → k < a + n → p k ≡ false → every p (up_from a n) ≡ false
  failed_one n k l h e = case (every p (up_from a n)) refl
    where
      case : (t : Bool) → every p (up_from a n) ≡ t → t ≡ false
      case true d = absurd (false≢true (sym e ∙ every_of p (up_from a n) d k (up_from-to a n k l h)))
      case false d = refl
