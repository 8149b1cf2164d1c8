-- A text that grows in a buffer of 512 bytes: it is counted whatever its length, and stands there as long as it fits.
use Rattle.std.specs.Prelude.{◌≡◌, true, cond, List, [], ◌∷◌, ◌++◌, ℕ, ◌+◌, ◌≤◌, eqb, length, take}
use Rattle.lts.specs.inner.HoldsTable.{HoldsTable}
use Rattle.actl.specs.Sizes.{longest_text}
use Rattle.actl.specs.Actions.{Mask, in_set, Cond, silent, labels}
use Rattle.actl.specs.Prepared.{mask_within}

-- A buffer of 512 bytes, and a count at `at` that can take n bytes more: it may go past any formula's text.
pub record Room (out : List ℕ) (at n : ℕ) : Type 0 where
  pub long : length out ≡ longest_text
  pub below : at + n ≤ 65536

-- The same over a table's bytes.
pub record Over (table out : List ℕ) (at n : ℕ) : Type 0 where
  pub holds : HoldsTable table
  pub room : Room out at n

-- A step condition over n labels.
abbrev pub CondWithin : ℕ → Cond → Type 0
CondWithin n silent = Unit {0}
CondWithin n (labels m) = mask_within n m ≡ true

-- The text l comes behind what stood in e up to `at`, and ends at `to` of x.
pub record Adds (l : List ℕ) (at : ℕ) (e x : List ℕ) (to : ℕ) : Type 0 where
  pub ends : to ≡ at + length l
  pub long : length x ≡ length e
  pub made : to ≤ longest_text → take to x ≡ take at e ++ l

-- What label k + 1 adds to a set's text that began at `start` and has come to `at`.
abbrev pub label_text : Mask → ℕ → ℕ → ℕ → List ℕ → List ℕ
label_text m start at k name = cond (in_set m (k + 1)) (cond (eqb at start) [] (124 ∷ []) ++ name) []
