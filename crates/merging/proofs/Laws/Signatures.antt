-- A state's block in an array; two signatures are equal exactly if the marks, the blocks and the blocks of all targets are.
use mathlib.Core.Path.{◌≡◌, refl, sym, ap, ◌∙◌, subst}
use mathlib.Core.Logic.{◌⊎◌, inl, inr}
use mathlib.Core.Bool.{Bool, true, false, true≢false, false≢true, beq, cond, not}
use mathlib.Core.List.Memᴰ
use mathlib.Core.List.{List, [], ◌∷◌, Memᴰ}
use Prim.Native.Nat.{ℕ, ◌+◌, ◌-◌, ◌*◌, ◌<◌, ◌≤◌}
use native.Mathlib.Decide.{dec_lt}
use native.Mathlib.Omega.{arith}
use lib.ListN.{length, take, get_or, get_or-eq_default}
use lib.Seq.{length-take-le, get_or-take}
use borrow.Author.Tests.{ne_eqb}
use Rattle.lts.specs.Idle.{idle_label}
use Rattle.lts.specs.inner.Lists.{up_from}
use Rattle.deterministic.specs.Sizes.{most_letters}
use Rattle.deterministic.specs.inner.Blocks.{Table, block_of, signature}
use Rattle.deterministic.specs.inner.Arrays.{letters, column_for, array_table}
use Rattle.merging.specs.inner.Rounds.{SameTargets}
use Rattle.lts.proofs.Lists.{up_from-of, up_from-to}
use Rattle.lts.proofs.Laws.Compare.{get_d_any}
use Rattle.deterministic.proofs.ListLaws.{map_same}
use Rattle.deterministic.proofs.Refining.{signed-next}

-- The block of a state.
pub block_in : (l : List ℕ) (n x : ℕ) → n ≤ length l → x < n → get_or l x 0 ≡ get_or (take n l) x n
block_in l n x a b = get_d_any 0 n l x (omega arith) ∙ sym (get_or-take n l x n b)

-- What is no state has the block n.
pub block_out : (l : List ℕ) (n x : ℕ) → n ≤ length l → n ≤ x → n ≡ get_or (take n l) x n
block_out l n x a b = sym (get_or-eq_default (take n l) n (omega (arith, length-take-le n l a)))

-- Marks that a test tells apart, or does not.
pub marks-apart : (a b : Bool) → not (beq a b) ≡ true → a ≡ b → ⊥
marks-apart true true e d = false≢true e
marks-apart true false e d = true≢false d
marks-apart false true e d = false≢true d
marks-apart false false e d = false≢true e

pub marks_alike : (a b : Bool) → not (beq a b) ≡ false → a ≡ b
marks_alike true true e = refl
marks_alike true false e = absurd (true≢false e)
marks_alike false true e = absurd (true≢false e)
marks_alike false false e = refl

-- Letters and columns.
module _ (columns : ℕ) (some_column : 1 ≤ columns) (few_columns : columns ≤ most_letters) where
  column-low : (l : ℕ) → l < idle_label → column_for columns l ≡ l
  column-low l h = ap (λ b. cond b (columns - 1) l) (ne_eqb l idle_label (λ e. absurd (omega arith)))

  column-inside : (l : ℕ) → Memᴰ l (letters columns) → column_for columns l < columns
  column-inside l m = case (Memᴰ.append_cases (up_from 0 (columns - 1)) m)
    where
      case : Memᴰ l (up_from 0 (columns - 1)) ⊎ Memᴰ l (idle_label ∷ []) → column_for columns l < columns
      case (inl h) = let b = (up_from-of 0 (columns - 1) h).1 in omega (arith, column-low l (omega arith))
      case (inr h) = subst (λ (x : ℕ). column_for columns x < columns) (sym (Memᴰ.eq_of_singleton h)) (omega arith)

  -- Every column has a letter.
  column_letter : (i : ℕ) → i < columns → (l : ℕ) × Memᴰ l (letters columns) × (column_for columns l ≡ i)
  column_letter i h = case (dec_lt i (columns - 1))
    where
      case : Dec (i < columns - 1) → (l : ℕ) × Memᴰ l (letters columns) × (column_for columns l ≡ i)
      case (yes b) = (i, Memᴰ.append_left (idle_label ∷ []) (up_from-to 0 (columns - 1) i (omega arith) (omega arith)), column-low i (omega arith))
      case (no b) = (idle_label, Memᴰ.append_right (up_from 0 (columns - 1)) (Memᴰ.head refl), omega (arith, b))

  module _ (next : List ℕ) (marks : List Bool) (n : ℕ) (c : List ℕ) (j k : ℕ) where
    abbrev t : Table
    t = array_table next marks n columns

    pub signature-to : get_or marks j false ≡ get_or marks k false → block_of t c j ≡ block_of t c k → SameTargets next c n columns j k → signature t c j ≡ signature t c k
    unfolding signature
    signature-to a e f =
        let d = map_same (λ l. block_of t c (t.next j l)) (λ l. block_of t c (t.next k l)) (letters columns) (λ l m. f (column_for columns l) (column-inside l m)) in
        λ i. cond (a i) 1 0 ∷ e i ∷ d i

    pub signature-of : signature t c j ≡ signature t c k → SameTargets next c n columns j k
    signature-of e i h =
        let (l, m, d) = column_letter i h in
        subst (λ (x : ℕ). get_or c (get_or next (j * most_letters + x) n) n ≡ get_or c (get_or next (k * most_letters + x) n) n) d (signed-next t c j k e l m)
