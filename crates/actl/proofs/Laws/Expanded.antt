-- A line is answered from 7 on as its expansion is, read without the limit of 512 bytes.
use mathlib.Core.Path.{◌≡◌, sym, ap, ◌∙◌}
use mathlib.Core.List.{List, []}
use Prim.Native.Nat.{ℕ, ◌≤◌}
use lib.ListN.{length}
use borrow.Author.Tests.{le-leb}
use Rattle.actl.specs.Sizes.{longest_text}
use Rattle.lts.specs.Reply.{refusal, unless}
use Rattle.lts.specs.Marks.{marked}
use Rattle.actl.specs.Grammar.{Disjunction, pieces_f}
use Rattle.actl.specs.Grammatical.{Text}
use Rattle.actl.specs.Base.{Base, typed, BaseText}
use Rattle.actl.specs.WrittenOut.{written_out}
use Rattle.actl.specs.Reading.{on_tree}
use Rattle.actl.specs.inner.Reading.{on_result, read_unlimited, read_formula}
use Rattle.actl.specs.Expansion.{expansion, SameAnswer, same, lacking}
use Rattle.actl.proofs.Marks.{pieces_fit}
use Rattle.actl.proofs.Pieces.{on_mentions_lem}
use Rattle.actl.proofs.Grammar.{read-text, one-tree}
use Rattle.actl.proofs.Expansion.{typed-written, expands, own-expansion}

module _ (names : List (List ℕ)) where
  pub line_read : (s : List ℕ) (f : Disjunction) → length s ≤ longest_text → Text marked s f → read_formula names s ≡ on_tree names f
  unfolding read_formula
  line_read s f h p = ap (λ b. unless b 5 (length s) (read_unlimited names s)) (le-leb (length s) longest_text h)
      ∙ (ap (on_result names s) ((read-text s f).1 p) ∙ on_mentions_lem names f)

  pub expansion-read : (f : Disjunction) → read_unlimited names (expansion f) ≡ on_tree names (typed (written_out f))
  expansion-read f =
      let g = typed (written_out f) in
      ap (on_result names (expansion f)) ((read-text (expansion f) g).1 (expands marked names f (pieces_fit (pieces_f f []))).base) ∙ on_mentions_lem names g

  -- All but 7 alike; of 7, `SameAnswer` says that it is for the same name.
  pub read-as_expanded : (s : List ℕ) (f : Disjunction) → length s ≤ longest_text → Text marked s f → ((n : ℕ) → read_formula names s ≡ refusal 7 n → ⊥)
      → read_formula names s ≡ read_unlimited names (expansion f)
  read-as_expanded s f h p other = case (expands marked names f (pieces_fit (pieces_f f []))).answer
    where
      case : SameAnswer names f (typed (written_out f)) → read_formula names s ≡ read_unlimited names (expansion f)
      case (same _ _ e) = line_read s f h p ∙ (e ∙ sym (expansion-read f))
      case (lacking n before i j _ _ e _) = absurd (other _ (line_read s f h p ∙ e))

-- A line of the base notation is its own expansion: it has no other tree.
pub base-line : (s : List ℕ) (g : Base) (f : Disjunction) → BaseText marked s g → Text marked s f → (f ≡ typed g) × (expansion f ≡ s)
base-line s g f b p =
    let d = one-tree marked s f (typed g) p b in
    (d, ap expansion d ∙ (own-expansion marked s g b).1)

pub one-base-tree : (s : List ℕ) (g h : Base) → BaseText marked s g → BaseText marked s h → g ≡ h
one-base-tree s g h b c = sym (typed-written g) ∙ (ap written_out (sym (base-line s g (typed h) b c).0) ∙ typed-written h)
