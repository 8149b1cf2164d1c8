-- What the program's text says: it is that of the smallest deterministic automaton of the words of Definition 6, or a refusal's line; and texts of automata are
-- equal exactly if the words are.
use mathlib.Core.Path.{◌≡◌, refl, sym, ap, ◌∙◌}
use mathlib.Core.Logic.{◌⊎◌, inl, inr, ◌↔◌}
use mathlib.Core.List.{List}
use Prim.Native.Nat.{ℕ}
use native.Mathlib.Omega.{arith}
use Rattle.lts.specs.Reply.{Reply, accepted, refusal}
use Rattle.automaton.specs.Explains.{Explains}
use Rattle.explanations.specs.Printed.{refusal_line, without_end}
use Rattle.deterministic.specs.Automata.{Automaton}
use Rattle.deterministic.specs.Smallest.{SameWords}
use Rattle.deterministic.specs.SmallestAsked.{Beside}
use Rattle.deterministic.proofs.Unique.{unique, equal_words}
use Rattle.smallest_text.specs.Text.{automaton_text}
use Rattle.smallest_lines.specs.SmallestText.{lent_smallest, text_of, smallest_text}
use Rattle.smallest_lines.proofs.Laws.Answered.{SmallestOf, smallest-of}
use Rattle.smallest_lines.proofs.Laws.Told.{Fits, text_tells}

-- Accepted: the automaton; refused: the number and the figure.
abbrev pub Answers : List ℕ → List ℕ → Type 0
Answers tableFile formulaFile = (d : Automaton) × SmallestOf tableFile (without_end formulaFile) d × (smallest_text tableFile formulaFile ≡ automaton_text d)

abbrev pub Refuses : List ℕ → List ℕ → Type 0
Refuses tableFile formulaFile =
    (number : ℕ) × (figure : ℕ) × (lent_smallest tableFile (without_end formulaFile) ≡ refusal number figure) × (smallest_text tableFile formulaFile ≡ refusal_line number figure)

pub smallest-printed : (tableFile formulaFile : List ℕ) → Answers tableFile formulaFile ⊎ Refuses tableFile formulaFile
unfolding smallest_text
smallest-printed tableFile formulaFile = by (lent_smallest tableFile (without_end formulaFile)) refl
  where
    by : (r : Reply Beside) → lent_smallest tableFile (without_end formulaFile) ≡ r → Answers tableFile formulaFile ⊎ Refuses tableFile formulaFile
    by (accepted b) e = inl (b.smallest, smallest-of tableFile (without_end formulaFile) e, ap text_of e)
    by (refusal n g) e = inr (n, g, e, ap text_of e)

fits : {table_text text : List ℕ} {d : Automaton} → SmallestOf table_text text d → Fits d
fits s = record {
  few_states = omega (arith, s.few_states);
  few_edges = omega (arith, s.few_edges);
  narrow = λ e m.
      let (from, to) = s.is_smallest.well_formed.in_range e m in
      (omega (arith, from, s.few_states), omega (arith, s.small-labels e m), omega (arith, to, s.few_states));
}

-- 02: "have equal listings exactly when they have equal words"
pub equal_texts_exactly : (tableFile formulaFile otherTable otherFormula : List ℕ) (x : Answers tableFile formulaFile) (y : Answers otherTable otherFormula)
    → (smallest_text tableFile formulaFile ≡ smallest_text otherTable otherFormula)
    ↔ SameWords (Explains x.1.table x.1.formula) (Explains y.1.table y.1.formula)
equal_texts_exactly tableFile formulaFile otherTable otherFormula (d, s, p) (e, t, q) = (
  λ z. equal_words s.is_smallest t.is_smallest (text_tells d e (fits s) (fits t) (sym p ∙ z ∙ q)),
  λ same. p ∙ ap automaton_text (unique s.is_smallest t.is_smallest same) ∙ sym q,
)
