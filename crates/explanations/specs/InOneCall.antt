-- Demands 2 and 3 of `explain`, which accepted both texts: its answer, the prepared bytes, rows and edges that it left. 01: "The root's class is the formula's"
use Rattle.std.specs.Prelude.{◌≡◌, List, ℕ}
use Rattle.lts.specs.Reply.{Reply, accepted, refusal}
use Rattle.actl.specs.Formulas.{class_of}
use Rattle.explanations.specs.Explanation.{Summary, counts_of}
use Rattle.explanations.specs.Demands.{Explained, InTexts}

abbrev pub FromTexts : List ℕ → List ℕ → Reply Summary → List ℕ → List ℕ → List ℕ → List ℕ → Type 0
FromTexts table_text formula_text (accepted s) table formula rows edges =
    InTexts table_text formula_text (λ t F. (s.class ≡ class_of F) × Explained table formula t F s.verdict (counts_of s) rows edges)
FromTexts table_text formula_text (refusal number figure) table formula rows edges = Unit {0}
