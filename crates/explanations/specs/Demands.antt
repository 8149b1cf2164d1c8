-- Demands 2 and 3, together of one table and one formula (`Explained`), for what the calls answer and the bytes that they leave. Demand 1 stands in
-- the contract of each entry, as an equation for the reply and one for every lent buffer afterwards.
use Rattle.std.specs.Prelude.{◌≡◌, ◌↔◌, List, ℕ}
use Rattle.std.proofs.Math.Option.{some}
use Rattle.lts.specs.Reply.{Reply, accepted, refusal}
use Rattle.lts.specs.Steps.{Table, labels}
use Rattle.lts.specs.Reading.{read_table}
use Rattle.lts.specs.inner.Prepared.{prepared_table}
use Rattle.actl.specs.Formulas.{Formula}
use Rattle.actl.specs.inner.Reading.{read_formula}
use Rattle.actl.specs.inner.Prepared.{prepared_formula}
use Rattle.satisfaction.specs.Runs.{Run}
use Rattle.satisfaction.specs.VerdictAsked.{verdict_replied, TellsWhether, VerdictIs}
use Rattle.automaton.specs.Build.{Counts}
use Rattle.automaton.specs.Explains.{Explains}
use Rattle.automaton.specs.AcceptsBytes.{AcceptsBytes}
use Rattle.automaton.specs.WordAsked.{word_replied}
use Rattle.explanations.specs.Shown.{ShowsOrBreaks}
use Rattle.explanations.specs.Traces.{Traces}
use Rattle.explanations.specs.Standstills.{StandstillsSeen}

-- Demand 2, the words: one is accepted by the listed automaton if and only if some finite path from the start with that word is a witness (class 1)
-- or a counterexample (class 2) by the inductive definition.
abbrev pub WordsAccepted : Table → Formula → Counts → List ℕ → List ℕ → Type 0
WordsAccepted t F c rows edges = (w : List ℕ) → AcceptsBytes c rows edges w ↔ Explains t F w

-- Demand 3: "For every unending run: it shows (breaks) the formula exactly when the rows and edges that building wrote trace some beginning of it."
abbrev pub RunsTraced : Table → Formula → Counts → List ℕ → List ℕ → Type 0
RunsTraced t F c rows edges = (r : Run t t.start) → ShowsOrBreaks F r.step ↔ ((n : ℕ) × Traces c rows edges r.step n)

-- Demand 2, what a word is answered: 1 exactly if the rows and edges in the lent places accept it, which is exactly if it explains the verdict; else 0.
abbrev pub WordRead : Table → Formula → Counts → List ℕ → List ℕ → List ℕ → Reply ℕ → Type 0
WordRead t F c rows edges w (accepted answer) = TellsWhether (AcceptsBytes c rows edges w) answer × TellsWhether (Explains t F w) answer
WordRead t F c rows edges w (refusal number figure) = Unit {0}

-- A verdict, and rows and edges in lent places, beside the prepared bytes of a table and a formula.
pub record Explained (table formula : List ℕ) (t : Table) (F : Formula) (v : ℕ) (c : Counts) (rows edges : List ℕ) : Type 0 where
  pub is_table : prepared_table table ≡ some t
  pub is_formula : prepared_formula (labels t) formula ≡ some F
  -- Demand 2; the verdict and each word are also what is answered on the prepared bytes.
  pub verdict : VerdictIs t F v
  pub verdict_asked : verdict_replied table formula ≡ accepted v
  pub words : WordsAccepted t F c rows edges
  pub word_asked : (w : List ℕ) → WordRead t F c rows edges w (word_replied table formula w)
  -- Demand 3.
  pub runs : RunsTraced t F c rows edges
  -- 02's third request.
  pub standstills : StandstillsSeen t c rows edges

-- What is said of the table and the formula in two texts.
abbrev pub InTexts : List ℕ → List ℕ → (Table → Formula → Type 0) → Type 0
InTexts table_text formula_text Said = (t : Table) × (F : Formula) × (read_table table_text ≡ accepted t) × (read_formula t.names formula_text ≡ accepted F) × Said t F

-- "It goes from the two texts through both readings to what building wrote": the prepared bytes that the readings left, what building answered on
-- them, and the rows and edges that it left.
abbrev pub FromCalls : List ℕ → List ℕ → Reply Counts → List ℕ → List ℕ → List ℕ → List ℕ → Type 0
FromCalls table_text formula_text (accepted c) table formula rows edges = InTexts table_text formula_text (λ t F. (v : ℕ) × Explained table formula t F v c rows edges)
FromCalls table_text formula_text (refusal number figure) table formula rows edges = Unit {0}

-- "it covers alike any other prepared bytes that building accepts"
abbrev pub FromPrepared : List ℕ → List ℕ → Reply Counts → List ℕ → List ℕ → Type 0
FromPrepared table formula (accepted c) rows edges = (t : Table) × (F : Formula) × (v : ℕ) × Explained table formula t F v c rows edges
FromPrepared table formula (refusal number figure) rows edges = Unit {0}
