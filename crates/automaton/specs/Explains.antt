-- Demand 2: "some finite path from the start with that word is a witness (class 1) or a counterexample (class 2) by the inductive definition".
use Rattle.std.specs.Prelude.{◌≡◌, ◌⊎◌, List, ℕ}
use Rattle.lts.specs.Steps.{Step, Table}
use Rattle.actl.specs.Formulas.{Formula, class_of}
use Rattle.automaton.specs.Paths.{IsPath, word_of}
use Rattle.automaton.specs.Witnesses.{Witness, Counterexample}

abbrev pub IsExplanation : Formula → List Step → Type 0
IsExplanation F p = ((class_of F ≡ 1) × Witness F p) ⊎ ((class_of F ≡ 2) × Counterexample F p)

abbrev pub Explains : Table → Formula → List ℕ → Type 0
Explains t F w = (p : List Step) × IsPath t t.start p × (word_of p ≡ w) × IsExplanation F p
