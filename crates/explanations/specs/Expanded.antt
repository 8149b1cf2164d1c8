-- What `explain` would answer and leave without the limit of 512 bytes. 02: "An accepted line must behave, row for row, as its expansion would
-- without the 512-byte limit."
use Rattle.std.specs.Prelude.{List, ℕ}
use Rattle.lts.specs.Reply.{Reply, answers}
use Rattle.lts.specs.Reading.{read_table}
use Rattle.actl.specs.inner.Reading.{read_unlimited}
use Rattle.actl.specs.FormulaReading.{long_enough}
use Rattle.automaton.specs.inner.Search.{listing}
use Rattle.automaton.specs.Build.{fitted}
use Rattle.explanations.specs.Explanation.{Explanation, and_then}

abbrev pub explaining_unlimited : List ℕ → List ℕ → List ℕ → List ℕ → List ℕ → List ℕ → Reply Explanation
explaining_unlimited table_text formula_text table formula rows edges =
    long_enough table formula (
    and_then (read_table table_text) (λ t.
    and_then (read_unlimited t.names formula_text) (λ F.
    answers (λ L. record { table = t; formula = F; list = L }) (fitted (listing t F) rows edges))))
