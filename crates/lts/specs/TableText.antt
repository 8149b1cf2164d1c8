-- The text of a table. A table in range has exactly this one: `read-of-text` and `text-of-read` (proofs/Laws/Texts.antt).
use Rattle.std.specs.Prelude.{List, [], ◌∷◌, ◌++◌, ℕ, suc, length}
use Rattle.lts.specs.Lists.{bind}
use Rattle.lts.specs.Steps.{Step, Table, labels}
use Rattle.lts.specs.Text.{ended, header_line, label_line, transition_line}

abbrev pub label_lines : ℕ → List (List ℕ) → List ℕ
label_lines k [] = []
label_lines k (n ∷ names) = ended (label_line k n) ++ label_lines (suc k) names

abbrev pub transition_lines : List Step → List ℕ
transition_lines l = bind (λ st. ended (transition_line st)) l

unfoldable pub table_text : Table → List ℕ
table_text t =
    ended (header_line t.states (labels t) (length t.transitions) t.start)
    ++ (label_lines 1 t.names ++ transition_lines t.transitions)
