-- Worked examples of the text.
use mathlib.Core.Path.{◌≡◌, refl}
use mathlib.Core.Bool.{true, false}
use mathlib.Core.List.{[], ◌∷◌}
use Rattle.columns.specs.Columns.{column, digits_within}
use Rattle.lts.proofs.Examples.{lines}
use Rattle.deterministic.specs.Automata.{edge, bare}
use Rattle.smallest_text.specs.Text.{automaton_text}

-- Two states, the first one final.
two-text : automaton_text (record { final = true ∷ false ∷ []; edges = edge 0 3 1 ∷ edge 1 41 0 ∷ [] })
    ≡ lines ("     2     2" ∷ "     0     1" ∷ "     1     0" ∷ "     0     3     1" ∷ "     1    41     0" ∷ [])
unfolding automaton_text column digits_within
two-text = refl

-- The automaton without words.
bare-text : automaton_text bare ≡ lines ("     1     0" ∷ "     0     0" ∷ [])
unfolding automaton_text column digits_within
bare-text = refl
