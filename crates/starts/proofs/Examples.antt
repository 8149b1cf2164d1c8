-- Worked examples: lists of starts over table M, run. M has three states: 0 goes to 1 by req, 1 back to 0 and on to 2 by ack, and 2 only idles.
use mathlib.Core.Path.{◌≡◌, refl}
use mathlib.Core.List.{[], ◌∷◌}
use mathlib.Core.Option.{none, some}
use Prim.Native.Nat.{ℕ}
use Rattle.lts.specs.Steps.{silent}
use Rattle.lts.specs.inner.Steps.{steps_from}
use Rattle.lts.proofs.Examples.{M}
use Rattle.actl.specs.Actions.{labels, in_set, meets, passes}
use Rattle.actl.specs.Formulas.{tru, not, ex, eu_then}
use Rattle.satisfaction.specs.inner.Holds.{holds, within}
use Rattle.starts.specs.Starts.{wrong_start}
use Rattle.starts.specs.VerdictsAsked.{verdicts_at, joint}

-- `EU[*;ack] T` holds at 0 and 1, and not at 2.
each_start : verdicts_at M (eu_then 6 4 tru) (0 ∷ 1 ∷ 2 ∷ []) ≡ 1 ∷ 1 ∷ 0 ∷ []
unfolding holds within steps_from passes in_set silent
each_start = refl

-- `EX[ack] T` holds at 1 alone, where M does not start.
listed-not-start : verdicts_at M (ex (labels 4) tru) (1 ∷ []) ≡ 1 ∷ []
unfolding holds within steps_from meets in_set silent
listed-not-start = refl

-- "whether it holds at all of them", "For an empty list the joint answer is yes."
not-at-all : joint (1 ∷ 1 ∷ 0 ∷ []) ≡ 0
not-at-all = refl

at_all : joint (1 ∷ 1 ∷ []) ≡ 1
at_all = refl

at_none : joint (verdicts_at M (not tru) []) ≡ 1
at_none = refl

-- The first entry that is wrong: equal to the one before, below it, no state of three.
none-wrong : wrong_start 3 (0 ∷ 1 ∷ 2 ∷ []) ≡ none
unfolding wrong_start
none-wrong = refl

nothing_listed : wrong_start 3 [] ≡ none
unfolding wrong_start
nothing_listed = refl

equal_neighbours : wrong_start 3 (0 ∷ 1 ∷ 1 ∷ []) ≡ some 2
unfolding wrong_start
equal_neighbours = refl

falling : wrong_start 3 (2 ∷ 1 ∷ 0 ∷ []) ≡ some 1
unfolding wrong_start
falling = refl

count-listed : wrong_start 3 (3 ∷ 0 ∷ []) ≡ some 0
unfolding wrong_start
count-listed = refl

last-state : wrong_start 256 (0 ∷ 255 ∷ []) ≡ none
unfolding wrong_start
last-state = refl
