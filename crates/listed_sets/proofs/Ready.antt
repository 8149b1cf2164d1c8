-- The arrays that building's search starts from are those that a search for sets goes by.
use mathlib.Core.Path.{sym, ◌∙◌}
use mathlib.Core.Bool.{Bool}
use mathlib.Core.List.{List, [], ◌∷◌}
use Prim.Native.Nat.{ℕ}
use native.Mathlib.Omega.{arith}
use Rattle.lts.specs.Steps.{Table}
use Rattle.actl.specs.Formulas.{Formula}
use Rattle.automaton.specs.Positions.{root_at}
use Rattle.breadth_first.specs.inner.Finding.{Live}
use Rattle.breadth_first.specs.inner.Search.{frontier_of}
use Rattle.breadth_first.specs.inner.Searched.{code, SearchReady}
use Rattle.breadth_first.proofs.Laws.OpenPlaces.{bit_here}
use Rattle.breadth_first.proofs.Laws.SearchRows.{code-few, open_is}
use Rattle.listed_sets.specs.inner.Arrays.{SetArrays}

pub set-arrays : {t : Table} {F : Formula} {queue slots steps firsts masks live : List ℕ} {finals : List Bool} → SearchReady t F queue slots steps firsts masks finals
    → Live slots live → SetArrays t F masks live finals
set-arrays {t} {F} {queue} {slots} {live = live} z l = record {
  in_range = z.in_range;
  few = z.few;
  masks_of_lem = z.masks_of_lem;
  masks_fit = z.masks_fit;
  finals_of = z.finals_of;
  live_at = λ p i.
      sym (bit_here live p.place p.state (omega (arith, i.1, z.in_range.few_states)) live)
      ∙ (l (code p) (code-few t F z.in_range z.few p i) ∙ open_is t F z.in_range z.few (root_at t ∷ []) (frontier_of queue slots 1) z.root_found p i);
}
