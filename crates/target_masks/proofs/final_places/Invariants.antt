-- `final_places` meets its contract: the flags from place k on are right.
use mathlib.Core.Path.{◌≡◌, sym, ◌∙◌, subst}
use mathlib.Core.Bool.{true, false}
use Prim.Native.Nat.{◌-◌, ◌≤◌, ◌<◌}
use native.Mathlib.Omega.{arith}
use lib.ListN.{get_or, length-replicate, get_or-replicate, replicate}
use Rattle.actl.specs.Sizes.{most_nodes}
use Rattle.automaton.specs.inner.Sizes.{place_count}
use Rattle.actl.specs.Formulas.{Formula}
use Rattle.target_masks.specs.inner.Masks.{Spells, FinalsOf}
use Rattle.target_masks.proofs.Laws.Places.{place-few, place-shaped, finals_from, finals_turn, finals_end}
use borrow.Author.Rules.{rules}
use Rattle.target_masks.proofs.final_places.Given as goal

abbrev pub invariant-loop-k : goal.invariant-loop-k
invariant-loop-k l = (F : Formula) → Spells l.formula l.ends F → FinalsOf F l.k l.finals
