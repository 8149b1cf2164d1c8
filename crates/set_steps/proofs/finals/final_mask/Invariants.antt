-- `final_mask` meets its contract: the mask has the final places below k.
use mathlib.Core.Path.{◌≡◌, sym, ap, ◌∙◌}
use mathlib.Core.Bool.{◌||◌}
use Prim.Native.Nat.{ℕ, ◌-◌, ◌≤◌}
use native.Mathlib.Omega.{arith}
use Rattle.lts.specs.inner.Lists.{up_from}
use Rattle.lts.specs.Lists.{any_of}
use Rattle.automaton.specs.inner.Sizes.{place_count}
use Rattle.until_search.specs.inner.Flags.{flag_at}
use Rattle.frontier.specs.inner.Reached.{final_place}
use Rattle.set_steps.specs.inner.Finals.{meets}
use Rattle.set_steps.proofs.Laws.Masks.{meets-more, meets_empty}
use Rattle.set_steps.proofs.Laws.Tests.{any_upto}
use Rattle.set_steps.proofs.finals.final_mask.Given as goal

abbrev pub invariant-loop-k : goal.invariant-loop-k
invariant-loop-k l = (l.k ≤ place_count) × ((p : ℕ) → any_of (final_place l.finals p) (up_from 0 l.k) ≡ meets l.mask p)
