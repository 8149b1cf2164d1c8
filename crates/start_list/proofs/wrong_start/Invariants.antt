-- `wrong_start` meets its contract: what is wrong below i is found.
use mathlib.Core.Path.{◌≡◌}
use Prim.Native.Nat.{◌≤◌}
use lib.ListN.{take}
use Rattle.tables.specs.inner.Access.{found_in}
use Rattle.starts.specs.Starts.{wrong_start}
use Rattle.starts.specs.inner.Search.{least_after}
use Rattle.start_list.proofs.wrong_start.Given as goal

abbrev pub invariant-loop-i : goal.invariant-loop-i
invariant-loop-i l = (l.i ≤ l.end) × (found_in l.found ≡ wrong_start l.states (take l.i l.starts)) × (l.least ≡ least_after 0 (take l.i l.starts))
