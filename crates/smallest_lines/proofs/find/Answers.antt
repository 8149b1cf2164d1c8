-- `find` meets its contract: what is asked in places and a work buffer of the program's lengths.
use native.Mathlib.Omega.{arith}
use mathlib.Core.Path.{sym}
use mathlib.Core.List.{List}
use Prim.Native.Nat.{ℕ, ◌≤◌}
use lib.ListN.{length, replicate, length-replicate}
use Rattle.deterministic.specs.Sizes.{work_length}
use Rattle.explaining.proofs.Answers.{said_of}
use Rattle.smallest_lines.proofs.find.Goals as goal

-- Apart from the arrays that the answers have in reach: they are long, and are not to be computed.
long_enough : (n : ℕ) → n ≤ length {A = ℕ} (replicate n 0)
long_enough n = omega (arith, length-replicate {A = ℕ} n 0)

pub slice_bounds-smallest-end-3 : goal.slice_bounds-smallest-end-3
slice_bounds-smallest-end-3 c = sym (length-replicate {A = ℕ} work_length 0)

pub returns : goal.returns
returns c =
    record {
      work = replicate work_length 0;
      enough = long_enough work_length;
      says = said_of c.smallest_answer.ensures c.smallest.ensures.result_value;
      left = c.smallest.ensures.out_after;
    }
