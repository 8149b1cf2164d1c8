-- `frontiers::next_bit` meets its contract: the zeros below the first bit of what is left after a shift.
use Prim.Native.Nat.{◌/◌, ◌^◌}
use native.Mathlib.Omega.{arith}
use mathlib.Core.Path.{refl}
use lib.Count.{trailing_le}
use Rattle.frontier.proofs.Laws.Bits.{first_bit}
use borrow.Author.Rules.{rules}
use Rattle.word_reading.proofs.frontiers.next_bit.Goals as goal

pub overflow_add-result : goal.overflow_add-result
overflow_add-result c =
    omega (arith, trailing_le 64 (c.args.mask / 2 ^ c.args.k))

pub returns : goal.returns
returns c =
    first_bit c.args.mask c.args.k _ refl
