-- `digits_of` tells how many digits there are: one, two or three.
use native.Mathlib.Omega.{arith}
use Rattle.columns.proofs.Laws.SmallRead.{one_digit, two_digits, three_digits}
use Rattle.columns.proofs.small.digits_of.Goals as goal

pub returns-then-four-lt538980656 : goal.returns-then-four-lt538980656
returns-then-four-lt538980656 c =
    one_digit c.args.four c.requires

pub returns-then-four-lt540094512 : goal.returns-then-four-lt540094512
returns-then-four-lt540094512 c =
    two_digits c.args.four (omega arith)

pub returns-else-four-lt540094512 : goal.returns-else-four-lt540094512
returns-else-four-lt540094512 c =
    three_digits c.args.four (omega arith)
