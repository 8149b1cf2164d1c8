-- `without_lowest` meets its contract: `m & (m - 1)` has every place of m but the lowest.
use Rattle.bits.proofs.Laws.Lowest.{cleared}
use Rattle.bits.proofs.without_lowest.Goals as goal

pub returns : goal.returns
returns c =
    λ z. cleared 64 c.args.mask z c.ranges.mask.fits
