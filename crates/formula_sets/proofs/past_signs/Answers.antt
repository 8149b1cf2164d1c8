-- `past_signs` goes over `~` and blanks: each turn of its loop takes one `~` with the blanks behind it.
use native.Mathlib.Omega.{arith}
use Rattle.formula_sets.proofs.ReadingSets.{signs_none, signs_more}
use Rattle.formula_sets.proofs.past_signs.Goals as goal

pub loop-e-init : goal.loop-e-init
loop-e-init c = signs_none c.args.text.now c.args.c.at c.requires

pub loop-e-smaller : goal.loop-e-smaller
loop-e-smaller c = let k = c.in-Some.ensures.skipped in omega (arith, k.up, k.within)

pub loop-e-preserved : goal.loop-e-preserved
loop-e-preserved c = signs_more c.loop-e.odd c.loop-e.invariant c.in-Some.ensures
