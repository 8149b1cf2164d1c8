-- `zeros` meets its contract: the bytes before i, taken together, are zero exactly if each of them is.
use mathlib.Core.Path.{◌≡◌, refl}
use native.Mathlib.Omega.{arith}
use Rattle.lts.specs.inner.Prepared.{byte_at}
use Rattle.lts.proofs.Laws.Decides.{decided_zero, together, from_more}
use Rattle.table_check.proofs.zeros.Goals as goal

pub loop-i-init : goal.loop-i-init
loop-i-init c =
    ((omega arith, λ l. omega arith), ((λ e k l m. absurd (omega arith)), λ z. refl))

pub loop-i-preserved : goal.loop-i-preserved
loop-i-preserved c =
    let a = c.args in
    let l = c.loop-i in
    let both = together l.all (byte_at a.bytes.now l.i) in (
      (omega arith, λ m. omega arith),
      (
        (λ e. from_more (λ k. byte_at a.bytes.now k ≡ 0) a.from l.i (l.invariant.1.0 (both.0 e).0) (both.0 e).1),
        λ z. both.1 (l.invariant.1.1 (λ k f m. z k f (omega arith))) (z l.i l.invariant.0.0 (omega arith)),
      ),
    )

pub returns : goal.returns
returns c =
    let l = c.loop-i in
    decided_zero l.all (λ e k f m. l.invariant.1.0 e k f (omega arith)) (λ z. l.invariant.1.1 (λ k f m. let h = l.invariant.0.1 (omega arith) in z k f (omega arith)))
