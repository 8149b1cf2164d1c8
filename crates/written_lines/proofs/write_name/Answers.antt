-- `write_name` leaves a name `pasted`: at most 13 bytes.
use mathlib.Core.Path.{◌≡◌, ap, ◌∙◌}
use Prim.Native.Nat.{◌+◌, ◌-◌, ◌≤◌}
use native.Mathlib.Omega.{arith}
use lib.ListN.{length}
use Rattle.columns.specs.inner.Write.{pasted}
use Rattle.lts.specs.inner.Sizes.{longest_name}
use Rattle.lts.specs.inner.Prepared.{name_at}
use Rattle.written_lines.proofs.Laws.Names.{slot-short, slot-wide}
use Rattle.written_lines.proofs.write_name.Goals as goal

pub write_at-requires : goal.write_at-requires
write_at-requires c =
    let short : length (name_at c.args.table.now c.args.k) ≤ longest_name = slot-short c.requires.0 c.requires.1.0 in
    omega (arith, ap length c.name_span-span.ensures.name, short, c.requires.1.1)

pub returns : goal.returns
returns c =
    let short : length (name_at c.args.table.now c.args.k) ≤ longest_name = slot-short c.requires.0 c.requires.1.0 in
    let a = c.args in
    let stands = c.name_span-span.ensures in
    let wide : c.name_span-span.result.to - c.name_span-span.result.from ≡ length (name_at a.table.now a.k) =
    omega (arith, stands.ends, slot-wide c.requires.0 c.requires.1.0 stands.short) in
    record { stands = record { is = c.write_at.ensures ∙ ap (pasted a.text.now a.at) stands.name; ends = ap (λ n. a.at + n) wide }; upper_bound = omega (arith, wide, short) }
