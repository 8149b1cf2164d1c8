-- `label_direction` reads the name in its slot.
use mathlib.Core.Path.{◌≡◌, sym, ap, ◌∙◌}
use mathlib.Core.Bool.{true}
use mathlib.Core.List.{[]}
use lib.ListN.{get_or}
use Rattle.lts.specs.Names.{is_name}
use Rattle.lts.specs.Directions.{direction_of}
use Rattle.lts.specs.inner.NameEnds.{name_direction}
use Rattle.lts.specs.inner.Prepared.{table_in, name_at}
use Rattle.lts.proofs.Lists.{get_d_mem}
use Rattle.lts.proofs.Laws.Contents.{name_in_lem}
use Rattle.lts.proofs.Laws.NameDirections.{whole_direction}
use Rattle.label_names.proofs.label_direction.Goals as goal

pub returns : goal.returns
returns c =
    let b = c.args.table.now in
    let k = c.args.k in
    let few = c.requires.1 in
    let here : get_or (table_in b).names k [] ≡ name_at b k = name_in_lem b k [] few in
    let among = get_d_mem (table_in b).names k [] few in
    let named : is_name (name_at b k) ≡ true = ap is_name (sym here) ∙ c.requires.0.in_range.named (get_or (table_in b).names k []) among in
    let part = c.name_span-span.ensures.name in
    c.read_name.ensures.1 ∙ (ap (λ l. name_direction l 0) part ∙ (whole_direction (name_at b k) named ∙ ap direction_of (sym here)))
