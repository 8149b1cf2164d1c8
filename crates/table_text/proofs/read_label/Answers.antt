-- `read_label` says what one more line of a label makes of the reading, and keeps its name.
use mathlib.Core.Path.{◌≡◌, refl, sym, ap, ap₂, ◌∙◌}
use mathlib.Core.Bool.{Bool, true, false}
use mathlib.Core.List.{List}
use Prim.Native.Nat.{ℕ, ◌+◌, ◌-◌, ◌*◌}
use lib.ListN.{length, take, drop}
use native.Mathlib.Omega.{arith}
use Rattle.lts.specs.Sizes.{name_slot_length}
use Rattle.table_text.proofs.Laws.Progress.{label-refused, label_out_of_order, label-repeated, label-accepted}
use Rattle.lts.proofs.Laws.SlotBytes.{name-written, used_stored}
use Rattle.lts.proofs.Laws.NameRuns.{name-short}
use Rattle.lts.proofs.Booleans.{and-true-of}
use Rattle.lts.specs.Lists.{every}
use Rattle.lts.specs.inner.Slots.{counted, name_bytes}
use Rattle.lts.specs.inner.Lines.{Labelled}
use Rattle.lts.specs.Reading.{used}
use Rattle.lts.specs.Text.{label_line}
use Rattle.lts.specs.Names.{is_name}
use Rattle.tables.specs.inner.Access.{found_in}
use Rattle.lts.specs.inner.Answers.{is_some}
use Rattle.columns.specs.Columns.{value_at}
use Rattle.columns.specs.inner.Write.{pasted}
use Rattle.columns.specs.Bytes.{same_bytes}
use Rattle.std.specs.Prelude.{Option, Some, None}
use Rattle.std.specs.Option as std
use Rattle.table_text.proofs.read_label.Goals as goal

found_or_not : (r : Option ℕ) → std.is_some r ≡ is_some (found_in r)
found_or_not (Some k) = refl
found_or_not None = refl

pub returns-in_default : goal.returns-in_default
returns-in_default c =
    let s = c.args.text.now in
    let at = c.args.at in
    λ h left names e f g. label-refused h s at left names _ (omega arith)
    c.in_default.ensures

pub returns-then-number-count : goal.returns-then-number-count
returns-then-number-count c =
    let end = c.in-Some.field-0.end in
    let line : Labelled c.args.text.now c.args.at c.in-Some.field-0.number end = c.in-Some.ensures in
    let a = c.args in
    let l = line in
    λ h left names e f g.
    label_out_of_order h a.text.now a.at left names (end + 1) l.bytes l.lies _ (omega arith)
    (λ z. c.if-number-count.true (omega (arith, l.numbered)))

pub returns-then-is_some : goal.returns-then-is_some
returns-then-is_some c =
    let end = c.in-Some.field-0.end in
    let line : Labelled c.args.text.now c.args.at c.in-Some.field-0.number end = c.in-Some.ensures in
    let used-before : (t : Bool) → is_some (found_in c.find-before.result) ≡ t → (names : List (List ℕ)) → length names ≡ c.args.count
    → every is_name names ≡ true → c.args.names.now ≡ name_bytes names → used names (drop 7 (line).bytes) ≡ t = λ t h names e f g. let a = c.args in
    let name = take (end - (a.at + 7)) (drop (a.at + 7) a.text.now) in
    ap (used names) (line).name ∙ sym (used_stored a.names.now a.count names name e f g) ∙ sym (ap is_some c.find-before.ensures) ∙ h in
    let a = c.args in
    let l = line in
    λ h left names e f g.
    label-repeated h a.text.now a.at left names (end + 1) l.bytes l.lies _ (omega arith) (omega (arith, l.numbered, c.if-number-count.false))
    (used-before true (sym (found_or_not c.find-before.result) ∙ sym c.is_some.ensures ∙ c.if-is_some.true) names e f g)

pub returns : goal.returns
returns c =
    let end = c.in-Some.field-0.end in
    let line : Labelled c.args.text.now c.args.at c.in-Some.field-0.number end = c.in-Some.ensures in
    let used-before : (t : Bool) → is_some (found_in c.find-before.result) ≡ t → (names : List (List ℕ)) → length names ≡ c.args.count
    → every is_name names ≡ true → c.args.names.now ≡ name_bytes names → used names (drop 7 (line).bytes) ≡ t = λ t h names e f g. let a = c.args in
    let name = take (end - (a.at + 7)) (drop (a.at + 7) a.text.now) in
    ap (used names) (line).name ∙ sym (used_stored a.names.now a.count names name e f g) ∙ sym (ap is_some c.find-before.ensures) ∙ h in
    let count = c.args.count in
    let l = line in
    let bytes = l.bytes in
    let named = (and-true-of (same_bytes bytes (label_line (value_at 0 bytes) (drop 7 bytes))) (is_name (drop 7 bytes)) l.lies.laid_out).1 in
    let unused = used-before false (sym (found_or_not c.find-before.result) ∙ sym c.is_some.ensures ∙ c.if-is_some.false) in
    λ h left names e f g. record {
      name = drop 7 bytes;
      is_name = named;
      within = l.lies.within;
      reads = label-accepted h c.args.text.now c.args.at left names (end + 1) bytes l.lies
          (omega (arith, l.numbered, c.if-number-count.false)) (unused names e f g);
      kept = c.write_name.ensures ∙ ap₂ (λ x y. pasted x (count * name_slot_length) (counted y)) g (sym l.name)
          ∙ name-written names (drop 7 bytes) count e c.requires.1.1 f (name-short (drop 7 bytes) named).1;
    }
