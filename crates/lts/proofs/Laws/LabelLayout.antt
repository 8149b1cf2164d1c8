-- Laws of a label's line: what the columns and bytes at a place say of the line there, and the line of them.
use mathlib.Core.Path.{◌≡◌, refl, sym, ap, ap₂, ◌∙◌}
use mathlib.Core.Bool.{true}
use mathlib.Core.List.{List, ◌∷◌, ◌++◌, append_assoc}
use Prim.Native.Nat.{ℕ, ◌+◌, ◌-◌, ◌<◌}
use native.Mathlib.Omega.{arith}
use lib.ListN.{length, get_or, take, drop, take-append-drop}
use lib.Seq.{drop_at, length-take-le}
use Rattle.columns.specs.Bytes.{same_bytes}
use Rattle.columns.specs.Columns.{column, value_at}
use Rattle.columns.proofs.Laws.Compared.{each_append, each_weaken}
use Rattle.columns.proofs.Laws.ColumnsRead.{ColumnAt}
use Rattle.lts.specs.Names.{is_name}
use Rattle.lts.specs.inner.NameEnds.{name_length, name_end}
use Rattle.lts.specs.Text.{label_line}
use Rattle.lts.specs.Reading.{first_line}
use Rattle.lts.specs.inner.Reading.{label_laid_out}
use Rattle.lts.specs.inner.Lines.{NoLineAt, Labelled}
use Rattle.lts.proofs.Booleans.{and-true-of, and-true-to, is_false}
use Rattle.lts.proofs.Laws.LinesRead.{NoEnd, line-here, line_parts, drop_further, column-front, column_back, byte-within, byte-front, byte_back, column_peeled}
use Rattle.lts.proofs.Laws.NameRuns.{High, name-high, name-short, run-is-name, name-is-run}
use Rattle.lts.proofs.Laws.Layout.{no_end, value-first, drop-later}
use Rattle.columns.proofs.Laws.Bytes.{same_of, same-to}

module _ (s : List ℕ) (at : ℕ) where
  module _ (number end : ℕ) (a : ColumnAt s at number) (blank : get_or s (at + 6) 256 ≡ 32)
      (stop : end ≡ name_end s (at + 7)) (some : end ≡ at + 7 → ⊥) (e : get_or s end 256 ≡ 10) where
    abbrev n : ℕ
    n = name_length (drop (at + 7) s)

    some_byte : 0 < n
    some_byte = omega (arith, stop, some)

    abbrev name : List ℕ
    name = take n (drop (at + 7) s)

    named : is_name name ≡ true
    named = (run-is-name (drop (at + 7) s) some_byte).1

    abbrev label-line : List ℕ
    label-line = label_line number name

    label-text : drop at s ≡ label-line ++ (10 ∷ drop (end + 1) s)
    label-text =
        column-front s at (at + 6) number refl a
        ∙ ap (λ x. column number ++ x) (byte-front s (at + 6) (at + 7) 32 (omega arith) (omega arith) blank
        ∙ ap (λ x. 32 ∷ x) (sym (take-append-drop n (drop (at + 7) s))
        ∙ ap (λ x. name ++ x) (drop_further s (at + 7) n end (sym stop) ∙ byte-front s end (end + 1) 10 refl (omega arith) e)))
        ∙ sym (append_assoc (column number) (32 ∷ name) (10 ∷ drop (end + 1) s))

    name-behind : drop 7 label-line ≡ name
    name-behind = drop-later number a.small (32 ∷ name) 1

    number-first : value_at 0 label-line ≡ number
    number-first = value-first number a.small (32 ∷ name)

    pub label-lies : Labelled s at number end
    label-lies = record {
      bytes = label-line;
      lies = record {
        is_line = ap first_line label-text ∙ line-here label-line (drop (end + 1) s)
            (each_append NoEnd (column number) (32 ∷ name) (no_end number) (λ z. omega arith, each_weaken High NoEnd (λ b h z. omega arith) name (name-high name named)));
        laid_out = and-true-to (same_bytes label-line (label_line (value_at 0 label-line) (drop 7 label-line))) (is_name (drop 7 label-line))
            (same-to label-line (label_line (value_at 0 label-line) (drop 7 label-line)) (sym (ap₂ label_line number-first name-behind)))
            (ap is_name name-behind ∙ named);
        within = omega (arith, byte-within s end 10 (omega arith) e);
      };
      numbered = number-first;
      starts = omega arith;
      ends = omega (arith, length-take-le n (drop (at + 7) s) (run-is-name (drop (at + 7) s) some_byte).0, (name-short name named).1);
      name = let long : n ≡ end - (at + 7) = omega arith in name-behind ∙ ap (λ k. take k (drop (at + 7) s)) long;
    }

  pub no_label : ((a : ℕ) (name rest : List ℕ) → take 6 (drop at s) ≡ column a → get_or s (at + 6) 256 ≡ 32 → is_name name ≡ true → drop (at + 7) s ≡ name ++ (10 ∷ rest) → ⊥)
      → NoLineAt label_laid_out s at
  no_label h l rest e = is_false (label_laid_out l) (λ d.
      let both = and-true-of (same_bytes l (label_line (value_at 0 l) (drop 7 l))) (is_name (drop 7 l)) d in
      let laid = same_of l (label_line (value_at 0 l) (drop 7 l)) both.0 in
      let first = column_peeled l (32 ∷ drop 7 l) laid in
      let text : drop at s ≡ column (value_at 0 l) ++ (32 ∷ (drop 7 l ++ (10 ∷ rest))) =
      line_parts (drop at s) l rest e ∙ ap (λ x. x ++ (10 ∷ rest)) laid ∙ append_assoc (column (value_at 0 l)) (32 ∷ drop 7 l) (10 ∷ rest) in
      let one = column_back s at (at + 6) (value_at 0 l) _ refl first.0 text in
      let two = byte_back s (at + 6) (at + 7) 32 (drop 7 l ++ (10 ∷ rest)) (omega arith) one.1 in
      h (value_at 0 l) (drop 7 l) rest one.0 two.0 both.1 two.1)

  -- Where a name with an LF behind it ends.
  pub end-of-name : (name rest : List ℕ) → is_name name ≡ true → drop (at + 7) s ≡ name ++ (10 ∷ rest) → (end : ℕ) → end ≡ name_end s (at + 7)
      → (end ≡ at + 7 → ⊥) × (get_or s end 256 ≡ 10)
  end-of-name name rest e d end r =
      let n = name_length (drop (at + 7) s) in
      let long : n ≡ length name = ap name_length d ∙ name-is-run 10 rest refl refl name e in
      let behind : drop end s ≡ 10 ∷ rest = sym (drop_further s (at + 7) n end (sym r)) ∙ ap (drop n) d ∙ drop_at name (10 ∷ rest) n (sym long) in
      ((λ z. omega (arith, (name-short name e).0)), (byte_back s end (end + 1) 10 rest refl behind).0)
