-- Laws of the three kinds of lines: what the columns and bytes at a place say of the line there, and the line of them.
use mathlib.Core.Path.{◌≡◌, refl, sym, ap, ◌∙◌}
use mathlib.Core.List.{List, [], ◌∷◌, ◌++◌, append_assoc, append-nil}
use Prim.Native.Nat.{ℕ, ◌+◌, ◌<◌}
use native.Mathlib.Omega.{arith}
use lib.ListN.{get_or, take, drop}
use lib.Seq.{drop-drop, take_at, take_all, drop-append-add}
use Rattle.columns.specs.Columns.{column, value_from, value_at}
use Rattle.columns.proofs.Laws.Compared.{Each, each_append, each_weaken}
use Rattle.columns.proofs.Laws.ColumnsRead.{Figure, ColumnAt, column-figures, column-length, value-column}
use Rattle.lts.specs.Steps.{Step}
use Rattle.lts.specs.Text.{header_line, transition_line}
use Rattle.lts.specs.Reading.{Header, first_line, header_of, header_laid_out, step_of, step_laid_out}
use Rattle.lts.specs.inner.Lines.{LineAt, NoLineAt}
use Rattle.lts.proofs.Laws.LinesRead.{NoEnd, line-here, line_parts, column-front, column_back, byte-within, byte-front, byte_back, column_peeled}
use Rattle.columns.proofs.Laws.Bytes.{same_of, same-to}
use Rattle.lts.proofs.Booleans.{is_false}

pub no_end : (v : ℕ) → Each NoEnd (column v)
no_end v = each_weaken Figure NoEnd (λ b h e. omega arith) (column v) (column-figures v)

-- The numbers of a line of columns.
module _ (v : ℕ) (k : v < 1000000) where
  pub value-first : (m : List ℕ) → value_at 0 (column v ++ m) ≡ v
  value-first m = ap (value_from 0) (take_at (column v) m 6 (column-length v k)) ∙ value-column v

  value-only : value_at 0 (column v) ≡ v
  value-only = ap (value_from 0) (take_all 6 (column v) (omega (arith, column-length v k))) ∙ value-column v

  pub drop-later : (m : List ℕ) (i : ℕ) → drop (6 + i) (column v ++ m) ≡ drop i m
  drop-later m i = ap (λ n. drop (n + i) (column v ++ m)) (sym (column-length v k)) ∙ drop-append-add (column v) m i

  value-later : (m : List ℕ) (i : ℕ) → value_at (6 + i) (column v ++ m) ≡ value_at i m
  value-later m i = ap (λ l. value_from 0 (take 6 l)) (drop-later m i)

-- Transitions.
module _ (s : List ℕ) (at : ℕ) where
  module _ (t : Step) (a : ColumnAt s at t.from) (b : ColumnAt s (at + 6) t.label) (c : ColumnAt s (at + 12) t.to) (e : get_or s (at + 18) 256 ≡ 10) where
    transition_text : drop at s ≡ transition_line t ++ (10 ∷ drop (at + 19) s)
    transition_text =
        column-front s at (at + 6) t.from refl a
        ∙ ap (λ x. column t.from ++ x) (column-front s (at + 6) (at + 12) t.label (omega arith) b
        ∙ ap (λ x. column t.label ++ x) (column-front s (at + 12) (at + 18) t.to (omega arith) c
        ∙ ap (λ x. column t.to ++ x) (byte-front s (at + 18) (at + 19) 10 (omega arith) (omega arith) e)))
        ∙ simp append_assoc

    transition_values : step_of (transition_line t) ≡ t
    transition_values =
        let from : value_at 0 (transition_line t) ≡ t.from = value-first t.from a.small (column t.label ++ column t.to) in
        let label : value_at 6 (transition_line t) ≡ t.label = value-later t.from a.small (column t.label ++ column t.to) 0 ∙ value-first t.label b.small (column t.to) in
        let to : value_at 12 (transition_line t) ≡ t.to =
        value-later t.from a.small (column t.label ++ column t.to) 6 ∙ value-later t.label b.small (column t.to) 0 ∙ value-only t.to c.small in
        λ i. record { from = from i; label = label i; to = to i }

    pub transition_lies : (l : List ℕ) × LineAt step_laid_out s at (at + 19) l × (step_of l ≡ t)
    transition_lies = (
      transition_line t,
      record {
        is_line = ap first_line transition_text ∙ line-here (transition_line t) (drop (at + 19) s)
            (each_append NoEnd (column t.from) (column t.label ++ column t.to) (no_end t.from)
            (each_append NoEnd (column t.label) (column t.to) (no_end t.label) (no_end t.to)));
        laid_out = same-to (transition_line t) (transition_line (step_of (transition_line t))) (ap transition_line (sym transition_values));
        within = omega (arith, byte-within s (at + 18) 10 (omega arith) e);
      },
      transition_values,
    )

  pub no_transition : ((a b c : ℕ) → take 6 (drop at s) ≡ column a → take 6 (drop (at + 6) s) ≡ column b → take 6 (drop (at + 12) s) ≡ column c → get_or s (at + 18) 256 ≡ 10 → ⊥)
      → NoLineAt step_laid_out s at
  no_transition h l rest e = is_false (step_laid_out l) (λ d.
      let laid = same_of l (transition_line (step_of l)) d in
      let first = column_peeled l (column (value_at 6 l) ++ column (value_at 12 l)) laid in
      let second = column_peeled (drop 6 l) (column (value_at 12 l)) first.1 in
      let third = column_peeled (drop 12 l) [] (sym (drop-drop 6 6 l) ∙ second.1 ∙ sym (append-nil (column (value_at 12 l)))) in
      let text : drop at s ≡ column (value_at 0 l) ++ (column (value_at 6 l) ++ (column (value_at 12 l) ++ (10 ∷ rest))) =
      line_parts (drop at s) l rest e ∙ ap (λ x. x ++ (10 ∷ rest)) laid ∙ simp append_assoc in
      let one = column_back s at (at + 6) (value_at 0 l) _ refl first.0 text in
      let two = column_back s (at + 6) (at + 12) (value_at 6 l) _ (omega arith) second.0 one.1 in
      let three = column_back s (at + 12) (at + 18) (value_at 12 l) _ (omega arith) third.0 two.1 in
      h (value_at 0 l) (value_at 6 l) (value_at 12 l) one.0 two.0 three.0 (byte_back s (at + 18) (at + 19) 10 rest (omega arith) three.1).0)

-- The header.
module _ (s : List ℕ) where
  module _ (h : Header) (a : ColumnAt s 0 h.states) (b : ColumnAt s 6 h.labels) (c : ColumnAt s 12 h.transitions) (d : ColumnAt s 18 h.start) (e : get_or s 24 256 ≡ 10) where
    abbrev header-line : List ℕ
    header-line = header_line h.states h.labels h.transitions h.start

    header-text : drop 0 s ≡ header-line ++ (10 ∷ drop 25 s)
    header-text =
        column-front s 0 6 h.states refl a
        ∙ ap (λ x. column h.states ++ x) (column-front s 6 12 h.labels refl b
        ∙ ap (λ x. column h.labels ++ x) (column-front s 12 18 h.transitions refl c
        ∙ ap (λ x. column h.transitions ++ x) (column-front s 18 24 h.start refl d
        ∙ ap (λ x. column h.start ++ x) (byte-front s 24 25 10 refl (omega arith) e))))
        ∙ simp append_assoc

    header_values : header_of header-line ≡ h
    header_values =
        let three : List ℕ = column h.labels ++ (column h.transitions ++ column h.start) in
        let two : List ℕ = column h.transitions ++ column h.start in
        let states : value_at 0 header-line ≡ h.states = value-first h.states a.small three in
        let labels : value_at 6 header-line ≡ h.labels = value-later h.states a.small three 0 ∙ value-first h.labels b.small two in
        let transitions : value_at 12 header-line ≡ h.transitions =
        value-later h.states a.small three 6 ∙ value-later h.labels b.small two 0 ∙ value-first h.transitions c.small (column h.start) in
        let start : value_at 18 header-line ≡ h.start =
        value-later h.states a.small three 12 ∙ value-later h.labels b.small two 6 ∙ value-later h.transitions c.small (column h.start) 0 ∙ value-only h.start d.small in
        λ i. record { states = states i; labels = labels i; transitions = transitions i; start = start i }

    pub header-lies : (l : List ℕ) × LineAt (λ l. header_laid_out (header_of l) l) s 0 25 l × (header_of l ≡ h)
    header-lies = (
      header-line,
      record {
        is_line = ap first_line header-text ∙ line-here header-line (drop 25 s)
            (each_append NoEnd (column h.states) _ (no_end h.states) (each_append NoEnd (column h.labels) _ (no_end h.labels)
            (each_append NoEnd (column h.transitions) (column h.start) (no_end h.transitions) (no_end h.start))));
        laid_out = same-to header-line _ (ap (λ (g : Header). header_line g.states g.labels g.transitions g.start) (sym header_values));
        within = omega (arith, byte-within s 24 10 (omega arith) e);
      },
      header_values,
    )

  pub no_header : ((a b c d : ℕ) → take 6 (drop 0 s) ≡ column a → take 6 (drop 6 s) ≡ column b → take 6 (drop 12 s) ≡ column c → take 6 (drop 18 s) ≡ column d → get_or s 24 256 ≡ 10 → ⊥)
      → NoLineAt (λ l. header_laid_out (header_of l) l) s 0
  no_header h l rest e = is_false (header_laid_out (header_of l) l) (λ f.
      let laid = same_of l (header_line (value_at 0 l) (value_at 6 l) (value_at 12 l) (value_at 18 l)) f in
      let first = column_peeled l (column (value_at 6 l) ++ (column (value_at 12 l) ++ column (value_at 18 l))) laid in
      let second = column_peeled (drop 6 l) (column (value_at 12 l) ++ column (value_at 18 l)) first.1 in
      let third = column_peeled (drop 12 l) (column (value_at 18 l)) (sym (drop-drop 6 6 l) ∙ second.1) in
      let fourth = column_peeled (drop 18 l) [] (sym (drop-drop 6 12 l) ∙ third.1 ∙ sym (append-nil (column (value_at 18 l)))) in
      let text : drop 0 s ≡ column (value_at 0 l) ++ (column (value_at 6 l) ++ (column (value_at 12 l) ++ (column (value_at 18 l) ++ (10 ∷ rest)))) =
      line_parts (drop 0 s) l rest e ∙ ap (λ x. x ++ (10 ∷ rest)) laid ∙ simp append_assoc in
      let one = column_back s 0 6 (value_at 0 l) _ refl first.0 text in
      let two = column_back s 6 12 (value_at 6 l) _ refl second.0 one.1 in
      let three = column_back s 12 18 (value_at 12 l) _ refl third.0 two.1 in
      let four = column_back s 18 24 (value_at 18 l) _ refl fourth.0 three.1 in
      h (value_at 0 l) (value_at 6 l) (value_at 12 l) (value_at 18 l) one.0 two.0 three.0 four.0 (byte_back s 24 25 10 rest refl four.1).0)
