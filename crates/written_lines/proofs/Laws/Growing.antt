-- The lines that stand in the buffer while they are written: one more of the labels', one more of the transitions', and all of them.
use mathlib.Core.Path.{◌≡◌, sym, ap, ◌∙◌, subst}
use mathlib.Core.List.{List, [], ◌++◌, append_assoc}
use Prim.Native.Nat.{ℕ, suc, ◌+◌, ◌*◌, ◌≤◌, ◌<◌}
use native.Mathlib.Numerals.{add-one}
use native.Mathlib.Omega.{arith}
use lib.ListN.{length, get_or, take}
use lib.Seq.{take_all}
use Rattle.columns.specs.inner.Write.{pasted}
use Rattle.columns.proofs.Laws.Pasting.{Pasting, pasting_none, pasting_more}
use Rattle.lts.specs.Steps.{labels}
use Rattle.lts.specs.Sizes.{longest_table_text}
use Rattle.lts.specs.Text.{ended, label_line, transition_line}
use Rattle.lts.specs.TableText.{label_lines, transition_lines, table_text}
use Rattle.lts.specs.inner.Prepared.{table_in, name_at, transition_at}
use Rattle.lts.specs.inner.HoldsTable.{HoldsTable}
use Rattle.lts.proofs.Lists.{get_d_mem}
use Rattle.lts.proofs.Laws.Contents.{name_in_lem, transition_in}
use Rattle.written_lines.specs.inner.Lines.{Stands, first_line_of, label_width}
use Rattle.written_lines.proofs.Laws.Lengths.{step-wide, steps-length, first-length}
use Rattle.written_lines.proofs.Laws.Lines.{labels-more, steps-more}

-- The table b, the buffer e before, and where the lines begin.
module _ (b e : List ℕ) (at : ℕ) where
  -- The lines of the first k labels; of the first k transitions.
  abbrev pub LabelsBelow : ℕ → List ℕ → ℕ → Type 0
  LabelsBelow k x end = Pasting e at (label_lines 1 (take k (table_in b).names)) x end

  abbrev pub StepsBelow : ℕ → List ℕ → ℕ → Type 0
  StepsBelow k x end = Pasting e at (transition_lines (take k (table_in b).transitions)) x end

  module _ (k : ℕ) (x : List ℕ) (end : ℕ) where
    pub label-on : LabelsBelow k x end → k < labels (table_in b) → (y : List ℕ) (next : ℕ) → Stands (ended (label_line (suc k) (name_at b k))) end x y next
        → next ≤ length e → LabelsBelow (k + 1) y next
    label-on p few y next s room =
        let number : suc k ≡ 1 + k = omega arith in
        let line = ended (label_line (suc k) (name_at b k)) in
        subst (λ l. Pasting e at l y next)
        (ap (λ m. label_lines 1 (take k (table_in b).names) ++ ended (label_line m (name_at b k))) number
        ∙ labels-more 1 (table_in b).names k (name_at b k) few (name_in_lem b k [] few)
        ∙ ap (λ m. label_lines 1 (take m (table_in b).names)) (sym (add-one k)))
        (pasting_more p line y next s.is s.ends room)

    pub labels-all : LabelsBelow k x end → k ≡ labels (table_in b) → Stands (label_lines 1 (table_in b).names) at e x end
    labels-all p all =
        let whole = ap (label_lines 1) (take_all k (table_in b).names (omega arith)) in
        record { is = p.is ∙ ap (pasted e at) whole; ends = p.ends ∙ ap (λ l. at + length l) whole }

    module _ (h : HoldsTable b) where
      slot-wide : k < length (table_in b).transitions → length (ended (transition_line (transition_at b k))) ≡ 19
      slot-wide few =
          let st = get_or (table_in b).transitions k (transition_at b k) in
          ap (λ s. length (ended (transition_line s))) (sym (transition_in b k (transition_at b k) few))
          ∙ step-wide (table_in b) h.in_range st (get_d_mem (table_in b).transitions k (transition_at b k) few)

      pub step-on : StepsBelow k x end → k < length (table_in b).transitions → (y : List ℕ) → y ≡ pasted x end (ended (transition_line (transition_at b k)))
          → end + 19 ≤ length e → StepsBelow (k + 1) y (end + 19)
      step-on p few y is room =
          let line = ended (transition_line (transition_at b k)) in
          subst (λ l. Pasting e at l y (end + 19))
          (steps-more (table_in b).transitions k (transition_at b k) (transition_at b k) few (transition_in b k (transition_at b k) few)
          ∙ ap (λ m. transition_lines (take m (table_in b).transitions)) (sym (add-one k)))
          (pasting_more p line y (end + 19) is (omega (arith, slot-wide few)) room)

    pub steps_all : StepsBelow k x end → k ≡ length (table_in b).transitions → Stands (transition_lines (table_in b).transitions) at e x end
    steps_all p all =
        let whole = ap transition_lines (take_all k (table_in b).transitions (omega arith)) in
        record { is = p.is ∙ ap (pasted e at) whole; ends = p.ends ∙ ap (λ l. at + length l) whole }

-- Line 1, the labels' lines and the transitions', one behind the other.
pub text-stands : (b e : List ℕ) → HoldsTable b → longest_table_text ≤ length e → (x y z : List ℕ) (end last : ℕ) → x ≡ pasted e 0 (first_line_of (table_in b))
    → Stands (label_lines 1 (table_in b).names) 25 x y end → end ≤ 25 + labels (table_in b) * label_width → Stands (transition_lines (table_in b).transitions) end y z last
    → Stands (table_text (table_in b)) 0 e z last
unfolding table_text
text-stands b e h room x y z end last px s short u =
    let t = table_in b in
    let r = h.in_range in
    let first = pasting_more (pasting_none e 0 (omega arith)) (first_line_of t) x 25 px (omega (arith, first-length t r)) (omega arith) in
    let second = pasting_more first (label_lines 1 t.names) y end s.is s.ends (omega (arith, short, r.few_labels)) in
    let third = pasting_more second (transition_lines t.transitions) z last u.is u.ends
    (omega (arith, u.ends, steps-length t r, short, r.few_labels, r.few_transitions)) in
    let whole = append_assoc (first_line_of t) (label_lines 1 t.names) (transition_lines t.transitions) in
    record { is = third.is ∙ ap (pasted e 0) whole; ends = third.ends ∙ ap (λ l. 0 + length l) whole }
