-- A table in range has exactly one text, and reading that text gives the table: `read-of-text` and `text-of-read`.
use mathlib.Core.Path.{◌≡◌, sym, ap, ap₂, ◌∙◌, subst}
use mathlib.Core.Bool.{true}
use mathlib.Core.List.{List, [], ◌++◌, Memᴰ}
use Prim.Native.Nat.{ℕ}
use native.Mathlib.Omega.{arith}
use lib.ListN.{length}
use Rattle.columns.proofs.Laws.Bytes.{same_of}
use Rattle.lts.specs.Reply.{accepted, unless}
use Rattle.lts.specs.Steps.{Step, Table, labels}
use Rattle.lts.specs.inner.Range.{Below, Differ, InRange}
use Rattle.lts.specs.Text.{ended, header_line}
use Rattle.lts.specs.TableText.{label_lines, transition_lines, table_text}
use Rattle.lts.specs.Reading.{Line, line, first_line, on_line, Header, header_of, header_laid_out, header_in_range, read_table, read_table_with, step_in_range}
use Rattle.lts.specs.inner.Reading.{read_labels}
use Rattle.lts.proofs.Laws.Tests.{CountsInRange, counts_of, counts-to, step_range_of, step_range_to, above_of, above-to, used-of, used-to}
use Rattle.lts.proofs.Laws.Grown.{grown-of, grown-to}
use Rattle.lts.proofs.Laws.Lines.{first-line-of, first-line-to, header_of_lem, header-laid_out, header_unbroken}
use Rattle.lts.proofs.Laws.Reading.{Named, Added, table_of, unless-to, unless-of, on-line-of, transitions-read, TransitionsRead, transitions_were_read}
use Rattle.lts.proofs.Laws.ReadingLabels.{labels-read, LabelsRead, labels_were_read}

-- What line 1 says of a table.
abbrev pub header_in : Table → Header
header_in t = record { states = t.states; labels = labels t; transitions = length t.transitions; start = t.start }

pub named-to : (t : Table) → InRange t → Named [] t.names
named-to t r = grown-to _ _ Differ (λ l n d u. used-of l n u) used-to [] t.names r.named r.names_differ

pub added-to : (t : Table) → InRange t → Added (header_in t) [] t.transitions
added-to t r = grown-to _ _ Below above_of above-to [] t.transitions in_range r.steps_rise
  where
    in_range : (st : Step) → Memᴰ st t.transitions → step_in_range (header_in t) st ≡ true
    in_range st m = let k = r.steps_in_range st m in step_range_to (header_in t) st k.leaves k.labelled k.enters

pub counts_in : (t : Table) → InRange t → CountsInRange (header_in t)
counts_in t r = record {
  some_state = r.some_state;
  few_states = r.few_states;
  few_labels = r.few_labels;
  few_transitions = r.few_transitions;
  starts = r.starts;
}

-- A table that reading puts together is in range.
pub range_of : (h : Header) (names : List (List ℕ)) (steps : List Step) → CountsInRange h → length names ≡ h.labels → length steps ≡ h.transitions
    → Named [] names → Added h [] steps → InRange (table_of h names steps)
range_of h names steps c p q n a =
    let u = grown-of _ _ Differ (λ l x d e. used-of l x e) used-to [] names tt n in
    let v = grown-of _ _ Below above_of above-to [] steps tt a in
    record {
      some_state = c.some_state;
      few_states = c.few_states;
      few_labels = omega (arith, c.few_labels);
      few_transitions = omega (arith, c.few_transitions);
      starts = c.starts;
      named = u.0;
      names_differ = u.1;
      steps_in_range = λ st m. let k = step_range_of h st (v.0 st m) in record { leaves = k.0; labelled = omega arith; enters = k.2 };
      steps_rise = v.1;
    }

pub read-of-text : (t : Table) → InRange t → read_table (table_text t) ≡ accepted t
unfolding read_table_with table_text
read-of-text t r =
    let h : Header = header_in t in
    let first : List ℕ = header_line t.states (labels t) (length t.transitions) t.start in
    let rest : List ℕ = label_lines 1 t.names ++ transition_lines t.transitions in
    let same : header_of first ≡ h = header_of_lem t.states (labels t) (length t.transitions) t.start
    (omega (arith, r.few_states)) (omega (arith, r.few_labels)) (omega (arith, r.few_transitions)) (omega (arith, r.few_states, r.starts)) in
    ap (λ (f : Line). on_line 1 f (λ l m. unless (header_laid_out (header_of l) l) 1 1 (unless (header_in_range (header_of l)) 2 1 (read_labels (header_of l) (header_of l).labels [] m))))
    (first-line-to first rest (header_unbroken t.states (labels t) (length t.transitions) t.start))
    ∙ (unless-to (header_laid_out (header_of first) first) 1 1 _ (header-laid_out t.states (labels t) (length t.transitions) t.start
    (omega (arith, r.few_states)) (omega (arith, r.few_labels)) (omega (arith, r.few_transitions)) (omega (arith, r.few_states, r.starts)))
    ∙ (unless-to (header_in_range (header_of first)) 2 1 _ (ap header_in_range same ∙ counts-to h (counts_in t r))
    ∙ (ap (λ (k : Header). read_labels k k.labels [] rest) same
    ∙ (labels-read h [] t.names (transition_lines t.transitions) (omega (arith, r.few_labels)) (named-to t r)
    ∙ transitions-read h (counts_in t r) t.names [] t.transitions (added-to t r)))))

pub text-of-read : (text : List ℕ) (t : Table) → read_table text ≡ accepted t → (text ≡ table_text t) × InRange t
unfolding read_table_with table_text
text-of-read text t e =
    let (l, rest, first, d) = on-line-of 1 (first_line text) _ t e in
    let p = unless-of (header_laid_out (header_of l) l) 1 1 _ t d in
    let q = unless-of (header_in_range (header_of l)) 2 1 _ t p.1 in
    let k = labels_were_read (header_of l) (header_of l).labels [] rest t q.1 in
    let s = transitions_were_read (header_of l) k.more (header_of l).transitions [] k.rest t k.goes_on in
    join l rest first p.0 (counts_of (header_of l) q.0) k s
  where
    join : (l rest : List ℕ) → first_line text ≡ line l rest → header_laid_out (header_of l) l ≡ true → CountsInRange (header_of l)
        → (k : LabelsRead (header_of l) (header_of l).labels [] rest t)
        → TransitionsRead (header_of l) k.more (header_of l).transitions [] k.rest t → (text ≡ table_text t) × InRange t
    join l rest first laid c k s =
        let h : Header = header_of l in
        let line-is : l ≡ header_line h.states (length k.more) (length s.more) h.start
        = same_of l _ laid ∙ ap₂ (λ (a b : ℕ). header_line h.states a b h.start) (sym k.count) (sym s.count) in
        let text-is : text ≡ table_text (table_of h k.more s.more)
        = first-line-of text l rest first ∙ ap₂ (λ (a b : List ℕ). ended a ++ b) line-is (k.text-is ∙ ap (λ (m : List ℕ). label_lines 1 k.more ++ m) s.text-is) in
        subst (λ (u : Table). (text ≡ table_text u) × InRange u) (sym s.table)
        (text-is, range_of h k.more s.more c k.count s.count k.named s.added)
