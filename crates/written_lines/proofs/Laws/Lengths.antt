-- How long a table's text is: `text-length` exactly, `text-fits` at most.
use mathlib.Core.Path.{◌≡◌, refl, ◌∙◌}
use mathlib.Core.Bool.{true}
use mathlib.Core.List.{List, [], ◌∷◌, ◌++◌, Memᴰ}
use Prim.Native.Nat.{ℕ, suc, ◌+◌, ◌*◌, ◌≤◌, ◌<◌}
use native.Mathlib.Omega.{arith}
use lib.ListN.{length, length-append}
use Rattle.columns.specs.Columns.{column}
use Rattle.columns.proofs.Laws.Columns.{column-length}
use Rattle.lts.specs.Sizes.{longest_table_text}
use Rattle.lts.specs.Names.{is_name}
use Rattle.lts.specs.Steps.{Step, Table, labels}
use Rattle.lts.specs.Text.{ended, header_line, label_line, transition_line}
use Rattle.lts.specs.TableText.{label_lines, transition_lines, table_text}
use Rattle.lts.specs.inner.Range.{InRange}
use Rattle.lts.proofs.Laws.NameRuns.{name-short}
use Rattle.lts.proofs.Laws.Slots.{slots_length_lem}

-- Each line, with its LF.
pub header-length : (s l t i : ℕ) → s < 1000000 → l < 1000000 → t < 1000000 → i < 1000000 → length (ended (header_line s l t i)) ≡ 25
header-length s l t i hs hl ht hi =
    length-append (header_line s l t i) (10 ∷ []) ∙ omega (
      arith,
      length-append (column s) (column l ++ (column t ++ column i)),
      length-append (column l) (column t ++ column i),
      length-append (column t) (column i),
      column-length s hs,
      column-length l hl,
      column-length t ht,
      column-length i hi,
    )

pub label-length : (k : ℕ) (name : List ℕ) → k < 1000000 → length (ended (label_line k name)) ≡ 8 + length name
label-length k name h =
    length-append (label_line k name) (10 ∷ []) ∙ omega (arith, length-append (column k) (32 ∷ name), column-length k h)

pub step-length : (st : Step) → st.from < 1000000 → st.label < 1000000 → st.to < 1000000 → length (ended (transition_line st)) ≡ 19
step-length st f l t =
    length-append (transition_line st) (10 ∷ []) ∙ omega (
      arith,
      length-append (column st.from) (column st.label ++ column st.to),
      length-append (column st.label) (column st.to),
      column-length st.from f,
      column-length st.label l,
      column-length st.to t,
    )

-- The bytes of the labels' lines: eight for each, and those of its name.
abbrev pub label_bytes : List (List ℕ) → ℕ
label_bytes [] = 0
label_bytes (n ∷ names) = (8 + length n) + label_bytes names

labels_length : (k : ℕ) (names : List (List ℕ)) → k + length names < 1000000 → length (label_lines k names) ≡ label_bytes names
labels_length k [] h = refl
labels_length k (n ∷ names) h =
    length-append (ended (label_line k n)) (label_lines (suc k) names)
    ∙ omega (arith, label-length k n (omega arith), labels_length (suc k) names (omega arith))

labels-short : (names : List (List ℕ)) → ((n : List ℕ) → Memᴰ n names → is_name n ≡ true) → label_bytes names ≤ length names * 21
labels-short [] h = omega arith
labels-short (n ∷ names) h = omega (arith, (name-short n (h n (Memᴰ.head refl))).1, labels-short names (λ m d. h m (Memᴰ.tail d)))

module _ (t : Table) (r : InRange t) where
  pub step-wide : (st : Step) → Memᴰ st t.transitions → length (ended (transition_line st)) ≡ 19
  step-wide st m =
      let k = r.steps_in_range st m in
      step-length st (omega (arith, k.leaves, r.few_states)) (omega (arith, k.labelled, r.few_labels)) (omega (arith, k.enters, r.few_states))

  pub steps-length : length (transition_lines t.transitions) ≡ length t.transitions * 19
  steps-length = slots_length_lem (λ st. ended (transition_line st)) 19 t.transitions step-wide

  pub first-length : length (ended (header_line t.states (labels t) (length t.transitions) t.start)) ≡ 25
  first-length =
      header-length t.states (labels t) (length t.transitions) t.start
      (omega (arith, r.few_states)) (omega (arith, r.few_labels)) (omega (arith, r.few_transitions)) (omega (arith, r.few_states, r.starts))

  pub text-length : length (table_text t) ≡ 25 + label_bytes t.names + length t.transitions * 19
  unfolding table_text
  text-length =
      let first = ended (header_line t.states (labels t) (length t.transitions) t.start) in
      length-append first (label_lines 1 t.names ++ transition_lines t.transitions)
      ∙ omega (
        arith,
        length-append (label_lines 1 t.names) (transition_lines t.transitions),
        first-length,
        labels_length 1 t.names (omega (arith, r.few_labels)),
        steps-length,
      )

  pub text-fits : length (table_text t) ≤ longest_table_text
  text-fits = omega (arith, text-length, labels-short t.names r.named, r.few_labels, r.few_transitions)
