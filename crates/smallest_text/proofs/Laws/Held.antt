-- What stands in the bytes of an automaton: its counts, marks and edges. The text by the bytes is the automaton's.
use mathlib.Core.Path.{◌≡◌, refl, sym, ap, ◌∙◌}
use mathlib.Core.Bool.{false}
use mathlib.Core.List.{List, [], ◌∷◌, ◌++◌, map, append-nil}
use Prim.Native.Nat.{ℕ, ◌+◌, ◌*◌, ◌≤◌, ◌<◌}
use native.Mathlib.Nat.{add-zero}
use native.Mathlib.Omega.{arith}
use lib.ListN.{length, get_or, take, length-append, length-map, length-take, get_or-append, get_or-map}
use lib.Seq.{get_or-append-add, get_or-take}
use Rattle.columns.specs.Bytes.{low_first}
use Rattle.columns.specs.Lines.{numbers_line}
use Rattle.columns.proofs.Laws.Bytes.{pair_value}
use Rattle.lts.specs.Lists.{bind}
use Rattle.automaton.specs.Bytes.{bit_of}
use Rattle.automaton.proofs.Bytes.{bind-at, no_edge}
use Rattle.automaton.proofs.Inside.{length-bind}
use Rattle.deterministic.specs.Automata.{Automaton, count}
use Rattle.deterministic.specs.Bytes.{step_bytes, automaton_bytes}
use Rattle.deterministic.specs.Sizes.{most_sets, most_letters}
use Rattle.explanations.specs.Printed.{edge_line}
use Rattle.explanations.proofs.Lines.{lines_are}
use Rattle.smallest_text.specs.Text.{state_lines, automaton_text}
use Rattle.smallest_text.specs.inner.Held.{AutomatonIn}
use Rattle.smallest_text.specs.inner.Lines.{pair_at, state_text, step_text, lines_text, smallest_text}
use Rattle.smallest_text.proofs.Laws.Lines.{two-wide}

module _ (d : Automaton) where
  abbrev marks : List ℕ
  marks = map bit_of d.final

  abbrev steps : List ℕ
  steps = bind step_bytes d.edges

  bytes-long : length (automaton_bytes d) ≡ 4 + count d + length d.edges * 3
  unfolding automaton_bytes
  bytes-long = omega (arith, length-append marks steps, length-map d.final bit_of, length-bind step_bytes 3 (λ e. refl) d.edges)

  behind-counts : (k : ℕ) → get_or (automaton_bytes d) (4 + k) 0 ≡ get_or (marks ++ steps) k 0
  unfolding automaton_bytes
  behind-counts k = get_or-append-add (low_first 2 (count d) ++ low_first 2 (length d.edges)) (marks ++ steps) k 0

  mark-byte : (i : ℕ) → i < count d → get_or (automaton_bytes d) (4 + i) 0 ≡ bit_of (get_or d.final i false)
  mark-byte i b = behind-counts i ∙ get_or-append marks steps 0 i (omega (arith, length-map d.final bit_of)) ∙ get_or-map bit_of d.final i false

  step-byte : (j k : ℕ) → j < length d.edges → k < 3 → get_or (automaton_bytes d) (4 + count d + j * 3 + k) 0 ≡ get_or (step_bytes (get_or d.edges j no_edge)) k 0
  step-byte j k b c =
      let place : 4 + count d + j * 3 + k ≡ 4 + (length marks + (j * 3 + k)) = omega (arith, length-map d.final bit_of) in
      ap (λ n. get_or (automaton_bytes d) n 0) place
      ∙ behind-counts (length marks + (j * 3 + k))
      ∙ get_or-append-add marks steps (j * 3 + k) 0
      ∙ ap (λ l. get_or l (j * 3 + k) 0) (sym (append-nil steps))
      ∙ bind-at step_bytes 3 (λ e. refl) d.edges [] no_edge j k b c

module _ {d : Automaton} {bytes : List ℕ} (h : AutomatonIn d bytes) where
  pub held-long : 4 + count d + length d.edges * 3 ≤ length bytes
  held-long =
      let e : length (take (length (automaton_bytes d)) bytes) ≡ length (automaton_bytes d) = ap length h.held in
      omega (arith, bytes-long d, e, length-take (length (automaton_bytes d)) bytes)

  held_at : (k : ℕ) → k < 4 + count d + length d.edges * 3 → get_or bytes k 0 ≡ get_or (automaton_bytes d) k 0
  held_at k b = sym (get_or-take (length (automaton_bytes d)) bytes k 0 (omega (arith, bytes-long d))) ∙ ap (λ l. get_or l k 0) h.held

  states-held : pair_at bytes 0 ≡ count d
  unfolding automaton_bytes
  states-held = (λ i. held_at 0 (omega arith) i + held_at 1 (omega arith) i * 256) ∙ pair_value (count d) (omega (arith, h.few_states))

  edges-held : pair_at bytes 2 ≡ length d.edges
  unfolding automaton_bytes
  edges-held = (λ i. held_at 2 (omega arith) i + held_at 3 (omega arith) i * 256) ∙ pair_value (length d.edges) (omega (arith, h.few_edges))

  marks-text : lines_text (state_text bytes) (count d) ≡ state_lines 0 d.final
  marks-text = lines_are false state_lines (state_text bytes) (λ i b. numbers_line (i ∷ bit_of b ∷ [])) (λ k. refl) (λ k b l. refl) d.final (λ i b.
      ap (λ m. numbers_line (i ∷ m ∷ [])) (held_at (4 + i) (omega arith) ∙ mark-byte d i b))

  steps-text : lines_text (step_text bytes (4 + count d)) (length d.edges) ≡ bind edge_line d.edges
  steps-text = lines_are no_edge (λ k. bind edge_line) (step_text bytes (4 + count d)) (λ k. edge_line) (λ k. refl) (λ k e l. refl) d.edges (λ j b.
      let at = 4 + count d + j * 3 in
      let there : (k : ℕ) → k < 3 → get_or bytes (at + k) 0 ≡ get_or (step_bytes (get_or d.edges j no_edge)) k 0 = λ k c. held_at (at + k) (omega arith) ∙ step-byte d j k b c in
      let first = ap (λ n. get_or bytes n 0) (sym (add-zero at)) ∙ there 0 (omega arith) in
      λ i. numbers_line (first i ∷ there 1 (omega arith) i ∷ there 2 (omega arith) i ∷ []))

-- What is known of the counts that were read: they are small, all marks and edges stand in the bytes, and the first line has 13 bytes.
pub record CountsHeld (bytes : List ℕ) (states edges : ℕ) : Type 0 where
  pub few_states : states ≤ most_sets
  pub few_edges : edges ≤ most_sets * most_letters
  pub stand : 4 + states + edges * 3 ≤ length bytes
  pub head : length (numbers_line (states ∷ edges ∷ [])) ≡ 13

module _ {d : Automaton} {bytes : List ℕ} {states edges : ℕ} (h : AutomatonIn d bytes) (s : states ≡ pair_at bytes 0) (e : edges ≡ pair_at bytes 2) where
  pub counts-held : CountsHeld bytes states edges
  counts-held =
      let m = s ∙ states-held h in
      let n = e ∙ edges-held h in
      record {
        few_states = omega (arith, m, h.few_states);
        few_edges = omega (arith, n, h.few_edges);
        stand = omega (arith, m, n, held-long h);
        head = two-wide states edges (omega (arith, m, h.few_states)) (omega (arith, n, h.few_edges));
      }

  pub text-held : smallest_text bytes states edges ≡ automaton_text d
  unfolding automaton_text
  text-held =
      let m = s ∙ states-held h in
      let n = e ∙ edges-held h in
      (λ i. smallest_text bytes (m i) (n i)) ∙ (λ i. numbers_line (count d ∷ length d.edges ∷ []) ++ (marks-text h i ++ steps-text h i))
