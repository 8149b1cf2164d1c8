-- Laws of a whole reading: its header, and what the entry answers and leaves.
use mathlib.Core.Path.{◌≡◌, refl, sym, ap, ◌∙◌}
use mathlib.Core.Bool.{Bool, true, false, ◌&&◌}
use mathlib.Core.List.{List, [], ◌++◌}
use Prim.Native.Nat.{ℕ, ◌<◌, ◌≤◌}
use native.Mathlib.Omega.{arith}
use borrow.Author.Tests.{ltb-true, leb-true, le-leb, lt-leb}
use lib.Dec.{leb, ltb}
use lib.ListN.{length, drop}
use Rattle.lts.specs.Sizes.{most_states, most_labels, most_transitions, table_length}
use Rattle.lts.specs.Reply.{refusal, unless, overwritten, left_in, answers}
use Rattle.lts.specs.Reading.{Header, first_line, header_of, header_laid_out, header_in_range, read_table, read_table_with}
use Rattle.lts.specs.inner.Reading.{read_labels}
use Rattle.lts.specs.Prepared.{table_bytes}
use Rattle.table_text.specs.Replies.{table_reply}
use Rattle.lts.specs.TableReading.{table_reading, table_replied, table_left}
use Rattle.lts.specs.inner.Slots.{head_bytes}
use Rattle.lts.specs.inner.Lines.{LineAt, NoLineAt}
use Rattle.std.specs.Prelude.{Ok, Err}
use Rattle.table_text.specs.inner.Progress.{Refuses, LinesAccepted}
use Rattle.table_text.specs.declared.TableRefusal.{TableRefusal}
use Rattle.table_text.specs.declared.TableRefusal.TheVariants.{NotLaidOut, OutOfRange, BufferShort}
use Rattle.lts.proofs.Booleans.{and-true-of}
use Rattle.table_text.proofs.Laws.Progress.{no_line, a_line, passed, failed}

-- Line 1.
abbrev laid_header : List ℕ → Bool
laid_header l = header_laid_out (header_of l) l

module _ (s : List ℕ) where
  pub header_refused : NoLineAt (λ l. header_laid_out (header_of l) l) s 0 → Refuses (read_table s) (NotLaidOut 1)
  unfolding read_table_with
  header_refused g = record { number = 1; figure = 1; reply = no_line laid_header 1 (first_line s) _ g; says = refl }

  module _ (l : List ℕ) (g : LineAt (λ l. header_laid_out (header_of l) l) s 0 25 l) (h : Header) (v : header_of l ≡ h) where
    header_opened : read_table s ≡ unless (header_in_range h) 2 1 (read_labels h h.labels [] (drop 25 s))
    unfolding read_table_with
    header_opened =
        a_line laid_header 1 (first_line s) _ l (drop 25 s) g.is_line g.laid_out
        ∙ ap (λ (x : Header). unless (header_in_range x) 2 1 (read_labels x x.labels [] (drop 25 s))) v

    pub header_out_of_range : header_in_range h ≡ false → Refuses (read_table s) (OutOfRange 1)
    header_out_of_range d = record {
      number = 2;
      figure = 1;
      reply = header_opened ∙ failed (header_in_range h) 2 1 (read_labels h h.labels [] (drop 25 s)) d;
      says = refl;
    }

    pub header-accepted : header_in_range h ≡ true → read_table s ≡ read_labels h h.labels [] (drop 25 s)
    header-accepted d = header_opened ∙ passed (header_in_range h) 2 1 (read_labels h h.labels [] (drop 25 s)) d

pub record HeaderBounds (h : Header) : Type 0 where
  pub states : h.states ≤ most_states
  pub labels : h.labels ≤ most_labels
  pub transitions : h.transitions ≤ most_transitions
  pub start : h.start < 256

pub header_bounds : (h : Header) → header_in_range h ≡ true → HeaderBounds h
header_bounds h e =
    let states : Bool = leb 1 h.states && leb h.states most_states in
    let labels : Bool = leb h.labels most_labels in
    let transitions : Bool = leb h.transitions most_transitions in
    let a = and-true-of (states && labels && transitions) (ltb h.start h.states) e in
    let b = and-true-of (states && labels) transitions a.0 in
    let c = and-true-of states labels b.0 in
    let d = and-true-of (leb 1 h.states) (leb h.states most_states) c.0 in
    let few = leb-true h.states 256 d.1 in
    record {
      states = few;
      labels = leb-true h.labels 40 c.1;
      transitions = leb-true h.transitions 1024 b.1;
      start = omega (arith, ltb-true h.start h.states a.1);
    }

-- The answer and the bytes.
module _ (s b : List ℕ) where
  pub short-replies : length b < table_length → (table_reply (Err (BufferShort table_length)) ≡ table_replied s b) × (b ≡ table_left s b)
  unfolding table_reading
  short-replies h =
      let short : table_reading s b ≡ refusal 14 table_length = failed (leb table_length (length b)) 14 table_length (read_table s) (lt-leb table_length (length b) h) in
      (ap (answers (λ t. tt)) (sym short), ap (λ r. left_in table_bytes r b) (sym short))

  module _ (h : table_length ≤ length b) where
    reading-is : table_reading s b ≡ read_table s
    unfolding table_reading
    reading-is = passed (leb table_length (length b)) 14 table_length (read_table s) (le-leb table_length (length b) h)

    pub refused-replies : {t : TableRefusal} → Refuses (read_table s) t → (table_reply (Err t) ≡ table_replied s b) × (b ≡ table_left s b)
    refused-replies r =
        let refused = reading-is ∙ r.reply in
        (r.says ∙ ap (answers (λ t. tt)) (sym refused), ap (λ x. left_in table_bytes x b) (sym refused))

    pub written-replies : (f : Header) (names slots : List ℕ) → LinesAccepted f s names slots → read_table s ≡ read_labels f f.labels [] (drop 25 s)
        → (d : List ℕ) → d ≡ overwritten (head_bytes f ++ (names ++ slots)) b → (table_reply (Ok tt) ≡ table_replied s b) × (d ≡ table_left s b)
    written-replies f names slots r e d k =
        let read = reading-is ∙ e ∙ r.reads in
        (ap (answers (λ t. tt)) (sym read), k ∙ ap (λ x. overwritten x b) r.kept ∙ ap (λ x. left_in table_bytes x b) (sym read))
