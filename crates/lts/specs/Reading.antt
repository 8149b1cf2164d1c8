-- Reading a table's text: line by line, on each line 1, 2, then 3 or 4. m says whether names may have marks.
use Rattle.std.specs.Prelude.{Bool, true, cond, not, ◌&&◌, ◌||◌, List, [], ◌∷◌, ◌++◌, ℕ, zero, suc, ◌+◌, leb, ltb, eqb, length, drop}
use Rattle.lts.specs.Sizes.{most_states, most_labels, most_transitions}
use Rattle.columns.specs.Bytes.{same_bytes}
use Rattle.columns.specs.Columns.{value_at}
use Rattle.lts.specs.Reply.{Reply, accepted, refusal, unless}
use Rattle.lts.specs.Lists.{any_of}
use Rattle.lts.specs.Steps.{Step, Table}
use Rattle.lts.specs.Marks.{Marks, marked}
use Rattle.lts.specs.Names.{is_name_with}
use Rattle.lts.specs.Text.{header_line, label_line, transition_line}

-- A text's first line, without its LF, and what follows; or none, if no LF follows.
pub data Line : Type 0 where
  missing : Line
  line : List ℕ → List ℕ → Line

abbrev pub longer : ℕ → Line → Line
longer b missing = missing
longer b (line l rest) = line (b ∷ l) rest

abbrev pub first_line : List ℕ → Line
first_line [] = missing
first_line (b ∷ s) = cond (eqb b 10) (line [] s) (longer b (first_line s))

-- 01: "a table line missing, or not as laid out": 1, with its line.
abbrev pub on_line : ℕ → Line → (List ℕ → List ℕ → Reply Table) → Reply Table
on_line n missing next = refusal 1 n
on_line n (line l rest) next = next l rest

-- What line 1 says.
pub record Header : Type 0 where
  pub states : ℕ
  pub labels : ℕ
  pub transitions : ℕ
  pub start : ℕ

abbrev pub header_of : List ℕ → Header
header_of l = record { states = value_at 0 l; labels = value_at 6 l; transitions = value_at 12 l; start = value_at 18 l }

abbrev pub header_laid_out : Header → List ℕ → Bool
header_laid_out h l = same_bytes l (header_line h.states h.labels h.transitions h.start)

-- 01: "states (1 to 256), labels (0 to 40), transitions (0 to 1,024), start (below states)"
abbrev pub header_in_range : Header → Bool
header_in_range h = leb 1 h.states && leb h.states most_states && leb h.labels most_labels && leb h.transitions most_transitions && ltb h.start h.states

-- A label's line: its number and its name.
abbrev pub label_laid_out_with : Marks → List ℕ → Bool
label_laid_out_with m l = same_bytes l (label_line (value_at 0 l) (drop 7 l)) && is_name_with m (drop 7 l)

-- 01: "a label name used on an earlier line"
abbrev pub used : List (List ℕ) → List ℕ → Bool
used names name = any_of (λ n. same_bytes n name) names

abbrev pub step_of : List ℕ → Step
step_of l = record { from = value_at 0 l; label = value_at 6 l; to = value_at 12 l }

abbrev pub step_laid_out : List ℕ → Bool
step_laid_out l = same_bytes l (transition_line (step_of l))

abbrev pub step_in_range : Header → Step → Bool
step_in_range h st = ltb st.from h.states && leb st.label h.labels && ltb st.to h.states

abbrev pub step_below : Step → Step → Bool
step_below a b = ltb a.from b.from || (eqb a.from b.from && (ltb a.label b.label || (eqb a.label b.label && ltb a.to b.to)))

-- 01: "a transition not above the one before". The last of the steps so far is the one before.
abbrev pub above : List Step → Step → Bool
above [] st = true
above (x ∷ []) st = step_below x st
above (x ∷ y ∷ l) st = above (y ∷ l) st

-- 01: "Nothing follows."
abbrev pub at_end : ℕ → List ℕ → Reply Table → Reply Table
at_end n [] next = next
at_end n (b ∷ s) next = refusal 1 n

-- The lines that are left: of transitions, with those so far; and of labels before them.
unfoldable pub read_transitions : Header → List (List ℕ) → ℕ → List Step → List ℕ → Reply Table
read_transitions h names zero steps text =
    at_end (2 + length names + length steps) text (accepted (record { states = h.states; names = names; transitions = steps; start = h.start }))
read_transitions h names (suc left) steps text =
    let n : ℕ = 2 + length names + length steps in
    on_line n (first_line text) (λ l rest.
    unless (step_laid_out l) 1 n (
    unless (step_in_range h (step_of l)) 2 n (
    unless (above steps (step_of l)) 4 n (
    read_transitions h names left (steps ++ (step_of l ∷ [])) rest))))

unfoldable pub read_labels_with : Marks → Header → ℕ → List (List ℕ) → List ℕ → Reply Table
read_labels_with m h zero names text = read_transitions h names h.transitions [] text
read_labels_with m h (suc left) names text =
    let n : ℕ = 2 + length names in
    on_line n (first_line text) (λ l rest.
    unless (label_laid_out_with m l) 1 n (
    unless (eqb (value_at 0 l) (suc (length names))) 2 n (
    unless (not (used names (drop 7 l))) 3 n (
    read_labels_with m h left (names ++ (drop 7 l ∷ [])) rest))))

unfoldable pub read_table_with : Marks → List ℕ → Reply Table
read_table_with m text =
    on_line 1 (first_line text) (λ l rest.
    unless (header_laid_out (header_of l) l) 1 1 (
    unless (header_in_range (header_of l)) 2 1 (
    read_labels_with m (header_of l) (header_of l).labels [] rest)))

abbrev pub read_table : List ℕ → Reply Table
read_table text = read_table_with marked text
