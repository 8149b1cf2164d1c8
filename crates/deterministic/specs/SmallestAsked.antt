-- What asking for the smallest automaton beside a build answers and leaves.
use Rattle.std.specs.Prelude.{◌≡◌, cond, List, ℕ, suc, ◌*◌, ◌≤◌, eqb, leb, length, take, replicate}
use Rattle.lts.specs.Reply.{Reply, accepted, refusal, unless, overwritten, left_in, answers}
use Rattle.lts.specs.Steps.{Table, labels}
use Rattle.lts.specs.Prepared.{with_table}
use Rattle.lts.specs.inner.Prepared.{prepared_table}
use Rattle.actl.specs.Formulas.{Formula}
use Rattle.actl.specs.FormulaReading.{with_formula, long_enough}
use Rattle.actl.specs.InPrepared.{InPrepared}
use Rattle.actl.specs.inner.Prepared.{prepared_formula}
use Rattle.automaton.specs.Listing.{Listing}
use Rattle.automaton.specs.Bytes.{rows_bytes, edges_bytes}
use Rattle.automaton.specs.Build.{Counts, counts, fitted}
use Rattle.automaton.specs.AcceptsBytes.{AcceptsBytes}
use Rattle.automaton.specs.Explains.{Explains}
use Rattle.automaton.specs.inner.Search.{listing}
use Rattle.explanations.specs.Explanation.{and_then}
use Rattle.deterministic.specs.Sizes.{most_sets, most_letters, smallest_length, work_length}
use Rattle.deterministic.specs.Automata.{Automaton, count, Accepts}
use Rattle.deterministic.specs.Smallest.{SameWords, IsSmallest}
use Rattle.deterministic.specs.Bytes.{automaton_bytes}
use Rattle.deterministic.specs.inner.Smallest.{sets_of, smallest_of}

-- 02: "Beside a build's rows and edges"
pub record Beside : Type 0 where
  pub list : Listing
  pub smallest : Automaton

-- 02: "Errors: 20 if they are more, 257 returned, after every base refusal."
abbrev pub beside_of : Table → Listing → Reply Beside
beside_of t L = unless (leb (length (sets_of t L)) most_sets) 20 (suc most_sets) (accepted (record { list = L; smallest = smallest_of t L }))

-- Of the table and the formula: 11 and 12 as of a build, then 20.
abbrev pub beside_in : List ℕ → List ℕ → Table → Formula → Reply Beside
beside_in rows edges t F = and_then (fitted (listing t F) rows edges) (beside_of t)

-- `table` and `formula` are prepared bytes; rows, edges, `buffer` and `work` are lent.
unfoldable pub smallest_asked : List ℕ → List ℕ → List ℕ → List ℕ → List ℕ → List ℕ → Reply Beside
smallest_asked table formula rows edges buffer work =
    long_enough table formula (
    unless (leb smallest_length (length buffer)) 14 smallest_length (
    unless (leb work_length (length work)) 14 work_length (
    with_table (prepared_table table) (λ t.
    with_formula (prepared_formula (labels t) formula) (λ F. beside_in rows edges t F)))))

abbrev pub counts_beside : Beside → Counts
counts_beside b = counts b.list

abbrev pub rows_beside : Beside → List ℕ
rows_beside b = rows_bytes b.list

abbrev pub edges_beside : Beside → List ℕ
edges_beside b = edges_bytes b.list

abbrev pub smallest_bytes : Beside → List ℕ
smallest_bytes b = automaton_bytes b.smallest

-- 01, of a work buffer: all zero, over its length, after every call but 14.
unfoldable pub cleared : List ℕ → List ℕ
cleared work = overwritten (replicate work_length 0) work

abbrev pub work_left : {A : Type 0} → Reply A → List ℕ → List ℕ
work_left (accepted a) work = cleared work
work_left (refusal number figure) work = cond (eqb number 14) work (cleared work)

module _ (table formula rows edges buffer work : List ℕ) where
  abbrev asked : Reply Beside
  asked = smallest_asked table formula rows edges buffer work

  -- Accepted: the counts of the build. Rows and edges as a build leaves them, the automaton's bytes beside them.
  abbrev pub smallest_replied : Reply Counts
  smallest_replied = answers counts_beside asked

  abbrev pub smallest_rows : List ℕ
  smallest_rows = left_in rows_beside asked rows

  abbrev pub smallest_edges : List ℕ
  smallest_edges = left_in edges_beside asked edges

  abbrev pub smallest_left : List ℕ
  smallest_left = left_in smallest_bytes asked buffer

  abbrev pub smallest_work : List ℕ
  smallest_work = work_left asked work

-- What an accepted call says of the bytes that it leaves: they say the smallest deterministic automaton of the words of Definition 6, which are those
-- of the rows and edges beside it.
pub record SmallestIn (t : Table) (F : Formula) (c : Counts) (rows edges left : List ℕ) : Type 0 where
  pub d : Automaton
  pub says : take (length (automaton_bytes d)) left ≡ automaton_bytes d
  pub is_smallest : IsSmallest (Explains t F) d
  pub same_words_lem : SameWords (AcceptsBytes c rows edges) (Accepts d)
  pub few_states : count d ≤ most_sets
  pub few_edges : length d.edges ≤ most_sets * most_letters

abbrev pub SmallestAnswered : List ℕ → List ℕ → Reply Counts → List ℕ → List ℕ → List ℕ → Type 0
SmallestAnswered table formula (accepted c) rows edges left = InPrepared table formula (λ t F. SmallestIn t F c rows edges left)
SmallestAnswered table formula (refusal number figure) rows edges left = Unit {0}
