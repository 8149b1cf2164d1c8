-- What one more line, and all lines of a kind, make of a reading.
use Rattle.std.specs.Prelude.{◌≡◌, true, List, [], ◌∷◌, ◌++◌, Result, Ok, Err, ℕ, suc, ◌≤◌, length, drop}
use Rattle.lts.specs.Reply.{Reply, accepted, refusal}
use Rattle.lts.specs.Lists.{every}
use Rattle.lts.specs.Steps.{Step, Table}
use Rattle.lts.specs.Names.{is_name}
use Rattle.lts.specs.Reading.{Header, read_transitions}
use Rattle.lts.specs.inner.Reading.{read_labels}
use Rattle.table_text.specs.Replies.{table_refusal}
use Rattle.table_text.specs.declared.TableRefusal.{TableRefusal}
use Rattle.lts.specs.inner.Slots.{name_bytes, step_bytes, head_bytes}
use Rattle.lts.specs.Prepared.{table_bytes}

-- A reading that ends in the refusal that an answer says.
pub record Refuses (r : Reply Table) (t : TableRefusal) : Type 0 where
  pub number : ℕ
  pub figure : ℕ
  pub reply : r ≡ refusal number figure
  pub says : table_refusal t ≡ refusal number figure

-- One more name is read: what is left to read, and the slots with it.
pub record NameRead (h : Header) (s : List ℕ) (at to left : ℕ) (names : List (List ℕ)) (b : List ℕ) : Type 0 where
  pub name : List ℕ
  pub is_name : is_name name ≡ true
  pub within : to ≤ length s
  pub reads : read_labels h (suc left) names (drop at s) ≡ read_labels h left (names ++ (name ∷ [])) (drop to s)
  pub kept : b ≡ name_bytes (names ++ (name ∷ []))

abbrev pub NameReads : Header → List ℕ → ℕ → ℕ → List (List ℕ) → List ℕ → Result ℕ TableRefusal → Type 0
NameReads h s at left names b (Ok to) = NameRead h s at to left names b
NameReads h s at left names b (Err t) = Refuses (read_labels h (suc left) names (drop at s)) t

-- The line of a label at `at`, if the slots hold the names before it: b before, and d after.
abbrev pub LabelProgress : List ℕ → ℕ → ℕ → List ℕ → List ℕ → Result ℕ TableRefusal → Type 0
LabelProgress s at count b d r = (h : Header) (left : ℕ) (names : List (List ℕ)) → length names ≡ count → every is_name names ≡ true → b ≡ name_bytes names
    → NameReads h s at left names d r

-- All names are read, and the slots hold them.
pub record NamesRead (h : Header) (s : List ℕ) (from to : ℕ) (b : List ℕ) : Type 0 where
  pub names : List (List ℕ)
  pub counts : length names ≡ h.labels
  pub within : to ≤ length s
  pub reads : read_labels h h.labels [] (drop from s) ≡ read_transitions h names h.transitions [] (drop to s)
  pub kept : b ≡ name_bytes names

abbrev pub LabelsRead : Header → List ℕ → ℕ → List ℕ → Result ℕ TableRefusal → Type 0
LabelsRead h s from b (Ok to) = NamesRead h s from to b
LabelsRead h s from b (Err t) = Refuses (read_labels h h.labels [] (drop from s)) t

-- The same of transitions.
pub record TransitionLineRead (h : Header) (s : List ℕ) (at to left : ℕ) (names : List (List ℕ)) (steps : List Step) (b : List ℕ) : Type 0 where
  pub last : Step
  pub within : to ≤ length s
  pub reads : read_transitions h names (suc left) steps (drop at s) ≡ read_transitions h names left (steps ++ (last ∷ [])) (drop to s)
  pub kept : b ≡ step_bytes (steps ++ (last ∷ []))

abbrev pub TransitionLineReads : Header → List ℕ → ℕ → ℕ → List (List ℕ) → List Step → List ℕ → Result ℕ TableRefusal → Type 0
TransitionLineReads h s at left names steps b (Ok to) = TransitionLineRead h s at to left names steps b
TransitionLineReads h s at left names steps b (Err t) = Refuses (read_transitions h names (suc left) steps (drop at s)) t

abbrev pub TransitionProgress : Header → List ℕ → ℕ → ℕ → List ℕ → List ℕ → Result ℕ TableRefusal → Type 0
TransitionProgress h s at count b d r = (left : ℕ) (names : List (List ℕ)) (steps : List Step) → length names ≡ h.labels → length steps ≡ count → b ≡ step_bytes steps
    → TransitionLineReads h s at left names steps d r

pub record StepsRead (h : Header) (s : List ℕ) (from : ℕ) (names : List (List ℕ)) (b : List ℕ) : Type 0 where
  pub steps : List Step
  pub counts : length steps ≡ h.transitions
  pub reads : read_transitions h names h.transitions [] (drop from s) ≡ accepted (record { states = h.states; names = names; transitions = steps; start = h.start })
  pub kept : b ≡ step_bytes steps

abbrev pub StepsReads : Header → List ℕ → ℕ → List (List ℕ) → List ℕ → Result (Unit {0}) TableRefusal → Type 0
StepsReads h s from names b (Ok u) = StepsRead h s from names b
StepsReads h s from names b (Err t) = Refuses (read_transitions h names h.transitions [] (drop from s)) t

abbrev pub TransitionsRead : Header → List ℕ → ℕ → List ℕ → Result (Unit {0}) TableRefusal → Type 0
TransitionsRead h s from b r = (names : List (List ℕ)) → length names ≡ h.labels → StepsReads h s from names b r

-- The lines behind the first are those of a table, and the slots hold what the prepared table has of them.
pub record LinesAccepted (h : Header) (s names slots : List ℕ) : Type 0 where
  pub table : Table
  pub reads : read_labels h h.labels [] (drop 25 s) ≡ accepted table
  pub kept : head_bytes h ++ (names ++ slots) ≡ table_bytes table

abbrev pub LinesRead : Header → List ℕ → List ℕ → List ℕ → Result (Unit {0}) TableRefusal → Type 0
LinesRead h s names slots (Ok u) = LinesAccepted h s names slots
LinesRead h s names slots (Err t) = Refuses (read_labels h h.labels [] (drop 25 s)) t
