-- Reading a word without a listing: the frontier that its letters reach.
use Rattle.std.specs.Prelude.{◌≡◌, Bool, cond, ◌&&◌, List, [], ◌∷◌, ℕ, ◌+◌, ◌*◌, ◌≤◌, ◌<◌, eqb, length, get_or}
use Rattle.std.proofs.Math.Option.{some}
use Rattle.std.specs.Int.Bits.{bit_or}
use Rattle.automaton.specs.inner.Sizes.{place_count, column_count}
use Rattle.lts.specs.Sizes.{most_states}
use Rattle.lts.specs.inner.Lists.{up_from}
use Rattle.lts.specs.Lists.{any_of as any}
use Rattle.lts.specs.Steps.{Step, labels}
use Rattle.lts.specs.inner.Steps.{Carried}
use Rattle.lts.specs.inner.Prepared.{table_in}
use Rattle.actl.specs.Formulas.{Formula}
use Rattle.actl.specs.inner.Prepared.{prepared_formula}
use Rattle.until_search.specs.inner.Flags.{flag_at}
use Rattle.automaton.specs.inner.Search.{on_label}
use Rattle.target_masks.specs.inner.Masks.{mask_on}
use Rattle.bits.specs.inner.Bits.{bit_at}
use Rattle.automaton.specs.inner.Words.{accepts}
use Rattle.frontier.specs.inner.Frontier.{has_state, nowhere, emptied, brought, through}

-- The target places of a set of places: with those of place k, if it is in the set; and of all of them.
abbrev pub targets_added : List ℕ → ℕ → ℕ → ℕ → ℕ → ℕ
targets_added masks places l k found = cond (bit_at places k) (bit_or found (mask_on masks k l)) found

abbrev pub targets_of : List ℕ → ℕ → ℕ → ℕ
targets_of masks places l = through (targets_added masks places l) place_count 0 0

-- A step with the label l brings places to the state that it leads to.
abbrev pub step_taken : ℕ → ℕ → Step → List ℕ → List ℕ
step_taken l places st next = cond (on_label l st) (brought st.to places next) next

unfoldable pub steps_taken : ℕ → ℕ → List Step → List ℕ → List ℕ
steps_taken l places [] next = next
steps_taken l places (st ∷ steps) next = steps_taken l places steps (step_taken l places st next)

-- What a letter brings from places of a state, along the steps that leave it; from s, if it has places; and from all states.
abbrev pub places_read : List Step → List ℕ → ℕ → ℕ → List ℕ → List ℕ
places_read steps masks places l next = cond (eqb (targets_of masks places l) 0) next (steps_taken l (targets_of masks places l) steps next)

abbrev pub state_read : (ℕ → List Step) → List ℕ → List ℕ → ℕ → ℕ → List ℕ → List ℕ
state_read from masks reached l s next = cond (has_state reached s) (places_read (from s) masks (get_or reached s 0) l next) next

abbrev pub letter_read : (ℕ → List Step) → List ℕ → ℕ → List ℕ → List ℕ → List ℕ
letter_read from masks l reached next = through (state_read from masks reached l) most_states 0 (emptied next)

-- Two frontiers take turns.
unfoldable pub word_read : (ℕ → List Step) → List ℕ → List ℕ → List ℕ → List ℕ → List ℕ
word_read from masks [] reached next = reached
word_read from masks (l ∷ w) reached next = word_read from masks w (letter_read from masks l reached next) reached

-- The root at the start state alone.
abbrev pub root_reached : ℕ → List ℕ
root_reached start = brought start 1 nowhere

-- Some place of a set is final.
abbrev pub final_place : List Bool → ℕ → ℕ → Bool
final_place finals places k = bit_at places k && flag_at finals k

abbrev pub some_final : List Bool → ℕ → Bool
some_final finals places = any (final_place finals places) (up_from 0 place_count)

-- Letters that have a mask.
pub record Letters (w : List ℕ) : Type 0 where
  pub carried : (i : ℕ) → i < length w → Carried (get_or w i 0)

-- The answer for the table and the formula in bytes.
pub record AcceptsAnswer (table formula w : List ℕ) (r : Bool) : Type 0 where
  pub answer : (F : Formula) → prepared_formula (labels (table_in table)) formula ≡ some F → r ≡ accepts (table_in table) F w
