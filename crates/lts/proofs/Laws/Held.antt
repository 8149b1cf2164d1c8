-- Prepared bytes are well-formed: names and transitions in their slots, and zeros behind them.
use mathlib.Core.Path.{◌≡◌, refl, sym, ap, ◌∙◌, subst, subst₂}
use mathlib.Core.Bool.{true}
use mathlib.Core.List.{List, [], ◌∷◌, ◌++◌}
use Prim.Native.Nat.{ℕ, ◌+◌, ◌-◌, ◌*◌, ◌≤◌, ◌<◌}
use native.Mathlib.Omega.{arith}
use lib.ListN.{length, get_or, take, drop, take-append-drop}
use lib.Seq.{get_or-drop}
use Rattle.lts.specs.inner.Sizes.{head_length, transitions_at}
use Rattle.lts.specs.Sizes.{name_slot_length, transition_length, table_length}
use Rattle.lts.specs.inner.Sizes.{names_length, transitions_length}
use Rattle.columns.specs.Bytes.{padded}
use Rattle.lts.specs.Lists.{bind}
use Rattle.lts.specs.Names.{is_name}
use Rattle.lts.specs.Steps.{Table, labels}
use Rattle.lts.specs.inner.Steps.{idle_at}
use Rattle.lts.specs.inner.Range.{Below, Differ, StepInRange, InRange}
use Rattle.lts.specs.Prepared.{name_slot, transition_slot, table_bytes}
use Rattle.lts.specs.inner.Prepared.{byte_at, transition_at, table_in, prepared_table}
use Rattle.lts.specs.inner.Answers.{is_some}
use Rattle.lts.specs.inner.Check.{ZerosFrom, NameHeld, NewName, TransitionHeld, WellFormed}
use Rattle.lts.proofs.Lists.{get_d_mem, rising_index}
use Rattle.lts.proofs.Laws.Contents.{name_in_lem, transition_in}
use Rattle.lts.proofs.Laws.Slots.{slots_length_lem}
use Rattle.lts.proofs.Laws.TableBytes.{names_sized, names-behind, transitions-behind, name-slot-there, size-of-slot}
use Rattle.lts.proofs.Laws.Filled.{padded-zero}
use Rattle.lts.proofs.Laws.Prepared.{prepared-of, prepared-length, is-some-of}

-- Zeros behind a list that is padded with them.
zeros-behind : (b l z : List ℕ) (at n i : ℕ) → drop at b ≡ padded n l ++ z → at + length l ≤ i → i < at + n → byte_at b i ≡ 0
zeros-behind b l z at n i e h k =
    let place : at + (i - at) ≡ i = omega arith in
    ap (byte_at b) (sym place) ∙ (sym (get_or-drop at b (i - at) 0) ∙ (ap (λ (s : List ℕ). byte_at s (i - at)) e ∙ padded-zero n l z (i - at) (omega arith) (omega arith)))

module _ (b : List ℕ) (t : Table) (r : InRange t) (e : take table_length b ≡ table_bytes t) (same : table_in b ≡ t) where
  rest : List ℕ
  rest = drop table_length b

  split : b ≡ table_bytes t ++ rest
  unfolding rest
  split = sym (take-append-drop table_length b) ∙ ap (λ (l : List ℕ). l ++ rest) e

  inside : InRange (table_in b)
  inside = subst InRange (sym same) r

  name-held : (k : ℕ) → k < labels (table_in b) → NameHeld b k
  name-held k h =
      let few : k < labels t = subst (λ (u : Table). k < labels u) same h in
      let (z, d) = name-slot-there t r rest k few in
      let n : List ℕ = get_or t.names k [] in
      let slot : drop (head_length + k * name_slot_length) b ≡ name_slot n ++ z = ap (drop (head_length + k * name_slot_length)) split ∙ d in
      let size : byte_at b (head_length + k * name_slot_length) ≡ length n = size-of-slot b n z k slot in
      record {
        name = subst (λ (l : List ℕ). is_name l ≡ true) (name_in_lem b k [] h) (inside.named (get_or (table_in b).names k []) (get_d_mem (table_in b).names k [] h));
        behind = λ i p q. zeros-behind b (length n ∷ n) z (head_length + k * name_slot_length) 16 i slot (omega arith) (omega arith);
      }

  new_name_lem : (k : ℕ) → k < labels (table_in b) → NewName b k
  new_name_lem k h j l =
      subst₂ Differ (name_in_lem b j [] (omega arith)) (name_in_lem b k [] h) (rising_index [] Differ (table_in b).names inside.names_differ j k l h)

  transition_held : (k : ℕ) → k < length (table_in b).transitions → TransitionHeld b (table_in b).states (labels (table_in b)) k
  transition_held k h =
      let here : get_or (table_in b).transitions k (idle_at 0) ≡ transition_at b k = transition_in b k (idle_at 0) h in
      let range = subst (StepInRange (table_in b)) here (inside.steps_in_range (get_or (table_in b).transitions k (idle_at 0)) (get_d_mem (table_in b).transitions k (idle_at 0) h)) in
      record {
        leaves = range.leaves;
        labelled = range.labelled;
        enters = range.enters;
        rises = λ j d. subst₂ Below (transition_in b j (idle_at 0) (omega arith)) here
            (rising_index (idle_at 0) Below (table_in b).transitions inside.steps_rise j k (omega arith) h);
      }

  past_names : ZerosFrom b (head_length + labels (table_in b) * name_slot_length) transitions_at
  past_names i p q =
      let count : labels (table_in b) ≡ labels t = ap labels same in
      zeros-behind b (bind name_slot t.names) _ 6 names_length i (ap (drop 6) split ∙ names-behind t r rest)
      (omega (arith, slots_length_lem name_slot 16 t.names (names_sized t r))) (omega arith)

  past_transitions : ZerosFrom b (transitions_at + length (table_in b).transitions * transition_length) table_length
  past_transitions i p q =
      let count : length (table_in b).transitions ≡ length t.transitions = ap (λ (u : Table). length u.transitions) same in
      zeros-behind b (bind transition_slot t.transitions) rest transitions_at transitions_length i (ap (drop transitions_at) split ∙ transitions-behind t r rest)
      (omega (arith, slots_length_lem transition_slot 3 t.transitions (λ st m. refl))) (omega arith)

  well_formed-of : table_length ≤ length b → WellFormed b
  well_formed-of long = record {
    long = long;
    counts = record {
      some_state = inside.some_state;
      few_states = inside.few_states;
      few_labels = inside.few_labels;
      few_transitions = inside.few_transitions;
      starts = inside.starts;
    };
    names = λ k h. (name-held k h, new_name_lem k h);
    past_names = past_names;
    transitions = transition_held;
    past_transitions = past_transitions;
  }

pub prepared_well_formed : (b : List ℕ) → is_some (prepared_table b) ≡ true → WellFormed b
prepared_well_formed b e =
    let (t, d) = is-some-of (prepared_table b) e in
    let p = prepared-of b t d in
    well_formed-of b t p.0 p.1 p.2 (prepared-length b t d)
