-- Well-formed bytes are prepared: the table in them is in range, and they are that table's bytes.
use mathlib.Core.Path.{◌≡◌, refl, sym, ap, ap₂, ◌∙◌, subst, subst₂}
use mathlib.Core.Bool.{true}
use mathlib.Core.List.{List, [], ◌∷◌, ◌++◌, Memᴰ}
use mathlib.Core.Option.{some}
use Prim.Native.Nat.{ℕ, suc, ◌+◌, ◌-◌, ◌*◌, ◌≤◌, ◌<◌}
use native.Mathlib.Nat.{add-zero}
use native.Mathlib.Omega.{arith}
use lib.ListN.{length, get_or, take, drop, replicate, length-drop}
use lib.Seq.{take-add, drop-drop, drop-cons, get_or-drop}
use Rattle.lts.specs.Sizes.{most_labels, most_transitions, name_slot_length, transition_length, table_length}
use Rattle.lts.specs.inner.Sizes.{names_length, transitions_length}
use Rattle.lts.specs.inner.Sizes.{head_length, transitions_at}
use Rattle.columns.specs.Bytes.{low_first}
use Rattle.columns.proofs.Laws.Bytes.{pair_bytes}
use Rattle.lts.specs.inner.Lists.{up_from}
use Rattle.lts.specs.Names.{is_name}
use Rattle.lts.specs.Steps.{Step, labels}
use Rattle.lts.specs.inner.Steps.{idle_at}
use Rattle.lts.specs.inner.Range.{Below, Differ, StepInRange, InRange}
use Rattle.lts.specs.Prepared.{name_slot, transition_slot, name_slots, transition_slots, table_bytes}
use Rattle.lts.specs.inner.Prepared.{byte_at, name_at, transition_at, table_in, prepared_table}
use Rattle.lts.specs.inner.Check.{WellFormed}
use Rattle.lts.proofs.Lists.{mem_index, rising-pairs, rising_adjacent}
use Rattle.lts.proofs.Laws.Tests.{below_trans, name_shape}
use Rattle.lts.proofs.Laws.Contents.{labels_in, transitions_in, name_in_lem, transition_in}
use Rattle.lts.proofs.Laws.SlotNames.{name-length}
use Rattle.lts.proofs.Laws.Filled.{bind-map, take-bytes, take-zeros, filled}
use Rattle.lts.proofs.Laws.Prepared.{prepared-to}

module _ (b : List ℕ) (w : WellFormed b) where
  -- The table in the bytes is in range.
  pub well_formed_range : InRange (table_in b)
  well_formed_range = record {
    some_state = w.counts.some_state;
    few_states = w.counts.few_states;
    few_labels = w.counts.few_labels;
    few_transitions = w.counts.few_transitions;
    starts = w.counts.starts;
    named = names_are;
    names_differ = rising-pairs [] Differ (table_in b).names differ;
    steps_in_range = steps_are;
    steps_rise = rising_adjacent (idle_at 0) Below below_trans (table_in b).transitions rise;
  }
    where
      names_are : (n : List ℕ) → Memᴰ n (table_in b).names → is_name n ≡ true
      names_are n m = let (i, h, e) = mem_index [] m in subst (λ (l : List ℕ). is_name l ≡ true) (sym (name_in_lem b i [] h) ∙ e) (w.names i h).0.name

      differ : (i j : ℕ) → i < j → j < length (table_in b).names → Differ (get_or (table_in b).names i []) (get_or (table_in b).names j [])
      differ i j h k = subst₂ Differ (sym (name_in_lem b i [] (omega arith))) (sym (name_in_lem b j [] k)) ((w.names j k).1 i h)

      steps_are : (st : Step) → Memᴰ st (table_in b).transitions → StepInRange (table_in b) st
      steps_are st m = let (i, h, e) = mem_index (idle_at 0) m in
          let held = w.transitions i h in
          subst (StepInRange (table_in b)) (sym (transition_in b i (idle_at 0) h) ∙ e)
          (record { leaves = held.leaves; labelled = held.labelled; enters = held.enters })

      rise : (i : ℕ) → suc i < length (table_in b).transitions → Below (get_or (table_in b).transitions i (idle_at 0)) (get_or (table_in b).transitions (suc i) (idle_at 0))
      rise i h =
          subst₂ Below (sym (transition_in b i (idle_at 0) (omega arith))) (sym (transition_in b (suc i) (idle_at 0) h)) ((w.transitions (suc i) h).rises i refl)

  module _ (bytes : (i : ℕ) → byte_at b i < 256) where
    -- The bytes before the slots.
    head_bytes_lem : take 6 b ≡ low_first 2 (table_in b).states ++ (labels (table_in b) ∷ (low_first 2 (length (table_in b).transitions) ++ ((table_in b).start ∷ [])))
    unfolding table_in
    head_bytes_lem =
        let first : low_first 2 (byte_at b 0 + byte_at b 1 * 256) ≡ byte_at b 0 ∷ byte_at b 1 ∷ [] = pair_bytes (byte_at b 0) (byte_at b 1) (bytes 0) (bytes 1) in
        let second : low_first 2 (byte_at b 3 + byte_at b 4 * 256) ≡ byte_at b 3 ∷ byte_at b 4 ∷ [] = pair_bytes (byte_at b 3) (byte_at b 4) (bytes 3) (bytes 4) in
        take-bytes 6 b (omega (arith, w.long))
        ∙ sym (ap₂ (λ (l m : List ℕ). l ++ m) first
        (ap₂ (λ (n : ℕ) (l : List ℕ). n ∷ (l ++ (byte_at b 5 ∷ []))) (labels_in b) (ap (low_first 2) (transitions_in b) ∙ second)))

    -- A name's slot.
    name-slot-is : (k : ℕ) → k < labels (table_in b) → take 16 (drop (k * name_slot_length) (drop 6 b)) ≡ name_slot (name_at b k)
    name-slot-is k h =
        let few : k < most_labels = omega (arith, w.counts.few_labels) in
        let held = (w.names k h).0 in
        let size : ℕ = byte_at b (head_length + k * name_slot_length) in
        let sized : length (name_at b k) ≡ size = name-length b w.long k few (bytes (head_length + k * name_slot_length)) in
        let short : size ≤ 13 = omega (arith, (name_shape (name_at b k) held.name).short) in
        let behind : List ℕ = drop (head_length + 1 + k * name_slot_length) b in
        let room : size + (15 - size) ≤ length behind = omega (arith, length-drop (head_length + 1 + k * name_slot_length) b, w.long) in
        let next : suc (head_length + k * name_slot_length) ≡ head_length + 1 + k * name_slot_length = omega arith in
        let cut : drop (k * name_slot_length) (drop 6 b) ≡ size ∷ behind =
        drop-drop (k * name_slot_length) 6 b ∙ (drop-cons b (head_length + k * name_slot_length) 0 (omega (arith, w.long)) ∙ ap (λ (j : ℕ). size ∷ drop j b) next) in
        let parts : size + (15 - size) ≡ 15 = omega arith in
        let zeros : take (15 - size) (drop size behind) ≡ replicate (15 - size) 0
        = take-zeros (15 - size) (drop size behind) (omega (arith, length-drop size behind))
        (λ i l. get_or-drop size behind i 0 ∙ (get_or-drop (head_length + 1 + k * name_slot_length) b (size + i) 0
        ∙ held.behind ((head_length + 1 + k * name_slot_length) + (size + i)) (omega arith) (omega arith))) in
        let tail : take 15 behind ≡ name_at b k ++ replicate (15 - size) 0
        = ap (λ (m : ℕ). take m behind) (sym parts) ∙ (take-add size (15 - size) behind ∙ ap (λ (l : List ℕ). name_at b k ++ l) zeros) in
        let left : 15 - size ≡ 16 - suc (length (name_at b k)) = omega arith in
        ap (take 16) cut ∙ ap₂ (λ (n : ℕ) (l : List ℕ). n ∷ l) (sym sized) (tail ∙ ap (λ (m : ℕ). name_at b k ++ replicate m 0) left)

    transition_slot-is : (k : ℕ) → k < length (table_in b).transitions → take 3 (drop (k * transition_length) (drop transitions_at b)) ≡ transition_slot (transition_at b k)
    transition_slot-is k h =
        let few : k < most_transitions = omega (arith, w.counts.few_transitions) in
        let at : ℕ = transitions_at + k * transition_length in
        let second : at + 1 ≡ (transitions_at + 1) + k * transition_length = omega arith in
        let third : at + 2 ≡ (transitions_at + 2) + k * transition_length = omega arith in
        ap (take 3) (drop-drop (k * transition_length) transitions_at b)
        ∙ (take-bytes 3 (drop at b) (omega (arith, length-drop at b, w.long))
        ∙ (λ i. (get_or-drop at b 0 0 ∙ ap (byte_at b) (add-zero at)) i ∷ (get_or-drop at b 1 0 ∙ ap (byte_at b) second) i ∷ (get_or-drop at b 2 0 ∙ ap (byte_at b) third) i ∷ []))

    name-slots-are : take names_length (drop 6 b) ≡ name_slots (table_in b)
    unfolding table_in
    name-slots-are =
        let count : labels (table_in b) ≡ byte_at b 2 = labels_in b in
        filled (λ k. name_slot (name_at b k)) 16 (byte_at b 2) names_length (drop 6 b) (omega (arith, w.counts.few_labels)) (omega (arith, length-drop 6 b, w.long))
        (λ k h. name-slot-is k (omega arith)) (λ i h l. get_or-drop 6 b i 0 ∙ w.past_names (6 + i) (omega arith) (omega arith))
        ∙ ap (λ (l : List ℕ). l ++ replicate (names_length - length l) 0) (sym (bind-map name_slot (name_at b) (up_from 0 (byte_at b 2))))

    transition_slots-are : take transitions_length (drop transitions_at b) ≡ transition_slots (table_in b)
    unfolding table_in
    transition_slots-are =
        let n : ℕ = byte_at b 3 + byte_at b 4 * 256 in
        let count : length (table_in b).transitions ≡ n = transitions_in b in
        filled (λ k. transition_slot (transition_at b k)) 3 n transitions_length (drop transitions_at b) (omega (arith, w.counts.few_transitions))
        (omega (arith, length-drop transitions_at b, w.long))
        (λ k h. transition_slot-is k (omega arith)) (λ i h l. get_or-drop transitions_at b i 0 ∙ w.past_transitions (transitions_at + i) (omega arith) (omega arith))
        ∙ ap (λ (l : List ℕ). l ++ replicate (transitions_length - length l) 0) (sym (bind-map transition_slot (transition_at b) (up_from 0 n)))

    pub well_formed-bytes : take table_length b ≡ table_bytes (table_in b)
    unfolding table_bytes
    well_formed-bytes =
        take-add 6 3712 b ∙ ap₂ (λ (l m : List ℕ). l ++ m) head_bytes_lem
        (take-add names_length transitions_length (drop 6 b) ∙ ap₂ (λ (l m : List ℕ). l ++ m) name-slots-are (ap (take transitions_length) (drop-drop names_length 6 b) ∙ transition_slots-are))

    pub well_formed-prepared : prepared_table b ≡ some (table_in b)
    well_formed-prepared = prepared-to b (table_in b) well_formed_range well_formed-bytes
