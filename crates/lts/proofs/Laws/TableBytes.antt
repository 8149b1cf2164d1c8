-- The bytes of a table: how many they are, that they are bytes, and that the table stands in them.
use mathlib.Core.Path.{◌≡◌, refl, sym, ap, ap₂, ◌∙◌}
use mathlib.Core.List.{List, [], ◌∷◌, ◌++◌, map, append_assoc, Memᴰ}
use Prim.Native.Nat.{ℕ, suc, ◌+◌, ◌-◌, ◌*◌, ◌/◌, ◌%◌, ◌≤◌, ◌<◌}
use native.Mathlib.Nat.{add-zero}
use native.Mathlib.Omega.{arith}
use lib.ListN.{length, get_or, take, drop, replicate, length-append}
use lib.Seq.{take-append_seam, drop_at, drop-drop, get_or-drop, ext_get_or}
use Rattle.lts.specs.inner.Sizes.{head_length, transitions_at}
use Rattle.lts.specs.Sizes.{name_slot_length, transition_length, table_length}
use Rattle.lts.specs.inner.Sizes.{names_length, transitions_length}
use Rattle.columns.specs.Bytes.{low_first}
use Rattle.columns.proofs.Laws.Bytes.{Bytes, bytes-none, bytes-cons, bytes_append, padded-length, padded-bytes, low_first-bytes, pair_value}
use Rattle.lts.specs.inner.Lists.{up_from}
use Rattle.lts.specs.Lists.{bind}
use Rattle.lts.specs.Steps.{Step, Table, labels}
use Rattle.lts.specs.inner.Steps.{idle_at}
use Rattle.lts.specs.inner.Range.{InRange}
use Rattle.lts.specs.inner.Slots.{name_bytes, step_bytes, head_bytes}
use Rattle.lts.specs.Reading.{Header}
use Rattle.lts.specs.Prepared.{name_slot, transition_slot, name_slots, transition_slots, table_bytes}
use Rattle.lts.specs.inner.Prepared.{byte_at, name_at, transition_at, table_in}
use Rattle.lts.proofs.Lists.{bind-of}
use Rattle.lts.proofs.Laws.Tests.{name_shape}
use Rattle.lts.proofs.Laws.Contents.{map-up_from-length, map-up_from-at}
use Rattle.lts.proofs.Laws.Slots.{slots_length_lem, slot_at}

-- A slot says what it was made of.
pub size-of-slot : (b n z : List ℕ) (k : ℕ) → drop (head_length + k * name_slot_length) b ≡ name_slot n ++ z → byte_at b (head_length + k * name_slot_length) ≡ length n
size-of-slot b n z k e = ap (byte_at b) (sym (add-zero (head_length + k * name_slot_length))) ∙ (sym (get_or-drop (head_length + k * name_slot_length) b 0 0) ∙ ap (λ (s : List ℕ). byte_at s 0) e)

pub name-of-slot : (b n z : List ℕ) (k : ℕ) → drop (head_length + k * name_slot_length) b ≡ name_slot n ++ z → name_at b k ≡ n
name-of-slot b n z k e =
    let zeros : List ℕ = replicate (16 - suc (length n)) 0 in
    let next : (head_length + k * name_slot_length) + 1 ≡ head_length + 1 + k * name_slot_length = omega arith in
    let bytes : drop (head_length + 1 + k * name_slot_length) b ≡ n ++ (zeros ++ z)
    = ap (λ (j : ℕ). drop j b) (sym next) ∙ (sym (drop-drop 1 (head_length + k * name_slot_length) b) ∙ (ap (drop 1) e ∙ append_assoc n zeros z)) in
    ap₂ take (size-of-slot b n z k e) bytes ∙ take-append_seam n (zeros ++ z)

pub transition_of-slot : (b z : List ℕ) (st : Step) (k : ℕ) → drop (transitions_at + k * transition_length) b ≡ transition_slot st ++ z → transition_at b k ≡ st
transition_of-slot b z st k e =
    let first : byte_at b (transitions_at + k * transition_length) ≡ st.from = at 0 (omega arith) in
    let second : byte_at b ((transitions_at + 1) + k * transition_length) ≡ st.label = at 1 (omega arith) in
    let third : byte_at b ((transitions_at + 2) + k * transition_length) ≡ st.to = at 2 (omega arith) in
    λ i. record { from = first i; label = second i; to = third i }
  where
    at : (i : ℕ) {j : ℕ} → (transitions_at + k * transition_length) + i ≡ j → byte_at b j ≡ get_or (transition_slot st ++ z) i 0
    at i d = ap (byte_at b) (sym d) ∙ (sym (get_or-drop (transitions_at + k * transition_length) b i 0) ∙ ap (λ (s : List ℕ). get_or s i 0) e)

module _ (t : Table) (r : InRange t) where
  pub names_sized : (n : List ℕ) → Memᴰ n t.names → length (name_slot n) ≡ 16
  names_sized n m = padded-length 16 (length n ∷ n) (omega (arith, (name_shape n (r.named n m)).short))

  names-fit : length (bind name_slot t.names) ≤ names_length
  names-fit = omega (arith, slots_length_lem name_slot 16 t.names names_sized, r.few_labels)

  transitions-fit : length (bind transition_slot t.transitions) ≤ transitions_length
  transitions-fit = omega (arith, slots_length_lem transition_slot 3 t.transitions (λ st m. refl), r.few_transitions)

  pub name-slots-length : length (name_slots t) ≡ names_length
  name-slots-length = padded-length names_length (bind name_slot t.names) names-fit

  pub transition_slots-length : length (transition_slots t) ≡ transitions_length
  transition_slots-length = padded-length transitions_length (bind transition_slot t.transitions) transitions-fit

  pub table-bytes-length : length (table_bytes t) ≡ table_length
  unfolding table_bytes
  table-bytes-length = omega (arith, length-append (name_slots t) (transition_slots t), name-slots-length, transition_slots-length)

  name-bytes : Bytes (bind name_slot t.names)
  name-bytes b m = let (n, d, e) = bind-of name_slot t.names m in
      let shape = name_shape n (r.named n d) in
      padded-bytes 16 (length n ∷ n) (bytes-cons (omega (arith, shape.short)) (λ x k. omega (arith, (shape.bytes x k).1))) b e

  transition_bytes : Bytes (bind transition_slot t.transitions)
  transition_bytes b m = let (st, d, e) = bind-of transition_slot t.transitions m in
      let k = r.steps_in_range st d in
      bytes-cons (omega (arith, k.leaves, r.few_states))
      (bytes-cons (omega (arith, k.labelled, r.few_labels)) (bytes-cons (omega (arith, k.enters, r.few_states)) bytes-none)) b e

  -- Every byte is below 256.
  pub table-bytes-bytes : Bytes (table_bytes t)
  unfolding table_bytes
  table-bytes-bytes =
      bytes_append (low_first 2 t.states) (low_first-bytes 2 t.states)
      (bytes-cons (omega (arith, r.few_labels))
      (bytes_append (low_first 2 (length t.transitions)) (low_first-bytes 2 (length t.transitions))
      (bytes-cons (omega (arith, r.starts, r.few_states))
      (bytes_append (name_slots t) (padded-bytes names_length (bind name_slot t.names) name-bytes) (padded-bytes transitions_length (bind transition_slot t.transitions) transition_bytes)))))

  module _ (rest : List ℕ) where
    abbrev pub whole : List ℕ
    whole = table_bytes t ++ rest

    pub names-behind : drop 6 whole ≡ name_slots t ++ (transition_slots t ++ rest)
    unfolding table_bytes
    names-behind = append_assoc (name_slots t) (transition_slots t) rest

    pub transitions-behind : drop transitions_at whole ≡ transition_slots t ++ rest
    transitions-behind =
        sym (drop-drop names_length 6 whole) ∙ (ap (drop names_length) names-behind ∙ drop_at (name_slots t) (transition_slots t ++ rest) names_length name-slots-length)

    pub name-slot-there : (k : ℕ) → k < labels t → (z : List ℕ) × (drop (head_length + k * name_slot_length) whole ≡ name_slot (get_or t.names k []) ++ z)
    name-slot-there k h =
        let zeros : List ℕ = replicate (names_length - length (bind name_slot t.names)) 0 in
        let (z, e) = slot_at name_slot 16 t.names k [] (zeros ++ (transition_slots t ++ rest)) names_sized h in (
          z,
          sym (drop-drop (k * name_slot_length) 6 whole)
              ∙ (ap (drop (k * name_slot_length)) (names-behind ∙ append_assoc (bind name_slot t.names) zeros (transition_slots t ++ rest)) ∙ e),
        )

    name-there : (k : ℕ) → k < labels t → name_at whole k ≡ get_or t.names k []
    name-there k h = let (z, e) = name-slot-there k h in name-of-slot whole (get_or t.names k []) z k e

    transition_there : (k : ℕ) → k < length t.transitions → transition_at whole k ≡ get_or t.transitions k (idle_at 0)
    transition_there k h =
        let zeros : List ℕ = replicate (transitions_length - length (bind transition_slot t.transitions)) 0 in
        let (z, e) = slot_at transition_slot 3 t.transitions k (idle_at 0) (zeros ++ rest) (λ st m. refl) h in
        transition_of-slot whole z (get_or t.transitions k (idle_at 0)) k
        (sym (drop-drop (k * transition_length) transitions_at whole)
        ∙ (ap (drop (k * transition_length)) (transitions-behind ∙ append_assoc (bind transition_slot t.transitions) zeros rest) ∙ e))

    -- The table stands in its bytes.
    pub table_in_bytes : table_in (table_bytes t ++ rest) ≡ t
    unfolding table_in table_bytes
    table_in_bytes =
        let counted : length t.transitions % 256 + (length t.transitions / 256) % 256 * 256 ≡ length t.transitions
        = pair_value (length t.transitions) (omega (arith, r.few_transitions)) in
        let states_are : t.states % 256 + (t.states / 256) % 256 * 256 ≡ t.states = pair_value t.states (omega (arith, r.few_states)) in
        let names_are : map (name_at whole) (up_from 0 (labels t)) ≡ t.names
        = ext_get_or [] (map (name_at whole) (up_from 0 (labels t))) t.names (map-up_from-length (name_at whole) (labels t))
        (λ i h. let few : i < labels t = omega (arith, map-up_from-length (name_at whole) (labels t)) in
        map-up_from-at (name_at whole) (labels t) i [] few ∙ name-there i few) in
        let steps_are : map (transition_at whole) (up_from 0 (length t.transitions)) ≡ t.transitions
        = ext_get_or (idle_at 0) (map (transition_at whole) (up_from 0 (length t.transitions))) t.transitions (map-up_from-length (transition_at whole) (length t.transitions))
        (λ i h. let few : i < length t.transitions = omega (arith, map-up_from-length (transition_at whole) (length t.transitions)) in
        map-up_from-at (transition_at whole) (length t.transitions) i (idle_at 0) few ∙ transition_there i few) in
        let transitions-are = ap (λ (n : ℕ). map (transition_at whole) (up_from 0 n)) counted ∙ steps_are in
        λ i. record { states = states_are i; names = names_are i; transitions = transitions-are i; start = t.start }

-- The parts of the prepared bytes.
pub table_bytes_lem : (h : Header) (names : List (List ℕ)) (steps : List Step) → length names ≡ h.labels → length steps ≡ h.transitions
    → head_bytes h ++ (name_bytes names ++ step_bytes steps) ≡ table_bytes (record { states = h.states; names = names; transitions = steps; start = h.start })
unfolding table_bytes
table_bytes_lem h names steps e f = rw (e, f)
