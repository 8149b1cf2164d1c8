-- The names in a prepared table's slots: how long they are, where they end, and looking one up.
use mathlib.Core.Path.{◌≡◌, refl, sym, ap, ◌∙◌}
use mathlib.Core.Bool.{Bool, true, false, cond}
use mathlib.Core.List.{List, ◌∷◌, ◌++◌, map}
use mathlib.Core.Option.{some}
use Prim.Native.Nat.{ℕ, zero, suc, ◌+◌, ◌*◌, ◌≤◌, ◌<◌}
use native.Mathlib.Omega.{arith}
use borrow.Author.Tests.{leb-true, leb-false}
use lib.Dec.{leb}
use lib.ListN.{length, get_or, take, drop, length-take, length-drop, take-append-drop}
use lib.Seq.{length-take-le, get_or-take, get_or-drop, ext_get_or, drop-cons, drop-drop}
use Rattle.lts.specs.Sizes.{most_labels, name_slot_length, table_length}
use Rattle.lts.specs.inner.Sizes.{names_length}
use Rattle.lts.specs.inner.Sizes.{head_length}
use Rattle.columns.specs.Bytes.{same_bytes}
use Rattle.columns.proofs.Laws.Compared.{same-of_unequal}
use Rattle.lts.specs.inner.Lists.{up_from}
use Rattle.lts.specs.Steps.{labels}
use Rattle.lts.specs.inner.Sizes.{longest_name}
use Rattle.lts.specs.Names.{is_name, find_from, lookup}
use Rattle.lts.specs.inner.NameEnds.{name_length, name_end}
use Rattle.lts.specs.inner.Prepared.{table_in, byte_at, name_at}
use Rattle.lts.specs.inner.Slots.{stored_name, stored_names}
use Rattle.lts.specs.inner.Check.{NameHeld}
use Rattle.lts.proofs.Laws.Contents.{labels_in}
use Rattle.lts.proofs.Laws.NameRuns.{name-short, run-is-name, name-is-run}

-- Beginnings of one length.
prefix_same : (n : ℕ) (a c : List ℕ) → n ≤ length a → n ≤ length c → ((i : ℕ) → i < n → get_or a i 0 ≡ get_or c i 0) → take n a ≡ take n c
prefix_same n a c p q h =
    ext_get_or 0 (take n a) (take n c) (length-take-le n a p ∙ sym (length-take-le n c q))
    (λ i k. let few : i < n = omega (arith, length-take-le n a p) in get_or-take n a i 0 few ∙ (h i few ∙ sym (get_or-take n c i 0 few)))

module _ (b : List ℕ) (long : table_length ≤ length b) where
  module _ (k : ℕ) (few : k < most_labels) where
    abbrev at : ℕ
    at = head_length + 1 + k * name_slot_length

    abbrev size : ℕ
    size = byte_at b (head_length + k * name_slot_length)

    -- A slot's first byte is the length of its name.
    pub name-length : byte_at b (head_length + k * name_slot_length) < 256 → length (name_at b k) ≡ byte_at b (head_length + k * name_slot_length)
    name-length small = length-take-le size (drop at b) (omega (arith, length-drop at b))

    pub name-few : byte_at b (head_length + k * name_slot_length) < 256 → is_name (name_at b k) ≡ true
        → (1 ≤ byte_at b (head_length + k * name_slot_length)) × (byte_at b (head_length + k * name_slot_length) ≤ longest_name)
    name-few small e = omega (arith, name-length small, (name-short (name_at b k) e).0, (name-short (name_at b k) e).1)

    -- A slot holds a name exactly if the longest name there ends where the slot says, and zeros follow.
    pub held-end : byte_at b (head_length + k * name_slot_length) < 256 → NameHeld b k
        → name_end b (head_length + 1 + k * name_slot_length) ≡ (head_length + 1 + k * name_slot_length) + byte_at b (head_length + k * name_slot_length)
    held-end small h =
        let fits = name-few small h.name in
        let behind : drop (at + size) b ≡ 0 ∷ drop (suc (at + size)) b =
        drop-cons b (at + size) 0 (omega (arith, fits.1)) ∙ ap (λ x. x ∷ drop (suc (at + size)) b) (h.behind (at + size) (omega arith) (omega (arith, fits.1))) in
        let parts : drop at b ≡ name_at b k ++ (0 ∷ drop (suc (at + size)) b) = sym (take-append-drop size (drop at b)) ∙ ap (λ l. name_at b k ++ l) (drop-drop size at b ∙ behind) in
        let run : name_length (drop at b) ≡ size = ap name_length parts ∙ (name-is-run 0 (drop (suc (at + size)) b) refl refl (name_at b k) h.name ∙ name-length small) in
        ap (λ n. at + n) run

    pub end-held : name_end b (head_length + 1 + k * name_slot_length) ≡ (head_length + 1 + k * name_slot_length) + byte_at b (head_length + k * name_slot_length)
        → (name_end b (head_length + 1 + k * name_slot_length) ≡ head_length + 1 + k * name_slot_length → ⊥) → is_name (name_at b k) ≡ true
    end-held e longer =
        let run : name_length (drop at b) ≡ size = omega arith in
        ap (λ n. is_name (take n (drop at b))) (sym run) ∙ (run-is-name (drop at b) (omega (arith, longer))).1

  -- The slots as a part of the table.
  abbrev slots : List ℕ
  slots = take names_length (drop 6 b)

  slots_length_lem : length slots ≡ names_length
  slots_length_lem = length-take-le names_length (drop 6 b) (omega (arith, length-drop 6 b))

  slot-byte : (i : ℕ) → i < names_length → get_or slots i 0 ≡ byte_at b (6 + i)
  slot-byte i h = get_or-take names_length (drop 6 b) i 0 h ∙ get_or-drop 6 b i 0

  module _ (name : List ℕ) (short : length name ≤ longest_name) where
    same_stored : (k : ℕ) → k < most_labels → same_bytes (stored_name slots k) name ≡ same_bytes (name_at b k) name
    same_stored k few = case (leb (size k few) longest_name) refl
      where
        first : get_or slots (k * name_slot_length) 0 ≡ size k few
        first = slot-byte (k * name_slot_length) (omega arith)

        case : (t : Bool) → leb (size k few) longest_name ≡ t → same_bytes (stored_name slots k) name ≡ same_bytes (name_at b k) name
        case true e =
            let h = leb-true (size k few) longest_name e in
            ap (λ l. same_bytes l name) (ap (λ n. take n (drop (k * name_slot_length + 1) slots)) first
            ∙ prefix_same (size k few) (drop (k * name_slot_length + 1) slots) (drop (at k few) b) (omega (arith, length-drop (k * name_slot_length + 1) slots, slots_length_lem))
            (omega (arith, length-drop (at k few) b))
            (λ i l.
            let place : head_length + (k * name_slot_length + 1 + i) ≡ head_length + 1 + k * name_slot_length + i = omega arith in
            get_or-drop (k * name_slot_length + 1) slots i 0 ∙ (slot-byte (k * name_slot_length + 1 + i) (omega arith) ∙ (ap (byte_at b) place ∙ sym (get_or-drop (at k few) b i 0)))))
        case false e =
            let h = leb-false (size k few) longest_name e in
            same-of_unequal (stored_name slots k) name
            (λ z. omega (
              arith,
              first,
              ap length z,
              length-take (get_or slots (k * name_slot_length) 0) (drop (k * name_slot_length + 1) slots),
              length-drop (k * name_slot_length + 1) slots,
              slots_length_lem,
            ))
            ∙ sym (same-of_unequal (name_at b k) name (λ z. omega (arith, ap length z, length-take (size k few) (drop (at k few) b), length-drop (at k few) b)))

    found_stored : (j i n : ℕ) → i + n ≤ 40 → find_from j (map (stored_name slots) (up_from i n)) name ≡ find_from j (map (name_at b) (up_from i n)) name
    unfolding find_from
    found_stored j i zero h = refl
    found_stored j i (suc n) h =
        (λ z. cond (same_stored i (omega arith) z) (some j) (found_stored (suc j) (suc i) n (omega arith) z))

    pub table-lookup : (n : ℕ) → n ≡ labels (table_in b) → n ≤ 40 → lookup (stored_names (take names_length (drop 6 b)) n) name ≡ lookup (table_in b).names name
    unfolding table_in
    table-lookup n e h = found_stored 1 0 n (omega arith) ∙ ap (λ m. lookup (map (name_at b) (up_from 0 m)) name) (e ∙ labels_in b)
