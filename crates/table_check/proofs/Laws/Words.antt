-- Name slots compared by words: two slots that hold names hold the same one exactly if both their words are equal.
use mathlib.Core.Path.{◌≡◌, refl, sym, ap, ◌∙◌}
use mathlib.Core.Bool.{Bool, true, false}
use mathlib.Core.List.{List}
use Prim.Native.Nat.{ℕ, zero, suc, ◌+◌, ◌*◌, ◌≤◌, ◌<◌}
use native.Mathlib.Omega.{arith}
use borrow.Author.Tests.{leb-true, leb-false}
use lib.Dec.{leb}
use lib.ListN.{length, get_or, drop}
use lib.Seq.{get_or-take, get_or-drop, ext_get_or}
use Rattle.lts.specs.Sizes.{most_labels, name_slot_length, table_length}
use Rattle.lts.specs.inner.Sizes.{head_length}
use Rattle.lts.specs.inner.Prepared.{byte_at, name_at}
use Rattle.lts.specs.inner.Check.{NameHeld}
use Rattle.lts.proofs.Laws.SlotNames.{name-length, name-few}
use Rattle.byte_words.specs.inner.Words.{number}
use Rattle.byte_words.proofs.Laws.Words.{SameRun, first_of, of_first, run_after, run-number, number-run, sixteen_bytes}

module _ (b : List ℕ) (bytes : (i : ℕ) → byte_at b i < 256) (long : table_length ≤ length b) where
  -- Where a slot begins, and the length of the name in it.
  abbrev slot : ℕ → ℕ
  slot k = head_length + k * name_slot_length

  abbrev size : ℕ → ℕ
  size k = byte_at b (slot k)

  name-byte : (k i : ℕ) → i < size k → get_or (name_at b k) i 0 ≡ byte_at b (slot k + suc i)
  name-byte k i h =
      let place : head_length + 1 + k * name_slot_length + i ≡ slot k + suc i = omega arith in
      get_or-take (size k) (drop (head_length + 1 + k * name_slot_length) b) i 0 h
      ∙ (get_or-drop (head_length + 1 + k * name_slot_length) b i 0 ∙ ap (byte_at b) place)

  -- Two slots that hold names.
  module _ (j k : ℕ) (few-j : j < most_labels) (few-k : k < most_labels) (held-j : NameHeld b j) (held-k : NameHeld b k) where
    long-j : length (name_at b j) ≡ size j
    long-j = name-length b long j few-j (bytes (slot j))

    long_k : length (name_at b k) ≡ size k
    long_k = name-length b long k few-k (bytes (slot k))

    slots-name : SameRun b b 16 (slot j) (slot k) → name_at b j ≡ name_at b k
    slots-name same =
        let sizes : size j ≡ size k = first_of b b (slot j) (slot k) (same 0 (omega arith)) in
        let short = (name-few b long j few-j (bytes (slot j)) held-j.name).1 in
        ext_get_or 0 (name_at b j) (name_at b k) (long-j ∙ (sizes ∙ sym long_k))
        (λ i h.
        name-byte j i (omega (arith, long-j))
        ∙ (same (suc i) (omega (arith, long-j, short)) ∙ sym (name-byte k i (omega (arith, long-j, sizes)))))

    name-slots : name_at b j ≡ name_at b k → SameRun b b 16 (slot j) (slot k)
    name-slots e zero h = of_first b b (slot j) (slot k) (sym long-j ∙ (ap length e ∙ long_k))
    name-slots e (suc i) h = case (leb (suc i) (size j)) refl
      where
        sizes : size j ≡ size k
        sizes = sym long-j ∙ (ap length e ∙ long_k)

        case : (t : Bool) → leb (suc i) (size j) ≡ t → byte_at b (slot j + suc i) ≡ byte_at b (slot k + suc i)
        case true t =
            let inside = leb-true (suc i) (size j) t in
            sym (name-byte j i inside) ∙ (ap (λ l. get_or l i 0) e ∙ name-byte k i (omega (arith, inside, sizes)))
        case false t =
            let outside = leb-false (suc i) (size j) t in
            held-j.behind (slot j + suc i) (omega (arith, outside)) (omega arith)
            ∙ sym (held-k.behind (slot k + suc i) (omega (arith, outside, sizes)) (omega arith))

    pub words-name : number 8 (drop (head_length + j * name_slot_length) b) ≡ number 8 (drop (head_length + k * name_slot_length) b)
        → number 8 (drop (head_length + j * name_slot_length + 8) b) ≡ number 8 (drop (head_length + k * name_slot_length + 8) b)
        → name_at b j ≡ name_at b k
    words-name e f =
        let both : number 16 (drop (slot j) b) ≡ number 16 (drop (slot k) b) =
        sixteen_bytes b (slot j) ∙ ((λ z. e z + f z * 18446744073709551616) ∙ sym (sixteen_bytes b (slot k))) in
        slots-name (number-run b b bytes bytes 16 (slot j) (slot k) both)

    pub name-first-words : name_at b j ≡ name_at b k
        → number 8 (drop (head_length + j * name_slot_length) b) ≡ number 8 (drop (head_length + k * name_slot_length) b)
    name-first-words e = run-number b b 8 (slot j) (slot k) (λ i h. name-slots e i (omega arith))

    pub name-second-words : name_at b j ≡ name_at b k
        → number 8 (drop (head_length + j * name_slot_length + 8) b) ≡ number 8 (drop (head_length + k * name_slot_length + 8) b)
    name-second-words e =
        run-number b b 8 (slot j + 8) (slot k + 8) (λ i h. run_after b b 16 8 (slot j) (slot k) (name-slots e) i (omega arith))
