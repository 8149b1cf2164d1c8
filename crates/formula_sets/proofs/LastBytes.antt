-- The direction of a label, by the last byte of its name in a prepared table.
use mathlib.Core.Path.{◌≡◌, refl, sym, ap, ◌∙◌}
use mathlib.Core.Bool.{true, cond}
use mathlib.Core.List.{List, [], ◌∷◌}
use Prim.Native.Nat.{ℕ, zero, suc, ◌+◌, ◌*◌, ◌-◌, ◌<◌}
use native.Mathlib.Omega.{arith}
use borrow.Author.Tests.{ne_eqb}
use lib.ListN.{length, get_or, drop}
use lib.Seq.{get_or-take, get_or-drop}
use lib.Dec.{eqb}
use Rattle.lts.specs.Names.{is_name}
use Rattle.lts.specs.Sizes.{name_slot_length}
use Rattle.lts.specs.Steps.{labels}
use Rattle.lts.specs.Directions.{received, sent, neither, direction_of, direction_of_mark, label_direction}
use Rattle.lts.specs.inner.Sizes.{head_length}
use Rattle.lts.specs.inner.HoldsTable.{HoldsTable}
use Rattle.lts.specs.inner.Prepared.{table_in, name_at, byte_at}
use Rattle.lts.proofs.Lists.{get_d_mem}
use Rattle.lts.proofs.Laws.Contents.{name_in_lem}
use Rattle.lts.proofs.Laws.NameRuns.{name-short}
use Rattle.lts.proofs.Laws.SlotNames.{name-length}
use Rattle.actl.specs.inner.Readers.{names_in}

last_tells : (l : List ℕ) (n : ℕ) → length l ≡ suc n → direction_of l ≡ direction_of_mark (get_or l n 0)
last_tells [] n h = absurd (omega arith)
last_tells (b ∷ []) zero h = refl
last_tells (b ∷ []) (suc n) h = absurd (omega arith)
last_tells (b ∷ c ∷ l) zero h = absurd (omega arith)
last_tells (b ∷ c ∷ l) (suc n) h = last_tells (c ∷ l) n (omega arith)

pub label_by_last : (b : List ℕ) (k end : ℕ) → HoldsTable b → k < labels (table_in b)
    → end ≡ head_length + 1 + k * name_slot_length + byte_at b (head_length + k * name_slot_length) → byte_at b (head_length + k * name_slot_length) < 256
    → label_direction (names_in b) (suc k) ≡ direction_of_mark (get_or b (end - 1) 0)
label_by_last b k end h few e small =
    let at = head_length + 1 + k * name_slot_length in
    let size = byte_at b (head_length + k * name_slot_length) in
    let here : get_or (table_in b).names k [] ≡ name_at b k = name_in_lem b k [] few in
    let is_name : is_name (name_at b k) ≡ true = ap is_name (sym here) ∙ h.in_range.named (get_or (table_in b).names k []) (get_d_mem (table_in b).names k [] few) in
    let sized : length (name_at b k) ≡ size = name-length b h.long k (omega (arith, few, h.in_range.few_labels)) small in
    let some_byte = (name-short (name_at b k) is_name).0 in
    let place : at + (size - 1) ≡ end - 1 = omega arith in
    ap direction_of here ∙ (last_tells (name_at b k) (size - 1) (omega arith)
    ∙ ap direction_of_mark (get_or-take size (drop at b) (size - 1) 0 (omega arith) ∙ (get_or-drop at b (size - 1) 0 ∙ ap (λ i. get_or b i 0) place)))

pub no-mark : (b : ℕ) → (b ≡ 63 → ⊥) → (b ≡ 33 → ⊥) → direction_of_mark b ≡ neither
no-mark b p q = ap (λ t. cond t received (cond (eqb b 33) sent neither)) (ne_eqb b 63 p) ∙ ap (λ t. cond t sent neither) (ne_eqb b 33 q)
