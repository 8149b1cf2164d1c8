-- The open places by state, when one slot more is looked at, before the first and behind the last.
use mathlib.Core.Path.{◌≡◌, refl, sym, ap, ◌∙◌, subst}
use mathlib.Core.Bool.{Bool, true, false, cond, not}
use mathlib.Core.List.{List}
use Prim.Native.Nat.{ℕ, ◌+◌, ◌-◌, ◌*◌, ◌/◌, ◌%◌, ◌^◌, ◌<◌, ◌≤◌}
use native.Mathlib.Decide.{ℕ_discrete, dec_lt}
use native.Mathlib.Omega.{arith}
use lib.Bits.{bit_xor}
use lib.Dec.{eqb}
use lib.ListN.{length, get_or, set, replicate, length-set, length-replicate, get_or-replicate}
use Rattle.actl.specs.Sizes.{most_nodes}
use Rattle.automaton.specs.inner.Sizes.{place_count, position_count}
use Rattle.lts.specs.Sizes.{most_states}
use Rattle.bits.specs.inner.Bits.{bit_at}
use Rattle.breadth_first.specs.inner.Slots.{closed, is_open}
use Rattle.breadth_first.specs.inner.Finding.{place_bit, Live, LiveBelow}
use Rattle.breadth_first.proofs.Laws.OpenPlaces.{bit_here, bit_set, bit_left}
use Rattle.breadth_first.proofs.Laws.MaskBits.{bit_turned, bit_kept, bit_all}

-- The open places: one slot more is looked at.
pub live_turn : {slots live : List ℕ} (q s : ℕ) → q ≤ most_nodes → s < most_states → LiveBelow (q * most_states + s) slots live
    → (v : ℕ) → v ≡ cond (eqb (get_or slots (q * most_states + s) 0) closed) (bit_xor (get_or live s 0) (2 ^ q)) (get_or live s 0) → LiveBelow (q * most_states + (s + 1)) slots (set live s v)
live_turn {slots} {live} q s h few l v e = record {
  long = length-set live s v ∙ l.long;
  done = λ p b. pick p (ℕ_discrete p (q * most_states + s)) b;
  rest = λ p a b. left p (λ d. omega arith) ∙ l.rest p (omega arith) b;
}
  where
    turn : Bool → ℕ
    turn b = cond b (bit_xor (get_or live s 0) (2 ^ q)) (get_or live s 0)

    same : (b : Bool) (r : ℕ) → (r ≡ q → ⊥) → bit_at (turn b) r ≡ bit_at (get_or live s 0) r
    same true r n = bit_kept (get_or live s 0) q r n
    same false r n = refl

    left : (p : ℕ) → (p ≡ q * most_states + s → ⊥) → place_bit (set live s v) p ≡ place_bit live p
    left = bit_left live q s few l.long v (λ r n. ap (λ m. bit_at m r) e ∙ same (eqb (get_or slots (q * most_states + s) 0) closed) r n)

    was : bit_at (get_or live s 0) q ≡ true
    was = sym (bit_here live q s few live) ∙ l.rest (q * most_states + s) (omega arith) (omega arith)

    turned : (b : Bool) → bit_at (turn b) q ≡ not b
    turned true = bit_turned (get_or live s 0) q ∙ ap not was
    turned false = was

    here : place_bit (set live s v) (q * most_states + s) ≡ is_open slots (q * most_states + s)
    here = bit_set live q s few l.long v ∙ (ap (λ m. bit_at m q) e ∙ turned (eqb (get_or slots (q * most_states + s) 0) closed))

    pick : (p : ℕ) → Dec (p ≡ q * most_states + s) → p < q * most_states + (s + 1) → place_bit (set live s v) p ≡ is_open slots p
    pick p (yes d) b = subst (λ k. place_bit (set live s v) k ≡ is_open slots k) (sym d) here
    pick p (no d) b = left p d ∙ l.done p (omega arith)

-- All places of all states, before a slot is looked at; and all of them, when what is left is open.
pub live-start : (slots : List ℕ) → LiveBelow 0 slots (replicate most_states (2 ^ place_count - 1))
live-start slots = record {
  long = length-replicate {A = ℕ} most_states (2 ^ place_count - 1);
  done = λ p b. absurd (omega arith);
  rest = λ p a b. ap (λ m. bit_at m (p / most_states)) (get_or-replicate {A = ℕ} most_states (p % most_states) (2 ^ place_count - 1) 0 (omega arith)) ∙ bit_all (p / most_states) (omega arith);
}

pub live-done : {n : ℕ} {slots live : List ℕ} → LiveBelow n slots live → ((p : ℕ) → n ≤ p → get_or slots p 0 ≡ 0) → Live slots live
live-done {n} {slots} {live} l none p b = pick (dec_lt p n)
  where
    pick : Dec (p < n) → place_bit live p ≡ is_open slots p
    pick (yes d) = l.done p d
    pick (no d) = l.rest p (omega arith) b ∙ sym (ap (λ k. not (eqb k closed)) (none p (omega arith)))
