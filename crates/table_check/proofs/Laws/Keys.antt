-- Laws of keys: of bytes, transitions rise exactly if their keys do; and what slots with rising keys hold.
use mathlib.Core.Path.{◌≡◌, refl, ap}
use mathlib.Core.Logic.{◌⊎◌, inl, inr}
use mathlib.Core.List.{List}
use Prim.Native.Nat.{ℕ, zero, suc, ◌+◌, ◌*◌, ◌≤◌, ◌<◌}
use native.Mathlib.Nat.{eq-or-lt_of_le}
use native.Mathlib.Omega.{arith}
use Rattle.lts.specs.Sizes.{transition_length}
use Rattle.lts.specs.inner.Sizes.{transitions_at}
use Rattle.lts.specs.Steps.{Step}
use Rattle.lts.specs.inner.Range.{Below}
use Rattle.lts.specs.inner.Prepared.{byte_at, transition_at}
use Rattle.lts.specs.inner.Check.{TransitionHeld}
use Rattle.table_check.specs.inner.Keys.{step_key, SlotHeld}

key_below : (a b : Step) → b.label < 256 → b.to < 256 → step_key a < step_key b → Below a b
key_below a b l t h = state (eq-or-lt_of_le (omega arith))
  where
    label : a.from ≡ b.from → (a.label ≡ b.label) ⊎ (a.label < b.label)
        → (a.label < b.label) ⊎ ((a.label ≡ b.label) × (a.to < b.to))
    label e (inl d) = inr (d, omega arith)
    label e (inr m) = inl m

    state : (a.from ≡ b.from) ⊎ (a.from < b.from) → Below a b
    state (inl e) = inr (e, label e (eq-or-lt_of_le (omega arith)))
    state (inr m) = inl m

below_key : (a b : Step) → a.label < 256 → a.to < 256 → Below a b → step_key a < step_key b
below_key a b l t (inl m) = omega arith
below_key a b l t (inr (e, inl m)) = omega arith
below_key a b l t (inr (e, inr (d, m))) = omega arith

-- The least key that may stand in slot k is above the one before.
pub record Least (b : List ℕ) (k least : ℕ) : Type 0 where
  pub first : k ≡ 0 → least ≡ 0
  pub later : (j : ℕ) → suc j ≡ k → least ≡ suc (step_key (transition_at b j))

-- A slot whose key is below `least`, in range but for the state that is left, and above the slot before.
pub record Passed (b : List ℕ) (states most least k : ℕ) : Type 0 where
  pub labelled : (transition_at b k).label ≤ most
  pub enters : (transition_at b k).to < states
  pub rises : (j : ℕ) → suc j ≡ k → Below (transition_at b j) (transition_at b k)
  pub under : step_key (transition_at b k) < least

pub least_next : (b : List ℕ) (k key : ℕ) → key ≡ step_key (transition_at b k) → Least b (k + 1) (key + 1)
least_next b k key e = record {
  first = λ z. absurd (omega arith);
  later = λ j d.
      let same : k ≡ j = omega arith in
      let keys : step_key (transition_at b k) ≡ step_key (transition_at b j) = ap (λ i. step_key (transition_at b i)) same in
      omega (arith, e, keys);
}

pub passed-more : {b : List ℕ} {states most : ℕ} (least more k : ℕ) → least ≤ more → Passed b states most least k
    → Passed b states most more k
passed-more least more k m p = record { labelled = p.labelled; enters = p.enters; rises = p.rises; under = omega (arith, p.under) }

module _ (b : List ℕ) (byte : (i : ℕ) → byte_at b i < 256) (states most : ℕ) where
  label_byte : (k : ℕ) → (transition_at b k).label < 256
  label_byte k = byte ((transitions_at + 1) + k * transition_length)

  to_byte : (k : ℕ) → (transition_at b k).to < 256
  to_byte k = byte ((transitions_at + 2) + k * transition_length)

  pub slot-passed : (least k key : ℕ) → key ≡ step_key (transition_at b k) → Least b k least → SlotHeld b states most least k
      → Passed b states most (key + 1) k
  slot-passed least k key same l s = record {
    labelled = s.labelled;
    enters = s.enters;
    rises = λ j e. key_below (transition_at b j) (transition_at b k) (label_byte k) (to_byte k) (omega (arith, l.later j e, s.rises));
    under = omega arith;
  }

  -- The last key is low enough for all of them.
  pub passed-held : (least k : ℕ) → least ≤ states * 65536 → Passed b states most least k → TransitionHeld b states most k
  passed-held least k m p = record { leaves = omega (arith, p.under); labelled = p.labelled; enters = p.enters; rises = p.rises }

  pub held-slot : (least k : ℕ) → Least b k least → TransitionHeld b states most k → SlotHeld b states most least k
  held-slot least k l h = record { labelled = h.labelled; enters = h.enters; rises = above k l h.rises }
    where
      above : (k : ℕ) → Least b k least → ((j : ℕ) → suc j ≡ k → Below (transition_at b j) (transition_at b k))
          → least ≤ step_key (transition_at b k)
      above zero l r = omega (arith, l.first refl)
      above (suc j) l r = omega (arith, l.later j refl, below_key (transition_at b j) (transition_at b (suc j)) (label_byte j) (to_byte j) (r j refl))

  pub held-last : (least n : ℕ) → Least b n least → ((k : ℕ) → k < n → TransitionHeld b states most k) → least ≤ states * 65536
  held-last least zero l h = omega (arith, l.first refl)
  held-last least (suc j) l h = omega (arith, l.later j refl, (h j (omega arith)).leaves, label_byte j, to_byte j)
