-- Tests that agree at every state of a table agree along its steps: they lead from such a state to such a state.
use mathlib.Core.Path.{◌≡◌, refl, ap, ◌∙◌}
use mathlib.Core.Logic.{inl, inr}
use mathlib.Core.Bool.{Bool, ◌&&◌, ◌||◌}
use mathlib.Core.List.{List, [], ◌∷◌, Memᴰ}
use Prim.Native.Nat.{ℕ, zero, suc, ◌<◌}
use native.Mathlib.Omega.{arith}
use Rattle.lts.specs.Lists.{any_of}
use Rattle.lts.specs.Lists.{every}
use Rattle.lts.specs.Steps.{Step, Table, IsStep}
use Rattle.lts.specs.inner.Steps.{steps_from}
use Rattle.lts.specs.inner.Range.{InRange}
use Rattle.lts.proofs.StepsFrom.{steps_are}
use Rattle.actl.specs.Actions.{Mask, passes}
use Rattle.satisfaction.specs.inner.Holds.{within, enters}

module _ {A : Type 0} (p q : A → Bool) where
  pub some_same : (l : List A) → ((x : A) → Memᴰ x l → p x ≡ q x) → any_of p l ≡ any_of q l
  some_same [] h = refl
  some_same (x ∷ l) h = rw (h x (Memᴰ.head refl), some_same l (λ y m. h y (Memᴰ.tail m)))

  pub every-same : (l : List A) → ((x : A) → Memᴰ x l → p x ≡ q x) → every p l ≡ every q l
  every-same [] h = refl
  every-same (x ∷ l) h = rw (h x (Memᴰ.head refl), every-same l (λ y m. h y (Memᴰ.tail m)))

-- Two tests agree at every state.
abbrev pub Agree : Table → (ℕ → Bool) → (ℕ → Bool) → Type 0
Agree t p q = (s : ℕ) → s < t.states → p s ≡ q s

module _ (t : Table) (r : InRange t) where
  step-inside : (s : ℕ) → s < t.states → (st : Step) → Memᴰ st (steps_from t s) → st.to < t.states
  step-inside s h st m = let (e, i) = (steps_are t s st).0 m in go e i
    where
      go : st.from ≡ s → IsStep t st → st.to < t.states
      go e (inl n) = (r.steps_in_range st n).enters
      go e (inr (d, n)) = omega (arith, ap (λ (x : Step). x.to) d, e)

  module _ (p q : ℕ → Bool) (a : Agree t p q) where
    -- Steps whose labels pass a test, and that lead to where p, or q, holds.
    abbrev to_p : (ℕ → Bool) → Step → Bool
    to_p m st = m st.label && p st.to

    abbrev to_q : (ℕ → Bool) → Step → Bool
    to_q m st = m st.label && q st.to

    pub some_agree : (m : ℕ → Bool) → Agree t (λ s. any_of (to_p m) (steps_from t s)) (λ s. any_of (to_q m) (steps_from t s))
    some_agree m s h = some_same (to_p m) (to_q m) (steps_from t s) (λ st n. ap (λ b. m st.label && b) (a st.to (step-inside s h st n)))

    pub every_agree : (m : ℕ → Bool) → Agree t (λ s. every (to_p m) (steps_from t s)) (λ s. every (to_q m) (steps_from t s))
    every_agree m s h = every-same (to_p m) (to_q m) (steps_from t s) (λ st n. ap (λ b. m st.label && b) (a st.to (step-inside s h st n)))

  pub within_agree : (p q : ℕ → Bool) → Agree t p q → (m : Mask) (n : ℕ) → Agree t (within t m p n) (within t m q n)
  unfolding within
  within_agree p q a m zero s h = a s h
  within_agree p q a m (suc n) s h =
      ap (λ b. b || any_of (λ st. passes m st.label && within t m p n st.to) (steps_from t s)) (a s h)
      ∙ ap (λ b. q s || b) (some_agree (within t m p n) (within t m q n) (within_agree p q a m n) (passes m) s h)
