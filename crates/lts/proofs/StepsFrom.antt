-- The steps that leave a state: those of `steps_from` are the table's, idle steps included, and every state has one. They keep to the 256
-- states and the table's labels.
use mathlib.Core.Path.{◌≡◌, refl, sym, ap, ◌∙◌, subst}
use mathlib.Core.Logic.{◌⊎◌, inl, inr, ◌↔◌}
use mathlib.Core.List.Memᴰ
use mathlib.Core.List.{List, [], ◌∷◌, Memᴰ}
use Prim.Native.Nat.{ℕ, suc, ◌≤◌, ◌<◌}
use native.Mathlib.Decide.{dec_le, ℕ_discrete}
use native.Mathlib.Omega.{arith}
use borrow.Author.Tests.{eqb-true, eq-eqb}
use Rattle.lts.specs.Sizes.{most_labels}
use Rattle.lts.specs.inner.Lists.{up_from, keep, or_else}
use Rattle.lts.specs.Lists.{Rising}
use Rattle.lts.specs.Steps.{Step, Table, labels, IsStep, Exitless}
use Rattle.lts.specs.Idle.{idle_label}
use Rattle.lts.specs.inner.Steps.{Carried, idle_at, leaves, steps_from, alphabet}
use Rattle.lts.specs.inner.Range.{InRange}
use Rattle.lts.proofs.Lists.{keep-of, keep-to, up_from-of, up_from-to, up_from-rising, rising_append}

pub carried-within : {n l : ℕ} → n ≤ most_labels → (l ≤ n) ⊎ (l ≡ idle_label) → Carried l
carried-within h (inl x) = inl (omega arith)
carried-within h (inr e) = inr e

-- 99 is the highest.
pub carried-most : {l : ℕ} → Carried l → l ≤ idle_label
carried-most (inl h) = omega arith
carried-most (inr e) = omega arith

pub carried_decided : (l : ℕ) → Dec (Carried l)
carried_decided l = case (dec_le l most_labels) (ℕ_discrete l idle_label)
  where
    case : Dec (l ≤ most_labels) → Dec (l ≡ idle_label) → Dec (Carried l)
    case (yes h) d = yes (inl h)
    case (no h) (yes e) = yes (inr e)
    case (no h) (no e) = no (λ c. elim c [ inl x ↦ h x | inr x ↦ e x ])

-- A step that leaves s.
abbrev pub From : Table → ℕ → Type 0
From t s = (st : Step) × (st.from ≡ s) × IsStep t st

module _ (t : Table) (s : ℕ) where
  abbrev Leaving : List Step → Type 0
  Leaving l = keep (leaves s) t.transitions ≡ l

  leaving-of : {l : List Step} {st : Step} → Leaving l → Memᴰ st l → (st.from ≡ s) × Memᴰ st t.transitions
  leaving-of {l} {st} e m =
      let d = keep-of (leaves s) t.transitions (subst (λ (z : List Step). Memᴰ st z) (sym e) m) in
      (eqb-true st.from s d.1, d.0)

  leaving-to : {l : List Step} {st : Step} → Leaving l → st.from ≡ s → Memᴰ st t.transitions → Memᴰ st l
  leaving-to {l} {st} e d m = subst (λ (z : List Step). Memᴰ st z) e (keep-to (leaves s) t.transitions m (eq-eqb st.from s d))

  exitless : Leaving [] → (v : ℕ) → v ≡ s → Exitless t v
  exitless e v d x m h = Memᴰ.not-nil (leaving-to e (h ∙ d) m)

  step-of : {st : Step} (l : List Step) → Leaving l → Memᴰ st (or_else l (idle_at s ∷ [])) → (st.from ≡ s) × IsStep t st
  step-of {st} [] e m =
      let q = Memᴰ.eq_of_singleton m in
      let d : st.from ≡ s = ap (λ (x : Step). x.from) q in
      (d, inr (q ∙ ap idle_at (sym d), exitless e st.from d))
  step-of (x ∷ l) e m = let (d, n) = leaving-of e m in (d, inl n)

  step-to : {st : Step} (l : List Step) → Leaving l → st.from ≡ s → IsStep t st → Memᴰ st (or_else l (idle_at s ∷ []))
  step-to [] e d (inl m) = absurd (Memᴰ.not-nil (leaving-to e d m))
  step-to [] e d (inr (q, n)) = Memᴰ.head (q ∙ ap idle_at d)
  step-to (x ∷ l) e d (inl m) = leaving-to e d m
  step-to (x ∷ l) e d (inr (q, n)) = let (b, m) = leaving-of {l = x ∷ l} e (Memᴰ.head refl) in absurd (n x m (b ∙ sym d))

  pub steps_are : (st : Step) → Memᴰ st (steps_from t s) ↔ ((st.from ≡ s) × IsStep t st)
  unfolding steps_from
  steps_are st = (step-of (keep (leaves s) t.transitions) refl, λ (d, i). step-to (keep (leaves s) t.transitions) refl d i)

  some-of_these : (l : List Step) → (st : Step) × Memᴰ st (or_else l (idle_at s ∷ []))
  some-of_these [] = (idle_at s, Memᴰ.head refl)
  some-of_these (x ∷ l) = (x, Memᴰ.head refl)

  -- Every state has a step.
  pub total : From t s
  unfolding steps_from
  total = let (st, m) = some-of_these (keep (leaves s) t.transitions) in let (d, i) = (steps_are st).0 m in (st, d, i)

module _ (t : Table) (r : InRange t) where
  pub step-below : (s : ℕ) → s < 256 → (st : Step) → Memᴰ st (steps_from t s) → st.to < 256
  step-below s h st m = let (e, i) = (steps_are t s st).0 m in go e i
    where
      go : st.from ≡ s → IsStep t st → st.to < 256
      go e (inl n) = omega (arith, r.few_states, (r.steps_in_range st n).enters)
      go e (inr (d, n)) = omega (arith, ap (λ (x : Step). x.to) d, e)

  pub step-labelled : {st : Step} → IsStep t st → (st.label ≤ labels t) ⊎ (st.label ≡ idle_label)
  step-labelled {st} (inl n) = inl (r.steps_in_range st n).labelled
  step-labelled (inr (d, n)) = inr (ap (λ (x : Step). x.label) d)

  pub step-carried : {st : Step} → IsStep t st → Carried st.label
  step-carried i = carried-within r.few_labels (step-labelled i)

  -- A step is labelled 99 exactly if it leaves a state without exits; a written silent loop is not.
  pub idle_exactly : {st : Step} → IsStep t st → (st.label ≡ idle_label) ↔ Exitless t st.from
  idle_exactly {st} (inl n) = (λ e. absurd (omega (arith, (r.steps_in_range st n).labelled, r.few_labels)), λ x. absurd (x st n refl))
  idle_exactly (inr (d, n)) = (λ e. n, λ x. ap (λ (y : Step). y.label) d)

  -- The alphabet has the label of every step, and rises.
  pub step_in_alphabet : {st : Step} → IsStep t st → Memᴰ st.label (alphabet t)
  step_in_alphabet {st} i = elim (step-labelled i) [
    | inl h ↦ Memᴰ.append_left (idle_label ∷ []) (up_from-to 0 (suc (labels t)) st.label (omega arith) (omega arith))
    | inr e ↦ Memᴰ.append_right (up_from 0 (suc (labels t))) (Memᴰ.head e)
  ]

  pub alphabet-rising : Rising ◌<◌ (alphabet t)
  alphabet-rising =
      rising_append ◌<◌ (up_from 0 (suc (labels t))) (idle_label ∷ []) (up_from-rising 0 (suc (labels t))) (λ y m. absurd (Memᴰ.not-nil m), tt)
      (λ x y m n. omega (arith, (up_from-of 0 (suc (labels t)) m).1, Memᴰ.eq_of_singleton n, r.few_labels))
