-- Leading into a goal by steps that pass: as an inductive relation, as a search of as many rounds as the table has transitions, and along runs.
use mathlib.Core.Path.{◌≡◌, refl, sym, ap, ◌∙◌, subst}
use mathlib.Core.Logic.{◌⊎◌, inl, inr, ◌↔◌}
use mathlib.Core.Bool.{Bool, true, false, ◌&&◌, ◌||◌}
use mathlib.Core.List.{List, [], ◌∷◌, Memᴰ}
use Prim.Native.Nat.{ℕ, zero, suc, ◌≤◌, ◌<◌}
use native.Mathlib.Omega.{arith}
use lib.ListN.{length}
use Rattle.lts.specs.Lists.{any_of}
use Rattle.lts.specs.Steps.{Step, Table, IsStep}
use Rattle.lts.specs.inner.Steps.{steps_from}
use Rattle.lts.proofs.Booleans.{and-true-of, and-true-to, or-true-of, or-true-left, or_true_right}
use Rattle.lts.proofs.Lists.{some_of, some_to}
use Rattle.lts.proofs.StepsFrom.{From, steps_are}
use Rattle.actl.specs.Actions.{Mask, passes}
use Rattle.satisfaction.specs.Runs.{Run}
use Rattle.satisfaction.specs.inner.Holds.{within}
use Rattle.satisfaction.proofs.Runs.{onto, first_of, past}
use Rattle.satisfaction.specs.inner.Count.{count}
use Rattle.satisfaction.proofs.Count.{count_le, count-grows}

-- Zero or more steps that pass lead from a state into the goal.
pub data Leads (t : Table) (a : Mask) (P : ℕ → Type 0) : ℕ → Type 0 where
  now : {s : ℕ} → P s → Leads t a P s
  later : {s : ℕ} (x : From t s) → passes a x.0.label ≡ true → Leads t a P x.0.to → Leads t a P s

pub leads-map : {t : Table} {a : Mask} {P Q : ℕ → Type 0} → ((s : ℕ) → P s → Q s) → {s : ℕ} → Leads t a P s → Leads t a Q s
leads-map h (now p) = now (h _ p)
leads-map h (later x e u) = later x e (leads-map h u)

module _ (t : Table) (a : Mask) (goal : ℕ → Bool) where
  -- After n rounds.
  abbrev Round : ℕ → ℕ → Type 0
  Round n s = within t a goal n s ≡ true

  into : ℕ → Step → Bool
  into n st = passes a st.label && within t a goal n st.to

  round_goal : (n : ℕ) {s : ℕ} → goal s ≡ true → Round n s
  unfolding within
  round_goal zero e = e
  round_goal (suc n) {s} e = or-true-left (goal s) _ e

  round_step : (n : ℕ) {s : ℕ} (x : From t s) → passes a x.0.label ≡ true → Round n x.0.to → Round (suc n) s
  unfolding within into
  round_step n {s} x e h =
      or_true_right (goal s) _ (some_to (into n) (steps_from t s) ((steps_are t s x.0).1 (x.1, x.2)) (and-true-to (passes a x.0.label) _ e h))

  round_of : (n : ℕ) {s : ℕ} → Round (suc n) s → (goal s ≡ true) ⊎ ((x : From t s) × (passes a x.0.label ≡ true) × Round n x.0.to)
  unfolding within into
  round_of n {s} h = step (or-true-of (goal s) _ h)
    where
      step : (goal s ≡ true) ⊎ (any_of (into n) (steps_from t s) ≡ true) → (goal s ≡ true) ⊎ ((x : From t s) × (passes a x.0.label ≡ true) × Round n x.0.to)
      step (inl e) = inl e
      step (inr e) =
          let (st, m, d) = some_of (into n) (steps_from t s) e in
          let (b, i) = (steps_are t s st).0 m in
          let (f, g) = and-true-of (passes a st.label) _ d in
          inr ((st, b, i), f, g)

  pub within-leads : (n s : ℕ) → within t a goal n s ≡ true → Leads t a (λ v. goal v ≡ true) s
  unfolding within
  within-leads zero s h = now h
  within-leads (suc n) s h = step (within-leads n) (round_of n h)
    where
      step : ((v : ℕ) → Round n v → Leads t a (λ v. goal v ≡ true) v) → (goal s ≡ true) ⊎ ((x : From t s) × (passes a x.0.label ≡ true) × Round n x.0.to)
          → Leads t a (λ v. goal v ≡ true) s
      step k (inl e) = now e
      step k (inr (x, e, d)) = later x e (k x.0.to d)

  more : (n s : ℕ) → Round n s → Round (suc n) s
  unfolding within
  more zero s h = round_goal 1 h
  more (suc n) s h = elim (round_of n h) [ inl e ↦ round_goal (suc (suc n)) e | inr z ↦ round_step (suc n) z.0 z.1 (more n z.0.0.to z.2) ]

  -- A round that adds no state.
  abbrev Closed : ℕ → Type 0
  Closed n = (s : ℕ) → Round (suc n) s → Round n s

  closed_on : (n : ℕ) → Closed n → Closed (suc n)
  closed_on n c s h = elim (round_of (suc n) h) [ inl e ↦ round_goal (suc n) e | inr z ↦ round_step n z.0 z.1 (c z.0.0.to z.2) ]

  -- The transitions that leave a state of round n; an idle step adds no state, so these alone make a round grow.
  from_round : ℕ → Step → Bool
  from_round n st = within t a goal n st.from

  abbrev leaving : ℕ → ℕ
  leaving n = count (from_round n) t.transitions

  closed_if : (n : ℕ) → ((st : Step) → Memᴰ st t.transitions → from_round (suc n) st ≡ true → from_round n st ≡ true) → Closed n
  unfolding from_round
  closed_if n c s h = elim (round_of n h) [ inl e ↦ round_goal n e | inr z ↦ step z.0 z.2 z.0.2 ]
    where
      step : (x : From t s) → Round n x.0.to → IsStep t x.0 → Round n s
      step x d (inl m) = subst (Round n) x.1 (c x.0 m (subst (Round (suc n)) (sym x.1) h))
      step x d (inr (q, e)) = subst (Round n) (ap (λ (y : Step). y.to) q ∙ x.1) d

  closed-or-grown : (n : ℕ) → Closed n ⊎ (n < leaving (suc n))
  unfolding from_round
  closed-or-grown zero = step (count-grows (from_round 0) (from_round 1) (λ st. more 0 st.from) t.transitions)
    where
      step : ((st : Step) → Memᴰ st t.transitions → from_round 1 st ≡ true → from_round 0 st ≡ true) ⊎ (leaving 0 < leaving 1) → Closed 0 ⊎ (0 < leaving 1)
      step (inl c) = inl (closed_if 0 c)
      step (inr g) = inr (omega arith)
  closed-or-grown (suc n) = step (closed-or-grown n) (count-grows (from_round (suc n)) (from_round (suc (suc n))) (λ st. more (suc n) st.from) t.transitions)
    where
      step : Closed n ⊎ (n < leaving (suc n))
          → ((st : Step) → Memᴰ st t.transitions → from_round (suc (suc n)) st ≡ true → from_round (suc n) st ≡ true) ⊎ (leaving (suc n) < leaving (suc (suc n)))
          → Closed (suc n) ⊎ (suc n < leaving (suc (suc n)))
      step (inl c) d = inl (closed_on n c)
      step (inr g) (inl c) = inl (closed_if (suc n) c)
      step (inr g) (inr k) = inr (omega arith)

  -- As many rounds as there are transitions suffice.
  closed : Closed (length t.transitions)
  closed = step (closed-or-grown (length t.transitions))
    where
      step : Closed (length t.transitions) ⊎ (length t.transitions < leaving (suc (length t.transitions))) → Closed (length t.transitions)
      step (inl c) = c
      step (inr g) = absurd (omega (arith, count_le (from_round (suc (length t.transitions))) t.transitions))

  pub leads-within : {s : ℕ} → Leads t a (λ v. goal v ≡ true) s → within t a goal (length t.transitions) s ≡ true
  leads-within (now e) = round_goal (length t.transitions) e
  leads-within {s} (later x e u) = closed s (round_step (length t.transitions) x e (leads-within u))

  pub within-is-leads : (s : ℕ) → (within t a goal (length t.transitions) s ≡ true) ↔ Leads t a (λ v. goal v ≡ true) s
  within-is-leads s = (within-leads (length t.transitions) s, leads-within)

-- Along a run: some number of steps pass, and then the run is in Q.
module _ (t : Table) (a : Mask) (P : ℕ → Type 0) (Q : Step → Type 0) where
  abbrev pub Ahead : ℕ → Type 0
  Ahead s = (p : Run t s) × (i : ℕ) × ((j : ℕ) → j < i → passes a (p.step j).label ≡ true) × Q (p.step i)

  pub leads_ahead : ((v : ℕ) → P v → (p : Run t v) × Q (p.step 0)) → {s : ℕ} → Leads t a P s → Ahead s
  leads_ahead h (now d) = let (p, q) = h _ d in (p, 0, λ k l. absurd (omega arith), q)
  leads_ahead h (later x e u) =
      let (p, i, b, q) = leads_ahead h u in
      (onto t x p, suc i, λ k. elim k as (λ n. n < suc i → passes a ((onto t x p).step n).label ≡ true) [ zero ↦ λ l. e | suc j ↦ λ l. b j (omega arith) ], q)

  pub ahead_leads : ((v : ℕ) (p : Run t v) → Q (p.step 0) → P v) → (i s : ℕ) (p : Run t s) → ((j : ℕ) → j < i → passes a (p.step j).label ≡ true) → Q (p.step i)
      → Leads t a P s
  ahead_leads h zero s p b q = now (h s p q)
  ahead_leads h (suc i) s p b q = later (first_of t p) (b 0 (omega arith)) (ahead_leads h i (p.step 0).to (past t p) (λ j l. b (suc j) (omega arith)) q)
