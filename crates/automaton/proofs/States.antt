-- Over the states of a table, a node of class 1 is shown exactly where it holds, and one of class 2 broken exactly where it does not.
use mathlib.Core.Path.{◌≡◌, refl, sym, ◌∙◌}
use mathlib.Core.Logic.{◌⊎◌, inl, inr, ◌↔◌}
use mathlib.Core.Bool.{Bool, true, false, true≢false, false≢true, not as negate, ◌&&◌}
use mathlib.Core.List.{List, [], ◌∷◌, Memᴰ}
use Prim.Native.Nat.{ℕ}
use Rattle.lts.specs.Lists.{every}
use Rattle.lts.specs.Steps.{Step, Table}
use Rattle.lts.specs.inner.Steps.{steps_from}
use Rattle.lts.proofs.Booleans.{or-true-of, or-true-left, or_true_right, not-true, not-false, is_false}
use Rattle.lts.proofs.StepsFrom.{From, steps_are}
use Rattle.actl.specs.Actions.{Mask, in_set, Cond, meets}
use Rattle.actl.specs.Formulas.{Formula, tru, not, or, ex, ax, eu, eu_then, is_t}
use Rattle.actl.proofs.Classes.{Witnessable, Refutable, arm_refutable}
use Rattle.satisfaction.specs.inner.Holds.{enters, holds}
use Rattle.satisfaction.proofs.Leads.{within-is-leads}
use Rattle.satisfaction.proofs.Leads as by
use Rattle.satisfaction.proofs.Satisfaction.{some-step, every-step}
use Rattle.automaton.proofs.Frames.{Frame, Until, now, later, Shows, Breaks}

-- A table as a frame: its states. A finite path may end anywhere, for an unending one extends it.
abbrev pub States : Table → Frame
States t = record { World = ℕ; Next = From t; lab = λ s x. x.0.label; to = λ s x. x.0.to; Done = λ s. Unit {0} }

module _ (t : Table) (a : Mask) {P Q : ℕ → Type 0} (h : (s : ℕ) → P s → Q s) where
  until-leads : {s : ℕ} → Until (States t) a P s → by.Leads t a Q s
  until-leads (now p) = by.now (h _ p)
  until-leads (later x e u) = by.later x e (until-leads u)

  leads-until : {s : ℕ} → by.Leads t a P s → Until (States t) a Q s
  leads-until (by.now p) = now (h _ p)
  leads-until (by.later x e u) = later x e (leads-until u)

and-false : (a b : Bool) → (a && b) ≡ false → (a ≡ false) ⊎ ((a ≡ true) × (b ≡ false))
and-false true b e = inr (refl, e)
and-false false b e = inl refl

every-false : {A : Type 0} (p : A → Bool) (l : List A) → every p l ≡ false → (x : A) × Memᴰ x l × (p x ≡ false)
every-false p [] e = absurd (true≢false e)
every-false p (x ∷ l) e = step (and-false (p x) (every p l) e) (every-false p l)
  where
    step : (p x ≡ false) ⊎ ((p x ≡ true) × (every p l ≡ false)) → (every p l ≡ false → (y : _) × Memᴰ y l × (p y ≡ false)) → (y : _) × Memᴰ y (x ∷ l) × (p y ≡ false)
    step (inl d) h = (x, Memᴰ.head refl, d)
    step (inr (d, c)) h = let (y, m, z) = h c in (y, Memᴰ.tail m, z)

negated_true : (b : Bool) → negate b ≡ false → b ≡ true
negated_true true e = refl
negated_true false e = absurd (true≢false e)

negated_false : (b : Bool) → b ≡ true → negate b ≡ false
negated_false true e = refl
negated_false false e = absurd (false≢true e)

module _ (t : Table) where
  abbrev Agrees : Formula → ℕ → Type 0
  Agrees f s = (Witnessable f → Shows f (States t) s ↔ (holds t f s ≡ true)) × (Refutable f → Breaks f (States t) s ↔ (holds t f s ≡ false))

  T_holds : (f : Formula) (s : ℕ) → is_t f ≡ true → holds t f s ≡ true
  unfolding holds
  T_holds tru s e = refl
  T_holds (not f) s e = absurd (false≢true e)
  T_holds (or f g) s e = absurd (false≢true e)
  T_holds (ex c f) s e = absurd (false≢true e)
  T_holds (ax c f) s e = absurd (false≢true e)
  T_holds (eu a f) s e = absurd (false≢true e)
  T_holds (eu_then a b f) s e = absurd (false≢true e)

  module _ (c : Cond) (f : Formula) (s : ℕ) (h : (v : ℕ) → Agrees f v) (o : (is_t f ≡ true) ⊎ Refutable f) where
    abbrev arrives : Step → Bool
    arrives st = meets c st.label && holds t f st.to

    all_fails : Breaks (ax c f) (States t) s → every arrives (steps_from t s) ≡ true → ⊥
    all_fails (inl (x, e, d)) n = true≢false (sym ((every-step t (meets c) (holds t f) s).0 n x).0 ∙ e)
    all_fails (inr (x, z, m, d)) n = true≢false (sym ((every-step t (meets c) (holds t f) s).0 n x).1 ∙ ((h x.0.to).1 (arm_refutable f z o)).0 d)

    arm_broken : (x : From t s) → meets c x.0.label ≡ true → holds t f x.0.to ≡ false → (b : Bool) → is_t f ≡ b → Breaks (ax c f) (States t) s
    arm_broken x m e true z = absurd (true≢false (sym (T_holds f x.0.to z) ∙ e))
    arm_broken x m e false z = inr (x, z, m, ((h x.0.to).1 (arm_refutable f z o)).1 e)

    all_broken : every arrives (steps_from t s) ≡ false → Breaks (ax c f) (States t) s
    all_broken e =
        let (st, m, d) = every-false arrives (steps_from t s) e in
        let (b, i) = (steps_are t s st).0 m in
        step (st, b, i) (and-false (meets c st.label) (holds t f st.to) d)
      where
        step : (x : From t s) → (meets c x.0.label ≡ false) ⊎ ((meets c x.0.label ≡ true) × (holds t f x.0.to ≡ false)) → Breaks (ax c f) (States t) s
        step x (inl e) = inl (x, e, tt)
        step x (inr (m, e)) = arm_broken x m e (is_t f) refl

    all_agrees : Breaks (ax c f) (States t) s ↔ (every arrives (steps_from t s) ≡ false)
    all_agrees = (λ d. is_false (every arrives (steps_from t s)) (all_fails d), all_broken)

  pub states_agree : (f : Formula) (s : ℕ) → Agrees f s
  unfolding holds
  states_agree tru s = (λ o. (λ d. refl, λ e. tt), λ z. absurd z)
  states_agree (not f) s = let h = states_agree f s in (
    λ o. (λ d. not-true (holds t f s) ((h.1 o).0 d), λ e. (h.1 o).1 (not-false (holds t f s) e)),
    λ o. (λ d. negated_false (holds t f s) ((h.0 o).0 d), λ e. (h.0 o).1 (negated_true (holds t f s) e)),
  )
  states_agree (or f g) s = let h = (states_agree f s).0 in let k = (states_agree g s).0 in (
    λ o. (
      λ d. elim d [ inl x ↦ or-true-left (holds t f s) (holds t g s) ((h o.0).0 x) | inr x ↦ or_true_right (holds t f s) (holds t g s) ((k o.1).0 x) ],
      λ e. elim (or-true-of (holds t f s) (holds t g s) e) [ inl x ↦ inl ((h o.0).1 x) | inr x ↦ inr ((k o.1).1 x) ],
    ),
    λ z. absurd z,
  )
  states_agree (ex c f) s = let k = some-step t (meets c) (holds t f) s in (
    λ o. (
      λ (x, e, d). k.1 (x, e, ((states_agree f x.0.to).0 o).0 d),
      λ e. let (x, m, d) = k.0 e in (x, m, ((states_agree f x.0.to).0 o).1 d),
    ),
    λ z. absurd z,
  )
  states_agree (ax c f) s = (λ z. absurd z, λ o. all_agrees c f s (states_agree f) o)
  states_agree (eu a f) s = let k = within-is-leads t a (holds t f) s in (
    λ o. (
      λ u. k.1 (until-leads t a (λ v d. ((states_agree f v).0 o).0 d) u),
      λ e. leads-until t a (λ v d. ((states_agree f v).0 o).1 d) (k.0 e),
    ),
    λ z. absurd z,
  )
  states_agree (eu_then a b f) s =
      let k = within-is-leads t a (enters t b (holds t f)) s in
      let g = some-step t (in_set b) (holds t f) in (
        λ o. (
          λ u. k.1 (until-leads t a (λ v (x, e, d). (g v).1 (x, e, ((states_agree f x.0.to).0 o).0 d)) u),
          λ e. leads-until t a (λ v d. let (x, m, z) = (g v).0 d in (x, m, ((states_agree f x.0.to).0 o).1 z)) (k.0 e),
        ),
        λ z. absurd z,
      )
