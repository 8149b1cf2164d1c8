-- `holds` is Definition 3's satisfaction, for every table, formula and state; so satisfaction is decided.
use mathlib.Core.Path.{◌≡◌, refl, sym, ap, ◌∙◌, subst}
use mathlib.Core.Logic.{◌⊎◌, inl, inr, ◌↔◌}
use mathlib.Core.Bool.{Bool, true, false, true≢false, false≢true, not as negate, ◌&&◌, Bool-discrete}
use mathlib.Core.List.{List, [], ◌∷◌, Memᴰ}
use Prim.Native.Nat.{ℕ, zero, suc, ◌<◌}
use native.Mathlib.Decide.{map_dec}
use lib.ListN.{length}
use Rattle.lts.specs.Lists.{any_of}
use Rattle.lts.specs.Lists.{every}
use Rattle.lts.specs.Steps.{Step, Table, IsStep}
use Rattle.lts.specs.inner.Steps.{steps_from}
use Rattle.lts.proofs.Booleans.{and-true-of, and-true-to, or-true-of, or-true-left, or_true_right}
use Rattle.lts.proofs.Lists.{some_of, some_to, every_of, every-to}
use Rattle.lts.proofs.StepsFrom.{From, steps_are}
use Rattle.actl.specs.Actions.{Mask, in_set, Cond, meets, passes}
use Rattle.actl.specs.Formulas.{Formula, tru, not, or, ex, ax, eu, eu_then}
use Rattle.satisfaction.specs.Runs.{Run}
use Rattle.satisfaction.specs.Satisfaction.{Sat}
use Rattle.satisfaction.specs.inner.Holds.{within, enters, holds}
use Rattle.satisfaction.proofs.Runs.{any-run, onto, first_of}
use Rattle.satisfaction.proofs.Leads.{Leads, leads-map, within-is-leads, leads_ahead, ahead_leads}

-- Some step, or every step, that leaves s.
module _ (t : Table) (p : ℕ → Bool) (q : ℕ → Bool) (s : ℕ) where
  abbrev passing : Step → Bool
  passing st = p st.label && q st.to

  pub some-step : (any_of passing (steps_from t s) ≡ true) ↔ ((x : From t s) × (p x.0.label ≡ true) × (q x.0.to ≡ true))
  some-step = (
    λ e.
        let (st, m, d) = some_of passing (steps_from t s) e in
        let (b, i) = (steps_are t s st).0 m in
        let (f, g) = and-true-of (p st.label) (q st.to) d in
        ((st, b, i), f, g),
    λ (x, f, g). some_to passing (steps_from t s) ((steps_are t s x.0).1 (x.1, x.2)) (and-true-to (p x.0.label) (q x.0.to) f g),
  )

  pub every-step : (every passing (steps_from t s) ≡ true) ↔ ((x : From t s) → (p x.0.label ≡ true) × (q x.0.to ≡ true))
  every-step = (
    λ e x. and-true-of (p x.0.label) (q x.0.to) (every_of passing (steps_from t s) e x.0 ((steps_are t s x.0).1 (x.1, x.2))),
    λ h. every-to passing (steps_from t s) (λ st m.
        let (b, i) = (steps_are t s st).0 m in
        let (f, g) = h (st, b, i) in
        and-true-to (p st.label) (q st.to) f g),
  )

negation : (b : Bool) {P : Type 0} → (b ≡ true) ↔ P → (negate b ≡ true) ↔ (P → ⊥)
negation true h = (λ e. absurd (false≢true e), λ n. absurd (n (h.0 refl)))
negation false h = (λ e p. false≢true (h.1 p), λ n. refl)

pub holds-is_satisfaction : (t : Table) (f : Formula) (s : ℕ) → (holds t f s ≡ true) ↔ Sat t f s
unfolding holds
holds-is_satisfaction t tru s = (λ e. tt, λ e. refl)
holds-is_satisfaction t (not f) s = negation (holds t f s) (holds-is_satisfaction t f s)
holds-is_satisfaction t (or f g) s =
    let h = holds-is_satisfaction t f s in
    let k = holds-is_satisfaction t g s in (
      λ e. elim (or-true-of (holds t f s) (holds t g s) e) [ inl d ↦ inl (h.0 d) | inr d ↦ inr (k.0 d) ],
      λ e. elim e [ inl d ↦ or-true-left (holds t f s) (holds t g s) (h.1 d) | inr d ↦ or_true_right (holds t f s) (holds t g s) (k.1 d) ],
    )
holds-is_satisfaction t (ex c f) s =
    let h = holds-is_satisfaction t f in
    let k = some-step t (meets c) (holds t f) s in (
      λ e. let (x, m, d) = k.0 e in (onto t x (any-run t x.0.to), m, (h x.0.to).0 d),
      λ (p, m, d). k.1 (first_of t p, m, (h (p.step 0).to).1 d),
    )
holds-is_satisfaction t (ax c f) s =
    let h = holds-is_satisfaction t f in
    let k = every-step t (meets c) (holds t f) s in (
      λ e p. let (m, d) = k.0 e (first_of t p) in (m, (h (p.step 0).to).0 d),
      λ n. k.1 (λ x. let (m, d) = n (onto t x (any-run t x.0.to)) in (m, (h x.0.to).1 d)),
    )
holds-is_satisfaction t (eu a f) s =
    let h = holds-is_satisfaction t f in
    let k = within-is-leads t a (holds t f) s in (
      λ e. leads_ahead t a (λ v. holds t f v ≡ true) (λ st. Sat t f st.from) (λ v d. (any-run t v, subst (Sat t f) (sym (any-run t v).starts) ((h v).0 d))) (k.0 e),
      λ (p, i, b, q). k.1 (ahead_leads t a (λ v. holds t f v ≡ true) (λ st. Sat t f st.from) (λ v r d. (h v).1 (subst (Sat t f) r.starts d)) i s p b q),
    )
holds-is_satisfaction t (eu_then a b f) s =
    let h = holds-is_satisfaction t f in
    let k = within-is-leads t a (enters t b (holds t f)) s in
    let g = some-step t (in_set b) (holds t f) in (
      λ e. let (p, i, c, q) = leads_ahead t a (λ v. enters t b (holds t f) v ≡ true) (λ st. (in_set b st.label ≡ true) × Sat t f st.to)
          (λ v d. let (x, m, z) = (g v).0 d in (onto t x (any-run t x.0.to), (m, (h x.0.to).0 z))) (k.0 e) in (p, i, c, q.0, q.1),
      λ (p, i, c, m, q). k.1 (ahead_leads t a (λ v. enters t b (holds t f) v ≡ true) (λ st. (in_set b st.label ≡ true) × Sat t f st.to)
          (λ v r d. (g v).1 (first_of t r, d.0, (h (r.step 0).to).1 d.1)) i s p c (m, q)),
    )

pub satisfaction_decided : (t : Table) (f : Formula) (s : ℕ) → Dec (Sat t f s)
satisfaction_decided t f s = map_dec (holds-is_satisfaction t f s).0 (holds-is_satisfaction t f s).1 (Bool-discrete (holds t f s) true)
