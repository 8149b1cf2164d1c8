-- Satisfaction does not depend on which silent label idle steps carry; so the verdict is what it is if they carry 0, as in 01.
use mathlib.Core.Path.{◌≡◌, refl, sym, ap, ◌∙◌, subst}
use mathlib.Core.Logic.{◌⊎◌, inl, inr, ◌↔◌, ⊎_map}
use mathlib.Core.Bool.{Bool, true}
use Prim.Native.Nat.{ℕ, suc}
use Rattle.lts.specs.Steps.{Step, Table, silent, loop_at, Exitless, IsStepWith}
use Rattle.lts.specs.Idle.{idle_label}
use Rattle.lts.specs.inner.Range.{InRange}
use Rattle.lts.proofs.Silence.{zero-silent, idle_silent}
use Rattle.lts.proofs.StepsFrom.{idle_exactly}
use Rattle.actl.specs.Actions.{Mask, Cond, in_set, meets, passes}
use Rattle.actl.specs.Formulas.{Formula, tru, not, or, ex, ax, eu, eu_then}
use Rattle.actl.proofs.Laws.Masks.{sets_alike, meets_alike, passes_alike}
use Rattle.satisfaction.specs.Runs.{RunWith, Run}
use Rattle.satisfaction.specs.Satisfaction.{SatWith}
use Rattle.satisfaction.specs.inner.Holds.{verdict}
use Rattle.satisfaction.specs.VerdictAsked.{TellsWhether}
use Rattle.satisfaction.proofs.Verdicts.{verdict-is}

abbrev pub SilentLabel : Type 0
SilentLabel = (i : ℕ) × (silent i ≡ true)

-- A step, with the other label if it is idle.
module _ (t : Table) (i j : ℕ) where
  abbrev relabelled : (st : Step) → IsStepWith i t st → Step
  relabelled st (inl m) = st
  relabelled st (inr x) = loop_at j st.from

  still_step : (st : Step) (h : IsStepWith i t st) → IsStepWith j t (relabelled st h)
  still_step st (inl m) = inl m
  still_step st (inr (e, x)) = inr (refl, x)

  same_from : (st : Step) (h : IsStepWith i t st) → (relabelled st h).from ≡ st.from
  same_from st (inl m) = refl
  same_from st (inr x) = refl

  same-to : (st : Step) (h : IsStepWith i t st) → (relabelled st h).to ≡ st.to
  same-to st (inl m) = refl
  same-to st (inr (e, x)) = sym (ap (λ (y : Step). y.to) e)

  -- What tells no silent labels apart says the same of both.
  same_said : (p : ℕ → Bool) → p i ≡ p j → (st : Step) (h : IsStepWith i t st) → p (relabelled st h).label ≡ p st.label
  same_said p k st (inl m) = refl
  same_said p k st (inr (e, x)) = sym k ∙ sym (ap (λ (y : Step). p y.label) e)

  abbrev other-run : {s : ℕ} → RunWith i t s → RunWith j t s
  other-run p = record {
    step = λ n. relabelled (p.step n) (p.taken n);
    starts = same_from (p.step 0) (p.taken 0) ∙ p.starts;
    taken = λ n. still_step (p.step n) (p.taken n);
    follows = λ n. same_from (p.step (suc n)) (p.taken (suc n)) ∙ (p.follows n ∙ sym (same-to (p.step n) (p.taken n)));
  }

-- Two silent labels.
module _ (t : Table) (a b : SilentLabel) where
  module _ {s : ℕ} (p : RunWith a.0 t s) (n : ℕ) where
    abbrev other : Step
    other = (other-run t a.0 b.0 p).step n

    to_same : other.to ≡ (p.step n).to
    to_same = same-to t a.0 b.0 (p.step n) (p.taken n)

    from-same : other.from ≡ (p.step n).from
    from-same = same_from t a.0 b.0 (p.step n) (p.taken n)

    meets-same : (c : Cond) → meets c other.label ≡ meets c (p.step n).label
    meets-same c = same_said t a.0 b.0 (meets c) (meets_alike a.0 b.0 a.1 b.1 c) (p.step n) (p.taken n)

    passes_same : (m : Mask) → passes m other.label ≡ passes m (p.step n).label
    passes_same m = same_said t a.0 b.0 (passes m) (passes_alike a.0 b.0 a.1 b.1 m) (p.step n) (p.taken n)

    set_same : (m : Mask) → in_set m other.label ≡ in_set m (p.step n).label
    set_same m = same_said t a.0 b.0 (in_set m) (sets_alike a.0 b.0 a.1 b.1 m) (p.step n) (p.taken n)

module _ (t : Table) where
  still_satisfied : (a b : SilentLabel) (f : Formula) (s : ℕ) → SatWith a.0 t f s → SatWith b.0 t f s
  still_satisfied a b tru s x = tt
  still_satisfied a b (not f) s x = λ y. x (still_satisfied b a f s y)
  still_satisfied a b (or f g) s x = ⊎_map (still_satisfied a b f s) (still_satisfied a b g s) x
  still_satisfied a b (ex c f) s (p, e, x) =
      (other-run t a.0 b.0 p, meets-same t a b p 0 c ∙ e, subst (SatWith b.0 t f) (sym (to_same t a b p 0)) (still_satisfied a b f _ x))
  still_satisfied a b (ax c f) s x = λ p.
      let (e, y) = x (other-run t b.0 a.0 p) in
      (sym (meets-same t b a p 0 c) ∙ e, subst (SatWith b.0 t f) (to_same t b a p 0) (still_satisfied a b f _ y))
  still_satisfied a b (eu m f) s (p, n, d, x) =
      (other-run t a.0 b.0 p, n, λ j l. passes_same t a b p j m ∙ d j l, subst (SatWith b.0 t f) (sym (from-same t a b p n)) (still_satisfied a b f _ x))
  still_satisfied a b (eu_then m u f) s (p, n, d, e, x) =
      (other-run t a.0 b.0 p, n, λ j l. passes_same t a b p j m ∙ d j l, set_same t a b p n u ∙ e, subst (SatWith b.0 t f) (sym (to_same t a b p n)) (still_satisfied a b f _ x))

  pub same_satisfaction : (a b : SilentLabel) (f : Formula) (s : ℕ) → SatWith a.0 t f s ↔ SatWith b.0 t f s
  same_satisfaction a b f s = (still_satisfied a b f s, still_satisfied b a f s)

  -- The verdict tells whether the formula holds with idle steps that carry 0.
  pub verdict-as-before : (F : Formula) → TellsWhether (SatWith 0 t F t.start) (verdict t F)
  verdict-as-before F =
      let (a, b) = verdict-is t F in
      let (c, d) = same_satisfaction (idle_label, idle_silent) (0, zero-silent) F t.start in
      ((λ e. c (a.0 e), λ x. a.1 (d x)), (λ e x. b.0 e (d x), λ n. b.1 (λ x. n (c x))))

  -- A run's step is labelled 99 exactly if it leaves a state without exits.
  pub run_idle_exactly : InRange t → {s : ℕ} (p : Run t s) (n : ℕ) → ((p.step n).label ≡ idle_label) ↔ Exitless t (p.step n).from
  run_idle_exactly r p n = idle_exactly t r (p.taken n)
