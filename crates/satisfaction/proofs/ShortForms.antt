-- The short forms of Definition 3 mean what they should, for every formula and state: `∧`, ⟨χ⟩ and [χ] over every table, ∃F and ∀G over every
-- table in range, as every read table is.
use mathlib.Core.Path.{◌≡◌, refl, sym, ap, subst}
use mathlib.Core.Logic.{◌⊎◌, inl, inr, ◌↔◌}
use mathlib.Core.Bool.{true}
use mathlib.Core.List.{List}
use Prim.Native.Nat.{ℕ, zero, suc, ◌≤◌}
use native.Mathlib.Omega.{arith}
use Rattle.lts.specs.Reply.{accepted}
use Rattle.lts.specs.Directions.{label_direction}
use Rattle.lts.specs.Steps.{Step, Table, labels, silent, IsStep}
use Rattle.lts.specs.Idle.{idle_label}
use Rattle.lts.specs.inner.Range.{InRange}
use Rattle.lts.specs.Reading.{read_table}
use Rattle.lts.proofs.Booleans.{or-true-left, or_true_right}
use Rattle.lts.proofs.StepsFrom.{step-labelled}
use Rattle.lts.proofs.Laws.Texts.{text-of-read}
use Rattle.actl.specs.Actions.{Action, Mask, meets, passes}
use Rattle.actl.specs.Formulas.{Formula, not}
use Rattle.actl.specs.Grammar.{Set, existential, universal, reach, labelled, Conjunction, and, Term, modal}
use Rattle.actl.specs.Meaning.{mask_in}
use Rattle.actl.specs.inner.Meaning.{formula_a, formula_t}
use Rattle.actl.proofs.Laws.Masks.{mask_satisfied}
use Rattle.satisfaction.specs.Satisfaction.{Sat}
use Rattle.satisfaction.specs.ShortForms.{all_labels, both, somewhere, everywhere, after_some, after_every, HoldsSomewhere, HoldsEverywhere, HoldsAfterSome, HoldsAfterEvery}
use Rattle.satisfaction.proofs.Runs.{any-run, onto}
use Rattle.satisfaction.proofs.Satisfaction.{satisfaction_decided}

-- What is not unsatisfied is satisfied.
settled : (t : Table) (f : Formula) (s : ℕ) → (Sat t (not f) s → ⊥) → Sat t f s
settled t f s n = elim (satisfaction_decided t f s) [ yes h ↦ h | no w ↦ absurd (n w) ]

module _ (t : Table) where
  pub both-holds : (f g : Formula) (s : ℕ) → Sat t (both f g) s ↔ (Sat t f s × Sat t g s)
  both-holds f g s = (
    λ n. (settled t f s (λ w. n (inl w)), settled t g s (λ w. n (inr w))),
    λ (a, b) z. elim z [ inl w ↦ w a | inr w ↦ w b ],
  )

  pub diamond_holds : (m : Mask) (f : Formula) (s : ℕ) → Sat t (after_some m f) s ↔ HoldsAfterSome t m f s
  unfolding meets
  diamond_holds m f s = (
    λ (p, e, h). (p.step 0, p.starts, p.taken 0, e, h),
    λ (st, d, i, e, h). (onto t (st, d, i) (any-run t st.to), e, h),
  )

  pub box_holds : (m : Mask) (f : Formula) (s : ℕ) → Sat t (after_every m f) s ↔ HoldsAfterEvery t m f s
  box_holds m f s =
      let k = diamond_holds m (not f) s in (
        λ n st d i e. settled t f st.to (λ w. n (k.1 (st, d, i, e, w))),
        λ h z. let (st, d, i, e, w) = k.0 z in w (h st d i e),
      )

  module _ (r : InRange t) where
    -- A label of the table, and a silent one, pass the set of all labels.
    label-passes : (a : ℕ) → (a ≤ labels t) ⊎ (a ≡ idle_label) → passes (all_labels t) a ≡ true
    unfolding passes silent
    label-passes zero h = refl
    label-passes (suc n) (inl h) =
        or_true_right (silent (suc n)) _ (mask_satisfied (label_direction t.names) (labels t) Action.any (suc n) (omega arith) h r.few_labels)
    label-passes (suc n) (inr e) = or-true-left (silent (suc n)) _ (ap silent e)

    step-passes : {st : Step} → IsStep t st → passes (all_labels t) st.label ≡ true
    step-passes {st} i = label-passes st.label (step-labelled t r i)

    pub somewhere-holds : (f : Formula) (s : ℕ) → Sat t (somewhere (all_labels t) f) s ↔ HoldsSomewhere t f s
    somewhere-holds f s = (
      λ (p, i, b, h). ((p.step i).from, (p, i, refl), h),
      λ (v, (p, i, e), h). (p, i, λ j l. step-passes (p.taken j), subst (Sat t f) (sym e) h),
    )

    pub everywhere-holds : (f : Formula) (s : ℕ) → Sat t (everywhere (all_labels t) f) s ↔ HoldsEverywhere t f s
    everywhere-holds f s =
        let k = somewhere-holds (not f) s in (
          λ n v u. settled t f v (λ w. n (k.1 (v, u, w))),
          λ h z. let (v, u, w) = k.0 z in w (h v u),
        )

-- The table of an accepted text is in range.
module _ (text : List ℕ) (t : Table) (e : read_table text ≡ accepted t) where
  pub read-somewhere-holds : (f : Formula) (s : ℕ) → Sat t (somewhere (all_labels t) f) s ↔ HoldsSomewhere t f s
  read-somewhere-holds = somewhere-holds t (text-of-read text t e).1

  pub read-everywhere-holds : (f : Formula) (s : ℕ) → Sat t (everywhere (all_labels t) f) s ↔ HoldsEverywhere t f s
  read-everywhere-holds = everywhere-holds t (text-of-read text t e).1

-- The parts of a line as typed.
module _ (t : Table) where
  abbrev of-term : Term → Formula
  of-term u = formula_t t.names u

  pub and-means : (c : Conjunction) (a b : ℕ) (u : Term) (s : ℕ) → Sat t (formula_a t.names (and c a b u)) s ↔ (Sat t (formula_a t.names c) s × Sat t (of-term u) s)
  and-means c a b u s = both-holds t (formula_a t.names c) (of-term u) s

  pub dia_means : (a b : ℕ) (x : Set) (d g : ℕ) (u : Term) (s : ℕ) → Sat t (of-term (modal (labelled existential a b x d) g u)) s ↔ HoldsAfterSome t (mask_in t.names x) (of-term u) s
  dia_means a b x d g u s = diamond_holds t (mask_in t.names x) (of-term u) s

  pub box_means : (a b : ℕ) (x : Set) (d g : ℕ) (u : Term) (s : ℕ) → Sat t (of-term (modal (labelled universal a b x d) g u)) s ↔ HoldsAfterEvery t (mask_in t.names x) (of-term u) s
  box_means a b x d g u s = box_holds t (mask_in t.names x) (of-term u) s

  module _ (r : InRange t) where
    pub ef_means : (g : ℕ) (u : Term) (s : ℕ) → Sat t (of-term (modal (reach existential) g u)) s ↔ HoldsSomewhere t (of-term u) s
    ef_means g u s = somewhere-holds t r (of-term u) s

    pub ag_means : (g : ℕ) (u : Term) (s : ℕ) → Sat t (of-term (modal (reach universal) g u)) s ↔ HoldsEverywhere t (of-term u) s
    ag_means g u s = everywhere-holds t r (of-term u) s
