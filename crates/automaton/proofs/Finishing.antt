-- From which positions a final one can be reached: from a node of class 1 where it holds, from one of class 2 where it does not, and
-- from END. So a formula of class 1 holds exactly if it has a witness, and one of class 2 fails exactly if it has a counterexample.
use mathlib.Core.Path.{◌≡◌, refl, sym, ap, ◌∙◌, subst}
use mathlib.Core.Logic.{inl, inr, ◌↔◌}
use mathlib.Core.Bool.{Bool, true, false, not as negate, true≢false}
use mathlib.Core.List.{List, [], ◌∷◌}
use Prim.Native.Nat.{ℕ, ◌<◌, ◌≤◌}
use native.Mathlib.Decide.{dec_lt}
use native.Mathlib.Omega.{arith}
use Rattle.lts.specs.Steps.{Step, Table}
use Rattle.lts.proofs.Booleans.{not-true, not-false, is_false}
use Rattle.actl.specs.Formulas.{Formula, tru, size, class_of, At, root}
use Rattle.actl.proofs.Subformulas.{at-node, node_at_lem, node-past}
use Rattle.actl.proofs.Classes.{class_types, HasClass, class-of-node}
use Rattle.satisfaction.specs.Satisfaction.{Sat}
use Rattle.satisfaction.specs.inner.Holds.{holds}
use Rattle.satisfaction.proofs.Satisfaction.{holds-is_satisfaction}
use Rattle.automaton.specs.Paths.{IsPath, word_of}
use Rattle.automaton.specs.Witnesses.{Witness, Counterexample}
use Rattle.automaton.specs.Places.{stay}
use Rattle.automaton.specs.Positions.{Position, at, Joins, Walk, stop, go, CanFinish}
use Rattle.automaton.specs.inner.Search.{explains, can_finish}
use Rattle.automaton.proofs.Acceptance.{Accepting, halt, move, shown_is_accepting, broken_is_accepting}
use Rattle.automaton.proofs.PathWords.{words-of_witnesses, words-of_counterexamples}
use Rattle.automaton.proofs.States.{States, states_agree}

pub step_finishes : {t : Table} {F : Formula} {p q : Position} {l : ℕ} → Joins t F p l q → CanFinish t F q → CanFinish t F p
step_finishes {l} j (w, u) = (l ∷ w, go j u)

module _ (t : Table) (F : Formula) where
  finish-of : {k s : ℕ} → Accepting (States t) F k s → CanFinish t F (at k s)
  finish-of (halt e d) = ([], stop e)
  finish-of {k} (move x e u) = let (w, d) = finish-of u in (x.0.label ∷ w, subst (λ (s : ℕ). Walk t F (at k s) (x.0.label ∷ w)) x.1 (go (x.2, e) d))

  finish-to : {p : Position} {w : List ℕ} → Walk t F p w → Accepting (States t) F p.place p.state
  finish-to (stop e) = halt e tt
  finish-to (go {p} {q} {l} (st, e) u) = move (record { from = p.state; label = l; to = q.state }, refl, st) e (finish-to u)

  module _ {k : ℕ} {f : Formula} (node : At F k f) (s : ℕ) where
    finishes_where_holds : class_of f ≡ 1 → CanFinish t F (at k s) ↔ (holds t f s ≡ true)
    finishes_where_holds c =
        let o = (class_types f).0 c in
        let a = shown_is_accepting {M = States t} s node o in
        let b = (states_agree t f s).0 o in
        (λ (w, u). b.0 (a.1 (finish-to u)), λ d. finish-of (a.0 (b.1 d)))

    finishes_where_fails : class_of f ≡ 2 → CanFinish t F (at k s) ↔ (holds t f s ≡ false)
    finishes_where_fails c =
        let o = (class_types f).1 c in
        let a = broken_is_accepting {M = States t} s node o in
        let b = (states_agree t f s).1 o in
        (λ (w, u). b.0 (a.1 (finish-to u)), λ d. finish-of (a.0 (b.1 d)))

    pub can_finish-is_satisfied : class_of f ≡ 1 → CanFinish t F (at k s) ↔ Sat t f s
    can_finish-is_satisfied c =
        let a = finishes_where_holds c in
        let b = holds-is_satisfaction t f s in
        (λ d. b.0 (a.0 d), λ d. a.1 (b.1 d))

    pub can_finish-is_unsatisfied : class_of f ≡ 2 → CanFinish t F (at k s) ↔ (Sat t f s → ⊥)
    can_finish-is_unsatisfied c =
        let a = finishes_where_fails c in
        let b = holds-is_satisfaction t f s in
        (λ d n. true≢false (sym (b.1 n) ∙ a.0 d), λ n. a.1 (is_false (holds t f s) (λ e. n (b.0 e))))

  pub end_finishes : (s : ℕ) → CanFinish t F (at (size F) s)
  end_finishes s = ([], stop (size F, stay, inl refl))

  pub T_finishes : {k : ℕ} → At F k tru → (s : ℕ) → CanFinish t F (at k s)
  T_finishes {k} h s = ([], stop (k, stay, inr h))

  -- The test.
  explains-one : (h : Bool) (n : ℕ) → n ≡ 1 → explains n h ≡ h
  explains-one h n e = ap (λ m. explains m h) e

  explains-two : (h : Bool) (n : ℕ) → n ≡ 2 → explains n h ≡ negate h
  explains-two h n e = ap (λ m. explains m h) e

  can_finish-at : {k : ℕ} {f : Formula} → At F k f → (s : ℕ) → can_finish t F (at k s) ≡ explains (class_of f) (holds t f s)
  unfolding can_finish
  can_finish-at {f} node s = ap (λ f. explains (class_of f) (holds t f s)) (node_at_lem node)

  pub can_finish-past : (k s : ℕ) → size F ≤ k → can_finish t F (at k s) ≡ true
  unfolding can_finish class_of holds
  can_finish-past k s h = ap (λ f. explains (class_of f) (holds t f s)) (node-past F k h)

  module _ (c : HasClass F) where
    can_finish-node : {k : ℕ} {f : Formula} → At F k f → (s : ℕ) → HasClass f → (can_finish t F (at k s) ≡ true) ↔ CanFinish t F (at k s)
    can_finish-node {f} node s (inl e) =
        let z = can_finish-at node s ∙ explains-one (holds t f s) (class_of f) e in
        let a = finishes_where_holds node s e in
        (λ d. a.1 (sym z ∙ d), λ d. z ∙ a.0 d)
    can_finish-node {f} node s (inr e) =
        let z = can_finish-at node s ∙ explains-two (holds t f s) (class_of f) e in
        let a = finishes_where_fails node s e in
        (λ d. a.1 (not-false (holds t f s) (sym z ∙ d)), λ d. z ∙ not-true (holds t f s) (a.0 d))

    pub can_finish-is : (p : Position) → p.place ≤ size F → (can_finish t F p ≡ true) ↔ CanFinish t F p
    can_finish-is p h = pick (dec_lt p.place (size F))
      where
        pick : Dec (p.place < size F) → (can_finish t F p ≡ true) ↔ CanFinish t F p
        pick (yes m) = let n = at-node F p.place m in can_finish-node n p.state (class-of-node c n)
        pick (no m) = let e : p.place ≡ size F = omega arith in
            (λ d. subst (λ (k : ℕ). CanFinish t F (at k p.state)) (sym e) (end_finishes p.state), λ d. can_finish-past p.place p.state (omega arith))

  -- Verdicts.
  pub holds_by_witness : class_of F ≡ 1 → Sat t F t.start ↔ ((p : List Step) × IsPath t t.start p × Witness F p)
  holds_by_witness c =
      let a = can_finish-is_satisfied root t.start c in (
        λ d. let (w, u) = a.1 d in let (p, h, e, q) = (words-of_witnesses t F w c).1 u in (p, h, q),
        λ (p, h, q). a.0 (word_of p, (words-of_witnesses t F (word_of p) c).0 (p, h, refl, q)),
      )

  pub fails_by_counterexample : class_of F ≡ 2 → (Sat t F t.start → ⊥) ↔ ((p : List Step) × IsPath t t.start p × Counterexample F p)
  fails_by_counterexample c =
      let a = can_finish-is_unsatisfied root t.start c in (
        λ d. let (w, u) = a.1 d in let (p, h, e, q) = (words-of_counterexamples t F w c).1 u in (p, h, q),
        λ (p, h, q). a.0 (word_of p, (words-of_counterexamples t F (word_of p) c).0 (p, h, refl, q)),
      )
