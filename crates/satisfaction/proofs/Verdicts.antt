-- The verdict is 1 exactly if the formula holds at the start by Definition 3, and 0 exactly if it does not; so is the answer on prepared bytes.
use mathlib.Core.Path.{◌≡◌, refl, subst}
use mathlib.Core.Logic.{◌↔◌}
use mathlib.Core.Bool.{Bool, true, false, false≢true, cond}
use mathlib.Core.List.{List}
use Prim.Native.Nat.{ℕ}
use native.Mathlib.Omega.{arith}
use Rattle.lts.specs.Reply.{Reply, accepted, refusal}
use Rattle.lts.specs.Steps.{Table}
use Rattle.actl.specs.Formulas.{Formula}
use Rattle.actl.proofs.Laws.Replies.{on-prepared-accepted}
use Rattle.satisfaction.specs.Satisfaction.{Sat}
use Rattle.satisfaction.specs.inner.Holds.{holds, verdict}
use Rattle.satisfaction.specs.VerdictAsked.{verdict_replied, TellsWhether, VerdictIs, VerdictAnswered}
use Rattle.satisfaction.proofs.Satisfaction.{holds-is_satisfaction}

abbrev flag : Bool → ℕ
flag b = cond b 1 0

-- A flag tells whether what it is the test of is so.
pub flag_tells : {P : Type 0} (b : Bool) → (b ≡ true) ↔ P → TellsWhether P (flag b)
flag_tells true h = ((λ e. h.0 refl, λ p. refl), (λ e. absurd (omega arith), λ n. absurd (n (h.0 refl))))
flag_tells false h = ((λ e. absurd (omega arith), λ p. absurd (false≢true (h.1 p))), (λ e p. false≢true (h.1 p), λ n. refl))

module _ (t : Table) (F : Formula) where
  pub verdict-is : VerdictIs t F (verdict t F)
  verdict-is = flag_tells (holds t F t.start) (holds-is_satisfaction t F t.start)

  pub verdict-holds : (verdict t F ≡ 1) ↔ Sat t F t.start
  verdict-holds = verdict-is.0

  pub verdict_fails : (verdict t F ≡ 0) ↔ (Sat t F t.start → ⊥)
  verdict_fails = verdict-is.1

same_answer : {A : Type 0} {a b : A} → accepted a ≡ accepted b → a ≡ b
same_answer e = cc

module _ (table formula : List ℕ) where
  pub verdict-answered : VerdictAnswered table formula (verdict_replied table formula)
  unfolding verdict_replied
  verdict-answered = by (verdict_replied table formula) refl
    where
      by : (r : Reply ℕ) → verdict_replied table formula ≡ r → VerdictAnswered table formula r
      by (refusal n g) e = tt
      by (accepted v) e =
          let p = on-prepared-accepted table formula (λ t F. accepted (verdict t F)) e in
          let t = p.table_in_lem in
          let F = p.formula_in in
          (t, F, p.is_table, p.is_formula, subst (VerdictIs t F) (same_answer p.goes_on) (verdict-is t F))
