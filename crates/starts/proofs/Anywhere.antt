-- What holds at a state does not depend on where the table starts: the flags of one labelling serve every start.
use mathlib.Core.Path.{◌≡◌, refl, ap, ◌∙◌}
use mathlib.Core.Bool.{Bool, cond, not as negate, ◌&&◌, ◌||◌}
use Prim.Native.Nat.{ℕ, zero, suc}
use lib.ListN.{length}
use Rattle.lts.specs.Lists.{any_of, every}
use Rattle.lts.specs.Steps.{Table}
use Rattle.lts.specs.inner.Steps.{steps_from}
use Rattle.actl.specs.Actions.{Mask, in_set, meets, passes}
use Rattle.actl.specs.Formulas.{Formula, tru, not, or, ex, ax, eu, eu_then}
use Rattle.satisfaction.specs.inner.Holds.{within, enters, holds, verdict}
use Rattle.starts.specs.Starts.{starting_at}

module _ (t : Table) (x : ℕ) where
  abbrev u : Table
  u = starting_at t x

  within_anywhere : (a : Mask) (goal : ℕ → Bool) (n s : ℕ) → within u a goal n s ≡ within t a goal n s
  unfolding within steps_from
  within_anywhere a goal zero s = refl
  within_anywhere a goal (suc n) s =
      ap (λ (h : ℕ → Bool). goal s || any_of (λ st. passes a st.label && h st.to) (steps_from t s)) (λ i r. within_anywhere a goal n r i)

  pub holds_anywhere : (F : Formula) (s : ℕ) → holds u F s ≡ holds t F s
  unfolding holds steps_from
  holds_anywhere tru s = refl
  holds_anywhere (not f) s = ap negate (holds_anywhere f s)
  holds_anywhere (or f g) s = λ i. holds_anywhere f s i || holds_anywhere g s i
  holds_anywhere (ex c f) s = ap (λ (h : ℕ → Bool). any_of (λ st. meets c st.label && h st.to) (steps_from t s)) (λ i r. holds_anywhere f r i)
  holds_anywhere (ax c f) s = ap (λ (h : ℕ → Bool). every (λ st. meets c st.label && h st.to) (steps_from t s)) (λ i r. holds_anywhere f r i)
  holds_anywhere (eu a f) s =
      ap (λ (h : ℕ → Bool). within u a h (length t.transitions) s) (λ i r. holds_anywhere f r i) ∙ within_anywhere a (holds t f) (length t.transitions) s
  holds_anywhere (eu_then a b f) s =
      ap (λ (h : ℕ → Bool). within u a (enters t b h) (length t.transitions) s) (λ i r. holds_anywhere f r i)
      ∙ within_anywhere a (enters t b (holds t f)) (length t.transitions) s

  -- The verdict of the table that starts at x.
  pub verdict_anywhere : (F : Formula) → verdict u F ≡ cond (holds t F x) 1 0
  verdict_anywhere F = ap (λ b. cond b 1 0) (holds_anywhere F x)
