-- Idle steps in words: where every state has an exit, the letter 99 leads nowhere. And worked examples, run.
use mathlib.Core.Path.{◌≡◌, refl, sym, subst}
use mathlib.Core.Logic.{inl, inr}
use mathlib.Core.Bool.{Bool, true, false}
use mathlib.Core.List.Memᴰ
use mathlib.Core.List.{List, [], ◌∷◌, Memᴰ}
use mathlib.Core.Option.{none, some}
use Prim.Native.Nat.{ℕ, ◌<◌}
use native.Mathlib.Omega.{arith}
use Rattle.lts.specs.Steps.{Step, Table, silent, Exitless}
use Rattle.lts.specs.Idle.{idle_label}
use Rattle.lts.specs.inner.Steps.{steps_from}
use Rattle.lts.specs.inner.Range.{InRange}
use Rattle.lts.proofs.StepsFrom.{idle_exactly}
use Rattle.lts.proofs.Examples.{M, resting}
use Rattle.actl.specs.Actions.{Cond, silent as silentStep, labels, in_set, meets, passes}
use Rattle.actl.specs.Formulas.{Formula, tru, ex, eu, class_of}
use Rattle.satisfaction.specs.inner.Holds.{holds, within}
use Rattle.automaton.specs.Paths.{IsPath, word_of}
use Rattle.automaton.specs.Explains.{Explains}
use Rattle.automaton.specs.inner.Search.{final_of, final, leads_of, leads, targets, can_finish, number_of, moves_to_among, moves_on_among, moves_from_among, visit, visits}
use Rattle.automaton.specs.inner.Search.{expand_among, search_among, positions_among, moves_upto_among, listing}
use Rattle.automaton.specs.WordAsked.{bad_letter}
use Rattle.automaton.specs.inner.Words.{accepts_from, accepts}
use Rattle.automaton.proofs.Inside.{step_stays}
use Rattle.automaton.proofs.Examples.{loops, either, row, edge}

module _ {t : Table} (r : InRange t) (exits : (s : ℕ) → s < t.states → Exitless t s → ⊥) where
  no_idle_step : (s : ℕ) (p : List Step) → s < t.states → IsPath t s p → Memᴰ idle_label (word_of p) → ⊥
  no_idle_step s [] b h m = Memᴰ.not-nil m
  no_idle_step s (st ∷ p) b (e, i, h) m =
      let here : st.from < t.states = omega arith in
      elim (Memᴰ.cases_cons m) [
        | inl d ↦ exits st.from here ((idle_exactly t r i).0 (sym d))
        | inr n ↦ no_idle_step st.to p (step_stays r i here) h n
      ]

  pub idle_nowhere : (F : Formula) (w : List ℕ) → Memᴰ idle_label w → Explains t F w → ⊥
  idle_nowhere F w m (p, h, e, x) = no_idle_step t.start p r.starts h (subst (Memᴰ idle_label) (sym e) m)

-- Of `resting`, state 1 has a written silent loop alone and state 2 no exit. EX[.] T, behind a silent step and behind a.
abbrev silently : Formula
silently = ex silentStep (ex silentStep tru)

abbrev after_a : Formula
after_a = ex (labels 2) (ex silentStep tru)

written_loop_is_0 : accepts resting silently (0 ∷ 0 ∷ []) ≡ true
unfolding accepts_from final final_of targets leads leads_of steps_from meets in_set silent
written_loop_is_0 = refl

written_loop_is-not_99 : accepts resting silently (0 ∷ 99 ∷ []) ≡ false
unfolding accepts_from final final_of targets leads leads_of steps_from meets in_set silent
written_loop_is-not_99 = refl

idle_is_99 : accepts resting after_a (1 ∷ 99 ∷ []) ≡ true
unfolding accepts_from final final_of targets leads leads_of steps_from meets in_set silent
idle_is_99 = refl

idle_is-not_0 : accepts resting after_a (1 ∷ 0 ∷ []) ≡ false
unfolding accepts_from final final_of targets leads leads_of steps_from meets in_set silent
idle_is-not_0 = refl

idle_listed : listing resting after_a ≡ record { rows = row 0 0 false ∷ row 1 2 false ∷ row 2 2 true ∷ []; edges = edge 0 1 1 ∷ edge 1 99 2 ∷ [] }
unfolding listing positions_among search_among expand_among visits visit moves_upto_among moves_from_among moves_on_among moves_to_among number_of can_finish targets leads leads_of
    final final_of holds within steps_from meets passes in_set class_of silent
idle_listed = refl

-- It meets `.` and no set: on M, behind req and a silent step, EX[.] takes it and EX[~req] does not. EU[a] goes on by it.
abbrev at_rest_on_m : Cond → Formula
at_rest_on_m c = ex (labels 2) (ex silentStep (ex c tru))

met_by_dot : accepts M (at_rest_on_m silentStep) (1 ∷ 0 ∷ 99 ∷ []) ≡ true
unfolding accepts_from final final_of targets leads leads_of steps_from meets in_set silent
met_by_dot = refl

in_no-set : accepts M (at_rest_on_m (labels 4)) (1 ∷ 0 ∷ 99 ∷ []) ≡ false
unfolding accepts_from final final_of targets leads leads_of steps_from meets in_set silent
in_no-set = refl

until_goes_on : accepts resting (eu 2 (ex silentStep tru)) (1 ∷ 99 ∷ 99 ∷ 99 ∷ []) ≡ true
unfolding accepts_from final final_of targets leads leads_of steps_from meets passes in_set silent
until_goes_on = refl

-- 13: over one label 0, 1 and 99 are letters, and no other number is.
letters : bad_letter 1 (0 ∷ 1 ∷ 99 ∷ []) ≡ none
unfolding bad_letter
letters = refl

above_the_count : bad_letter 1 (99 ∷ 2 ∷ []) ≡ some 1
unfolding bad_letter
above_the_count = refl

forty_one : bad_letter 40 (40 ∷ 41 ∷ []) ≡ some 1
unfolding bad_letter
forty_one = refl

below_it : bad_letter 40 (99 ∷ 98 ∷ []) ≡ some 1
unfolding bad_letter
below_it = refl

above_it : bad_letter 40 (99 ∷ 100 ∷ []) ≡ some 1
unfolding bad_letter
above_it = refl

highest_byte : bad_letter 40 (255 ∷ []) ≡ some 0
unfolding bad_letter
highest_byte = refl

-- Where every state has an exit, 99 is read and leads nowhere.
leads-nowhere : accepts loops either (99 ∷ []) ≡ false
unfolding accepts_from final final_of targets leads leads_of steps_from meets in_set silent
leads-nowhere = refl
