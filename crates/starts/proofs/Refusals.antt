-- The refusals of a list of starts: 10, 14 and 16, 10 exactly for foreign bytes, 16 exactly for the first wrong entry of a list over prepared bytes.
use mathlib.Core.Path.{◌≡◌, refl, sym, ap, ◌∙◌, subst}
use mathlib.Core.Logic.{◌⊎◌, inl, inr, ◌↔◌}
use mathlib.Core.List.{List}
use mathlib.Core.Option.{Option, none, some}
use Prim.Native.Nat.{ℕ, ◌≤◌}
use native.Mathlib.Omega.{arith}
use lib.Dec.{leb}
use lib.ListN.{length}
use Rattle.lts.specs.Sizes.{most_states, table_length}
use Rattle.lts.specs.Reply.{Reply, accepted, refusal, answers}
use Rattle.lts.specs.Steps.{Table, labels}
use Rattle.lts.specs.inner.Prepared.{prepared_table}
use Rattle.lts.proofs.Laws.Refusals.{Numbered, numbered-unless, numbered-answers, same-refusal, answers-refused}
use Rattle.actl.specs.Sizes.{formula_length}
use Rattle.actl.specs.Formulas.{Formula}
use Rattle.actl.specs.Reading.{unless_found}
use Rattle.actl.specs.Foreign.{RefusesForeign}
use Rattle.actl.specs.inner.Prepared.{prepared_formula}
use Rattle.actl.proofs.Laws.Foreign.{NotTen, with_formula-numbers, refuses_foreign, answers_refuse_foreign}
use Rattle.lts.proofs.Laws.Refusals.{with_table-numbers}
use Rattle.actl.proofs.Laws.Replies.{on-prepared_goes}
use Rattle.starts.specs.Starts.{FirstWrong, wrong_start}
use Rattle.starts.specs.VerdictsAsked.{verdicts_at, joint, verdicts_asked, verdicts_replied}
use Rattle.starts.proofs.Answers.{verdicts_in, with_room}
use Rattle.starts.proofs.Wrong.{wrong_first}

abbrev pub StartsNumber : ℕ → Type 0
StartsNumber n = (n ≡ 10) ⊎ ((n ≡ 14) ⊎ (n ≡ 16))

found-numbers : (P : ℕ → Type 0) (o : Option ℕ) (r : Reply (List ℕ)) → P 16 → Numbered P r → Numbered P (unless_found o 16 r)
found-numbers P none r h o = o
found-numbers P (some i) r h o = h

module _ (table formula starts buffer : List ℕ) where
  pub refusals : Numbered StartsNumber (verdicts_replied table formula starts buffer)
  unfolding verdicts_asked
  refusals =
      let fourteen : StartsNumber 14 = inr (inl refl) in
      numbered-answers StartsNumber joint (verdicts_asked table formula starts buffer)
      (numbered-unless StartsNumber (leb table_length (length table)) 14 _ _ fourteen
      (numbered-unless StartsNumber (leb formula_length (length formula)) 14 _ _ fourteen
      (numbered-unless StartsNumber (leb most_states (length buffer)) 14 _ _ fourteen
      (with_table-numbers StartsNumber (inl refl) (prepared_table table) _ (λ t. with_formula-numbers StartsNumber (inl refl) (prepared_formula (labels t) formula) _ (λ F.
      found-numbers StartsNumber (wrong_start t.states starts) (accepted (verdicts_at t F starts)) (inr (inr refl)) tt))))))

  module _ (room : most_states ≤ length buffer) where
    pub verdicts_refuse_foreign : RefusesForeign table formula (verdicts_replied table formula starts buffer)
    verdicts_refuse_foreign =
        answers_refuse_foreign table formula joint (verdicts_asked table formula starts buffer)
        (subst (RefusesForeign table formula) (sym (with_room table formula starts buffer room)) (refuses_foreign table formula (verdicts_in starts) (λ t F.
        found-numbers NotTen (wrong_start t.states starts) (accepted (verdicts_at t F starts)) (λ e. omega arith) tt)))

    -- Over prepared bytes: 16 with the index of the first wrong entry.
    pub refused-first : {t : Table} {F : Formula} → prepared_table table ≡ some t → prepared_formula (labels t) formula ≡ some F
        → table_length ≤ length table → formula_length ≤ length formula → (i : ℕ)
        → (verdicts_replied table formula starts buffer ≡ refusal 16 i) ↔ FirstWrong t.states starts i
    refused-first {t} {F} is_table is_formula long wide i =
        let asked = verdicts_asked table formula starts buffer in
        let is : asked ≡ verdicts_in starts t F = with_room table formula starts buffer room ∙ on-prepared_goes table formula is_table is_formula (verdicts_in starts) long wide in
        let first = wrong_first t.states starts i in
        let answered = answers-refused joint asked 16 i in (
          λ e. first.0 (found (wrong_start t.states starts) (verdicts_at t F starts) (sym is ∙ answered.0 e)),
          λ f. answered.1 (is ∙ ap (λ o. unless_found o 16 (accepted (verdicts_at t F starts))) (first.1 f)),
        )
      where
        found : (o : Option ℕ) (next : List ℕ) → unless_found o 16 (accepted next) ≡ refusal 16 i → o ≡ some i
        found none next e = let z : ◌≡◌ {A = ℕ} 0 1 = cc in absurd (omega arith)
        found (some k) next e = ap some (same-refusal e).1
