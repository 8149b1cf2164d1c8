-- What asking for the smallest automaton refuses: 10, 11, 12, 14 and 20; 10 exactly for foreign bytes, 20 exactly for more than 256 sets of rows.
use mathlib.Core.Path.{◌≡◌, refl, sym, ap, ◌∙◌, subst}
use mathlib.Core.Logic.{◌⊎◌, inl, inr, ◌↔◌}
use mathlib.Core.Bool.{false}
use mathlib.Core.List.{List}
use mathlib.Core.Option.{some}
use Prim.Native.Nat.{ℕ, suc, ◌≤◌}
use native.Mathlib.Decide.{dec_le}
use native.Mathlib.Omega.{arith}
use lib.Dec.{leb}
use lib.ListN.{length}
use borrow.Author.Tests.{lt-leb, le-leb}
use Rattle.lts.specs.Sizes.{table_length}
use Rattle.lts.specs.Reply.{Reply, accepted, refusal, unless, answers}
use Rattle.lts.specs.Steps.{Table, labels}
use Rattle.lts.specs.inner.Steps.{alphabet}
use Rattle.lts.specs.inner.Prepared.{prepared_table}
use Rattle.lts.proofs.Laws.Refusals.{Numbered, numbered-unless, numbered-answers, numbered_so, Between, with_table-numbers, answers-refused}
use Rattle.actl.specs.Sizes.{formula_length}
use Rattle.actl.specs.Formulas.{Formula}
use Rattle.actl.specs.Foreign.{RefusesForeign}
use Rattle.actl.specs.inner.Prepared.{prepared_formula}
use Rattle.actl.proofs.Laws.Foreign.{NotTen, with_formula-numbers, refuses_foreign, answers_refuse_foreign}
use Rattle.actl.proofs.Laws.Prepared as prepared-formula
use Rattle.actl.proofs.Laws.Replies.{refusal-is-not-accepted, on-prepared_goes}
use Rattle.automaton.specs.Build.{fitted}
use Rattle.automaton.specs.inner.Search.{listing}
use Rattle.automaton.proofs.Accepted.{prepared_in_range, formed-has-class}
use Rattle.automaton.proofs.Listed.{listing-listed}
use Rattle.automaton.proofs.Refusals.{fitted-numbers}
use Rattle.explanations.specs.Explanation.{and_then}
use Rattle.deterministic.specs.Sizes.{most_sets, smallest_length, work_length}
use Rattle.deterministic.specs.Listings.{automaton_in}
use Rattle.deterministic.specs.Sets.{FewSets}
use Rattle.deterministic.specs.SmallestAsked.{Beside, beside_of, beside_in, smallest_asked, counts_beside}
use Rattle.deterministic.specs.inner.Smallest.{smallest_of}
use Rattle.deterministic.specs.inner.Subsets.{sets}
use Rattle.deterministic.proofs.Answered.{with_room}
use Rattle.deterministic.proofs.Listings.{is_build}
use Rattle.deterministic.proofs.Request.{refused_exactly}

abbrev pub SmallestNumber : ℕ → Type 0
SmallestNumber n = (n ≡ 10) ⊎ ((n ≡ 11) ⊎ ((n ≡ 12) ⊎ ((n ≡ 14) ⊎ (n ≡ 20))))

and-numbers : {A B : Type 0} (P : ℕ → Type 0) (r : Reply A) (next : A → Reply B) → Numbered P r → ((a : A) → Numbered P (next a)) → Numbered P (and_then r next)
and-numbers P (accepted a) next h k = k a
and-numbers P (refusal n g) next h k = h

-- 11, 12 and 20 of a listing.
pub in_numbers : (P : ℕ → Type 0) → ((n : ℕ) → Between 11 12 n → P n) → P 20 → (rows edges : List ℕ) (t : Table) (F : Formula) → Numbered P (beside_in rows edges t F)
in_numbers P h k rows edges t F =
    and-numbers P (fitted (listing t F) rows edges) (beside_of t) (numbered_so (Between 11 12) P h (fitted (listing t F) rows edges) (fitted-numbers (listing t F) rows edges)) (λ L.
    numbered-unless P (leb (length (sets (automaton_in L) (alphabet t) most_sets)) most_sets) 20 (suc most_sets) (accepted (record { list = L; smallest = smallest_of t L })) k tt)

module _ (table formula rows edges buffer work : List ℕ) where
  abbrev asked : Reply Beside
  asked = smallest_asked table formula rows edges buffer work

  pub smallest-numbers : Numbered SmallestNumber (answers counts_beside asked)
  unfolding smallest_asked
  smallest-numbers =
      let fourteen : SmallestNumber 14 = inr (inr (inr (inl refl))) in
      numbered-answers SmallestNumber counts_beside asked
      (numbered-unless SmallestNumber (leb table_length (length table)) 14 _ _ fourteen
      (numbered-unless SmallestNumber (leb formula_length (length formula)) 14 _ _ fourteen
      (numbered-unless SmallestNumber (leb smallest_length (length buffer)) 14 _ _ fourteen
      (numbered-unless SmallestNumber (leb work_length (length work)) 14 _ _ fourteen
      (with_table-numbers SmallestNumber (inl refl) (prepared_table table) _ (λ t. with_formula-numbers SmallestNumber (inl refl) (prepared_formula (labels t) formula) _ (λ F.
      in_numbers SmallestNumber between (inr (inr (inr (inr refl)))) rows edges t F)))))))
    where
      between : (n : ℕ) → Between 11 12 n → SmallestNumber n
      between n (a, b) = case (dec_le n 11)
        where
          case : Dec (n ≤ 11) → SmallestNumber n
          case (yes e) = inr (inl (omega arith))
          case (no e) = inr (inr (inl (omega (arith, e))))

  module _ (room : smallest_length ≤ length buffer) (enough : work_length ≤ length work) where
    pub smallest_foreign : RefusesForeign table formula (answers counts_beside asked)
    smallest_foreign =
        answers_refuse_foreign table formula counts_beside asked
        (subst (RefusesForeign table formula) (sym (with_room table formula rows edges buffer work room enough)) (refuses_foreign table formula (beside_in rows edges) (λ t F.
        in_numbers NotTen (λ n h e. omega (arith, h.0)) (λ e. omega arith) rows edges t F)))

    -- Over prepared bytes and with places: 20 exactly if the sets are more.
    pub twenty_exactly : {t : Table} {F : Formula} → prepared_table table ≡ some t → prepared_formula (labels t) formula ≡ some F → table_length ≤ length table → formula_length ≤ length formula
        → fitted (listing t F) rows edges ≡ accepted (listing t F)
        → (answers counts_beside asked ≡ refusal 20 (suc most_sets)) ↔ (FewSets (automaton_in (listing t F)) most_sets → ⊥)
    twenty_exactly {t} {F} is_table is_formula long wide fits =
        let A = automaton_in (listing t F) in
        let form = prepared-formula.prepared-of (labels t) formula is_formula in
        let w = prepared_in_range table is_table in
        let c = formed-has-class form in
        let build = is_build t F w c (listing t F) (listing-listed t F w c) in
        let few = refused_exactly (alphabet t) most_sets A build in
        let is : asked ≡ beside_of t (listing t F) = with_room table formula rows edges buffer work room enough
        ∙ (on-prepared_goes table formula is_table is_formula (beside_in rows edges) long wide ∙ ap (λ r. and_then r (beside_of t)) fits) in
        let told = answers-refused counts_beside asked 20 (suc most_sets) in (
          λ e h. many (length (sets A (alphabet t) most_sets)) (record { list = listing t F; smallest = smallest_of t (listing t F) }) (sym is ∙ told.0 e) (few.1 h),
          λ n. told.1 (is ∙ ap (λ b. unless b 20 (suc most_sets) (accepted (record { list = listing t F; smallest = smallest_of t (listing t F) })))
              (none (length (sets A (alphabet t) most_sets)) (λ h. n (few.0 h)))),
        )
      where
        none : (k : ℕ) → (k ≤ most_sets → ⊥) → leb k most_sets ≡ false
        none k n = lt-leb k most_sets (omega (arith, n))

        many : (k : ℕ) (b : Beside) → unless (leb k most_sets) 20 (suc most_sets) (accepted b) ≡ refusal 20 (suc most_sets) → k ≤ most_sets → ⊥
        many k b e h = refusal-is-not-accepted (sym e ∙ ap (λ x. unless x 20 (suc most_sets) (accepted b)) (le-leb k most_sets h))
