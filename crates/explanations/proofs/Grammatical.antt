-- What refusal 6 of `explain` says of the formula's text.
use mathlib.Core.Path.{◌≡◌}
use mathlib.Core.List.{List}
use Prim.Native.Nat.{ℕ}
use native.Mathlib.Omega.{arith}
use lib.Dec.{leb}
use lib.ListN.{length}
use Rattle.lts.specs.Sizes.{table_length}
use Rattle.lts.specs.Reply.{Reply, accepted, refusal, unless, answers}
use Rattle.lts.specs.Steps.{Table}
use Rattle.lts.specs.Reading.{read_table}
use Rattle.lts.proofs.Laws.Refusals.{Between, numbered_of, numbered-answers, same-refusal, unless-refused, table-numbers}
use Rattle.actl.specs.Sizes.{formula_length}
use Rattle.actl.specs.Formulas.{Formula}
use Rattle.lts.specs.Marks.{marked}
use Rattle.actl.specs.Grammatical.{Grammatical, Longest}
use Rattle.actl.specs.inner.Reading.{read_formula}
use Rattle.actl.proofs.Laws.ByGrammar.{reading-longest}
use Rattle.automaton.specs.Listing.{Listing}
use Rattle.automaton.specs.inner.Search.{listing}
use Rattle.automaton.specs.Build.{fitted}
use Rattle.automaton.proofs.Refusals.{fitted-numbers}
use Rattle.explanations.specs.Explanation.{Explanation, and_then, explanation, explaining}

module _ {A B : Type 0} (n g : ℕ) (f : A → Reply B) where
  -- A refusal of what comes second, and of what comes first.
  second-refused : (r : Reply A) → (r ≡ refusal n g → ⊥) → and_then r f ≡ refusal n g → (a : A) × (f a ≡ refusal n g)
  second-refused (accepted a) h e = (a, e)
  second-refused (refusal m k) h e = absurd (h (let (a, b) = same-refusal e in λ i. refusal (a i) (b i)))

  first-refused : (r : Reply A) → ((a : A) → f a ≡ refusal n g → ⊥) → and_then r f ≡ refusal n g → r ≡ refusal n g
  first-refused (accepted a) h e = absurd (h a e)
  first-refused (refusal m k) h e = let (a, b) = same-refusal e in λ i. refusal (a i) (b i)

module _ (table_text formula_text table formula rows edges : List ℕ) where
  abbrev on_listing : (t : Table) (F : Formula) → Listing → Explanation
  on_listing t F L = record { table = t; formula = F; list = L }

  abbrev on_formula : Table → Formula → Reply Explanation
  on_formula t F = answers (on_listing t F) (fitted (listing t F) rows edges)

  pub explanation-longest : (n : ℕ) → explanation table_text formula_text rows edges ≡ refusal 6 n → Longest marked formula_text n × (Grammatical marked formula_text → ⊥)
  explanation-longest n e =
      let (t, d) = second-refused 6 n (λ t. and_then (read_formula t.names formula_text) (on_formula t)) (read_table table_text)
      (λ z. let h = numbered_of (Between 1 4) (read_table table_text) 6 n (table-numbers table_text) z in omega (arith, h.1)) e in
      reading-longest t.names formula_text n (first-refused 6 n (on_formula t) (read_formula t.names formula_text)
      (λ F z. let numbers = numbered-answers (Between 11 12) (on_listing t F) (fitted (listing t F) rows edges) (fitted-numbers (listing t F) rows edges) in
      let h = numbered_of (Between 11 12) (on_formula t F) 6 n numbers z in omega (arith, h.0)) d)

  pub explaining-longest : (n : ℕ) → explaining table_text formula_text table formula rows edges ≡ refusal 6 n → Longest marked formula_text n × (Grammatical marked formula_text → ⊥)
  unfolding explaining
  explaining-longest n e =
      let next = explanation table_text formula_text rows edges in
      let d = (unless-refused 6 n (leb table_length (length table)) 14 table_length (unless (leb formula_length (length formula)) 14 formula_length next) (λ z. omega arith) e).1 in
      explanation-longest n (unless-refused 6 n (leb formula_length (length formula)) 14 formula_length next (λ z. omega arith) d).1
