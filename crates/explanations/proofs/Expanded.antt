-- `explain` answers and leaves for a line what it would for the line's expansion without the limit of 512 bytes; 7 alone has the line's own figure.
use mathlib.Core.Path.{◌≡◌, refl, sym, ap, ◌∙◌}
use mathlib.Core.Bool.{Bool, true, false}
use mathlib.Core.List.{List}
use Prim.Native.Nat.{ℕ, ◌≤◌}
use native.Mathlib.Omega.{arith}
use lib.Dec.{leb}
use lib.ListN.{length}
use Rattle.lts.specs.Sizes.{table_length}
use Rattle.lts.specs.Reply.{Reply, accepted, refusal, unless, answers}
use Rattle.lts.specs.Marks.{marked}
use Rattle.lts.specs.Steps.{Table}
use Rattle.lts.specs.Reading.{read_table}
use Rattle.actl.specs.Sizes.{longest_text, formula_length}
use Rattle.actl.specs.Formulas.{Formula}
use Rattle.actl.specs.Grammar.{Disjunction}
use Rattle.actl.specs.Grammatical.{Text}
use Rattle.actl.specs.inner.Reading.{read_unlimited, read_formula}
use Rattle.actl.specs.Expansion.{expansion}
use Rattle.actl.specs.FormulaReading.{long_enough}
use Rattle.actl.proofs.Laws.Expanded.{read-as_expanded}
use Rattle.automaton.specs.inner.Search.{listing}
use Rattle.automaton.specs.Build.{fitted}
use Rattle.explanations.specs.Explanation.{Explanation, and_then, explanation, explaining}
use Rattle.explanations.specs.Expanded.{explaining_unlimited}

-- Replies that are alike but for a refusal 7 of the first.
abbrev Alike : {A : Type 0} → Reply A → Reply A → Type 0
Alike r x = ((n : ℕ) → r ≡ refusal 7 n → ⊥) → r ≡ x

alike_unless : {A : Type 0} (b : Bool) (number figure : ℕ) (r x : Reply A) → Alike r x → Alike (unless b number figure r) (unless b number figure x)
alike_unless true number figure r x h = h
alike_unless false number figure r x h = λ other. refl

alike_then : {A B : Type 0} (r x : Reply A) (f : A → Reply B) → Alike r x → Alike (and_then r f) (and_then x f)
alike_then (accepted a) x f h = λ other. ap (λ v. and_then v f) (h (λ n e. absurd (let z : ◌≡◌ {A = ℕ} 0 1 = cc in omega arith)))
alike_then (refusal m g) x f h = λ other. ap (λ v. and_then v f) (h (λ n e. other n (ap (λ v. and_then v f) e)))

alike_second : {A B : Type 0} (r : Reply A) (f g : A → Reply B) → ((a : A) → Alike (f a) (g a)) → Alike (and_then r f) (and_then r g)
alike_second (accepted a) f g h = h a
alike_second (refusal m k) f g h = λ other. refl

module _ (table_text s table formula rows edges : List ℕ) (f : Disjunction) (short : length s ≤ longest_text) (tree : Text marked s f) where
  abbrev behind : Table → Formula → Reply Explanation
  behind t F = answers (λ L. record { table = t; formula = F; list = L }) (fitted (listing t F) rows edges)

  pub explained-as_expanded : ((n : ℕ) → explaining table_text s table formula rows edges ≡ refusal 7 n → ⊥)
      → explaining table_text s table formula rows edges ≡ explaining_unlimited table_text (expansion f) table formula rows edges
  unfolding explaining
  explained-as_expanded =
      let r = explanation table_text s rows edges in
      let x = and_then (read_table table_text) (λ t. and_then (read_unlimited t.names (expansion f)) (behind t)) in
      let h : Alike r x = alike_second (read_table table_text) (λ t. and_then (read_formula t.names s) (behind t)) (λ t. and_then (read_unlimited t.names (expansion f)) (behind t))
      (λ t. alike_then (read_formula t.names s) (read_unlimited t.names (expansion f)) (behind t) (read-as_expanded t.names s f short tree)) in
      alike_unless (leb table_length (length table)) 14 table_length (unless (leb formula_length (length formula)) 14 formula_length r)
      (unless (leb formula_length (length formula)) 14 formula_length x)
      (alike_unless (leb formula_length (length formula)) 14 formula_length r x h)

  -- What `explain` accepts: the summary, the prepared bytes, the rows and the edges are functions of the explanation.
  pub accepted-as_expanded : (e : Explanation) → explaining table_text s table formula rows edges ≡ accepted e → explaining_unlimited table_text (expansion f) table formula rows edges ≡ accepted e
  accepted-as_expanded e h = sym (explained-as_expanded (λ n z. absurd (let c = sym h ∙ z in let y : ◌≡◌ {A = ℕ} 0 1 = cc in omega arith))) ∙ h
