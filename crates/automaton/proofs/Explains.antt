-- A word explains the verdict exactly if it leads from the root at the start state to a final position.
use mathlib.Core.Path.{◌≡◌, refl, sym, ◌∙◌}
use mathlib.Core.Logic.{◌⊎◌, inl, inr, ◌↔◌}
use mathlib.Core.List.{List}
use Prim.Native.Nat.{ℕ}
use native.Mathlib.Omega.{arith}
use Rattle.lts.specs.Steps.{Step, Table}
use Rattle.actl.specs.Formulas.{Formula, class_of}
use Rattle.automaton.specs.Witnesses.{Witness, Counterexample}
use Rattle.automaton.specs.Explains.{IsExplanation, Explains}
use Rattle.automaton.specs.Positions.{root_at, Walk}
use Rattle.automaton.proofs.PathWords.{words-of_witnesses, words-of_counterexamples}

one_class : {A : Type 0} (c : ℕ) → c ≡ 1 → c ≡ 2 → A
one_class c e d = absurd (omega arith)

module _ (t : Table) (F : Formula) (w : List ℕ) where
  pub explains-is_walk : (class_of F ≡ 1) ⊎ (class_of F ≡ 2) → Explains t F w ↔ Walk t F (root_at t) w
  explains-is_walk (inl c) = let h = words-of_witnesses t F w c in (
    λ (p, path, word, e). h.0 (p, path, word, witness p e),
    λ u. let (p, path, word, d) = h.1 u in (p, path, word, inl (c, d)),
  )
    where
      witness : (p : List Step) → IsExplanation F p → Witness F p
      witness p (inl (z, d)) = d
      witness p (inr (z, d)) = one_class (class_of F) c z
  explains-is_walk (inr c) = let h = words-of_counterexamples t F w c in (
    λ (p, path, word, e). h.0 (p, path, word, counterexample p e),
    λ u. let (p, path, word, d) = h.1 u in (p, path, word, inr (c, d)),
  )
    where
      counterexample : (p : List Step) → IsExplanation F p → Counterexample F p
      counterexample p (inl (z, d)) = one_class (class_of F) z c
      counterexample p (inr (z, d)) = d
