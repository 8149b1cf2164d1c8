-- Definition 6 of document 000: finite witnesses and counterexamples, clause by clause. The universal until is left out.
-- A path that "contains only two states" is one step here, and "one state and no transitions" is no step.
use Rattle.std.specs.Prelude.{◌≡◌, ◌⊎◌, true, false, List, [], ◌∷◌, ◌++◌}
use Rattle.lts.specs.Steps.{Step}
use Rattle.actl.specs.Actions.{Mask, in_set, meets, passes}
use Rattle.actl.specs.Formulas.{Formula, tru, not, or, ex, ax, eu, eu_then, is_t}

-- Each step is silent or in the set.
abbrev pub AllPass : Mask → List Step → Type 0
AllPass a [] = Unit {0}
AllPass a (st ∷ p) = (passes a st.label ≡ true) × AllPass a p

abbrev mutual
  pub Witness : Formula → List Step → Type 0
  Witness tru p = p ≡ []  -- (a)
  Witness (not f) p = Counterexample f p  -- (b)
  Witness (or f g) p = Witness f p ⊎ Witness g p  -- (c)
  Witness (ex c f) p = (st : Step) × (rest : List Step) × (p ≡ st ∷ rest) × (meets c st.label ≡ true) × Witness f rest  -- (f), (g)
  Witness (ax c f) p = ⊥
  Witness (eu a f) p = (before : List Step) × (rest : List Step) × (p ≡ before ++ rest) × AllPass a before × Witness f rest  -- (d)
  Witness (eu_then a b f) p = (before : List Step) × (st : Step) × (rest : List Step) × (p ≡ before ++ (st ∷ rest)) × AllPass a before × (in_set b st.label ≡ true) × Witness f rest  -- (e)

  pub Counterexample : Formula → List Step → Type 0
  Counterexample tru p = ⊥
  Counterexample (not f) p = Witness f p  -- (h)
  Counterexample (or f g) p = ⊥
  Counterexample (ex c f) p = ⊥
  -- (i), (k): the first part, alone where the arm is T; (j), (l): both
  Counterexample (ax c f) p = ((st : Step) × (p ≡ st ∷ []) × (meets c st.label ≡ false))
      ⊎ ((st : Step) × (rest : List Step) × (is_t f ≡ false) × (p ≡ st ∷ rest) × (meets c st.label ≡ true) × Counterexample f rest)
  Counterexample (eu a f) p = ⊥
  Counterexample (eu_then a b f) p = ⊥
