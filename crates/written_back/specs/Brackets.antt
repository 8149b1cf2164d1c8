-- How many pairs of round brackets a text has outside its sets, told by its bytes, and that a formula's text has the fewest.
use Rattle.std.specs.Prelude.{◌≡◌, Bool, true, false, cond, not, List, [], ◌∷◌, ℕ, suc, ◌+◌, ◌≤◌, eqb}
use Rattle.lts.specs.Marks.{marked}
use Rattle.lts.specs.Reply.{accepted}
use Rattle.actl.specs.Formulas.{Formula}
use Rattle.actl.specs.Grammar.{Disjunction}
use Rattle.actl.specs.Grammatical.{Text}
use Rattle.actl.specs.Base.{Base, typed, BaseText}
use Rattle.actl.specs.Reading.{on_tree}
use Rattle.written_back.specs.FormulaText.{formula_text}

-- The bytes c outside square brackets, where the Boolean says whether the text begins inside one: a 91 begins it, the next 93 ends it.
abbrev pub count_from : ℕ → Bool → List ℕ → ℕ
count_from c inside [] = 0
count_from c true (b ∷ s) = count_from c (not (eqb b 93)) s
count_from c false (b ∷ s) = let more = count_from c (eqb b 91) s in cond (eqb b c) (suc more) more

-- `(` and `&`.
abbrev pub outside : List ℕ → ℕ
outside s = count_from 40 false s

abbrev pub ampersands : List ℕ → ℕ
ampersands s = count_from 38 false s

-- "round brackets only where the grouping needs them": of all texts that read to this formula, with names N, none has fewer outside its
-- sets. `x & y` is `~(~x | ~y)`: each `&` of a text stands for a pair that the base notation needs.
pub record FewestBrackets (N : List (List ℕ)) (F : Formula) : Type 0 where
  pub fewest : (s : List ℕ) (f : Disjunction) → Text marked s f → on_tree N f ≡ accepted F
      → outside (formula_text N F) ≤ outside s + ampersands s
  -- In the base notation, which has no `&`.
  pub in_base : (s : List ℕ) (g : Base) → BaseText marked s g → on_tree N (typed g) ≡ accepted F
      → outside (formula_text N F) ≤ outside s
