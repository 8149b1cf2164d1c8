-- The formula that a tree of the base notation stands for, over a table's label names; and a line's, which is written out first.
use Rattle.std.specs.Prelude.{List, ℕ, length}
use Rattle.std.proofs.Math.Option.{Option, none, some}
use Rattle.lts.specs.Names.{lookup}
use Rattle.lts.specs.Directions.{Direction, label_direction}
use Rattle.actl.specs.Actions.{Action, Mask, mask_of, Cond, silent, labels}
use Rattle.actl.specs.Formulas.{Formula}
use Rattle.actl.specs.Grammar.{Set, operand, union, Operand, name, any, received, sent, except, group, Condition, dot, set, Quantifier, existential, universal}
use Rattle.actl.specs.Base.{BaseHead, next, until, until_then, Base, term, or, BaseTerm, tru, not, modal, paren}

-- A label's number; 0, which satisfies no set, stands for a name that the table lacks.
abbrev pub label_number : Option ℕ → ℕ
label_number none = 0
label_number (some a) = a

abbrev mutual
  pub action_of_set : List (List ℕ) → Set → Action
  action_of_set names (operand o) = action_of_operand names o
  action_of_set names (union x a b o) = Action.or (action_of_set names x) (action_of_operand names o)

  pub action_of_operand : List (List ℕ) → Operand → Action
  action_of_operand names (name n) = Action.label (label_number (lookup names n.bytes))
  action_of_operand names any = Action.any
  action_of_operand names received = Action.directed Direction.received
  action_of_operand names sent = Action.directed Direction.sent
  action_of_operand names (except a o) = Action.not (action_of_operand names o)
  action_of_operand names (group a x b) = action_of_set names x

-- The labels, of a table with these names, that satisfy an action formula.
abbrev pub labels_of : List (List ℕ) → Action → Mask
labels_of names x = mask_of (label_direction names) (length names) x

abbrev pub mask_in : List (List ℕ) → Set → Mask
mask_in names x = labels_of names (action_of_set names x)

abbrev pub cond_of : List (List ℕ) → Condition → Cond
cond_of names dot = silent
cond_of names (set x) = labels (mask_in names x)

abbrev pub next_of : Quantifier → Cond → Formula → Formula
next_of existential c f = Formula.ex c f
next_of universal c f = Formula.ax c f

abbrev pub modal_of : List (List ℕ) → BaseHead → Formula → Formula
modal_of names (next q a b c d) f = next_of q (cond_of names c) f
modal_of names (until a b x d) f = Formula.eu (mask_in names x) f
modal_of names (until_then a b x c d y e) f = Formula.eu_then (mask_in names x) (mask_in names y) f

abbrev mutual
  pub formula_of : List (List ℕ) → Base → Formula
  formula_of names (term t) = formula_of_term names t
  formula_of names (or f a b t) = Formula.or (formula_of names f) (formula_of_term names t)

  pub formula_of_term : List (List ℕ) → BaseTerm → Formula
  formula_of_term names tru = Formula.tru
  formula_of_term names (not a t) = Formula.not (formula_of_term names t)
  formula_of_term names (modal h a t) = modal_of names h (formula_of_term names t)
  formula_of_term names (paren a f b) = formula_of names f
