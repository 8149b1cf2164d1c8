-- What a call that answers behind the grammar did.
use Rattle.std.specs.Prelude.{◌≡◌, List, ℕ, Result}
use Rattle.std.proofs.Math.Option.{Option}
use Rattle.lts.specs.Reply.{Reply, left_in, answers}
use Rattle.actl.specs.Formulas.{Formula}
use Rattle.actl.specs.Prepared.{formula_bytes}
use Rattle.actl.specs.Reading.{unless_found, with_classes}
use Rattle.formula_text.specs.Replies.{formula_reply}
use Rattle.formula_text.specs.declared.FormulaRefusal.{FormulaRefusal}
use Rattle.actl.specs.inner.Writing.{NodesHeld}

-- A call that answers r and leaves x in the buffer e did what a reading says.
pub record FormulaAnswered (a : Reply Formula) (e : List ℕ) (r : Result (Unit {0}) FormulaRefusal) (x : List ℕ) : Type 0 where
  pub replies : formula_reply r ≡ answers (λ F. tt) a
  pub leaves : x ≡ left_in formula_bytes a e

abbrev pub FormulaAnsweredWith : List ℕ → ℕ → ℕ → List ℕ → Result (Unit {0}) FormulaRefusal → List ℕ → Type 0
FormulaAnsweredWith b n lost e r x = (F : Formula) (o : Option ℕ) → NodesHeld b n lost F o → FormulaAnswered (unless_found o 7 (with_classes F)) e r x
