-- 02: "Reading the written text restores the same prepared formula, and over one table equal prepared formulas give equal text."
use Rattle.std.specs.Prelude.{◌≡◌, ◌↔◌, List, ℕ, ◌≤◌, length, take}
use Rattle.lts.specs.Reply.{Reply, accepted, refusal, overwritten}
use Rattle.lts.specs.Marks.{marked}
use Rattle.actl.specs.Sizes.{longest_text, formula_length}
use Rattle.actl.specs.Formulas.{Formula}
use Rattle.actl.specs.Base.{Base, typed, BaseText}
use Rattle.actl.specs.Reading.{on_tree}
use Rattle.actl.specs.FormulaReading.{formula_replied, formula_left}
use Rattle.actl.specs.InPrepared.{InPrepared}
use Rattle.written_back.specs.FormulaText.{formula_text}

-- Whatever its length, the text is one of the base notation, and what is read from its tree is the formula.
pub record Restores (N : List (List ℕ)) (F : Formula) : Type 0 where
  pub tree : Base
  pub base : BaseText marked (formula_text N F) tree
  pub reads : on_tree N (typed tree) ≡ accepted F

-- Of prepared bytes: `read_formula` accepts the text, if it has at most 512 bytes, and leaves the very bytes of the formula.
abbrev pub RestoresBytes : List ℕ → List ℕ → List ℕ → Type 0
RestoresBytes table formula s =
    (buffer : List ℕ) → formula_length ≤ length buffer →
    (formula_replied table s buffer ≡ accepted tt) × (formula_left table s buffer ≡ overwritten (take formula_length formula) buffer)

-- What an accepted call left in the first bytes of the text reads back.
abbrev pub Restored : List ℕ → List ℕ → Reply ℕ → List ℕ → Type 0
Restored table formula (accepted n) text = RestoresBytes table formula (take n text)
Restored table formula (refusal number figure) text = Unit {0}

-- What is written for prepared bytes reads back.
abbrev pub ReadsBack : List ℕ → List ℕ → Type 0
ReadsBack table formula =
    InPrepared table formula (λ t F. Restores t.names F × (length (formula_text t.names F) ≤ longest_text → RestoresBytes table formula (formula_text t.names F)))

-- Over one table: the formulas in two buffers have the same text exactly if their bytes are the same.
abbrev pub SameText : List ℕ → List ℕ → List ℕ → Type 0
SameText table formula other =
    InPrepared table formula (λ t F. InPrepared table other (λ u G. (formula_text t.names F ≡ formula_text u.names G) ↔ (take formula_length formula ≡ take formula_length other)))
