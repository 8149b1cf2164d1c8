-- What the phases of reading an operand hand each other.
use Rattle.std.specs.Prelude.{◌≡◌, Bool, cond, List, ℕ, ◌-◌, ◌≤◌, Option, None, Some, Result, Ok, Err}
use Rattle.actl.specs.Actions.{Action}
use Rattle.actl.specs.Meaning.{labels_of}
use Rattle.actl.specs.inner.Cursor.{peek, Marked, Token}
use Rattle.actl.specs.inner.Readers.{SetRead}
use Rattle.formula_sets.specs.inner.SetReplies.{OperandAnswer, EnclosedAnswer}
use Rattle.formula_cursor.specs.declared.Cursor.{Cursor}
use Rattle.formula_sets.specs.declared.LabelSet.{LabelSet}

-- A mark that stands for labels.
abbrev pub MarkedLabels : List ℕ → ℕ → ℕ → ℕ → Option (Cursor × ℕ) → Type 0
MarkedLabels s at mark mask (Some x) = Marked s at mark x.0.at × (x.1 ≡ mask)
MarkedLabels s at mark mask None = peek s at ≡ mark → ⊥

-- A place at which neither `~` nor `(` stands.
pub record NoOpening (s : List ℕ) (at : ℕ) : Type 0 where
  pub no_not : peek s at ≡ 126 → ⊥
  pub no_paren : peek s at ≡ 40 → ⊥

-- 01: "`~` and an operand": all labels but those.
abbrev pub without : ℕ → LabelSet → LabelSet
without all x = record x { mask = all - x.mask }

abbrev pub complemented : ℕ → Result LabelSet Cursor → Result LabelSet Cursor
complemented all (Ok x) = Ok (without all x)
complemented all (Err c) = Err c

-- Behind signs: what stands there is the operand, or all labels but its own.
abbrev pub signed : Bool → ℕ → Result LabelSet Cursor → Result LabelSet Cursor
signed odd all r = cond odd (complemented all r) r

-- Signs from `at` to `to`: whatever is read behind them, with them it is read from `at`.
pub record SignsPassed (s : List ℕ) (at to : ℕ) (odd : Bool) : Type 0 where
  pub up : at ≤ to
  pub token : Token s to
  pub says : (N : List (List ℕ)) (lost : ℕ) (r : Result LabelSet Cursor) → OperandAnswer N s to lost r → OperandAnswer N s at lost (signed odd (labels_of N Action.any) r)

-- And no more of them.
pub record SignsRead (s : List ℕ) (at to : ℕ) (odd : Bool) : Type 0 where
  pub passed : SignsPassed s at to odd
  pub no_not : peek s to ≡ 126 → ⊥

-- What was read as a set is a set in brackets, or is none.
abbrev pub Closes : List ℕ → ℕ → LabelSet → Result LabelSet Cursor → Type 0
Closes s mark x r = (N : List (List ℕ)) (at lost : ℕ) → SetRead N s at lost x.end.at x.mask x.lost → EnclosedAnswer N s at mark lost r
