-- What the readers of sets answer.
use Rattle.std.specs.Prelude.{◌≡◌, ◌⊎◌, List, ℕ, Option, None, Some, Result, Ok, Err}
use Rattle.actl.specs.inner.Reader.{o_first, operand_at}
use Rattle.actl.specs.inner.Cursor.{peek, Fails}
use Rattle.formula_cursor.specs.declared.Cursor.{Cursor}
use Rattle.formula_sets.specs.declared.LabelSet.{LabelSet}
use Rattle.actl.specs.inner.Readers.{OperandRead, SetRead, EnclosedRead, Unclosed}

-- An operand that is one mark.
abbrev pub WildcardAnswer : List (List ℕ) → List ℕ → ℕ → Option (Cursor × ℕ) → Type 0
WildcardAnswer N s at (Some x) = (lost : ℕ) → OperandRead N s at lost x.0.at x.1 lost
WildcardAnswer N s at None = (peek s at ≡ 42 → ⊥) × (peek s at ≡ 63 → ⊥) × (peek s at ≡ 33 → ⊥)

abbrev pub OperandAnswer : List (List ℕ) → List ℕ → ℕ → ℕ → Result LabelSet Cursor → Type 0
OperandAnswer N s at lost (Ok x) = OperandRead N s at lost x.end.at x.mask x.lost
OperandAnswer N s at lost (Err c) = Fails s at c.at operand_at

abbrev pub SetAnswer : List (List ℕ) → List ℕ → ℕ → ℕ → Result LabelSet Cursor → Type 0
SetAnswer N s at lost (Ok x) = SetRead N s at lost x.end.at x.mask x.lost
SetAnswer N s at lost (Err c) = Fails s at c.at (λ k. operand_at (o_first k))

abbrev pub EnclosedAnswer : List (List ℕ) → List ℕ → ℕ → ℕ → ℕ → Result LabelSet Cursor → Type 0
EnclosedAnswer N s at mark lost (Ok x) = EnclosedRead N s at mark lost x.end.at x.mask x.lost
EnclosedAnswer N s at mark lost (Err c) = Fails s at c.at (λ k. operand_at (o_first k)) ⊎ Unclosed N s at mark lost c.at
