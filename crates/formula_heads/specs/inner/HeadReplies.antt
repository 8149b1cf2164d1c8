-- What the reader of heads answers.
use Rattle.std.specs.Prelude.{cond, List, [], ◌∷◌, ℕ, Result, Ok, Err}
use Rattle.actl.specs.inner.Reader.{term_at}
use Rattle.actl.specs.Prepared.{Slot, slot}
use Rattle.actl.specs.inner.Cursor.{Fails}
use Rattle.actl.specs.inner.Readers.{HeadRead}
use Rattle.formulas.specs.inner.Access.{slot_of_node}
use Rattle.formula_cursor.specs.declared.Cursor.{Cursor}
use Rattle.formula_heads.specs.declared.Heading.{Heading}

-- The slots of a keyword's nodes.
abbrev pub slots_of : Heading → List Slot
slots_of h = cond h.dual (slot 2 0 0 ∷ slot_of_node h.node ∷ slot 2 0 0 ∷ []) (slot_of_node h.node ∷ [])

abbrev pub HeadAnswer : List (List ℕ) → List ℕ → ℕ → ℕ → Result Heading Cursor → Type 0
HeadAnswer N s at lost (Ok h) = HeadRead N s at lost h.end.at (slots_of h) h.lost
HeadAnswer N s at lost (Err c) = Fails s at c.at term_at
