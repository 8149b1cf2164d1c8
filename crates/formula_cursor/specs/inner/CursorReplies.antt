-- What the methods of a cursor answer of a text s.
use Rattle.std.specs.Prelude.{◌≡◌, false, List, ℕ, ◌+◌, get_or, Option, None, Some}
use Rattle.lts.specs.Names.{is_lower}
use Rattle.formula_cursor.specs.declared.Cursor.{Cursor}
use Rattle.actl.specs.inner.Cursor.{peek, Marked, Tokened, Keyword, Named}

abbrev pub MarkAnswer : List ℕ → ℕ → ℕ → Option Cursor → Type 0
MarkAnswer s at mark (Some c) = Marked s at mark c.at
MarkAnswer s at mark None = peek s at ≡ mark → ⊥

abbrev pub TokenAnswer : List ℕ → ℕ → ℕ → Option Cursor → Type 0
TokenAnswer s at mark (Some c) = Tokened s at mark c.at
TokenAnswer s at mark None = peek s at ≡ mark → ⊥

abbrev pub KeywordAnswer : List ℕ → ℕ → List ℕ → Option Cursor → Type 0
KeywordAnswer s at w (Some c) = Keyword s at (get_or w 0 0) (get_or w 1 0) c.at
KeywordAnswer s at w None = peek s at ≡ get_or w 0 0 → peek s (at + 1) ≡ get_or w 1 0 → ⊥

abbrev pub NameAnswer : List ℕ → ℕ → Option Cursor → Type 0
NameAnswer s at (Some c) = Named s at c.at
NameAnswer s at None = is_lower (peek s at) ≡ false
