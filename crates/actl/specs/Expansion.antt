-- 02: "An accepted line must behave, row for row, as its expansion would without the 512-byte limit." The expansion of a line, and its answers.
use Rattle.std.specs.Prelude.{◌≡◌, ℕ, length}
use mathlib.Core.List.{List, [], ◌∷◌, ◌++◌, Memᴰ}
use Rattle.std.proofs.Math.Option.{none, some}
use Rattle.lts.specs.Lists.{bind}
use Rattle.lts.specs.Marks.{Marks}
use Rattle.lts.specs.Names.{lookup}
use Rattle.lts.specs.Reply.{refusal}
use Rattle.actl.specs.Grammar.{Name, Disjunction, Piece, byte, named, text_of, pieces_f}
use Rattle.actl.specs.Base.{typed, BaseText}
use Rattle.actl.specs.WrittenOut.{written_out}
use Rattle.actl.specs.Reading.{on_tree}

-- A line's expansion: the text of its tree written out.
abbrev pub expansion : Disjunction → List ℕ
expansion f = text_of (pieces_f (typed (written_out f)) [])

-- The names among the pieces, in text order.
abbrev pub name_of : Piece → List Name
name_of (byte b) = []
name_of (named n) = n ∷ []

abbrev pub names_among : List Piece → List Name
names_among l = bind name_of l

-- The table has every name among the pieces.
abbrev pub Known : List (List ℕ) → List Piece → Type 0
Known names l = (n : Name) → Memᴰ n (names_among l) → (a : ℕ) × (lookup names n.bytes ≡ some a)

-- n is the first name among the pieces l that the table lacks; `before` names stand before it, and it stands at the offset `at` of their text.
pub record FirstLacking (names : List (List ℕ)) (l : List Piece) (n : Name) (before at : ℕ) : Type 0 where
  pub front : List Piece
  pub later : List Piece
  pub splits : l ≡ front ++ (named n ∷ later)
  pub counts : length (names_among front) ≡ before
  pub stands : length (text_of front) ≡ at
  pub known : Known names front
  pub lacks : lookup names n.bytes ≡ none

-- The answers from 7 on, for the tree f of a line and the tree g of its expansion.
pub data SameAnswer (names : List (List ℕ)) (f g : Disjunction) : Type 0 where
  -- No name is lacking: the same formula, or 8 or 9 with the same figure.
  same : Known names (pieces_f f []) → Known names (pieces_f g []) → on_tree names f ≡ on_tree names g → SameAnswer names f g
  -- 7 for the same first name, which stands in each text at its own offset. 02: "5, 6 and 7 measure the line as typed"
  lacking : (n : Name) (before i j : ℕ) → FirstLacking names (pieces_f f []) n before i → FirstLacking names (pieces_f g []) n before j
      → on_tree names f ≡ refusal 7 i → on_tree names g ≡ refusal 7 j → SameAnswer names f g

-- The expansion of a line whose tree is f is a text of the base notation, with the tree written out, and as a line it has the same answer.
pub record Expands (m : Marks) (names : List (List ℕ)) (f : Disjunction) : Type 0 where
  pub base : BaseText m (expansion f) (written_out f)
  pub answer : SameAnswer names f (typed (written_out f))
