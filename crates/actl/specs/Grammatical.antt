-- Which texts are in the grammar, and how far a text goes with it. m says whether it is the grammar with marks.
use Rattle.std.specs.Prelude.{◌≡◌, true, List, [], ◌++◌, ℕ, ◌≤◌, length, take}
use Rattle.lts.specs.Lists.{every}
use Rattle.lts.specs.Marks.{Marks}
use Rattle.actl.specs.Grammar.{Disjunction, pieces_f, text_of}
use Rattle.actl.specs.Marks.{fits_piece}

-- f is the tree of the text s.
pub record Text (m : Marks) (s : List ℕ) (f : Disjunction) : Type 0 where
  pub fits : every (fits_piece m) (pieces_f f []) ≡ true
  pub shows : text_of (pieces_f f []) ≡ s

abbrev pub Grammatical : Marks → List ℕ → Type 0
Grammatical m s = (f : Disjunction) × Text m s f

-- A beginning that some grammatical text, of any length, has.
abbrev pub Viable : Marks → List ℕ → Type 0
Viable m p = (rest : List ℕ) × Grammatical m (p ++ rest)

-- 01: "length of the longest beginning that some grammatical text, of any length, has"
pub record Longest (m : Marks) (s : List ℕ) (n : ℕ) : Type 0 where
  pub within : n ≤ length s
  pub begins : Viable m (take n s)
  pub most : (k : ℕ) → k ≤ length s → Viable m (take k s) → k ≤ n
