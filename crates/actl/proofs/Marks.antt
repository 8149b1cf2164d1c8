-- Every text is one of the grammar with marks; a text without marks is one of the grammar without.
use mathlib.Core.Path.{◌≡◌, refl}
use mathlib.Core.Bool.{true, not}
use mathlib.Core.List.{List, [], ◌∷◌}
use Rattle.lts.specs.Lists.{every}
use Rattle.lts.specs.Marks.{unmarked, marked, is_mark}
use Rattle.lts.specs.Names.{is_name_with, is_name}
use Rattle.lts.specs.Directions.{Plain}
use Rattle.lts.proofs.Booleans.{and-true-of, and-true-to}
use Rattle.lts.proofs.Laws.Unmarked.{plain_behind, plain_stem}
use Rattle.actl.specs.Grammar.{Piece, byte, named, text_of}
use Rattle.actl.specs.Marks.{fits_piece}

pub pieces_fit : (l : List Piece) → every (fits_piece marked) l ≡ true
pieces_fit [] = refl
pieces_fit (byte b ∷ l) = pieces_fit l
pieces_fit (named n ∷ l) = and-true-to (is_name n.bytes) (every (fits_piece marked) l) n.fits (pieces_fit l)

pub plain_fits : (l : List Piece) → Plain (text_of l) → every (fits_piece unmarked) l ≡ true
plain_fits [] h = refl
plain_fits (byte b ∷ l) h =
    let (first, rest) = and-true-of (not (is_mark b)) (every (λ c. not (is_mark c)) (text_of l)) h in
    and-true-to (not (is_mark b)) (every (fits_piece unmarked) l) first (plain_fits l rest)
plain_fits (named n ∷ l) h =
    let (first, rest) = plain_behind n.bytes (text_of l) h in
    and-true-to (is_name_with unmarked n.bytes) (every (fits_piece unmarked) l) (plain_stem n.bytes n.fits first) (plain_fits l rest)
