-- 01, "The formula as text", with 02's marks and short forms: trees that keep their blanks and brackets, and the pieces that the text of each is
-- made of. `piecesX x l` are x's pieces with l behind them. WrittenOut.antt says what the short forms stand for.
use Rattle.std.specs.Prelude.{◌≡◌, true, List, [], ◌∷◌, ℕ, zero, suc}
use Rattle.lts.specs.Lists.{bind}
use Rattle.lts.specs.Names.{is_name}

pub record Name : Type 0 where
  pub bytes : List ℕ
  pub fits : is_name bytes ≡ true

-- Each ℕ is a number of blanks. 01: "Blanks may stand between tokens, never inside one, before the first or after the last."
mutual
  -- 01: "A set is one or more operands joined by `|`"
  pub data Set : Type 0 where
    operand : Operand → Set
    union : Set → ℕ → ℕ → Operand → Set

  -- 01: "an operand is a name, `*` (all labels), `~` and an operand, or a set in round brackets"; 02: "In a set, an operand `?` is all
  -- received labels and an operand `!` all sent ones."
  pub data Operand : Type 0 where
    name : Name → Operand
    any received sent : Operand
    except : ℕ → Operand → Operand
    group : ℕ → Set → ℕ → Operand

-- 01: "The silent step is `.`, alone, only in EX and AX."
pub data Condition : Type 0 where
  dot : Condition
  set : Set → Condition

pub data Quantifier : Type 0 where
  existential universal : Quantifier

-- A keyword with its square bracket, if it has one. 02: "`EF`, `AG`, `DIA[A]` and `BOX[A]`"; "In DIA and BOX the bracket is a set."
pub data Head : Type 0 where
  next : Quantifier → ℕ → ℕ → Condition → ℕ → Head
  until : ℕ → ℕ → Set → ℕ → Head
  until_then : ℕ → ℕ → Set → ℕ → ℕ → Set → ℕ → Head
  reach : Quantifier → Head
  labelled : Quantifier → ℕ → ℕ → Set → ℕ → Head

mutual
  -- 01: "A formula is one or more terms joined by `|`, grouped from the left." 02: "`&` binds tighter than `|`; both group from the left"
  pub data Disjunction : Type 0 where
    conjunction : Conjunction → Disjunction
    or : Disjunction → ℕ → ℕ → Conjunction → Disjunction

  pub data Conjunction : Type 0 where
    term : Term → Conjunction
    and : Conjunction → ℕ → ℕ → Term → Conjunction

  -- 01: "A term is `T`, `~` and a term, a keyword with its square bracket and a term, or a formula in round brackets."
  pub data Term : Type 0 where
    tru : Term
    not : ℕ → Term → Term
    modal : Head → ℕ → Term → Term
    paren : ℕ → Disjunction → ℕ → Term

-- The text of a tree is made of names and of other bytes.
pub data Piece : Type 0 where
  byte : ℕ → Piece
  named : Name → Piece

abbrev pub bytes_of : Piece → List ℕ
bytes_of (byte b) = b ∷ []
bytes_of (named n) = n.bytes

abbrev pub text_of : List Piece → List ℕ
text_of l = bind bytes_of l

abbrev pub blanks : ℕ → List Piece → List Piece
blanks zero l = l
blanks (suc n) l = byte 32 ∷ blanks n l

abbrev mutual
  pub pieces_s : Set → List Piece → List Piece
  pieces_s (operand o) l = pieces_o o l
  pieces_s (union x a b o) l = pieces_s x (blanks a (byte 124 ∷ blanks b (pieces_o o l)))

  pub pieces_o : Operand → List Piece → List Piece
  pieces_o (name n) l = named n ∷ l
  pieces_o any l = byte 42 ∷ l
  pieces_o received l = byte 63 ∷ l
  pieces_o sent l = byte 33 ∷ l
  pieces_o (except a o) l = byte 126 ∷ blanks a (pieces_o o l)
  pieces_o (group a x b) l = byte 40 ∷ blanks a (pieces_s x (blanks b (byte 41 ∷ l)))

abbrev pub pieces_c : Condition → List Piece → List Piece
pieces_c dot l = byte 46 ∷ l
pieces_c (set x) l = pieces_s x l

-- 01: "Tokens are the keywords EX, AX and EU"
abbrev pub pieces_q : Quantifier → List Piece → List Piece
pieces_q existential l = byte 69 ∷ byte 88 ∷ l
pieces_q universal l = byte 65 ∷ byte 88 ∷ l

-- 02: EF and AG, DIA and BOX
abbrev pub pieces_r : Quantifier → List Piece → List Piece
pieces_r existential l = byte 69 ∷ byte 70 ∷ l
pieces_r universal l = byte 65 ∷ byte 71 ∷ l

abbrev pub pieces_l : Quantifier → List Piece → List Piece
pieces_l existential l = byte 68 ∷ byte 73 ∷ byte 65 ∷ l
pieces_l universal l = byte 66 ∷ byte 79 ∷ byte 88 ∷ l

abbrev pub pieces_h : Head → List Piece → List Piece
pieces_h (next q a b c d) l = pieces_q q (blanks a (byte 91 ∷ blanks b (pieces_c c (blanks d (byte 93 ∷ l)))))
pieces_h (until a b x d) l = byte 69 ∷ byte 85 ∷ blanks a (byte 91 ∷ blanks b (pieces_s x (blanks d (byte 93 ∷ l))))
pieces_h (until_then a b x c d y e) l = byte 69 ∷ byte 85 ∷ blanks a (byte 91 ∷ blanks b (pieces_s x (blanks c (byte 59 ∷ blanks d (pieces_s y (blanks e (byte 93 ∷ l)))))))
pieces_h (reach q) l = pieces_r q l
pieces_h (labelled q a b x d) l = pieces_l q (blanks a (byte 91 ∷ blanks b (pieces_s x (blanks d (byte 93 ∷ l)))))

abbrev mutual
  pub pieces_f : Disjunction → List Piece → List Piece
  pieces_f (conjunction c) l = pieces_a c l
  pieces_f (or f a b c) l = pieces_f f (blanks a (byte 124 ∷ blanks b (pieces_a c l)))

  pub pieces_a : Conjunction → List Piece → List Piece
  pieces_a (term t) l = pieces_t t l
  pieces_a (and c a b t) l = pieces_a c (blanks a (byte 38 ∷ blanks b (pieces_t t l)))

  pub pieces_t : Term → List Piece → List Piece
  pieces_t tru l = byte 84 ∷ l
  pieces_t (not a t) l = byte 126 ∷ blanks a (pieces_t t l)
  pieces_t (modal h a t) l = pieces_h h (blanks a (pieces_t t l))
  pieces_t (paren a f b) l = byte 40 ∷ blanks a (pieces_f f (blanks b (byte 41 ∷ l)))
