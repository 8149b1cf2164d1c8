-- The base notation, 01's, which has no `&` and no EF, AG, DIA or BOX: its trees, with their blanks and brackets. They are trees of Grammar.antt
-- (`typed`), and have the texts of those.
use Rattle.std.specs.Prelude.{List, ℕ}
use Rattle.lts.specs.Marks.{Marks}
use Rattle.actl.specs.Grammar.{Set, Condition, Quantifier, Head, Disjunction, Conjunction, Term}
use Rattle.actl.specs.Grammatical.{Text}

-- 01: "a keyword with its square bracket"
pub data BaseHead : Type 0 where
  next : Quantifier → ℕ → ℕ → Condition → ℕ → BaseHead
  until : ℕ → ℕ → Set → ℕ → BaseHead
  until_then : ℕ → ℕ → Set → ℕ → ℕ → Set → ℕ → BaseHead

mutual
  -- 01: "A formula is one or more terms joined by `|`, grouped from the left."
  pub data Base : Type 0 where
    term : BaseTerm → Base
    or : Base → ℕ → ℕ → BaseTerm → Base

  -- 01: "A term is `T`, `~` and a term, a keyword with its square bracket and a term, or a formula in round brackets."
  pub data BaseTerm : Type 0 where
    tru : BaseTerm
    not : ℕ → BaseTerm → BaseTerm
    modal : BaseHead → ℕ → BaseTerm → BaseTerm
    paren : ℕ → Base → ℕ → BaseTerm

-- The same tree among those of Grammar.antt.
abbrev pub typed_head : BaseHead → Head
typed_head (next q a b c d) = Head.next q a b c d
typed_head (until a b x d) = Head.until a b x d
typed_head (until_then a b x c d y e) = Head.until_then a b x c d y e

abbrev mutual
  pub typed : Base → Disjunction
  typed (term t) = Disjunction.conjunction (Conjunction.term (typed_term t))
  typed (or f a b t) = Disjunction.or (typed f) a b (Conjunction.term (typed_term t))

  pub typed_term : BaseTerm → Term
  typed_term tru = Term.tru
  typed_term (not a t) = Term.not a (typed_term t)
  typed_term (modal h a t) = Term.modal (typed_head h) a (typed_term t)
  typed_term (paren a f b) = Term.paren a (typed f) b

-- f is the tree of the text s in the base notation.
abbrev pub BaseText : Marks → List ℕ → Base → Type 0
BaseText m s f = Text m s (typed f)
