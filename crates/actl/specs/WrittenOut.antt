-- 02: what `&` and the short forms stand for, in the base notation. "Round brackets stand around each written-out part."
use Rattle.std.specs.Prelude.{ℕ}
use Rattle.actl.specs.Grammar.{Set, Operand, Condition, Quantifier, existential, universal, Head, next, until, until_then, reach, labelled, Disjunction, conjunction}
use Rattle.actl.specs.Grammar.{or, Conjunction, term, and, Term, tru, not, modal, paren}
use Rattle.actl.specs.Base.{BaseHead, Base, BaseTerm}

abbrev pub bracketed : BaseTerm → BaseTerm
bracketed t = BaseTerm.paren 0 (Base.term t) 0

-- "`x & y` is `~(~x | ~y)`"
abbrev pub and_of : BaseTerm → ℕ → ℕ → BaseTerm → BaseTerm
and_of x a b y = bracketed (BaseTerm.not 0 (BaseTerm.paren 0 (Base.or (Base.term (BaseTerm.not 0 x)) a b (BaseTerm.not 0 y)) 0))

-- EF x and DIA[A] x are a keyword and x; AG x and BOX[A] x have `~` before both. a blanks stand before x.
abbrev pub dual_of : Quantifier → BaseHead → ℕ → BaseTerm → BaseTerm
dual_of existential h a x = bracketed (BaseTerm.modal h a x)
dual_of universal h a x = bracketed (BaseTerm.not 0 (BaseTerm.modal h 0 (BaseTerm.not a x)))

-- "`EF x` is `EU[*] x`, `AG x` is `~EF ~x`, `DIA[A] x` is `EX[A] x`, `BOX[A] x` is `~EX[A] ~x`"
abbrev pub modal_out : Head → ℕ → BaseTerm → BaseTerm
modal_out (next q b c x d) a t = BaseTerm.modal (BaseHead.next q b c x d) a t
modal_out (until b c x d) a t = BaseTerm.modal (BaseHead.until b c x d) a t
modal_out (until_then b c x d e y g) a t = BaseTerm.modal (BaseHead.until_then b c x d e y g) a t
modal_out (reach q) a t = dual_of q (BaseHead.until 0 0 (Set.operand Operand.any) 0) a t
modal_out (labelled q b c x d) a t = dual_of q (BaseHead.next existential b c (Condition.set x) d) a t

abbrev mutual
  pub written_out : Disjunction → Base
  written_out (conjunction c) = Base.term (written_out_conjunction c)
  written_out (or f a b c) = Base.or (written_out f) a b (written_out_conjunction c)

  pub written_out_conjunction : Conjunction → BaseTerm
  written_out_conjunction (term t) = written_out_term t
  written_out_conjunction (and c a b t) = and_of (written_out_conjunction c) a b (written_out_term t)

  pub written_out_term : Term → BaseTerm
  written_out_term tru = BaseTerm.tru
  written_out_term (not a t) = BaseTerm.not a (written_out_term t)
  written_out_term (modal h a t) = modal_out h a (written_out_term t)
  written_out_term (paren a f b) = BaseTerm.paren a (written_out f) b
