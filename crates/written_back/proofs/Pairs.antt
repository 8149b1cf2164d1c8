-- How many pairs of round brackets a line has outside its sets, and how often `&` stands in it, by its tree.
use mathlib.Core.Path.{◌≡◌, refl}
use Prim.Native.Nat.{ℕ, suc, ◌+◌}
use native.Mathlib.Omega.{arith}
use Rattle.actl.specs.Grammar.{Disjunction, conjunction, or, Conjunction, term, and, Term, tru, not, modal, paren}
use Rattle.actl.specs.Base.{Base, BaseTerm, typed, typed_term}

abbrev mutual
  pub pairs : Disjunction → ℕ
  pairs (conjunction c) = pairs_a c
  pairs (or f a b c) = pairs f + pairs_a c

  pub pairs_a : Conjunction → ℕ
  pairs_a (term t) = pairs_t t
  pairs_a (and c a b t) = pairs_a c + pairs_t t

  pub pairs_t : Term → ℕ
  pairs_t tru = 0
  pairs_t (not a t) = pairs_t t
  pairs_t (modal h a t) = pairs_t t
  pairs_t (paren a f b) = suc (pairs f)

abbrev mutual
  pub ands : Disjunction → ℕ
  ands (conjunction c) = ands_a c
  ands (or f a b c) = ands f + ands_a c

  pub ands_a : Conjunction → ℕ
  ands_a (term t) = ands_t t
  ands_a (and c a b t) = suc (ands_a c + ands_t t)

  pub ands_t : Term → ℕ
  ands_t tru = 0
  ands_t (not a t) = ands_t t
  ands_t (modal h a t) = ands_t t
  ands_t (paren a f b) = ands f

-- The base notation has no `&`.
mutual
  pub no_ands : (g : Base) → ands (typed g) ≡ 0
  no_ands (Base.term t) = no_ands_term t
  no_ands (Base.or f a b t) = omega (arith, no_ands f, no_ands_term t)

  no_ands_term : (t : BaseTerm) → ands_t (typed_term t) ≡ 0
  no_ands_term BaseTerm.tru = refl
  no_ands_term (BaseTerm.not a t) = no_ands_term t
  no_ands_term (BaseTerm.modal h a t) = no_ands_term t
  no_ands_term (BaseTerm.paren a f b) = no_ands f
