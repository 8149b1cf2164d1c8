-- The executable twin of `pieces_f` (../Grammar.antt): `show_pieces` (proofs/Pieces.antt) makes `show_f f []` the text of f's pieces. `showX x s` is
-- x's text with s behind it.
use Rattle.std.specs.Prelude.{List, ◌∷◌, ◌++◌, ℕ, zero, suc}
use Rattle.actl.specs.Grammar.{Set, operand, union, Operand, name, any, received, sent, except, group, Condition, dot, set, Quantifier}
use Rattle.actl.specs.Grammar.{existential, universal, Head, next, until, until_then, reach, labelled, Disjunction, conjunction, or, Conjunction}
use Rattle.actl.specs.Grammar.{term, and, Term, tru, not, modal, paren}

abbrev pub gap : ℕ → List ℕ → List ℕ
gap zero s = s
gap (suc n) s = 32 ∷ gap n s

abbrev mutual
  pub show_s : Set → List ℕ → List ℕ
  show_s (operand o) s = show_o o s
  show_s (union x a b o) s = show_s x (gap a (124 ∷ gap b (show_o o s)))

  pub show_o : Operand → List ℕ → List ℕ
  show_o (name n) s = n.bytes ++ s
  show_o any s = 42 ∷ s
  show_o received s = 63 ∷ s
  show_o sent s = 33 ∷ s
  show_o (except a o) s = 126 ∷ gap a (show_o o s)
  show_o (group a x b) s = 40 ∷ gap a (show_s x (gap b (41 ∷ s)))

abbrev pub show_c : Condition → List ℕ → List ℕ
show_c dot s = 46 ∷ s
show_c (set x) s = show_s x s

-- 01: "Tokens are the keywords EX, AX and EU"
abbrev pub show_q : Quantifier → List ℕ → List ℕ
show_q existential s = 69 ∷ 88 ∷ s
show_q universal s = 65 ∷ 88 ∷ s

-- 02: EF and AG, DIA and BOX
abbrev pub show_r : Quantifier → List ℕ → List ℕ
show_r existential s = 69 ∷ 70 ∷ s
show_r universal s = 65 ∷ 71 ∷ s

abbrev pub show_l : Quantifier → List ℕ → List ℕ
show_l existential s = 68 ∷ 73 ∷ 65 ∷ s
show_l universal s = 66 ∷ 79 ∷ 88 ∷ s

abbrev pub show_h : Head → List ℕ → List ℕ
show_h (next q a b c d) s = show_q q (gap a (91 ∷ gap b (show_c c (gap d (93 ∷ s)))))
show_h (until a b x d) s = 69 ∷ 85 ∷ gap a (91 ∷ gap b (show_s x (gap d (93 ∷ s))))
show_h (until_then a b x c d y e) s = 69 ∷ 85 ∷ gap a (91 ∷ gap b (show_s x (gap c (59 ∷ gap d (show_s y (gap e (93 ∷ s)))))))
show_h (reach q) s = show_r q s
show_h (labelled q a b x d) s = show_l q (gap a (91 ∷ gap b (show_s x (gap d (93 ∷ s)))))

abbrev mutual
  pub show_f : Disjunction → List ℕ → List ℕ
  show_f (conjunction c) s = show_a c s
  show_f (or f a b c) s = show_f f (gap a (124 ∷ gap b (show_a c s)))

  pub show_a : Conjunction → List ℕ → List ℕ
  show_a (term t) s = show_t t s
  show_a (and c a b t) s = show_a c (gap a (38 ∷ gap b (show_t t s)))

  pub show_t : Term → List ℕ → List ℕ
  show_t tru s = 84 ∷ s
  show_t (not a t) s = 126 ∷ gap a (show_t t s)
  show_t (modal h a t) s = show_h h (gap a (show_t t s))
  show_t (paren a f b) s = 40 ∷ gap a (show_f f (gap b (41 ∷ s)))
