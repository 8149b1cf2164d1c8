-- The executable twins of a tree's names in text order: each comes with the text behind it. `names_pieces` (proofs/Pieces.antt) makes `names_f f []`
-- the names among f's pieces, `unknown_pieces` makes `first_unknown` their `unknown_from` (../Reading.antt). s is what stands behind the tree.
use Rattle.std.specs.Prelude.{List, [], ◌∷◌, ◌++◌, ℕ, ◌-◌, length}
use Rattle.std.proofs.Math.Option.{Option, none}
use Rattle.lts.specs.Names.{lookup}
use Rattle.actl.specs.Grammar.{Name, Set, operand, union, Operand, name, any, received, sent, except, group, Condition, dot, set, Head, next, until}
use Rattle.actl.specs.Grammar.{until_then, reach, labelled, Disjunction, conjunction, or, Conjunction, term, and, Term, tru, not, modal, paren}
use Rattle.actl.specs.Reading.{unknown_at}
use Rattle.actl.specs.inner.Show.{gap, show_s, show_o, show_t, show_a, show_f}

pub record Mention : Type 0 where
  pub name : Name
  pub behind : List ℕ

abbrev mutual
  pub names_s : Set → List ℕ → List Mention
  names_s (operand o) s = names_o o s
  names_s (union x a b o) s = names_s x (gap a (124 ∷ gap b (show_o o s))) ++ names_o o s

  pub names_o : Operand → List ℕ → List Mention
  names_o (name n) s = record { name = n; behind = s } ∷ []
  names_o any s = []
  names_o received s = []
  names_o sent s = []
  names_o (except a o) s = names_o o s
  names_o (group a x b) s = names_s x (gap b (41 ∷ s))

abbrev pub names_c : Condition → List ℕ → List Mention
names_c dot s = []
names_c (set x) s = names_s x s

abbrev pub names_h : Head → List ℕ → List Mention
names_h (next q a b c d) s = names_c c (gap d (93 ∷ s))
names_h (until a b x d) s = names_s x (gap d (93 ∷ s))
names_h (until_then a b x c d y e) s = names_s x (gap c (59 ∷ gap d (show_s y (gap e (93 ∷ s))))) ++ names_s y (gap e (93 ∷ s))
names_h (reach q) s = []
names_h (labelled q a b x d) s = names_s x (gap d (93 ∷ s))

abbrev mutual
  pub names_f : Disjunction → List ℕ → List Mention
  names_f (conjunction c) s = names_a c s
  names_f (or f a b c) s = names_f f (gap a (124 ∷ gap b (show_a c s))) ++ names_a c s

  pub names_a : Conjunction → List ℕ → List Mention
  names_a (term t) s = names_t t s
  names_a (and c a b t) s = names_a c (gap a (38 ∷ gap b (show_t t s))) ++ names_t t s

  pub names_t : Term → List ℕ → List Mention
  names_t tru s = []
  names_t (not a t) s = names_t t s
  names_t (modal h a t) s = names_h h (gap a (show_t t s)) ++ names_t t s
  names_t (paren a f b) s = names_f f (gap b (41 ∷ s))

-- Where a name stands in the formula's text.
abbrev pub offset : Disjunction → Mention → ℕ
offset f m = length (show_f f []) - length (m.name.bytes ++ m.behind)

abbrev pub first_unknown : List (List ℕ) → Disjunction → List Mention → Option ℕ
first_unknown names f [] = none
first_unknown names f (m ∷ l) = unknown_at (lookup names m.name.bytes) (offset f m) (first_unknown names f l)
