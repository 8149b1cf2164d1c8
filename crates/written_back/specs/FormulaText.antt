-- 02: "a writer from a prepared formula to text in the base notation". N are the label names of the table that the formula is prepared over.
use Rattle.std.specs.Prelude.{Bool, true, false, cond, List, [], ◌∷◌, ◌++◌, ℕ, suc, eqb, length}
use Rattle.lts.specs.Lists.{bind}
use Rattle.actl.specs.Actions.{Mask, in_set, Cond, silent, labels}
use Rattle.actl.specs.Formulas.{Formula, tru, not, or, ex, ax, eu, eu_then}

-- The names of a set's labels by rising number, where the first of the names is that of label a.
abbrev pub members_from : ℕ → List (List ℕ) → Mask → List (List ℕ)
members_from a [] m = []
members_from a (n ∷ N) m = cond (in_set m a) (n ∷ members_from (suc a) N m) (members_from (suc a) N m)

abbrev pub members : List (List ℕ) → Mask → List (List ℕ)
members N m = members_from 1 N m

-- "sets as the label names by rising number joined by `|`"
abbrev pub joined : List (List ℕ) → List ℕ
joined [] = []
joined (n ∷ l) = n ++ bind (λ x. 124 ∷ x) l

-- "`*` for all labels, `~*` for the empty set. If there are no labels, `*` is written."
unfoldable pub set_text : List (List ℕ) → Mask → List ℕ
set_text N m =
    let count = length (members N m) in
    cond (eqb count (length N)) (42 ∷ []) (cond (eqb count 0) (126 ∷ 42 ∷ []) (joined (members N m)))

-- 01: "The silent step is `.`"
abbrev pub cond_text : List (List ℕ) → Cond → List ℕ
cond_text N silent = 46 ∷ []
cond_text N (labels m) = set_text N m

-- "no blanks except one after each `]`"
abbrev pub in_square : List ℕ → List ℕ
in_square s = 91 ∷ (s ++ (93 ∷ 32 ∷ []))

abbrev pub is_or : Formula → Bool
is_or tru = false
is_or (not f) = false
is_or (or f g) = true
is_or (ex c f) = false
is_or (ax c f) = false
is_or (eu a f) = false
is_or (eu_then a b f) = false

-- "round brackets only where the grouping needs them": s is the text of the arm f of `~`, EX, AX or EU, or of the right arm of `|`.
abbrev pub as_arm : Formula → List ℕ → List ℕ
as_arm f s = cond (is_or f) (40 ∷ (s ++ (41 ∷ []))) s

-- T, ~, |, EX, AX, EU
unfoldable pub formula_text : List (List ℕ) → Formula → List ℕ
formula_text N tru = 84 ∷ []
formula_text N (not f) = 126 ∷ as_arm f (formula_text N f)
formula_text N (or f g) = formula_text N f ++ (124 ∷ as_arm g (formula_text N g))
formula_text N (ex c f) = 69 ∷ 88 ∷ (in_square (cond_text N c) ++ as_arm f (formula_text N f))
formula_text N (ax c f) = 65 ∷ 88 ∷ (in_square (cond_text N c) ++ as_arm f (formula_text N f))
formula_text N (eu a f) = 69 ∷ 85 ∷ (in_square (set_text N a) ++ as_arm f (formula_text N f))
formula_text N (eu_then a b f) = 69 ∷ 85 ∷ (in_square (set_text N a ++ (59 ∷ set_text N b)) ++ as_arm f (formula_text N f))
