-- The numbering: a node's number determines its subformula, and END is no node.
use mathlib.Core.Path.{◌≡◌, refl, sym, ap, ◌∙◌}
use mathlib.Core.List.{List, [], ◌∷◌, ◌++◌, append_assoc, append-nil}
use Prim.Native.Nat.{ℕ, zero, suc, ◌+◌, ◌≤◌}
use native.Mathlib.Nat.{add-zero, add-suc, suc-add}
use native.Mathlib.Omega.{arith}
use lib.ListN.{length, drop, length-append, length-drop}
use Rattle.actl.specs.Formulas.{Formula, tru, not, or, ex, ax, eu, eu_then, size, nodes, At, root, in_not, in_left, in_right, in_ex, in_ax, in_eu, in_eu_then}

pub length-nodes : (f : Formula) → length (nodes f) ≡ size f
length-nodes tru = refl
length-nodes (not f) = ap suc (length-nodes f)
length-nodes (or f g) = ap suc (length-append (nodes f) (nodes g) ∙ (cc (length-nodes f, length-nodes g)))
length-nodes (ex c f) = ap suc (length-nodes f)
length-nodes (ax c f) = ap suc (length-nodes f)
length-nodes (eu a f) = ap suc (length-nodes f)
length-nodes (eu_then a b f) = ap suc (length-nodes f)

abbrev pub head_or : Formula → List Formula → Formula
head_or d [] = d
head_or d (x ∷ l) = x

pub head-nodes : (f : Formula) (l : List Formula) → head_or tru (nodes f ++ l) ≡ f
head-nodes tru l = refl
head-nodes (not f) l = refl
head-nodes (or f g) l = refl
head-nodes (ex c f) l = refl
head-nodes (ax c f) l = refl
head-nodes (eu a f) l = refl
head-nodes (eu_then a b f) l = refl

pub size_pos : (f : Formula) → 1 ≤ size f
size_pos tru = omega arith
size_pos (not f) = omega arith
size_pos (or f g) = omega arith
size_pos (ex c f) = omega arith
size_pos (ax c f) = omega arith
size_pos (eu a f) = omega arith
size_pos (eu_then a b f) = omega arith

tail_or : List Formula → List Formula
tail_or [] = []
tail_or (x ∷ l) = l

drop-suc : (k : ℕ) (l : List Formula) → drop (suc k) l ≡ tail_or (drop k l)
unfolding tail_or
drop-suc zero [] = refl
drop-suc zero (x ∷ l) = refl
drop-suc (suc k) [] = refl
drop-suc (suc k) (x ∷ l) = drop-suc k l

down : (k : ℕ) (l : List Formula) {x : Formula} {r : List Formula} → drop k l ≡ x ∷ r → drop (suc k) l ≡ r
unfolding tail_or
down k l e = drop-suc k l ∙ ap tail_or e

drop_more : (k : ℕ) (l a : List Formula) {b : List Formula} → drop k l ≡ a ++ b → drop (k + length a) l ≡ b
drop_more k l [] e = rw add-zero e
drop_more k l (x ∷ a) e = rw (add-suc, ← suc-add) (drop_more (suc k) l a (down k l e))

right_of : (k : ℕ) (l : List Formula) (f g : Formula) (r : List Formula) → drop k l ≡ nodes (or f g) ++ r → drop (suc (k + size f)) l ≡ nodes g ++ r
right_of k l f g r e = rw (← length-nodes f, ← suc-add) (drop_more (suc k) l (nodes f) (down k l e ∙ append_assoc (nodes f) (nodes g) r))

module _ {F : Formula} where
  pub at_drop : {k : ℕ} {f : Formula} → At F k f → (rest : List Formula) × (drop k (nodes F) ≡ nodes f ++ rest)
  at_drop root = ([], sym (append-nil (nodes F)))
  at_drop (in_not {k} h) = let (r, e) = at_drop h in (r, down k (nodes F) e)
  at_drop (in_left {k} {f} {g} h) = let (r, e) = at_drop h in (nodes g ++ r, down k (nodes F) e ∙ append_assoc (nodes f) (nodes g) r)
  at_drop (in_right {k} {f} {g} h) = let (r, e) = at_drop h in (r, right_of k (nodes F) f g r e)
  at_drop (in_ex {k} h) = let (r, e) = at_drop h in (r, down k (nodes F) e)
  at_drop (in_ax {k} h) = let (r, e) = at_drop h in (r, down k (nodes F) e)
  at_drop (in_eu {k} h) = let (r, e) = at_drop h in (r, down k (nodes F) e)
  at_drop (in_eu_then {k} h) = let (r, e) = at_drop h in (r, down k (nodes F) e)

  pub at_fun : {k : ℕ} {f g : Formula} → At F k f → At F k g → f ≡ g
  at_fun {f} {g} a b =
      let (r, e) = at_drop a in
      let (s, d) = at_drop b in
      sym (head-nodes f r) ∙ (ap (head_or tru) (sym e ∙ d) ∙ head-nodes g s)

  pub at-end : {k : ℕ} {f : Formula} → At F k f → k ≡ size F → ⊥
  at-end {k} {f} a z =
      let (r, e) = at_drop a in
      omega (arith, simp (length-append, length-drop) at (ap length e), length-nodes F, length-nodes f, size_pos f)
