-- The nodes of a formula by number: every number below the node count is a node, and the list of nodes has its subformula there.
use mathlib.Core.Path.{◌≡◌, refl, sym, ap, ◌∙◌, subst}
use mathlib.Core.List.{List, [], ◌∷◌}
use Prim.Native.Nat.{ℕ, zero, suc, ◌+◌, ◌-◌, ◌<◌, ◌≤◌}
use native.Mathlib.Nat.{zero-add}
use native.Mathlib.Decide.{dec_lt}
use native.Mathlib.Omega.{arith}
use lib.ListN.{length, get_or, drop, length-append, length-drop, get_or-eq_default}
use Rattle.actl.specs.Formulas.{Formula, tru, not, or, ex, ax, eu, eu_then, size, nodes, At, root, in_not, in_left, in_right, in_ex, in_ax, in_eu, in_eu_then}
use Rattle.actl.proofs.Nodes.{length-nodes, size_pos, head_or, head-nodes, at_drop}

head-drop : (k : ℕ) (l : List Formula) → head_or tru (drop k l) ≡ get_or l k tru
head-drop zero [] = refl
head-drop zero (x ∷ l) = refl
head-drop (suc k) [] = refl
head-drop (suc k) (x ∷ l) = head-drop k l

pub node_at_lem : {F : Formula} {k : ℕ} {f : Formula} → At F k f → get_or (nodes F) k tru ≡ f
node_at_lem {F} {k} {f} h = let (r, e) = at_drop h in sym (head-drop k (nodes F)) ∙ (ap (head_or tru) e ∙ head-nodes f r)

-- END and what lies past it counts as T.
pub node-past : (F : Formula) (k : ℕ) → size F ≤ k → get_or (nodes F) k tru ≡ tru
node-past F k h = get_or-eq_default (nodes F) tru (omega (arith, length-nodes F))

pub at_lt : {F : Formula} {k : ℕ} {f : Formula} → At F k f → k < size F
at_lt {F} {k} {f} a = let (r, e) = at_drop a in omega (arith, simp (length-append, length-drop) at (ap length e), length-nodes F, length-nodes f, size_pos f)

pub at_cast : {F : Formula} {k q : ℕ} {f : Formula} → q ≡ k → At F k f → At F q f
at_cast {F} {f} e h = subst (λ (x : ℕ). At F x f) (sym e) h

renumbered : {F : Formula} {k q : ℕ} → k ≡ q → (g : Formula) × At F k g → (g : Formula) × At F q g
renumbered {F} e h = subst (λ (k : ℕ). (g : Formula) × At F k g) e h

module _ {F : Formula} where
  at-below : (f : Formula) (k : ℕ) → At F k f → (j : ℕ) → j < size f → (g : Formula) × At F (k + j) g
  at-below tru k h zero l = renumbered (omega arith) (tru, h)
  at-below tru k h (suc j) l = absurd (omega arith)
  at-below (not f) k h zero l = renumbered (omega arith) (not f, h)
  at-below (not f) k h (suc j) l = renumbered (omega arith) (at-below f (suc k) (in_not h) j (omega arith))
  at-below (or f g) k h zero l = renumbered (omega arith) (or f g, h)
  at-below (or f g) k h (suc j) l = pick (dec_lt j (size f)) (at-below f (suc k) (in_left h) j) (at-below g (suc (k + size f)) (in_right h) (j - size f))
    where
      pick : Dec (j < size f) → (j < size f → (x : Formula) × At F (suc k + j) x) → (j - size f < size g → (x : Formula) × At F (suc (k + size f) + (j - size f)) x)
          → (x : Formula) × At F (k + suc j) x
      pick (yes m) a b = renumbered (omega arith) (a m)
      pick (no m) a b = renumbered (omega arith) (b (omega arith))
  at-below (ex c f) k h zero l = renumbered (omega arith) (ex c f, h)
  at-below (ex c f) k h (suc j) l = renumbered (omega arith) (at-below f (suc k) (in_ex h) j (omega arith))
  at-below (ax c f) k h zero l = renumbered (omega arith) (ax c f, h)
  at-below (ax c f) k h (suc j) l = renumbered (omega arith) (at-below f (suc k) (in_ax h) j (omega arith))
  at-below (eu a f) k h zero l = renumbered (omega arith) (eu a f, h)
  at-below (eu a f) k h (suc j) l = renumbered (omega arith) (at-below f (suc k) (in_eu h) j (omega arith))
  at-below (eu_then a b f) k h zero l = renumbered (omega arith) (eu_then a b f, h)
  at-below (eu_then a b f) k h (suc j) l = renumbered (omega arith) (at-below f (suc k) (in_eu_then h) j (omega arith))

pub at-node : (F : Formula) (k : ℕ) → k < size F → At F k (get_or (nodes F) k tru)
at-node F k l = let (g, h) = renumbered (zero-add k) (at-below F 0 root k l) in rw (node_at_lem h) h
