-- `put_member` puts a `|` before every name but the first.
use borrow.Author.Rules.{rules}
use mathlib.Core.Path.{◌≡◌, sym, subst}
use mathlib.Core.Bool.{Bool, true, false, cond}
use mathlib.Core.List.{List, [], ◌∷◌, ◌++◌}
use Prim.Native.Nat.{ℕ}
use native.Mathlib.Omega.{arith}
use Rattle.formula_pieces.specs.inner.Adds.{Adds}
use Rattle.formula_pieces.proofs.Laws.Adds.{adds_then, over_after}
use Rattle.formula_pieces.proofs.sets.put_member.Goals as goal

separated : (name : List ℕ) {at to : ℕ} {e x : List ℕ} (first b : Bool) → first ≡ b → Adds (cond b [] (124 ∷ []) ++ name) at e x to
    → Adds (cond first [] (124 ∷ []) ++ name) at e x to
separated name {at} {to} {e} {x} first b d h = subst (λ t. Adds (cond t [] (124 ∷ []) ++ name) at e x to) (sym d) h

pub returns-then-first : goal.returns-then-first
returns-then-first c =
    separated _ _ true c.if-first.true c.put_name.ensures

pub put_name-requires-2 : goal.put_name-requires-2
put_name-requires-2 c =
    (over_after c.requires.0 c.put-end.ensures 13 (omega arith), c.requires.1)

pub returns : goal.returns
returns c =
    separated _ _ false c.if-first.false (adds_then c.put-end.ensures c.put_name-2.ensures)
