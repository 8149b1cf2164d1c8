-- What writing a node leaves, by the node that was found; and that its sets are sets over the table's labels.
use mathlib.Core.Path.{◌≡◌, refl, sym, ap, ◌∙◌, subst}
use mathlib.Core.Bool.{Bool, true, false}
use mathlib.Core.List.{List, [], ◌∷◌}
use Prim.Native.Nat.{ℕ, ◌≤◌}
use native.Mathlib.Omega.{arith}
use Rattle.lts.proofs.Booleans.{and-true-of}
use Rattle.actl.specs.Actions.{Cond, silent, labels}
use Rattle.actl.specs.Prepared.{next_slot, slot_within, mask_within}
use Rattle.formulas.specs.inner.Access.{cond_in, slot_of_node}
use Rattle.formulas.specs.declared.node.Node.{Node}
use Rattle.formulas.specs.declared.node.Node.TheVariants as node
use Rattle.formulas.specs.declared.node.Condition.{Condition}
use Rattle.formula_walk.specs.declared.Place.{Place}
use Rattle.formula_pieces.specs.inner.Adds.{Adds, Over, CondWithin}
use Rattle.formula_walk.specs.inner.Walk.{written_at, drained, rested, opening, arm_after, pending_after, stack_of, Walks}
use Rattle.formula_pieces.proofs.Laws.Adds.{adds_then, adds_same}
use Rattle.formula_walk.proofs.Laws.Closing.{walks_arm}
use Rattle.formula_walk.proofs.Laws.Walk.{Alone, written-true, written-or}

-- Less room is asked for than there is.
pub over_less : {table out : List ℕ} {at n : ℕ} → Over table out at n → (k : ℕ) → k ≤ n → Over table out at k
over_less o k h = record { holds = o.holds; room = record { long = o.room.long; below = omega (arith, o.room.below) } }

-- The sets of a node.
next-within : (n k : ℕ) (c : Cond) → slot_within n (next_slot k c) ≡ true → CondWithin n c
next-within n k silent h = tt
next-within n k (labels m) h = (and-true-of (mask_within n m) (mask_within n 0) h).0

module _ (n : ℕ) (x : Node) (within : slot_within n (slot_of_node x) ≡ true) where
  is : (y : Node) → x ≡ y → slot_within n (slot_of_node y) ≡ true
  is y d = ap (λ z. slot_within n (slot_of_node z)) (sym d) ∙ within

  pub ex-within : (c : Condition) → x ≡ node.Ex c → CondWithin n (cond_in c)
  ex-within c d = next-within n 4 (cond_in c) (is (node.Ex c) d)

  pub ax-within : (c : Condition) → x ≡ node.Ax c → CondWithin n (cond_in c)
  ax-within c d = next-within n 6 (cond_in c) (is (node.Ax c) d)

  pub until-within : (m : ℕ) → x ≡ node.Until m → mask_within n m ≡ true
  until-within m d = (and-true-of (mask_within n m) (mask_within n 0) (is (node.Until m) d)).0

  pub both-within : (a b : ℕ) → x ≡ node.UntilThen a b → (mask_within n a ≡ true) × (mask_within n b ≡ true)
  both-within a b d = and-true-of (mask_within n a) (mask_within n b) (is (node.UntilThen a b) d)

module _ (N : List (List ℕ)) (x : Node) (arm : Bool) (p : List ℕ) (top at : ℕ) (e : List ℕ) where
  -- The node y writes, and this is left.
  abbrev pub NodeWalks : Node → List ℕ → List ℕ → Place → Type 0
  NodeWalks y out after r =
      Walks (written_at N (slot_of_node y) arm (stack_of p top)) (pending_after (slot_of_node y).kind arm (stack_of p top)) (arm_after (slot_of_node y).kind)
      top at e out p after r

  -- A node that writes itself alone, before its arm.
  pub alone-walks : {h out : List ℕ} {end : ℕ} (y : Node) → x ≡ y → Alone N (slot_of_node y) arm (stack_of p top) h → Adds h at e out end
      → (r : Place) → (r.at ≡ end) × (r.top ≡ top) × (r.arm ≡ true) → NodeWalks x out p r
  alone-walks {h} {out} y d alone a r i =
      let w = walks_arm {top = top} {p = p} {pending = p} r i (adds_same alone.writes a) (sym alone.pending) (omega arith) refl in
      subst (λ z. NodeWalks z out p r) (sym d)
      (subst (λ t. Walks (written_at N (slot_of_node y) arm (stack_of p top)) (pending_after (slot_of_node y).kind arm (stack_of p top)) t top at e out p p r) (sym alone.next_arm) w)

  pub true-walks : {mid out : List ℕ} {m : ℕ} {r : Place} → x ≡ node.True → Adds (84 ∷ []) at e mid m
      → Walks (drained (stack_of p top)) (rested (stack_of p top)) true top m mid out p p r → NodeWalks x out p r
  true-walks {out = out} {r = r} d a w = subst (λ z. NodeWalks z out p r) (sym d) (record {
    adds = adds_same (written-true N arm (stack_of p top)) (adds_then a w.adds);
    left = w.left;
    next_arm = w.next_arm;
    few = w.few;
    long = w.long;
  })

  pub or-walks : {out after : List ℕ} {r : Place} → x ≡ node.Or
      → Walks (opening arm 3) (pending_after 3 arm (stack_of p top)) false top at e out p after r → NodeWalks x out after r
  or-walks {out} {after} {r} d w = subst (λ z. NodeWalks z out after r) (sym d) (record {
    adds = adds_same (written-or N arm (stack_of p top)) w.adds;
    left = w.left;
    next_arm = w.next_arm;
    few = w.few;
    long = w.long;
  })
