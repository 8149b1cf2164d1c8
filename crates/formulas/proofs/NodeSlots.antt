-- The node that the code hands out for a subformula: a slot is one node's only. A node that was put is read back.
use mathlib.Core.Path.{◌≡◌, refl, sym, ap, ◌∙◌, subst}
use mathlib.Core.Bool.{true, cond}
use mathlib.Core.List.{List, ◌++◌}
use Prim.Native.Nat.{ℕ, ◌+◌, ◌*◌, ◌^◌, ◌≤◌, ◌<◌}
use native.Mathlib.Omega.{arith}
use lib.Dec.{eqb}
use lib.ListN.{length, take, drop}
use lib.Seq.{length-take-le, drop_at}
use Rattle.actl.specs.Sizes.{node_slot_length}
use Rattle.actl.specs.Actions.{Cond, silent, labels}
use Rattle.actl.specs.Formulas.{Formula, tru, not, or, ex, ax, eu, eu_then, is_t}
use Rattle.actl.specs.Prepared.{Slot, slot_of, slot_bytes}
use Rattle.actl.specs.inner.Prepared.{slot_at}
use Rattle.actl.specs.inner.Shaped.{shaped}
use Rattle.actl.specs.inner.NodeBytes.{put_at}
use Rattle.actl.proofs.Laws.Slots.{slot_by_parts}
use Rattle.actl.proofs.Laws.Forms.{slot_from, slot-from, StandsFor, slot-front}
use Rattle.formulas.specs.inner.Access.{cond_in, slot_of_node}
use Rattle.formulas.specs.declared.node.Condition.{Condition}
use Rattle.formulas.specs.declared.node.Condition.TheVariants.{Silent, Labels}
use Rattle.formulas.specs.declared.node.Node.{Node}
use Rattle.formulas.specs.declared.node.Node.TheVariants.{True, Not, Or, Ex, Ax, Until, UntilThen}

abbrev pub condition_of : Cond → Condition
condition_of silent = Silent
condition_of (labels m) = Labels m

abbrev pub node_of : Formula → Node
node_of tru = True
node_of (not f) = Not
node_of (or f g) = Or
node_of (ex c f) = Ex (condition_of c)
node_of (ax c f) = Ax (condition_of c)
node_of (eu a f) = Until a
node_of (eu_then a b f) = UntilThen a b

pub condition_of_lem : (c : Cond) → cond_in (condition_of c) ≡ c
condition_of_lem silent = refl
condition_of_lem (labels m) = refl

-- The node in a slot, by its kind (docs/FORMATS.md).
unfoldable pub node_in : Slot → Node
node_in s =
    cond (eqb s.kind 1) True (
    cond (eqb s.kind 2) Not (
    cond (eqb s.kind 3) Or (
    cond (eqb s.kind 4) (Ex Silent) (
    cond (eqb s.kind 5) (Ex (Labels s.first)) (
    cond (eqb s.kind 6) (Ax Silent) (
    cond (eqb s.kind 7) (Ax (Labels s.first)) (
    cond (eqb s.kind 8) (Until s.first) (UntilThen s.first s.second))))))))

-- The slot of a node is in shape, and it is that node's only.
slot-of-node : (n : Node) → (node_in (slot_of_node n) ≡ n) × (shaped (slot_of_node n) ≡ true)
unfolding node_in shaped
slot-of-node True = (refl, refl)
slot-of-node Not = (refl, refl)
slot-of-node Or = (refl, refl)
slot-of-node (Ex Silent) = (refl, refl)
slot-of-node (Ex (Labels m)) = (refl, refl)
slot-of-node (Ax Silent) = (refl, refl)
slot-of-node (Ax (Labels m)) = (refl, refl)
slot-of-node (Until a) = (refl, refl)
slot-of-node (UntilThen a b) = (refl, refl)

pub node_in_slot : (n : Node) → node_in (slot_of_node n) ≡ n
node_in_slot n = (slot-of-node n).0

-- The slot of a formula is its root's, and its kind tells whether that is T.
formula_in_slot : (f : Formula) → (node_in (slot_of f) ≡ node_of f) × (eqb (slot_of f).kind 1 ≡ is_t f)
unfolding node_in
formula_in_slot tru = (refl, refl)
formula_in_slot (not f) = (refl, refl)
formula_in_slot (or f g) = (refl, refl)
formula_in_slot (ex silent f) = (refl, refl)
formula_in_slot (ex (labels m) f) = (refl, refl)
formula_in_slot (ax silent f) = (refl, refl)
formula_in_slot (ax (labels m) f) = (refl, refl)
formula_in_slot (eu a f) = (refl, refl)
formula_in_slot (eu_then a b f) = (refl, refl)

pub node-of-slot : (n : Node) (f : Formula) → slot_of_node n ≡ slot_of f → n ≡ node_of f
node-of-slot n f e = sym (node_in_slot n) ∙ (ap node_in e ∙ (formula_in_slot f).0)

pub T_by_kind : (f : Formula) → eqb (slot_of f).kind 1 ≡ is_t f
T_by_kind f = (formula_in_slot f).1

-- What `put_node` leaves, `node_at` may read, and it reads that node: masks are of 64 bits.
module _ (k : ℕ) (n : Node) (b : List ℕ) (room : 1 + k * node_slot_length + node_slot_length ≤ length b)
    (first : (slot_of_node n).first < 256 ^ 8) (second : (slot_of_node n).second < 256 ^ 8) where
  pub slot-put : slot_at (put_at k (slot_of_node n) b) k ≡ slot_of_node n
  slot-put =
      let at = 1 + k * node_slot_length in
      let s = slot_of_node n in
      let more = drop (at + length (slot_bytes s)) b in
      let d : drop at (put_at k s b) ≡ slot_bytes s ++ more = drop_at (take at b) (slot_bytes s ++ more) at (length-take-le at b (omega arith)) in
      let f : StandsFor s (slot_at (put_at k s b) k) = subst (StandsFor s) (sym (slot-from (put_at k s b) k ∙ ap slot_from d)) (slot-front s more) in
      sym (slot_by_parts (slot_at (put_at k s b) k) f.same_kind (f.same_first first) (f.same_second second))

  pub shaped-put : shaped (slot_at (put_at k (slot_of_node n) b) k) ≡ true
  shaped-put = ap shaped slot-put ∙ (slot-of-node n).1

  pub node-put : (r : Node) → slot_of_node r ≡ slot_at (put_at k (slot_of_node n) b) k → r ≡ n
  node-put r e = sym (node_in_slot r) ∙ (ap node_in (e ∙ slot-put) ∙ node_in_slot n)
