-- Nodes move up by the bytes that are between them and the ones behind.
use mathlib.Core.Path.{◌≡◌, refl, sym, ap, ◌∙◌}
use mathlib.Core.List.{List, ◌++◌, append_assoc}
use Prim.Native.Nat.{ℕ, ◌+◌, ◌*◌, ◌-◌, ◌≤◌}
use native.Mathlib.Omega.{arith}
use lib.ListN.{length, take, drop}
use lib.Seq.{paste}
use Rattle.std.proofs.lemmas.List.{drop-take}
use Rattle.columns.specs.inner.Write.{pasted}
use Rattle.actl.specs.Sizes.{node_slot_length}
use Rattle.actl.proofs.ReadingNodes.{moved, moved_all}
use Rattle.formula_nodes.proofs.move_up.Goals as goal

pasted-moved : (w top i : ℕ) (e : List ℕ) → i ≤ top → paste e (i + w) (drop i e) (top - i) ≡ moved w top i e
pasted-moved w top i e h =
    let part : drop i (take top e) ≡ take (top - i) (drop i e) =
    (let on : top ≡ i + (top - i) = omega arith in ap (λ n. drop i (take n e)) on ∙ drop-take i (top - i) e) in
    let end : i + w + (top - i) ≡ top + w = omega arith in
    append_assoc (take (i + w) e) (take (top - i) (drop i e)) (drop (i + w + (top - i)) e) ∙ (λ j. take (i + w) e ++ (sym part j ++ drop (end j) e))

pub returns-then-n-count-le-NODES : goal.returns-then-n-count-le-NODES
returns-then-n-count-le-NODES c =
    let a = c.args in
    let e = a.nodes.now in
    let by = a.count * node_slot_length in
    let at = 1 + a.start * node_slot_length in
    let top = 1 + a.n * node_slot_length in
    let room : top + by ≤ length e = omega (arith, c.requires.0) in
    record {
      long = c.copy_within.ensures.len;
      made = λ h m k. ap (λ x. pasted x at m) (c.copy_within.ensures.after ∙ pasted-moved by top at e (omega arith)) ∙ moved_all by top at e room (omega arith) m k;
    }

pub returns-else-n-count-le-NODES : goal.returns-else-n-count-le-NODES
returns-else-n-count-le-NODES c =
    record { long = refl; made = λ h. absurd (omega arith) }
