-- Nodes moved up, with others written before and behind them.
use mathlib.Core.Path.{◌≡◌, ap, ◌∙◌, subst}
use mathlib.Core.List.{List, ◌++◌, append_assoc}
use Prim.Native.Nat.{ℕ, ◌+◌, ◌*◌, ◌-◌, ◌≤◌}
use native.Mathlib.Omega.{arith}
use lib.ListN.{length, take, drop, length-append, length-drop}
use lib.Seq.{length-take-le}
use Rattle.columns.specs.inner.Write.{pasted}
use Rattle.actl.specs.Sizes.{most_nodes, node_slot_length, formula_length}
use Rattle.actl.specs.inner.NodeBytes.{NodesWritten, NodesMoved, NodesEnclosed}
use Rattle.columns.proofs.Laws.Pasted.{pasted-then}

-- The same place, counted in another way.
pub written-to : {n m k : ℕ} {e x l : List ℕ} → m ≡ k → NodesWritten n m e x l → NodesWritten n k e x l
written-to {n} {e = e} {x = x} {l = l} z p = subst (λ m. NodesWritten n m e x l) z p

pub enclosed : {start n w m : ℕ} {e x y z before behind : List ℕ} → length e ≡ formula_length → start ≤ n
    → NodesMoved start n w e x → NodesWritten start (start + w) x y before → NodesWritten (n + w) (n + m) y z behind
    → NodesEnclosed start n m before behind e z
enclosed {start} {n} {w} {e = e} {y = y} {z = z} {before = before} {behind = behind} long h p q r = record {
  long = r.long ∙ (q.long ∙ p.long);
  made = λ few.
      let i = 1 + start * node_slot_length in
      let top = 1 + n * node_slot_length in
      let mid = drop i (take top e) in
      let fits : n + w ≤ most_nodes = omega (arith, r.ends) in
      let wide : length before ≡ w * node_slot_length = omega (arith, q.ends) in
      let l : length (before ++ mid) ≡ w * node_slot_length + (n - start) * node_slot_length
      = omega (arith, length-append before mid, length-drop i (take top e), length-take-le top e (omega arith)) in
      let joined = q.made (omega arith) ∙ p.made fits before wide in
      pasted-then i (1 + (n + w) * node_slot_length) (before ++ mid) behind e y z joined (omega arith) (omega arith) (r.made few)
      ∙ ap (pasted e i) (append_assoc before mid behind);
}
