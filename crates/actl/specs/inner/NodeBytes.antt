-- The nodes of a text that is read: how many, and in which bytes. What is written of them from one place to the next.
use Rattle.std.specs.Prelude.{◌≡◌, List, ◌++◌, ℕ, ◌+◌, ◌*◌, ◌≤◌, length, take, drop}
use Rattle.columns.specs.inner.Write.{pasted}
use Rattle.lts.specs.Lists.{bind}
use Rattle.actl.specs.Sizes.{longest_text, most_nodes, node_slot_length, formula_length}
use Rattle.actl.specs.Formulas.{Formula, nodes}
use Rattle.actl.specs.Prepared.{Slot, slot, slot_of, slot_bytes}

-- The nodes of a formula as prepared bytes hold them.
abbrev pub bytes_of_nodes : Formula → List ℕ
bytes_of_nodes F = bind (λ f. slot_bytes (slot_of f)) (nodes F)

-- Bytes with node k written anew.
abbrev pub put_at : ℕ → Slot → List ℕ → List ℕ
put_at k node b = pasted b (1 + k * node_slot_length) (slot_bytes node)

-- The bytes x are the bytes e with l written from node n on, up to node m. Of a text of more than 40 nodes the nodes are counted alone.
pub record NodesWritten (n m : ℕ) (e x l : List ℕ) : Type 0 where
  pub ends : 1 + m * node_slot_length ≡ 1 + n * node_slot_length + length l
  pub long : length x ≡ length e
  pub made : m ≤ most_nodes → x ≡ pasted e (1 + n * node_slot_length) l

-- The nodes from `start` up to n moved up by w in the bytes x: whatever is put into their place stands before them.
pub record NodesMoved (start n w : ℕ) (e x : List ℕ) : Type 0 where
  pub long : length x ≡ length e
  pub made : n + w ≤ most_nodes → (l : List ℕ) → length l ≡ w * node_slot_length
      → pasted x (1 + start * node_slot_length) l ≡ pasted e (1 + start * node_slot_length) (l ++ drop (1 + start * node_slot_length) (take (1 + n * node_slot_length) e))

-- The nodes from `start` up to n stand between two lists of nodes, of w nodes together, in the bytes x.
pub record NodesEnclosed (start n w : ℕ) (before behind e x : List ℕ) : Type 0 where
  pub long : length x ≡ length e
  pub made : n + w ≤ most_nodes → x ≡ pasted e (1 + start * node_slot_length) (before ++ (drop (1 + start * node_slot_length) (take (1 + n * node_slot_length) e) ++ behind))

abbrev pub or_bytes : List ℕ
or_bytes = slot_bytes (slot 3 0 0)

abbrev pub not_bytes : List ℕ
not_bytes = slot_bytes (slot 2 0 0)

-- `~`, `|` and `~`, which stand before the left side of `&`; one more `~` stands before its right side.
abbrev pub and_bytes : List ℕ
and_bytes = not_bytes ++ (or_bytes ++ not_bytes)

-- A byte of the text makes at most four nodes.
abbrev pub most_counted : ℕ
most_counted = 4 * longest_text

-- Bytes for 40 nodes; n are counted up to a place.
pub record NodeRoom (e : List ℕ) (at n : ℕ) : Type 0 where
  pub below : n ≤ 4 * at
  pub long : length e ≡ formula_length
