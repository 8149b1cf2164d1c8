-- The counts, the marks and the edges, written one behind the other, are the automaton's bytes.
use mathlib.Core.Path.{◌≡◌, refl, sym, ap, ◌∙◌}
use mathlib.Core.Bool.{Bool}
use mathlib.Core.List.{List, ◌++◌}
use Prim.Native.Nat.{ℕ, ◌+◌, ◌<◌, ◌≤◌}
use native.Mathlib.Omega.{arith}
use lib.ListN.{length, get_or, take, length-map}
use Rattle.columns.specs.Bytes.{low_first}
use Rattle.columns.specs.inner.Write.{pasted}
use Rattle.columns.proofs.Laws.Pasted.{pasted-then}
use Rattle.columns.proofs.Laws.Pasting.{pasting_none, pasting_more}
use Rattle.lts.specs.Reply.{overwritten}
use Rattle.lts.proofs.Laws.Pasted.{pasted-start}
use Rattle.deterministic.specs.Sizes.{smallest_length}
use Rattle.deterministic.specs.Bytes.{automaton_bytes}
use Rattle.deterministic.specs.inner.Arrays.{array_table}
use Rattle.deterministic.specs.inner.Blocks.{numbered}
use Rattle.block_numbers.specs.inner.Found.{Fits, IsFound}
use Rattle.numbering.specs.inner.Written.{mark_of, marks_of, edges_in, RowFits}
use Rattle.block_numbers.proofs.Laws.Entered.{rows-length}
use Rattle.numbering.proofs.Laws.Bytes.{edges_few, row_fits, bytes-are}

pub two-counts : (states edges : ℕ) (out x y : List ℕ) → 4 ≤ length out → x ≡ pasted out 0 (low_first 2 states)
    → y ≡ pasted x 2 (low_first 2 edges) → y ≡ pasted out 0 (low_first 2 states ++ low_first 2 edges)
two-counts states edges out x y h e d = pasted-then 0 2 (low_first 2 states) (low_first 2 edges) out x y e refl (omega arith) d

module _ {next blocks rows numbers : List ℕ} {n columns count edges : ℕ} (f : Fits next blocks n columns) (d : IsFound next blocks n columns rows numbers count edges) where
  pub rows_fit : (i : ℕ) → i < count → RowFits next blocks numbers n columns (get_or rows i 0)
  rows_fit i h = row_fits f d.stand d.within d.all i h

  abbrev steps : List ℕ
  steps = edges_in next blocks numbers n columns rows 0 count

  module _ (marks : List Bool) (out : List ℕ) (room : smallest_length ≤ length out) where
    pub edges_fit : 4 + count + length steps ≤ length out
    edges_fit = omega (arith, edges_few next blocks numbers n columns f.letters.1 rows 0 count, d.stand.few, room)

    pub whole : {x y z : List ℕ} → x ≡ pasted out 0 (low_first 2 count ++ low_first 2 edges) → y ≡ pasted x 4 (marks_of marks rows count) → z ≡ pasted y (4 + count) steps
        → z ≡ overwritten (automaton_bytes (numbered (array_table next marks n columns) (take n blocks))) out
    whole {x} {y} {z} e u v =
        let head = low_first 2 count ++ low_first 2 edges in
        let marked = marks_of marks rows count in
        let long : length marked ≡ count = length-map (take count rows) (mark_of marks) ∙ rows-length d.stand 0 in
        let first = pasting_more (pasting_none out 0 (omega arith)) head x 4 e refl (omega (arith, edges_fit)) in
        let second = pasting_more first marked y (4 + count) u (omega (arith, long)) (omega (arith, edges_fit)) in
        let third = pasting_more second steps z (4 + count + length steps) v refl edges_fit in
        third.is ∙ (pasted-start out ((head ++ marked) ++ steps) ∙ ap (λ l. overwritten l out) (sym (bytes-are f d.stand d.within d.all marks edges d.counted)))
