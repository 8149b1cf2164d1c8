-- What is written in place n is read from place n, and what stands in the other places stays.
use mathlib.Core.Path.{◌≡◌, refl, sym, ap, ◌∙◌}
use mathlib.Core.Logic.{◌≢◌}
use mathlib.Core.List.{List}
use Prim.Native.Nat.{ℕ, ◌+◌, ◌*◌, ◌≤◌, ◌<◌}
use native.Mathlib.Nat.{add-zero}
use native.Mathlib.Decide.{dec_lt, dec_le}
use native.Mathlib.Omega.{arith}
use lib.ListN.{length, get_or}
use Rattle.columns.specs.inner.Write.{pasted}
use Rattle.automaton.specs.Listing.{Row, Edge}
use Rattle.automaton.specs.Bytes.{row_length, edge_length, row_bytes, edge_bytes, bit_of, row_state, row_final, edge_at}
use Rattle.listing.specs.inner.Places.{row_place, put_row, put_edge}
use Rattle.columns.proofs.Laws.Pasted.{pasted-there, pasted-before, pasted-behind}
use Rattle.columns.proofs.Laws.Bytes.{pair_value}

-- Byte j of a part of w bytes in place n, if a part of as many bytes is written there, or in another place.
module _ (w n : ℕ) (part out : List ℕ) (len : length part ≡ w) (room : n * w + w ≤ length out) where
  first-there : 0 < w → get_or (pasted out (n * w) part) (n * w) 0 ≡ get_or part 0 0
  first-there h = ap (λ k. get_or (pasted out (n * w) part) k 0) (sym (add-zero (n * w))) ∙ pasted-there out (n * w) part (omega arith) 0 (omega arith)

  byte-there : (j : ℕ) → j < w → get_or (pasted out (n * w) part) (n * w + j) 0 ≡ get_or part j 0
  byte-there j h = pasted-there out (n * w) part (omega arith) j (omega arith)

  byte_elsewhere : (k : ℕ) → (n * w ≤ k → k < n * w + w → ⊥) → get_or (pasted out (n * w) part) k 0 ≡ get_or out k 0
  byte_elsewhere k h = pick (dec_lt k (n * w)) (dec_le (n * w + w) k)
    where
      pick : Dec (k < n * w) → Dec (n * w + w ≤ k) → get_or (pasted out (n * w) part) k 0 ≡ get_or out k 0
      pick (yes before) _ = pasted-before out (n * w) part (omega arith) k before
      pick (no _) (yes behind) = pasted-behind out (n * w) part (omega arith) k (omega (arith, len))
      pick (no early) (no late) = absurd (h (omega arith) (omega arith))

-- Two lists of bytes have the same row in place i.
pub record SameRow (rows other : List ℕ) (i : ℕ) : Type 0 where
  pub place : row_place rows i ≡ row_place other i
  pub state : row_state rows i ≡ row_state other i
  pub mark : row_final rows i ≡ row_final other i

-- A row stands in place i.
pub record RowStands (r : Row) (rows : List ℕ) (i : ℕ) : Type 0 where
  pub place : row_place rows i ≡ r.place
  pub state : row_state rows i ≡ r.state
  pub mark : row_final rows i ≡ bit_of r.final

module _ (n : ℕ) (r : Row) (out : List ℕ) (room : n * row_length + row_length ≤ length out) where
  pub row-read_back : RowStands r (put_row n r out) n
  unfolding put_row
  row-read_back =
      let there = byte-there row_length n (row_bytes r) out refl room in
      record { place = first-there row_length n (row_bytes r) out refl room (omega arith); state = there 1 (omega arith); mark = there 2 (omega arith) }

  pub row_kept : (m : ℕ) → m ≢ n → SameRow (put_row n r out) out m
  unfolding put_row
  row_kept m h =
      let kept = byte_elsewhere row_length n (row_bytes r) out refl room in
      record {
        place = kept (m * row_length) (λ a b. h (omega arith));
        state = kept (m * row_length + 1) (λ a b. h (omega arith));
        mark = kept (m * row_length + 2) (λ a b. h (omega arith));
      }

module _ (n : ℕ) (e : Edge) (out : List ℕ) (room : n * edge_length + edge_length ≤ length out) where
  pub edge-read_back : e.row < 65536 → e.target < 65536 → edge_at (put_edge n e out) n ≡ e
  unfolding put_edge
  edge-read_back r t =
      let first = first-there edge_length n (edge_bytes e) out refl room (omega arith) in
      let there = byte-there edge_length n (edge_bytes e) out refl room in
      let row = (λ i. first i + there 1 (omega arith) i * 256) ∙ pair_value e.row r in
      let target = (λ i. there 3 (omega arith) i + there 4 (omega arith) i * 256) ∙ pair_value e.target t in
      λ i. record { row = row i; label = there 2 (omega arith) i; target = target i }

  pub edge_kept : (m : ℕ) → m ≢ n → edge_at (put_edge n e out) m ≡ edge_at out m
  unfolding put_edge
  edge_kept m h =
      let kept = byte_elsewhere edge_length n (edge_bytes e) out refl room in
      let b0 = kept (m * edge_length) (λ a b. h (omega arith)) in
      let b1 = kept (m * edge_length + 1) (λ a b. h (omega arith)) in
      let b2 = kept (m * edge_length + 2) (λ a b. h (omega arith)) in
      let b3 = kept (m * edge_length + 3) (λ a b. h (omega arith)) in
      let b4 = kept (m * edge_length + 4) (λ a b. h (omega arith)) in
      λ i. record { row = b0 i + b1 i * 256; label = b2 i; target = b3 i + b4 i * 256 }
