-- The listing's text by the bytes in the lent places is the text of the explanation.
use mathlib.Core.Path.{◌≡◌, refl, sym, ap, ◌∙◌, subst}
use mathlib.Core.Bool.{false}
use mathlib.Core.List.{List, [], ◌∷◌, ◌++◌}
use Prim.Native.Nat.{ℕ, suc, ◌+◌, ◌*◌, ◌<◌}
use native.Mathlib.Nat.{zero-add, add-zero}
use native.Mathlib.Omega.{arith}
use lib.ListN.{length, get_or, drop}
use Rattle.automaton.specs.Bytes.{row_length, bit_of, rows_bytes, edges_bytes}
use Rattle.columns.specs.Lines.{numbers_line}
use Rattle.lts.specs.inner.Lists.{up_from}
use Rattle.lts.specs.Lists.{bind}
use Rattle.lts.specs.Reply.{accepted, overwritten}
use Rattle.automaton.specs.Listing.{Row, Listing}
use Rattle.automaton.specs.Listed.{row_at}
use Rattle.automaton.proofs.Bytes.{SmallEdges, no_edge, row-byte, edge_in}
use Rattle.explanations.specs.Explanation.{Explanation, summary}
use Rattle.explanations.specs.Printed.{row_lines, edge_line, summary_line, printed}
use Rattle.explanations.specs.inner.Printed.{row_text, edge_text, rows_text, edges_text, listing_text}

-- Lines by number are lines by member, for any text `out` that has a line for each member.
module _ {A : Type 0} (d : A) (out : ℕ → List A → List ℕ) (f : ℕ → List ℕ) (line : ℕ → A → List ℕ)
    (none : (k : ℕ) → out k [] ≡ []) (more : (k : ℕ) (x : A) (l : List A) → out k (x ∷ l) ≡ line k x ++ out (suc k) l) where
  lines_from : (k : ℕ) (l : List A) → ((i : ℕ) → i < length l → f (k + i) ≡ line (k + i) (get_or l i d)) → bind f (up_from k (length l)) ≡ out k l
  lines_from k [] h = sym (none k)
  lines_from k (x ∷ l) h =
      let first : f k ≡ line k x = subst (λ n. f n ≡ line n x) (add-zero k) (h 0 (omega arith)) in
      let rest = lines_from (suc k) l (λ i b. let z : k + suc i ≡ suc k + i = omega arith in subst (λ n. f n ≡ line n (get_or l i d)) z (h (suc i) (omega arith))) in
      (λ i. first i ++ rest i) ∙ sym (more k x l)

  pub lines_are : (l : List A) → ((i : ℕ) → i < length l → f i ≡ line i (get_or l i d)) → bind f (up_from 0 (length l)) ≡ out 0 l
  lines_are l h = lines_from 0 l (λ i b. subst (λ n. f n ≡ line n (get_or l i d)) (sym (zero-add i)) (h i b))

abbrev row_line : ℕ → Row → List ℕ
row_line i r = numbers_line (i ∷ r.place ∷ r.state ∷ bit_of r.final ∷ [])

module _ (L : Listing) (x y : List ℕ) where
  rows-printed : rows_text (rows_bytes L ++ x) (length L.rows) ≡ row_lines 0 L.rows
  rows-printed = lines_are (record { place = 0; state = 0; final = false }) row_lines (row_text (rows_bytes L ++ x)) row_line (λ k. refl) (λ k r l. refl) L.rows (λ i b.
      let place : get_or (rows_bytes L ++ x) (i * row_length) 0 ≡ (row_at L i).place =
      ap (λ k. get_or (rows_bytes L ++ x) k 0) (sym (add-zero (i * row_length))) ∙ row-byte L x y i 0 b (omega arith) in
      λ k. numbers_line (i ∷ place k ∷ row-byte L x y i 1 b (omega arith) k ∷ row-byte L x y i 2 b (omega arith) k ∷ []))

  edges-printed : SmallEdges L → edges_text (edges_bytes L ++ y) (length L.edges) ≡ bind edge_line L.edges
  edges-printed small = lines_are no_edge (λ k. bind edge_line) (edge_text (edges_bytes L ++ y)) (λ k. edge_line) (λ k. refl) (λ k e l. refl) L.edges (λ i b. ap edge_line (edge_in L x y small i b))

pub listing-printed : (e : Explanation) (rows edges : List ℕ) → SmallEdges e.list
    → listing_text (summary e) (overwritten (rows_bytes e.list) rows) (overwritten (edges_bytes e.list) edges) ≡ printed (accepted e)
unfolding printed
listing-printed e rows edges small =
    let L = e.list in
    let x = drop (length (rows_bytes L)) rows in
    let y = drop (length (edges_bytes L)) edges in
    λ k. summary_line (summary e) ++ (rows-printed L x y k ++ edges-printed L x y small k)
