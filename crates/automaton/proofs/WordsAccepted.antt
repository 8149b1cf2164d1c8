-- Demand 2 of a listing: the bytes of its rows and edges accept exactly the words that explain the verdict; so says the answer to a word.
use mathlib.Core.Path.{◌≡◌, refl, sym, ◌∙◌, subst}
use mathlib.Core.Logic.{◌↔◌}
use mathlib.Core.List.Memᴰ
use mathlib.Core.List.{List, [], ◌∷◌, ◌++◌, Memᴰ}
use mathlib.Core.Option.{Option, none, some}
use Prim.Native.Nat.{ℕ, ◌≤◌}
use native.Mathlib.Omega.{arith}
use Rattle.lts.specs.Reply.{Reply, accepted, refusal}
use Rattle.lts.specs.Steps.{Table, labels}
use Rattle.lts.specs.inner.Range.{InRange}
use Rattle.lts.proofs.Lists.{get_d_mem, mem_index}
use Rattle.actl.specs.Formulas.{Formula, size}
use Rattle.actl.specs.Reading.{unless_found}
use Rattle.actl.proofs.Classes.{HasClass}
use Rattle.actl.proofs.Laws.Prepared as prepared-formula
use Rattle.actl.proofs.Laws.Replies.{refusal-is-not-accepted, on-prepared-accepted}
use Rattle.satisfaction.specs.VerdictAsked.{TellsWhether}
use Rattle.satisfaction.proofs.Verdicts.{flag_tells}
use Rattle.automaton.specs.Listing.{Edge, Listing}
use Rattle.automaton.specs.inner.Search.{listing}
use Rattle.automaton.specs.Listed.{row_at, IsRow}
use Rattle.automaton.specs.inner.Words.{Reads, ends, reads, Accepts, accepts}
use Rattle.automaton.specs.Bytes.{bit_of, rows_bytes, edges_bytes}
use Rattle.automaton.specs.Build.{counts}
use Rattle.automaton.specs.Explains.{Explains}
use Rattle.automaton.specs.AcceptsBytes.{ReadsBytes, AcceptsBytes}
use Rattle.automaton.specs.WordAsked.{bad_letter, word_replied, WordAnswered}
use Rattle.automaton.proofs.Bytes.{SmallEdges, no_edge, bit_true, bit_one, final_in, edge_in}
use Rattle.automaton.proofs.Listed.{listing-listed}
use Rattle.automaton.proofs.Counts.{rows_limit}
use Rattle.automaton.proofs.Reading.{listing-words, accepts-is}
use Rattle.automaton.proofs.Explains.{explains-is_walk}
use Rattle.automaton.proofs.Accepted.{prepared_in_range, formed-has-class}

module _ (L : Listing) (x y : List ℕ) (small : SmallEdges L) (leave : (e : Edge) → Memᴰ e L.edges → IsRow L e.row) where
  abbrev rows : List ℕ
  rows = rows_bytes L ++ x

  abbrev edges : List ℕ
  edges = edges_bytes L ++ y

  bytes_read : {i : ℕ} {w : List ℕ} → Reads L i w → ReadsBytes (counts L) rows edges i w
  bytes_read {i} (ends b e) = (b, final_in L x y i b ∙ bit_one (row_at L i).final e)
  bytes_read {i} (reads {j} {l} m u) =
      let (k, c, e) = mem_index no_edge m in
      (leave (record { row = i; label = l; target = j }) m, (k, j, c, edge_in L x y small k c ∙ e, bytes_read u))

  read-rows : (i : ℕ) (w : List ℕ) → ReadsBytes (counts L) rows edges i w → Reads L i w
  read-rows i [] (b, e) = ends b (bit_true (row_at L i).final (sym (final_in L x y i b) ∙ e))
  read-rows i (l ∷ w) (b, (k, j, c, e, u)) = reads (Memᴰ.cast (sym (sym (edge_in L x y small k c) ∙ e)) (get_d_mem L.edges k no_edge c)) (read-rows j w u)

  pub bytes_accept : (w : List ℕ) → AcceptsBytes (counts L) rows edges w ↔ Accepts L w
  bytes_accept w = (read-rows 0 w, bytes_read)

module _ (t : Table) (F : Formula) (w : InRange t) (c : HasClass F) where
  module _ (few : size F ≤ 40) where
    pub small-edges : SmallEdges (listing t F)
    small-edges e m = let h = (listing-listed t F w c).edge_of_lem e m in let b = rows_limit t F w c few in (omega (arith, h.0), omega (arith, h.1))

    -- Whatever stands behind the bytes of the rows and the edges.
    pub listing-accepts : (x y v : List ℕ) → AcceptsBytes (counts (listing t F)) (rows_bytes (listing t F) ++ x) (edges_bytes (listing t F) ++ y) v ↔ Explains t F v
    listing-accepts x y v =
        let a = bytes_accept (listing t F) x y small-edges (λ e m. ((listing-listed t F w c).edge_of_lem e m).0) v in
        let b = listing-words t F w c v in
        let d = explains-is_walk t F v c in
        (λ z. d.1 (b.0 (a.0 z)), λ z. a.1 (b.1 (d.0 z)))

  pub word_tells : (v : List ℕ) → TellsWhether (Explains t F v) (bit_of (accepts t F v))
  word_tells v =
      let a = accepts-is t F v in
      let b = explains-is_walk t F v c in
      flag_tells (accepts t F v) (λ e. b.1 (a.0 e), λ d. a.1 (b.0 d))

found-accepted : {A : Type 0} (o : Option ℕ) (n : ℕ) {a b : A} → unless_found o n (accepted a) ≡ accepted b → a ≡ b
found-accepted none n e = cc
found-accepted (some i) n e = absurd (refusal-is-not-accepted e)

module _ (table formula word : List ℕ) where
  pub word_answered : WordAnswered table formula word (word_replied table formula word)
  unfolding word_replied
  word_answered = by (word_replied table formula word) refl
    where
      by : (r : Reply ℕ) → word_replied table formula word ≡ r → WordAnswered table formula word r
      by (refusal n g) e = tt
      by (accepted v) e =
          let p = on-prepared-accepted table formula (λ t F. unless_found (bad_letter (labels t) word) 13 (accepted (bit_of (accepts t F word)))) e in
          let t = p.table_in_lem in
          let F = p.formula_in in
          let form = prepared-formula.prepared-of (labels t) formula p.is_formula in (
            t,
            F,
            p.is_table,
            p.is_formula,
            subst (TellsWhether (Explains t F word)) (found-accepted (bad_letter (labels t) word) 13 p.goes_on)
                (word_tells t F (prepared_in_range table p.is_table) (formed-has-class form) word),
          )
