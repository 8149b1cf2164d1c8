-- What an accepted call for the smallest automaton says of the bytes that it leaves.
use mathlib.Core.Path.{◌≡◌, refl, sym, ap, ◌∙◌, subst}
use mathlib.Core.Logic.{◌↔◌}
use mathlib.Core.List.{List, [], ◌∷◌}
use mathlib.Core.Option.{some}
use Prim.Native.Nat.{ℕ, suc, ◌*◌, ◌≤◌}
use lib.Dec.{leb}
use native.Mathlib.Nat.{mul-le-mul}
use native.Mathlib.Omega.{arith}
use lib.ListN.{length, drop, length-append}
use lib.Seq.{take-append_seam}
use borrow.Author.Tests.{le-leb, leb-true}
use Rattle.lts.specs.Reply.{Reply, accepted, refusal, unless, overwritten, left_in, answers}
use Rattle.lts.specs.Steps.{Table, labels}
use Rattle.lts.specs.Idle.{idle_label}
use Rattle.lts.specs.inner.Lists.{up_from}
use Rattle.lts.specs.inner.Range.{InRange}
use Rattle.lts.specs.inner.Steps.{alphabet}
use Rattle.lts.proofs.Lists.{up_from-length}
use Rattle.lts.specs.Prepared.{with_table}
use Rattle.lts.specs.inner.Prepared.{prepared_table}
use Rattle.actl.specs.Formulas.{Formula}
use Rattle.actl.specs.FormulaReading.{with_formula, long_enough, on_prepared}
use Rattle.actl.specs.inner.Prepared.{prepared_formula}
use Rattle.actl.proofs.Laws.Prepared as prepared-formula
use Rattle.actl.proofs.Laws.Replies.{refusal-is-not-accepted, unless-accepted, long-enough-accepted, on-prepared-accepted, on-prepared_goes, accepted_lengths}
use Rattle.automaton.specs.Listing.{Listing}
use Rattle.automaton.specs.Bytes.{rows_bytes, edges_bytes}
use Rattle.automaton.specs.Build.{counts, fitted, built}
use Rattle.automaton.specs.AcceptsBytes.{AcceptsBytes}
use Rattle.automaton.specs.Explains.{Explains}
use Rattle.automaton.specs.inner.Search.{listing}
use Rattle.automaton.proofs.Accepted.{prepared_in_range, formed-has-class, fitted-accepted}
use Rattle.automaton.proofs.Explains.{explains-is_walk}
use Rattle.automaton.proofs.Listed.{listing-listed}
use Rattle.automaton.proofs.Reading.{listing-words}
use Rattle.automaton.proofs.WordsAccepted.{listing-accepts}
use Rattle.explanations.specs.Demands.{FromPrepared}
use Rattle.explanations.specs.Explanation.{and_then}
use Rattle.explanations.proofs.Demands.{building_explains}
use Rattle.deterministic.specs.Sizes.{most_sets, most_letters, smallest_length, work_length}
use Rattle.deterministic.specs.Automata.{Automaton, count, Accepts}
use Rattle.deterministic.specs.Smallest.{SameWords, IsSmallest}
use Rattle.deterministic.specs.Listings.{automaton_in}
use Rattle.deterministic.specs.Bytes.{automaton_bytes}
use Rattle.deterministic.specs.SmallestAsked.{Beside, beside_of, beside_in, smallest_asked, counts_beside, rows_beside, edges_beside, smallest_bytes, SmallestIn, SmallestAnswered}
use Rattle.deterministic.specs.inner.Smallest.{smallest_of}
use Rattle.deterministic.specs.inner.Subsets.{sets}
use Rattle.deterministic.proofs.Runs.{same_trans}
use Rattle.deterministic.proofs.Listings.{build_words, is_build}
use Rattle.deterministic.proofs.Request.{refused_exactly, smallest-is, is-small, has-few-edges}

same-accepted : {A : Type 0} {a b : A} → accepted a ≡ accepted b → a ≡ b
same-accepted e = cc

and-accepted : {A B : Type 0} (r : Reply A) (next : A → Reply B) {b : B} → and_then r next ≡ accepted b → (a : A) × (r ≡ accepted a) × (next a ≡ accepted b)
and-accepted (accepted a) next e = (a, refl, e)
and-accepted (refusal n g) next e = absurd (refusal-is-not-accepted e)

alphabet-few : (t : Table) → InRange t → length (alphabet t) ≤ most_letters
alphabet-few t w = omega (arith, length-append (up_from 0 (suc (labels t))) (idle_label ∷ []), up_from-length 0 (suc (labels t)), w.few_labels)

few_edges : (d : Automaton) {n : ℕ} → count d ≤ most_sets → length d.edges ≤ count d * n → n ≤ most_letters → length d.edges ≤ most_sets * most_letters
few_edges d {n} a b c = let e = mul-le-mul a c in omega arith

-- Of the same words.
of_words : {P Q : List ℕ → Type 0} {d : Automaton} → SameWords P Q → IsSmallest Q d → IsSmallest P d
of_words s h = record {
  well_formed = h.well_formed;
  sorted = h.sorted;
  exact = same_trans s h.exact;
  reached = h.reached;
  no_trap = h.no_trap;
  apart = h.apart;
  in_turn = h.in_turn;
}

module _ (table formula rows edges buffer work : List ℕ) where
  abbrev asked : Reply Beside
  asked = smallest_asked table formula rows edges buffer work

  abbrev behind_lengths : Reply Beside
  behind_lengths = with_table (prepared_table table) (λ t. with_formula (prepared_formula (labels t) formula) (λ F. beside_in rows edges t F))

  -- With room in both buffers: what the prepared bytes say.
  pub with_room : smallest_length ≤ length buffer → work_length ≤ length work → asked ≡ on_prepared table formula (beside_in rows edges)
  unfolding smallest_asked
  with_room a b =
      ap (λ x. long_enough table formula (unless x 14 smallest_length (unless (leb work_length (length work)) 14 work_length behind_lengths))) (le-leb smallest_length (length buffer) a)
      ∙ ap (λ x. long_enough table formula (unless x 14 work_length behind_lengths)) (le-leb work_length (length work) b)

  had_room : {b : Beside} → asked ≡ accepted b → (smallest_length ≤ length buffer) × (work_length ≤ length work)
  unfolding smallest_asked
  had_room e =
      let second = unless (leb work_length (length work)) 14 work_length behind_lengths in
      let (x, d) = unless-accepted (leb smallest_length (length buffer)) 14 smallest_length second
      (long-enough-accepted table formula (unless (leb smallest_length (length buffer)) 14 smallest_length second) e) in
      let (y, f) = unless-accepted (leb work_length (length work)) 14 work_length behind_lengths d in
      (leb-true smallest_length (length buffer) x, leb-true work_length (length work) y)

  -- What was accepted: a table and a formula, and few enough sets.
  record Accepted (b : Beside) : Type 0 where
    t : Table
    F : Formula
    is_table : prepared_table table ≡ some t
    is_formula : prepared_formula (labels t) formula ≡ some F
    as-built : built table formula rows edges ≡ accepted (listing t F)
    list-is : b.list ≡ listing t F
    few : length (sets (automaton_in (listing t F)) (alphabet t) most_sets) ≤ most_sets
    smallest-is : b.smallest ≡ smallest_of t (listing t F)

  accepted_so : {b : Beside} → asked ≡ accepted b → Accepted b
  unfolding built
  accepted_so {b} e =
      let (x, y) = had_room e in
      let d = sym (with_room x y) ∙ e in
      let p = on-prepared-accepted table formula (beside_in rows edges) d in
      let (long, wide) = accepted_lengths table formula behind_lengths d in
      let t = p.table_in_lem in
      let F = p.formula_in in
      let (L, f, g) = and-accepted (fitted (listing t F) rows edges) (beside_of t) p.goes_on in
      let is = (fitted-accepted (listing t F) rows edges f).2 in
      let g' : beside_of t (listing t F) ≡ accepted b = subst (λ (K : Listing). beside_of t K ≡ accepted b) is g in
      let (few, h) = unless-accepted (leb (length (sets (automaton_in (listing t F)) (alphabet t) most_sets)) most_sets) 20 (suc most_sets)
      (accepted (record { list = listing t F; smallest = smallest_of t (listing t F) })) g' in
      let same : record { list = listing t F; smallest = smallest_of t (listing t F) } ≡ b = same-accepted h in
      record {
        t = t;
        F = F;
        is_table = p.is_table;
        is_formula = p.is_formula;
        as-built = on-prepared_goes table formula p.is_table p.is_formula (λ t F. fitted (listing t F) rows edges) long wide ∙ (f ∙ ap accepted is);
        list-is = ap (λ (z : Beside). z.list) (sym same);
        few = leb-true (length (sets (automaton_in (listing t F)) (alphabet t) most_sets)) most_sets few;
        smallest-is = ap (λ (z : Beside). z.smallest) (sym same);
      }

  -- The rows and edges are those of a build, with all that is said of them.
  pub smallest-explains : FromPrepared table formula (answers counts_beside asked) (left_in rows_beside asked rows) (left_in edges_beside asked edges)
  smallest-explains = by asked refl
    where
      by : (r : Reply Beside) → asked ≡ r → FromPrepared table formula (answers counts_beside r) (left_in rows_beside r rows) (left_in edges_beside r edges)
      by (refusal n g) e = tt
      by (accepted b) e =
          let a = accepted_so e in
          let z : built table formula rows edges ≡ accepted b.list = a.as-built ∙ ap accepted (sym a.list-is) in
          subst (λ (r : Reply Listing). FromPrepared table formula (answers counts r) (left_in rows_bytes r rows) (left_in edges_bytes r edges)) z (building_explains table formula rows edges)

  -- And the bytes beside them say the smallest automaton.
  pub smallest-answered : SmallestAnswered table formula (answers counts_beside asked) (left_in rows_beside asked rows) (left_in edges_beside asked edges) (left_in smallest_bytes asked buffer)
  smallest-answered = by asked refl
    where
      said : (b : Beside) (a : Accepted b)
          → SmallestIn a.t a.F (counts b.list) (overwritten (rows_bytes b.list) rows) (overwritten (edges_bytes b.list) edges) (overwritten (automaton_bytes b.smallest) buffer)
      said b a =
          let t = a.t in
          let F = a.F in
          let L = listing t F in
          let form = prepared-formula.prepared-of (labels t) formula a.is_formula in
          let w = prepared_in_range table a.is_table in
          let c = formed-has-class form in
          let h = listing-listed t F w c in
          let build = is_build t F w c L h in
          let few = (refused_exactly (alphabet t) most_sets (automaton_in L) build).0 a.few in
          let least = smallest-is (alphabet t) most_sets (automaton_in L) build few in
          let bytes : (v : List ℕ) → AcceptsBytes (counts L) (overwritten (rows_bytes L) rows) (overwritten (edges_bytes L) edges) v ↔ Explains t F v
          = listing-accepts t F w c form.few (drop (length (rows_bytes L)) rows) (drop (length (edges_bytes L)) edges) in
          let words : SameWords (Explains t F) (Accepts (automaton_in L)) = λ v. let u = explains-is_walk t F v c in let x = listing-words t F w c v in let y = build_words L v in
          (λ z. y.0 (x.1 (u.0 z)), λ z. u.1 (x.0 (y.1 z))) in
          let is = subst (IsSmallest (Explains t F)) (sym a.smallest-is) (of_words words least) in
          record {
            d = b.smallest;
            says = take-append_seam (automaton_bytes b.smallest) (drop (length (automaton_bytes b.smallest)) buffer);
            is_smallest = is;
            same_words_lem = same_trans
                (subst (λ (K : Listing). SameWords (AcceptsBytes (counts K) (overwritten (rows_bytes K) rows) (overwritten (edges_bytes K) edges)) (Explains t F)) (sym a.list-is) bytes) is.exact;
            few_states = subst (λ (e : Automaton). count e ≤ most_sets) (sym a.smallest-is) (is-small (alphabet t) most_sets (automaton_in L) build few);
            few_edges = subst (λ (e : Automaton). length e.edges ≤ most_sets * most_letters) (sym a.smallest-is) (few_edges (smallest_of t L)
                (is-small (alphabet t) most_sets (automaton_in L) build few) (has-few-edges (alphabet t) most_sets (automaton_in L) build few) (alphabet-few t w));
          }

      by : (r : Reply Beside) → asked ≡ r → SmallestAnswered table formula (answers counts_beside r) (left_in rows_beside r rows) (left_in edges_beside r edges) (left_in smallest_bytes r buffer)
      by (refusal n g) e = tt
      by (accepted b) e = let a = accepted_so e in (a.t, a.F, a.is_table, a.is_formula, said b a)
