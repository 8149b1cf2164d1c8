-- What an accepted question over two texts answers: the smallest automaton of the words of Definition 6, with few states and edges.
use mathlib.Core.Path.{◌≡◌, refl, subst}
use mathlib.Core.Logic.{◌⊎◌, inl, inr}
use mathlib.Core.List.Memᴰ
use mathlib.Core.List.{List, [], ◌∷◌, ◌++◌, Memᴰ}
use Prim.Native.Nat.{ℕ, suc, ◌*◌, ◌≤◌, ◌<◌}
use native.Mathlib.Nat.{mul-le-mul}
use native.Mathlib.Omega.{arith}
use lib.Dec.{leb}
use lib.ListN.{length, length-append}
use borrow.Author.Tests.{leb-true}
use Rattle.lts.specs.Idle.{idle_label}
use Rattle.lts.specs.Reading.{read_table}
use Rattle.lts.specs.Reply.{Reply, accepted, refusal}
use Rattle.lts.specs.Steps.{Table, labels}
use Rattle.lts.specs.inner.Lists.{up_from}
use Rattle.lts.specs.inner.Range.{InRange}
use Rattle.lts.specs.inner.Steps.{alphabet}
use Rattle.lts.proofs.Lists.{up_from-length, up_from-of}
use Rattle.lts.proofs.Laws.Texts.{text-of-read}
use Rattle.actl.specs.Formulas.{Formula}
use Rattle.actl.specs.inner.Reading.{read_formula}
use Rattle.actl.proofs.Classes.{HasClass}
use Rattle.actl.proofs.Laws.Accepted.{reading-leaves-form}
use Rattle.actl.proofs.Laws.Replies.{refusal-is-not-accepted, unless-accepted}
use Rattle.automaton.specs.Build.{fitted}
use Rattle.automaton.specs.Explains.{Explains}
use Rattle.automaton.specs.Listing.{Edge, Listing}
use Rattle.automaton.specs.inner.Search.{listing}
use Rattle.automaton.proofs.Accepted.{formed-has-class, fitted-accepted}
use Rattle.automaton.proofs.Explains.{explains-is_walk}
use Rattle.automaton.proofs.Listed.{listing-listed}
use Rattle.automaton.proofs.Reading.{listing-words}
use Rattle.explanations.specs.Explanation.{and_then}
use Rattle.deterministic.specs.Automata.{edge, Automaton, count, IsEdge, Accepts, bare}
use Rattle.deterministic.specs.Listings.{automaton_in}
use Rattle.deterministic.specs.Sizes.{most_sets, most_letters}
use Rattle.deterministic.specs.Smallest.{SameWords, CanFinish as Finishes, IsSmallest}
use Rattle.deterministic.specs.SmallestAsked.{Beside, beside_of, beside_in}
use Rattle.deterministic.specs.inner.Smallest.{sets_of, smallest_of}
use Rattle.deterministic.specs.inner.Subsets.{IsBuild}
use Rattle.deterministic.proofs.Listings.{build_words, is_build}
use Rattle.deterministic.proofs.Request.{refused_exactly, smallest-is, is-small, has-few-edges}
use Rattle.deterministic.proofs.Runs.{same_trans, run_on, split_run}
use Rattle.smallest_lines.specs.SmallestText.{lent_smallest}
use Rattle.smallest_lines.specs.inner.Asking.{lent_rows, lent_edges}

-- The table and the formula that were read, and what is said of the automaton.
pub record SmallestOf (table_text text : List ℕ) (d : Automaton) : Type 0 where
  pub table : Table
  pub formula : Formula
  pub read_table_lem : read_table table_text ≡ accepted table
  pub read-formula : read_formula table.names text ≡ accepted formula
  pub is_smallest : IsSmallest (Explains table formula) d
  pub few_states : count d ≤ most_sets
  pub few_edges : length d.edges ≤ most_sets * most_letters
  pub small-labels : (e : Edge) → IsEdge d e → e.label < 256

same-accepted : {A : Type 0} {a b : A} → accepted a ≡ accepted b → a ≡ b
same-accepted e = cc

and-accepted : {A B : Type 0} (r : Reply A) (next : A → Reply B) {b : B} → and_then r next ≡ accepted b → (a : A) × (r ≡ accepted a) × (next a ≡ accepted b)
and-accepted (accepted a) next e = (a, refl, e)
and-accepted (refusal n g) next e = absurd (refusal-is-not-accepted e)

-- Of the same words.
of_words : {P Q : List ℕ → Type 0} {d : Automaton} → SameWords P Q → IsSmallest Q d → IsSmallest P d
of_words s h = record {
  well_formed = h.well_formed;
  sorted = h.sorted;
  exact = same_trans s h.exact;
  reached = h.reached;
  no_trap = h.no_trap;
  apart = h.apart;
  in_turn = h.in_turn;
}

module _ (t : Table) (F : Formula) (w : InRange t) (c : HasClass F) where
  abbrev A : Automaton
  A = automaton_in (listing t F)

  listed-words : SameWords (Explains t F) (Accepts A)
  listed-words v =
      let u = explains-is_walk t F v c in
      let x = listing-words t F w c v in
      let y = build_words (listing t F) v in
      (λ z. y.0 (x.1 (u.0 z)), λ z. u.1 (x.0 (y.1 z)))

  few-letters : length (alphabet t) ≤ most_letters
  few-letters = omega (arith, length-append (up_from 0 (suc (labels t))) (idle_label ∷ []), up_from-length 0 (suc (labels t)), w.few_labels)

  small_letter : {l : ℕ} → Memᴰ l (alphabet t) → l < 256
  small_letter {l} m = by (Memᴰ.append_cases (up_from 0 (suc (labels t))) m)
    where
      by : Memᴰ l (up_from 0 (suc (labels t))) ⊎ Memᴰ l (idle_label ∷ []) → l < 256
      by (inl n) = omega (arith, (up_from-of 0 (suc (labels t)) n).1, w.few_labels)
      by (inr n) = omega (arith, Memᴰ.eq_of_singleton n)

  -- An edge is read by a word, and the rows and edges have its label too.
  small-label : IsBuild (alphabet t) A → {d : Automaton} → IsSmallest (Explains t F) d → (e : Edge) → IsEdge d e → e.label < 256
  small-label build {d} h e m = by h.no_trap
    where
      read : Finishes d → e.label < 256
      read g =
          let (from, to) = h.well_formed.in_range e m in
          let (u, there) = h.reached e.row from in
          let (v, on) = g e.target to in
          let word = run_on d 0 e.row u (e.label ∷ v) there (e.target, m, on) in
          let (j, before, (k, is-edge, rest)) = split_run A 0 u (e.label ∷ v) ((listed-words (u ++ (e.label ∷ v))).0 ((h.exact (u ++ (e.label ∷ v))).1 word)) in
          small_letter (build.labelled (edge j e.label k) is-edge)

      by : Finishes d ⊎ (d ≡ bare) → e.label < 256
      by (inl g) = read g
      by (inr z) = absurd (Memᴰ.not-nil (subst (λ (x : Automaton). IsEdge x e) z m))

  module _ (few : length (sets_of t (listing t F)) ≤ most_sets) where
    abbrev d : Automaton
    d = smallest_of t (listing t F)

    answer : IsSmallest (Explains t F) d × (count d ≤ most_sets) × (length d.edges ≤ most_sets * most_letters) × ((e : Edge) → IsEdge d e → e.label < 256)
    answer =
        let build = is_build t F w c (listing t F) (listing-listed t F w c) in
        let sets-few = (refused_exactly (alphabet t) most_sets A build).0 few in
        let states = is-small (alphabet t) most_sets A build sets-few in
        let most = mul-le-mul states few-letters in
        let least = of_words listed-words (smallest-is (alphabet t) most_sets A build sets-few) in (
          least,
          states,
          omega (arith, most, has-few-edges (alphabet t) most_sets A build sets-few),
          small-label build least,
        )

pub smallest-of : (table_text text : List ℕ) {b : Beside} → lent_smallest table_text text ≡ accepted b → SmallestOf table_text text b.smallest
unfolding lent_smallest
smallest-of table_text text {b} e =
    let (t, read_table_lem, behind) = and-accepted (read_table table_text) (λ t. and_then (read_formula t.names text) (beside_in lent_rows lent_edges t)) e in
    let (F, read-formula, asked) = and-accepted (read_formula t.names text) (beside_in lent_rows lent_edges t) behind in
    let (L, fits, told) = and-accepted (fitted (listing t F) lent_rows lent_edges) (beside_of t) asked in
    let is = (fitted-accepted (listing t F) lent_rows lent_edges fits).2 in
    let told' : beside_of t (listing t F) ≡ accepted b = subst (λ (K : Listing). beside_of t K ≡ accepted b) is told in
    let (few, same) = unless-accepted (leb (length (sets_of t (listing t F))) most_sets) 20 (suc most_sets)
    (accepted (record { list = listing t F; smallest = smallest_of t (listing t F) })) told' in
    let beside : record { list = listing t F; smallest = smallest_of t (listing t F) } ≡ b = same-accepted same in
    let answered = answer t F (text-of-read table_text t read_table_lem).1 (formed-has-class (reading-leaves-form t.names text [] read-formula))
    (leb-true (length (sets_of t (listing t F))) most_sets few) in
    subst (λ (x : Beside). SmallestOf table_text text x.smallest) beside
    (record {
      table = t;
      formula = F;
      read_table_lem = read_table_lem;
      read-formula = read-formula;
      is_smallest = answered.0;
      few_states = answered.1;
      few_edges = answered.2;
      small-labels = answered.3;
    })
