-- Sets of states as flags: they are the places of the system `subsets`, and its search finds all of them, or more than the limit.
use mathlib.Core.Path.{◌≡◌, refl, sym, ap, ◌∙◌, subst}
use mathlib.Core.Bool.{Bool, true, false, false≢true, cond, not, ◌&&◌}
use mathlib.Core.List.{List}
use Prim.Native.Nat.{ℕ, ◌<◌, ◌≤◌}
use native.Mathlib.Nat.{zero-add}
use native.Mathlib.Decide.{dec_lt}
use native.Mathlib.Omega.{arith}
use lib.Dec.{eqb}
use lib.ListN.{length, get_or, length-map, get_or-eq_default}
use lib.Seq.{ext_get_or}
use borrow.Author.Tests.{eqb-true, eq-eqb}
use Rattle.lts.specs.inner.Lists.{up_from}
use Rattle.lts.specs.Lists.{any_of as some}
use Rattle.deterministic.specs.Automata.{edge, Automaton, count, IsFinal, IsEdge, WellFormed}
use Rattle.deterministic.specs.inner.Lists.{Distinct}
use Rattle.deterministic.specs.inner.Search.{System, number_of, place_at, found, moves_upto}
use Rattle.deterministic.specs.inner.Explored.{Places, Tabulates, Explored}
use Rattle.deterministic.specs.inner.Subsets.{same_flags, set_of, start_set, joins, step_set, final_set, nonempty, subsets, table_of, sets, IsBuild}
use Rattle.lts.proofs.Booleans.{and-true-of, and-true-to}
use Rattle.lts.proofs.Lists.{up_from-to, up_from-length, up_from-at, get_d_mem, mem_index, some_of, some_to}
use Rattle.deterministic.proofs.ListLaws.{same_flag, get_d_map}
use Rattle.deterministic.proofs.Numbers.{Tests, lists_tests, number_mem_of}
use Rattle.deterministic.proofs.Visits.{all_first, all-distinct}
use Rattle.deterministic.proofs.Search.{Expanded, Complete, passes_on, found_expanded, found_complete}
use Rattle.deterministic.proofs.Found.{goal-row}
use Rattle.deterministic.proofs.SetSystem.{IsSets}

pub flags_tests : Tests same_flags
flags_tests = lists_tests (record { of = equal; to = λ x y e. subst (λ (z : Bool). cond x z (not z) ≡ true) e (itself x) })
  where
    equal : (a b : Bool) → cond a b (not b) ≡ true → a ≡ b
    equal true b e = sym e
    equal false true e = absurd (false≢true e)
    equal false false e = refl

    itself : (a : Bool) → cond a a (not a) ≡ true
    itself true = refl
    itself false = refl

abbrev pub In : List Bool → ℕ → Type 0
In s q = get_or s q false ≡ true

pub in_length : (s : List Bool) (q : ℕ) → In s q → q < length s
in_length s q h = case (dec_lt q (length s))
  where
    case : Dec (q < length s) → q < length s
    case (yes x) = x
    case (no x) = absurd (false≢true (sym (get_or-eq_default s false (omega (arith, x))) ∙ h))

pub nonempty-of : (s : List Bool) → nonempty s ≡ true → (q : ℕ) × In s q
unfolding nonempty
nonempty-of s e =
    let (b, m, z) = some_of (λ b. b) s e in
    let (q, x, y) = mem_index false m in
    (q, y ∙ z)

pub nonempty-to : (s : List Bool) (q : ℕ) → In s q → nonempty s ≡ true
unfolding nonempty
nonempty-to s q h = some_to (λ b. b) s (get_d_mem s q false (in_length s q h)) h

module _ (A : Automaton) where
  pub set_at : (f : ℕ → Bool) (q : ℕ) → q < count A → get_or (set_of A f) q false ≡ f q
  unfolding set_of
  set_at f q h = get_d_map f (up_from 0 (count A)) q false 0 (omega (arith, up_from-length 0 (count A))) ∙ ap f (up_from-at 0 (count A) q 0 h ∙ zero-add q)

  pub set-length : (f : ℕ → Bool) → length (set_of A f) ≡ count A
  unfolding set_of
  set-length f = length-map (up_from 0 (count A)) f ∙ up_from-length 0 (count A)

  pub set-of : (f : ℕ → Bool) (q : ℕ) → In (set_of A f) q → (q < count A) × (f q ≡ true)
  set-of f q h =
      let b : q < count A = omega (arith, in_length (set_of A f) q h, set-length f) in
      (b, sym (set_at f q b) ∙ h)

  pub set_to : (f : ℕ → Bool) (q : ℕ) → q < count A → f q ≡ true → In (set_of A f) q
  set_to f q b e = set_at f q b ∙ e

  pub step-at : (s : List Bool) (l q : ℕ) → q < count A → get_or (step_set A s l) q false ≡ some (joins A s l q) A.edges
  unfolding step_set
  step-at s l q h = set_at (λ q. some (joins A s l q) A.edges) q h

  pub step-of : (s : List Bool) (l q : ℕ) → In (step_set A s l) q → (p : ℕ) × In s p × IsEdge A (edge p l q)
  unfolding step_set
  step-of s l q h =
      let (b, x) = set-of (λ q. some (joins A s l q) A.edges) q h in
      let (e, m, y) = some_of (joins A s l q) A.edges x in
      let (u, v) = and-true-of (eqb e.label l && eqb e.target q) (get_or s e.row false) y in
      let (i, j) = and-true-of (eqb e.label l) (eqb e.target q) u in
      let i' = eqb-true e.label l i in
      let j' = eqb-true e.target q j in
      let z : e ≡ edge e.row l q = λ k. record { row = e.row; label = i' k; target = j' k } in
      (e.row, v, subst (IsEdge A) z m)

  module _ (f : WellFormed A) where
    pub step-to : (s : List Bool) (l p q : ℕ) → In s p → IsEdge A (edge p l q) → In (step_set A s l) q
    unfolding step_set
    step-to s l p q h m = set_to (λ q. some (joins A s l q) A.edges) q (f.in_range (edge p l q) m).1
        (some_to (joins A s l q) A.edges m (and-true-to (eqb l l && eqb q q) (get_or s p false) (and-true-to (eqb l l) (eqb q q) (eq-eqb l l refl) (eq-eqb q q refl)) h))

    pub start_of : (q : ℕ) → In (start_set A) q → q ≡ 0
    unfolding start_set
    start_of q h = eqb-true q 0 (set-of (λ q. eqb q 0) q h).1

    pub start-to : In (start_set A) 0
    unfolding start_set
    start-to = set_to (λ q. eqb q 0) 0 f.some_state refl

    final-of : (s : List Bool) → final_set A s ≡ true → (q : ℕ) × In s q × IsFinal A q
    unfolding final_set
    final-of s e =
        let (q, m, x) = some_of (λ q. get_or s q false && get_or A.final q false) (up_from 0 (count A)) e in
        let (y, z) = and-true-of (get_or s q false) (get_or A.final q false) x in
        (q, y, z)

    final-to : (s : List Bool) (q : ℕ) → In s q → IsFinal A q → final_set A s ≡ true
    unfolding final_set
    final-to s q h r = some_to (λ q. get_or s q false && get_or A.final q false) (up_from 0 (count A)) (up_from-to 0 (count A) q (omega arith) (omega (arith, in_length A.final q r)))
        (and-true-to (get_or s q false) (get_or A.final q false) h r)

  -- A flag for each state.
  abbrev pub Sized : List Bool → Type 0
  Sized s = length s ≡ count A

  same_set : (s u : List Bool) → Sized s → Sized u → ((q : ℕ) → In s q → In u q) → ((q : ℕ) → In u q → In s q) → s ≡ u
  same_set s u a b f g = ext_get_or false s u (a ∙ sym b) (λ q i. same_flag (get_or s q false) (get_or u q false) (f q, g q))

module _ (alphabet : List ℕ) (A : Automaton) (b : IsBuild alphabet A) where
  abbrev S : System (List Bool)
  S = subsets A alphabet

  pub subsets-sets : IsSets A S (final_set A) In (Sized A)
  unfolding start_set step_set
  subsets-sets = record {
    labelled = b.labelled;
    tests = flags_tests;
    good_start = set-length A (λ q. eqb q 0);
    good_step = λ p l g. set-length A (λ q. some (joins A p l q) A.edges);
    in_range = λ p q g i. omega (arith, in_length p q i);
    start_of = start_of A b.well_formed;
    start-to = start-to A b.well_formed;
    step-of = λ p l q g i. step-of A p l q i;
    step-to = λ p l r q g i e. step-to A b.well_formed p l r q i e;
    live_of = λ p g e. nonempty-of p e;
    live_to = λ p q g i. nonempty-to p q i;
    final-of = λ p g e. final-of A b.well_formed p e;
    final-to = λ p q g i e. final-to A b.well_formed p q i e;
    same_set = same_set A;
  }

  places : (rows : List (List Bool)) (i : ℕ) → Expanded S i rows → Places S rows
  places rows i x = record {
    first = subst (λ (l : List (List Bool)). (0 < length l) × (place_at S l 0 ≡ S.start)) (sym x.built) (all_first S flags_tests S.start (moves_upto S rows i));
    reached = x.reached;
    distinct = subst (λ (l : List (List Bool)). Distinct l) (sym x.built) (all-distinct S flags_tests S.start (moves_upto S rows i));
  }

  tabulates : (rows : List (List Bool)) → Complete S rows → Tabulates S (final_set A) rows (table_of A alphabet rows)
  tabulates rows c = record {
    size_is = refl;
    labels_are = refl;
    marked = λ k h. refl;
    leading = λ k l h m. record {
      lives = goal-row S flags_tests rows c k l h m;
      ends = λ e. dead k l h e (dec_lt (number_of same_flags rows (step_set A (place_at S rows k) l)) (length rows));
    };
  }
    where
      -- Rows live, so what does not live is none.
      dead : (k l : ℕ) → k < length rows → nonempty (step_set A (place_at S rows k) l) ≡ false → Dec (number_of same_flags rows (step_set A (place_at S rows k) l) < length rows)
          → length rows ≤ number_of same_flags rows (step_set A (place_at S rows k) l)
      dead k l h e (no x) = omega (arith, x)
      dead k l h e (yes x) =
          let q = step_set A (place_at S rows k) l in
          let (w, r) = c.reached q (number_mem_of flags_tests rows q S.start x) in
          let y = passes_on S (λ p. nonempty p ≡ true) (λ p l g m z. z) S.start q w (nonempty-to S.start 0 (start-to A b.well_formed)) r in
          absurd (false≢true (sym e ∙ y))

  pub subsets_explored : (limit : ℕ) → Explored S (final_set A) limit (length (sets A alphabet limit)) (table_of A alphabet (sets A alphabet limit))
  unfolding sets
  subsets_explored limit = record {
    few = λ h. let c = found_complete S flags_tests limit h in (found S limit, refl, places (found S limit) (length (found S limit)) c, tabulates (found S limit) c);
    many = λ h. let (j, x) = found_expanded S flags_tests limit in (found S limit, h, places (found S limit) j x);
  }
