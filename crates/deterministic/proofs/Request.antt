-- Request 8, sentence by sentence, of `smallest`.
use mathlib.Core.Path.{◌≡◌}
use mathlib.Core.Logic.{◌⊎◌, inl, inr, ◌↔◌}
use mathlib.Core.List.{List}
use Prim.Native.Nat.{ℕ, ◌*◌, ◌≤◌}
use native.Mathlib.Omega.{arith}
use lib.ListN.{length}
use Rattle.deterministic.specs.Automata.{Automaton, count, Accepts, WellFormed, Deterministic, bare}
use Rattle.deterministic.specs.Smallest.{SameWords, CanFinish, IsSmallest}
use Rattle.deterministic.specs.Sets.{FewSets}
use Rattle.deterministic.specs.inner.Subsets.{subsets, final_set, table_of, sets, smallest, IsBuild}
use Rattle.deterministic.proofs.Runs.{sorted_deterministic}
use Rattle.deterministic.proofs.Unique.{unique, equal_words}
use Rattle.deterministic.proofs.Fewest.{fewest}
use Rattle.deterministic.proofs.Smallest.{numbered-count}
use Rattle.deterministic.proofs.Subsets.{In, Sized, subsets-sets, subsets_explored}
use Rattle.deterministic.proofs.Limit.{few_exactly, explored_smallest}

module _ (alphabet : List ℕ) (limit : ℕ) (A : Automaton) (b : IsBuild alphabet A) where
  -- "may number at most 256 (else refusal)"
  pub refused_exactly : (length (sets A alphabet limit) ≤ limit) ↔ FewSets A limit
  refused_exactly = few_exactly A (subsets A alphabet) (final_set A) In (Sized A) (subsets-sets alphabet A b) limit
      (length (sets A alphabet limit)) (table_of A alphabet (sets A alphabet limit)) (subsets_explored alphabet A b limit)

  module _ (few : FewSets A limit) where
    abbrev d : Automaton
    d = smallest A alphabet limit

    pub smallest-is : IsSmallest (Accepts A) d
    unfolding smallest
    smallest-is = explored_smallest A (subsets A alphabet) (final_set A) In (Sized A) (subsets-sets alphabet A b) limit
        (length (sets A alphabet limit)) (table_of A alphabet (sets A alphabet limit)) (subsets_explored alphabet A b limit) b (refused_exactly.1 few)

    counted : (count d ≤ length (sets A alphabet limit)) × (length d.edges ≤ count d * length alphabet)
    unfolding smallest
    counted =
        let s = (subsets_explored alphabet A b limit).few (refused_exactly.1 few) in
        let (x, y) = numbered-count A (subsets A alphabet) (final_set A) In (Sized A) (subsets-sets alphabet A b) b s.0 s.2 (table_of A alphabet (sets A alphabet limit)) s.3 in
        (omega (arith, s.1), y)

    -- "a deterministic automaton with the same words"
    pub is_deterministic : Deterministic d
    is_deterministic = sorted_deterministic d smallest-is.sorted

    pub has-same-words : SameWords (Accepts A) (Accepts d)
    has-same-words = smallest-is.exact

    -- "and the fewest states"
    pub has-fewest : (e : Automaton) → WellFormed e → Deterministic e → SameWords (Accepts A) (Accepts e) → count d ≤ count e
    has-fewest e f k s = fewest smallest-is f k s

    pub is-small : count d ≤ limit
    is-small = omega (arith, counted.0, refused_exactly.1 few)

    pub has-few-edges : length d.edges ≤ count d * length alphabet
    has-few-edges = counted.1

    -- "an empty language gives one state"
    pub empty_is-bare : ((w : List ℕ) → Accepts A w → ⊥) → d ≡ bare
    empty_is-bare n = case smallest-is.no_trap
      where
        case : CanFinish d ⊎ (d ≡ bare) → d ≡ bare
        case (inl g) = let (w, r) = g 0 smallest-is.well_formed.some_state in absurd (n w ((smallest-is.exact w).1 r))
        case (inr z) = z

-- "Two questions over the same label numbers have equal listings exactly when they have equal words."
pub equal_exactly : (alphabet : List ℕ) (limit : ℕ) (A B : Automaton) → IsBuild alphabet A → IsBuild alphabet B → FewSets A limit → FewSets B limit
    → (smallest A alphabet limit ≡ smallest B alphabet limit) ↔ SameWords (Accepts A) (Accepts B)
equal_exactly alphabet limit A B a b f g =
    let h = smallest-is alphabet limit A a f in
    let k = smallest-is alphabet limit B b g in
    (equal_words h k, unique h k)
