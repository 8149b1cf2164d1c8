-- Partition refinement (Moore) of the states 0 to n - 1 of a deterministic table. A step that leads to no state leads to n or beyond. A
-- partition is a list of numbers: each state's block, named by the block's lowest state.
use Rattle.std.specs.Prelude.{Bool, cond, List, ◌∷◌, map, ℕ, zero, suc, eqb, ltb, get_or}
use Rattle.lts.specs.inner.Lists.{up_from}
use Rattle.deterministic.specs.Automata.{Automaton}
use Rattle.deterministic.specs.inner.Lists.{same_lists}
use Rattle.deterministic.specs.inner.Search.{System, number_of, found, automaton_of}

pub record Table : Type 0 where
  pub size : ℕ
  pub labels : List ℕ
  pub next : ℕ → ℕ → ℕ
  pub final : ℕ → Bool

abbrev pub same_numbers : List ℕ → List ℕ → Bool
same_numbers = same_lists eqb

module _ (t : Table) where
  -- The block of a state; of what is no state, the size.
  abbrev pub block_of : List ℕ → ℕ → ℕ
  block_of c k = get_or c k t.size

  -- The final mark, the block, and the block of each successor.
  unfoldable pub signature : List ℕ → ℕ → List ℕ
  signature c k = cond (t.final k) 1 0 ∷ block_of c k ∷ map (λ l. block_of c (t.next k l)) t.labels

  -- Blocks of equal signatures.
  unfoldable pub refine : List ℕ → List ℕ
  refine c =
      let signatures = map (signature c) (up_from 0 t.size) in
      map (number_of same_numbers signatures) signatures

  -- From one block, r rounds.
  unfoldable pub refined : ℕ → List ℕ
  refined zero = map (λ k. 0) (up_from 0 t.size)
  refined (suc r) = refine (refined r)

  unfoldable pub blocks : List ℕ
  blocks = refined t.size

  -- The blocks as a system.
  abbrev pub merged : List ℕ → System ℕ
  merged c = record { same = eqb; labels = t.labels; start = block_of c 0; step = λ k l. block_of c (t.next k l); live = λ k. ltb k t.size }

-- The automaton of a table's blocks.
unfoldable pub numbered : Table → List ℕ → Automaton
numbered t c =
    let m = merged t c in
    automaton_of m t.final (found m t.size)
