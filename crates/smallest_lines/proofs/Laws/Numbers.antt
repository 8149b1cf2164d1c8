-- Which numbers asking for the automaton refuses with: 11, 12 and 20; of two texts 1 to 20.
use mathlib.Core.List.{List}
use Prim.Native.Nat.{ℕ, suc}
use native.Mathlib.Omega.{arith}
use lib.Dec.{leb}
use lib.ListN.{length}
use Rattle.lts.specs.Reply.{Reply, accepted, refusal}
use Rattle.lts.specs.Steps.{Table}
use Rattle.lts.proofs.Laws.Refusals.{Numbered, Between, numbered_so, numbered-unless}
use Rattle.actl.specs.Formulas.{Formula}
use Rattle.automaton.specs.Build.{fitted}
use Rattle.automaton.specs.inner.Search.{listing}
use Rattle.automaton.proofs.Refusals.{fitted-numbers}
use Rattle.explanations.specs.Explanation.{and_then}
use Rattle.explanations.proofs.Beginnings.{NotLength, then-numbers}
use Rattle.deterministic.specs.Sizes.{most_sets}
use Rattle.deterministic.specs.SmallestAsked.{beside_of, beside_in}
use Rattle.deterministic.specs.inner.Smallest.{sets_of, smallest_of}
use Rattle.smallest_lines.specs.SmallestText.{lent_smallest}
use Rattle.smallest_lines.specs.inner.Asking.{lent_rows, lent_edges}

and-numbers : {A B : Type 0} (P : ℕ → Type 0) (r : Reply A) (next : A → Reply B) → Numbered P r → ((a : A) → Numbered P (next a)) → Numbered P (and_then r next)
and-numbers P (accepted a) next h k = k a
and-numbers P (refusal n g) next h k = h

beside-numbers : (P : ℕ → Type 0) → ((n : ℕ) → Between 11 12 n → P n) → P 20 → (rows edges : List ℕ) (t : Table) (F : Formula) → Numbered P (beside_in rows edges t F)
beside-numbers P h k rows edges t F =
    and-numbers P (fitted (listing t F) rows edges) (beside_of t) (numbered_so (Between 11 12) P h (fitted (listing t F) rows edges) (fitted-numbers (listing t F) rows edges)) (λ L.
    numbered-unless P (leb (length (sets_of t L)) most_sets) 20 (suc most_sets) (accepted (record { list = L; smallest = smallest_of t L })) k tt)

pub not-length : (t : Table) (F : Formula) → Numbered NotLength (beside_in lent_rows lent_edges t F)
not-length t F = beside-numbers NotLength (λ n h e. omega (arith, h.0)) (λ e. omega arith) lent_rows lent_edges t F

pub lent_numbers : (table_text text : List ℕ) → Numbered (Between 1 20) (lent_smallest table_text text)
unfolding lent_smallest
lent_numbers table_text text = then-numbers 20 (omega arith) (beside_in lent_rows lent_edges) (λ t F.
    beside-numbers (Between 1 20) (λ n h. (omega (arith, h.0), omega (arith, h.1))) (omega arith, omega arith) lent_rows lent_edges t F) table_text text
