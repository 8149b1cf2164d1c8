-- Unending runs: there is one from every state, a step may stand before one, and its first step may be left out.
use mathlib.Core.Path.{◌≡◌, refl}
use mathlib.Core.List.{List, [], ◌∷◌}
use Prim.Native.Nat.{ℕ, zero, suc, ◌<◌}
use native.Mathlib.Omega.{arith}
use lib.ListN.{length, get_or}
use Rattle.lts.specs.Steps.{Step, Table, IsStep}
use Rattle.lts.proofs.StepsFrom.{From, total}
use Rattle.satisfaction.specs.Runs.{Run}

module _ (t : Table) where
  on : ℕ → ℕ → Step
  on s zero = (total t s).0
  on s (suc i) = on (total t s).0.to i

  on-taken : (s i : ℕ) → IsStep t (on s i)
  unfolding on
  on-taken s zero = (total t s).2
  on-taken s (suc i) = on-taken (total t s).0.to i

  on-starts : (s : ℕ) → (on s 0).from ≡ s
  unfolding on
  on-starts s = (total t s).1

  on-follows : (s i : ℕ) → (on s (suc i)).from ≡ (on s i).to
  unfolding on
  on-follows s zero = on-starts (total t s).0.to
  on-follows s (suc i) = on-follows (total t s).0.to i

  -- Some run leaves every state.
  pub any-run : (s : ℕ) → Run t s
  any-run s = record { step = on s; starts = on-starts s; taken = on-taken s; follows = on-follows s }

  abbrev pub first : Step → (ℕ → Step) → ℕ → Step
  first st p zero = st
  first st p (suc i) = p i

  -- A step, and then a run from where it leads.
  abbrev pub onto : {s : ℕ} (x : From t s) → Run t x.0.to → Run t s
  onto x p = record {
    step = first x.0 p.step;
    starts = x.1;
    taken = λ i. elim i as (λ k. IsStep t (first x.0 p.step k)) [ zero ↦ x.2 | suc j ↦ p.taken j ];
    follows = λ i. elim i as (λ k. (first x.0 p.step (suc k)).from ≡ (first x.0 p.step k).to) [ zero ↦ p.starts | suc j ↦ p.follows j ];
  }

  -- The first step of a run, and the run after it.
  abbrev pub first_of : {s : ℕ} → Run t s → From t s
  first_of p = (p.step 0, p.starts, p.taken 0)

  abbrev pub past : {s : ℕ} (p : Run t s) → Run t (p.step 0).to
  past p = record { step = λ i. p.step (suc i); starts = p.follows 0; taken = λ i. p.taken (suc i); follows = λ i. p.follows (suc i) }

  -- Steps that form a path from s.
  abbrev pub Path : ℕ → List Step → Type 0
  Path s [] = Unit {0}
  Path s (st ∷ p) = (st.from ≡ s) × IsStep t st × Path st.to p

  -- A finite path is the beginning of an unending run.
  pub path_extends : (d : Step) (s : ℕ) (p : List Step) → Path s p → (r : Run t s) × ((i : ℕ) → i < length p → r.step i ≡ get_or p i d)
  path_extends d s [] h = (any-run s, λ i l. absurd (omega arith))
  path_extends d s (st ∷ p) h =
      let (r, e) = path_extends d st.to p h.2 in
      (onto (st, h.0, h.1) r, λ i. elim i as (λ k. k < suc (length p) → (onto (st, h.0, h.1) r).step k ≡ get_or (st ∷ p) k d) [ zero ↦ λ l. refl | suc j ↦ λ l. e j (omega arith) ])
