-- What loops over arrays need: the search label by label, numbers that stay, the first place of a member, and refinement that stops early.
use mathlib.Core.Path.{◌≡◌, refl, sym, ap, ◌∙◌, subst}
use mathlib.Core.Bool.{Bool, true, false, cond}
use mathlib.Core.List.{List, [], ◌∷◌, ◌++◌, map, append-nil, append_assoc}
use Prim.Native.Nat.{ℕ, zero, suc, ◌+◌, ◌-◌, ◌<◌, ◌≤◌}
use native.Mathlib.Nat.{zero-add, suc-add}
use native.Mathlib.Decide.{dec_lt}
use native.Mathlib.Omega.{arith}
use lib.Dec.{ltb}
use lib.ListN.{length, get_or}
use Rattle.lts.specs.inner.Lists.{cons_if, keep}
use Rattle.deterministic.specs.inner.Search.{System, number_of, seen, Move, moves_from, place_at, visit, visits, expand, search}
use Rattle.deterministic.specs.inner.Blocks.{Table, refine, refined, blocks}
use Rattle.deterministic.proofs.Numbers.{Tests, number_append, number-first, number-found}
use Rattle.deterministic.proofs.Visits.{visits-more}
use Rattle.deterministic.proofs.Refining.{Stable}

module _ {A : Type 0} (S : System A) where
  -- One label: a place that lives and is no row becomes the last.
  abbrev pub turn : List A → A → List A
  turn rows q = cond (S.live q) (cond (seen S.same rows q) rows (rows ++ (q ∷ []))) rows

  abbrev pub turns : A → List A → List ℕ → List A
  turns p rows [] = rows
  turns p rows (l ∷ ls) = turns p (turn rows (S.step p l)) ls

  pub expand_turns : (rows : List A) (i : ℕ) → expand S rows i ≡ turns (place_at S rows i) rows S.labels
  unfolding expand moves_from visits visit
  expand_turns rows i = go S.labels rows
    where
      p : A
      p = place_at S rows i

      moves : List ℕ → List (Move A)
      moves ls = map (λ l. record { row = i; label = l; goal = S.step p l }) (keep (λ l. S.live (S.step p l)) ls)

      go : (ls : List ℕ) (done : List A) → visits S done (moves ls) ≡ turns p done ls
      go [] done = refl
      go (l ∷ ls) done = case (S.live (S.step p l)) (λ r. go ls r)
        where
          q : A
          q = S.step p l

          case : (b : Bool) → ((r : List A) → visits S r (moves ls) ≡ turns p r ls)
              → visits S done (map (λ l. record { row = i; label = l; goal = S.step p l }) (cons_if b l (keep (λ l. S.live (S.step p l)) ls)))
              ≡ turns p (cond b (cond (seen S.same done q) done (done ++ (q ∷ []))) done) ls
          case true h = h (cond (seen S.same done q) done (done ++ (q ∷ [])))
          case false h = h done

  module _ (t : Tests S.same) where
    pub search-more : (n i : ℕ) (rows : List A) → (extra : List A) × (search S n i rows ≡ rows ++ extra)
    unfolding search expand
    search-more zero i rows = ([], sym (append-nil rows))
    search-more (suc n) i rows = case (ltb i (length rows)) (search-more n (suc i) (expand S rows i))
      where
        case : (b : Bool) → (extra : List A) × (search S n (suc i) (expand S rows i) ≡ expand S rows i ++ extra)
            → (extra : List A) × (cond b (search S n (suc i) (expand S rows i)) rows ≡ rows ++ extra)
        case true (x, e) =
            let (y, d) = visits-more S t rows (moves_from S i (place_at S rows i)) in
            (y ++ x, e ∙ (ap (λ l. l ++ x) d ∙ append_assoc rows y x))
        case false h = ([], sym (append-nil rows))

    -- A row's number stays through the rest of the search.
    pub number-stays : (n i : ℕ) (rows : List A) (q : A) → number_of S.same rows q < length rows → number_of S.same (search S n i rows) q ≡ number_of S.same rows q
    number-stays n i rows q h = let (x, e) = search-more n i rows in ap (λ l. number_of S.same l q) e ∙ number_append t rows x q h

-- The place before which none is like it.
pub number_is : {A : Type 0} {same : A → A → Bool} (t : Tests same) (l : List A) (j : ℕ) (p d : A) → j < length l → get_or l j d ≡ p
    → ((i : ℕ) → i < j → get_or l i d ≡ p → ⊥) → number_of same l p ≡ j
number_is {A} {same} t l j p d b e h =
    let x : number_of same l p ≤ j = subst (λ (q : A). number_of same l q ≤ j) e (number-first t l j d b) in
    case x (dec_lt (number_of same l p) j)
  where
    case : number_of same l p ≤ j → Dec (number_of same l p < j) → number_of same l p ≡ j
    case x (yes y) = absurd (h (number_of same l p) y (number-found t l p d (omega arith)))
    case x (no y) = omega (arith, y)

-- Once a round changes nothing, no later one does.
module _ (t : Table) (r : ℕ) (s : Stable t (refined t r)) where
  later : (k : ℕ) → refined t (k + r) ≡ refined t r
  unfolding refined
  later zero = ap (refined t) (zero-add r)
  later (suc k) = ap (refined t) (suc-add k r) ∙ (ap (refine t) (later k) ∙ s)

  pub stops_early : r ≤ t.size → blocks t ≡ refined t r
  unfolding blocks
  stops_early b = let e : t.size ≡ t.size - r + r = omega arith in ap (refined t) e ∙ later (t.size - r)
