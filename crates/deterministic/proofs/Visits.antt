-- Visiting the goals of moves: a goal that is not yet a row becomes the last row. So a row is the goal of a move before any row with a
-- greater number is.
use mathlib.Core.Path.{◌≡◌, refl, sym, ap, ◌∙◌, subst}
use mathlib.Core.Logic.{◌⊎◌, inl, inr}
use mathlib.Core.Bool.{Bool, true, false, cond}
use mathlib.Core.List.Memᴰ
use mathlib.Core.List.{List, [], ◌∷◌, ◌++◌, append-nil, append_assoc, Memᴰ}
use Prim.Native.Nat.{ℕ, ◌<◌, ◌≤◌}
use native.Mathlib.Omega.{arith}
use lib.ListN.{length, length-append, get_or-append}
use Rattle.deterministic.specs.inner.Lists.{Distinct}
use Rattle.deterministic.specs.inner.Search.{System, number_of, seen, Move, place_at, visit, visits}
use Rattle.lts.proofs.Lists.{rising_append, get_d_mem}
use Rattle.deterministic.proofs.Numbers.{Tests, number_append, number_new, number_mem, seen_of, unseen, numbered}

module _ {A : Type 0} (S : System A) (t : Tests S.same) where
  abbrev number : List A → A → ℕ
  number = number_of S.same

  abbrev known : List A → A → Bool
  known = seen S.same

  -- One visit.
  module _ (rows : List A) (m : Move A) where
    abbrev visited : Bool → List A
    visited b = cond b rows (rows ++ (m.goal ∷ []))

    visit-more : (extra : List A) × (visit S rows m ≡ rows ++ extra)
    unfolding visit
    visit-more = case (known rows m.goal)
      where
        case : (b : Bool) → (extra : List A) × (visited b ≡ rows ++ extra)
        case true = ([], sym (append-nil rows))
        case false = (m.goal ∷ [], refl)

    visit-distinct : Distinct rows → Distinct (visit S rows m)
    unfolding visit
    visit-distinct r = case (known rows m.goal) refl
      where
        case : (b : Bool) → known rows m.goal ≡ b → Distinct (visited b)
        case true e = r
        case false e = rising_append (λ (x y : A). x ≡ y → ⊥) rows (m.goal ∷ []) r (λ y n. absurd (Memᴰ.not-nil n), tt)
            (λ x y a b z. (unseen t rows m.goal e).1 (Memᴰ.cast (sym (z ∙ Memᴰ.eq_of_singleton b)) a))

    visit-of : {p : A} → Memᴰ p (visit S rows m) → Memᴰ p rows ⊎ (p ≡ m.goal)
    unfolding visit
    visit-of {p} n = case (known rows m.goal) n
      where
        one : Memᴰ p rows ⊎ Memᴰ p (m.goal ∷ []) → Memᴰ p rows ⊎ (p ≡ m.goal)
        one (inl a) = inl a
        one (inr a) = inr (Memᴰ.eq_of_singleton a)

        case : (b : Bool) → Memᴰ p (visited b) → Memᴰ p rows ⊎ (p ≡ m.goal)
        case true n = inl n
        case false n = one (Memᴰ.append_cases rows n)

    visit-to : Memᴰ m.goal (visit S rows m)
    unfolding visit
    visit-to = case (known rows m.goal) refl
      where
        case : (b : Bool) → known rows m.goal ≡ b → Memᴰ m.goal (visited b)
        case true e = seen_of t rows m.goal e
        case false e = Memᴰ.append_right rows (Memᴰ.head refl)

    -- Its goal's number is at most the count of rows before.
    visit-number : number (visit S rows m) m.goal ≤ length rows
    unfolding visit
    visit-number = case (known rows m.goal) refl
      where
        case : (b : Bool) → known rows m.goal ≡ b → number (visited b) m.goal ≤ length rows
        case true e = omega (arith, number_mem t (seen_of t rows m.goal e))
        case false e = omega (arith, number_new t rows m.goal (unseen t rows m.goal e).0)

  -- Many visits.
  pub visits-more : (rows : List A) (ms : List (Move A)) → (extra : List A) × (visits S rows ms ≡ rows ++ extra)
  unfolding visits
  visits-more rows [] = ([], sym (append-nil rows))
  visits-more rows (m ∷ ms) =
      let (a, e) = visit-more rows m in
      let (b, d) = visits-more (visit S rows m) ms in
      (a ++ b, d ∙ (ap (λ l. l ++ b) e ∙ append_assoc rows a b))

  pub visits-distinct : (rows : List A) (ms : List (Move A)) → Distinct rows → Distinct (visits S rows ms)
  unfolding visits
  visits-distinct rows [] r = r
  visits-distinct rows (m ∷ ms) r = visits-distinct (visit S rows m) ms (visit-distinct rows m r)

  pub visits-of : (rows : List A) (ms : List (Move A)) {p : A} → Memᴰ p (visits S rows ms) → Memᴰ p rows ⊎ ((m : Move A) × Memᴰ m ms × (p ≡ m.goal))
  unfolding visits
  visits-of rows [] n = inl n
  visits-of rows (m ∷ ms) {p} n = late (visits-of (visit S rows m) ms n)
    where
      soon : Memᴰ p rows ⊎ (p ≡ m.goal) → Memᴰ p rows ⊎ ((x : Move A) × Memᴰ x (m ∷ ms) × (p ≡ x.goal))
      soon (inl a) = inl a
      soon (inr e) = inr (m, Memᴰ.head refl, e)

      late : Memᴰ p (visit S rows m) ⊎ ((x : Move A) × Memᴰ x ms × (p ≡ x.goal)) → Memᴰ p rows ⊎ ((x : Move A) × Memᴰ x (m ∷ ms) × (p ≡ x.goal))
      late (inl a) = soon (visit-of rows m a)
      late (inr (x, a, e)) = inr (x, Memᴰ.tail a, e)

  pub visits-keep : (rows : List A) (ms : List (Move A)) {p : A} → Memᴰ p rows → Memᴰ p (visits S rows ms)
  visits-keep rows ms {p} n = let (a, e) = visits-more rows ms in subst (Memᴰ p) (sym e) (Memᴰ.append_left a n)

  pub visits-to : (rows : List A) (ms : List (Move A)) {m : Move A} → Memᴰ m ms → Memᴰ m.goal (visits S rows ms)
  unfolding visits
  visits-to rows [] n = absurd (Memᴰ.not-nil n)
  visits-to rows (x ∷ ms) {m} n = case (λ a. visits-to (visit S rows x) ms a) (Memᴰ.cases_cons n)
    where
      case : (Memᴰ m ms → Memᴰ m.goal (visits S (visit S rows x) ms)) → (m ≡ x) ⊎ Memᴰ m ms → Memᴰ m.goal (visits S (visit S rows x) ms)
      case h (inl e) = visits-keep (visit S rows x) ms (Memᴰ.cast (ap (λ (y : Move A). y.goal) e) (visit-to rows x))
      case h (inr a) = h a

  pub visits_append : (rows : List A) (a b : List (Move A)) → visits S rows (a ++ b) ≡ visits S (visits S rows a) b
  unfolding visits
  visits_append rows [] b = refl
  visits_append rows (m ∷ a) b = visits_append (visit S rows m) a b

  -- From one row on, a row is the goal of a move before it is the goal of a move with a greater number.
  module _ (r : A) (ms : List (Move A)) where
    abbrev all : List A
    all = visits S (r ∷ []) ms

    pub all-distinct : Distinct all
    all-distinct = visits-distinct (r ∷ []) ms (λ y n. absurd (Memᴰ.not-nil n), tt)

    pub all_first : (0 < length all) × (place_at S all 0 ≡ r)
    all_first = let (a, e) = visits-more (r ∷ []) ms in (subst (λ (l : List A). 0 < length l) (sym e) (omega arith), ap (λ l. place_at S l 0) e)

    pub all-numbered : (i : ℕ) → i < length all → number all (place_at S all i) ≡ i
    all-numbered i h = numbered t all all-distinct i S.start h

    goal-or : (i : ℕ) → 1 ≤ i → i < length all → (l : List (Move A)) → Memᴰ (place_at S all i) (r ∷ []) ⊎ ((m : Move A) × Memᴰ m l × (place_at S all i ≡ m.goal))
        → (m : Move A) × Memᴰ m l × (number all m.goal ≡ i)
    goal-or i h b l (inl n) =
        let e : place_at S all i ≡ place_at S all 0 = Memᴰ.eq_of_singleton n ∙ sym all_first.1 in
        let z : i ≡ 0 = sym (all-numbered i b) ∙ (ap (number all) e ∙ all-numbered 0 (omega (arith, all_first.0))) in
        absurd (omega arith)
    goal-or i h b l (inr (m, n, e)) = (m, n, ap (number all) (sym e) ∙ all-numbered i b)

    pub all_in_turn : (pre : List (Move A)) (x : Move A) (post : List (Move A)) → ms ≡ pre ++ (x ∷ post) → (i : ℕ) → 1 ≤ i → i < number all x.goal
        → (m : Move A) × Memᴰ m pre × (number all m.goal ≡ i)
    unfolding visits
    all_in_turn pre x post e i h b =
        let B = visits S (r ∷ []) pre in
        let (u, a) = visits-more B (x ∷ post) in
        let (v, c) = visits-more (visit S B x) post in
        let g : all ≡ visits S B (x ∷ post) = ap (visits S (r ∷ [])) e ∙ visits_append (r ∷ []) pre (x ∷ post) in
        let n : number all x.goal ≡ number (visit S B x) x.goal = ap (λ l. number l x.goal) (g ∙ c) ∙ number_append t (visit S B x) v x.goal (number_mem t (visit-to B x)) in
        let k : i < length B = omega (arith, visit-number B x) in
        let z : place_at S all i ≡ place_at S B i = ap (λ l. place_at S l i) (g ∙ a) ∙ get_or-append B u S.start i k in
        let y : i < length all = omega (arith, ap length (g ∙ a), length-append B u) in
        goal-or i h y pre (visits-of (r ∷ []) pre (Memᴰ.cast z (get_d_mem B i S.start k)))
