-- The search for a wrong entry finds the first one, and none exactly if every entry is right.
use mathlib.Core.Path.{◌≡◌, refl, sym, ap, ◌∙◌, subst}
use mathlib.Core.Logic.{◌⊎◌, inl, inr, ◌↔◌}
use mathlib.Core.Bool.{Bool, true, false, cond, ◌&&◌}
use mathlib.Core.List.{List, [], ◌∷◌}
use mathlib.Core.Option.{Option, none, some}
use Prim.Native.Nat.{ℕ, zero, suc, ◌+◌, ◌≤◌, ◌<◌}
use native.Mathlib.Omega.{arith}
use lib.Dec.{leb, ltb}
use lib.ListN.{length, get_or}
use borrow.Author.Tests.{leb-true, leb-false, ltb-true, ltb-false}
use Rattle.lts.specs.Sizes.{most_states}
use Rattle.starts.specs.Starts.{RightAt, FirstWrong, wrong_from, wrong_start}

module _ (states : ℕ) where
  -- The same of the rest of a list, whose first entry is to be at least `least`.
  record RightFrom (least : ℕ) (l : List ℕ) (i : ℕ) : Type 0 where
    begins : i ≡ 0 → least ≤ get_or l i 0
    right : RightAt states l i

  record FirstFrom (least : ℕ) (l : List ℕ) (i : ℕ) : Type 0 where
    listed : i < length l
    wrong : RightFrom least l i → ⊥
    first : (j : ℕ) → j < i → RightFrom least l j

  abbrev AllFrom : ℕ → List ℕ → Type 0
  AllFrom least l = (i : ℕ) → i < length l → RightFrom least l i

  -- An entry of the rest is right as one of the whole is.
  later : (least s : ℕ) (l : List ℕ) (i : ℕ) → RightFrom (suc s) l i → RightFrom least (s ∷ l) (suc i)
  later least s l i r = record { begins = λ e. absurd (omega arith); right = record { above = above; stands = r.right.stands } }
    where
      above : (j : ℕ) → suc j ≡ suc i → get_or (s ∷ l) j 0 < get_or l i 0
      above zero e = r.begins (omega arith)
      above (suc j) e = r.right.above j (omega arith)

  earlier : (least s : ℕ) (l : List ℕ) (i : ℕ) → RightFrom least (s ∷ l) (suc i) → RightFrom (suc s) l i
  earlier least s l i r = record {
    begins = λ e. r.right.above 0 (omega arith);
    right = record { above = λ j e. r.right.above (suc j) (omega arith); stands = r.right.stands };
  }

  here : (least s : ℕ) (l : List ℕ) → least ≤ s → s < states → RightFrom least (s ∷ l) 0
  here least s l h k = record { begins = λ e. h; right = record { above = λ j e. absurd (omega arith); stands = k } }

  -- What the search found.
  abbrev Searched : ℕ → ℕ → List ℕ → Option ℕ → Type 0
  Searched least i l o = ((o ≡ none) × AllFrom least l) ⊎ ((j : ℕ) × (o ≡ some (i + j)) × FirstFrom least l j)

  searched : (least i : ℕ) (l : List ℕ) → Searched least i l (wrong_from states least i l)
  searched least i [] = inl (refl, λ j h. absurd (omega arith))
  searched least i (s ∷ l) = by (leb least s) refl (ltb s states) refl (searched (suc s) (suc i) l)
    where
      stop : (RightFrom least (s ∷ l) 0 → ⊥) → (j : ℕ) × (some i ≡ some (i + j)) × FirstFrom least (s ∷ l) j
      stop h = (0, ap some (omega arith), record { listed = omega arith; wrong = h; first = λ j b. absurd (omega arith) })

      on : least ≤ s → s < states → {o : Option ℕ} → Searched (suc s) (suc i) l o → Searched least i (s ∷ l) o
      on h k (inl (e, all)) = inl (e, every)
        where
          every : AllFrom least (s ∷ l)
          every zero b = here least s l h k
          every (suc j) b = later least s l j (all j (omega arith))
      on h k (inr (j, e, f)) = inr (suc j, e ∙ ap some (omega arith), record { listed = omega (arith, f.listed); wrong = λ r. f.wrong (earlier least s l j r); first = before })
        where
          before : (m : ℕ) → m < suc j → RightFrom least (s ∷ l) m
          before zero b = here least s l h k
          before (suc m) b = later least s l m (f.first m (omega arith))

      by : (a : Bool) → leb least s ≡ a → (b : Bool) → ltb s states ≡ b → Searched (suc s) (suc i) l (wrong_from states (suc s) (suc i) l)
          → Searched least i (s ∷ l) (cond (a && b) (wrong_from states (suc s) (suc i) l) (some i))
      by true d true e r = on (leb-true least s d) (ltb-true s states e) r
      by true d false e r = inr (stop (λ q. omega (arith, q.right.stands, ltb-false s states e)))
      by false d b e r = inr (stop (λ q. omega (arith, q.begins refl, leb-false least s d)))

  module _ (starts : List ℕ) where
    whole : {i : ℕ} → RightAt states starts i → RightFrom 0 starts i
    whole r = record { begins = λ e. omega arith; right = r }

    from_start : Searched 0 0 starts (wrong_start states starts)
    unfolding wrong_start
    from_start = searched 0 0 starts

    first_of : {j : ℕ} → FirstFrom 0 starts j → FirstWrong states starts j
    first_of f = record { listed = f.listed; wrong = λ r. f.wrong (whole r); first = λ j b. (f.first j b).right }

    -- There is one first.
    one-first : {i j : ℕ} → FirstWrong states starts i → FirstWrong states starts j → i < j → ⊥
    one-first f g b = f.wrong (g.first _ b)

    same_first : {i j : ℕ} → FirstWrong states starts i → FirstWrong states starts j → i ≡ j
    same_first {i} {j} f g = omega (arith, one-first f g, one-first g f)

    same_index : {i j : ℕ} → ◌≡◌ {A = Option ℕ} (some i) (some j) → i ≡ j
    same_index e = cc

    found_none : {i : ℕ} {B : Type 0} → ◌≡◌ {A = Option ℕ} (some i) none → B
    found_none e = let z : ◌≡◌ {A = ℕ} 0 1 = cc in absurd (omega arith)

    pub wrong_first : (i : ℕ) → (wrong_start states starts ≡ some i) ↔ FirstWrong states starts i
    wrong_first i = by (wrong_start states starts) from_start
      where
        by : (o : Option ℕ) → Searched 0 0 starts o → (o ≡ some i) ↔ FirstWrong states starts i
        by o (inl (e, all)) = (λ d. found_none (sym d ∙ e), λ f. absurd (f.wrong (all i f.listed).right))
        by o (inr (j, e, f)) = (
          λ d. let same : j ≡ i = omega (arith, same_index (sym e ∙ d)) in subst (FirstWrong states starts) same (first_of f),
          λ g. e ∙ ap some (omega (arith, same_first (first_of f) g)),
        )

    pub wrong-nowhere : (wrong_start states starts ≡ none) ↔ ((i : ℕ) → i < length starts → RightAt states starts i)
    wrong-nowhere = by (wrong_start states starts) from_start
      where
        by : (o : Option ℕ) → Searched 0 0 starts o → (o ≡ none) ↔ ((i : ℕ) → i < length starts → RightAt states starts i)
        by o (inl (e, all)) = (λ d i b. (all i b).right, λ h. e)
        by o (inr (j, e, f)) = (λ d. found_none (sym e ∙ d), λ h. absurd (f.wrong (whole (h j f.listed))))

    -- Right entries rise by one at the least.
    risen : (i : ℕ) → ((j : ℕ) → j ≤ i → RightAt states starts j) → i ≤ get_or starts i 0
    risen zero h = omega arith
    risen (suc i) h = omega (arith, risen i (λ j b. h j (omega arith)), (h (suc i) (omega arith)).above i refl)

    -- 02: "up to 256 states". A longer list has a wrong entry among its first 257.
    pub too_many : states ≤ most_states → most_states < length starts → (i : ℕ) × (wrong_start states starts ≡ some i) × (i ≤ most_states)
    too_many few many = by (wrong_start states starts) from_start
      where
        not-all : ((j : ℕ) → j ≤ most_states → RightAt states starts j) → ⊥
        not-all h = omega (arith, risen most_states h, (h most_states (omega arith)).stands)

        by : (o : Option ℕ) → Searched 0 0 starts o → (i : ℕ) × (o ≡ some i) × (i ≤ most_states)
        by o (inl (e, all)) = absurd (not-all (λ j b. (all j (omega arith)).right))
        by o (inr (j, e, f)) = (0 + j, e, early (leb j most_states) refl)
          where
            early : (b : Bool) → leb j most_states ≡ b → 0 + j ≤ most_states
            early true d = omega (arith, leb-true j most_states d)
            early false d = absurd (not-all (λ m c. (f.first m (omega (arith, leb-false j most_states d))).right))
