-- A list that grows member by member, each tested by itself and against those before it, and the order that it has then.
use mathlib.Core.Path.{◌≡◌, refl, sym, subst}
use mathlib.Core.Logic.{◌⊎◌, inl, inr}
use mathlib.Core.List.Memᴰ
use mathlib.Core.List.{List, [], ◌∷◌, ◌++◌, append_assoc, append-nil, Memᴰ}
use Rattle.lts.specs.Lists.{Rising}
use Rattle.lts.proofs.Lists.{rising_append}

module _ {A : Type 0} (P : A → Type 0) (Q : List A → A → Type 0) where
  -- The second list may follow the first.
  abbrev pub Grown : List A → List A → Type 0
  Grown l [] = Unit {0}
  Grown l (x ∷ m) = P x × Q l x × Grown (l ++ (x ∷ [])) m

module _ {A : Type 0} (R : A → A → Type 0) where
  pub rising_across : (l m : List A) → Rising R (l ++ m) → (x y : A) → Memᴰ x l → Memᴰ y m → R x y
  rising_across [] m r x y c d = absurd (Memᴰ.not-nil c)
  rising_across (z ∷ l) m r x y c d = step (rising_across l m r.1 x y) (Memᴰ.cases_cons c)
    where
      step : (Memᴰ x l → Memᴰ y m → R x y) → (x ≡ z) ⊎ Memᴰ x l → R x y
      step h (inl e) = subst (λ w. R w y) (sym e) (r.0 y (Memᴰ.append_right l d))
      step h (inr c') = h c' d

  pub rising_snoc : (l : List A) (x : A) → Rising R l → ((y : A) → Memᴰ y l → R y x) → Rising R (l ++ (x ∷ []))
  rising_snoc l x r h =
      rising_append R l (x ∷ []) r (λ y m. absurd (Memᴰ.not-nil m), tt) (λ y z c d. subst (R y) (sym (Memᴰ.eq_of_singleton d)) (h y c))

module _ {A : Type 0} (P : A → Type 0) (Q : List A → A → Type 0) (R : A → A → Type 0)
    (of : (l : List A) (x : A) → Rising R l → Q l x → (y : A) → Memᴰ y l → R y x)
    (to : (l : List A) (x : A) → ((y : A) → Memᴰ y l → R y x) → Q l x) where
  pub grown-of : (l m : List A) → Rising R l → Grown P Q l m → ((x : A) → Memᴰ x m → P x) × Rising R (l ++ m)
  grown-of l [] r g = (λ x m. absurd (Memᴰ.not-nil m), rw append-nil r)
  grown-of l (x ∷ m) r g =
      join (grown-of (l ++ (x ∷ [])) m (rising_snoc R l x r (of l x r g.1)) g.2)
    where
      each : ((y : A) → Memᴰ y m → P y) → (y : A) → (y ≡ x) ⊎ Memᴰ y m → P y
      each h y (inl e) = subst P (sym e) g.0
      each h y (inr d) = h y d

      join : ((y : A) → Memᴰ y m → P y) × Rising R ((l ++ (x ∷ [])) ++ m) → ((y : A) → Memᴰ y (x ∷ m) → P y) × Rising R (l ++ (x ∷ m))
      join h = (λ y d. each h.0 y (Memᴰ.cases_cons d), rw append_assoc at h.1)

  pub grown-to : (l m : List A) → ((x : A) → Memᴰ x m → P x) → Rising R (l ++ m) → Grown P Q l m
  grown-to l [] p r = tt
  grown-to l (x ∷ m) p r =
      (p x (Memᴰ.head refl), to l x (λ y d. rising_across R l (x ∷ m) r y x d (Memᴰ.head refl)), grown-to (l ++ (x ∷ [])) m (λ y d. p y (Memᴰ.tail d)) (rw append_assoc r))
