-- Laws of lists: members, order, members by number.
use mathlib.Core.Path.{◌≡◌, refl, sym, ap, ◌∙◌, subst}
use mathlib.Core.Logic.{◌⊎◌, inl, inr}
use mathlib.Core.Bool.{Bool, true, false, false≢true}
use mathlib.Core.List.Memᴰ
use mathlib.Core.List.{List, [], ◌∷◌, ◌++◌, map, append_assoc, Memᴰ}
use Prim.Native.Nat.{ℕ, zero, suc, ◌+◌, ◌-◌, ◌<◌, ◌≤◌}
use native.Mathlib.Nat.{add-zero, add-suc, suc-add, zero-add}
use native.Mathlib.Omega.{arith}
use lib.ListN.{length, get_or}
use lib.Seq.{slice}
use Rattle.lts.specs.inner.Lists.{up_from, cons_if, keep}
use Rattle.lts.specs.Lists.{every}
use Rattle.lts.specs.Lists.{any_of, Rising, bind}
use Rattle.lts.proofs.Booleans.{and-true-of, and-true-to, or-true-left, or-true-of, or_true_right}

-- The numbers from k.
pub up_from-of : (k n : ℕ) {x : ℕ} → Memᴰ x (up_from k n) → (k ≤ x) × (x < k + n)
up_from-of k zero m = absurd (Memᴰ.not-nil m)
up_from-of k (suc n) {x} m = step (up_from-of (suc k) n) (Memᴰ.cases_cons m)
  where
    step : (Memᴰ x (up_from (suc k) n) → (suc k ≤ x) × (x < suc k + n)) → (x ≡ k) ⊎ Memᴰ x (up_from (suc k) n) → (k ≤ x) × (x < k + suc n)
    step h (inl e) = (omega arith, omega arith)
    step h (inr d) = let b = h d in (omega arith, omega arith)

pub up_from-to : (k n : ℕ) (x : ℕ) → k ≤ x → x < k + n → Memᴰ x (up_from k n)
up_from-to k zero x l m = absurd (omega arith)
up_from-to k (suc n) x l m = step (x - k) (omega arith) (λ a b. up_from-to (suc k) n x a b)
  where
    step : (d : ℕ) → x ≡ k + d → (suc k ≤ x → x < suc k + n → Memᴰ x (up_from (suc k) n)) → Memᴰ x (up_from k (suc n))
    step zero e h = let z : x ≡ k = omega arith in Memᴰ.head z
    step (suc d) e h = Memᴰ.tail (h (omega arith) (omega arith))

pub up_from-rising : (k n : ℕ) → Rising ◌<◌ (up_from k n)
up_from-rising k zero = tt
up_from-rising k (suc n) = (λ y m. (up_from-of (suc k) n m).0, up_from-rising (suc k) n)

up_from-suc : (k n : ℕ) → up_from k (suc n) ≡ up_from k n ++ ((k + n) ∷ [])
up_from-suc k zero = rw add-zero
up_from-suc k (suc n) = ap (λ l. k ∷ l) (rw (add-suc, ← suc-add) (up_from-suc (suc k) n))

pub up_from-length : (k n : ℕ) → length (up_from k n) ≡ n
up_from-length k zero = refl
up_from-length k (suc n) = ap suc (up_from-length (suc k) n)

pub up_from-at : (k n i d : ℕ) → i < n → get_or (up_from k n) i d ≡ k + i
up_from-at k zero i d h = absurd (omega arith)
up_from-at k (suc n) zero d h = rw add-zero
up_from-at k (suc n) (suc i) d h = rw (add-suc, ← suc-add) (up_from-at (suc k) n i d (omega arith))

pub up_from_snoc : (n : ℕ) → up_from 0 (suc n) ≡ up_from 0 n ++ (n ∷ [])
up_from_snoc n = rw zero-add at (up_from-suc 0 n)

module _ {A : Type 0} where
  -- Those that pass.
  cons_if-of : (b : Bool) {x y : A} {l : List A} → Memᴰ y (cons_if b x l) → ((y ≡ x) × (b ≡ true)) ⊎ Memᴰ y l
  cons_if-of false m = inr m
  cons_if-of true m = elim (Memᴰ.cases_cons m) [ inl e ↦ inl (e, refl) | inr d ↦ inr d ]

  cons_if-more : (b : Bool) (x : A) {y : A} {l : List A} → Memᴰ y l → Memᴰ y (cons_if b x l)
  cons_if-more false x m = m
  cons_if-more true x m = Memᴰ.tail m

  cons_if-head : (b : Bool) {x y : A} (l : List A) → b ≡ true → y ≡ x → Memᴰ y (cons_if b x l)
  cons_if-head false l e d = absurd (false≢true e)
  cons_if-head true l e d = Memᴰ.head d

  module _ (p : A → Bool) where
    pub keep-of : (l : List A) {y : A} → Memᴰ y (keep p l) → Memᴰ y l × (p y ≡ true)
    keep-of [] m = absurd (Memᴰ.not-nil m)
    keep-of (x ∷ l) {y} m = step (keep-of l) (cons_if-of (p x) m)
      where
        step : (Memᴰ y (keep p l) → Memᴰ y l × (p y ≡ true)) → ((y ≡ x) × (p x ≡ true)) ⊎ Memᴰ y (keep p l) → Memᴰ y (x ∷ l) × (p y ≡ true)
        step h (inl (e, d)) = (Memᴰ.head e, ap p e ∙ d)
        step h (inr d) = (Memᴰ.tail (h d).0, (h d).1)

    pub keep-to : (l : List A) {y : A} → Memᴰ y l → p y ≡ true → Memᴰ y (keep p l)
    keep-to [] m e = absurd (Memᴰ.not-nil m)
    keep-to (x ∷ l) {y} m e = step (λ d. keep-to l d e) (Memᴰ.cases_cons m)
      where
        step : (Memᴰ y l → Memᴰ y (keep p l)) → (y ≡ x) ⊎ Memᴰ y l → Memᴰ y (keep p (x ∷ l))
        step h (inl d) = cons_if-head (p x) (keep p l) (ap p (sym d) ∙ e) d
        step h (inr d) = cons_if-more (p x) x (h d)

    pub keep-rising : (R : A → A → Type 0) (l : List A) → Rising R l → Rising R (keep p l)
    keep-rising R [] r = tt
    keep-rising R (x ∷ l) r = step (p x) (keep-rising R l r.1)
      where
        step : (b : Bool) → Rising R (keep p l) → Rising R (cons_if b x (keep p l))
        step true d = (λ y m. r.0 y (keep-of l m).0, d)
        step false d = d

    pub some_of : (l : List A) → any_of p l ≡ true → (x : A) × Memᴰ x l × (p x ≡ true)
    some_of [] e = absurd (false≢true e)
    some_of (x ∷ l) e = step (some_of l) (or-true-of (p x) (any_of p l) e)
      where
        step : (any_of p l ≡ true → (y : A) × Memᴰ y l × (p y ≡ true)) → (p x ≡ true) ⊎ (any_of p l ≡ true) → (y : A) × Memᴰ y (x ∷ l) × (p y ≡ true)
        step h (inl d) = (x, Memᴰ.head refl, d)
        step h (inr d) = let (y, m, z) = h d in (y, Memᴰ.tail m, z)

    pub some_to : (l : List A) {x : A} → Memᴰ x l → p x ≡ true → any_of p l ≡ true
    some_to [] m e = absurd (Memᴰ.not-nil m)
    some_to (y ∷ l) {x} m e = step (λ d. some_to l d e) (Memᴰ.cases_cons m)
      where
        step : (Memᴰ x l → any_of p l ≡ true) → (x ≡ y) ⊎ Memᴰ x l → any_of p (y ∷ l) ≡ true
        step h (inl d) = or-true-left (p y) _ (ap p (sym d) ∙ e)
        step h (inr d) = or_true_right (p y) _ (h d)

  -- Order.
  module _ (R : A → A → Type 0) where
    pub rising_append : (l m : List A) → Rising R l → Rising R m → ((x y : A) → Memᴰ x l → Memᴰ y m → R x y) → Rising R (l ++ m)
    rising_append [] m r s h = s
    rising_append (x ∷ l) m r s h = (λ y d. step y (Memᴰ.append_cases l d), rising_append l m r.1 s (λ a b c d. h a b (Memᴰ.tail c) d))
      where
        step : (y : A) → Memᴰ y l ⊎ Memᴰ y m → R x y
        step y (inl d) = r.0 y d
        step y (inr d) = h x y (Memᴰ.head refl) d

  pub rising_weaken : (R S : A → A → Type 0) → ((x y : A) → R x y → S x y) → (l : List A) → Rising R l → Rising S l
  rising_weaken R S h [] r = tt
  rising_weaken R S h (x ∷ l) r = (λ y m. h x y (r.0 y m), rising_weaken R S h l r.1)

  -- By number.
  pub get_d_mem : (l : List A) (i : ℕ) (d : A) → i < length l → Memᴰ (get_or l i d) l
  get_d_mem [] i d h = absurd (omega arith)
  get_d_mem (x ∷ l) zero d h = Memᴰ.head refl
  get_d_mem (x ∷ l) (suc i) d h = Memᴰ.tail (get_d_mem l i d (omega arith))

module _ {A B : Type 0} where
  pub map_of : (f : A → B) (l : List A) {y : B} → Memᴰ y (map f l) → (x : A) × Memᴰ x l × (y ≡ f x)
  map_of f [] m = absurd (Memᴰ.not-nil m)
  map_of f (x ∷ l) {y} m = step (map_of f l) (Memᴰ.cases_cons m)
    where
      step : (Memᴰ y (map f l) → (z : A) × Memᴰ z l × (y ≡ f z)) → (y ≡ f x) ⊎ Memᴰ y (map f l) → (z : A) × Memᴰ z (x ∷ l) × (y ≡ f z)
      step h (inl e) = (x, Memᴰ.head refl, e)
      step h (inr d) = let (z, n, e) = h d in (z, Memᴰ.tail n, e)

  pub map-to : (f : A → B) {x : A} {l : List A} → Memᴰ x l → Memᴰ (f x) (map f l)
  map-to f (Memᴰ.head e) = Memᴰ.head (ap f e)
  map-to f (Memᴰ.tail m) = Memᴰ.tail (map-to f m)

  pub map-rising : (f : A → B) (S : A → A → Type 0) (R : B → B → Type 0) (l : List A)
      → ((x y : A) → Memᴰ x l → Memᴰ y l → S x y → R (f x) (f y)) → Rising S l → Rising R (map f l)
  map-rising f S R [] h r = tt
  map-rising f S R (x ∷ l) h r = (
    λ y m. let (z, n, e) = map_of f l m in subst (R (f x)) (sym e) (h x z (Memᴰ.head refl) (Memᴰ.tail n) (r.0 z n)),
    map-rising f S R l (λ a b c d. h a b (Memᴰ.tail c) (Memᴰ.tail d)) r.1,
  )

  -- A split of a map is a split of the list.
  pub map_split : (f : A → B) (l : List A) (pre post : List B) (y : B) → map f l ≡ pre ++ (y ∷ post)
      → (p : List A) × (x : A) × (q : List A) × (l ≡ p ++ (x ∷ q)) × (map f p ≡ pre) × (f x ≡ y)
  map_split f [] [] post y e = let z : ◌≡◌ {A = ℕ} 0 1 = cc in absurd (omega arith)
  map_split f [] (b ∷ pre) post y e = let z : ◌≡◌ {A = ℕ} 0 1 = cc in absurd (omega arith)
  map_split f (a ∷ l) [] post y e = ([], a, l, refl, refl, (cc))
  map_split f (a ∷ l) (b ∷ pre) post y e =
      let r : map f l ≡ pre ++ (y ∷ post) = cc in more (map_split f l pre post y r)
    where
      more : (p : List A) × (x : A) × (q : List A) × (l ≡ p ++ (x ∷ q)) × (map f p ≡ pre) × (f x ≡ y)
          → (p : List A) × (x : A) × (q : List A) × (a ∷ l ≡ p ++ (x ∷ q)) × (map f p ≡ b ∷ pre) × (f x ≡ y)
      more (p, x, q, d, g, h) = (a ∷ p, x, q, ap (λ m. a ∷ m) d, (cc), h)

  pub bind-of : (f : A → List B) (l : List A) {y : B} → Memᴰ y (bind f l) → (x : A) × Memᴰ x l × Memᴰ y (f x)
  bind-of f [] m = absurd (Memᴰ.not-nil m)
  bind-of f (x ∷ l) {y} m = step (bind-of f l) (Memᴰ.append_cases (f x) m)
    where
      step : (Memᴰ y (bind f l) → (z : A) × Memᴰ z l × Memᴰ y (f z)) → Memᴰ y (f x) ⊎ Memᴰ y (bind f l) → (z : A) × Memᴰ z (x ∷ l) × Memᴰ y (f z)
      step h (inl d) = (x, Memᴰ.head refl, d)
      step h (inr d) = let (z, n, e) = h d in (z, Memᴰ.tail n, e)

  pub bind_to : (f : A → List B) {x : A} {l : List A} {y : B} → Memᴰ x l → Memᴰ y (f x) → Memᴰ y (bind f l)
  bind_to f {y} (Memᴰ.head {x = z} {xs = l} e) m = Memᴰ.append_left (bind f l) (subst (λ x. Memᴰ y (f x)) e m)
  bind_to f (Memᴰ.tail {x = z} d) m = Memᴰ.append_right (f z) (bind_to f d m)

  pub bind_append : (f : A → List B) (l m : List A) → bind f (l ++ m) ≡ bind f l ++ bind f m
  bind_append f [] m = refl
  bind_append f (x ∷ l) m = ap (λ z. f x ++ z) (bind_append f l m) ∙ sym (append_assoc (f x) (bind f l) (bind f m))

  pub bind-same : (f g : A → List B) (l : List A) → ((x : A) → Memᴰ x l → f x ≡ g x) → bind f l ≡ bind g l
  bind-same f g [] h = refl
  bind-same f g (x ∷ l) h = rw (h x (Memᴰ.head refl), bind-same f g l (λ y m. h y (Memᴰ.tail m)))

  pub bind-rising : (f : A → List B) (S : A → A → Type 0) (R : B → B → Type 0) (l : List A) → Rising S l
      → ((x : A) → Memᴰ x l → Rising R (f x)) → ((x y : A) → S x y → (a b : B) → Memᴰ a (f x) → Memᴰ b (f y) → R a b) → Rising R (bind f l)
  bind-rising f S R [] r i h = tt
  bind-rising f S R (x ∷ l) r i h = rising_append R (f x) (bind f l) (i x (Memᴰ.head refl)) (bind-rising f S R l r.1 (λ y m. i y (Memᴰ.tail m)) h) across
    where
      across : (a b : B) → Memᴰ a (f x) → Memᴰ b (bind f l) → R a b
      across a b m n = let (z, c, d) = bind-of f l n in h x z (r.0 z c) a b m d

  pub map_append : (f : A → B) (l m : List A) → map f (l ++ m) ≡ map f l ++ map f m
  map_append f [] m = refl
  map_append f (x ∷ l) m = ap (λ z. f x ∷ z) (map_append f l m)

-- A list that rises is given by its members.
module _ {A : Type 0} (R : A → A → Type 0) (never : (x y : A) → R x y → R y x → ⊥) where
  pub rising_unique : (l m : List A) → Rising R l → Rising R m → ((x : A) → Memᴰ x l → Memᴰ x m) → ((x : A) → Memᴰ x m → Memᴰ x l) → l ≡ m
  rising_unique [] [] r s f g = refl
  rising_unique [] (y ∷ m) r s f g = absurd (Memᴰ.not-nil (g y (Memᴰ.head refl)))
  rising_unique (x ∷ l) [] r s f g = absurd (Memᴰ.not-nil (f x (Memᴰ.head refl)))
  rising_unique (x ∷ l) (y ∷ m) r s f g = join (rising_unique l m r.1 s.1)
    where
      heads : (x ≡ y) ⊎ Memᴰ x m → (y ≡ x) ⊎ Memᴰ y l → x ≡ y
      heads (inl e) b = e
      heads (inr a) (inl e) = sym e
      heads (inr a) (inr b) = absurd (never x y (r.0 y b) (s.0 x a))

      same_head : x ≡ y
      same_head = heads (Memᴰ.cases_cons (f x (Memᴰ.head refl))) (Memᴰ.cases_cons (g y (Memᴰ.head refl)))

      down : (z : A) → Memᴰ z l → (z ≡ y) ⊎ Memᴰ z m → Memᴰ z m
      down z n (inl e) = let d = subst (R x) (e ∙ sym same_head) (r.0 z n) in absurd (never x x d d)
      down z n (inr a) = a

      up : (z : A) → Memᴰ z m → (z ≡ x) ⊎ Memᴰ z l → Memᴰ z l
      up z n (inl e) = let d = subst (R y) (e ∙ same_head) (s.0 z n) in absurd (never y y d d)
      up z n (inr a) = a

      join : (((z : A) → Memᴰ z l → Memᴰ z m) → ((z : A) → Memᴰ z m → Memᴰ z l) → l ≡ m) → x ∷ l ≡ y ∷ m
      join h =
          let t = h (λ z n. down z n (Memᴰ.cases_cons (f z (Memᴰ.tail n)))) (λ z n. up z n (Memᴰ.cases_cons (g z (Memᴰ.tail n)))) in
          λ i. same_head i ∷ t i

-- Numbers in two parts; a list for none of them; those that pass, where they stand together.
pub up_from_append : (k m n : ℕ) → up_from k (m + n) ≡ up_from k m ++ up_from (k + m) n
up_from_append k zero n = rw (zero-add, add-zero)
up_from_append k (suc m) n = rw (suc-add, add-suc) (ap (λ l. k ∷ l) (rw suc-add at (up_from_append (suc k) m n)))

pub bind-none : {A B : Type 0} (f : A → List B) (l : List A) → ((x : A) → Memᴰ x l → f x ≡ []) → bind f l ≡ []
bind-none f [] h = refl
bind-none f (x ∷ l) h = ap (λ z. z ++ bind f l) (h x (Memᴰ.head refl)) ∙ bind-none f l (λ y m. h y (Memᴰ.tail m))

module _ {A : Type 0} (p : A → Bool) (d : A) where
  pub keep-slice : (l : List A) (a b : ℕ) → a ≤ b → b ≤ length l
      → ((i : ℕ) → i < a → p (get_or l i d) ≡ false) → ((i : ℕ) → a ≤ i → i < b → p (get_or l i d) ≡ true) → ((i : ℕ) → b ≤ i → i < length l → p (get_or l i d) ≡ false)
      → keep p l ≡ slice a b l
  keep-slice [] zero zero h k f g e = refl
  keep-slice [] (suc a) zero h k f g e = absurd (omega arith)
  keep-slice [] a (suc b) h k f g e = absurd (omega arith)
  keep-slice (x ∷ l) zero zero h k f g e = ap (λ z. cons_if z x (keep p l)) (e 0 (omega arith) (omega arith))
      ∙ keep-slice l zero zero (omega arith) (omega arith) (λ i u. absurd (omega arith)) (λ i u v. absurd (omega arith)) (λ i u v. e (suc i) (omega arith) (omega arith))
  keep-slice (x ∷ l) (suc a) zero h k f g e = absurd (omega arith)
  keep-slice (x ∷ l) zero (suc b) h k f g e = ap (λ z. cons_if z x (keep p l)) (g 0 (omega arith) (omega arith))
      ∙ ap (λ z. x ∷ z) (keep-slice l zero b (omega arith) (omega arith) (λ i u. absurd (omega arith)) (λ i u v. g (suc i) (omega arith) (omega arith))
      (λ i u v. e (suc i) (omega arith) (omega arith)))
  keep-slice (x ∷ l) (suc a) (suc b) h k f g e = ap (λ z. cons_if z x (keep p l)) (f 0 (omega arith))
      ∙ keep-slice l a b (omega arith) (omega arith) (λ i u. f (suc i) (omega arith)) (λ i u v. g (suc i) (omega arith) (omega arith)) (λ i u v. e (suc i) (omega arith) (omega arith))

-- Order and members by number.
module _ {A : Type 0} (d : A) where
  pub mem_index : {x : A} {l : List A} → Memᴰ x l → (i : ℕ) × (i < length l) × (get_or l i d ≡ x)
  mem_index (Memᴰ.head e) = (0, omega arith, sym e)
  mem_index (Memᴰ.tail m) = let (i, b, e) = mem_index m in (suc i, omega arith, e)

  module _ (R : A → A → Type 0) where
    pub rising_index : (l : List A) → Rising R l → (i j : ℕ) → i < j → j < length l → R (get_or l i d) (get_or l j d)
    rising_index [] r i j h k = absurd (omega arith)
    rising_index (x ∷ l) r zero zero h k = absurd (omega arith)
    rising_index (x ∷ l) r zero (suc j) h k = r.0 (get_or l j d) (get_d_mem l j d (omega arith))
    rising_index (x ∷ l) r (suc i) zero h k = absurd (omega arith)
    rising_index (x ∷ l) r (suc i) (suc j) h k = rising_index l r.1 i j (omega arith) (omega arith)

    -- Any two by number.
    pub rising-pairs : (l : List A) → ((i j : ℕ) → i < j → j < length l → R (get_or l i d) (get_or l j d)) → Rising R l
    rising-pairs [] h = tt
    rising-pairs (x ∷ l) h = (
      λ y m. let (i, b, e) = mem_index m in subst (R x) e (h 0 (suc i) (omega arith) (omega arith)),
      rising-pairs l (λ i j p q. h (suc i) (suc j) (omega arith) (omega arith)),
    )

    -- Neighbours suffice.
    pub rising_adjacent : ((x y z : A) → R x y → R y z → R x z) → (l : List A) → ((i : ℕ) → suc i < length l → R (get_or l i d) (get_or l (suc i) d)) → Rising R l
    rising_adjacent tr [] h = tt
    rising_adjacent tr (x ∷ []) h = (λ y m. absurd (Memᴰ.not-nil m), tt)
    rising_adjacent tr (x ∷ z ∷ l) h = join (rising_adjacent tr (z ∷ l) (λ i b. h (suc i) (omega arith)))
      where
        first : Rising R (z ∷ l) → (y : A) → (y ≡ z) ⊎ Memᴰ y l → R x y
        first r y (inl e) = subst (R x) (sym e) (h 0 (omega arith))
        first r y (inr m) = tr x z y (h 0 (omega arith)) (r.0 y m)

        join : Rising R (z ∷ l) → Rising R (x ∷ z ∷ l)
        join r = (λ y m. first r y (Memᴰ.cases_cons m), r)

-- Those that all pass, and one that does not.
module _ {A : Type 0} (p : A → Bool) where
  pub every_of : (l : List A) → every p l ≡ true → (x : A) → Memᴰ x l → p x ≡ true
  every_of [] e x m = absurd (Memᴰ.not-nil m)
  every_of (y ∷ l) e x m = let d = and-true-of (p y) (every p l) e in step d.0 (every_of l d.1 x) (Memᴰ.cases_cons m)
    where
      step : p y ≡ true → (Memᴰ x l → p x ≡ true) → (x ≡ y) ⊎ Memᴰ x l → p x ≡ true
      step d h (inl z) = ap p z ∙ d
      step d h (inr n) = h n

  pub every-to : (l : List A) → ((x : A) → Memᴰ x l → p x ≡ true) → every p l ≡ true
  every-to [] h = refl
  every-to (y ∷ l) h = and-true-to (p y) (every p l) (h y (Memᴰ.head refl)) (every-to l (λ x m. h x (Memᴰ.tail m)))
