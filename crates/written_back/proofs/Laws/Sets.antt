-- Sets as text: by the mask alone, how long they are, and how members and text grow label by label.
use mathlib.Core.Path.{◌≡◌, refl, sym, ap, ◌∙◌, subst}
use mathlib.Core.Logic.{inl, inr}
use mathlib.Core.Bool.{Bool, true, false, cond}
use mathlib.Core.List.Memᴰ
use mathlib.Core.List.{List, [], ◌∷◌, ◌++◌, append_assoc, append-nil, Memᴰ}
use Prim.Native.Nat.{ℕ, zero, suc, ◌+◌, ◌-◌, ◌*◌, ◌/◌, ◌%◌, ◌^◌, ◌≤◌, ◌<◌}
use native.Mathlib.Nat.{add-zero, add-suc, suc-add, two-pow-succ}
use native.Mathlib.Numerals.{add-one}
use native.Mathlib.Omega.{arith}
use lib.Dec.{eqb}
use lib.ListN.{length, get_or, take, length-append}
use lib.Pow.{pow_pos, shr-shr}
use borrow.Author.Tests.{eq-eqb, ne_eqb, eqb-true, eqb-false}
use Rattle.lts.specs.Sizes.{most_labels}
use Rattle.lts.specs.Lists.{bind}
use Rattle.lts.specs.Steps.{silent as isSilent}
use Rattle.lts.proofs.Booleans.{same_truth}
use Rattle.lts.proofs.Lists.{bind_append}
use Rattle.lts.proofs.Silence.{heard}
use Rattle.actl.specs.Actions.{Mask, in_set}
use Rattle.actl.specs.Prepared.{mask_within}
use Rattle.actl.proofs.Laws.Masks.{within_low}
use Rattle.written_back.specs.FormulaText.{members_from, members, joined, set_text}

-- c of the n labels are in the set whose bits, from the first of these labels on, are the number q.
record Counted (n c q : ℕ) : Type 0 where
  few : c ≤ n
  full-of : c ≡ n → q + 1 ≡ 2 ^ n
  full-to : q + 1 ≡ 2 ^ n → c ≡ n
  none_of : c ≡ 0 → q ≡ 0
  none-to : q ≡ 0 → c ≡ 0

counted_none : (q : ℕ) → q < 1 → Counted 0 0 q
counted_none q h = record { few = omega arith; full-of = λ e. omega arith; full-to = λ e. refl; none_of = λ e. omega arith; none-to = λ e. refl }

counted_in : (n c q : ℕ) → q % 2 ≡ 1 → Counted n c (q / 2) → Counted (suc n) (suc c) q
counted_in n c q b k = record {
  few = omega (arith, k.few);
  full-of = λ e. omega (arith, two-pow-succ n, k.full-of (omega arith));
  full-to = λ e. omega (arith, k.full-to (omega (arith, two-pow-succ n)));
  none_of = λ e. omega arith;
  none-to = λ e. omega arith;
}

counted_out : (n c q : ℕ) → q % 2 ≡ 0 → Counted n c (q / 2) → Counted (suc n) c q
counted_out n c q b k = record {
  few = omega (arith, k.few);
  full-of = λ e. omega (arith, k.few);
  full-to = λ e. omega (arith, two-pow-succ n);
  none_of = λ e. omega (arith, k.none_of e);
  none-to = λ e. k.none-to (omega arith);
}

-- A label's bit is the lowest one behind those of the labels before it.
in_set_bit : (m a : ℕ) → isSilent a ≡ false → in_set m a ≡ eqb (m / 2 ^ a % 2) 1
unfolding in_set
in_set_bit m a h = rw h

halved : (m a : ℕ) → m / 2 ^ suc a ≡ m / 2 ^ a / 2
halved m a = sym (shr-shr m a 1 ∙ ap (λ k. m / 2 ^ k) (add-one a))

next_bit : (m a n : ℕ) → m / 2 ^ a < 2 ^ suc n → m / 2 ^ suc a < 2 ^ n
next_bit m a n h = omega (arith, halved m a, two-pow-succ n)

counted-one : (n c q m a : ℕ) → in_set m a ≡ eqb (q % 2) 1 → Counted n c (q / 2) → Counted (suc n) (c + cond (in_set m a) 1 0) q
counted-one n c q m a bit k = case (in_set m a) bit
  where
    case : (b : Bool) → b ≡ eqb (q % 2) 1 → Counted (suc n) (c + cond b 1 0) q
    case true e = rw add-one (counted_in n c q (eqb-true (q % 2) 1 (sym e)) k)
    case false e = rw add-zero (counted_out n c q (let z = eqb-false (q % 2) 1 (sym e) in omega arith) k)

-- One label more in front.
length_front : (b : Bool) (x : List ℕ) (l : List (List ℕ)) → length (cond b (x ∷ l) l) ≡ length l + cond b 1 0
length_front true x l = sym (add-one (length l))
length_front false x l = sym (add-zero (length l))

counted : (a : ℕ) (N : List (List ℕ)) (m : Mask) → 1 ≤ a → a + length N ≤ 99 → m / 2 ^ a < 2 ^ length N
    → Counted (length N) (length (members_from a N m)) (m / 2 ^ a)
counted a [] m l h low = counted_none (m / 2 ^ a) low
counted a (x ∷ N) m l h low =
    let M = members_from (suc a) N m in
    let k = counted (suc a) N m (omega arith) (omega arith) (next_bit m a (length N) low) in
    let half : Counted (length N) (length M) (m / 2 ^ a / 2) = subst (Counted (length N) (length M)) (halved m a) k in
    subst (λ c. Counted (suc (length N)) c (m / 2 ^ a)) (sym (length_front (in_set m a) x M))
    (counted-one (length N) (length M) (m / 2 ^ a) m a (in_set_bit m a (heard a l (omega arith))) half)

-- By the mask: all the labels 1 to n are the number 2 ^ suc n - 2, none of them 0.
module _ (N : List (List ℕ)) (m : Mask) (few : length N ≤ most_labels) (within : mask_within (length N) m ≡ true) where
  within-counted : Counted (length N) (length (members N m)) (m / 2)
  within-counted = counted 1 N m (omega arith) (omega arith) (omega (arith, two-pow-succ (length N), (within_low (length N) m within).1))

  all_by_mask : eqb (length (members N m)) (length N) ≡ eqb m (2 ^ suc (length N) - 2)
  all_by_mask =
      let n = length N in
      let c = length (members N m) in
      let k = within-counted in
      let even = (within_low n m within).0 in
      same_truth (eqb c n) (eqb m (2 ^ suc n - 2))
      (λ e. eq-eqb m (2 ^ suc n - 2) (omega (arith, two-pow-succ n, k.full-of (eqb-true c n e))))
      (λ e. eq-eqb c n (k.full-to (omega (arith, pow_pos n, two-pow-succ n, eqb-true m (2 ^ suc n - 2) e))))

  none_by_mask : eqb (length (members N m)) 0 ≡ eqb m 0
  none_by_mask =
      let c = length (members N m) in
      let k = within-counted in
      let even = (within_low (length N) m within).0 in
      same_truth (eqb c 0) (eqb m 0) (λ e. eq-eqb m 0 (omega (arith, k.none_of (eqb-true c 0 e))))
      (λ e. eq-eqb c 0 (k.none-to (omega (arith, eqb-true m 0 e))))

  pub set-text_by_mask : set_text N m ≡ cond (eqb m (2 ^ suc (length N) - 2)) (42 ∷ []) (cond (eqb m 0) (126 ∷ 42 ∷ []) (joined (members N m)))
  unfolding set_text
  set-text_by_mask = λ i. cond (all_by_mask i) (42 ∷ []) (cond (none_by_mask i) (126 ∷ 42 ∷ []) (joined (members N m)))

-- One label more behind, as a loop over the labels takes them.
pub members-to : (k a : ℕ) (N : List (List ℕ)) (m : Mask) → k < length N
    → members_from a (take (suc k) N) m ≡ members_from a (take k N) m ++ cond (in_set m (a + k)) (get_or N k [] ∷ []) []
members-to k a [] m h = absurd (omega arith)
members-to zero a (x ∷ N) m h = rw add-zero
members-to (suc k) a (x ∷ N) m h =
    let more = cond (in_set m (suc a + k)) (get_or N k [] ∷ []) [] in
    rw (add-suc, ← suc-add) (step (in_set m a) (members_from (suc a) (take k N) m) more (members-to k (suc a) N m (omega arith)))
  where
    step : (b : Bool) (L E : List (List ℕ)) {M : List (List ℕ)} → M ≡ L ++ E → cond b (x ∷ M) M ≡ cond b (x ∷ L) L ++ E
    step true L E e = ap (λ l. x ∷ l) e
    step false L E e = e

abbrev behind : List ℕ → List ℕ
behind x = 124 ∷ x

pub joined-more : (l : List (List ℕ)) (n : List ℕ) → joined (l ++ (n ∷ [])) ≡ joined l ++ (cond (eqb (length l) 0) [] (124 ∷ []) ++ n)
joined-more [] n = append-nil n
joined-more (x ∷ l) n =
    rw (ne_eqb (suc (length l)) 0 (λ e. omega arith), bind_append behind l (n ∷ []), append-nil, append_assoc)

-- Lengths: a name has at most 13 bytes, and `|` stands between two.
bind-short : (l : List (List ℕ)) → ((n : List ℕ) → Memᴰ n l → length n ≤ 13) → length (bind behind l) ≤ 14 * length l
bind-short [] h = omega arith
bind-short (x ∷ l) h =
    omega (arith, length-append x (bind behind l), h x (Memᴰ.head refl), bind-short l (λ n k. h n (Memᴰ.tail k)))

pub joined-short : (l : List (List ℕ)) → ((n : List ℕ) → Memᴰ n l → length n ≤ 13) → length (joined l) ≤ 14 * length l
joined-short [] h = omega arith
joined-short (x ∷ l) h =
    omega (arith, length-append x (bind behind l), h x (Memᴰ.head refl), bind-short l (λ n k. h n (Memᴰ.tail k)))

pub members-few : (a : ℕ) (N : List (List ℕ)) (m : Mask) → length (members_from a N m) ≤ length N
members-few a [] m = omega arith
members-few a (x ∷ N) m = step (in_set m a) (members-few (suc a) N m)
  where
    step : (b : Bool) → length (members_from (suc a) N m) ≤ length N
        → length (cond b (x ∷ members_from (suc a) N m) (members_from (suc a) N m)) ≤ suc (length N)
    step true h = omega arith
    step false h = omega arith

pub members-of : (a : ℕ) (N : List (List ℕ)) (m : Mask) (n : List ℕ) → Memᴰ n (members_from a N m) → Memᴰ n N
members-of a [] m n h = h
members-of a (x ∷ N) m n h = step (in_set m a) (members-of (suc a) N m n) h
  where
    step : (b : Bool) → (Memᴰ n (members_from (suc a) N m) → Memᴰ n N)
        → Memᴰ n (cond b (x ∷ members_from (suc a) N m) (members_from (suc a) N m)) → Memᴰ n (x ∷ N)
    step false i k = Memᴰ.tail (i k)
    step true i k = elim (Memᴰ.cases_cons k) [ inl e ↦ Memᴰ.head e | inr d ↦ Memᴰ.tail (i d) ]

pub set-text-short : (N : List (List ℕ)) (m : Mask) → ((n : List ℕ) → Memᴰ n N → length n ≤ 13) → length (set_text N m) ≤ 14 * length N + 2
unfolding set_text
set-text-short N m h = case (eqb (length (members N m)) (length N)) (eqb (length (members N m)) 0)
  where
    case : (a b : Bool) → length (cond a (42 ∷ []) (cond b (126 ∷ 42 ∷ []) (joined (members N m)))) ≤ 14 * length N + 2
    case true b = omega arith
    case false true = omega arith
    case false false = omega (arith, members-few 1 N m, joined-short (members N m) (λ n k. h n (members-of 1 N m n k)))
