-- Laws of the two loops over six columns: their value from the first byte, and the comparison from the last.
use mathlib.Core.Path.{◌≡◌, refl, sym, ap, ◌∙◌}
use mathlib.Core.Bool.{true, false}
use mathlib.Core.List.{List, [], ◌∷◌, ◌++◌}
use Prim.Native.Nat.{ℕ, suc, ◌+◌, ◌-◌, ◌*◌, ◌/◌, ◌%◌, ◌^◌, ◌<◌, ◌≤◌}
use native.Mathlib.Nat.{pow-succ', pow-le-pow_right}
use native.Mathlib.Numerals.{add-one}
use native.Mathlib.Omega.{arith}
use lib.ListN.{length, get_or, take, drop, length-drop, drop_of_length-le}
use lib.Seq.{take-suc, drop-cons, take_at, get_or_at, get_or-take, get_or-drop, length-take-le}
use Rattle.columns.specs.Bytes.{same_bytes}
use Rattle.columns.specs.Columns.{column, value_from, value_at}
use Rattle.columns.specs.inner.Read.{lead}
use Rattle.columns.proofs.Laws.Compared.{same-of_unequal}
use Rattle.columns.proofs.Laws.ColumnsRead.{leads, leads-length, column-leads}
use Rattle.columns.proofs.Laws.Bytes.{same-to}

-- The six bytes at a place.
abbrev six : List ℕ → ℕ → List ℕ
six s at = take 6 (drop at s)

six_length : (s : List ℕ) (at : ℕ) → at + 6 ≤ length s → length (six s at) ≡ 6
six_length s at h = length-take-le 6 (drop at s) (simp length-drop (omega arith))

six_byte : (s : List ℕ) (at i : ℕ) → i < 6 → get_or (six s at) i 0 ≡ get_or s (at + i) 0
six_byte s at i h = get_or-take 6 (drop at s) i 0 h ∙ get_or-drop at s i 0

-- The value so far: n, of the first i bytes.
pub record Valued (s : List ℕ) (at n i : ℕ) : Type 0 where
  pub within : i ≤ 6
  pub value : value_at at s ≡ value_from n (drop i (take 6 (drop at s)))
  pub bound : n + 23 ≤ 23 * 10 ^ i

pub value-starts : (s : List ℕ) (at : ℕ) → Valued s at 0 0
value-starts s at = record { within = omega arith; value = refl; bound = omega arith }

pub value-fits : {s : List ℕ} {at n i : ℕ} → Valued s at n i → n < 23000000
value-fits {s} {at} {n} {i} r = let most : 10 ^ i ≤ 10 ^ 6 = pow-le-pow_right (omega arith) r.within in let b = r.bound in omega arith

pub value_goes_on : {s : List ℕ} {at n i : ℕ} → Valued s at n i → at + 6 ≤ length s → i < 6 → (d : ℕ) → d ≡ get_or s (at + i) 0 - 48 → d < 208 → Valued s at (n * 10 + d) (i + 1)
value_goes_on {s} {at} {n} {i} r h k d e b =
    let within : i < length (six s at) = omega (arith, six_length s at h) in
    let opened = drop-cons (six s at) i 0 within in
    let byte : get_or (six s at) i 0 - 48 ≡ d = omega (arith, six_byte s at i k) in
    let power = pow-succ' 10 i in
    let so_far = r.bound in
    record {
      within = omega arith;
      value = rw add-one (r.value ∙ ap (value_from n) opened ∙ ap (λ x. value_from (n * 10 + x) (drop (suc i) (six s at))) byte);
      bound = rw add-one (omega arith);
    }

pub value-ends : {s : List ℕ} {at n i : ℕ} → Valued s at n i → at + 6 ≤ length s → 6 ≤ i → n ≡ value_at at s
value-ends {s} {at} {n} {i} r h k =
    let w = r.within in
    let all : length (six s at) ≤ i = omega (arith, six_length s at h) in
    sym (r.value ∙ ap (value_from n) (drop_of_length-le (six s at) all))

-- One more byte of a list, beside one more of another.
snoc_parts : (x : List ℕ) (i : ℕ) (m : List ℕ) (b : ℕ) → i < length x → length m ≡ i → take (suc i) x ≡ m ++ (b ∷ []) → (take i x ≡ m) × (get_or x i 0 ≡ b)
snoc_parts x i m b h e d =
    let f : take i x ++ (get_or x i 0 ∷ []) ≡ m ++ (b ∷ []) = sym (take-suc x i 0 h) ∙ d in
    let g : length (take i x) ≡ i = length-take-le i x (omega arith) in (
      sym (take_at (take i x) (get_or x i 0 ∷ []) i g) ∙ ap (take i) f ∙ take_at m (b ∷ []) i e,
      sym (get_or_at (take i x) (get_or x i 0) [] 0 i g) ∙ ap (λ l. get_or l i 0) f ∙ get_or_at m b [] 0 i e,
    )

snoc_join : (x : List ℕ) (i : ℕ) (m : List ℕ) (b : ℕ) → i < length x → take i x ≡ m → get_or x i 0 ≡ b → take (suc i) x ≡ m ++ (b ∷ [])
snoc_join x i m b h e d = take-suc x i 0 h ∙ rw (e, d)

-- The comparison so far: what is left to compare are the first i bytes, with the leading digits of n.
pub record Compared (s : List ℕ) (at v n i : ℕ) : Type 0 where
  pub within : i ≤ 5
  pub asks : take 6 (drop at s) ≡ column v → take i (take 6 (drop at s)) ≡ leads i n
  pub tells : take i (take 6 (drop at s)) ≡ leads i n → take 6 (drop at s) ≡ column v

module _ (s : List ℕ) (at v : ℕ) (h : at + 6 ≤ length s) where
  last_parts : v < 1000000 → six s at ≡ column v → (take 5 (six s at) ≡ leads 5 (v / 10)) × (get_or (six s at) 5 0 ≡ 48 + v % 10)
  last_parts k e = snoc_parts (six s at) 5 (leads 5 (v / 10)) (48 + v % 10) (omega (arith, six_length s at h)) (leads-length 5 (v / 10))
      (take-all_six ∙ e ∙ column-leads v k)
    where
      take-all_six : take 6 (six s at) ≡ six s at
      take-all_six = lib.Seq.take_all 6 (six s at) (omega (arith, six_length s at h))

  pub last_differs : v < 1000000 → (get_or s (at + 5) 0 ≡ 48 + v % 10 → ⊥) → false ≡ same_bytes (take 6 (drop at s)) (column v)
  last_differs k d = sym (same-of_unequal (six s at) (column v) (λ e. d (sym (six_byte s at 5 (omega arith)) ∙ (last_parts k e).1)))

  pub compare_starts : v < 1000000 → get_or s (at + 5) 0 ≡ 48 + v % 10 → Compared s at v (v / 10) 5
  compare_starts k d = record {
    within = omega arith;
    asks = λ e. (last_parts k e).0;
    tells = λ e.
        sym (lib.Seq.take_all 6 (six s at) (omega (arith, six_length s at h)))
        ∙ snoc_join (six s at) 5 (leads 5 (v / 10)) (48 + v % 10) (omega (arith, six_length s at h)) e (six_byte s at 5 (omega arith) ∙ d)
        ∙ sym (column-leads v k);
  }

  pub compare_differs : (n i : ℕ) → Compared s at v n (suc i) → (get_or s (at + i) 0 ≡ lead n → ⊥) → false ≡ same_bytes (take 6 (drop at s)) (column v)
  compare_differs n i r d =
      let w = r.within in
      sym (same-of_unequal (six s at) (column v) (λ e.
      d (sym (six_byte s at i (omega arith)) ∙ (snoc_parts (six s at) i (leads i (n / 10)) (lead n) (omega (arith, six_length s at h)) (leads-length i (n / 10)) (r.asks e)).1)))

  pub compare_goes_on : (n i : ℕ) → Compared s at v n (suc i) → get_or s (at + i) 0 ≡ lead n → Compared s at v (n / 10) i
  compare_goes_on n i r d =
      let w = r.within in
      let k : i < length (six s at) = omega (arith, six_length s at h) in
      record {
        within = omega arith;
        asks = λ e. (snoc_parts (six s at) i (leads i (n / 10)) (lead n) k (leads-length i (n / 10)) (r.asks e)).0;
        tells = λ e. r.tells (snoc_join (six s at) i (leads i (n / 10)) (lead n) k e (six_byte s at i (omega arith) ∙ d));
      }

  pub compare_ends : (n : ℕ) → Compared s at v n 0 → true ≡ same_bytes (take 6 (drop at s)) (column v)
  compare_ends n r = sym (same-to (six s at) (column v) (r.tells refl))
