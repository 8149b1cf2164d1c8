-- Laws of writing a number's digits from the last to the first.
use mathlib.Core.Path.{◌≡◌, refl, sym, ap, ◌∙◌}
use mathlib.Core.Bool.{Bool, true, false, cond}
use mathlib.Core.List.{List, [], ◌∷◌, ◌++◌, append_assoc}
use Prim.Native.Nat.{ℕ, zero, suc, ◌+◌, ◌-◌, ◌/◌, ◌%◌, ◌^◌, ◌≤◌, ◌<◌}
use native.Mathlib.Nat.{pow-suc}
use native.Mathlib.Omega.{arith}
use lib.Dec.{ltb}
use lib.ListN.{length, replicate, take, drop, set, length-drop, length-set, take-append-drop}
use lib.Seq.{set_split, take-set-le, drop_at, length-take-le}
use borrow.Author.Tests.{ltb-false, lt-ltb, le-ltb}
use Rattle.columns.specs.Columns.{digits_within, decimal, column}

-- More room than digits makes no difference.
digits_enough : (k m n : ℕ) → n < k → n < m → digits_within k n ≡ digits_within m n
unfolding digits_within
digits_enough zero m n h g = absurd (omega arith)
digits_enough (suc k) zero n h g = absurd (omega arith)
digits_enough (suc k) (suc m) n h g = step (ltb n 10) refl (digits_enough k m (n / 10))
  where
    step : (b : Bool) → ltb n 10 ≡ b → (n / 10 < k → n / 10 < m → digits_within k (n / 10) ≡ digits_within m (n / 10))
        → cond b ((48 + n) ∷ []) (digits_within k (n / 10) ++ ((48 + n % 10) ∷ [])) ≡ cond b ((48 + n) ∷ []) (digits_within m (n / 10) ++ ((48 + n % 10) ∷ []))
    step true e f = refl
    step false e f = let big = ltb-false n 10 e in ap (λ l. l ++ ((48 + n % 10) ∷ [])) (f (omega arith) (omega arith))

pub decimal-small : (n : ℕ) → n < 10 → decimal n ≡ (48 + n) ∷ []
unfolding digits_within
decimal-small n h = ap (λ b. cond b ((48 + n) ∷ []) (digits_within n (n / 10) ++ ((48 + n % 10) ∷ []))) (lt-ltb n 10 h)

pub decimal-more : (n : ℕ) → 10 ≤ n → decimal n ≡ decimal (n / 10) ++ ((48 + n % 10) ∷ [])
unfolding digits_within
decimal-more n h =
    ap (λ b. cond b ((48 + n) ∷ []) (digits_within n (n / 10) ++ ((48 + n % 10) ∷ []))) (le-ltb n 10 h)
    ∙ ap (λ l. l ++ ((48 + n % 10) ∷ [])) (digits_enough n (suc (n / 10)) (n / 10) (omega arith) (omega arith))

-- The digits that are still to be written: none where nothing is left.
abbrev pub ahead : ℕ → List ℕ
ahead zero = []
ahead (suc r) = decimal (suc r)

pub ahead_step : (n : ℕ) → 0 < n → ahead n ≡ ahead (n / 10) ++ ((48 + n % 10) ∷ [])
ahead_step zero h = absurd (omega arith)
ahead_step (suc r) h = step (n / 10) refl
  where
    n : ℕ
    n = suc r

    step : (q : ℕ) → n / 10 ≡ q → ahead n ≡ ahead (n / 10) ++ ((48 + n % 10) ∷ [])
    step zero e =
        let small : n < 10 = omega arith in
        let d : n % 10 ≡ n = omega arith in
        decimal-small n small ∙ rw (e, d) refl
    step (suc q) e = decimal-more n (omega arith) ∙ rw e refl

pub decimal_ahead : (n : ℕ) → decimal n ≡ ahead (n / 10) ++ ((48 + n % 10) ∷ [])
decimal_ahead zero = decimal-small zero (omega arith)
decimal_ahead (suc r) = ahead_step (suc r) (omega arith)

-- Where the writing stands: blanks, then the digits so far; `rest` is what is left of n.
pub record Written (n : ℕ) (bytes : List ℕ) (from rest : ℕ) : Type 0 where
  pub size : length bytes ≡ 20
  pub within : from ≤ 19
  pub blanks : take from bytes ≡ replicate from 32
  pub digits : ahead rest ++ drop from bytes ≡ decimal n
  pub room : rest < 10 ^ from

take-replicate : (k n a : ℕ) → k ≤ n → take k (replicate n a) ≡ replicate k a
take-replicate zero n a h = refl
take-replicate (suc k) zero a h = absurd (omega arith)
take-replicate (suc k) (suc n) a h = ap (λ l. a ∷ l) (take-replicate k n a (omega arith))

-- One digit more, before those that are written.
pub written-more : (n : ℕ) (bytes : List ℕ) (from rest : ℕ) → Written n bytes (suc from) rest → 0 < rest → Written n (set bytes from (48 + rest % 10)) from (rest / 10)
written-more n bytes from rest w h =
    let inside : from < length bytes = omega (arith, w.size, w.within) in
    let cut : drop from (set bytes from (48 + rest % 10)) ≡ (48 + rest % 10) ∷ drop (suc from) bytes =
    ap (drop from) (set_split bytes from (48 + rest % 10) inside) ∙ drop_at (take from bytes) _ from (length-take-le from bytes (omega arith)) in
    record {
      size = length-set bytes from (48 + rest % 10) ∙ w.size;
      within = omega (arith, w.within);
      blanks = take-set-le from bytes from (48 + rest % 10) (omega arith) ∙ shorter;
      digits =
          ap (λ l. ahead (rest / 10) ++ l) cut
          ∙ sym (append_assoc (ahead (rest / 10)) ((48 + rest % 10) ∷ []) (drop (suc from) bytes))
          ∙ ap (λ l. l ++ drop (suc from) bytes) (sym (ahead_step rest h))
          ∙ w.digits;
      room = omega (arith, w.room, pow-suc 10 from);
    }
  where
    shorter : take from bytes ≡ replicate from 32
    shorter = sym (take-take from bytes) ∙ ap (take from) w.blanks ∙ take-replicate from (suc from) 32 (omega arith)
      where
        take-take : (k : ℕ) (l : List ℕ) → take k (take (suc k) l) ≡ take k l
        take-take zero l = refl
        take-take (suc k) [] = refl
        take-take (suc k) (x ∷ l) = ap (λ m. x ∷ m) (take-take k l)

-- The first digit written is the last one.
pub written-first : (n : ℕ) → n < 2 ^ 64 → Written n (set (replicate 20 32) 19 (48 + n % 10)) 19 (n / 10)
written-first n h = record {
  size = refl;
  within = omega arith;
  blanks = refl;
  digits = sym (decimal_ahead n);
  room = omega arith;
}

-- All digits written: with the blanks before them, if there are fewer than six, they are the column.
drop-blanks : (k j : ℕ) (l : List ℕ) → k ≤ j → drop k (replicate j 32 ++ l) ≡ replicate (j - k) 32 ++ l
drop-blanks zero j l h = ap (λ m. replicate m 32 ++ l) (let z : j ≡ j - 0 = omega arith in z)
drop-blanks (suc k) zero l h = absurd (omega arith)
drop-blanks (suc k) (suc j) l h = drop-blanks k j l (omega arith) ∙ ap (λ m. replicate m 32 ++ l) (let z : j - k ≡ suc j - suc k = omega arith in z)

pub written-column : (n : ℕ) (bytes : List ℕ) (from : ℕ) → Written n bytes from 0 → (at : ℕ) → at ≤ from → from - at ≡ 6 - (20 - from) → drop at bytes ≡ column n
unfolding column
written-column n bytes from w at h e =
    let whole : bytes ≡ replicate from 32 ++ decimal n = sym (take-append-drop from bytes) ∙ ap (λ l. l ++ drop from bytes) w.blanks ∙ ap (λ l. replicate from 32 ++ l) w.digits in
    let wide : length (decimal n) ≡ 20 - from = ap length (sym w.digits) ∙ length-drop from bytes ∙ ap (λ m. m - from) w.size in
    ap (drop at) whole ∙ drop-blanks at from (decimal n) h ∙ ap (λ m. replicate m 32 ++ decimal n) (e ∙ ap (λ m. 6 - m) (sym wide))

-- While something is left there is room before the digits.
pub written-room : {n : ℕ} {bytes : List ℕ} {from rest : ℕ} → Written n bytes from rest → 0 < rest → 0 < from
written-room {from} {rest} w h = room from w.room
  where
    room : (k : ℕ) → rest < 10 ^ k → 0 < k
    room zero l = absurd (omega arith)
    room (suc k) l = omega arith

pub written_next : {n : ℕ} {bytes : List ℕ} {from rest : ℕ} → Written n bytes from rest → 0 < rest → Written n (set bytes (from - 1) (48 + rest % 10)) (from - 1) (rest / 10)
written_next {n} {bytes} {from} {rest} w h = step from w (written-room w h)
  where
    step : (k : ℕ) → Written n bytes k rest → 0 < k → Written n (set bytes (k - 1) (48 + rest % 10)) (k - 1) (rest / 10)
    step zero v l = absurd (omega arith)
    step (suc k) v l = let z : suc k - 1 ≡ k = omega arith in rw z (written-more n bytes k rest v h)
