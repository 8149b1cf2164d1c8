-- Bytes that are slots followed by zeros: read off byte by byte, and put together again.
use mathlib.Core.Path.{◌≡◌, refl, sym, ap, ap₂, ◌∙◌}
use mathlib.Core.List.{List, [], ◌∷◌, ◌++◌, map, append_assoc, append-nil}
use Prim.Native.Nat.{ℕ, zero, suc, ◌+◌, ◌-◌, ◌*◌, ◌≤◌, ◌<◌}
use native.Mathlib.Nat.{zero-mul, suc-mul}
use native.Mathlib.Omega.{arith}
use lib.ListN.{length, take, drop, replicate, length-drop, length-replicate, get_or-replicate, get_or-append}
use lib.Seq.{length-take-le, take-add, get_or-take, get_or-drop, get_or-append-add, ext_get_or}
use Rattle.columns.specs.Bytes.{padded}
use Rattle.lts.specs.inner.Lists.{up_from}
use Rattle.lts.specs.Lists.{bind}
use Rattle.lts.specs.inner.Prepared.{byte_at}
use Rattle.lts.proofs.Lists.{up_from_snoc, bind_append}
use Rattle.lts.proofs.Laws.Contents.{map-up_from-length, map-up_from-at}

pub bind-map : {A B C : Type 0} (g : B → List C) (h : A → B) (l : List A) → bind g (map h l) ≡ bind (λ x. g (h x)) l
bind-map g h [] = refl
bind-map g h (x ∷ l) = ap (λ m. g (h x) ++ m) (bind-map g h l)

-- A beginning, byte by byte.
pub take-bytes : (n : ℕ) (s : List ℕ) → n ≤ length s → take n s ≡ map (byte_at s) (up_from 0 n)
take-bytes n s h =
    ext_get_or 0 (take n s) (map (byte_at s) (up_from 0 n)) (length-take-le n s h ∙ sym (map-up_from-length (byte_at s) n))
    (λ i k. let few : i < n = omega (arith, length-take-le n s h) in get_or-take n s i 0 few ∙ sym (map-up_from-at (byte_at s) n i 0 few))

pub take-zeros : (n : ℕ) (s : List ℕ) → n ≤ length s → ((i : ℕ) → i < n → byte_at s i ≡ 0) → take n s ≡ replicate n 0
take-zeros n s h z =
    ext_get_or 0 (take n s) (replicate n 0) (length-take-le n s h ∙ sym (length-replicate n 0))
    (λ i k. let few : i < n = omega (arith, length-take-le n s h) in get_or-take n s i 0 few ∙ (z i few ∙ sym (get_or-replicate n i 0 0 few)))

pub slots-are : (f : ℕ → List ℕ) (w : ℕ) (s : List ℕ) (n : ℕ) → ((k : ℕ) → k < n → take w (drop (k * w) s) ≡ f k) → take (n * w) s ≡ bind f (up_from 0 n)
slots-are f w s zero h = ap (λ (m : ℕ). take m s) (zero-mul w)
slots-are f w s (suc n) h =
    ap (λ (m : ℕ). take m s) (suc-mul n w)
    ∙ (take-add (n * w) w s
    ∙ (ap₂ (λ (a b : List ℕ). a ++ b) (slots-are f w s n (λ k l. h k (omega arith))) (h n (omega arith) ∙ sym (append-nil (f n)))
    ∙ (sym (bind_append f (up_from 0 n) (n ∷ [])) ∙ ap (bind f) (sym (up_from_snoc n)))))

-- Slots with zeros behind them.
pub filled : (f : ℕ → List ℕ) (w n total : ℕ) (s : List ℕ) → n * w ≤ total → total ≤ length s
    → ((k : ℕ) → k < n → take w (drop (k * w) s) ≡ f k) → ((i : ℕ) → n * w ≤ i → i < total → byte_at s i ≡ 0) → take total s ≡ padded total (bind f (up_from 0 n))
filled f w n total s p q h z =
    let front : take (n * w) s ≡ bind f (up_from 0 n) = slots-are f w s n h in
    let size : length (bind f (up_from 0 n)) ≡ n * w = ap length (sym front) ∙ length-take-le (n * w) s (omega arith) in
    let whole : n * w + (total - n * w) ≡ total = omega arith in
    let back : take (total - n * w) (drop (n * w) s) ≡ replicate (total - n * w) 0
    = take-zeros (total - n * w) (drop (n * w) s) (omega (arith, length-drop (n * w) s)) (λ i l. get_or-drop (n * w) s i 0 ∙ z (n * w + i) (omega arith) (omega arith)) in
    ap (λ (m : ℕ). take m s) (sym whole)
    ∙ (take-add (n * w) (total - n * w) s
    ∙ (ap₂ (λ (a b : List ℕ). a ++ b) front back ∙ ap (λ (m : ℕ). bind f (up_from 0 n) ++ replicate (total - m) 0) (sym size)))

-- What stands behind a padded list's own bytes.
pub padded-zero : (n : ℕ) (l z : List ℕ) (i : ℕ) → length l ≤ i → i < n → byte_at (padded n l ++ z) i ≡ 0
padded-zero n l z i p q =
    let place : length l + (i - length l) ≡ i = omega arith in
    let few : i - length l < n - length l = omega arith in
    ap₂ byte_at (append_assoc l (replicate (n - length l) 0) z) (sym place)
    ∙ (get_or-append-add l (replicate (n - length l) 0 ++ z) (i - length l) 0
    ∙ (get_or-append (replicate (n - length l) 0) z 0 (i - length l) (rw length-replicate few) ∙ get_or-replicate (n - length l) (i - length l) 0 0 few))
