-- Places of a text: the byte at one, the reader's step there, and blanks.
use mathlib.Core.Path.{◌≡◌, refl, ap, ◌∙◌}
use mathlib.Core.List.{List, [], ◌∷◌}
use Prim.Native.Nat.{ℕ, zero, suc, ◌+◌, ◌-◌, ◌≤◌, ◌<◌}
use native.Mathlib.Decide.{dec_le}
use native.Mathlib.Numerals.{add-one}
use native.Mathlib.Omega.{arith}
use lib.ListN.{length, get_or, drop, get_or-eq_default, drop_of_length-le}
use lib.Seq.{drop-cons}
use Rattle.actl.specs.inner.Show.{gap}
use Rattle.actl.specs.inner.Reader.{State, stop, read_byte, finish, proceed, run, refused}
use Rattle.actl.specs.inner.Cursor.{peek, Skipped}

pub get_d_any : (s : List ℕ) (i d e : ℕ) → i < length s → get_or s i d ≡ get_or s i e
get_d_any [] i d e h = absurd (omega arith)
get_d_any (b ∷ s) zero d e h = refl
get_d_any (b ∷ s) (suc i) d e h = get_d_any s i d e (omega arith)

pub peek-end : (s : List ℕ) (at : ℕ) → length s ≤ at → peek s at ≡ 256
peek-end s at h = get_or-eq_default s 256 h

pub inside : (s : List ℕ) (at : ℕ) → peek s at < 256 → at < length s
inside s at h = case (dec_le (length s) at)
  where
    case : Dec (length s ≤ at) → at < length s
    case (yes q) = absurd (omega (arith, peek-end s at q))
    case (no q) = omega arith

-- The byte at a place, and what is behind it.
pub byte_at : (s : List ℕ) (at b : ℕ) → peek s at ≡ b → b < 256 → drop at s ≡ b ∷ drop (at + 1) s
byte_at s at b e h = drop-cons s at 256 (inside s at (omega arith)) ∙ rw (add-one, e)

pub run-byte : (s : List ℕ) (at b : ℕ) (x : State) → peek s at ≡ b → b < 256
    → run (drop at s) x ≡ proceed (read_byte x b) (run (drop (at + 1) s)) (refused (drop at s))
run-byte s at b x e h = rw (byte_at s at b e h)

-- A state that stops at the byte there, and at the end.
pub run-stop : (s : List ℕ) (at : ℕ) (x : State) → at ≤ length s → finish x ≡ refused [] → read_byte x (peek s at) ≡ stop
    → run (drop at s) x ≡ refused (drop at s)
run-stop s at x w f e = case (dec_le (length s) at)
  where
    case : Dec (length s ≤ at) → run (drop at s) x ≡ refused (drop at s)
    case (yes q) = rw (drop_of_length-le s q, f)
    case (no q) = let d = drop-cons s at 256 (omega arith) in rw (d, e)

-- Blanks.
pub no_gap : (s : List ℕ) (i : ℕ) → drop i s ≡ gap (i - i) (drop i s)
no_gap s i = let e : i - i ≡ 0 = omega arith in rw e

gap_snoc : (n : ℕ) (s : List ℕ) → gap n (32 ∷ s) ≡ gap (suc n) s
gap_snoc zero s = refl
gap_snoc (suc n) s = ap (λ l. 32 ∷ l) (gap_snoc n s)

pub more-gap : (s : List ℕ) (at i : ℕ) → at ≤ i → i < length s → get_or s i 0 ≡ 32
    → drop at s ≡ gap (i - at) (drop i s) → drop at s ≡ gap (i + 1 - at) (drop (i + 1) s)
more-gap s at i u w b e =
    let d : i + 1 - at ≡ suc (i - at) = omega arith in
    let p : peek s i ≡ 32 = get_d_any s i 256 0 w ∙ b in
    rw d (e ∙ (ap (gap (i - at)) (byte_at s i 32 p (omega arith)) ∙ gap_snoc (i - at) (drop (i + 1) s)))

pub skipped : (s : List ℕ) (at i : ℕ) → at ≤ i → i ≤ length s → drop at s ≡ gap (i - at) (drop i s) → (peek s i ≡ 32 → ⊥) → Skipped s at i
skipped s at i u w e p = record { up = u; within = w; blanks = e; past = p }

-- A byte that does not stand at the end, or at a place where another does.
pub none-at-end : (s : List ℕ) (i b : ℕ) → length s ≤ i → b < 256 → peek s i ≡ b → ⊥
none-at-end s i b h w e = omega (arith, peek-end s i h)

pub other_byte : (s : List ℕ) (i b : ℕ) → i < length s → (get_or s i 0 ≡ b → ⊥) → peek s i ≡ b → ⊥
other_byte s i b w h e = h (get_d_any s i 0 256 w ∙ e)
