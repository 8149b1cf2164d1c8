-- The reader's moves, a piece of text at a time.
use mathlib.Core.Path.{◌≡◌, refl, sym, ap, ◌∙◌, subst}
use mathlib.Core.Bool.{cond}
use mathlib.Core.List.{List, [], ◌∷◌}
use Prim.Native.Nat.{ℕ, zero, suc, ◌+◌, ◌-◌, ◌≤◌, ◌<◌}
use native.Mathlib.Decide.{dec_le}
use native.Mathlib.Omega.{arith}
use borrow.Author.Tests.{ne_eqb}
use lib.ListN.{length, drop, drop_of_length-le}
use lib.Seq.{drop-cons}
use Rattle.actl.specs.inner.Show.{gap}
use Rattle.actl.specs.inner.Reader.{State, ReaderStep, go, stop, on, read_byte, finish, proceed, run, refused}
use Rattle.actl.specs.inner.Cursor.{peek, Token, Skipped, Moves, Fails, Marked, Tokened}
use Rattle.formula_cursor.proofs.ReadingPlaces.{inside, byte_at, run-byte, run-stop}
use Rattle.actl.proofs.Complete.{gaps}

-- Blanks count up.
abbrev up : ℕ → ℕ → ℕ
up zero g = g
up (suc n) g = up n (suc g)

pub on-other : (b m : ℕ) (y z : ReaderStep) → (b ≡ m → ⊥) → on b m y z ≡ z
on-other b m y z h = ap (λ t. cond t y z) (ne_eqb b m h)

pub skipped-token : {s : List ℕ} {at d : ℕ} → Skipped s at d → Token s d
skipped-token h = record { within = h.within; past = h.past }

module _ {K : Type 0} {s : List ℕ} where
  pub then : {a b c : ℕ} {v w : List ℕ → List ℕ} {x y z : K → State} → Moves s a b v x y → Moves s b c w y z → Moves s a c (λ r. v (w r)) x z
  then {v} p q = record {
    up = omega (arith, p.up, q.up);
    within = q.within;
    text = p.text ∙ ap v q.text;
    reads = λ k. p.reads k ∙ q.reads k;
  }

  pub fail : {a b c : ℕ} {v : List ℕ → List ℕ} {x y : K → State} → Moves s a b v x y → Fails s b c y → Fails s a c x
  fail p q = record { within = q.within; reads = λ k. p.reads k ∙ q.reads k }

  -- At some of the contexts.
  pub at_only : {J : Type 0} {a b : ℕ} {v : List ℕ → List ℕ} {x y : K → State} → (f : J → K) → Moves s a b v x y
      → Moves s a b v (λ j. x (f j)) (λ j. y (f j))
  at_only f p = record { up = p.up; within = p.within; text = p.text; reads = λ j. p.reads (f j) }

  pub fail_only : {J : Type 0} {a b : ℕ} {x : K → State} → (f : J → K) → Fails s a b x → Fails s a b (λ j. x (f j))
  fail_only f p = record { within = p.within; reads = λ j. p.reads (f j) }

  pub byte : (at b : ℕ) {x y : K → State} → peek s at ≡ b → b < 256 → ((k : K) → read_byte (x k) b ≡ go (y k)) → Moves s at (at + 1) (λ r. b ∷ r) x y
  byte at b {x} {y} e h p = record {
    up = omega arith;
    within = omega (arith, inside s at (omega arith));
    text = byte_at s at b e h;
    reads = λ k. run-byte s at b (x k) e h ∙ ap (λ v. proceed v (run (drop (at + 1) s)) (refused (drop at s))) (p k);
  }

  pub skip : (x : ℕ → K → State) → ((g : ℕ) (k : K) → read_byte (x g k) 32 ≡ go (x (suc g) k))
      → {at d : ℕ} → Skipped s at d → Moves s at d (gap (d - at)) (x 0) (x (d - at))
  skip x h {at} {d} k = record {
    up = k.up;
    within = k.within;
    text = k.blanks;
    reads = λ i. ap (λ l. run l (x 0 i)) k.blanks ∙ gaps (λ g. x g i) (λ g. h g i) (d - at) (drop d s);
  }

  pub stops : {at : ℕ} → at ≤ length s → {x : K → State} → ((k : K) → finish (x k) ≡ refused [])
      → ((k : K) → read_byte (x k) (peek s at) ≡ stop) → Fails s at at x
  stops {at} t {x} f e = record { within = t; reads = λ k. run-stop s at (x k) t (f k) (e k) }

  -- Two states that go on alike.
  pub alike : {at : ℕ} → at ≤ length s → {x y : K → State} → ((k : K) → finish (x k) ≡ finish (y k))
      → ((k : K) → read_byte (x k) (peek s at) ≡ read_byte (y k) (peek s at)) → Moves s at at (λ r. r) x y
  alike {at} t {x} {y} f e = record { up = omega arith; within = t; text = refl; reads = λ k. case k (dec_le (length s) at) }
    where
      case : (k : K) → Dec (length s ≤ at) → run (drop at s) (x k) ≡ run (drop at s) (y k)
      case k (yes q) = let d = drop_of_length-le s q in ap (λ l. run l (x k)) d ∙ (f k ∙ ap (λ l. run l (y k)) (sym d))
      case k (no q) =
          let d = drop-cons s at 256 (omega arith) in
          ap (λ l. run l (x k)) d ∙ (ap (λ v. proceed v (run (drop (suc at) s)) (refused (peek s at ∷ drop (suc at) s))) (e k)
          ∙ ap (λ l. run l (y k)) (sym d))

  -- Two names for a state.
  pub equal : {at : ℕ} → at ≤ length s → {x y : K → State} → ((k : K) → x k ≡ y k) → Moves s at at (λ r. r) x y
  equal {at} t e = record { up = omega arith; within = t; text = refl; reads = λ k. ap (run (drop at s)) (e k) }

  -- Two names for a text.
  pub written_as : {at to : ℕ} {v w : List ℕ → List ℕ} {x y : K → State} → ((r : List ℕ) → v r ≡ w r) → Moves s at to v x y → Moves s at to w x y
  written_as {to} e m = record { up = m.up; within = m.within; text = m.text ∙ e (drop to s); reads = m.reads }

  pub marked : {at to mark : ℕ} {x y : K → State} → Marked s at mark to → mark < 256
      → ((k : K) → read_byte (x k) mark ≡ go (y k)) → Moves s at to (λ r. mark ∷ r) x y
  marked {at} {mark} {x} {y} h l p = subst (λ n. Moves s at n (λ r. mark ∷ r) x y) (sym h.next) (byte at mark h.here l p)

  -- A mark with the blanks behind it.
  pub tokened : {at to mark : ℕ} {x : K → State} (y : ℕ → K → State) → Tokened s at mark to → mark < 256
      → ((k : K) → read_byte (x k) mark ≡ go (y 0 k)) → ((g : ℕ) (k : K) → read_byte (y g k) 32 ≡ go (y (suc g) k))
      → Moves s at to (λ r. mark ∷ gap (to - (at + 1)) r) x (y (to - (at + 1)))
  tokened {at} {mark} y h l p q = then (byte at mark {y = y 0} h.here l p) (skip y q h.skipped)
