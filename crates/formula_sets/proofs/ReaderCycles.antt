-- What the readers that call each other are measured by: the unread bytes, and among readers at one place their rank in the cycle.
use mathlib.Core.Path.{◌≡◌}
use mathlib.Core.List.{List}
use Prim.Native.Nat.{ℕ, suc, ◌+◌, ◌*◌, ◌-◌, ◌≤◌, ◌<◌}
use native.Mathlib.Nat.{suc-mul, mul-le-mul_right}
use native.Mathlib.Omega.{arith}
use lib.ListN.{length}
use Rattle.actl.specs.inner.Cursor.{Tokened}
use Rattle.actl.specs.inner.Readers.{ReaderStart}
use Rattle.formula_cursor.proofs.ReadingMoves.{skipped-token}

-- The measure of a reader of this rank among so many.
abbrev pub unread : ℕ → ℕ → List ℕ → ℕ → ℕ
unread members rank s at = (length s - at) * members + rank

-- Further on in the text every member may be called.
pub unread_falls : (s : List ℕ) (at d members own rank t : ℕ) → at < d → d ≤ length s → unread members own s at ≡ t → rank < members → unread members rank s d < t
unread_falls s at d members own rank t up within e h =
    let fewer : suc (length s - d) ≤ length s - at = omega arith in
    omega (arith, suc-mul (length s - d) members, mul-le-mul_right members fewer)

-- And at the same place those of a lower rank.
pub unread_stays : (s : List ℕ) (at d members own rank t : ℕ) → at ≤ d → unread members own s at ≡ t → rank < own → unread members rank s d < t
unread_stays s at d members own rank t up e h =
    let fewer : length s - d ≤ length s - at = omega arith in
    omega (arith, mul-le-mul_right members fewer)

-- And so behind a token.
module _ {s : List ℕ} {at mark d : ℕ} (k : Tokened s at mark d) where
  pub token-falls : (members own rank t : ℕ) → unread members own s at ≡ t → rank < members → unread members rank s d < t
  token-falls members own rank t = unread_falls s at d members own rank t (omega (arith, k.skipped.up)) k.skipped.within

  pub start-behind : {b : List ℕ} → ReaderStart b s at → ReaderStart b s d
  start-behind h = record { table = h.table; short = h.short; token = skipped-token k.skipped }
