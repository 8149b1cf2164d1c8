-- Laws of slots that are filled: what two tests in a row answer.
use mathlib.Core.Path.{◌≡◌, sym, subst}
use mathlib.Core.Bool.{Bool, true, false, not}
use mathlib.Core.List.{List}
use Prim.Native.Nat.{ℕ}
use borrow.Author.Tests.{not-true, not-false}
use Rattle.lts.specs.inner.Answers.{Decides}
use Rattle.lts.specs.inner.Check.{ZerosFrom}
use Rattle.lts.proofs.Laws.Decides.{decided_no, decided_by}
use Rattle.table_check.specs.inner.Filled.{Filled}

module _ {Held : Type 0} (b : List ℕ) (to : ℕ) (r : Bool) (d : Decides Held r) where
  pub unfilled : (from : ℕ) → not r ≡ true → Decides (Filled Held b from to) false
  unfilled from e = decided_no (λ f. d.no (not-true _ e) f.held)

  -- The zeros start behind as many slots as are counted.
  pub filled : (from : ℕ → ℕ) (n m : ℕ) → n ≡ m → not r ≡ false → (z : Bool) → Decides (ZerosFrom b (from n) to) z → Decides (Filled Held b (from m) to) z
  filled from n m same e z zeros =
      decided_by zeros
      (λ all. record { held = d.yes (not-false _ e); behind = subst (λ k. ZerosFrom b (from k) to) same all })
      (λ f. subst (λ k. ZerosFrom b (from k) to) (sym same) f.behind)
