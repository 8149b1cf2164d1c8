-- Laws of two columns in a row: what it says that both hold a number, and that not both do.
use mathlib.Core.Path.{◌≡◌, refl, ap, ◌∙◌}
use mathlib.Core.List.{List}
use Prim.Native.Nat.{ℕ, ◌+◌}
use native.Mathlib.Omega.{arith}
use lib.ListN.{take, drop}
use Rattle.columns.specs.Columns.{column}
use Rattle.columns.specs.inner.Read.{column_at}
use Rattle.columns.proofs.Laws.ColumnsRead.{ColumnAt, column-found, column-lacking}
use Rattle.table_lines.specs.inner.LineReplies.{pair_of, pair_at}
use Rattle.std.specs.Prelude.{Option, Some, None}

module _ (s : List ℕ) (at a b : ℕ) where
  pub pair_found : pair_at s at ≡ Some (a, b) → ColumnAt s at a × ColumnAt s (at + 6) b
  unfolding pair_at
  pair_found e = step (column_at s at) refl (column_at s (at + 6)) refl e
    where
      step : (x : Option ℕ) → column_at s at ≡ x → (y : Option ℕ) → column_at s (at + 6) ≡ y → pair_of x y ≡ Some (a, b) → ColumnAt s at a × ColumnAt s (at + 6) b
      step (Some v) p (Some w) q h =
          let both : ◌≡◌ {A = ℕ × ℕ} (v, w) (a, b) = cc in
          let first : v ≡ a = ap (λ (p : ℕ × ℕ). p.0) both in
          let second : w ≡ b = ap (λ (p : ℕ × ℕ). p.1) both in
          (column-found s at a (p ∙ ap Some first), column-found s (at + 6) b (q ∙ ap Some second))
      step (Some v) p None q h = let z : ◌≡◌ {A = ℕ} 0 1 = cc in absurd (omega arith)
      step None p y q h = let z : ◌≡◌ {A = ℕ} 0 1 = cc in absurd (omega arith)

  pub pair_lacking : pair_at s at ≡ None → take 6 (drop at s) ≡ column a → take 6 (drop (at + 6) s) ≡ column b → ⊥
  unfolding pair_at
  pair_lacking e f g = step (column_at s at) refl (column_at s (at + 6)) refl e
    where
      step : (x : Option ℕ) → column_at s at ≡ x → (y : Option ℕ) → column_at s (at + 6) ≡ y → pair_of x y ≡ None → ⊥
      step (Some v) p (Some w) q h = let z : ◌≡◌ {A = ℕ} 0 1 = cc in omega arith
      step (Some v) p None q h = column-lacking s (at + 6) b q g
      step None p y q h = column-lacking s at a p f
