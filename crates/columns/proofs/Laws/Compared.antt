-- Laws of lists of bytes: when two are equal, and what holds of each member.
use mathlib.Core.Path.{◌≡◌, refl, sym, ◌∙◌}
use mathlib.Core.Bool.{Bool, true, false, true≢false}
use mathlib.Core.List.{List, [], ◌∷◌, ◌++◌}
use Prim.Native.Nat.{ℕ, zero, suc}
use lib.ListN.{take}
use Rattle.columns.specs.Bytes.{same_bytes}
use Rattle.columns.proofs.Laws.Bytes.{same_of, same-to}

pub same-of_unequal : (l m : List ℕ) → (l ≡ m → ⊥) → same_bytes l m ≡ false
same-of_unequal l m h = step (same_bytes l m) refl
  where
    step : (t : Bool) → same_bytes l m ≡ t → t ≡ false
    step true e = absurd (h (same_of l m e))
    step false e = refl

pub unequal_of-same : (l m : List ℕ) → same_bytes l m ≡ false → l ≡ m → ⊥
unequal_of-same l m e d = true≢false (sym (same-to l m d) ∙ e)

-- A fact of each member.
abbrev pub Each : (ℕ → Type 0) → List ℕ → Type 0
Each P [] = Unit {0}
Each P (b ∷ l) = P b × Each P l

module _ (P : ℕ → Type 0) where
  pub each_append : (l m : List ℕ) → Each P l → Each P m → Each P (l ++ m)
  each_append [] m h k = k
  each_append (b ∷ l) m h k = (h.0, each_append l m h.1 k)

  pub each_take : (n : ℕ) (l : List ℕ) → Each P l → Each P (take n l)
  each_take zero l h = tt
  each_take (suc n) [] h = tt
  each_take (suc n) (b ∷ l) h = (h.0, each_take n l h.1)

pub each_weaken : (P Q : ℕ → Type 0) → ((b : ℕ) → P b → Q b) → (l : List ℕ) → Each P l → Each Q l
each_weaken P Q f [] h = tt
each_weaken P Q f (b ∷ l) h = (f b h.0, each_weaken P Q f l h.1)
