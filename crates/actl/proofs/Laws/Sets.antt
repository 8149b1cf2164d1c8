-- Runs of stores: one before a run, a run behind a run, and what a list holds afterwards.
use mathlib.Core.Path.{◌≡◌, refl, ap, ◌∙◌}
use mathlib.Core.List.{List, [], ◌∷◌, ◌++◌}
use Prim.Native.Nat.{ℕ, zero, suc, ◌+◌, ◌≤◌, ◌<◌}
use native.Mathlib.Nat.{add-zero, add-suc, suc-add}
use native.Mathlib.Numerals.{add-one}
use native.Mathlib.Omega.{arith}
use lib.ListN.{length, get_or, set, length-set}
use lib.Seq.{sets, set_comm, get_or-set_same, get_or-set_other}

module _ {A : Type 0} where
  set-sets : (l : List A) (i k : ℕ) (v : A) (vs : List A) → k < i → set (sets l i vs) k v ≡ sets (set l k v) i vs
  set-sets l i k v [] h = refl
  set-sets l i k v (x ∷ vs) h = set-sets (set l i x) (suc i) k v vs (omega arith) ∙ ap (λ m. sets m (suc i) vs) (set_comm l i k x v (λ e. omega arith))

  pub set_before : (l : List A) (k : ℕ) (v : A) (vs : List A) → set (sets l (k + 1) vs) k v ≡ sets l k (v ∷ vs)
  set_before l k v vs = rw add-one (set-sets l (suc k) k v vs (omega arith))

  pub sets_append : (l : List A) (i : ℕ) (vs ws : List A) → sets (sets l i vs) (i + length vs) ws ≡ sets l i (vs ++ ws)
  sets_append l i [] ws = rw add-zero
  sets_append l i (v ∷ vs) ws = rw (add-suc, ← suc-add) (sets_append (set l i v) (suc i) vs ws)

  below-sets : (l : List A) (i k : ℕ) (vs : List A) (d : A) → k < i → get_or (sets l i vs) k d ≡ get_or l k d
  below-sets l i k [] d h = refl
  below-sets l i k (v ∷ vs) d h = below-sets (set l i v) (suc i) k vs d (omega arith) ∙ get_or-set_other l i k v d (λ e. omega arith)

  pub get_d_sets : (l : List A) (i : ℕ) (vs : List A) (j : ℕ) (d : A) → i + length vs ≤ length l → j < length vs → get_or (sets l i vs) (i + j) d ≡ get_or vs j d
  get_d_sets l i [] j d h k = absurd (omega arith)
  get_d_sets l i (v ∷ vs) zero d h k =
      rw add-zero (below-sets (set l i v) (suc i) i vs d (omega arith) ∙ get_or-set_same l i v d (omega arith))
  get_d_sets l i (v ∷ vs) (suc j) d h k = rw (add-suc, ← suc-add) (get_d_sets (set l i v) (suc i) vs j d (omega (arith, length-set l i v)) (omega arith))
