-- What is pending, in an array that is used as a stack: stores above it leave it, and a store at its top is one byte more.
use mathlib.Core.Path.{◌≡◌, refl, ap, ◌∙◌}
use mathlib.Core.List.{List, ◌∷◌}
use Prim.Native.Nat.{ℕ, zero, suc, ◌+◌, ◌≤◌, ◌<◌}
use native.Mathlib.Omega.{arith}
use lib.ListN.{length, set, length-set}
use lib.Seq.{get_or-set_same, get_or-set_other}
use Rattle.formula_walk.specs.inner.Walk.{stack_of}

pub stack_length : (b : List ℕ) (n : ℕ) → length (stack_of b n) ≡ n
stack_length b zero = refl
stack_length b (suc n) = ap suc (stack_length b n)

pub stack_kept : (b : List ℕ) (i x n : ℕ) → n ≤ i → stack_of (set b i x) n ≡ stack_of b n
stack_kept b i x zero h = refl
stack_kept b i x (suc n) h =
    let top = get_or-set_other b i n x 0 (λ e. omega arith) in
    let below = stack_kept b i x n (omega arith) in
    λ j. top j ∷ below j

pub stack_push : (b : List ℕ) (n x : ℕ) → n < length b → stack_of (set b n x) (suc n) ≡ x ∷ stack_of b n
stack_push b n x h =
    let top = get_or-set_same b n x 0 h in
    let below = stack_kept b n x n (omega arith) in
    λ j. top j ∷ below j

-- The same where the new height is a sum.
pub stack_one : (b : List ℕ) (n x : ℕ) → n < length b → stack_of (set b n x) (n + 1) ≡ x ∷ stack_of b n
stack_one b n x h =
    let e : n + 1 ≡ suc n = omega arith in
    ap (stack_of (set b n x)) e ∙ stack_push b n x h

pub stack_two : (b : List ℕ) (n x y : ℕ) → n + 1 < length b → stack_of (set (set b n x) (n + 1) y) (n + 2) ≡ y ∷ x ∷ stack_of b n
stack_two b n x y h =
    let e : n + 2 ≡ suc (n + 1) = omega arith in
    ap (stack_of (set (set b n x) (n + 1) y)) e
    ∙ (stack_push (set b n x) (n + 1) y (omega (arith, length-set b n x)) ∙ ap (λ l. y ∷ l) (stack_one b n x (omega arith)))
