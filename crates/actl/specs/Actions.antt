-- Definition 2 of document 000: action formulas; sets of labels as masks; step conditions. d gives the direction of each label.
use Rattle.std.specs.Prelude.{Bool, true, cond, not as negate, ◌&&◌, ◌||◌, ℕ, zero, suc, ◌+◌, ◌/◌, ◌%◌, ◌^◌, eqb}
use Rattle.lts.specs.Steps.{silent as isSilent}
use Rattle.lts.specs.Directions.{Direction, same_direction}

-- χ ::= a | ¬χ | χ ∨ χ, over label numbers. `any` is 01's `*`, Definition 2's "true". 02: "an operand `?` is all received labels and an
-- operand `!` all sent ones".
pub data Action : Type 0 where
  label : ℕ → Action
  any : Action
  directed : Direction → Action
  not : Action → Action
  or : Action → Action → Action

-- a ⊨ χ
abbrev pub satisfies : (ℕ → Direction) → ℕ → Action → Bool
satisfies d a (label b) = eqb a b
satisfies d a any = true
satisfies d a (directed w) = same_direction (d a) w
satisfies d a (not x) = negate (satisfies d a x)
satisfies d a (or x y) = satisfies d a x || satisfies d a y

-- A set of labels: bit a of the mask is label a.
abbrev pub Mask : Type 0
Mask = ℕ

-- 01: "Label 0 is in no set, so `~req` never admits a silent step."
unfoldable pub in_set : Mask → ℕ → Bool
in_set m a = negate (isSilent a) && eqb (m / 2 ^ a % 2) 1

-- κ(χ) = {a | a ⊨ χ}, of the labels 1 to n.
unfoldable pub mask_of : (ℕ → Direction) → ℕ → Action → Mask
mask_of d zero x = 0
mask_of d (suc n) x = mask_of d n x + cond (satisfies d (suc n) x) (2 ^ suc n) 0

-- 01: "A step condition is either the silent step or a set of labels."
pub data Cond : Type 0 where
  silent : Cond
  labels : Mask → Cond

unfoldable pub meets : Cond → ℕ → Bool
meets silent a = isSilent a
meets (labels m) a = in_set m a

-- 01: "each silent or meeting A"
unfoldable pub passes : Mask → ℕ → Bool
passes m a = isSilent a || in_set m a
