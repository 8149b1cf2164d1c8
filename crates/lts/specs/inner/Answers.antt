-- What functions answer: whether there is a value, a number read from bytes, an answer to a question.
use Rattle.std.specs.Prelude.{◌≡◌, Bool, true, false, ℕ, ◌<◌}
use Rattle.std.proofs.Math.Option.{Option, none, some}

abbrev pub is_some : {A : Type 0} → Option A → Bool
is_some none = false
is_some (some a) = true

-- A number read from bytes: which one it is, and what the bytes can hold.
pub record Counted (limit n r : ℕ) : Type 0 where
  pub count : r ≡ n
  pub fits : r < limit

-- An answer to a question.
pub record Decides (P : Type 0) (r : Bool) : Type 0 where
  pub yes : r ≡ true → P
  pub no : r ≡ false → P → ⊥
