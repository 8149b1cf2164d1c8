-- What the accessors of prepared bytes answer, and which bytes they take.
use Rattle.std.specs.Prelude.{◌≡◌, List, ℕ, ◌<◌, Option, Some, None}
use Rattle.std.proofs.Math.Option as math
use Rattle.lts.specs.Steps.{Step}
use Rattle.lts.specs.inner.Prepared.{transition_at}
use Rattle.tables.specs.declared.prepared.Transition.{Transition}

abbrev pub step_in : Transition → Step
step_in r = record { from = r.from; label = r.label; to = r.to }

-- The transition in slot k.
pub record StepRead (b : List ℕ) (k : ℕ) (r : Transition) : Type 0 where
  pub step : step_in r ≡ transition_at b k
  pub from_byte : r.from < 256
  pub label_byte : r.label < 256
  pub to_byte : r.to < 256

-- What is found, as a definition that looks for it says so.
abbrev pub found_in : Option ℕ → math.Option ℕ
found_in (Some k) = math.some k
found_in None = math.none
