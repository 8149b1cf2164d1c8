-- What is asked of two texts answers the figure of what was accepted, or a refusal, whose number is not 0.
use Rattle.std.specs.Prelude.{◌≡◌, ℕ, Result, Ok, Err}
use Rattle.replies.specs.declared.Answer.{Answer}

-- It says what an answer does of which P holds.
abbrev pub Answered : (Answer → Type 0) → Result ℕ Answer → Type 0
Answered P (Ok figure) = P (record { number = 0; figure = figure })
Answered P (Err a) = (a.number ≡ 0 → ⊥) × P a
