-- Whether a place is in a mask.
use Rattle.std.specs.Prelude.{Bool, ℕ, ◌/◌, ◌%◌, ◌^◌, eqb}

abbrev pub bit_at : ℕ → ℕ → Bool
bit_at m q = eqb (m / 2 ^ q % 2) 1
