-- The verdict, told by what building wrote.
use Rattle.std.specs.Prelude.{◌||◌, ℕ, eqb, ltb}
use Rattle.automaton.specs.Bytes.{bit_of}
use Rattle.automaton.specs.inner.Search.{explains}

-- 01: "If nothing explains the verdict, there is one row, not final, and no edges". A formula of class 1 holds exactly if something explains its
-- verdict, one of class 2 exactly if nothing does. The count of edges, the final mark of row 0, the class.
abbrev pub verdict_told : ℕ → ℕ → ℕ → ℕ
verdict_told edges mark class = bit_of (explains class (ltb 0 edges || eqb mark 1))
