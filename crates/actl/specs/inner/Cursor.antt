-- What the methods of a cursor say, of a text s and places in it; and how the reader moves while a text is walked.
use Rattle.std.specs.Prelude.{◌≡◌, List, ◌++◌, ℕ, ◌+◌, ◌-◌, ◌≤◌, ◌<◌, length, get_or, drop}
use Rattle.lts.specs.inner.Sizes.{longest_name}
use Rattle.actl.specs.Grammar.{Name, name}
use Rattle.actl.specs.inner.Show.{gap}
use Rattle.actl.specs.inner.Reader.{State, operand_at, plug_o, run, refused}

-- The byte at a place; 256 at the end.
abbrev pub peek : List ℕ → ℕ → ℕ
peek s at = get_or s at 256

-- A place of the text that is no blank's.
pub record Token (s : List ℕ) (at : ℕ) : Type 0 where
  pub within : at ≤ length s
  pub past : peek s at ≡ 32 → ⊥

pub record Skipped (s : List ℕ) (at to : ℕ) : Type 0 where
  pub up : at ≤ to
  pub within : to ≤ length s
  pub blanks : drop at s ≡ gap (to - at) (drop to s)
  pub past : peek s to ≡ 32 → ⊥

-- From `at` to `to` stands the text w, and the reader comes from the state x to the state y, whatever stood before.
pub record Moves {K : Type 0} (s : List ℕ) (at to : ℕ) (w : List ℕ → List ℕ) (x y : K → State) : Type 0 where
  pub up : at ≤ to
  pub within : to ≤ length s
  pub text : drop at s ≡ w (drop to s)
  pub reads : (k : K) → run (drop at s) (x k) ≡ run (drop to s) (y k)

-- From `at` on the reader, in the state x, is refused at `to`, whatever stood before.
pub record Fails {K : Type 0} (s : List ℕ) (at to : ℕ) (x : K → State) : Type 0 where
  pub within : to ≤ length s
  pub reads : (k : K) → run (drop at s) (x k) ≡ refused (drop to s)

pub record Marked (s : List ℕ) (at mark to : ℕ) : Type 0 where
  pub here : peek s at ≡ mark
  pub next : to ≡ at + 1
  pub within : at < length s

-- A mark, and the blanks behind it.
pub record Tokened (s : List ℕ) (at mark to : ℕ) : Type 0 where
  pub here : peek s at ≡ mark
  pub skipped : Skipped s (at + 1) to

-- Two bytes at the cursor.
pub record Keyword (s : List ℕ) (at first second to : ℕ) : Type 0 where
  pub one : Marked s at first (at + 1)
  pub two : Marked s (at + 1) second to

-- A name, up to the first byte that it cannot have.
pub record Named (s : List ℕ) (at to : ℕ) : Type 0 where
  pub value : Name
  pub up : at < to
  pub short : to ≤ at + longest_name
  pub moves : Moves s at to (λ r. value.bytes ++ r) operand_at (plug_o (name value))
