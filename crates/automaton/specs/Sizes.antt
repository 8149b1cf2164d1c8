-- The longest word.
use Rattle.std.specs.Prelude.{ℕ}

-- 01: "A word (at most 1,024 label numbers)"
abbrev pub longest_word : ℕ
longest_word = 1024
