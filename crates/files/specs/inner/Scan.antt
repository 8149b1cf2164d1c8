-- What is kept of a formula file while it is read chunk by chunk: its length, its last byte and its first 513 bytes.
use Rattle.std.specs.Prelude.{◌≡◌, List, [], ◌∷◌, ◌++◌, ℕ, ◌+◌, ◌-◌, ◌^◌, min, length, get_or, take, drop}
use Rattle.explanations.specs.inner.Sizes.{kept_length}
use Rattle.files.specs.declared.Scanned.{Scanned}

-- The last byte of a list; the given one if there is none.
abbrev pub last_byte : ℕ → List ℕ → ℕ
last_byte other bytes = get_or bytes (length bytes - 1) other

-- Before the first byte.
abbrev pub scan_start : Scanned
scan_start = record { length = 0; last = 0 }

-- The largest number that a count holds.
abbrev pub largest_count : ℕ
largest_count = 2 ^ 64 - 1

-- The length and the last byte once a chunk has come. The count stays at the largest number where the sum is larger.
abbrev pub scanned_after : Scanned → List ℕ → Scanned
scanned_after scanned chunk = record {
  length = min (scanned.length + length chunk) largest_count;
  last = last_byte scanned.last chunk;
}

-- The 513 bytes of `head` once a chunk has come behind `at` bytes: it is written there, as far as there is room.
abbrev pub kept_after : List ℕ → ℕ → List ℕ → List ℕ
kept_after head at chunk = take kept_length (take at head ++ (chunk ++ drop (at + length chunk) head))

-- Both together, chunk by chunk.
pub record Scan : Type 0 where
  pub head : List ℕ
  pub scanned : Scanned

abbrev pub scan_chunks : Scan → List (List ℕ) → Scan
scan_chunks s [] = s
scan_chunks s (chunk ∷ chunks) =
    scan_chunks (record { head = kept_after s.head s.scanned.length chunk; scanned = scanned_after s.scanned chunk }) chunks

-- What is kept is that of a file: its length, its last byte, and its first 513 bytes in `head`.
pub record ScanOf (file head : List ℕ) (scanned : Scanned) : Type 0 where
  pub counted : scanned.length ≡ length file
  pub ends : scanned.last ≡ last_byte 0 file
  pub begun : take (length file) head ≡ take kept_length file
  pub room : length head ≡ kept_length
