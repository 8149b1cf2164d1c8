-- Laws of what is kept of a formula file while it is read, and of its text.
use mathlib.Core.Path.{◌≡◌, refl, sym, ap, ◌∙◌, subst}
use mathlib.Core.Bool.{Bool, true, false, cond}
use mathlib.Core.List.{List, [], ◌∷◌, ◌++◌, flatten, append-nil, append_assoc}
use Prim.Native.Nat.{ℕ, zero, suc, ◌+◌, ◌-◌, ◌^◌, ◌≤◌, ◌<◌, min}
use native.Mathlib.Decide.{dec_le}
use native.Mathlib.Omega.{arith}
use lib.Dec.{eqb}
use borrow.Author.Tests.{eq-eqb, ne_eqb}
use lib.ListN.{length, get_or, take, drop, length-append, length-take, length-drop, drop_of_length-le}
use lib.Seq.{take_all, take-length, take-take, take_at, take-append-add, drop-drop, length-take-le, get_or-append-add}
use Rattle.lts.proofs.Laws.Compare.{get_d_any}
use Rattle.explanations.specs.inner.Sizes.{kept_length}
use Rattle.files.specs.inner.Scan.{last_byte, scan_start, largest_count, scanned_after, kept_after, Scan, scan_chunks, ScanOf}
use Rattle.files.specs.inner.Files.{length_without_end, kept_text}
use Rattle.explanations.specs.Printed.{without_end}
use Rattle.files.specs.declared.Scanned.{Scanned}

module _ (head chunk : List ℕ) (at : ℕ) (room : length head ≡ kept_length) where
  abbrev behind : List ℕ
  behind = drop (at + length chunk) head

  -- As far as there is room: the first bytes up to the chunk's end, and what stood behind it.
  kept_parts : kept_after head at chunk ≡ take kept_length (take at head ++ chunk) ++ behind
  kept_parts = by (dec_le kept_length (at + length chunk))
    where
      by : Dec (kept_length ≤ at + length chunk) → kept_after head at chunk ≡ take kept_length (take at head ++ chunk) ++ behind
      by (yes h) =
          let full : length head ≤ at + length chunk = omega arith in
          ap (λ l. take kept_length (take at head ++ (chunk ++ l))) (drop_of_length-le head full)
          ∙ ap (λ l. take kept_length (take at head ++ l)) (append-nil chunk)
          ∙ sym (ap (λ l. take kept_length (take at head ++ chunk) ++ l) (drop_of_length-le head full) ∙ append-nil (take kept_length (take at head ++ chunk)))
      by (no h) =
          let before = length-append (take at head) chunk in
          ap (take kept_length) (sym (append_assoc (take at head) chunk behind))
          ∙ take_all kept_length ((take at head ++ chunk) ++ behind)
          (omega (arith, length-append (take at head ++ chunk) behind, before, length-take at head, length-drop (at + length chunk) head))
          ∙ ap (λ l. l ++ behind) (sym (take_all kept_length (take at head ++ chunk) (omega (arith, before, length-take at head))))

-- The bytes as `keep` leaves them: n of the chunk, at `at`.
module _ (head chunk : List ℕ) (at n : ℕ) (room : length head ≡ kept_length) where
  abbrev part : List ℕ
  part = take n chunk

  -- What stands behind `at`, and nothing behind that.
  abbrev rest : List ℕ
  rest = take (length head - at) (drop at head)

  pub kept_part : at < kept_length → n ≡ min (length chunk) (kept_length - at)
      → take at head ++ ((take (length part) part ++ drop (length part) rest) ++ drop (length head - at) (drop at head)) ≡ kept_after head at chunk
  kept_part h e =
      let short : length (drop at head) ≤ length head - at = omega (arith, length-drop at head) in
      (λ i. take at head ++ ((take-length part i ++ drop (length part) (take_all (length head - at) (drop at head) short i)) ++ drop_of_length-le (drop at head) short i))
      ∙ ap (λ l. take at head ++ l) (append-nil (part ++ drop (length part) (drop at head)))
      ∙ ap (λ l. take at head ++ (part ++ l)) (drop-drop (length part) at head)
      ∙ by (dec_le (length chunk) (kept_length - at))
      ∙ sym (append_assoc (take at head) (take (kept_length - at) chunk) (drop (at + length chunk) head))
      ∙ ap (λ l. l ++ drop (at + length chunk) head) (sym whole)
      ∙ sym (kept_parts head chunk at room)
    where
      whole : take kept_length (take at head ++ chunk) ≡ take at head ++ take (kept_length - at) chunk
      whole =
          let z : kept_length ≡ length (take at head) + (kept_length - at) = omega (arith, length-take at head) in
          ap (λ k. take k (take at head ++ chunk)) z ∙ take-append-add (take at head) chunk (kept_length - at)

      by : Dec (length chunk ≤ kept_length - at)
          → take at head ++ (part ++ drop (at + length part) head) ≡ take at head ++ (take (kept_length - at) chunk ++ drop (at + length chunk) head)
      by (yes g) =
          let i : part ≡ chunk = take_all n chunk (omega arith) in
          let j : take (kept_length - at) chunk ≡ chunk = take_all (kept_length - at) chunk g in
          cc
      by (no g) =
          let i : n ≡ kept_length - at = omega arith in
          let a : length head ≤ at + length part = omega (arith, length-take n chunk) in
          let b : length head ≤ at + length chunk = omega arith in
          let j : drop (at + length part) head ≡ [] = drop_of_length-le head a in
          let k : drop (at + length chunk) head ≡ [] = drop_of_length-le head b in
          cc

pub kept_whole : (head chunk : List ℕ) (at : ℕ) → length head ≡ kept_length → kept_length ≤ at → head ≡ kept_after head at chunk
kept_whole head chunk at room h =
    sym (ap (λ l. take kept_length (l ++ (chunk ++ drop (at + length chunk) head))) (take_all at head (omega arith))
    ∙ take_at head (chunk ++ drop (at + length chunk) head) kept_length room)

-- A chunk behind the bytes of a file.
take_again : (k : ℕ) (file chunk : List ℕ) → take k (take k file ++ chunk) ≡ take k (file ++ chunk)
take_again zero file chunk = refl
take_again (suc k) [] chunk = refl
take_again (suc k) (b ∷ file) chunk = ap (λ l. b ∷ l) (take_again k file chunk)

module _ (file head chunk : List ℕ) (room : length head ≡ kept_length) (begun : take (length file) head ≡ take kept_length file) where
  first : take kept_length (take (length file) head ++ chunk) ≡ take kept_length (file ++ chunk)
  first = ap (λ l. take kept_length (l ++ chunk)) begun ∙ take_again kept_length file chunk

  abbrev all : ℕ
  all = length file + length chunk

  wide : length (take kept_length (file ++ chunk)) ≡ min kept_length all
  wide = length-take kept_length (file ++ chunk) ∙ ap (min kept_length) (length-append file chunk)

  kept-is : kept_after head (length file) chunk ≡ take kept_length (file ++ chunk) ++ drop all head
  kept-is = kept_parts head chunk (length file) room ∙ ap (λ l. l ++ drop all head) first

  kept-room : length (kept_after head (length file) chunk) ≡ kept_length
  kept-room = ap length kept-is ∙ length-append (take kept_length (file ++ chunk)) (drop all head) ∙ omega (arith, wide, length-drop all head)

  kept-begun : take (length (file ++ chunk)) (kept_after head (length file) chunk) ≡ take kept_length (file ++ chunk)
  kept-begun = (λ i. take (length-append file chunk i) (kept-is i)) ∙ by (dec_le all kept_length)
    where
      by : Dec (all ≤ kept_length) → take all (take kept_length (file ++ chunk) ++ drop all head) ≡ take kept_length (file ++ chunk)
      by (yes h) = take_at (take kept_length (file ++ chunk)) (drop all head) all (omega (arith, wide))
      by (no h) =
          let g : length head ≤ all = omega arith in
          take_all all (take kept_length (file ++ chunk) ++ drop all head) (omega (arith, wide, length-append (take kept_length (file ++ chunk)) (drop all head), length-drop all head))
          ∙ ap (λ l. take kept_length (file ++ chunk) ++ l) (drop_of_length-le head g) ∙ append-nil (take kept_length (file ++ chunk))

last_after : (other : ℕ) (file chunk : List ℕ) → last_byte (last_byte other file) chunk ≡ last_byte other (file ++ chunk)
last_after other file [] = sym (ap (last_byte other) (append-nil file))
last_after other file (b ∷ chunk) =
    let end : length (file ++ (b ∷ chunk)) - 1 ≡ length file + (length (b ∷ chunk) - 1) = omega (arith, length-append file (b ∷ chunk)) in
    get_d_any (last_byte other file) other (b ∷ chunk) (length (b ∷ chunk) - 1) (omega arith)
    ∙ sym (ap (λ k. get_or (file ++ (b ∷ chunk)) k other) end ∙ get_or-append-add file (b ∷ chunk) (length (b ∷ chunk) - 1) other)

pub scanned-none : (scanned : Scanned) (chunk : List ℕ) → scanned.length ≤ largest_count → length chunk ≡ 0 → scanned ≡ scanned_after scanned chunk
scanned-none scanned [] h e =
    let z : scanned.length ≡ min (scanned.length + 0) largest_count = omega arith in
    λ i. record { length = z i; last = scanned.last }
scanned-none scanned (b ∷ chunk) h e = absurd (omega arith)

pub start-scanned : (head : List ℕ) → length head ≡ kept_length → ScanOf [] head scan_start
start-scanned head room = record { counted = refl; ends = refl; begun = refl; room = room }

pub chunk_scanned : (file head chunk : List ℕ) (scanned : Scanned) → ScanOf file head scanned → length file + length chunk < 2 ^ 64
    → ScanOf (file ++ chunk) (kept_after head scanned.length chunk) (scanned_after scanned chunk)
chunk_scanned file head chunk scanned h fits =
    subst (λ at. ScanOf (file ++ chunk) (kept_after head at chunk) (scanned_after scanned chunk)) (sym h.counted)
    (record {
      counted = omega (arith, h.counted, length-append file chunk);
      ends = ap (λ b. last_byte b chunk) h.ends ∙ last_after 0 file chunk;
      begun = kept-begun file head chunk h.room h.begun;
      room = kept-room file head chunk h.room h.begun;
    })

pub chunks-scanned : (file : List ℕ) (s : Scan) (chunks : List (List ℕ)) → ScanOf file s.head s.scanned → length file + length (flatten chunks) < 2 ^ 64
    → ScanOf (file ++ flatten chunks) (scan_chunks s chunks).head (scan_chunks s chunks).scanned
unfolding flatten
chunks-scanned file s [] h fits = subst (λ l. ScanOf l s.head s.scanned) (sym (append-nil file)) h
chunks-scanned file s (chunk ∷ chunks) h fits =
    let next : Scan = record { head = kept_after s.head s.scanned.length chunk; scanned = scanned_after s.scanned chunk } in
    let room = length-append chunk (flatten chunks) in
    subst (λ l. ScanOf l (scan_chunks next chunks).head (scan_chunks next chunks).scanned) (append_assoc file chunk (flatten chunks))
    (chunks-scanned (file ++ chunk) next chunks (chunk_scanned file s.head chunk s.scanned h (omega (arith, room))) (omega (arith, room, length-append file chunk)))

-- The length without the LF at the end.
module _ (scanned : Scanned) where
  pub none-length : scanned.length ≡ 0 → 0 ≡ length_without_end scanned
  none-length e = by (eqb scanned.last 10)
    where
      by : (b : Bool) → 0 ≡ cond b (scanned.length - 1) scanned.length
      by true = omega arith
      by false = sym e

  pub ended-length : scanned.last ≡ 10 → scanned.length - 1 ≡ length_without_end scanned
  ended-length e = sym (ap (λ b. cond b (scanned.length - 1) scanned.length) (eq-eqb scanned.last 10 e))

  pub unended-length : (scanned.last ≡ 10 → ⊥) → scanned.length ≡ length_without_end scanned
  unended-length h = sym (ap (λ b. cond b (scanned.length - 1) scanned.length) (ne_eqb scanned.last 10 h))

-- The text without the LF at its end.
without_cons : (b : ℕ) (x : Bool) (l m : List ℕ) → b ∷ cond x l m ≡ cond x (b ∷ l) (b ∷ m)
without_cons b true l m = refl
without_cons b false l m = refl

pub without_end_lem : (file : List ℕ) → without_end file ≡ cond (eqb (last_byte 0 file) 10) (take (length file - 1) file) file
without_end_lem [] = refl
without_end_lem (b ∷ []) = refl
without_end_lem (b ∷ c ∷ l) =
    let z : suc (suc (length l) - 1) ≡ suc (suc (length l)) - 1 = omega arith in
    ap (λ m. b ∷ m) (without_end_lem (c ∷ l))
    ∙ without_cons b (eqb (last_byte 0 (c ∷ l)) 10) (take (suc (length l) - 1) (c ∷ l)) (c ∷ l)
    ∙ ap (λ k. cond (eqb (get_or (b ∷ c ∷ l) k 0) 10) (take k (b ∷ c ∷ l)) (b ∷ c ∷ l)) z

module _ (file : List ℕ) where
  abbrev size : ℕ
  size = cond (eqb (last_byte 0 file) 10) (length file - 1) (length file)

  text-begins : without_end file ≡ take size file
  text-begins = without_end_lem file ∙ by (eqb (last_byte 0 file) 10)
    where
      by : (b : Bool) → cond b (take (length file - 1) file) file ≡ take (cond b (length file - 1) (length file)) file
      by true = refl
      by false = sym (take-length file)

  size-within : size ≤ length file
  size-within = by (eqb (last_byte 0 file) 10)
    where
      by : (b : Bool) → cond b (length file - 1) (length file) ≤ length file
      by true = omega arith
      by false = omega arith

module _ (file head : List ℕ) (scanned : Scanned) (h : ScanOf file head scanned) where
  size-scanned : length_without_end scanned ≡ size file
  size-scanned = λ i. cond (eqb (h.ends i) 10) (h.counted i - 1) (h.counted i)

  pub scanned-length : length_without_end scanned ≡ length (without_end file)
  scanned-length = size-scanned ∙ sym (ap length (text-begins file) ∙ length-take-le (size file) file (size-within file))

  -- The first 513 bytes of the text stand at the start of `head`.
  pub scanned-text : kept_text head scanned ≡ take kept_length (without_end file)
  scanned-text =
      let n : ℕ = min (size file) kept_length in
      let fits = size-within file in
      ap (λ k. take (min k kept_length) head) size-scanned
      ∙ sym (take-take n (length file) head (omega arith))
      ∙ ap (take n) h.begun
      ∙ take-take n kept_length file (omega arith)
      ∙ sym (ap (take kept_length) (text-begins file) ∙ by (dec_le (size file) kept_length))
    where
      by : Dec (size file ≤ kept_length) → take kept_length (take (size file) file) ≡ take (min (size file) kept_length) file
      by (yes g) =
          take_all kept_length (take (size file) file) (omega (arith, length-take (size file) file))
          ∙ ap (λ k. take k file) (let z : size file ≡ min (size file) kept_length = omega arith in z)
      by (no g) = take-take kept_length (size file) file (omega arith) ∙ ap (λ k. take k file) (let z : kept_length ≡ min (size file) kept_length = omega arith in z)
