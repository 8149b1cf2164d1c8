-- The entries of a list: how many there are, each by its place, and as bytes.
use mathlib.Core.Path.{◌≡◌, refl, sym, ap, ◌∙◌}
use mathlib.Core.Bool.{Bool, true, false, cond}
use mathlib.Core.List.{List, [], ◌∷◌, ◌++◌}
use Prim.Native.Nat.{ℕ, zero, suc, ◌+◌, ◌*◌, ◌/◌, ◌≤◌, ◌<◌}
use native.Mathlib.Numerals.{add-one}
use native.Mathlib.Omega.{arith}
use lib.ListN.{length, get_or, set, take, drop, length-take, length-set}
use lib.Seq.{take-nil, take-take, take-suc, take-suc-set, drop-drop}
use Rattle.columns.specs.Bytes.{same_bytes}
use Rattle.columns.specs.Columns.{column, value_at}
use Rattle.std.specs.Prelude.{unwrap_or}
use Rattle.columns.specs.inner.Read.{column_if, column_at}
use Rattle.lts.specs.Sizes.{most_states}
use Rattle.starts.specs.inner.Search.{enough_starts}
use Rattle.verdict_text.specs.VerdictsText.{entry_in, entries_within, entries_in}
use Rattle.verdict_text.specs.inner.Entries.{ListRead}
use Rattle.verdict_text.specs.inner.Sizes.{list_length}

-- What six columns hold.
pub entry_of-column : (list : List ℕ) (at : ℕ) → entry_in (take 6 (drop at list)) ≡ unwrap_or (column_at list at) most_states
unfolding column_at
entry_of-column list at = by (same_bytes (take 6 (drop at list)) (column (value_at at list))) (value_at at list)
  where
    by : (b : Bool) (v : ℕ) → cond b v most_states ≡ unwrap_or (column_if b v) most_states
    by true v = refl
    by false v = refl

within-length : (n : ℕ) (l : List ℕ) → length (entries_within n l) ≡ n
within-length zero l = refl
within-length (suc n) l = ap suc (within-length n (drop 6 l))

within-at : (n : ℕ) (l : List ℕ) (i : ℕ) → i < n → get_or (entries_within n l) i 0 ≡ entry_in (take 6 (drop (i * 6) l))
within-at zero l i h = absurd (omega arith)
within-at (suc n) l zero h = refl
within-at (suc n) l (suc i) h =
    let e : 6 + i * 6 ≡ suc i * 6 = omega arith in
    within-at n (drop 6 l) i (omega arith) ∙ ap (λ k. entry_in (take 6 k)) (drop-drop (i * 6) 6 l ∙ ap (λ k. drop k l) e)

pub entries-count : (list : List ℕ) → length (entries_in list) ≡ (length list + 5) / 6
unfolding entries_in
entries-count list = within-length ((length list + 5) / 6) list

pub entries_at : (list : List ℕ) (i : ℕ) → i < length (entries_in list) → get_or (entries_in list) i 0 ≡ entry_in (take 6 (drop (i * 6) list))
unfolding entries_in
entries_at list i h = within-at ((length list + 5) / 6) list i (omega (arith, entries-count list))

-- The first i entries stand in `starts`.
abbrev pub ReadBelow : List ℕ → List ℕ → ℕ → Type 0
ReadBelow list starts i = (i ≤ length (entries_in list)) × (take i starts ≡ take i (entries_in list)) × (length starts ≡ enough_starts)

pub read-on : (list starts : List ℕ) (i v : ℕ) → ReadBelow list starts i → i < length (entries_in list) → i < enough_starts
    → v ≡ entry_in (take 6 (drop (i * 6) list)) → ReadBelow list (set starts i v) (i + 1)
read-on list starts i v (few, same, places) h room e = (
  omega arith,
  ap (λ k. take k (set starts i v)) (add-one i)
      ∙ take-suc-set starts i v (omega arith)
      ∙ (λ k. same k ++ ((e ∙ sym (entries_at list i h)) k ∷ []))
      ∙ sym (take-suc (entries_in list) i 0 h)
      ∙ ap (λ k. take k (entries_in list)) (sym (add-one i)),
  length-set starts i v ∙ places,
)

pub read_all : (list starts : List ℕ) (i : ℕ) → ReadBelow list starts i → length (entries_in list) ≤ i → ListRead list starts i
read_all list starts i (few, same, places) h = record { few = few; same = same; stops = λ b. absurd (omega arith); places = places }

pub read_stopped : (list starts : List ℕ) (i e : ℕ) → ReadBelow list starts i → i < length (entries_in list)
    → e ≡ entry_in (take 6 (drop (i * 6) list)) → most_states ≤ e → ListRead list starts i
read_stopped list starts i e (few, same, places) h d large =
    record { few = few; same = same; stops = λ b. omega (arith, d, entries_at list i h); places = places }

-- The first 257 entries of a list are those of its first 1,542 bytes.
drop-take : {A : Type 0} (n m : ℕ) (l : List A) → drop n (take (n + m) l) ≡ take m (drop n l)
drop-take zero m l = let e : 0 + m ≡ m = omega arith in ap (λ k. take k l) e
drop-take (suc n) m [] = ap (drop (suc n)) (take-nil (suc n + m)) ∙ sym (take-nil m)
drop-take (suc n) m (x ∷ l) = let e : suc n + m ≡ suc (n + m) = omega arith in ap (λ k. drop (suc n) (take k (x ∷ l))) e ∙ drop-take n m l

within-begun : (k n : ℕ) (l : List ℕ) → k ≤ n → entries_within k (take (k * 6) l) ≡ take k (entries_within n l)
within-begun zero n l h = refl
within-begun (suc k) zero l h = absurd (omega arith)
within-begun (suc k) (suc n) l h =
    let e : suc k * 6 ≡ 6 + k * 6 = omega arith in
    let first : take 6 (take (suc k * 6) l) ≡ take 6 l = take-take 6 (suc k * 6) l (omega arith) in
    let rest : drop 6 (take (suc k * 6) l) ≡ take (k * 6) (drop 6 l) = ap (λ j. drop 6 (take j l)) e ∙ drop-take 6 (k * 6) l in
    (λ i. entry_in (first i) ∷ entries_within k (rest i)) ∙ ap (λ j. entry_in (take 6 l) ∷ j) (within-begun k n (drop 6 l) (omega arith))

pub entries-begun : (list : List ℕ) → list_length ≤ length list → entries_in (take list_length list) ≡ take enough_starts (entries_in list)
unfolding entries_in
entries-begun list h =
    let n : (length (take list_length list) + 5) / 6 ≡ enough_starts = omega (arith, length-take list_length list) in
    ap (λ k. entries_within k (take list_length list)) n ∙ within-begun enough_starts ((length list + 5) / 6) list (omega arith)
