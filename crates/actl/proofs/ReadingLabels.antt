-- Names and their labels: the bytes of a name, the mask of its label, and the first name that the table lacks.
use mathlib.Core.Path.{◌≡◌, refl, sym, ap, ◌∙◌}
use mathlib.Core.Bool.{Bool, true, false, cond}
use mathlib.Core.List.{List, [], ◌∷◌, ◌++◌}
use mathlib.Core.Option.{Option, none, some}
use Prim.Native.Nat.{ℕ, zero, suc, ◌+◌, ◌*◌, ◌-◌, ◌^◌, ◌%◌, ◌≤◌, ◌<◌}
use native.Mathlib.Nat.{pow-succ'}
use native.Mathlib.Omega.{arith}
use lib.ListN.{length, take, drop, length-append, length-drop}
use lib.Pow.{shl_exact}
use lib.Seq.{take_at}
use Rattle.actl.specs.Sizes.{most_nodes}
use Rattle.columns.specs.Bytes.{same_bytes}
use Rattle.lts.specs.Names.{find_from, lookup}
use Rattle.lts.specs.Directions.{Direction, label_direction}
use Rattle.actl.specs.Actions.{Action, mask_of}
use Rattle.actl.specs.Grammar.{Disjunction, name}
use Rattle.actl.specs.Meaning.{label_number, labels_of}
use Rattle.actl.specs.Reading.{unknown_at}
use Rattle.actl.specs.inner.Show.{show_f}
use Rattle.actl.specs.inner.Mentions.{Mention, first_unknown}
use Rattle.actl.specs.inner.Cursor.{Named}
use Rattle.actl.specs.inner.Readers.{unknown_in, earlier, OperandRead}
use Rattle.actl.proofs.ReadingMasks.{mask-any, mask-none, mask-label}

-- The first name that the table lacks.
pub earlier-none : (l : ℕ) → earlier l none ≡ l
earlier-none zero = refl
earlier-none (suc l) = refl

pub earlier-first : (l at : ℕ) → l ≡ 0 → at + 1 ≡ earlier l (some at)
earlier-first zero at e = omega arith
earlier-first (suc l) at e = absurd (omega arith)

pub earlier-kept : (l : ℕ) (o : Option ℕ) → (l ≡ 0 → ⊥) → l ≡ earlier l o
earlier-kept zero o h = absurd (h refl)
earlier-kept (suc l) o h = refl

module _ (N : List (List ℕ)) (n : ℕ) where
  -- What comes first in the text is found first.
  pub earlier_append : (l : ℕ) (x y : List Mention) → earlier l (unknown_in N n (x ++ y)) ≡ earlier (earlier l (unknown_in N n x)) (unknown_in N n y)
  earlier_append l [] y = ap (λ k. earlier k (unknown_in N n y)) (sym (earlier-none l))
  earlier_append l (m ∷ x) y = case (lookup N m.name.bytes) l (earlier_append l x y)
    where
      at : ℕ
      at = n - length (m.name.bytes ++ m.behind)

      case : (f : Option ℕ) (k : ℕ) → earlier k (unknown_in N n (x ++ y)) ≡ earlier (earlier k (unknown_in N n x)) (unknown_in N n y)
          → earlier k (unknown_at f at (unknown_in N n (x ++ y))) ≡ earlier (earlier k (unknown_at f at (unknown_in N n x))) (unknown_in N n y)
      case none zero e = refl
      case none (suc k) e = refl
      case (some a) k e = e

pub first_unknown_lem : (N : List (List ℕ)) (f : Disjunction) (l : List Mention) → unknown_in N (length (show_f f [])) l ≡ first_unknown N f l
first_unknown_lem N f [] = refl
first_unknown_lem N f (m ∷ l) = ap (unknown_at (lookup N m.name.bytes) (length (show_f f []) - length (m.name.bytes ++ m.behind))) (first_unknown_lem N f l)

-- Where a name is found.
found_from : (k : ℕ) (l : List (List ℕ)) (y : List ℕ) (a : ℕ) → some a ≡ find_from k l y → (k ≤ a) × (a < k + length l)
unfolding find_from
found_from k [] y a e = let z : ◌≡◌ {A = ℕ} 0 1 = cc in absurd (omega arith)
found_from k (x ∷ l) y a e = case (same_bytes x y) e (found_from (suc k) l y a)
  where
    case : (t : Bool) → some a ≡ cond t (some k) (find_from (suc k) l y) → (some a ≡ find_from (suc k) l y → (suc k ≤ a) × (a < suc k + length l)) → (k ≤ a) × (a < k + suc (length l))
    case true d h = let z : a ≡ k = cc in omega arith
    case false d h = let z = h d in omega (arith, z.0, z.1)

pub found_range : (N : List (List ℕ)) (y : List ℕ) (a : ℕ) → some a ≡ lookup N y → (1 ≤ a) × (a ≤ length N)
found_range N y a e = let z = found_from 1 N y a e in omega (arith, z.0, z.1)

-- Shifts within a word.
pub shifted_all : (d : ℕ → Direction) (n : ℕ) → n ≤ most_nodes → 2 * 2 ^ n % 2 ^ 64 ≡ mask_of d n Action.any + 2
shifted_all d n h = shl_exact 2 n 64 (omega arith) (omega arith) ∙ (sym (pow-succ' 2 n) ∙ mask-any d n)

pub shifted_two : (k : ℕ) → k < 40 → 2 * 2 ^ k % 2 ^ 64 ≡ 2 ^ suc k
shifted_two k h = shl_exact 2 k 64 (omega arith) (omega arith) ∙ sym (pow-succ' 2 k)

pub shifted_one : (a : ℕ) → a ≤ 40 → 1 * 2 ^ a % 2 ^ 64 ≡ 2 ^ a
shifted_one a h = shl_exact 1 a 64 (omega arith) (omega arith) ∙ omega arith

module _ (N : List (List ℕ)) (s : List ℕ) (at lost to : ℕ) (h : Named s at to) where
  name_lengths : (length h.value.bytes ≡ to - at) × (length s - length (h.value.bytes ++ drop to s) ≡ at)
  name_lengths =
      let l = ap length h.moves.text in
      let w = h.moves.within in
      let u = h.up in
      let f = length-append h.value.bytes (drop to s) in
      let g = length-drop at s in
      let i = length-drop to s in
      omega arith

  name-read : take (to - at) (drop at s) ≡ h.value.bytes
  name-read = ap (take (to - at)) h.moves.text ∙ take_at h.value.bytes (drop to s) (to - at) name_lengths.0

  looked_up : lookup N (take (to - at) (drop at s)) ≡ lookup N h.value.bytes
  looked_up = ap (lookup N) name-read

  pub label-known : (a : ℕ) → some a ≡ lookup N (take (to - at) (drop at s)) → OperandRead N s at lost to (2 ^ a) lost
  label-known a f =
      let z : lookup N h.value.bytes ≡ some a = sym (f ∙ looked_up) in
      let r = found_range N (take (to - at) (drop at s)) a f in
      record {
        value = name h.value;
        up = h.up;
        moves = h.moves;
        means = sym (mask-label (label_direction N) (length N) a r.0 r.1) ∙ ap (λ o. labels_of N (Action.label (label_number o))) (sym z);
        lacks = sym (ap (λ o. earlier lost (unknown_at o (length s - length (h.value.bytes ++ drop to s)) none)) z ∙ earlier-none lost);
      }

  pub label_unknown : none ≡ lookup N (take (to - at) (drop at s)) → OperandRead N s at lost to 0 (earlier lost (some at))
  label_unknown f =
      let z : lookup N h.value.bytes ≡ none = sym (f ∙ looked_up) in
      record {
        value = name h.value;
        up = h.up;
        moves = h.moves;
        means = sym (mask-none (label_direction N) (length N) 0 (λ k l m q. omega arith)) ∙ ap (λ o. labels_of N (Action.label (label_number o))) (sym z);
        lacks = sym (ap (λ o. earlier lost (unknown_at o (length s - length (h.value.bytes ++ drop to s)) none)) z ∙ ap (λ q. earlier lost (some q)) name_lengths.1);
      }
