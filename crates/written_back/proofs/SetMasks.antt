-- Over names that differ: the mask of a set's tree is the set, and none of its names is lacking.
use mathlib.Core.Path.{◌≡◌, refl, sym, ap, ◌∙◌}
use mathlib.Core.Bool.{Bool, true, false, cond, ◌||◌, or_assoc}
use mathlib.Core.List.{List, [], ◌∷◌}
use mathlib.Core.Option.{none, some}
use Prim.Native.Nat.{ℕ, suc, ◌+◌, ◌≤◌}
use native.Mathlib.Omega.{arith}
use lib.Dec.{eqb}
use lib.ListN.{length, length-map}
use borrow.Author.Tests.{eqb-true, eqb-false}
use Rattle.lts.specs.Sizes.{most_labels}
use Rattle.lts.specs.Lists.{any_of, Rising}
use Rattle.lts.specs.Names.{lookup}
use Rattle.lts.specs.Directions.{Direction, label_direction}
use Rattle.lts.specs.inner.Range.{Differ}
use Rattle.lts.proofs.Booleans.{or-false}
use Rattle.actl.specs.Actions.{satisfies, Mask, in_set}
use Rattle.actl.specs.Grammar.{Name, Set, operand, union, name, any, except, Piece, byte, named, pieces_s}
use Rattle.actl.specs.Meaning.{action_of_set, mask_in}
use Rattle.actl.specs.Prepared.{mask_within}
use Rattle.actl.specs.Reading.{unknown_at, unknown_from}
use Rattle.written_back.proofs.Masks.{mask_by_labels}
use Rattle.written_back.proofs.SetTrees.{bytes_of, kept_from, joined_to, union_of, set_tree, kept-all, kept-none}
use Rattle.written_back.proofs.SetTrees.{FoundFrom, names-found, is_one, kept_at}

module _ (N : List (List ℕ)) (d : ℕ → Direction) (b : ℕ) where
  abbrev is_b : Name → Bool
  is_b n = is_one (lookup N) b n

  joined_satisfied : (x : Set) (l : List Name)
      → satisfies d b (action_of_set N (joined_to x l)) ≡ (satisfies d b (action_of_set N x) || any_of is_b l)
  joined_satisfied x [] = or-false (satisfies d b (action_of_set N x))
  joined_satisfied x (n ∷ l) = joined_satisfied (union x 0 0 (name n)) l ∙ or_assoc (satisfies d b (action_of_set N x)) (is_b n) (any_of is_b l)

  union_satisfied : (l : List Name) → (length l ≡ 0 → ⊥) → satisfies d b (action_of_set N (union_of l)) ≡ any_of is_b l
  union_satisfied [] h = absurd (h refl)
  union_satisfied (n ∷ l) h = joined_satisfied (operand (name n)) l

  set_satisfied : (K : List Name) (m : Mask) → FoundFrom (lookup N) 1 K → 1 ≤ b → b ≤ length K
      → satisfies d b (action_of_set N (set_tree K m)) ≡ in_set m b
  set_satisfied K m r l h = case (eqb (length k) (length K)) refl (eqb (length k) 0) refl
    where
      k : List Name
      k = kept_from 1 K m

      case : (p : Bool) → eqb (length k) (length K) ≡ p → (q : Bool) → eqb (length k) 0 ≡ q
          → satisfies d b (action_of_set N (cond p (operand any) (cond q (operand (except 0 any)) (union_of k)))) ≡ in_set m b
      case true e q f = sym (kept-all 1 K m (eqb-true (length k) (length K) e) b l (omega arith))
      case false e true f = sym (kept-none 1 K m (eqb-true (length k) 0 f) b l (omega arith))
      case false e false f = union_satisfied k (eqb-false (length k) 0 f) ∙ kept_at (lookup N) m b 1 K r l (omega arith)

pub set-read : (K : List Name) (m : Mask) → Rising Differ (bytes_of K) → length K ≤ most_labels → mask_within (length K) m ≡ true
    → mask_in (bytes_of K) (set_tree K m) ≡ m
set-read K m r few within =
    let N = bytes_of K in
    let count : length K ≡ length N = sym (length-map K (λ n. n.bytes)) in
    mask_by_labels (label_direction N) (length N) m (action_of_set N (set_tree K m)) (omega arith)
    (ap (λ n. mask_within n m) (sym count) ∙ within)
    (λ a l h. set_satisfied N (label_direction N) a K m (names-found 1 K r) l (omega arith))

-- Pieces none of whose names is lacking.
pub record Clear (N : List (List ℕ)) (l : List Piece) : Type 0 where
  pub none-lacking : (i : ℕ) → unknown_from N i l ≡ none

abbrev Found : List (List ℕ) → List Name → Type 0
Found N [] = Unit {0}
Found N (n ∷ l) = ((a : ℕ) × (lookup N n.bytes ≡ some a)) × Found N l

module _ (N : List (List ℕ)) where
  pub clear_byte : (b : ℕ) {l : List Piece} → Clear N l → Clear N (byte b ∷ l)
  clear_byte b h = record { none-lacking = λ i. h.none-lacking (suc i) }

  clear_name : (n : Name) {l : List Piece} → (a : ℕ) × (lookup N n.bytes ≡ some a) → Clear N l → Clear N (named n ∷ l)
  clear_name n {l} (a, e) h = record {
    none-lacking = λ i. ap (λ o. unknown_at o i (unknown_from N (i + length n.bytes) l)) e ∙ h.none-lacking (i + length n.bytes);
  }

  kept-found : (a : ℕ) (K : List Name) (m : Mask) → FoundFrom (lookup N) a K → Found N (kept_from a K m)
  kept-found a [] m r = tt
  kept-found a (n ∷ K) m (e, r) = case (in_set m a) (kept-found (suc a) K m r)
    where
      case : (t : Bool) → Found N (kept_from (suc a) K m) → Found N (cond t (n ∷ kept_from (suc a) K m) (kept_from (suc a) K m))
      case true h = ((a, e), h)
      case false h = h

  joined_clear : (x : Set) (l : List Name) → Found N l → ((p : List Piece) → Clear N p → Clear N (pieces_s x p))
      → (p : List Piece) → Clear N p → Clear N (pieces_s (joined_to x l) p)
  joined_clear x [] r h p c = h p c
  joined_clear x (n ∷ l) (e, r) h p c =
      joined_clear (union x 0 0 (name n)) l r (λ q k. h (byte 124 ∷ named n ∷ q) (clear_byte 124 (clear_name n e k))) p c

  union_clear : (l : List Name) → Found N l → (p : List Piece) → Clear N p → Clear N (pieces_s (union_of l) p)
  union_clear [] r p c = clear_byte 42 c
  union_clear (n ∷ l) (e, r) p c = joined_clear (operand (name n)) l r (λ q k. clear_name n e k) p c

  pub set_clear : (K : List Name) (m : Mask) → FoundFrom (lookup N) 1 K → (p : List Piece) → Clear N p → Clear N (pieces_s (set_tree K m) p)
  set_clear K m r p c = case (eqb (length (kept_from 1 K m)) (length K)) (eqb (length (kept_from 1 K m)) 0)
    where
      case : (s t : Bool) → Clear N (pieces_s (cond s (operand any) (cond t (operand (except 0 any)) (union_of (kept_from 1 K m)))) p)
      case true t = clear_byte 42 c
      case false true = clear_byte 126 (clear_byte 42 c)
      case false false = union_clear (kept_from 1 K m) (kept-found 1 K m r) p c
