-- A set's tree over names that differ: its text is the set's, and the names in it are those of the set's labels.
use mathlib.Core.Path.{◌≡◌, refl, sym, ap, ◌∙◌}
use mathlib.Core.Bool.{Bool, true, false, cond, ◌||◌}
use mathlib.Core.List.{List, [], ◌∷◌, ◌++◌, map, append_assoc, Memᴰ}
use mathlib.Core.Option.{Option, some}
use Prim.Native.Nat.{ℕ, suc, ◌+◌, ◌≤◌, ◌<◌}
use native.Mathlib.Decide.{dec_lt}
use native.Mathlib.Omega.{arith}
use lib.Dec.{eqb}
use lib.ListN.{length, length-map}
use borrow.Author.Tests.{eq-eqb, ne_eqb, eqb-false}
use Rattle.columns.proofs.Laws.Bytes.{same_refl}
use Rattle.columns.proofs.Laws.Compared.{same-of_unequal}
use Rattle.lts.specs.Lists.{any_of, Rising, bind}
use Rattle.lts.specs.Names.{find_from}
use Rattle.lts.specs.inner.Range.{Differ}
use Rattle.lts.proofs.Lists.{map-to}
use Rattle.actl.specs.Actions.{Mask, in_set}
use Rattle.actl.specs.Grammar.{Name, Set, operand, union, name, any, except}
use Rattle.actl.specs.Meaning.{label_number}
use Rattle.actl.specs.inner.Show.{show_s}
use Rattle.written_back.specs.FormulaText.{members_from, joined, set_text}

-- The names of a table, as bytes.
abbrev pub bytes_of : List Name → List (List ℕ)
bytes_of K = map (λ n. n.bytes) K

-- The names of a set's labels, and the tree of a set.
abbrev pub kept_from : ℕ → List Name → Mask → List Name
kept_from a [] m = []
kept_from a (n ∷ K) m = cond (in_set m a) (n ∷ kept_from (suc a) K m) (kept_from (suc a) K m)

abbrev pub joined_to : Set → List Name → Set
joined_to x [] = x
joined_to x (n ∷ l) = joined_to (union x 0 0 (name n)) l

abbrev pub union_of : List Name → Set
union_of [] = operand any
union_of (n ∷ l) = joined_to (operand (name n)) l

abbrev set_of : ℕ → List Name → Set
set_of count l = cond (eqb (length l) count) (operand any) (cond (eqb (length l) 0) (operand (except 0 any)) (union_of l))

abbrev pub set_tree : List Name → Mask → Set
set_tree K m = set_of (length K) (kept_from 1 K m)

-- Its text.
members_kept : (a : ℕ) (K : List Name) (m : Mask) → members_from a (bytes_of K) m ≡ bytes_of (kept_from a K m)
members_kept a [] m = refl
members_kept a (n ∷ K) m = case (in_set m a) (members_kept (suc a) K m)
  where
    case : (b : Bool) → members_from (suc a) (bytes_of K) m ≡ bytes_of (kept_from (suc a) K m)
        → cond b (n.bytes ∷ members_from (suc a) (bytes_of K) m) (members_from (suc a) (bytes_of K) m)
        ≡ bytes_of (cond b (n ∷ kept_from (suc a) K m) (kept_from (suc a) K m))
    case true h = ap (λ l. n.bytes ∷ l) h
    case false h = h

joined_shown : (x : Set) (l : List Name) (s : List ℕ) → show_s (joined_to x l) s ≡ show_s x (bind (λ b. 124 ∷ b) (bytes_of l) ++ s)
joined_shown x [] s = refl
joined_shown x (n ∷ l) s =
    joined_shown (union x 0 0 (name n)) l s
    ∙ ap (λ r. show_s x (124 ∷ r)) (sym (append_assoc n.bytes (bind (λ b. 124 ∷ b) (bytes_of l)) s))

union_shown : (l : List Name) (s : List ℕ) → (length l ≡ 0 → ⊥) → show_s (union_of l) s ≡ joined (bytes_of l) ++ s
union_shown [] s h = absurd (h refl)
union_shown (n ∷ l) s h =
    joined_shown (operand (name n)) l s ∙ sym (append_assoc n.bytes (bind (λ b. 124 ∷ b) (bytes_of l)) s)

set-of_shown : (count : ℕ) (l : List Name) (s : List ℕ)
    → show_s (set_of count l) s ≡ cond (eqb (length l) count) (42 ∷ []) (cond (eqb (length l) 0) (126 ∷ 42 ∷ []) (joined (bytes_of l))) ++ s
set-of_shown count l s = case (eqb (length l) count) (eqb (length l) 0) refl
  where
    case : (p q : Bool) → eqb (length l) 0 ≡ q → show_s (cond p (operand any) (cond q (operand (except 0 any)) (union_of l))) s
        ≡ cond p (42 ∷ []) (cond q (126 ∷ 42 ∷ []) (joined (bytes_of l))) ++ s
    case true q e = refl
    case false true e = refl
    case false false e = union_shown l s (eqb-false (length l) 0 e)

pub set_shown : (K : List Name) (m : Mask) (s : List ℕ) → show_s (set_tree K m) s ≡ set_text (bytes_of K) m ++ s
unfolding set_text
set_shown K m s =
    let l = kept_from 1 K m in
    let count : length K ≡ length (bytes_of K) = sym (length-map K (λ n. n.bytes)) in
    let kept : length l ≡ length (bytes_of l) = sym (length-map l (λ n. n.bytes)) in
    set-of_shown (length K) l s
    ∙ ((λ i. cond (eqb (kept i) (count i)) (42 ∷ []) (cond (eqb (kept i) 0) (126 ∷ 42 ∷ []) (joined (bytes_of l))) ++ s)
    ∙ ap (λ (k : List (List ℕ)). cond (eqb (length k) (length (bytes_of K))) (42 ∷ [])
    (cond (eqb (length k) 0) (126 ∷ 42 ∷ []) (joined k)) ++ s) (sym (members_kept 1 K m)))

-- How many names are kept: all of them, or none.
kept-few : (a : ℕ) (K : List Name) (m : Mask) → length (kept_from a K m) ≤ length K
kept-few a [] m = omega arith
kept-few a (n ∷ K) m = case (in_set m a) (kept-few (suc a) K m)
  where
    case : (t : Bool) → length (kept_from (suc a) K m) ≤ length K
        → length (cond t (n ∷ kept_from (suc a) K m) (kept_from (suc a) K m)) ≤ suc (length K)
    case true h = omega arith
    case false h = omega arith

pub kept-all : (a : ℕ) (K : List Name) (m : Mask) → length (kept_from a K m) ≡ length K
    → (b : ℕ) → a ≤ b → b < a + length K → in_set m b ≡ true
kept-all a [] m e b l h = absurd (omega arith)
kept-all a (n ∷ K) m e b l h = case (in_set m a) refl e (dec_lt a b) (kept-all (suc a) K m)
  where
    case : (t : Bool) → in_set m a ≡ t → length (cond t (n ∷ kept_from (suc a) K m) (kept_from (suc a) K m)) ≡ suc (length K) → Dec (a < b)
        → (length (kept_from (suc a) K m) ≡ length K → (c : ℕ) → suc a ≤ c → c < suc a + length K → in_set m c ≡ true) → in_set m b ≡ true
    case true d z (yes w) ih = ih (omega arith) b (omega arith) (omega arith)
    case true d z (no w) ih = let same : b ≡ a = omega arith in ap (in_set m) same ∙ d
    case false d z w ih = absurd (omega (arith, kept-few (suc a) K m))

pub kept-none : (a : ℕ) (K : List Name) (m : Mask) → length (kept_from a K m) ≡ 0
    → (b : ℕ) → a ≤ b → b < a + length K → in_set m b ≡ false
kept-none a [] m e b l h = absurd (omega arith)
kept-none a (n ∷ K) m e b l h = case (in_set m a) refl e (dec_lt a b) (kept-none (suc a) K m)
  where
    case : (t : Bool) → in_set m a ≡ t → length (cond t (n ∷ kept_from (suc a) K m) (kept_from (suc a) K m)) ≡ 0 → Dec (a < b)
        → (length (kept_from (suc a) K m) ≡ 0 → (c : ℕ) → suc a ≤ c → c < suc a + length K → in_set m c ≡ false) → in_set m b ≡ false
    case true d z w ih = absurd (omega arith)
    case false d z (yes w) ih = ih z b (omega arith) (omega arith)
    case false d z (no w) ih = let same : b ≡ a = omega arith in ap (in_set m) same ∙ d

-- Names that differ are found at their numbers.
abbrev pub FoundFrom : (List ℕ → Option ℕ) → ℕ → List Name → Type 0
FoundFrom look a [] = Unit {0}
FoundFrom look a (n ∷ K) = (look n.bytes ≡ some a) × FoundFrom look (suc a) K

found_alike : (look other : List ℕ → Option ℕ) (a : ℕ) (K : List Name) → ((n : Name) → Memᴰ n K → other n.bytes ≡ look n.bytes)
    → FoundFrom look a K → FoundFrom other a K
found_alike look other a [] h r = tt
found_alike look other a (n ∷ K) h (e, r) =
    (h n (Memᴰ.head refl) ∙ e, found_alike look other (suc a) K (λ k d. h k (Memᴰ.tail d)) r)

pub names-found : (a : ℕ) (K : List Name) → Rising Differ (bytes_of K) → FoundFrom (find_from a (bytes_of K)) a K
unfolding find_from
names-found a [] r = tt
names-found a (n ∷ K) (r, s) =
    let N = bytes_of K in (
      ap (λ t. cond t (some a) (find_from (suc a) N n.bytes)) (same_refl n.bytes),
      found_alike (find_from (suc a) N) (find_from a (n.bytes ∷ N)) (suc a) K
          (λ k d. ap (λ t. cond t (some a) (find_from (suc a) N k.bytes))
          (same-of_unequal n.bytes k.bytes (r k.bytes (map-to (λ (n : Name). n.bytes) d))))
          (names-found (suc a) K s),
    )

-- Which labels the names of a set stand for.
abbrev pub is_one : (List ℕ → Option ℕ) → ℕ → Name → Bool
is_one look b n = eqb b (label_number (look n.bytes))

module _ (look : List ℕ → Option ℕ) (m : Mask) (b : ℕ) where
  abbrev is_b : Name → Bool
  is_b n = is_one look b n

  not-here : (n : Name) (a : ℕ) (l : List Name) → look n.bytes ≡ some a → (b ≡ a → ⊥) → (is_b n || any_of is_b l) ≡ any_of is_b l
  not-here n a l e h = ap (λ o. eqb b (label_number o) || any_of is_b l) e ∙ ap (λ t. t || any_of is_b l) (ne_eqb b a h)

  kept-below : (a : ℕ) (K : List Name) → FoundFrom look a K → b < a → any_of is_b (kept_from a K m) ≡ false
  kept-below a [] r h = refl
  kept-below a (n ∷ K) (e, r) h = case (in_set m a) (kept-below (suc a) K r (omega arith))
    where
      case : (t : Bool) → any_of is_b (kept_from (suc a) K m) ≡ false
          → any_of is_b (cond t (n ∷ kept_from (suc a) K m) (kept_from (suc a) K m)) ≡ false
      case true ih = not-here n a (kept_from (suc a) K m) e (λ z. omega arith) ∙ ih
      case false ih = ih

  pub kept_at : (a : ℕ) (K : List Name) → FoundFrom look a K → a ≤ b → b < a + length K
      → any_of (is_one look b) (kept_from a K m) ≡ in_set m b
  kept_at a [] r l h = absurd (omega arith)
  kept_at a (n ∷ K) (e, r) l h = case (in_set m a) refl (dec_lt a b) (kept_at (suc a) K r)
    where
      case : (t : Bool) → in_set m a ≡ t → Dec (a < b)
          → (suc a ≤ b → b < suc a + length K → any_of is_b (kept_from (suc a) K m) ≡ in_set m b)
          → any_of is_b (cond t (n ∷ kept_from (suc a) K m) (kept_from (suc a) K m)) ≡ in_set m b
      case true d (yes w) ih = not-here n a (kept_from (suc a) K m) e (λ z. omega arith) ∙ ih (omega arith) (omega arith)
      case true d (no w) ih =
          let same : b ≡ a = omega arith in
          ap (λ o. eqb b (label_number o) || any_of is_b (kept_from (suc a) K m)) e
          ∙ (ap (λ t. t || any_of is_b (kept_from (suc a) K m)) (eq-eqb b a same) ∙ sym (ap (in_set m) same ∙ d))
      case false d (yes w) ih = ih (omega arith) (omega arith)
      case false d (no w) ih =
          let same : b ≡ a = omega arith in
          kept-below (suc a) K r (omega arith) ∙ sym (ap (in_set m) same ∙ d)
