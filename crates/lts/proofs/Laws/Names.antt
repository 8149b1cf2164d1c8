-- Names in slots: comparing one, and looking one up slot by slot.
use mathlib.Core.Path.{◌≡◌, refl, sym, ap, ap₂, ◌∙◌}
use mathlib.Core.Bool.{Bool, true, false, cond, ◌||◌}
use mathlib.Core.List.{List, [], ◌∷◌, ◌++◌, map}
use mathlib.Core.Option.{none, some}
use Prim.Native.Nat.{ℕ, suc, ◌+◌, ◌-◌, ◌*◌, ◌≤◌, ◌<◌}
use native.Mathlib.Numerals.{add-one}
use native.Mathlib.Omega.{arith}
use lib.ListN.{length, get_or, take, drop, length-take, length-drop}
use Rattle.lts.specs.Sizes.{name_slot_length}
use Rattle.columns.specs.Bytes.{same_bytes}
use Rattle.columns.proofs.Laws.Compared.{same-of_unequal}
use Rattle.lts.specs.inner.Lists.{up_from}
use Rattle.lts.specs.inner.Sizes.{longest_name}
use Rattle.lts.specs.Names.{find_from, lookup}
use Rattle.lts.specs.Directions.{Direction, mark_of}
use Rattle.lts.specs.Reading.{used}
use Rattle.lts.specs.inner.Slots.{stored_name, stored_names}
use Rattle.lts.specs.inner.Answers.{is_some}
use Rattle.lts.proofs.Laws.NameRuns.{IsStem}
use Rattle.lts.proofs.Laws.NameDirections.{three_names}
use Rattle.columns.proofs.Laws.Bytes.{same_of}

-- The name in slot k: one of another length differs, and it is the part of the slots that starts behind the length.
module _ (b : List ℕ) (k : ℕ) (name : List ℕ) where
  pub stored_differs : k * name_slot_length + name_slot_length ≤ length b → length name ≤ longest_name → (get_or b (k * name_slot_length) 0 ≡ length name → ⊥)
      → false ≡ same_bytes (stored_name b k) name
  stored_differs inside short d = sym (same-of_unequal (stored_name b k) name (λ z.
      d (omega (arith, ap length z, length-take (get_or b (k * name_slot_length) 0) (drop (k * name_slot_length + 1) b), length-drop (k * name_slot_length + 1) b))))

  pub stored_part : (p q : ℕ) → p ≡ k * name_slot_length + 1 → q ≡ p + get_or b (k * name_slot_length) 0 → same_bytes (take (q - p) (drop p b)) name ≡ same_bytes (stored_name b k) name
  stored_part p q starts ends = let size : q - p ≡ get_or b (k * name_slot_length) 0 = omega arith in ap₂ (λ n m. same_bytes (take n (drop m b)) name) size starts

-- A name looked for among the first `count` slots, from slot k.
pub record SoughtFrom (b : List ℕ) (count : ℕ) (name : List ℕ) (k : ℕ) : Type 0 where
  pub within : k ≤ count
  pub left : lookup (stored_names b count) name ≡ find_from (suc k) (map (stored_name b) (up_from k (count - k))) name

module _ (b : List ℕ) (count : ℕ) (name : List ℕ) where
  pub sought_starts : SoughtFrom b count name 0
  sought_starts = record { within = omega arith; left = let all : count ≡ count - 0 = omega arith in ap (λ n. find_from 1 (map (stored_name b) (up_from 0 n)) name) all }

  module _ (k : ℕ) (r : SoughtFrom b count name k) where
    sought_opened : k < count → lookup (stored_names b count) name
        ≡ cond (same_bytes (stored_name b k) name) (some (suc k)) (find_from (suc (suc k)) (map (stored_name b) (up_from (suc k) (count - suc k))) name)
    unfolding find_from
    sought_opened h = let more : count - k ≡ suc (count - suc k) = omega arith in r.left ∙ ap (λ n. find_from (suc k) (map (stored_name b) (up_from k n)) name) more

    pub sought_found : k < count → same_bytes (stored_name b k) name ≡ true → some (k + 1) ≡ lookup (stored_names b count) name
    sought_found h e = ap some (add-one k) ∙ sym (sought_opened h ∙ rw e)

    pub sought_goes_on : k < count → same_bytes (stored_name b k) name ≡ false → SoughtFrom b count name (k + 1)
    sought_goes_on h e = record { within = omega arith; left = sought_opened h ∙ rw (e, add-one) }

    pub sought_ends : count ≤ k → none ≡ lookup (stored_names b count) name
    unfolding find_from
    sought_ends h = let over : count - k ≡ 0 = omega arith in sym (r.left ∙ ap (λ n. find_from (suc k) (map (stored_name b) (up_from k n)) name) over)

-- A name is used exactly if it is found.
used-found : (k : ℕ) (names : List (List ℕ)) (name : List ℕ) → used names name ≡ is_some (find_from k names name)
unfolding find_from
used-found k [] name = refl
used-found k (x ∷ l) name = case (same_bytes x name) (used-found (suc k) l name)
  where
    case : (t : Bool) → used l name ≡ is_some (find_from (suc k) l name) → (t || used l name) ≡ is_some (cond t (some k) (find_from (suc k) l name))
    case true e = refl
    case false e = e

pub used_looked_up : (names : List (List ℕ)) (name : List ℕ) → used names name ≡ is_some (lookup names name)
used_looked_up names name = used-found 1 names name

-- A label has one name; so names that differ in the mark alone are different labels.
pub found_name : (k : ℕ) (names : List (List ℕ)) (name : List ℕ) (a : ℕ) → find_from k names name ≡ some a → (k ≤ a) × (get_or names (a - k) [] ≡ name)
unfolding find_from
found_name k [] name a e = absurd (let z : ◌≡◌ {A = ℕ} 0 1 = cc in omega arith)
found_name k (x ∷ l) name a e = case (same_bytes x name) refl e (found_name (suc k) l name a)
  where
    case : (t : Bool) → same_bytes x name ≡ t → cond t (some k) (find_from (suc k) l name) ≡ some a → (find_from (suc k) l name ≡ some a → (suc k ≤ a) × (get_or l (a - suc k) [] ≡ name))
        → (k ≤ a) × (get_or (x ∷ l) (a - k) [] ≡ name)
    case true s d again =
        let z : k ≡ a = cc in
        let none : a - k ≡ 0 = omega arith in
        (omega arith, ap (λ i. get_or (x ∷ l) i []) none ∙ same_of x name s)
    case false s d again =
        let h = again d in
        let more : a - k ≡ suc (a - suc k) = omega (arith, h.0) in
        (omega (arith, h.0), ap (λ i. get_or (x ∷ l) i []) more ∙ h.1)

pub one_name : (names : List (List ℕ)) (m n : List ℕ) (a : ℕ) → lookup names m ≡ some a → lookup names n ≡ some a → m ≡ n
one_name names m n a d e = sym (found_name 1 names m a d).1 ∙ (found_name 1 names n a e).1

pub three_labels : (names : List (List ℕ)) (p : List ℕ) (d e : Direction) (a : ℕ) → IsStem p → lookup names (p ++ mark_of d) ≡ some a → lookup names (p ++ mark_of e) ≡ some a → d ≡ e
three_labels names p d e a h x y = three_names p d e h (one_name names (p ++ mark_of d) (p ++ mark_of e) a x y)
