-- Slots of one width, one behind the other: how long they are together, and what stands in slot k.
use mathlib.Core.Path.{◌≡◌, refl, sym, ap, ◌∙◌}
use mathlib.Core.List.{List, [], ◌∷◌, ◌++◌, append_assoc, Memᴰ}
use Prim.Native.Nat.{ℕ, zero, suc, ◌+◌, ◌*◌, ◌<◌}
use native.Mathlib.Nat.{suc-mul, zero-mul}
use native.Mathlib.Omega.{arith}
use lib.ListN.{length, get_or, drop, length-append}
use lib.Seq.{drop-append-add}
use Rattle.lts.specs.Lists.{bind}

module _ {A : Type 0} (f : A → List ℕ) (w : ℕ) where
  abbrev pub Sized : List A → Type 0
  Sized l = (x : A) → Memᴰ x l → length (f x) ≡ w

  pub slots_length_lem : (l : List A) → Sized l → length (bind f l) ≡ length l * w
  slots_length_lem [] s = sym (zero-mul w)
  slots_length_lem (x ∷ l) s =
      length-append (f x) (bind f l)
      ∙ omega (arith, s x (Memᴰ.head refl), slots_length_lem l (λ y m. s y (Memᴰ.tail m)), suc-mul (length l) w)

  -- From slot k on: the slot and what is behind it.
  pub slot_at : (l : List A) (k : ℕ) (d : A) (rest : List ℕ) → Sized l → k < length l
      → (z : List ℕ) × (drop (k * w) (bind f l ++ rest) ≡ f (get_or l k d) ++ z)
  slot_at [] k d rest s h = absurd (omega arith)
  slot_at (x ∷ l) zero d rest s h =
      (bind f l ++ rest, ap (λ (j : ℕ). drop j ((f x ++ bind f l) ++ rest)) (zero-mul w) ∙ append_assoc (f x) (bind f l) rest)
  slot_at (x ∷ l) (suc k) d rest s h = join (slot_at l k d rest (λ y m. s y (Memᴰ.tail m)) (omega arith))
    where
      past : drop (suc k * w) ((f x ++ bind f l) ++ rest) ≡ drop (k * w) (bind f l ++ rest)
      past =
          let count : suc k * w ≡ length (f x) + k * w = omega (arith, s x (Memᴰ.head refl), suc-mul k w) in
          ap (λ (m : List ℕ). drop (suc k * w) m) (append_assoc (f x) (bind f l) rest)
          ∙ (ap (λ (j : ℕ). drop j (f x ++ (bind f l ++ rest))) count ∙ drop-append-add (f x) (bind f l ++ rest) (k * w))

      join : (z : List ℕ) × (drop (k * w) (bind f l ++ rest) ≡ f (get_or l k d) ++ z)
          → (z : List ℕ) × (drop (suc k * w) ((f x ++ bind f l) ++ rest) ≡ f (get_or l k d) ++ z)
      join (z, e) = (z, past ∙ e)
