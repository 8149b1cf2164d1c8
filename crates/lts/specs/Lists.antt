-- Lists: whether some member or every one passes a test, rising order, and a list for each member.
use Rattle.std.specs.Prelude.{Bool, true, false, ◌&&◌, ◌||◌}
use mathlib.Core.List.{List, [], ◌∷◌, ◌++◌, Memᴰ}

module _ {A : Type 0} where
  abbrev pub any_of : (A → Bool) → List A → Bool
  any_of p [] = false
  any_of p (x ∷ l) = p x || any_of p l

  abbrev pub every : (A → Bool) → List A → Bool
  every p [] = true
  every p (x ∷ l) = p x && every p l

  -- Every member stands in the relation to all later ones.
  abbrev pub Rising : (A → A → Type 0) → List A → Type 0
  Rising R [] = Unit {0}
  Rising R (x ∷ l) = ((y : A) → Memᴰ y l → R x y) × Rising R l

abbrev pub bind : {A B : Type 0} → (A → List B) → List A → List B
bind f [] = []
bind f (x ∷ l) = f x ++ bind f l
