-- Lists that the executable definitions are made of: the numbers from k, the members that pass a test, one list or another.
use Rattle.std.specs.Prelude.{Bool, true, false, List, [], ◌∷◌, ℕ, zero, suc}

abbrev pub up_from : ℕ → ℕ → List ℕ
up_from k zero = []
up_from k (suc n) = k ∷ up_from (suc k) n

module _ {A : Type 0} where
  abbrev pub cons_if : Bool → A → List A → List A
  cons_if true x l = x ∷ l
  cons_if false x l = l

  abbrev pub keep : (A → Bool) → List A → List A
  keep p [] = []
  keep p (x ∷ l) = cons_if (p x) x (keep p l)

  abbrev pub or_else : List A → List A → List A
  or_else [] d = d
  or_else (x ∷ l) d = x ∷ l
