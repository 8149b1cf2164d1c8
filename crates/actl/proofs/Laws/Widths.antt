-- Lists made of parts of one width: where part k stands.
use mathlib.Core.Path.{◌≡◌, sym, ◌∙◌}
use mathlib.Core.List.{List, [], ◌∷◌, ◌++◌, append_assoc}
use Prim.Native.Nat.{ℕ, zero, suc, ◌*◌, ◌<◌}
use native.Mathlib.Nat.{suc-mul, zero-mul, add_comm}
use native.Mathlib.Omega.{arith}
use lib.ListN.{length, get_or, drop, length-append}
use lib.Seq.{drop-append-add}
use Rattle.lts.specs.Lists.{bind}

module _ {A B : Type 0} (part : A → List B) (w : ℕ) (even : (x : A) → length (part x) ≡ w) where
  pub length_parts : (l : List A) → length (bind part l) ≡ length l * w
  length_parts [] = sym (zero-mul w)
  length_parts (x ∷ l) = length-append (part x) (bind part l) ∙ (rw (even x, length_parts l, suc-mul) (add_comm w (length l * w)))

  pub drop_parts : (d : A) (l : List A) (k : ℕ) (rest : List B) → k < length l
      → (more : List B) × (drop (k * w) (bind part l ++ rest) ≡ part (get_or l k d) ++ more)
  drop_parts d [] k rest h = absurd (omega arith)
  drop_parts d (x ∷ l) zero rest h = (bind part l ++ rest, rw (zero-mul, append_assoc))
  drop_parts d (x ∷ l) (suc k) rest h =
      let (more, e) = drop_parts d l k rest (omega arith) in
      (more, rw (suc-mul, add_comm (k * w) w, ← even x, append_assoc, drop-append-add) (rw (even x) e))
