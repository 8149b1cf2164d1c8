-- The executable twin of `IsForm` (../Prepared.antt): `prepared-form` (proofs/Laws/Prepared.antt) makes them equal.
use Rattle.std.specs.Prelude.{Bool, cond, not as negate, ◌&&◌, List, [], ◌∷◌, map, ℕ, ◌+◌, ◌*◌, leb, eqb, get_or, take, drop}
use Rattle.std.proofs.Math.Option.{Option, none, some}
use Rattle.actl.specs.Sizes.{most_nodes, node_slot_length, formula_length}
use Rattle.columns.specs.Bytes.{same_bytes}
use Rattle.byte_words.specs.inner.Words.{number}
use Rattle.lts.specs.inner.Lists.{up_from}
use Rattle.lts.specs.Lists.{every}
use Rattle.actl.specs.Actions.{silent, labels}
use Rattle.actl.specs.Formulas.{Formula, tru, not, or, ex, ax, eu, eu_then, size, nodes, class_of}
use Rattle.actl.specs.Prepared.{Slot, formula_bytes, slot, slot_of, slot_within}

-- The formula in bytes. Preorder is Polish notation: the slots from the last to the first, over a stack of trees.
abbrev pub slot_at : List ℕ → ℕ → Slot
slot_at b k = slot (get_or b (1 + k * node_slot_length) 0) (number 8 (drop (2 + k * node_slot_length) b)) (number 8 (drop (10 + k * node_slot_length) b))

abbrev pub one : (Formula → Formula) → List Formula → Option (List Formula)
one node [] = none
one node (f ∷ l) = some (node f ∷ l)

abbrev pub two : (Formula → Formula → Formula) → List Formula → Option (List Formula)
two node [] = none
two node (f ∷ []) = none
two node (f ∷ g ∷ l) = some (node f g ∷ l)

abbrev pub chosen : ℕ → ℕ → Option (List Formula) → Option (List Formula) → Option (List Formula)
chosen kind k this other = cond (eqb kind k) this other

unfoldable pub push : Slot → List Formula → Option (List Formula)
push s l =
    let k = s.kind in
    chosen k 1 (some (tru ∷ l)) (
    chosen k 2 (one not l) (
    chosen k 3 (two or l) (
    chosen k 4 (one (ex silent) l) (
    chosen k 5 (one (ex (labels s.first)) l) (
    chosen k 6 (one (ax silent) l) (
    chosen k 7 (one (ax (labels s.first)) l) (
    chosen k 8 (one (eu s.first) l) (
    chosen k 9 (one (eu_then s.first s.second) l) none))))))))

abbrev pub push_on : Slot → Option (List Formula) → Option (List Formula)
push_on s none = none
push_on s (some l) = push s l

abbrev pub trees_in : List Slot → Option (List Formula)
trees_in [] = some []
trees_in (s ∷ l) = push_on s (trees_in l)

-- The same as `IsForm`, as a test.
abbrev pub is_form : ℕ → List ℕ → Formula → Bool
is_form n b F = same_bytes (take formula_length b) (formula_bytes F) && leb (size F) most_nodes && every (λ f. negate (eqb (class_of f) 0))
    (nodes F) && every (λ f. slot_within n (slot_of f)) (nodes F)

abbrev pub formed : ℕ → List ℕ → Option (List Formula) → Option Formula
formed n b none = none
formed n b (some []) = none
formed n b (some (F ∷ [])) = cond (is_form n b F) (some F) none
formed n b (some (F ∷ G ∷ l)) = none

-- The prepared formula in bytes, over a table of n labels.
unfoldable pub prepared_formula : ℕ → List ℕ → Option Formula
prepared_formula n b = formed n b (trees_in (map (slot_at b) (up_from 0 (get_or b 0 0))))
