-- A formula's text by one walk over its nodes: what each node writes, and what is pending behind the arm that comes next, `)` and `|` as bytes.
use Rattle.std.specs.Prelude.{◌≡◌, Bool, cond, not, ◌&&◌, List, [], ◌∷◌, ◌++◌, ℕ, zero, suc, ◌+◌, ◌≤◌, eqb, length, get_or}
use Rattle.std.proofs.Math.Option.{some}
use Rattle.lts.specs.Steps.{labels}
use Rattle.lts.specs.inner.Prepared.{table_in}
use Rattle.actl.specs.Formulas.{Formula}
use Rattle.actl.specs.Prepared.{Slot}
use Rattle.actl.specs.inner.Prepared.{prepared_formula}
use Rattle.written_back.specs.FormulaText.{set_text, in_square, formula_text}
use Rattle.formula_walk.specs.declared.Place.{Place}
use Rattle.formula_pieces.specs.inner.Adds.{Adds}

-- A keyword with its square bracket.
abbrev pub keyword : ℕ → ℕ → List ℕ → List ℕ
keyword a b s = a ∷ b ∷ in_square s

abbrev pub chosen : ℕ → ℕ → List ℕ → List ℕ → List ℕ
chosen kind k this other = cond (eqb kind k) this other

-- What is written of the node itself, by its slot.
abbrev pub slot_text : List (List ℕ) → Slot → List ℕ
slot_text N s =
    let k = s.kind in
    let first = set_text N s.first in
    chosen k 1 (84 ∷ []) (
    chosen k 2 (126 ∷ []) (
    chosen k 3 [] (
    chosen k 4 (keyword 69 88 (46 ∷ [])) (
    chosen k 5 (keyword 69 88 first) (
    chosen k 6 (keyword 65 88 (46 ∷ [])) (
    chosen k 7 (keyword 65 88 first) (
    chosen k 8 (keyword 69 85 first) (
    chosen k 9 (keyword 69 85 (first ++ (59 ∷ set_text N s.second))) []))))))))

-- What is pending is written up to the next `|`, the top first; the rest stays pending.
abbrev pub drained : List ℕ → List ℕ
drained [] = []
drained (b ∷ p) = b ∷ cond (eqb b 124) [] (drained p)

abbrev pub rested : List ℕ → List ℕ
rested [] = []
rested (b ∷ p) = cond (eqb b 124) p (rested p)

-- A `|` that is an arm stands in brackets. Behind T an arm ends.
abbrev pub opening : Bool → ℕ → List ℕ
opening arm kind = cond (arm && eqb kind 3) (40 ∷ []) []

abbrev pub closing : ℕ → List ℕ → List ℕ
closing kind p = cond (eqb kind 1) (drained p) []

abbrev pub written_at : List (List ℕ) → Slot → Bool → List ℕ → List ℕ
written_at N s arm p = opening arm s.kind ++ (slot_text N s ++ closing s.kind p)

-- Whether the next node is an arm that may need brackets, and what is pending there.
abbrev pub arm_after : ℕ → Bool
arm_after kind = not (eqb kind 3)

abbrev pub pending_after : ℕ → Bool → List ℕ → List ℕ
pending_after kind arm p = cond (eqb kind 1) (rested p) (cond (eqb kind 3) (124 ∷ cond arm (41 ∷ p) p) p)

abbrev pub walked : List (List ℕ) → List Slot → Bool → List ℕ → List ℕ
walked N [] arm p = []
walked N (s ∷ l) arm p = written_at N s arm p ++ walked N l (arm_after s.kind) (pending_after s.kind arm p)

-- What is pending, as the first `top` bytes of an array hold it.
abbrev pub stack_of : List ℕ → ℕ → List ℕ
stack_of b zero = []
stack_of b (suc n) = get_or b n 0 ∷ stack_of b n

-- At most 80 bytes are pending.
pub record Stack (b : List ℕ) (top : ℕ) : Type 0 where
  pub long : length b ≡ 80
  pub within : top ≤ 80

-- What writing one node leaves: the text l more, q pending, and whether the next node is such an arm.
pub record Walks (l q : List ℕ) (arm : Bool) (top at : ℕ) (e x p pending : List ℕ) (r : Place) : Type 0 where
  pub adds : Adds l at e x r.at
  pub left : stack_of pending r.top ≡ q
  pub next_arm : r.arm ≡ arm
  pub few : r.top ≤ top + 2
  pub long : length pending ≡ length p

-- All of a prepared formula's text.
pub record TextAdded (table formula e x : List ℕ) (n : ℕ) : Type 0 where
  pub adds : (F : Formula) → prepared_formula (labels (table_in table)) formula ≡ some F → Adds (formula_text (table_in table).names F) 0 e x n
