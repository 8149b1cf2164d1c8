-- The walk node by node: what is written of the first k nodes, and that all of them give the formula's text.
use mathlib.Core.Path.{◌≡◌, refl, sym, ap, ◌∙◌}
use mathlib.Core.Bool.{Bool, false}
use mathlib.Core.List.{List, [], ◌++◌, map, append-nil, append_assoc, Memᴰ}
use mathlib.Core.Option.{some}
use Prim.Native.Nat.{ℕ, suc, ◌+◌, ◌*◌, ◌-◌, ◌≤◌, ◌<◌}
use native.Mathlib.Omega.{arith}
use lib.ListN.{length, get_or}
use Rattle.lts.specs.Sizes.{most_labels}
use Rattle.lts.specs.inner.Lists.{up_from}
use Rattle.actl.specs.Sizes.{most_nodes}
use Rattle.actl.specs.Formulas.{Formula, nodes}
use Rattle.actl.specs.Prepared.{Slot, slot_of}
use Rattle.actl.specs.inner.Prepared.{slot_at, prepared_formula}
use Rattle.actl.proofs.Laws.Prepared.{prepared-of, form-slots}
use Rattle.written_back.specs.FormulaText.{formula_text}
use Rattle.formula_walk.specs.declared.Place.{Place}
use Rattle.formula_pieces.specs.inner.Adds.{Adds}
use Rattle.formula_walk.specs.inner.Walk.{walked, written_at, arm_after, pending_after, stack_of, Walks}
use Rattle.formula_pieces.proofs.Laws.Adds.{adds_none, adds_then, adds_same}
use Rattle.formula_walk.proofs.Laws.Stack.{stack_length}
use Rattle.formula_walk.proofs.Laws.Walk.{walked_step, walked_end, walked-text, written-short}

abbrev pub Short : List (List ℕ) → Type 0
Short N = (n : List ℕ) → Memᴰ n N → length n ≤ 13

module _ (N : List (List ℕ)) (b e : List ℕ) (count : ℕ) where
  -- The text from node k on.
  abbrev from : ℕ → Bool → List ℕ → List ℕ
  from k arm p = walked N (map (slot_at b) (up_from k (count - k))) arm p

  pub record Writing (x pending : List ℕ) (at top : ℕ) (arm : Bool) (k : ℕ) : Type 0 where
    pub sofar : List ℕ
    pub adds : Adds sofar 0 e x at
    pub rest : sofar ++ from k arm (stack_of pending top) ≡ from 0 false []
    pub short : at ≤ 1250 * k
    pub few : top ≤ 2 * k
    pub long : length pending ≡ 80
    pub within : k ≤ count

  pub writing_start : (pending : List ℕ) → length pending ≡ 80 → Writing e pending 0 0 false 0
  writing_start pending h = record { sofar = []; adds = adds_none 0 e; rest = refl; short = omega arith; few = omega arith; long = h; within = omega arith }

  pub writing_more : Short N → length N ≤ most_labels → count ≤ most_nodes
      → {x y pending after : List ℕ} {at top : ℕ} {arm : Bool} {k : ℕ} (s : Slot) (r : Place) → Writing x pending at top arm k → k < count → s ≡ slot_at b k
      → Walks (written_at N s arm (stack_of pending top)) (pending_after s.kind arm (stack_of pending top)) (arm_after s.kind) top at x y pending after r
      → Writing y after r.at r.top r.arm (k + 1)
  writing_more short labels most {pending = pending} {after} {top = top} {arm} {k} s r w more is l =
      let p = stack_of pending top in
      let here = written_at N s arm p in
      let next : k + 1 ≡ suc k = omega arith in
      let bound : length here ≤ 1250 =
      written-short N s arm p labels short (omega (arith, stack_length pending top, w.few)) in
      let turned : here ++ from (k + 1) r.arm (stack_of after r.top) ≡ from k arm p =
      (λ i. here ++ from (next i) (l.next_arm i) (l.left i))
      ∙ (ap (λ (t : Slot). written_at N t arm p ++ from (suc k) (arm_after t.kind) (pending_after t.kind arm p)) is ∙ sym (walked_step N b k count arm p more)) in
      record {
        sofar = w.sofar ++ here;
        adds = adds_then w.adds l.adds;
        rest = append_assoc w.sofar here (from (k + 1) r.arm (stack_of after r.top)) ∙ (ap (λ t. w.sofar ++ t) turned ∙ w.rest);
        short = omega (arith, w.short, l.adds.ends, bound);
        few = omega (arith, w.few, l.few);
        long = l.long ∙ w.long;
        within = omega arith;
      }

  pub writing_end : length N ≤ most_labels → {x pending : List ℕ} {at top : ℕ} {arm : Bool} {k : ℕ} → Writing x pending at top arm k → count ≤ k → count ≡ get_or b 0 0
      → (F : Formula) → prepared_formula (length N) b ≡ some F → Adds (formula_text N F) 0 e x at
  writing_end few {pending = pending} {top = top} {arm = arm} {k = k} w h d F f =
      let last = walked_end N b k count arm (stack_of pending top) h in
      let none : count - 0 ≡ get_or b 0 0 = omega (arith, d) in
      let slots : map (slot_at b) (up_from 0 (count - 0)) ≡ map slot_of (nodes F) =
      ap (λ n. map (slot_at b) (up_from 0 n)) none ∙ form-slots (length N) b F (prepared-of (length N) b f) (omega (arith, few)) in
      let all : from 0 false [] ≡ formula_text N F = ap (λ l. walked N l false []) slots ∙ walked-text N F in
      adds_same (sym (sym (append-nil w.sofar) ∙ (ap (λ t. w.sofar ++ t) (sym last) ∙ (w.rest ∙ all)))) w.adds
