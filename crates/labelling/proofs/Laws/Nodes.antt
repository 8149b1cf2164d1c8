-- What holds at a node, from the rows of its arms: the node in a slot is the subformula's, and its rows make the next one.
use mathlib.Core.Path.{◌≡◌, refl, sym, ap, ◌∙◌, subst}
use mathlib.Core.Logic.{inr}
use mathlib.Core.Bool.{Bool, not as negate, ◌||◌}
use mathlib.Core.List.{List}
use Prim.Native.Nat.{ℕ, suc, ◌+◌, ◌*◌, ◌≤◌, ◌<◌}
use native.Mathlib.Decide.{ℕ_discrete}
use native.Mathlib.Omega.{arith}
use lib.ListN.{length, get_or}
use Rattle.actl.specs.Sizes.{most_nodes}
use Rattle.lts.specs.Sizes.{most_states}
use Rattle.lts.specs.Steps.{Table, labels as label_count}
use Rattle.lts.specs.inner.Prepared.{table_in}
use Rattle.lts.specs.inner.HoldsTable.{HoldsTable}
use Rattle.lts.specs.inner.Range.{InRange}
use Rattle.actl.specs.Actions.{Mask, in_set, silent, labels, meets}
use Rattle.actl.specs.Formulas.{Formula, tru, not, or, ex, ax, eu, eu_then, size, nodes, At, in_not, in_left, in_right, in_ex, in_ax, in_eu, in_eu_then}
use Rattle.actl.specs.Prepared.{slot_of}
use Rattle.formulas.specs.inner.Access.{slot_of_node}
use Rattle.formulas.specs.declared.node.Node.{Node}
use Rattle.formulas.proofs.NodeSlots.{node_in, node_in_slot}
use Rattle.actl.proofs.Laws.Prepared.{prepared-few, prepared-count}
use Rattle.actl.proofs.Subformulas.{node_at_lem, at-node, at_lt}
use Rattle.satisfaction.specs.inner.Holds.{within, enters, holds}
use Rattle.lts.specs.inner.Steps.{steps_from}
use Rattle.table_steps.specs.inner.StepArray.{steps_in, StepsOf}
use Rattle.until_search.specs.inner.Flags.{flag_at, at_once, node_holds, Flags}
use Rattle.labelling.specs.inner.Nodes.{RowPut, LabelledFrom, RowsFrom, NodeRow}
use Rattle.labelling.specs.inner.Rows.{row_at, RowOf}
use Rattle.until_search.proofs.Laws.Flags.{flags_same}
use Rattle.until_search.proofs.Laws.Agree.{Agree, some_agree, every_agree, within_agree}

-- The rows of f's arms say where they hold.
abbrev pub ArmsAgree : Table → Formula → (ℕ → Bool) → (ℕ → Bool) → Type 0
ArmsAgree t tru p q = Unit {0}
ArmsAgree t (not f) p q = Agree t p (holds t f)
ArmsAgree t (or f g) p q = Agree t p (holds t f) × Agree t q (holds t g)
ArmsAgree t (ex c f) p q = Agree t p (holds t f)
ArmsAgree t (ax c f) p q = Agree t p (holds t f)
ArmsAgree t (eu a f) p q = Agree t p (holds t f)
ArmsAgree t (eu_then a b f) p q = Agree t p (holds t f)

module _ (t : Table) (r : InRange t) (p q : ℕ → Bool) where
  holds_in : (f : Formula) → ArmsAgree t f p q → Agree t (node_holds t (node_in (slot_of f)) p q) (holds t f)
  unfolding node_in holds
  holds_in tru a s h = refl
  holds_in (not f) a s h = ap negate (a s h)
  holds_in (or f g) a s h = ap (λ b. b || q s) (a.0 s h) ∙ ap (λ b. holds t f s || b) (a.1 s h)
  holds_in (ex silent f) a s h = some_agree t r p (holds t f) a (meets silent) s h
  holds_in (ex (labels m) f) a s h = some_agree t r p (holds t f) a (meets (labels m)) s h
  holds_in (ax silent f) a s h = every_agree t r p (holds t f) a (meets silent) s h
  holds_in (ax (labels m) f) a s h = every_agree t r p (holds t f) a (meets (labels m)) s h
  holds_in (eu m f) a s h = within_agree t r p (holds t f) a m (length t.transitions) s h
  holds_in (eu_then m b f) a s h =
      within_agree t r (enters t b p) (enters t b (holds t f)) (some_agree t r p (holds t f) a (in_set b)) m (length t.transitions) s h

  pub node-holds : (n : Node) (f : Formula) → slot_of_node n ≡ slot_of f → ArmsAgree t f p q → Agree t (node_holds t n p q) (holds t f)
  node-holds n f e a s h =
      ap (λ m. node_holds t m p q s) (sym (node_in_slot n) ∙ ap node_in e) ∙ holds_in f a s h

module _ (t : Table) (r : InRange t) (F : Formula) (few : size F ≤ most_nodes) (k : ℕ) (below : k < size F)
    (flags : List Bool) (l : LabelledFrom t F (k + 1) flags) where
  abbrev here : Formula
  here = get_or (nodes F) k tru

  -- The row at an arm's number says where the arm holds.
  row_of_lem : (j : ℕ) (g : Formula) (at : ℕ) → k < j → At F j g → RowOf j at → Agree t (row_at flags at) (holds t g)
  row_of_lem j g at b a d s h =
      ap (λ i. row_at flags i s) (d.stands (omega (arith, at_lt a))) ∙ (l.flag j s (omega arith) (at_lt a) h ∙ ap (λ (f : Formula). holds t f s) (node_at_lem a))

  module _ (arm other : ℕ) (d : RowOf (k + 1) arm) (right : ℕ)
      (stands : k + 1 < size F → right ≡ k + 1 + size (get_or (nodes F) (k + 1) tru)) (w : RowOf right other) where
    next : (g : Formula) → At F (suc k) g → Agree t (row_at flags arm) (holds t g)
    next g a = row_of_lem (k + 1) g arm (omega arith) (subst (λ (j : ℕ). At F j g) (omega arith) a) d

    behind : (g h : Formula) → At F (suc k) g → At F (suc (k + size g)) h → Agree t (row_at flags other) (holds t h)
    behind g h a b =
        let same : k + 1 ≡ suc k = omega arith in
        let first : get_or (nodes F) (k + 1) tru ≡ g = ap (λ j. get_or (nodes F) j tru) same ∙ node_at_lem a in
        let at_right : right ≡ suc (k + size g) = omega (arith, stands (omega (arith, at_lt a)), ap size first) in
        row_of_lem right h other (omega arith) (subst (λ (j : ℕ). At F j h) (sym at_right) b) w

    arms : (f : Formula) → At F k f → ArmsAgree t f (row_at flags arm) (row_at flags other)
    arms tru a = tt
    arms (not f) a = next f (in_not a)
    arms (or f g) a = (next f (in_left a), behind f g (in_left a) (in_right a))
    arms (ex c f) a = next f (in_ex a)
    arms (ax c f) a = next f (in_ax a)
    arms (eu m f) a = next f (in_eu a)
    arms (eu_then m b f) a = next f (in_eu_then a)

    pub node_row : (n : Node) → slot_of_node n ≡ slot_of here → (row : List Bool)
        → Flags t.states (node_holds t n (row_at flags arm) (row_at flags other)) row → Flags t.states (holds t here) row
    node_row n e row f = flags_same (node-holds t r (row_at flags arm) (row_at flags other) n here e (arms here (at-node F k below))) f

  pub labelled-on : (row flags' : List Bool) → Flags t.states (holds t here) row → RowPut k row flags flags' → LabelledFrom t F k flags'
  labelled-on row flags' f z = record { flag = λ j s b m h. go j s b m h (ℕ_discrete j k) }
    where
      go : (j s : ℕ) → k ≤ j → j < size F → s < t.states → Dec (j ≡ k) → flag_at flags' (j * most_states + s) ≡ holds t (get_or (nodes F) j tru) s
      go j s b m h (yes c) =
          ap (λ x. flag_at flags' (x * most_states + s)) c
          ∙ (z.inside s (omega (arith, r.few_states)) ∙ (f.flag s h ∙ ap (λ x. holds t (get_or (nodes F) x tru) s) (sym c)))
      go j s b m h (no c) = z.outside (j * most_states + s) (inr (omega (arith, r.few_states))) ∙ l.flag j s (omega arith) m h

-- The same of a formula in bytes.
pub rows_on : (table formula : List ℕ) → HoldsTable table → (k : ℕ) {row flags flags' : List Bool} → k < get_or formula 0 0
    → RowsFrom table formula (k + 1) flags → NodeRow table formula k row → RowPut k row flags flags' → RowsFrom table formula k flags'
rows_on table formula held k {row} {flags} {flags'} below behind found put =
    let n = label_count (table_in table) in
    record {
      places = put.places;
      rows = λ F e.
          let here : k < size F = omega (arith, prepared-count n formula e) in
          labelled-on (table_in table) held.in_range F (prepared-few n formula e) k here flags (behind.rows F e) row flags' (found.found F e) put;
    }

-- The search of an until from the flags of its goal.
pub until_flags : (t : Table) → InRange t → (m : Mask) (g : ℕ → Bool) (goal flags : List Bool) → Flags t.states g goal
    → Flags t.states (within t m (flag_at goal) (length t.transitions)) flags → Flags t.states (within t m g (length t.transitions)) flags
until_flags t r m g goal flags d w = record {
  places = w.places;
  flag = λ s h. w.flag s h ∙ within_agree t r (flag_at goal) g d.flag m (length t.transitions) s h;
}

-- What holds at once, from the steps in the arrays, is what holds at once in the table.
pub flags_at_once : (t : Table) → InRange t → {steps firsts : List ℕ} → StepsOf t steps firsts → {n : ℕ} → n ≡ t.states → (node : Node) (p q : ℕ → Bool) {row : List Bool}
    → Flags n (λ s. at_once node p q s (steps_in steps firsts s)) row → Flags t.states (λ s. at_once node p q s (steps_from t s)) row
flags_at_once t r {steps} {firsts} o e node p q {row} d =
    flags_same (λ s h. ap (at_once node p q s) (o.leaving s (omega (arith, r.few_states))))
    (subst (λ n. Flags n (λ s. at_once node p q s (steps_in steps firsts s)) row) e d)

-- The flags of a node from those at once, for the node that it is.
pub of_kind : (t : Table) (p q : ℕ → Bool) {node n : Node} {row row' : List Bool} → node ≡ n
    → (Flags t.states (λ s. at_once n p q s (steps_from t s)) row → Flags t.states (node_holds t n p q) row')
    → Flags t.states (λ s. at_once node p q s (steps_from t s)) row → Flags t.states (node_holds t node p q) row'
of_kind t p q {row = row} {row' = row'} e wanted d =
    subst (λ n. Flags t.states (node_holds t n p q) row') (sym e) (wanted (subst (λ n. Flags t.states (λ s. at_once n p q s (steps_from t s)) row) e d))
