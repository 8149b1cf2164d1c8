-- What stands in a bracket: the step condition of EX and AX, the sets of EU, the set of DIA and BOX.
use mathlib.Core.Path.{◌≡◌, refl, sym, ap, ◌∙◌}
use mathlib.Core.Logic.{◌⊎◌, inl, inr}
use mathlib.Core.List.{List, [], ◌∷◌}
use Prim.Native.Nat.{ℕ, ◌+◌, ◌-◌}
use native.Mathlib.Omega.{arith}
use lib.ListN.{length, drop}
use Rattle.actl.specs.Actions.{labels}
use Rattle.actl.specs.inner.Show.{gap, show_s}
use Rattle.actl.specs.Grammar.{dot, set, Set, Head, next, until, until_then, labelled}
use Rattle.actl.specs.inner.Reader.{InSet, s_next, s_until, s_then, s_labelled, InTerm, t_modal, o_first, State, term_at, after_dot, operand_at, after_set}
use Rattle.actl.specs.inner.Reader.{go, stop, close_step}
use Rattle.actl.specs.inner.Mentions.{names_s}
use Rattle.actl.specs.Prepared.{slot, next_slot}
use Rattle.actl.specs.inner.Cursor.{peek, Token, Moves, Fails, Marked, Tokened}
use Rattle.actl.specs.inner.Readers.{unknown_in, earlier, dual_slots, next_kind, SetRead, EnclosedRead, Unclosed}
use Rattle.formulas.specs.inner.Access.{cond_in, slot_of_node}
use Rattle.formulas.specs.declared.node.Condition.{Condition}
use Rattle.formulas.specs.declared.node.Condition.TheVariants.{Silent, Labels}
use Rattle.formulas.specs.declared.node.Node.{Node}
use Rattle.formula_cursor.proofs.ReadingPlaces.{byte_at}
use Rattle.formula_cursor.proofs.ReadingMoves.{on-other, then, fail, at_only, fail_only, stops, alike, marked, tokened}
use Rattle.formula_sets.proofs.ReadingSets.{set-stops}
use Rattle.formula_heads.specs.inner.Brackets.{quantifier_in, node_over, RestRead, in_bracket, shown_bracket}
use Rattle.formula_heads.specs.declared.Quantifier.{Quantifier}
use Rattle.formula_heads.specs.declared.Quantifier.TheVariants.{Existential, Universal}
use Rattle.formula_heads.specs.declared.Keyword.TheVariants.{Next, Until, Labelled}
use Rattle.actl.proofs.ReadingLabels.{earlier-none, earlier_append}

-- A set and the `]` behind it. The set stands in the context f, and with it the head is whole.
shut-text : {s : List ℕ} {at to : ℕ} → Marked s at 93 to → drop at s ≡ 93 ∷ drop to s
shut-text {s} {at} h = byte_at s at 93 h.here (omega arith) ∙ ap (λ n. 93 ∷ drop n s) (sym h.next)

module _ {N : List (List ℕ)} {s : List ℕ} {at lost to m l : ℕ} (h : EnclosedRead N s at 93 lost to m l) where
  last_set : (f : InTerm → InSet) (head : Set → ℕ → Head)
      → ((v : Set) (g : ℕ) (k : InTerm) → close_step v (f k) g 93 ≡ go (term_at (t_modal (head v g) k 0)))
      → Moves s at to (λ r. show_s h.contents.value (gap h.contents.blanks (93 ∷ r)))
      (λ k. operand_at (o_first (f k))) (λ k. term_at (t_modal (head h.contents.value h.contents.blanks) k 0))
  last_set f head e = then (at_only f h.contents.moves) (marked h.shut (omega arith) (e h.contents.value h.contents.blanks))

  last-lacks : l ≡ earlier lost (unknown_in N (length s) (names_s h.contents.value (gap h.contents.blanks (93 ∷ drop to s))))
  last-lacks =
      let c = h.contents in
      c.lacks ∙ ap (λ r. earlier lost (unknown_in N (length s) (names_s c.value (gap c.blanks r)))) (shut-text h.shut)

-- Or the text is refused in the set or behind it.
last_fails : {N : List (List ℕ)} {s : List ℕ} {at lost to : ℕ} (f : InTerm → InSet)
    → ((v : Set) (g : ℕ) (k : InTerm) → (peek s to ≡ 93 → ⊥) → close_step v (f k) g (peek s to) ≡ stop)
    → Fails s at to (λ k. operand_at (o_first k)) ⊎ Unclosed N s at 93 lost to → Fails s at to (λ k. operand_at (o_first (f k)))
last_fails f e (inl h) = fail_only f h
last_fails f e (inr h) = set-stops h f e

-- The slot of the node over a step condition is that of the formula.
node-slot : (q : Quantifier) (x : Condition) → next_slot (next_kind (quantifier_in q)) (cond_in x) ≡ slot_of_node (node_over q x)
node-slot Existential x = refl
node-slot Universal x = refl

module _ (N : List (List ℕ)) (s : List ℕ) (at lost : ℕ) (q : Quantifier) (a b : ℕ) where
  -- A dot.
  module _ {d : ℕ} (t : Tokened s at 46 d) where
    behind-dot : Moves s at d (λ r. 46 ∷ gap (d - (at + 1)) r) (in_bracket (Next q) a b) (λ k. after_dot (quantifier_in q) a b k (d - (at + 1)))
    behind-dot = tokened (λ g k. after_dot (quantifier_in q) a b k g) t (omega arith) (λ k. refl) (λ g k. refl)

    pub next-silent : {to : ℕ} (n : Node) → n ≡ node_over q Silent → Marked s d 93 to
        → RestRead N s (in_bracket (Next q) a b) (shown_bracket (Next q) a b) at lost to (slot_of_node n ∷ []) lost
    next-silent n e h = record {
      value = next (quantifier_in q) a b dot (d - (at + 1));
      text = λ r. 46 ∷ gap (d - (at + 1)) (93 ∷ r);
      shows = λ r. refl;
      moves = then behind-dot (marked h (omega arith) (λ k. refl));
      means = ap (λ z. z ∷ []) (node-slot q Silent ∙ ap slot_of_node (sym e));
      lacks = sym (earlier-none lost);
    }

    pub next-silent_open : (peek s d ≡ 93 → ⊥) → Fails s at d (in_bracket (Next q) a b)
    next-silent_open h = fail behind-dot (stops t.skipped.within (λ k. refl)
        (λ k. on-other (peek s d) 32 _ _ t.skipped.past ∙ on-other (peek s d) 93 _ _ h))

  -- No dot: a set.
  module _ (t : Token s at) (n : peek s at ≡ 46 → ⊥) where
    in_next : InTerm → InSet
    in_next k = s_next (quantifier_in q) a k b

    at_set : Moves s at at (λ r. r) (in_bracket (Next q) a b) (λ k. operand_at (o_first (in_next k)))
    unfolding in_next
    at_set = alike t.within (λ k. refl)
        (λ k. on-other (peek s at) 32 _ _ t.past ∙ (on-other (peek s at) 46 _ _ n ∙ sym (on-other (peek s at) 32 _ _ t.past)))

    pub next-set : {to m l : ℕ} (x : Node) → x ≡ node_over q (Labels m) → EnclosedRead N s at 93 lost to m l
        → RestRead N s (in_bracket (Next q) a b) (shown_bracket (Next q) a b) at lost to (slot_of_node x ∷ []) l
    unfolding in_next
    next-set {m = m} x e h =
        let c = h.contents in
        record {
          value = next (quantifier_in q) a b (set c.value) c.blanks;
          text = λ r. show_s c.value (gap c.blanks (93 ∷ r));
          shows = λ r. refl;
          moves = then at_set (last_set h in_next (λ v g. next (quantifier_in q) a b (set v) g) (λ v g k. refl));
          means = ap (λ z. next_slot (next_kind (quantifier_in q)) (labels z) ∷ []) (sym c.means)
              ∙ ap (λ z. z ∷ []) (node-slot q (Labels m) ∙ ap slot_of_node (sym e));
          lacks = last-lacks h;
        }

    pub next-set_fails : {to : ℕ} → Fails s at to (λ k. operand_at (o_first k)) ⊎ Unclosed N s at 93 lost to → Fails s at to (in_bracket (Next q) a b)
    unfolding in_next
    next-set_fails h = fail at_set (last_fails in_next (λ v g k z. on-other _ 93 _ _ z) h)

  -- The set of DIA or BOX.
  in_labelled : InTerm → InSet
  in_labelled k = s_labelled (quantifier_in q) a k b

  pub labelled-set : {to m l : ℕ} → EnclosedRead N s at 93 lost to m l
      → RestRead N s (in_bracket (Labelled q) a b) (shown_bracket (Labelled q) a b) at lost to (dual_slots (quantifier_in q) (slot 5 m 0)) l
  unfolding in_labelled
  labelled-set h =
      let c = h.contents in
      record {
        value = labelled (quantifier_in q) a b c.value c.blanks;
        text = λ r. show_s c.value (gap c.blanks (93 ∷ r));
        shows = λ r. refl;
        moves = last_set h in_labelled (λ v g. labelled (quantifier_in q) a b v g) (λ v g k. refl);
        means = ap (λ z. dual_slots (quantifier_in q) (slot 5 z 0)) (sym c.means);
        lacks = last-lacks h;
      }

  pub labelled_fails : {to : ℕ} → Fails s at to (λ k. operand_at (o_first k)) ⊎ Unclosed N s at 93 lost to → Fails s at to (in_bracket (Labelled q) a b)
  unfolding in_labelled
  labelled_fails h = last_fails in_labelled (λ v g k z. on-other _ 93 _ _ z) h

-- Behind the first set of EU.
module _ (N : List (List ℕ)) (s : List ℕ) (at mask left a b from lost : ℕ) (x : SetRead N s from lost at mask left) where
  abbrev state : InTerm → State
  state k = after_set x.value (s_until a k b) x.blanks

  abbrev read : List ℕ → List ℕ
  read t = shown_bracket Until a b (show_s x.value (gap x.blanks t))

  abbrev unknown : List ℕ → ℕ
  unknown r = earlier lost (unknown_in N (length s) (names_s x.value (gap x.blanks r)))

  pub until-read : {to : ℕ} → Marked s at 93 to → RestRead N s state read at lost to (slot 8 mask 0 ∷ []) left
  until-read h = record {
    value = until a b x.value x.blanks;
    text = λ r. 93 ∷ r;
    shows = λ r. refl;
    moves = marked h (omega arith) (λ k. refl);
    means = ap (λ z. slot 8 z 0 ∷ []) (sym x.means);
    lacks = x.lacks ∙ ap unknown (shut-text h);
  }

  pub until_open : (peek s at ≡ 59 → ⊥) → (peek s at ≡ 93 → ⊥) → Fails s at at state
  until_open p q = stops x.token.within (λ k. refl)
      (λ k. on-other (peek s at) 32 _ _ x.token.past ∙ (on-other (peek s at) 124 _ _ x.last
      ∙ (on-other (peek s at) 93 _ _ q ∙ on-other (peek s at) 59 _ _ p)))

  module _ {d : ℕ} (t : Tokened s at 59 d) where
    in_then : InTerm → InSet
    in_then k = s_then a b x.value x.blanks k (d - (at + 1))

    at-then : Moves s at d (λ r. 59 ∷ gap (d - (at + 1)) r) state (λ k. operand_at (o_first (in_then k)))
    unfolding in_then
    at-then = tokened (λ g k. operand_at (o_first (s_then a b x.value x.blanks k g))) t (omega arith) (λ k. refl) (λ g k. refl)

    pub then-read : {to m l : ℕ} → EnclosedRead N s d 93 left to m l → RestRead N s state read at lost to (slot 9 mask m ∷ []) l
    unfolding in_then
    then-read {to} h =
        let y = h.contents in
        let head = until_then a b x.value x.blanks (d - (at + 1)) in
        let w = then at-then (last_set h in_then head (λ v g k. refl)) in
        let behind : List ℕ = 59 ∷ gap (d - (at + 1)) (show_s y.value (gap y.blanks (93 ∷ drop to s))) in
        let names = names_s y.value (gap y.blanks (93 ∷ drop to s)) in
        record {
          value = head y.value y.blanks;
          text = λ r. 59 ∷ gap (d - (at + 1)) (show_s y.value (gap y.blanks (93 ∷ r)));
          shows = λ r. refl;
          moves = w;
          means = λ i. slot 9 (sym x.means i) (sym y.means i) ∷ [];
          lacks = last-lacks h ∙ (ap (λ z. earlier z (unknown_in N (length s) names)) (x.lacks ∙ ap unknown w.text)
              ∙ sym (earlier_append N (length s) lost (names_s x.value (gap x.blanks behind)) names));
        }

    pub then_fails : {to : ℕ} → Fails s d to (λ k. operand_at (o_first k)) ⊎ Unclosed N s d 93 left to → Fails s at to state
    unfolding in_then
    then_fails h = fail at-then (last_fails in_then (λ v g k z. on-other _ 93 _ _ z) h)

pub until_fails : {s : List ℕ} {at to : ℕ} (a b : ℕ) → Fails s at to (λ k. operand_at (o_first k)) → Fails s at to (in_bracket Until a b)
until_fails a b h = fail_only (λ k. s_until a k b) h

pub first-set-moves : {N : List (List ℕ)} {s : List ℕ} {at to mask left lost : ℕ} (a b : ℕ) (x : SetRead N s at lost to mask left)
    → Moves s at to (λ r. show_s x.value (gap x.blanks r)) (in_bracket Until a b) (λ k. after_set x.value (s_until a k b) x.blanks)
first-set-moves a b x = at_only (λ k. s_until a k b) x.moves
