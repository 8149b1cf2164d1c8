-- What the readers of operands and sets show at each of their answers.
use mathlib.Core.Path.{◌≡◌, refl, sym, ap, ◌∙◌, subst}
use mathlib.Core.Logic.{inl, inr}
use mathlib.Core.Bool.{Bool, true, false, not, ◌&&◌}
use mathlib.Core.List.{List, [], ◌∷◌}
use Prim.Native.Nat.{ℕ, ◌+◌, ◌-◌, ◌≤◌}
use native.Mathlib.Omega.{arith}
use lib.Bits.{bit_or, or_zero_l}
use lib.ListN.{length, drop}
use Rattle.lts.specs.Names.{is_lower}
use Rattle.lts.specs.Directions.{Direction, label_direction}
use Rattle.actl.specs.Actions.{Action}
use Rattle.actl.specs.inner.Show.{gap, show_s, show_o}
use Rattle.actl.specs.Grammar.{Set, operand, union, Operand, any, received, sent, except, group}
use Rattle.actl.specs.inner.Reader.{InSet, s_paren, InOperand, o_first, o_or, o_not, operand_at, after_set, stop, close_step, plug_o}
use Rattle.actl.specs.Meaning.{labels_of, action_of_set, action_of_operand, mask_in}
use Rattle.actl.specs.inner.Mentions.{names_s, names_o}
use Rattle.actl.specs.inner.Cursor.{peek, Token, Skipped, Moves, Fails, Marked, Tokened}
use Rattle.actl.specs.inner.Readers.{unknown_in, earlier, OperandRead, SetRead, EnclosedRead, Unclosed}
use Rattle.formula_sets.specs.inner.SetReplies.{WildcardAnswer, OperandAnswer, EnclosedAnswer}
use Rattle.formula_sets.specs.inner.OperandPhases.{MarkedLabels, NoOpening, complemented, signed, SignsPassed}
use Rattle.std.specs.Prelude.{Option, None, Some, Result, Ok, Err}
use Rattle.formula_cursor.specs.declared.Cursor.{Cursor}
use Rattle.formula_sets.specs.declared.LabelSet.{LabelSet}
use Rattle.actl.proofs.ReadingMasks.{mask_complement, mask-union}
use Rattle.formula_cursor.proofs.ReadingMoves.{on-other, skipped-token, then, fail, at_only, fail_only, written_as, skip, stops, equal, marked, tokened}
use Rattle.actl.proofs.Complete.{named-no}
use Rattle.actl.proofs.ReadingLabels.{earlier-none, earlier_append}

pub token-behind : {s : List ℕ} {at mark d : ℕ} → Tokened s at mark d → Token s d
token-behind h = skipped-token h.skipped

-- A set, and no mark behind it that ends its bracket or goes on.
pub set-stops : {N : List (List ℕ)} {s : List ℕ} {at mark lost to : ℕ} (h : Unclosed N s at mark lost to) {K : Type 0} (f : K → InSet)
    → ((v : Set) (g : ℕ) (k : K) → (peek s to ≡ mark → ⊥) → close_step v (f k) g (peek s to) ≡ stop) → Fails s at to (λ k. operand_at (o_first (f k)))
set-stops {s} {to} h f e =
    let m = h.contents in
    fail (at_only f m.moves) (stops m.token.within (λ k. refl)
    (λ k. on-other (peek s to) 32 _ _ m.token.past ∙ (on-other (peek s to) 124 _ _ m.last ∙ e m.value m.blanks k h.other)))

-- The complement does not wrap.
pub operand-within : {N : List (List ℕ)} {s : List ℕ} {at lost to m l : ℕ} → OperandRead N s at lost to m l → m ≤ labels_of N Action.any
operand-within {N} h = omega (arith, h.means, mask_complement (label_direction N) (length N) (action_of_operand N h.value))

module _ (N : List (List ℕ)) {s : List ℕ} {at : ℕ} (lost : ℕ) where
  -- A mark that is an operand by itself.
  one-mark : (o : Operand) {mark to m : ℕ} → Marked s at mark to → Moves s at to (show_o o) operand_at (plug_o o) → m ≡ labels_of N (action_of_operand N o)
      → earlier lost (unknown_in N (length s) (names_o o (drop to s))) ≡ lost → OperandRead N s at lost to m lost
  one-mark o h v e l = record { value = o; up = omega (arith, h.next); moves = v; means = e; lacks = sym l }

  pub operand-any : {to m : ℕ} → Marked s at 42 to → m ≡ labels_of N Action.any → OperandRead N s at lost to m lost
  operand-any h e = one-mark any h (marked h (omega arith) (λ k. refl)) e (earlier-none lost)

  pub operand_received : {to m : ℕ} → Marked s at 63 to → m ≡ labels_of N (Action.directed Direction.received) → OperandRead N s at lost to m lost
  operand_received h e = one-mark received h (marked h (omega arith) (λ k. refl)) e (earlier-none lost)

  pub operand_sent : {to m : ℕ} → Marked s at 33 to → m ≡ labels_of N (Action.directed Direction.sent) → OperandRead N s at lost to m lost
  operand_sent h e = one-mark sent h (marked h (omega arith) (λ k. refl)) e (earlier-none lost)

  pub operand-stops : Token s at → WildcardAnswer N s at None → NoOpening s at → is_lower (peek s at) ≡ false → Fails s at at operand_at
  operand-stops h p q l = stops h.within (λ k. refl)
      (λ k. on-other (peek s at) 32 _ _ h.past ∙ (on-other (peek s at) 42 _ _ p.0 ∙ (on-other (peek s at) 63 _ _ p.1
      ∙ (on-other (peek s at) 33 _ _ p.2 ∙ (on-other (peek s at) 126 _ _ q.no_not ∙ (on-other (peek s at) 40 _ _ q.no_paren
      ∙ named-no (peek s at ∷ []) k _ refl stop (ap (λ t. t && true) l)))))))

  module _ {d : ℕ} (t : Tokened s at 126 d) where
    excepted : Moves s at d (λ r. 126 ∷ gap (d - (at + 1)) r) operand_at (λ i. operand_at (o_not i (d - (at + 1))))
    excepted = tokened (λ g i. operand_at (o_not i g)) t (omega arith) (λ i. refl) (λ g i. refl)

    operand-except : {to m l : ℕ} → OperandRead N s d lost to m l → OperandRead N s at lost to (labels_of N Action.any - m) l
    operand-except h = record {
      value = except (d - (at + 1)) h.value;
      up = omega (arith, h.up, t.skipped.up);
      moves = then excepted (at_only (λ i. o_not i (d - (at + 1))) h.moves);
      means = omega (arith, h.means, mask_complement (label_direction N) (length N) (action_of_operand N h.value));
      lacks = h.lacks;
    }

    pub except-says : (r : Result LabelSet Cursor) → OperandAnswer N s d lost r → OperandAnswer N s at lost (complemented (labels_of N Action.any) r)
    except-says (Ok x) h = operand-except h
    except-says (Err c) h = fail excepted (fail_only (λ i. o_not i (d - (at + 1))) h)

  module _ {d : ℕ} (t : Tokened s at 40 d) where
    opened : Moves s at d (λ r. 40 ∷ gap (d - (at + 1)) r) operand_at (λ i. operand_at (o_first (s_paren i (d - (at + 1)))))
    opened = tokened (λ g i. operand_at (o_first (s_paren i g))) t (omega arith) (λ i. refl) (λ g i. refl)

    group-read : {to m l : ℕ} → EnclosedRead N s d 41 lost to m l → OperandRead N s at lost to m l
    group-read {to} {m} {l} h =
        let c = h.contents in
        let v : Moves s h.end to (λ r. 41 ∷ r) (λ i. after_set c.value (s_paren i (d - (at + 1))) c.blanks) (plug_o (group (d - (at + 1)) c.value c.blanks))
        = marked h.shut (omega arith) (λ i. refl) in
        record {
          value = group (d - (at + 1)) c.value c.blanks;
          up = omega (arith, c.up, t.skipped.up, v.up);
          moves = then opened (then (at_only (λ i. s_paren i (d - (at + 1))) c.moves) v);
          means = c.means;
          lacks = c.lacks ∙ ap (λ r. earlier lost (unknown_in N (length s) (names_s c.value (gap c.blanks r)))) v.text;
        }

    pub group-says : (r : Result LabelSet Cursor) → EnclosedAnswer N s d 41 lost r → OperandAnswer N s at lost r
    group-says (Ok x) h = group-read h
    group-says (Err c) (inl h) = fail opened (fail_only (λ i. s_paren i (d - (at + 1))) h)
    group-says (Err c) (inr h) = fail opened (set-stops h (λ i. s_paren i (d - (at + 1))) (λ v g i e. on-other _ 41 _ _ e))

-- Twice all labels but those are those.
back : (N : List (List ℕ)) (s : List ℕ) (at lost : ℕ) (r : Result LabelSet Cursor) → OperandAnswer N s at lost r
    → r ≡ complemented (labels_of N Action.any) (complemented (labels_of N Action.any) r)
back N s at lost (Ok x) h =
    let all = labels_of N Action.any in
    let e : x.mask ≡ all - (all - x.mask) = omega (arith, operand-within h) in
    ap (λ k. Ok (record x { mask = k })) e
back N s at lost (Err c) h = refl

pub signs_none : (s : List ℕ) (at : ℕ) → Token s at → SignsPassed s at at false
signs_none s at h = record { up = omega arith; token = h; says = λ N lost r a. a }

-- One sign more.
pub signs_more : {s : List ℕ} {at d e : ℕ} (odd : Bool) → SignsPassed s at d odd → Tokened s d 126 e → SignsPassed s at e (not odd)
signs_more {s} {at} {d} {e} odd j t = record {
  up = omega (arith, j.up, t.skipped.up);
  token = skipped-token t.skipped;
  says = λ N lost r a. turned N lost r odd a (j.says N lost (complemented (labels_of N Action.any) r) (except-says N lost t r a));
}
  where
    turned : (N : List (List ℕ)) (lost : ℕ) (r : Result LabelSet Cursor) (odd : Bool) → OperandAnswer N s e lost r
        → OperandAnswer N s at lost (signed odd (labels_of N Action.any) (complemented (labels_of N Action.any) r))
        → OperandAnswer N s at lost (signed (not odd) (labels_of N Action.any) r)
    turned N lost r true w h = subst (OperandAnswer N s at lost) (sym (back N s e lost r w)) h
    turned N lost r false w h = h

-- The last of the marks that are operands by themselves, where the others do not stand.
pub sent_says : (N : List (List ℕ)) (s : List ℕ) (at : ℕ) (w : Option (Cursor × ℕ)) → MarkedLabels s at 33 (labels_of N (Action.directed Direction.sent)) w
    → (peek s at ≡ 42 → ⊥) → (peek s at ≡ 63 → ⊥) → WildcardAnswer N s at w
sent_says N s at (Some x) h p q = λ lost. operand_sent N lost h.0 h.1
sent_says N s at None h p q = (p, q, h)

-- A set up to the place of its next operand.
pub record Pending (N : List (List ℕ)) (s : List ℕ) (at lost to mask left : ℕ) : Type 0 where
  pub place : InSet → InOperand
  pub value : Operand → Set
  pub plugs : (o : Operand) (k : InSet) → plug_o o (place k) ≡ after_set (value o) k 0
  pub text : List ℕ → List ℕ
  pub shows : (o : Operand) (r : List ℕ) → text (show_o o r) ≡ show_s (value o) r
  pub token : Token s to
  pub moves : Moves s at to text (λ k. operand_at (o_first k)) (λ k. operand_at (place k))
  pub means : (o : Operand) → bit_or mask (labels_of N (action_of_operand N o)) ≡ mask_in N (value o)
  pub lacks : (o : Operand) (r : List ℕ) → drop to s ≡ show_o o r
      → earlier left (unknown_in N (length s) (names_o o r)) ≡ earlier lost (unknown_in N (length s) (names_s (value o) r))

pub pending_first : (N : List (List ℕ)) (s : List ℕ) (at lost : ℕ) → Token s at → Pending N s at lost at 0 lost
pending_first N s at lost h = record {
  place = o_first;
  value = operand;
  plugs = λ o k. refl;
  text = λ r. r;
  shows = λ o r. refl;
  token = h;
  moves = equal h.within (λ k. refl);
  means = λ o. or_zero_l (labels_of N (action_of_operand N o));
  lacks = λ o r e. refl;
}

module _ {N : List (List ℕ)} {s : List ℕ} {at lost d mask left : ℕ} (j : Pending N s at lost d mask left) where
  pub set_fails : {e : ℕ} → Fails s d e operand_at → Fails s at e (λ k. operand_at (o_first k))
  set_fails h = fail j.moves (fail_only j.place h)

  module _ {e m l f : ℕ} (h : OperandRead N s d left e m l) (b : Skipped s e f) where
    joined : Moves s at f (λ r. show_s (j.value h.value) (gap (f - e) r)) (λ k. operand_at (o_first k)) (λ k. after_set (j.value h.value) k (f - e))
    joined = written_as (λ r. j.shows h.value (gap (f - e) r)) (then j.moves (then (at_only j.place h.moves)
        (then (equal h.moves.within (j.plugs h.value))
        (skip (λ g k. after_set (j.value h.value) k g) (λ g k. refl) b))))

    joined-means : bit_or mask m ≡ mask_in N (j.value h.value)
    joined-means = ap (bit_or mask) h.means ∙ j.means h.value

    joined-lacks : l ≡ earlier lost (unknown_in N (length s) (names_s (j.value h.value) (gap (f - e) (drop f s))))
    joined-lacks = h.lacks ∙ (j.lacks h.value (drop e s) h.moves.text
        ∙ ap (λ r. earlier lost (unknown_in N (length s) (names_s (j.value h.value) r))) b.blanks)

    pub set-read : (peek s f ≡ 124 → ⊥) → SetRead N s at lost f (bit_or mask m) l
    set-read c = record {
      value = j.value h.value;
      blanks = f - e;
      up = omega (arith, j.moves.up, h.up, b.up);
      token = skipped-token b;
      last = c;
      moves = joined;
      means = joined-means;
      lacks = joined-lacks;
    }

    pub pending_more : {g : ℕ} → Tokened s f 124 g → Pending N s at lost g (bit_or mask m) l
    pending_more {g} t =
        let x = j.value h.value in
        let n = g - (f + 1) in
        let v : Moves s f g (λ r. 124 ∷ gap n r) (λ k. after_set x k (f - e)) (λ k. operand_at (o_or x (f - e) k n))
        = tokened (λ o k. operand_at (o_or x (f - e) k o)) t (omega arith) (λ k. refl) (λ o k. refl) in
        record {
          place = λ k. o_or x (f - e) k n;
          value = union x (f - e) n;
          plugs = λ o k. refl;
          text = λ r. show_s x (gap (f - e) (124 ∷ gap n r));
          shows = λ o r. refl;
          token = token-behind t;
          moves = then joined v;
          means = λ o. ap (λ z. bit_or z (labels_of N (action_of_operand N o))) joined-means
              ∙ sym (mask-union (label_direction N) (length N) (action_of_set N x) (action_of_operand N o));
          lacks = λ o r q. ap (λ z. earlier z (unknown_in N (length s) (names_o o r)))
              (joined-lacks ∙ ap (λ z. earlier lost (unknown_in N (length s) (names_s x (gap (f - e) z)))) (v.text ∙ ap (λ z. 124 ∷ gap n z) q))
              ∙ sym (earlier_append N (length s) lost (names_s x (gap (f - e) (124 ∷ gap n (show_o o r)))) (names_o o r));
        }
