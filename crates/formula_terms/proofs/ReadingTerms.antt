-- What the readers of terms, brackets and formulas show at each of their answers.
use mathlib.Core.Path.{◌≡◌, refl, sym, ap, ◌∙◌, subst}
use mathlib.Core.Logic.{inl, inr}
use mathlib.Core.Bool.{Bool, true, false, true≢false}
use mathlib.Core.List.{List, ◌∷◌, ◌++◌}
use Prim.Native.Nat.{ℕ, ◌+◌, ◌-◌, ◌≤◌}
use native.Mathlib.Omega.{arith}
use lib.ListN.{length, drop}
use Rattle.lts.specs.Lists.{bind}
use Rattle.lts.specs.inner.Answers.{Decides}
use Rattle.actl.specs.inner.Show.{gap, show_t, show_h}
use Rattle.actl.specs.Grammar.{existential, universal, Head, next, until, until_then, reach, labelled, Term, tru, not, modal, paren}
use Rattle.actl.specs.inner.Reader.{f_paren, t_first, t_not, t_modal, term_at, after_disjunction, plug_t}
use Rattle.actl.specs.inner.Mentions.{names_f, names_t, names_h}
use Rattle.actl.specs.Prepared.{Slot, slot, slot_bytes}
use Rattle.actl.specs.inner.Cursor.{peek, Token, Skipped, Moves, Fails, Marked, Tokened}
use Rattle.actl.specs.inner.Readers.{ReaderStart, unknown_in, earlier, head_slots, HeadRead, TermRead, BracketRead, Unbracketed}
use Rattle.actl.specs.inner.NodeBytes.{bytes_of_nodes, most_counted, NodesWritten, NodeRoom}
use Rattle.actl.specs.inner.Meaning.{formula_t}
use Rattle.formula_terms.specs.inner.Prefixes.{PrefixRead, Atom, NoAtom, PrefixesPassed, PrefixesAnswer}
use Rattle.formula_terms.specs.inner.TermReplies.{TermAnswer, BracketAnswer}
use Rattle.formula_terms.specs.declared.Nodes.{Nodes}
use Rattle.std.specs.Prelude.{Option, None, Some, is_some, Result, Ok, Err}
use Rattle.formula_cursor.specs.declared.Cursor.{Cursor}
use Rattle.formula_cursor.specs.inner.CursorReplies.{MarkAnswer}
use Rattle.formula_cursor.proofs.ReadingMoves.{on-other, skipped-token, then, fail, at_only, fail_only, written_as, skip, stops, equal, marked, tokened}
use Rattle.formula_sets.proofs.ReadingSets.{token-behind}
use Rattle.actl.proofs.ReadingLabels.{earlier-none, earlier_append}
use Rattle.actl.proofs.ReadingNodes.{written-more}

-- The nodes of a keyword stand before those of its arm, written out.
head_bytes_lem : (N : List (List ℕ)) (h : Head) (a : ℕ) (t : Term) → bytes_of_nodes (formula_t N (modal h a t)) ≡ bind slot_bytes (head_slots N h) ++ bytes_of_nodes (formula_t N t)
head_bytes_lem N (next existential b c x d) a t = refl
head_bytes_lem N (next universal b c x d) a t = refl
head_bytes_lem N (until b c x d) a t = refl
head_bytes_lem N (until_then b c x d e y g) a t = refl
head_bytes_lem N (reach existential) a t = refl
head_bytes_lem N (reach universal) a t = refl
head_bytes_lem N (labelled existential b c x d) a t = refl
head_bytes_lem N (labelled universal b c x d) a t = refl

-- The first name that a keyword with its bracket lacks, with the term behind it.
head-lacks : {N : List (List ℕ)} {s : List ℕ} {at lost a l : ℕ} {slots : List Slot} (h : HeadRead N s at lost a slots l) {d : ℕ} (b : Skipped s a d)
    (t : Term) (r : List ℕ) → drop d s ≡ show_t t r → l ≡ earlier lost (unknown_in N (length s) (names_h h.value (gap (d - a) (show_t t r))))
head-lacks {N} {s} {lost} {a} h {d} b t r q =
    h.lacks ∙ ap (λ v. earlier lost (unknown_in N (length s) (names_h h.value v))) (b.blanks ∙ ap (gap (d - a)) q)

-- Counts stay small.
pub counted : {b s : List ℕ} {at n : ℕ} {e : List ℕ} → ReaderStart b s at → NodeRoom e at n → n ≤ most_counted
counted h room = omega (arith, h.short, h.token.within, room.below)

pub inner_room : {s : List ℕ} {at n d mark : ℕ} {e : List ℕ} → NodeRoom e at n → Tokened s at mark d → NodeRoom e d n
inner_room room t = record { below = omega (arith, room.below, t.skipped.up); long = room.long }

module _ {N : List (List ℕ)} {s : List ℕ} {at n lost : ℕ} {e : List ℕ} where
  pub term-true : {to : ℕ} {x : List ℕ} → Marked s at 84 to → NodesWritten n (n + 1) e x (slot_bytes (slot 1 0 0)) → TermRead N s at n lost e to (n + 1) lost x
  term-true h p = record {
    value = tru;
    up = omega (arith, h.next);
    few = omega (arith, h.next);
    moves = marked h (omega arith) (λ k. refl);
    written = p;
    lacks = sym (earlier-none lost);
  }

  -- `~` before a term.
  pub prefix_not : {d : ℕ} {x : List ℕ} → Tokened s at 126 d → NodesWritten n (n + 1) e x (slot_bytes (slot 2 0 0)) → PrefixRead N s at n lost e d (n + 1) lost x
  prefix_not {d} t p = record {
    place = λ i. t_not i (d - (at + 1));
    value = not (d - (at + 1));
    plugs = λ v i. refl;
    text = λ r. 126 ∷ gap (d - (at + 1)) r;
    shows = λ v r. refl;
    up = omega (arith, t.skipped.up);
    few = omega arith;
    token = token-behind t;
    moves = tokened (λ g i. term_at (t_not i g)) t (omega arith) (λ i. refl) (λ g i. refl);
    nodes = slot_bytes (slot 2 0 0);
    written = p;
    means = λ v. refl;
    lacks = λ v r q. refl;
  }

  -- A keyword with its bracket before one.
  pub prefix_head : {a l : ℕ} {slots : List Slot} (h : HeadRead N s at lost a slots l) {d : ℕ} (b : Skipped s a d) {m : ℕ} {x : List ℕ}
      → NodesWritten n m e x (bind slot_bytes slots) → m ≤ n + 3 → PrefixRead N s at n lost e d m l x
  prefix_head {a} {slots} h {d} b p w = record {
    place = λ i. t_modal h.value i (d - a);
    value = modal h.value (d - a);
    plugs = λ t i. refl;
    text = λ r. show_h h.value (gap (d - a) r);
    shows = λ t r. refl;
    up = omega (arith, h.up, b.up);
    few = w;
    token = skipped-token b;
    moves = then h.moves (skip (λ g i. term_at (t_modal h.value i g)) (λ g i. refl) b);
    nodes = bind slot_bytes slots;
    written = p;
    means = λ t. ap (λ v. bind slot_bytes v ++ bytes_of_nodes (formula_t N t)) (sym h.means) ∙ sym (head_bytes_lem N h.value (d - a) t);
    lacks = λ t r q. ap (λ v. earlier v (unknown_in N (length s) (names_t t r))) (head-lacks h b t r q)
        ∙ sym (earlier_append N (length s) lost (names_h h.value (gap (d - a) (show_t t r))) (names_t t r));
  }

  -- The term behind it.
  module _ {d m l : ℕ} {x : List ℕ} (room : NodeRoom e at n) (p : PrefixRead N s at n lost e d m l x) where
    pub behind-room : NodeRoom x d m
    behind-room = record { below = omega (arith, room.below, p.up, p.few); long = p.written.long ∙ room.long }

    behind-read : {to k left : ℕ} {y : List ℕ} → TermRead N s d m l x to k left y → TermRead N s at n lost e to k left y
    behind-read {to} {k} {y} t = record {
      value = p.value t.value;
      up = omega (arith, p.up, t.up);
      few = omega (arith, p.up, p.few, t.few);
      moves = written_as (p.shows t.value) (then p.moves (then (at_only p.place t.moves) (equal t.moves.within (p.plugs t.value))));
      written = subst (NodesWritten n k e y) (p.means t.value) (written-more room.long p.written t.written);
      lacks = t.lacks ∙ p.lacks t.value (drop to s) t.moves.text;
    }

    pub term-behind : (y : List ℕ) (r : Result Nodes Cursor) → TermAnswer N s d m l x y r → TermAnswer N s at n lost e y r
    term-behind y (Ok v) t = behind-read t
    term-behind y (Err c) t = fail p.moves (fail_only p.place t)

-- Prefixes behind each other.
pub passed_none : (N : List (List ℕ)) (s : List ℕ) (at n lost : ℕ) (e : List ℕ) → Token s at → NodeRoom e at n → PrefixesPassed N s at n lost e at n lost e
passed_none N s at n lost e h room = record { up = omega arith; token = h; room = room; says = λ y r t. t }

pub passed-one : {N : List (List ℕ)} {s : List ℕ} {at n lost : ℕ} {e : List ℕ} {d m l : ℕ} {x : List ℕ} → NodeRoom e at n
    → PrefixRead N s at n lost e d m l x → PrefixesPassed N s at n lost e d m l x
passed-one room p = record { up = omega (arith, p.up); token = p.token; room = behind-room room p; says = term-behind room p }

pub passed_then : {N : List (List ℕ)} {s : List ℕ} {at n lost : ℕ} {e : List ℕ} {d m l : ℕ} {x : List ℕ} {to k left : ℕ} {z : List ℕ}
    → PrefixesPassed N s at n lost e d m l x → PrefixesPassed N s d m l x to k left z → PrefixesPassed N s at n lost e to k left z
passed_then p q = record { up = omega (arith, p.up, q.up); token = q.token; room = q.room; says = λ y r t. p.says y r (q.says y r t) }

-- A refusal behind prefixes.
pub passed_fails : {N : List (List ℕ)} {s : List ℕ} {at n lost : ℕ} {e : List ℕ} {d m l : ℕ} {x : List ℕ} → PrefixesPassed N s at n lost e d m l x
    → (y : List ℕ) (r : Result Nodes Cursor) → PrefixesAnswer N s d m l x y r → PrefixesAnswer N s at n lost e y r
passed_fails p y (Ok v) h = record { passed = passed_then p h.passed; atom = h.atom }
passed_fails p y (Err c) h = p.says y (Err c) h

-- A place is one of an atom, or it is not.
pub atom-there : (s : List ℕ) (at : ℕ) → Atom s at → Decides (Atom s at) true
atom-there s at h = record { yes = λ e. h; no = λ e p. true≢false e }

atom_neither : (s : List ℕ) (at : ℕ) → Atom s at → (peek s at ≡ 84 → ⊥) → (peek s at ≡ 40 → ⊥) → ⊥
atom_neither s at (inl h) p q = p h
atom_neither s at (inr h) p q = q h

no-atom-there : (s : List ℕ) (at : ℕ) → (peek s at ≡ 84 → ⊥) → (peek s at ≡ 40 → ⊥) → Decides (Atom s at) false
no-atom-there s at p q = record { yes = λ e. absurd (true≢false (sym e)); no = λ e h. atom_neither s at h p q }

-- What a mark's test says.
pub marked-where : (s : List ℕ) (at mark : ℕ) (r : Option Cursor) → MarkAnswer s at mark r → is_some r ≡ true → (d : Cursor) × Marked s at mark d.at
marked-where s at mark (Some d) h e = (d, h)
marked-where s at mark None h e = absurd (true≢false (sym e))

pub unmarked-where : (s : List ℕ) (at mark : ℕ) (r : Option Cursor) → MarkAnswer s at mark r → is_some r ≡ false → peek s at ≡ mark → ⊥
unmarked-where s at mark (Some d) h e = absurd (true≢false e)
unmarked-where s at mark None h e = h

pub atom_last : (s : List ℕ) (at : ℕ) (r : Option Cursor) → MarkAnswer s at 40 r → (b : Bool) → b ≡ is_some r → (peek s at ≡ 84 → ⊥) → Decides (Atom s at) b
atom_last s at (Some d) h b e p = subst (Decides (Atom s at)) (sym e) (atom-there s at (inr h.here))
atom_last s at None h b e p = subst (Decides (Atom s at)) (sym e) (no-atom-there s at p h)

pub no-atom : {s : List ℕ} {at : ℕ} {b : Bool} → Decides (Atom s at) b → b ≡ false → NoAtom s at
no-atom d e = record { no_true = λ p. d.no e (inl p); no_paren = λ p. d.no e (inr p) }

-- A formula in round brackets.
module _ (N : List (List ℕ)) {s : List ℕ} {at : ℕ} (n lost : ℕ) (e : List ℕ) {d : ℕ} (t : Tokened s at 40 d) where
  opened : Moves s at d (λ r. 40 ∷ gap (d - (at + 1)) r) term_at (λ i. term_at (t_first (f_paren i (d - (at + 1)))))
  opened = tokened (λ g i. term_at (t_first (f_paren i g))) t (omega arith) (λ i. refl) (λ g i. refl)

  paren-read : {to m l : ℕ} {y : List ℕ} → BracketRead N s d n lost e to m l y → TermRead N s at n lost e to m l y
  paren-read {to} h =
      let c = h.contents in
      let b = h.behind - h.end in
      let v : Moves s h.behind to (λ r. 41 ∷ r) (λ i. after_disjunction c.value (f_paren i (d - (at + 1))) b) (plug_t (paren (d - (at + 1)) c.value b))
      = marked h.shut (omega arith) (λ i. refl) in
      record {
        value = paren (d - (at + 1)) c.value b;
        up = omega (arith, c.up, c.blanks, t.skipped.up, v.up);
        few = omega (arith, c.few, c.blanks, t.skipped.up, v.up);
        moves = then opened (then (at_only (λ i. f_paren i (d - (at + 1))) c.moves) v);
        written = c.written;
        lacks = c.lacks ∙ ap (λ r. earlier lost (unknown_in N (length s) (names_f c.value (gap b r)))) v.text;
      }

  unclosed : {to : ℕ} {y : List ℕ} → Unbracketed N s d n lost e to y → Fails s at to term_at
  unclosed {to} h =
      let c = h.contents in
      fail (then opened (at_only (λ i. f_paren i (d - (at + 1))) c.moves)) (stops c.token.within (λ i. refl)
      (λ i. on-other (peek s to) 32 _ _ c.token.past ∙ (on-other (peek s to) 38 _ _ c.no_and
      ∙ (on-other (peek s to) 124 _ _ c.no_or ∙ on-other (peek s to) 41 _ _ h.other))))

  pub term-paren : (y : List ℕ) (r : Result Nodes Cursor) → BracketAnswer N s d n lost e y r → TermAnswer N s at n lost e y r
  term-paren y (Ok v) h = paren-read h
  term-paren y (Err c) (inl h) = fail opened (fail_only (λ i. f_paren i (d - (at + 1))) h)
  term-paren y (Err c) (inr h) = unclosed h
