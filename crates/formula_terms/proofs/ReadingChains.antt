-- A formula up to the place of its next term, and the whole text.
use mathlib.Core.Path.{◌≡◌, refl, sym, ap, ◌∙◌, subst}
use mathlib.Core.List.{List, [], ◌∷◌, ◌++◌, append_assoc, append-nil}
use Prim.Native.Nat.{ℕ, ◌+◌, ◌*◌, ◌-◌, ◌≤◌}
use native.Mathlib.Omega.{arith}
use lib.ListN.{length, drop, length-append}
use Rattle.actl.specs.Sizes.{longest_text, node_slot_length}
use Rattle.actl.specs.inner.Show.{gap, show_f, show_a, show_t}
use Rattle.actl.specs.Grammar.{Disjunction, conjunction, or, term, Term}
use Rattle.actl.specs.inner.Reader.{InDisjunction, InTerm, t_first, t_or, t_and, term_at, and_last, after_disjunction, plug_t}
use Rattle.actl.specs.inner.Mentions.{names_f, names_a, names_t}
use Rattle.actl.specs.inner.Cursor.{peek, Token, Skipped, Moves, Fails, Tokened}
use Rattle.actl.specs.inner.Readers.{unknown_in, earlier, TermRead, FormulaRead}
use Rattle.actl.specs.inner.NodeBytes.{bytes_of_nodes, or_bytes, not_bytes, and_bytes, NodesWritten, NodesEnclosed, NodeRoom, most_counted}
use Rattle.actl.specs.inner.Meaning.{formula_f, formula_a, formula_t}
use Rattle.formula_cursor.proofs.ReadingMoves.{skipped-token, then, fail, at_only, fail_only, written_as, skip, equal, tokened}
use Rattle.formula_sets.proofs.ReadingSets.{token-behind}
use Rattle.actl.proofs.Sound.{and_shown}
use Rattle.actl.proofs.ReadingLabels.{earlier_append}
use Rattle.actl.proofs.ReadingNodes.{written_none, written-more, written_around, bytes-or, bytes-and}

-- The nodes of a formula's last conjunction, and those before them.
abbrev before_last : List (List ℕ) → Disjunction → List ℕ
before_last N (conjunction c) = []
before_last N (or f a b c) = or_bytes ++ bytes_of_nodes (formula_f N f)

abbrev at_last : List (List ℕ) → Disjunction → List ℕ
at_last N (conjunction c) = bytes_of_nodes (formula_a N c)
at_last N (or f a b c) = bytes_of_nodes (formula_a N c)

all-nodes : (N : List (List ℕ)) (f : Disjunction) → before_last N f ++ at_last N f ≡ bytes_of_nodes (formula_f N f)
all-nodes N (conjunction c) = refl
all-nodes N (or f a b c) = sym (bytes-or (formula_f N f) (formula_a N c))

-- A term joins the last conjunction.
joins-before : (N : List (List ℕ)) (f : Disjunction) (a b : ℕ) (t : Term) → before_last N (and_last f a b t) ≡ before_last N f
joins-before N (conjunction c) a b t = refl
joins-before N (or f g h c) a b t = refl

joins-last : (N : List (List ℕ)) (f : Disjunction) (a b : ℕ) (t : Term)
    → at_last N (and_last f a b t) ≡ (and_bytes ++ (at_last N f ++ not_bytes)) ++ bytes_of_nodes (formula_t N t)
joins-last N (conjunction c) a b t = bytes-and (formula_a N c) (formula_t N t)
joins-last N (or f g h c) a b t = bytes-and (formula_a N c) (formula_t N t)

joins-names : (f : Disjunction) (a b : ℕ) (t : Term) (r : List ℕ) → names_f (and_last f a b t) r ≡ names_f f (gap a (38 ∷ gap b (show_t t r))) ++ names_t t r
joins-names (conjunction c) a b t r = refl
joins-names (or f g h c) a b t r =
    let rest = gap a (38 ∷ gap b (show_t t r)) in
    sym (append_assoc (names_f f (gap g (124 ∷ gap h (show_a c rest)))) (names_a c rest) (names_t t r))

-- `start` is the first node of the last conjunction.
pub record Awaiting (N : List (List ℕ)) (s : List ℕ) (at n lost : ℕ) (e : List ℕ) (to start k left : ℕ) (x : List ℕ) : Type 0 where
  pub place : InDisjunction → InTerm
  pub value : Term → Disjunction
  pub plugs : (t : Term) (i : InDisjunction) → plug_t t (place i) ≡ after_disjunction (value t) i 0
  pub text : List ℕ → List ℕ
  pub shows : (t : Term) (r : List ℕ) → text (show_t t r) ≡ show_f (value t) r
  pub token : Token s to
  pub moves : Moves s at to text (λ i. term_at (t_first i)) (λ i. term_at (place i))
  pub few : k + 4 * at ≤ n + 4 * to
  pub earlier-nodes : List ℕ
  pub nodes : List ℕ
  pub starts : 1 + start * node_slot_length ≡ 1 + n * node_slot_length + length earlier-nodes
  pub written : NodesWritten n k e x (earlier-nodes ++ nodes)
  pub before : (t : Term) → before_last N (value t) ≡ earlier-nodes
  pub last : (t : Term) → at_last N (value t) ≡ nodes ++ bytes_of_nodes (formula_t N t)
  pub lacks : (t : Term) (r : List ℕ) → drop to s ≡ show_t t r
      → earlier left (unknown_in N (length s) (names_t t r)) ≡ earlier lost (unknown_in N (length s) (names_f (value t) r))

pub awaiting_first : (N : List (List ℕ)) (s : List ℕ) (at n lost : ℕ) (e : List ℕ) → Token s at → NodeRoom e at n → Awaiting N s at n lost e at n n lost e
awaiting_first N s at n lost e h room = record {
  place = t_first;
  value = λ t. conjunction (term t);
  plugs = λ t i. refl;
  text = λ r. r;
  shows = λ t r. refl;
  token = h;
  moves = equal h.within (λ i. refl);
  few = omega arith;
  earlier-nodes = [];
  nodes = [];
  starts = omega arith;
  written = written_none room.long n;
  before = λ t. refl;
  last = λ t. refl;
  lacks = λ t r q. refl;
}

module _ {N : List (List ℕ)} {s : List ℕ} {at n lost : ℕ} {e : List ℕ} {d start k left : ℕ} {x : List ℕ}
    (j : Awaiting N s at n lost e d start k left x) (room : NodeRoom e at n) where
  pub await_room : NodeRoom x d k
  await_room = record { below = omega (arith, room.below, j.few); long = j.written.long ∙ room.long }

  pub formula_fails : {f : ℕ} → Fails s d f term_at → Fails s at f (λ i. term_at (t_first i))
  formula_fails h = fail j.moves (fail_only j.place h)

  module _ {end m l : ℕ} {y : List ℕ} (h : TermRead N s d k left x end m l y) {f : ℕ} (b : Skipped s end f) where
    v : Disjunction
    v = j.value h.value

    joined : Moves s at f (λ r. show_f v (gap (f - end) r)) (λ i. term_at (t_first i)) (λ i. after_disjunction v i (f - end))
    unfolding v
    joined = written_as (λ r. j.shows h.value (gap (f - end) r)) (then j.moves (then (at_only j.place h.moves)
        (then (equal h.moves.within (j.plugs h.value)) (skip (λ g i. after_disjunction (j.value h.value) i g) (λ g i. refl) b))))

    -- The nodes before the last conjunction, and its own.
    parted : NodesWritten n m e y (before_last N v ++ at_last N v)
    unfolding v
    parted = subst (NodesWritten n m e y) (append_assoc j.earlier-nodes j.nodes (bytes_of_nodes (formula_t N h.value))
        ∙ (λ i. sym (j.before h.value) i ++ sym (j.last h.value) i))
        (written-more room.long j.written h.written)

    last-starts : 1 + start * node_slot_length ≡ 1 + n * node_slot_length + length (before_last N v)
    unfolding v
    last-starts = j.starts ∙ ap (λ r. 1 + n * node_slot_length + length r) (sym (j.before h.value))

    joined-written : NodesWritten n m e y (bytes_of_nodes (formula_f N v))
    joined-written = subst (NodesWritten n m e y) (all-nodes N v) parted

    joined-lacks : l ≡ earlier lost (unknown_in N (length s) (names_f v (gap (f - end) (drop f s))))
    unfolding v
    joined-lacks = h.lacks ∙ (j.lacks h.value (drop end s) h.moves.text
        ∙ ap (λ r. earlier lost (unknown_in N (length s) (names_f (j.value h.value) r))) b.blanks)

    pub formula-read : (peek s f ≡ 38 → ⊥) → (peek s f ≡ 124 → ⊥) → FormulaRead N s at n lost e end f m l y
    formula-read p q = record {
      value = v;
      up = omega (arith, j.moves.up, h.up);
      blanks = b.up;
      few = omega (arith, j.few, h.few);
      token = skipped-token b;
      no_and = p;
      no_or = q;
      moves = joined;
      written = joined-written;
      lacks = joined-lacks;
    }

    pub join_room : length y ≡ length e
    join_room = h.written.long ∙ j.written.long

    pub join_above : (n ≤ m) × (start ≤ m)
    join_above = (
      omega (arith, joined-written.ends),
      omega (arith, j.starts, j.written.ends, h.written.ends, length-append j.earlier-nodes j.nodes),
    )

    module _ {g mark : ℕ} (t : Tokened s f mark g) (short : length s ≤ longest_text) where
      pub join_fits : m + 4 ≤ most_counted
      join_fits = omega (arith, room.below, j.few, h.few, b.up, t.skipped.up, t.skipped.within)

    o : ℕ → ℕ
    o g = g - (f + 1)

    pub awaiting_or : {g : ℕ} {z : List ℕ} → Tokened s f 124 g → NodesEnclosed n m 1 or_bytes [] y z → Awaiting N s at n lost e g (m + 1) (m + 1) l z
    unfolding o
    awaiting_or {g} {z} t q =
        let B = bytes_of_nodes (formula_f N v) in
        let w : Moves s f g (λ r. 124 ∷ gap (o g) r) (λ i. after_disjunction v i (f - end)) (λ i. term_at (t_or v (f - end) i (o g)))
        = tokened (λ u i. term_at (t_or v (f - end) i u)) t (omega arith) (λ i. refl) (λ u i. refl) in
        let c = subst (NodesWritten n (m + 1) e z) (ap (λ r. or_bytes ++ r) (append-nil B) ∙ sym (append-nil (or_bytes ++ B)))
        (written_around room.long n n m 1 y z [] B or_bytes [] joined-written (omega arith) refl q) in
        record {
          place = λ i. t_or v (f - end) i (o g);
          value = λ u. or v (f - end) (o g) (term u);
          plugs = λ u i. refl;
          text = λ r. show_f v (gap (f - end) (124 ∷ gap (o g) r));
          shows = λ u r. refl;
          token = token-behind t;
          moves = then joined w;
          few = omega (arith, j.few, h.few, b.up, t.skipped.up);
          earlier-nodes = or_bytes ++ B;
          nodes = [];
          starts = omega (arith, joined-written.ends);
          written = c;
          before = λ u. refl;
          last = λ u. refl;
          lacks = λ u r p. ap (λ z. earlier z (unknown_in N (length s) (names_t u r)))
              (joined-lacks ∙ ap (λ z. earlier lost (unknown_in N (length s) (names_f v (gap (f - end) z)))) (w.text ∙ ap (λ z. 124 ∷ gap (o g) z) p))
              ∙ sym (earlier_append N (length s) lost (names_f v (gap (f - end) (124 ∷ gap (o g) (show_t u r)))) (names_t u r));
        }

    pub awaiting_and : {g : ℕ} {z : List ℕ} → Tokened s f 38 g → NodesEnclosed start m 4 and_bytes not_bytes y z → Awaiting N s at n lost e g start (m + 4) l z
    unfolding o
    awaiting_and {g} {z} t q =
        let A = before_last N v in
        let L = at_last N v in
        let w : Moves s f g (λ r. 38 ∷ gap (o g) r) (λ i. after_disjunction v i (f - end)) (λ i. term_at (t_and v (f - end) i (o g)))
        = tokened (λ u i. term_at (t_and v (f - end) i u)) t (omega arith) (λ i. refl) (λ u i. refl) in
        record {
          place = λ i. t_and v (f - end) i (o g);
          value = and_last v (f - end) (o g);
          plugs = λ u i. refl;
          text = λ r. show_f v (gap (f - end) (38 ∷ gap (o g) r));
          shows = and_shown v (f - end) (o g);
          token = token-behind t;
          moves = then joined w;
          few = omega (arith, j.few, h.few, b.up, t.skipped.up);
          earlier-nodes = A;
          nodes = and_bytes ++ (L ++ not_bytes);
          starts = last-starts;
          written = written_around room.long n start m 4 y z A L and_bytes not_bytes parted last-starts refl q;
          before = joins-before N v (f - end) (o g);
          last = joins-last N v (f - end) (o g);
          lacks = λ u r p. ap (λ z. earlier z (unknown_in N (length s) (names_t u r)))
              (joined-lacks ∙ ap (λ z. earlier lost (unknown_in N (length s) (names_f v (gap (f - end) z)))) (w.text ∙ ap (λ z. 38 ∷ gap (o g) z) p))
              ∙ (sym (earlier_append N (length s) lost (names_f v (gap (f - end) (38 ∷ gap (o g) (show_t u r)))) (names_t u r))
              ∙ ap (λ z. earlier lost (unknown_in N (length s) z)) (sym (joins-names v (f - end) (o g) u r)));
        }
