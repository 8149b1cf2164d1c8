-- From the rest of a keyword to the whole of it: what stands before a rest, the bracket's opening, and the keywords.
use mathlib.Core.Path.{◌≡◌, refl, sym, ap, ◌∙◌, subst}
use mathlib.Core.Logic.{inl, inr}
use mathlib.Core.List.{List, [], ◌∷◌}
use Prim.Native.Nat.{ℕ, suc, ◌+◌, ◌-◌, ◌≤◌, ◌<◌}
use native.Mathlib.Omega.{arith}
use lib.ListN.{length}
use Rattle.actl.specs.Actions.{Action, Mask}
use Rattle.actl.specs.Grammar as grammar
use Rattle.actl.specs.inner.Show.{gap, show_r}
use Rattle.actl.specs.Grammar.{existential, universal, reach}
use Rattle.actl.specs.inner.Reader.{InTerm, t_modal, State, term_at, after_e, after_a, after_first, after_second, go, stop, read_byte, finish, refused}
use Rattle.actl.specs.inner.Reader.{second, third}
use Rattle.actl.specs.Meaning.{labels_of}
use Rattle.actl.specs.Prepared.{Slot, slot}
use Rattle.actl.specs.inner.Cursor.{peek, Token, Skipped, Moves, Fails, Marked, Tokened, Keyword}
use Rattle.actl.specs.inner.Readers.{dual_slots, HeadRead, NoMark, NoLong, NoKeyword}
use Rattle.formulas.specs.inner.Access.{slot_of_node}
use Rattle.formulas.specs.declared.node.Node.{Node}
use Rattle.formulas.specs.declared.node.Node.TheVariants as node
use Rattle.formula_cursor.specs.declared.Cursor.{Cursor}
use Rattle.formula_cursor.proofs.ReadingMoves.{on-other, then, fail, written_as, skip, stops, equal, marked, tokened}
use Rattle.formula_heads.specs.inner.HeadReplies.{HeadAnswer}
use Rattle.formula_heads.specs.inner.Brackets.{quantifier_in, dual_of, word_of, Word, NoShort, RestRead, RestAnswer, behind_word, shown_word}
use Rattle.formula_heads.specs.inner.Brackets.{in_bracket, ContentsAnswer, first, LettersAnswer}
use Rattle.formula_heads.specs.declared.Quantifier.{Quantifier}
use Rattle.formula_heads.specs.declared.Quantifier.TheVariants.{Existential, Universal}
use Rattle.formula_heads.specs.declared.Keyword as word
use Rattle.formula_heads.specs.declared.Keyword.TheVariants.{Next, Until, Labelled}
use Rattle.formula_heads.specs.declared.Heading.{Heading}
use Rattle.std.specs.Prelude.{Result, Ok, Err}
use Rattle.actl.proofs.ReadingLabels.{earlier-none}

module _ (N : List (List ℕ)) (s : List ℕ) (lost : ℕ) where
  rest-behind : {at d to l : ℕ} {slots : List Slot} {x y : InTerm → State} {v : List ℕ → List ℕ} (before : List ℕ → List ℕ)
      → Moves s at d v x y → RestRead N s y (λ t. before (v t)) d lost to slots l → RestRead N s x before at lost to slots l
  rest-behind {v = v} before m h = record {
    value = h.value;
    text = λ t. v (h.text t);
    shows = h.shows;
    moves = then m h.moves;
    means = h.means;
    lacks = h.lacks;
  }

  -- A piece of the text before a rest.
  pub behind : {at d : ℕ} {x y : InTerm → State} {v : List ℕ → List ℕ} (before : List ℕ → List ℕ) → Moves s at d v x y
      → (r : Result Heading Cursor) → RestAnswer N s y (λ t. before (v t)) d lost r → RestAnswer N s x before at lost r
  behind before m (Ok x) h = rest-behind before m h
  behind before m (Err c) h = fail m h

  head-whole : {at d to l : ℕ} {slots : List Slot} {y : InTerm → State} {v : List ℕ → List ℕ}
      → at < d → Moves s at d v term_at y → RestRead N s y v d lost to slots l → HeadRead N s at lost to slots l
  head-whole u m h = record {
    value = h.value;
    up = omega (arith, h.moves.up);
    moves = written_as (λ r. sym (h.shows r)) (then m h.moves);
    means = h.means;
    lacks = h.lacks;
  }

  -- The first piece of a head.
  pub head-behind : {at d : ℕ} {y : InTerm → State} {v : List ℕ → List ℕ}
      → at < d → Moves s at d v term_at y → (r : Result Heading Cursor) → RestAnswer N s y v d lost r → HeadAnswer N s at lost r
  head-behind u m (Ok x) h = head-whole u m h
  head-behind u m (Err c) h = fail m h

  pub dual_read : {at l : ℕ} {x : InTerm → State} {before : List ℕ → List ℕ} (q : Quantifier) (c : Cursor) (n : Node)
      → RestRead N s x before at lost c.at (dual_slots (quantifier_in q) (slot_of_node n)) l → RestAnswer N s x before at lost (Ok (dual_of q c n l))
  dual_read Existential c n h = h
  dual_read Universal c n h = h

-- The states around the `[` of a bracket.
blank_before : (w : word.Keyword) (g : ℕ) (k : InTerm) → read_byte (behind_word w g k) 32 ≡ go (behind_word w (suc g) k)
blank_before (Next q) g k = refl
blank_before Until g k = refl
blank_before (Labelled q) g k = refl

opens : (w : word.Keyword) (g : ℕ) (k : InTerm) → read_byte (behind_word w g k) 91 ≡ go (in_bracket w g 0 k)
opens (Next q) g k = refl
opens Until g k = refl
opens (Labelled q) g k = refl

blank_inside : (w : word.Keyword) (a g : ℕ) (k : InTerm) → read_byte (in_bracket w a g k) 32 ≡ go (in_bracket w a (suc g) k)
blank_inside (Next q) a g k = refl
blank_inside Until a g k = refl
blank_inside (Labelled q) a g k = refl

no_end : (w : word.Keyword) (g : ℕ) (k : InTerm) → finish (behind_word w g k) ≡ refused []
no_end (Next q) g k = refl
no_end Until g k = refl
no_end (Labelled q) g k = refl

no_other : (w : word.Keyword) (g b : ℕ) → (b ≡ 32 → ⊥) → (b ≡ 91 → ⊥) → (k : InTerm) → read_byte (behind_word w g k) b ≡ stop
no_other (Next q) g b p o k = on-other b 32 _ _ p ∙ on-other b 91 _ _ o
no_other Until g b p o k = on-other b 32 _ _ p ∙ on-other b 91 _ _ o
no_other (Labelled q) g b p o k = on-other b 32 _ _ p ∙ on-other b 91 _ _ o

module _ (N : List (List ℕ)) (s : List ℕ) (lost : ℕ) (w : word.Keyword) {at o : ℕ} (k : Skipped s at o) where
  to_bracket : Moves s at o (gap (o - at)) (behind_word w 0) (behind_word w (o - at))
  to_bracket = skip (behind_word w) (blank_before w) k

  pub unopened : (peek s o ≡ 91 → ⊥) → Fails s at o (behind_word w 0)
  unopened h = fail to_bracket (stops k.within (no_end w (o - at)) (no_other w (o - at) (peek s o) k.past h))

  pub opened : {d : ℕ} → Tokened s o 91 d → (r : Result Heading Cursor) → ContentsAnswer w N s d lost r → RestAnswer N s (behind_word w 0) (shown_word w) at lost r
  opened {d} t r h =
      let m = tokened (in_bracket w (o - at)) t (omega arith) (opens w (o - at)) (blank_inside w (o - at)) in
      behind N s lost (shown_word w) (then to_bracket m) r (h (o - at) (d - (o + 1)))

-- Keywords of two letters.
module _ {s : List ℕ} {at : ℕ} where
  past : {f g d : ℕ} → Keyword s at f g d → at < d
  past h = omega (arith, h.two.next)

  spelled : {f g d : ℕ} {x z : InTerm → State} (y : InTerm → State) → Keyword s at f g d → f < 256 → g < 256
      → ((k : InTerm) → read_byte (x k) f ≡ go (y k)) → ((k : InTerm) → read_byte (y k) g ≡ go (z k)) → Moves s at d (λ r. f ∷ g ∷ r) x z
  spelled y h p q a b = then (marked {y = y} h.one p a) (marked h.two q b)

module _ (N : List (List ℕ)) (s : List ℕ) (at lost : ℕ) where
  pub head-next : (q : Quantifier) {d : ℕ} → Word s at (word_of q (69 ∷ 88 ∷ []) (65 ∷ 88 ∷ [])) d
      → (r : Result Heading Cursor) → RestAnswer N s (behind_word (Next q) 0) (shown_word (Next q)) d lost r → HeadAnswer N s at lost r
  head-next Existential k r h = head-behind N s lost (past k) (spelled after_e k (omega arith) (omega arith) (λ i. refl) (λ i. refl)) r h
  head-next Universal k r h = head-behind N s lost (past k) (spelled after_a k (omega arith) (omega arith) (λ i. refl) (λ i. refl)) r h

  pub head-until : {d : ℕ} → Keyword s at 69 85 d
      → (r : Result Heading Cursor) → RestAnswer N s (behind_word Until 0) (shown_word Until) d lost r → HeadAnswer N s at lost r
  head-until k r h = head-behind N s lost (past k) (spelled after_e k (omega arith) (omega arith) (λ i. refl) (λ i. refl)) r h

  -- EF and AG have no bracket.
  reach-read : (q : grammar.Quantifier) {d : ℕ} (mask : Mask) → mask ≡ labels_of N Action.any → d ≤ length s
      → RestRead N s (λ k. term_at (t_modal (reach q) k 0)) (show_r q) d lost d (dual_slots q (slot 8 mask 0)) lost
  reach-read q mask e w = record {
    value = reach q;
    text = λ r. r;
    shows = λ r. refl;
    moves = equal w (λ k. refl);
    means = ap (λ z. dual_slots q (slot 8 z 0)) (sym e);
    lacks = sym (earlier-none lost);
  }

  pub head-reach : (q : Quantifier) (c : Cursor) (mask : Mask) → mask ≡ labels_of N Action.any
      → Word s at (word_of q (69 ∷ 70 ∷ []) (65 ∷ 71 ∷ [])) c.at → HeadAnswer N s at lost (Ok (dual_of q c (node.Until mask) lost))
  head-reach Existential c mask e k =
      let m = spelled after_e k (omega arith) (omega arith) (λ i. refl) (λ i. refl) in
      head-whole N s lost (past k) m (reach-read existential mask e m.within)
  head-reach Universal c mask e k =
      let m = spelled after_a k (omega arith) (omega arith) (λ i. refl) (λ i. refl) in
      head-whole N s lost (past k) m (reach-read universal mask e m.within)

  -- DIA and BOX, behind their first letter.
  pub head-letters : (q : Quantifier) {d : ℕ} → Marked s at (first (quantifier_in q)) d
      → (r : Result Heading Cursor) → LettersAnswer N s q d lost r → HeadAnswer N s at lost r
  head-letters Existential k r h = head-behind N s lost (omega (arith, k.next)) (marked k (omega arith) (λ i. refl)) r h
  head-letters Universal k r h = head-behind N s lost (omega (arith, k.next)) (marked k (omega arith) (λ i. refl)) r h

  pub no_second : (q : Quantifier) → at ≤ length s → (peek s at ≡ second (quantifier_in q) → ⊥) → Fails s at at (after_first (quantifier_in q))
  no_second q w h = stops w (λ k. refl) (λ k. on-other (peek s at) (second (quantifier_in q)) _ _ h)

  second-small : (q : grammar.Quantifier) → second q < 256
  second-small existential = omega arith
  second-small universal = omega arith

  second-read : (q : grammar.Quantifier) (k : InTerm) → read_byte (after_first q k) (second q) ≡ go (after_second q k)
  second-read existential k = refl
  second-read universal k = refl

  pub no_third : (q : Quantifier) {d : ℕ} → Marked s at (second (quantifier_in q)) d
      → (peek s d ≡ third (quantifier_in q) → ⊥) → Fails s at d (after_first (quantifier_in q))
  no_third q {d} m h =
      let p = quantifier_in q in
      let v : Moves s at d (λ r. second p ∷ r) (after_first p) (after_second p) = marked m (second-small p) (second-read p) in
      fail v (stops v.within (λ k. refl) (λ k. on-other (peek s d) (third p) _ _ h))

  pub letters-read : (q : Quantifier) {d e : ℕ} → Marked s at (second (quantifier_in q)) d → Marked s d (third (quantifier_in q)) e
      → (r : Result Heading Cursor) → RestAnswer N s (behind_word (Labelled q) 0) (shown_word (Labelled q)) e lost r → LettersAnswer N s q at lost r
  letters-read Existential m n r h =
      let v = then (marked {y = after_second existential} m (omega arith) (λ i. refl)) (marked n (omega arith) (λ i. refl)) in
      behind N s lost (λ t. first existential ∷ t) v r h
  letters-read Universal m n r h =
      let v = then (marked {y = after_second universal} m (omega arith) (λ i. refl)) (marked n (omega arith) (λ i. refl)) in
      behind N s lost (λ t. first universal ∷ t) v r h

  pub no-head : {to : ℕ} → Token s at → NoMark s at → NoLong s at → NoShort s at → (peek s at ≡ 68 → ⊥) → (peek s at ≡ 66 → ⊥)
      → NoKeyword s at to → Fails s at to term_at
  no-head {to} t n o f dia box (inl h) =
      let z = h.next in
      fail (marked {y = after_e} h (omega arith) (λ k. refl)) (stops (let w = h.within in omega arith) (λ k. refl)
      (λ k. on-other (peek s to) 88 _ _ (λ q. o.no_ex h.here (ap (peek s) (sym z) ∙ q))
      ∙ (on-other (peek s to) 85 _ _ (λ q. o.no_eu h.here (ap (peek s) (sym z) ∙ q))
      ∙ on-other (peek s to) 70 _ _ (λ q. f.no_ef h.here (ap (peek s) (sym z) ∙ q)))))
  no-head {to} t n o f dia box (inr (inl h)) =
      let z = h.next in
      fail (marked {y = after_a} h (omega arith) (λ k. refl)) (stops (let w = h.within in omega arith) (λ k. refl)
      (λ k. on-other (peek s to) 88 _ _ (λ q. o.no_ax h.here (ap (peek s) (sym z) ∙ q))
      ∙ on-other (peek s to) 71 _ _ (λ q. f.no_ag h.here (ap (peek s) (sym z) ∙ q))))
  no-head {to} t n o f dia box (inr (inr h)) = subst (λ i. Fails s at i term_at) (sym h.2) (stops t.within (λ k. refl)
      (λ k. on-other (peek s at) 32 _ _ t.past ∙ (on-other (peek s at) 84 _ _ n.no_true
      ∙ (on-other (peek s at) 126 _ _ n.no_not ∙ (on-other (peek s at) 40 _ _ n.no_paren
      ∙ (on-other (peek s at) 69 _ _ h.0 ∙ (on-other (peek s at) 65 _ _ h.1
      ∙ (on-other (peek s at) 68 _ _ dia ∙ on-other (peek s at) 66 _ _ box))))))))
