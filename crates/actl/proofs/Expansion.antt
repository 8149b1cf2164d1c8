-- A line's expansion is a text of the base notation, with the same names and the same answer. A text of the base notation is its own expansion.
use mathlib.Core.Path.{◌≡◌, refl, sym, ap, ap₂, ◌∙◌, subst}
use mathlib.Core.Logic.{⊎_elim}
use mathlib.Core.Bool.{Bool, true, false, cond, not as negate, ◌&&◌, ◌||◌}
use mathlib.Core.List.Memᴰ
use mathlib.Core.List.{List, [], ◌∷◌, ◌++◌, map, append-nil, head-eq_of_cons-eq, tail-eq_of_cons-eq, nil≢cons, Memᴰ}
use mathlib.Core.Option.{Option, none, some}
use Prim.Native.Nat.{ℕ, zero, suc, ◌+◌}
use native.Mathlib.Omega.{arith}
use lib.ListN.{length, length-append}
use Rattle.columns.specs.Ascii.{ascii}
use Rattle.lts.specs.Lists.{every, bind}
use Rattle.lts.specs.Marks.{Marks, unmarked, marked, is_mark}
use Rattle.lts.specs.Directions.{Plain}
use Rattle.lts.specs.Names.{lookup}
use Rattle.lts.proofs.Booleans.{and-true-of, not-false}
use Rattle.actl.specs.Grammar.{Name, Set, operand, union, Operand, name, any, received, sent, except, group, Condition, dot, set, Quantifier}
use Rattle.actl.specs.Grammar.{existential, universal, next, until, until_then, reach, labelled, Disjunction, conjunction, or, Conjunction, term, and}
use Rattle.actl.specs.Grammar.{Term, tru, not, modal, paren, Piece, byte, named, text_of, blanks, pieces_s, pieces_o, pieces_c, pieces_q, pieces_f, pieces_a}
use Rattle.actl.specs.Grammar.{pieces_t}
use Rattle.actl.specs.Marks.{allows, fits_piece}
use Rattle.actl.specs.Base.{BaseHead, Base, BaseTerm, typed, typed_term, BaseText}
use Rattle.actl.specs.WrittenOut.{written_out, written_out_conjunction, written_out_term}
use Rattle.actl.specs.Meaning.{formula_of}
use Rattle.actl.specs.Reading.{unless_found, unknown_at, unknown_from, with_classes, on_tree}
use Rattle.actl.specs.Expansion.{expansion, names_among, Known, FirstLacking, SameAnswer, same, lacking, Expands}

-- A tree of the base notation is its own tree written out.
mutual
  pub typed-written : (g : Base) → written_out (typed g) ≡ g
  typed-written (Base.term t) = ap (λ u. Base.term u) (typed-term-written t)
  typed-written (Base.or f a b t) = ap₂ (λ g u. Base.or g a b u) (typed-written f) (typed-term-written t)

  pub typed-term-written : (t : BaseTerm) → written_out_term (typed_term t) ≡ t
  typed-term-written BaseTerm.tru = refl
  typed-term-written (BaseTerm.not a t) = ap (λ u. BaseTerm.not a u) (typed-term-written t)
  typed-term-written (BaseTerm.modal (BaseHead.next q b c x d) a t) = ap (λ u. BaseTerm.modal (BaseHead.next q b c x d) a u) (typed-term-written t)
  typed-term-written (BaseTerm.modal (BaseHead.until b c x d) a t) = ap (λ u. BaseTerm.modal (BaseHead.until b c x d) a u) (typed-term-written t)
  typed-term-written (BaseTerm.modal (BaseHead.until_then b c x d e y g) a t) = ap (λ u. BaseTerm.modal (BaseHead.until_then b c x d e y g) a u) (typed-term-written t)
  typed-term-written (BaseTerm.paren a f b) = ap (λ g. BaseTerm.paren a g b) (typed-written f)

-- The names and marks among pieces. `Alike`: both have the same.
abbrev telling : Piece → List Piece
telling (byte b) = cond (is_mark b) (byte b ∷ []) []
telling (named n) = named n ∷ []

record Alike (k l : List Piece) : Type 0 where
  told : bind telling k ≡ bind telling l

-- Before both: the same piece, and blanks. Before one: bytes that are no marks.
same_piece : (p : Piece) {k l : List Piece} → Alike k l → Alike (p ∷ k) (p ∷ l)
same_piece p h = record { told = ap (λ r. telling p ++ r) h.told }

same-blanks : (a : ℕ) {k l : List Piece} → Alike k l → Alike (blanks a k) (blanks a l)
same-blanks zero h = h
same-blanks (suc a) h = same_piece (byte 32) (same-blanks a h)

no-marks-told : (p : List ℕ) → Plain p → (l : List Piece) → bind telling (map byte p ++ l) ≡ bind telling l
no-marks-told [] h l = refl
no-marks-told (b ∷ p) h l =
    let (first, rest) = and-true-of (negate (is_mark b)) (every (λ c. negate (is_mark c)) p) h in
    ap (λ t. cond t (byte b ∷ []) [] ++ bind telling (map byte p ++ l)) (not-false (is_mark b) first) ∙ no-marks-told p rest l

written-bytes : (p : List ℕ) → Plain p → {k l : List Piece} → Alike k l → Alike (map byte p ++ k) l
written-bytes p e {k} h = record { told = no-marks-told p e k ∙ h.told }

typed-bytes : (p : List ℕ) → Plain p → {k l : List Piece} → Alike k l → Alike k (map byte p ++ l)
typed-bytes p e {l = l} h = record { told = h.told ∙ sym (no-marks-told p e l) }

mutual
  set_alike : (x : Set) {k l : List Piece} → Alike k l → Alike (pieces_s x k) (pieces_s x l)
  set_alike (operand o) h = operand_alike o h
  set_alike (union x a b o) h = set_alike x (same-blanks a (same_piece (byte 124) (same-blanks b (operand_alike o h))))

  operand_alike : (o : Operand) {k l : List Piece} → Alike k l → Alike (pieces_o o k) (pieces_o o l)
  operand_alike (name n) h = same_piece (named n) h
  operand_alike any h = same_piece (byte 42) h
  operand_alike received h = same_piece (byte 63) h
  operand_alike sent h = same_piece (byte 33) h
  operand_alike (except a o) h = same_piece (byte 126) (same-blanks a (operand_alike o h))
  operand_alike (group a x b) h = same_piece (byte 40) (same-blanks a (set_alike x (same-blanks b (same_piece (byte 41) h))))

condition_alike : (c : Condition) {k l : List Piece} → Alike k l → Alike (pieces_c c k) (pieces_c c l)
condition_alike dot h = same_piece (byte 46) h
condition_alike (set x) h = set_alike x h

quantifier_alike : (q : Quantifier) {k l : List Piece} → Alike k l → Alike (pieces_q q k) (pieces_q q l)
quantifier_alike existential h = same_piece (byte 69) (same_piece (byte 88) h)
quantifier_alike universal h = same_piece (byte 65) (same_piece (byte 88) h)

-- What stands before and behind the contents of a square bracket.
opened : (b c : ℕ) {k l : List Piece} → Alike k l → Alike (blanks b (byte 91 ∷ blanks c k)) (blanks b (byte 91 ∷ blanks c l))
opened b c h = same-blanks b (same_piece (byte 91) (same-blanks c h))

shut : (d : ℕ) {k l : List Piece} → Alike k l → Alike (blanks d (byte 93 ∷ k)) (blanks d (byte 93 ∷ l))
shut d h = same-blanks d (same_piece (byte 93) h)

-- A tree written out has the names and the marks of the tree.
mutual
  written_alike : (f : Disjunction) {k l : List Piece} → Alike k l → Alike (pieces_f (typed (written_out f)) k) (pieces_f f l)
  written_alike (conjunction c) h = conjunction_alike c h
  written_alike (or f a b c) h = written_alike f (same-blanks a (same_piece (byte 124) (same-blanks b (conjunction_alike c h))))

  conjunction_alike : (c : Conjunction) {k l : List Piece} → Alike k l → Alike (pieces_t (typed_term (written_out_conjunction c)) k) (pieces_a c l)
  conjunction_alike (term u) h = term_alike u h
  conjunction_alike (and c a b u) h =
      let second = written-bytes (ascii "~") refl (term_alike u (written-bytes (ascii "))") refl h)) in
      written-bytes (ascii "(~(~") refl (conjunction_alike c (same-blanks a (written-bytes (ascii "|") refl (typed-bytes (ascii "&") refl (same-blanks b second)))))

  term_alike : (u : Term) {k l : List Piece} → Alike k l → Alike (pieces_t (typed_term (written_out_term u)) k) (pieces_t u l)
  term_alike tru h = same_piece (byte 84) h
  term_alike (not a u) h = same_piece (byte 126) (same-blanks a (term_alike u h))
  term_alike (modal (next q b c x d) a u) h = quantifier_alike q (opened b c (condition_alike x (shut d (same-blanks a (term_alike u h)))))
  term_alike (modal (until b c x d) a u) h = same_piece (byte 69) (same_piece (byte 85) (opened b c (set_alike x (shut d (same-blanks a (term_alike u h))))))
  term_alike (modal (until_then b c x d e y g) a u) h =
      let second = set_alike y (shut g (same-blanks a (term_alike u h))) in
      same_piece (byte 69) (same_piece (byte 85) (opened b c (set_alike x (same-blanks d (same_piece (byte 59) (same-blanks e second))))))
  term_alike (modal (reach existential) a u) h = written-bytes (ascii "(EU[*]") refl (typed-bytes (ascii "EF") refl (same-blanks a (term_alike u (written-bytes (ascii ")") refl h))))
  term_alike (modal (reach universal) a u) h = written-bytes (ascii "(~EU[*]~") refl (typed-bytes (ascii "AG") refl (same-blanks a (term_alike u (written-bytes (ascii ")") refl h))))
  term_alike (modal (labelled existential b c x d) a u) h =
      let under = same-blanks a (term_alike u (written-bytes (ascii ")") refl h)) in
      written-bytes (ascii "(EX") refl (typed-bytes (ascii "DIA") refl (opened b c (set_alike x (shut d under))))
  term_alike (modal (labelled universal b c x d) a u) h =
      let under = written-bytes (ascii "~") refl (same-blanks a (term_alike u (written-bytes (ascii ")") refl h))) in
      written-bytes (ascii "(~EX") refl (typed-bytes (ascii "BOX") refl (opened b c (set_alike x (shut d under))))
  term_alike (paren a f b) h = same_piece (byte 40) (same-blanks a (written_alike f (same-blanks b (same_piece (byte 41) h))))

written-told : (f : Disjunction) → bind telling (pieces_f (typed (written_out f)) []) ≡ bind telling (pieces_f f [])
written-told f = (written_alike f (record { told = refl })).told

-- They alone decide whether pieces fit, and which names they have.
no-mark-fits : (m : Marks) → (allows m || true) ≡ true
no-mark-fits unmarked = refl
no-mark-fits marked = refl

fits_told : (m : Marks) (l : List Piece) → every (fits_piece m) (bind telling l) ≡ every (fits_piece m) l
fits_told m [] = refl
fits_told m (named n ∷ l) = ap (λ r. fits_piece m (named n) && r) (fits_told m l)
fits_told m (byte b ∷ l) = case (is_mark b) refl (fits_told m l)
  where
    case : (t : Bool) → is_mark b ≡ t → every (fits_piece m) (bind telling l) ≡ every (fits_piece m) l
        → every (fits_piece m) (cond t (byte b ∷ []) [] ++ bind telling l) ≡ fits_piece m (byte b) && every (fits_piece m) l
    case true e h = ap (λ r. fits_piece m (byte b) && r) h
    case false e h = h ∙ sym (ap (λ t. (allows m || negate t) && every (fits_piece m) l) e ∙ ap (λ t. t && every (fits_piece m) l) (no-mark-fits m))

names-told : (l : List Piece) → names_among (bind telling l) ≡ names_among l
names-told [] = refl
names-told (named n ∷ l) = ap (λ r. n ∷ r) (names-told l)
names-told (byte b ∷ l) = case (is_mark b) (names-told l)
  where
    case : (t : Bool) → names_among (bind telling l) ≡ names_among l → names_among (cond t (byte b ∷ []) [] ++ bind telling l) ≡ names_among l
    case true h = h
    case false h = h

pub written-fits : (m : Marks) (f : Disjunction) → every (fits_piece m) (pieces_f (typed (written_out f)) []) ≡ every (fits_piece m) (pieces_f f [])
written-fits m f = sym (fits_told m (pieces_f (typed (written_out f)) [])) ∙ (ap (every (fits_piece m)) (written-told f) ∙ fits_told m (pieces_f f []))

pub written-names : (f : Disjunction) → names_among (pieces_f (typed (written_out f)) []) ≡ names_among (pieces_f f [])
written-names f = sym (names-told (pieces_f (typed (written_out f)) [])) ∙ (ap names_among (written-told f) ∙ names-told (pieces_f f []))

module _ (names : List (List ℕ)) where
  -- The table has all of some names, or lacks a first one of them.
  abbrev Has : List Name → Type 0
  Has l = (n : Name) → Memᴰ n l → (a : ℕ) × (lookup names n.bytes ≡ some a)

  data Sought (l : List Name) : Type 0 where
    has : Has l → Sought l
    lacks-one : (front : List Name) (n : Name) (later : List Name) → l ≡ front ++ (n ∷ later) → Has front → lookup names n.bytes ≡ none → Sought l

  has-none : Has []
  has-none n d = absurd (Memᴰ.not-nil d)

  has_more : (n : Name) (a : ℕ) {l : List Name} → lookup names n.bytes ≡ some a → Has l → Has (n ∷ l)
  has_more n a e h k d = ⊎_elim (λ i. (a, ap (λ (v : Name). lookup names v.bytes) i ∙ e)) (h k) (Memᴰ.cases_cons d)

  seek : (l : List Name) → Sought l
  seek [] = has has-none
  seek (n ∷ l) = case (lookup names n.bytes) refl (seek l)
    where
      case : (o : Option ℕ) → lookup names n.bytes ≡ o → Sought l → Sought (n ∷ l)
      case none e s = lacks-one [] n l refl has-none e
      case (some a) e (has h) = has (has_more n a e h)
      case (some a) e (lacks-one front k later d h z) = lacks-one (n ∷ front) k later (ap (λ r. n ∷ r) d) (has_more n a e h) z

  -- Where pieces have the first name that is lacking: at once, behind a byte, or behind a name.
  lacks-first : (n : Name) (l : List Piece) → lookup names n.bytes ≡ none → FirstLacking names (named n ∷ l) n 0 0
  lacks-first n l e = record { front = []; later = l; splits = refl; counts = refl; stands = refl; known = has-none; lacks = e }

  past-byte : (b : ℕ) {l : List Piece} {n : Name} {before at : ℕ} → FirstLacking names l n before at → FirstLacking names (byte b ∷ l) n before (suc at)
  past-byte b h = record {
    front = byte b ∷ h.front;
    later = h.later;
    splits = ap (λ k. byte b ∷ k) h.splits;
    counts = h.counts;
    stands = ap suc h.stands;
    known = h.known;
    lacks = h.lacks;
  }

  past-name : (x : Name) (a : ℕ) {l : List Piece} {n : Name} {before at : ℕ} → lookup names x.bytes ≡ some a → FirstLacking names l n before at
      → FirstLacking names (named x ∷ l) n (suc before) (length x.bytes + at)
  past-name x a e h = record {
    front = named x ∷ h.front;
    later = h.later;
    splits = ap (λ k. named x ∷ k) h.splits;
    counts = ap suc h.counts;
    stands = length-append x.bytes (text_of h.front) ∙ ap (λ k. length x.bytes + k) h.stands;
    known = has_more x a e h.known;
    lacks = h.lacks;
  }

  lacking-at : (l : List Piece) (front : List Name) (n : Name) (later : List Name) → names_among l ≡ front ++ (n ∷ later) → Has front → lookup names n.bytes ≡ none
      → (at : ℕ) × FirstLacking names l n (length front) at
  lacking-at [] [] n later e h z = absurd (nil≢cons e)
  lacking-at [] (x ∷ front) n later e h z = absurd (nil≢cons e)
  lacking-at (byte b ∷ l) front n later e h z = let (at, r) = lacking-at l front n later e h z in (suc at, past-byte b r)
  lacking-at (named x ∷ l) [] n later e h z = (0, subst (λ (v : Name). FirstLacking names (named v ∷ l) n 0 0) (sym (head-eq_of_cons-eq e)) (lacks-first n l z))
  lacking-at (named x ∷ l) (y ∷ front) n later e h z =
      let (at, r) = lacking-at l front n later (tail-eq_of_cons-eq e) (λ k d. h k (Memᴰ.tail d)) z in
      let (a, d) = h x (Memᴰ.head (head-eq_of_cons-eq e)) in
      (length x.bytes + at, past-name x a d r)

  -- What 7 finds in pieces.
  past-known : (i : ℕ) (front l : List Piece) → Known names front → unknown_from names i (front ++ l) ≡ unknown_from names (i + length (text_of front)) l
  past-known i [] l h = ap (λ k. unknown_from names k l) (let e : i ≡ i + 0 = omega arith in e)
  past-known i (byte b ∷ front) l h =
      let e : suc i + length (text_of front) ≡ i + suc (length (text_of front)) = omega arith in
      past-known (suc i) front l h ∙ ap (λ k. unknown_from names k l) e
  past-known i (named n ∷ front) l h =
      let (a, d) = h n (Memᴰ.head refl) in
      let j = i + length n.bytes in
      let e : j + length (text_of front) ≡ i + length (n.bytes ++ text_of front) = omega (arith, length-append n.bytes (text_of front)) in
      ap (λ o. unknown_at o i (unknown_from names j (front ++ l))) d ∙ (past-known j front l (λ k m. h k (Memᴰ.tail m)) ∙ ap (λ k. unknown_from names k l) e)

  none_unknown : (l : List Piece) → Known names l → unknown_from names 0 l ≡ none
  none_unknown l h = ap (unknown_from names 0) (sym (append-nil l)) ∙ past-known 0 l [] h

  first_unknown_lem : {l : List Piece} {n : Name} {before at : ℕ} → FirstLacking names l n before at → unknown_from names 0 l ≡ some at
  first_unknown_lem {l} {n} {at = at} h =
      let e : 0 + length (text_of h.front) ≡ at = omega (arith, h.stands) in
      ap (unknown_from names 0) h.splits ∙ (past-known 0 h.front (named n ∷ h.later) h.known
      ∙ (λ i. unknown_at (h.lacks i) (e i) (unknown_from names (0 + length (text_of h.front) + length n.bytes) h.later)))

  -- Trees that have the same names, and are the same written out, have the same answer.
  same_answer : (f g : Disjunction) → names_among (pieces_f g []) ≡ names_among (pieces_f f []) → written_out g ≡ written_out f → SameAnswer names f g
  same_answer f g e d = case (seek (names_among (pieces_f f [])))
    where
      goes : (f : Disjunction) {o : Option ℕ} → unknown_from names 0 (pieces_f f []) ≡ o → on_tree names f ≡ unless_found o 7 (with_classes (formula_of names (written_out f)))
      goes f h = ap (λ o. unless_found o 7 (with_classes (formula_of names (written_out f)))) h

      case : Sought (names_among (pieces_f f [])) → SameAnswer names f g
      case (has p) =
          let q : Known names (pieces_f g []) = subst Has (sym e) p in
          let r = ap (λ b. with_classes (formula_of names b)) (sym d) in
          same p q (goes f (none_unknown (pieces_f f []) p) ∙ (r ∙ sym (goes g (none_unknown (pieces_f g []) q))))
      case (lacks-one front n later s h z) =
          let (i, p) = lacking-at (pieces_f f []) front n later s h z in
          let (j, q) = lacking-at (pieces_f g []) front n later (e ∙ s) h z in
          lacking n (length front) i j p q (goes f (first_unknown_lem p)) (goes g (first_unknown_lem q))

-- Every tree expands. 02: "Node numbers, the limit of 40 and classes are those of the written-out text."
pub expands : (m : Marks) (names : List (List ℕ)) (f : Disjunction) → every (fits_piece m) (pieces_f f []) ≡ true → Expands m names f
expands m names f h = record {
  base = record { fits = written-fits m f ∙ h; shows = refl };
  answer = same_answer names f (typed (written_out f)) (written-names f) (typed-written (written_out f));
}

-- A text of the base notation is its own expansion.
pub own-expansion : (m : Marks) (s : List ℕ) (g : Base) → BaseText m s g → (written_out (typed g) ≡ g) × (expansion (typed g) ≡ s)
own-expansion m s g h = (typed-written g, ap (λ b. text_of (pieces_f (typed b) [])) (typed-written g) ∙ h.shows)
