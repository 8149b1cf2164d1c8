-- The pairs and the `&` of a line's tree are what a reader of its bytes counts: the `(` that stand in no square bracket, and the `&`.
use mathlib.Core.Path.{◌≡◌, refl, sym, ap, ◌∙◌}
use mathlib.Core.Logic.{◌⊎◌, inl, inr}
use mathlib.Core.Bool.{Bool, true, false, true≢false, false≢true, cond, not as negate, ◌&&◌}
use mathlib.Core.List.{List, [], ◌∷◌, ◌++◌}
use Prim.Native.Nat.{ℕ, zero, suc, ◌+◌}
use native.Mathlib.Nat.{add-zero, zero-add, suc-add, add_assoc}
use native.Mathlib.Omega.{arith}
use lib.Dec.{eqb}
use borrow.Author.Tests.{eq-eqb, ne_eqb}
use Rattle.lts.specs.Marks.{Marks, marked, is_mark, is_last_mark}
use Rattle.lts.specs.Names.{is_lower, is_name_byte, at_most, is_name}
use Rattle.lts.proofs.Booleans.{and-true-of, or-true-of, or-true-left, not-false}
use Rattle.lts.proofs.Laws.NameRuns.{mark_cases}
use Rattle.actl.specs.Grammar.{Set, operand, union, Operand, name, any, received, sent, except, group, Condition, dot, set}
use Rattle.actl.specs.Grammar.{Quantifier, existential, universal, Head, next, until, until_then, reach, labelled}
use Rattle.actl.specs.Grammar.{Disjunction, conjunction, or, Conjunction, term, and, Term, tru, not, modal, paren, Piece, byte, text_of}
use Rattle.actl.specs.Grammar.{blanks, pieces_s, pieces_o, pieces_c, pieces_q, pieces_r, pieces_l, pieces_h, pieces_f, pieces_a, pieces_t}
use Rattle.actl.specs.Grammatical.{Text}
use Rattle.written_back.specs.Brackets.{count_from, outside, ampersands}
use Rattle.written_back.proofs.Pairs.{pairs, pairs_a, pairs_t, ands, ands_a, ands_t}

-- So many are counted in the text of these pieces.
record Counts (c : ℕ) (inside : Bool) (n : ℕ) (l : List Piece) : Type 0 where
  is : count_from c inside (text_of l) ≡ n

-- The other bytes, which are counted neither for the pairs nor for the `&`.
abbrev is_other : ℕ → Bool
is_other b = negate (eqb b 40) && (negate (eqb b 38) && negate (eqb b 91))

record Countable (c : ℕ) : Type 0 where
  opening : eqb 91 c ≡ false
  other : (b : ℕ) → is_other b ≡ true → eqb b c ≡ false

module _ (b : ℕ) (e : is_other b ≡ true) where
  no_bracket : eqb b 40 ≡ false
  no_bracket = not-false (eqb b 40) (and-true-of (negate (eqb b 40)) (negate (eqb b 38) && negate (eqb b 91)) e).0

  no_ampersand_or_square : (eqb b 38 ≡ false) × (eqb b 91 ≡ false)
  no_ampersand_or_square =
      let p = (and-true-of (negate (eqb b 40)) (negate (eqb b 38) && negate (eqb b 91)) e).1 in
      let q = and-true-of (negate (eqb b 38)) (negate (eqb b 91)) p in
      (not-false (eqb b 38) q.0, not-false (eqb b 91) q.1)

round : Countable 40
round = record { opening = refl; other = no_bracket }

amp : Countable 38
amp = record { opening = refl; other = λ b e. (no_ampersand_or_square b e).0 }

-- A byte that is neither counted nor opens a square bracket, and the counted byte.
uncounted : (c b : ℕ) {n : ℕ} {l : List Piece} → eqb b c ≡ false → eqb b 91 ≡ false → Counts c false n l → Counts c false n (byte b ∷ l)
uncounted c b {n} {l} d e h = record { is = (λ i. cond (d i) (suc (count_from c (e i) (text_of l))) (count_from c (e i) (text_of l))) ∙ h.is }

one_more : (c : ℕ) {n : ℕ} {l : List Piece} → eqb c 91 ≡ false → Counts c false n l → Counts c false (suc n) (byte c ∷ l)
one_more c {n} {l} e h =
    let d = eq-eqb c c refl in
    record { is = (λ i. cond (d i) (suc (count_from c (e i) (text_of l))) (count_from c (e i) (text_of l))) ∙ ap suc h.is }

same_count : {c : ℕ} {i : Bool} {n k : ℕ} {l : List Piece} → n ≡ k → Counts c i n l → Counts c i k l
same_count e h = record { is = h.is ∙ e }

-- A name does not end a square bracket.
mark_inner : (b : ℕ) → is_mark b ≡ true → eqb b 93 ≡ false
mark_inner b e = elim (mark_cases b e) [ inl d ↦ ap (λ x. eqb x 93) d | inr d ↦ ap (λ x. eqb x 93) d ]

name-byte_inner : (b : ℕ) → is_name_byte b ≡ true → eqb b 93 ≡ false
name-byte_inner b e = ne_eqb b 93 (λ d. true≢false (sym e ∙ ap is_name_byte d))

module _ (c : ℕ) where
  step_inner : (b : ℕ) (s : List ℕ) → eqb b 93 ≡ false → count_from c true (b ∷ s) ≡ count_from c true s
  step_inner b s e = ap (λ t. count_from c (negate t) s) e

  last-passed : (b : ℕ) (l s : List ℕ) → is_last_mark marked b l ≡ true → count_from c true (b ∷ (l ++ s)) ≡ count_from c true s
  last-passed b [] s e = step_inner b s (mark_inner b e)
  last-passed b (d ∷ l) s e = absurd (false≢true e)

  bytes-passed : (n : ℕ) (l s : List ℕ) → at_most marked n l ≡ true → count_from c true (l ++ s) ≡ count_from c true s
  bytes-passed n [] s e = refl
  bytes-passed zero (b ∷ l) s e = last-passed b l s e
  bytes-passed (suc n) (b ∷ l) s e = case (bytes-passed n l s) (or-true-of (is_last_mark marked b l) (is_name_byte b && at_most marked n l) e)
    where
      case : (at_most marked n l ≡ true → count_from c true (l ++ s) ≡ count_from c true s)
          → (is_last_mark marked b l ≡ true) ⊎ ((is_name_byte b && at_most marked n l) ≡ true) → count_from c true (b ∷ (l ++ s)) ≡ count_from c true s
      case again (inl d) = last-passed b l s d
      case again (inr d) =
          let p = and-true-of (is_name_byte b) (at_most marked n l) d in
          step_inner b (l ++ s) (name-byte_inner b p.0) ∙ again p.1

  name-passed : (x s : List ℕ) → is_name x ≡ true → count_from c true (x ++ s) ≡ count_from c true s
  name-passed [] s e = refl
  name-passed (b ∷ l) s e =
      let p = and-true-of (is_lower b) (at_most marked 11 l) e in
      step_inner b (l ++ s) (name-byte_inner b (or-true-left (is_lower b) _ p.0)) ∙ bytes-passed 11 l s p.1

-- Nothing is counted in a set, or in a keyword with its bracket.
module _ {c : ℕ} (counted : Countable c) where
  plain : (b : ℕ) {n : ℕ} {l : List Piece} → is_other b ≡ true → Counts c false n l → Counts c false n (byte b ∷ l)
  plain b e h = uncounted c b (counted.other b e) (no_ampersand_or_square b e).1 h

  inner : (b : ℕ) {n : ℕ} {l : List Piece} → eqb b 93 ≡ false → Counts c true n l → Counts c true n (byte b ∷ l)
  inner b {n} {l} e h = record { is = step_inner c b (text_of l) e ∙ h.is }

  opens : {n : ℕ} {l : List Piece} → Counts c true n l → Counts c false n (byte 91 ∷ l)
  opens {n} {l} h = record { is = ap (λ t. cond t (suc (count_from c true (text_of l))) (count_from c true (text_of l))) counted.opening ∙ h.is }

  closes : {n : ℕ} {l : List Piece} → Counts c false n l → Counts c true n (byte 93 ∷ l)
  closes h = record { is = h.is }

  spaced : (i : Bool) (a : ℕ) {n : ℕ} {l : List Piece} → Counts c i n l → Counts c i n (blanks a l)
  spaced i zero h = h
  spaced true (suc a) h = inner 32 refl (spaced true a h)
  spaced false (suc a) h = plain 32 refl (spaced false a h)

  mutual
    set-counts : (x : Set) {n : ℕ} {l : List Piece} → Counts c true n l → Counts c true n (pieces_s x l)
    set-counts (operand o) h = operand-counts o h
    set-counts (union x a b o) h = set-counts x (spaced true a (inner 124 refl (spaced true b (operand-counts o h))))

    operand-counts : (o : Operand) {n : ℕ} {l : List Piece} → Counts c true n l → Counts c true n (pieces_o o l)
    operand-counts (name x) {n} {l} h = record { is = name-passed c x.bytes (text_of l) x.fits ∙ h.is }
    operand-counts any h = inner 42 refl h
    operand-counts received h = inner 63 refl h
    operand-counts sent h = inner 33 refl h
    operand-counts (except a o) h = inner 126 refl (spaced true a (operand-counts o h))
    operand-counts (group a x b) h = inner 40 refl (spaced true a (set-counts x (spaced true b (inner 41 refl h))))

  condition_counts : (x : Condition) {n : ℕ} {l : List Piece} → Counts c true n l → Counts c true n (pieces_c x l)
  condition_counts dot h = inner 46 refl h
  condition_counts (set x) h = set-counts x h

  square_counts : (a b : ℕ) {n : ℕ} {l : List Piece} → Counts c true n l → Counts c false n (blanks a (byte 91 ∷ blanks b l))
  square_counts a b h = spaced false a (opens (spaced true b h))

  letters : (b d : ℕ) {n : ℕ} {l : List Piece} → is_other b ≡ true → is_other d ≡ true → Counts c false n l → Counts c false n (byte b ∷ byte d ∷ l)
  letters b d e g h = plain b e (plain d g h)

  module _ {n : ℕ} {l : List Piece} (h : Counts c false n l) where
    next-counts : (q : Quantifier) → Counts c false n (pieces_q q l)
    next-counts existential = letters 69 88 refl refl h
    next-counts universal = letters 65 88 refl refl h

    reach-counts : (q : Quantifier) → Counts c false n (pieces_r q l)
    reach-counts existential = letters 69 70 refl refl h
    reach-counts universal = letters 65 71 refl refl h

    labelled-counts : (q : Quantifier) → Counts c false n (pieces_l q l)
    labelled-counts existential = plain 68 refl (letters 73 65 refl refl h)
    labelled-counts universal = plain 66 refl (letters 79 88 refl refl h)

  head-counts : (j : Head) {n : ℕ} {l : List Piece} → Counts c false n l → Counts c false n (pieces_h j l)
  head-counts (next q a b x d) h = next-counts (square_counts a b (condition_counts x (spaced true d (closes h)))) q
  head-counts (until a b x d) h = letters 69 85 refl refl (square_counts a b (set-counts x (spaced true d (closes h))))
  head-counts (until_then a b x d e y g) h =
      letters 69 85 refl refl
      (square_counts a b (set-counts x (spaced true d (inner 59 refl (spaced true e (set-counts y (spaced true g (closes h))))))))
  head-counts (reach q) h = reach-counts h q
  head-counts (labelled q a b x d) h = labelled-counts (square_counts a b (set-counts x (spaced true d (closes h)))) q

-- The pairs: `(` is one more.
mutual
  formula-pairs : (f : Disjunction) {n : ℕ} {l : List Piece} → Counts 40 false n l → Counts 40 false (pairs f + n) (pieces_f f l)
  formula-pairs (conjunction x) h = conjunction-pairs x h
  formula-pairs (or f a b x) {n} h =
      same_count (sym (add_assoc (pairs f) (pairs_a x) n))
      (formula-pairs f (spaced round false a (plain round 124 refl (spaced round false b (conjunction-pairs x h)))))

  conjunction-pairs : (x : Conjunction) {n : ℕ} {l : List Piece} → Counts 40 false n l → Counts 40 false (pairs_a x + n) (pieces_a x l)
  conjunction-pairs (term t) h = term-pairs t h
  conjunction-pairs (and x a b t) {n} h =
      same_count (sym (add_assoc (pairs_a x) (pairs_t t) n))
      (conjunction-pairs x (spaced round false a (uncounted 40 38 refl refl (spaced round false b (term-pairs t h)))))

  term-pairs : (t : Term) {n : ℕ} {l : List Piece} → Counts 40 false n l → Counts 40 false (pairs_t t + n) (pieces_t t l)
  term-pairs tru {n} h = same_count (sym (zero-add n)) (plain round 84 refl h)
  term-pairs (not a t) h = plain round 126 refl (spaced round false a (term-pairs t h))
  term-pairs (modal j a t) h = head-counts round j (spaced round false a (term-pairs t h))
  term-pairs (paren a f b) {n} h =
      same_count (sym (suc-add (pairs f) n))
      (one_more 40 refl (spaced round false a (formula-pairs f (spaced round false b (plain round 41 refl h)))))

-- The `&`, which are one more each.
mutual
  formula_ands : (f : Disjunction) {n : ℕ} {l : List Piece} → Counts 38 false n l → Counts 38 false (ands f + n) (pieces_f f l)
  formula_ands (conjunction x) h = conjunction_ands x h
  formula_ands (or f a b x) {n} h =
      same_count (sym (add_assoc (ands f) (ands_a x) n))
      (formula_ands f (spaced amp false a (plain amp 124 refl (spaced amp false b (conjunction_ands x h)))))

  conjunction_ands : (x : Conjunction) {n : ℕ} {l : List Piece} → Counts 38 false n l → Counts 38 false (ands_a x + n) (pieces_a x l)
  conjunction_ands (term t) h = term_ands t h
  conjunction_ands (and x a b t) {n} h =
      let e : ands_a x + suc (ands_t t + n) ≡ suc (ands_a x + ands_t t) + n = omega arith in
      same_count e (conjunction_ands x (spaced amp false a (one_more 38 refl (spaced amp false b (term_ands t h)))))

  term_ands : (t : Term) {n : ℕ} {l : List Piece} → Counts 38 false n l → Counts 38 false (ands_t t + n) (pieces_t t l)
  term_ands tru {n} h = same_count (sym (zero-add n)) (plain amp 84 refl h)
  term_ands (not a t) h = plain amp 126 refl (spaced amp false a (term_ands t h))
  term_ands (modal j a t) h = head-counts amp j (spaced amp false a (term_ands t h))
  term_ands (paren a f b) h = uncounted 38 40 refl refl (spaced amp false a (formula_ands f (spaced amp false b (plain amp 41 refl h))))

-- Of a line, with marks or without: its bytes tell both.
module _ {m : Marks} {s : List ℕ} (f : Disjunction) (t : Text m s f) where
  pub pairs-counted : outside s ≡ pairs f
  pairs-counted =
      let behind : Counts 40 false 0 [] = record { is = refl } in
      ap outside (sym t.shows) ∙ ((formula-pairs f behind).is ∙ add-zero (pairs f))

  pub ands_counted : ampersands s ≡ ands f
  ands_counted =
      let behind : Counts 38 false 0 [] = record { is = refl } in
      ap ampersands (sym t.shows) ∙ ((formula_ands f behind).is ∙ add-zero (ands f))
