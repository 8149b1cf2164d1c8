-- A tree's pieces and the executable definitions over it: its text and its names are those of its pieces, and so is the first name that a table lacks.
use mathlib.Core.Path.{◌≡◌, refl, sym, ap, ◌∙◌}
use mathlib.Core.List.{List, [], ◌∷◌, ◌++◌, append_assoc, append-nil}
use Prim.Native.Nat.{ℕ, zero, suc, ◌+◌, ◌-◌}
use native.Mathlib.Omega.{arith}
use lib.ListN.{length, length-append}
use Rattle.lts.specs.Names.{lookup}
use Rattle.lts.specs.Marks.{Marks, marked}
use Rattle.actl.specs.Grammar.{Set, operand, union, Operand, name, any, received, sent, except, group, Condition, dot, set, Quantifier}
use Rattle.actl.specs.Grammar.{existential, universal, Head, next, until, until_then, reach, labelled, Disjunction, conjunction, or, Conjunction}
use Rattle.actl.specs.Grammar.{term, and, Term, tru, not, modal, paren, Piece, byte, named, text_of, blanks, pieces_s, pieces_o}
use Rattle.actl.specs.Grammar.{pieces_c, pieces_q, pieces_r, pieces_l, pieces_h, pieces_f, pieces_a, pieces_t}
use Rattle.actl.specs.WrittenOut.{written_out}
use Rattle.actl.specs.Meaning.{formula_of}
use Rattle.actl.specs.Reading.{unless_found, unknown_at, unknown_from, with_classes, on_tree}
use Rattle.actl.specs.Grammatical.{Text}
use Rattle.actl.specs.inner.Show.{gap, show_s, show_o, show_c, show_q, show_r, show_l, show_h, show_f, show_a, show_t}
use Rattle.actl.specs.inner.Mentions.{Mention, names_s, names_o, names_c, names_h, names_f, names_a, names_t, first_unknown}
use Rattle.actl.specs.inner.Reading.{on_mentions}
use Rattle.actl.proofs.Marks.{pieces_fit}

-- The names among pieces, each with the text behind it.
abbrev pub mentions_of : List Piece → List Mention
mentions_of [] = []
mentions_of (byte b ∷ l) = mentions_of l
mentions_of (named n ∷ l) = record { name = n; behind = text_of l } ∷ mentions_of l

-- s is the pieces' text, k are their names.
record Written (s : List ℕ) (k : List Mention) (l : List Piece) : Type 0 where
  text : s ≡ text_of l
  names : k ≡ mentions_of l

typing : (b : ℕ) {s : List ℕ} {k : List Mention} {l : List Piece} → Written s k l → Written (b ∷ s) k (byte b ∷ l)
typing b h = record { text = ap (λ t. b ∷ t) h.text; names = h.names }

spaced : (a : ℕ) {s : List ℕ} {k : List Mention} {l : List Piece} → Written s k l → Written (gap a s) k (blanks a l)
spaced zero h = h
spaced (suc a) h = typing 32 (spaced a h)

-- Names of two parts.
joined : {s : List ℕ} (i j k : List Mention) {l : List Piece} → Written s (i ++ (j ++ k)) l → Written s ((i ++ j) ++ k) l
joined i j k h = record { text = h.text; names = append_assoc i j k ∙ h.names }

mutual
  set-written : (x : Set) {s : List ℕ} {k : List Mention} {l : List Piece} → Written s k l → Written (show_s x s) (names_s x s ++ k) (pieces_s x l)
  set-written (operand o) h = operand-written o h
  set-written (union x a b o) {s} {k} h =
      joined (names_s x (gap a (124 ∷ gap b (show_o o s)))) (names_o o s) k (set-written x (spaced a (typing 124 (spaced b (operand-written o h)))))

  operand-written : (o : Operand) {s : List ℕ} {k : List Mention} {l : List Piece} → Written s k l → Written (show_o o s) (names_o o s ++ k) (pieces_o o l)
  operand-written (name n) h = record { text = ap (λ t. n.bytes ++ t) h.text; names = λ i. record { name = n; behind = h.text i } ∷ h.names i }
  operand-written any h = typing 42 h
  operand-written received h = typing 63 h
  operand-written sent h = typing 33 h
  operand-written (except a o) h = typing 126 (spaced a (operand-written o h))
  operand-written (group a x b) h = typing 40 (spaced a (set-written x (spaced b (typing 41 h))))

condition_written : (c : Condition) {s : List ℕ} {k : List Mention} {l : List Piece} → Written s k l → Written (show_c c s) (names_c c s ++ k) (pieces_c c l)
condition_written dot h = typing 46 h
condition_written (set x) h = set-written x h

module _ {s : List ℕ} {k : List Mention} {l : List Piece} (h : Written s k l) where
  next-written : (q : Quantifier) → Written (show_q q s) k (pieces_q q l)
  next-written existential = typing 69 (typing 88 h)
  next-written universal = typing 65 (typing 88 h)

  reach-written : (q : Quantifier) → Written (show_r q s) k (pieces_r q l)
  reach-written existential = typing 69 (typing 70 h)
  reach-written universal = typing 65 (typing 71 h)

  letters-written : (q : Quantifier) → Written (show_l q s) k (pieces_l q l)
  letters-written existential = typing 68 (typing 73 (typing 65 h))
  letters-written universal = typing 66 (typing 79 (typing 88 h))

head-written : (j : Head) {s : List ℕ} {k : List Mention} {l : List Piece} → Written s k l → Written (show_h j s) (names_h j s ++ k) (pieces_h j l)
head-written (next q a b c d) h = next-written (spaced a (typing 91 (spaced b (condition_written c (spaced d (typing 93 h)))))) q
head-written (until a b x d) h = typing 69 (typing 85 (spaced a (typing 91 (spaced b (set-written x (spaced d (typing 93 h)))))))
head-written (until_then a b x c d y e) {s} {k} h =
    let behind = gap e (93 ∷ s) in
    typing 69 (typing 85 (spaced a (typing 91 (spaced b (joined (names_s x (gap c (59 ∷ gap d (show_s y behind)))) (names_s y behind) k
    (set-written x (spaced c (typing 59 (spaced d (set-written y (spaced e (typing 93 h))))))))))))
head-written (reach q) h = reach-written h q
head-written (labelled q a b x d) h = letters-written (spaced a (typing 91 (spaced b (set-written x (spaced d (typing 93 h)))))) q

mutual
  formula-written : (f : Disjunction) {s : List ℕ} {k : List Mention} {l : List Piece} → Written s k l → Written (show_f f s) (names_f f s ++ k) (pieces_f f l)
  formula-written (conjunction c) h = conjunction-written c h
  formula-written (or f a b c) {s} {k} h =
      joined (names_f f (gap a (124 ∷ gap b (show_a c s)))) (names_a c s) k (formula-written f (spaced a (typing 124 (spaced b (conjunction-written c h)))))

  conjunction-written : (c : Conjunction) {s : List ℕ} {k : List Mention} {l : List Piece} → Written s k l → Written (show_a c s) (names_a c s ++ k) (pieces_a c l)
  conjunction-written (term t) h = term-written t h
  conjunction-written (and c a b t) {s} {k} h =
      joined (names_a c (gap a (38 ∷ gap b (show_t t s)))) (names_t t s) k (conjunction-written c (spaced a (typing 38 (spaced b (term-written t h)))))

  term-written : (t : Term) {s : List ℕ} {k : List Mention} {l : List Piece} → Written s k l → Written (show_t t s) (names_t t s ++ k) (pieces_t t l)
  term-written tru h = typing 84 h
  term-written (not a t) h = typing 126 (spaced a (term-written t h))
  term-written (modal j a t) {s} {k} h = joined (names_h j (gap a (show_t t s))) (names_t t s) k (head-written j (spaced a (term-written t h)))
  term-written (paren a f b) h = typing 40 (spaced a (formula-written f (spaced b (typing 41 h))))

module _ (f : Disjunction) (l : List Piece) where
  all-written : Written (show_f f (text_of l)) (names_f f (text_of l) ++ mentions_of l) (pieces_f f l)
  all-written = formula-written f (record { text = refl; names = refl })

  pub show_pieces : show_f f (text_of l) ≡ text_of (pieces_f f l)
  show_pieces = all-written.text

  pub names_pieces : names_f f (text_of l) ++ mentions_of l ≡ mentions_of (pieces_f f l)
  names_pieces = all-written.names

-- The text of a tree, as the reader shows it.
pub text_shown : {m : Marks} {s : List ℕ} (f : Disjunction) → Text m s f → show_f f [] ≡ s
text_shown f h = show_pieces f [] ∙ h.shows

pub shown_text : {s : List ℕ} (f : Disjunction) → show_f f [] ≡ s → Text marked s f
shown_text f e = record { fits = pieces_fit (pieces_f f []); shows = sym (show_pieces f []) ∙ e }

module _ (names : List (List ℕ)) (f : Disjunction) where
  unknown_from_lem : (i : ℕ) (l : List Piece) → length (show_f f []) ≡ i + length (text_of l) → first_unknown names f (mentions_of l) ≡ unknown_from names i l
  unknown_from_lem i [] e = refl
  unknown_from_lem i (byte b ∷ l) e = unknown_from_lem (suc i) l (let d : length (show_f f []) ≡ suc i + length (text_of l) = omega (arith, e) in d)
  unknown_from_lem i (named n ∷ l) e =
      let at : length (show_f f []) - length (n.bytes ++ text_of l) ≡ i = omega (arith, e) in
      let rest : length (show_f f []) ≡ i + length n.bytes + length (text_of l) = omega (arith, e, length-append n.bytes (text_of l)) in
      λ j. unknown_at (lookup names n.bytes) (at j) (unknown_from_lem (i + length n.bytes) l rest j)

  pub unknown_pieces : first_unknown names f (names_f f []) ≡ unknown_from names 0 (pieces_f f [])
  unknown_pieces =
      let whole : length (show_f f []) ≡ 0 + length (text_of (pieces_f f [])) = omega (arith, ap length (show_pieces f [])) in
      ap (first_unknown names f) (sym (append-nil (names_f f [])) ∙ names_pieces f []) ∙ unknown_from_lem 0 (pieces_f f []) whole

  pub on_mentions_lem : on_mentions names f ≡ on_tree names f
  on_mentions_lem = ap (λ o. unless_found o 7 (with_classes (formula_of names (written_out f)))) unknown_pieces
