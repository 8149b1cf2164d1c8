-- Whether a listing has just the words of a language: sets of rows against derivatives of the language, one soundness law.
use mathlib.Core.Path.{◌≡◌, refl, sym, ap, ◌∙◌, subst}
use mathlib.Core.Logic.{◌⊎◌, inl, inr, ◌↔◌}
use mathlib.Core.Bool.{Bool, true, false, cond, true≢false, false≢true, beq, ◌&&◌}
use mathlib.Core.List.{List, [], ◌∷◌, ◌++◌, map, Memᴰ}
use Prim.Native.Nat.{ℕ, zero, suc}
use native.Mathlib.Omega.{arith}
use lib.Dec.{eqb, ltb}
use lib.ListN.{length, replicate}
use borrow.Author.Tests.{eqb-true, ltb-true, eq-eqb, lt-ltb}
use Rattle.columns.specs.Bytes.{same_bytes}
use Rattle.lts.specs.inner.Lists.{cons_if, keep}
use Rattle.lts.specs.Lists.{every}
use Rattle.lts.specs.Lists.{any_of, bind}
use Rattle.lts.proofs.Booleans.{and-true-of, and-true-to}
use Rattle.lts.proofs.Lists.{keep-of, keep-to, some_of, some_to, every_of, map_of, map-to}
use Rattle.automaton.specs.Listing.{Listing, Edge}
use Rattle.automaton.specs.Listed.{row_at}
use Rattle.automaton.specs.inner.Words.{Reads, ends, reads, Accepts}
use Rattle.explanations.specs.BenchSheet.{Language, Member}
use Rattle.columns.proofs.Laws.Bytes.{same_of}

abbrev same_words : List (List ℕ) → List (List ℕ) → Bool
same_words [] [] = true
same_words [] (y ∷ b) = false
same_words (x ∷ a) [] = false
same_words (x ∷ a) (y ∷ b) = same_bytes x y && same_words a b

same_words_lem : (a b : List (List ℕ)) → same_words a b ≡ true → a ≡ b
same_words_lem [] [] e = refl
same_words_lem [] (y ∷ b) e = absurd (false≢true e)
same_words_lem (x ∷ a) [] e = absurd (false≢true e)
same_words_lem (x ∷ a) (y ∷ b) e = let d = and-true-of (same_bytes x y) (same_words a b) e in
    let h = same_of x y d.0 in let t = same_words_lem a b d.1 in λ i. h i ∷ t i

pub same_tests : (a b : Bool) → beq a b ≡ true → a ≡ b
same_tests true true e = refl
same_tests true false e = absurd (false≢true e)
same_tests false true e = absurd (false≢true e)
same_tests false false e = refl

-- What is left of a language after a letter.
abbrev tails_on : ℕ → List (List ℕ) → List (List ℕ)
tails_on l [] = []
tails_on l ([] ∷ ws) = tails_on l ws
tails_on l ((a ∷ w) ∷ ws) = cons_if (eqb a l) w (tails_on l ws)

abbrev empty_if : Bool → List (List ℕ)
empty_if b = cons_if b [] []

abbrev after : Language → ℕ → Language
after K l = record { words = tails_on l K.words ++ empty_if (any_of (eqb l) K.repeated); repeated = keep (eqb l) K.repeated }

abbrev is_empty : List ℕ → Bool
is_empty [] = true
is_empty (a ∷ w) = false

abbrev nullable : Language → Bool
nullable K = any_of is_empty K.words

tails_of : (l : ℕ) (ws : List (List ℕ)) {w : List ℕ} → Memᴰ w (tails_on l ws) → Memᴰ (l ∷ w) ws
tails_of l [] m = absurd (mathlib.Core.List.Memᴰ.not-nil m)
tails_of l ([] ∷ ws) m = mathlib.Core.List.Memᴰ.tail (tails_of l ws m)
tails_of l ((a ∷ v) ∷ ws) {w} m = case (eqb a l) refl m (tails_of l ws)
  where
    case : (b : Bool) → eqb a l ≡ b → Memᴰ w (cons_if b v (tails_on l ws)) → (Memᴰ w (tails_on l ws) → Memᴰ (l ∷ w) ws) → Memᴰ (l ∷ w) ((a ∷ v) ∷ ws)
    case false e m h = mathlib.Core.List.Memᴰ.tail (h m)
    case true e m h = elim (mathlib.Core.List.Memᴰ.cases_cons m) [ inl d ↦ (let z : l ∷ w ≡ a ∷ v = cc (eqb-true a l e) in mathlib.Core.List.Memᴰ.head z) | inr n ↦ mathlib.Core.List.Memᴰ.tail (h n) ]

tails_to : (l : ℕ) (ws : List (List ℕ)) {w : List ℕ} → Memᴰ (l ∷ w) ws → Memᴰ w (tails_on l ws)
tails_to l [] m = absurd (mathlib.Core.List.Memᴰ.not-nil m)
tails_to l ([] ∷ ws) {w} m = pick (mathlib.Core.List.Memᴰ.cases_cons m) (tails_to l ws)
  where
    pick : (l ∷ w ≡ []) ⊎ Memᴰ (l ∷ w) ws → (Memᴰ (l ∷ w) ws → Memᴰ w (tails_on l ws)) → Memᴰ w (tails_on l ws)
    pick (inl e) h = absurd (let z : ◌≡◌ {A = ℕ} 0 1 = cc in omega arith)
    pick (inr n) h = h n
tails_to l ((a ∷ v) ∷ ws) {w} m = pick (mathlib.Core.List.Memᴰ.cases_cons m) (tails_to l ws)
  where
    more : (b : Bool) → Memᴰ w (tails_on l ws) → Memᴰ w (cons_if b v (tails_on l ws))
    more true n = mathlib.Core.List.Memᴰ.tail n
    more false n = n

    here : (b : Bool) → eqb a l ≡ b → l ≡ a → w ≡ v → Memᴰ w (cons_if b v (tails_on l ws))
    here true e d z = mathlib.Core.List.Memᴰ.head z
    here false e d z = absurd (true≢false (sym (eq-eqb a l (sym d)) ∙ e))

    pick : (l ∷ w ≡ a ∷ v) ⊎ Memᴰ (l ∷ w) ws → (Memᴰ (l ∷ w) ws → Memᴰ w (tails_on l ws)) → Memᴰ w (tails_on l ((a ∷ v) ∷ ws))
    pick (inl e) h = here (eqb a l) refl (cc) (cc)
    pick (inr n) h = more (eqb a l) (h n)

repeats : (l : ℕ) (n : ℕ) {w : List ℕ} → w ≡ replicate n l → l ∷ w ≡ replicate (suc n) l
repeats l n e = ap (λ v. l ∷ v) e

after_of : (K : Language) (l : ℕ) (w : List ℕ) → Member (after K l) w → Member K (l ∷ w)
after_of K l w (inl m) = pick (mathlib.Core.List.Memᴰ.append_cases (tails_on l K.words) m)
  where
    empty : (b : Bool) → any_of (eqb l) K.repeated ≡ b → Memᴰ w (empty_if b) → Member K (l ∷ w)
    empty false e n = absurd (mathlib.Core.List.Memᴰ.not-nil n)
    empty true e n =
        let (a, d, h) = some_of (eqb l) K.repeated e in
        let z : w ≡ [] = elim (mathlib.Core.List.Memᴰ.cases_cons n) [ inl q ↦ q | inr q ↦ absurd (mathlib.Core.List.Memᴰ.not-nil q) ] in
        inr (a, 0, d, (cc (eqb-true l a h)))

    pick : Memᴰ w (tails_on l K.words) ⊎ Memᴰ w (empty_if (any_of (eqb l) K.repeated)) → Member K (l ∷ w)
    pick (inl n) = inl (tails_of l K.words n)
    pick (inr n) = empty (any_of (eqb l) K.repeated) refl n
after_of K l w (inr (a, n, m, e)) =
    let (d, h) = keep-of (eqb l) K.repeated m in
    let z = eqb-true l a h in
    inr (a, suc n, d, subst (λ (x : ℕ). x ∷ w ≡ replicate (suc (suc n)) a) (sym z) (repeats a (suc n) e))

after_to : (K : Language) (l : ℕ) (w : List ℕ) → Member K (l ∷ w) → Member (after K l) w
after_to K l w (inl m) = inl (mathlib.Core.List.Memᴰ.append_left (empty_if (any_of (eqb l) K.repeated)) (tails_to l K.words m))
after_to K l w (inr (a, zero, m, e)) =
    let z : l ≡ a = cc in
    let d : w ≡ [] = cc in
    inl (mathlib.Core.List.Memᴰ.append_right (tails_on l K.words) (empty (any_of (eqb l) K.repeated) (some_to (eqb l) K.repeated m (eq-eqb l a z)) d))
  where
    empty : (b : Bool) → b ≡ true → w ≡ [] → Memᴰ w (empty_if b)
    empty true e d = mathlib.Core.List.Memᴰ.head d
    empty false e d = absurd (false≢true e)
after_to K l w (inr (a, suc n, m, e)) =
    let z : l ≡ a = cc in
    inr (a, n, keep-to (eqb l) K.repeated m (eq-eqb l a z), (cc))

nullable_of : (K : Language) → nullable K ≡ true → Member K []
nullable_of K e = let (w, m, h) = some_of is_empty K.words e in inl (subst (λ (v : List ℕ). Memᴰ v K.words) (is-nil w h) m)
  where
    is-nil : (w : List ℕ) → is_empty w ≡ true → w ≡ []
    is-nil [] h = refl
    is-nil (a ∷ w) h = absurd (false≢true h)

nullable_to : (K : Language) → Member K [] → nullable K ≡ true
nullable_to K (inl m) = some_to is_empty K.words m refl
nullable_to K (inr (a, n, m, e)) = absurd (let z : ◌≡◌ {A = ℕ} 0 1 = cc in omega arith)

-- The rows that a letter leads to, from some row of a list.
abbrev by_letter : List ℕ → ℕ → Edge → Bool
by_letter S l e = eqb e.label l && any_of (eqb e.row) S

abbrev next : Listing → List ℕ → ℕ → List ℕ
next L S l = map (λ e. e.target) (keep (by_letter S l) L.edges)

abbrev is_final : Listing → ℕ → Bool
is_final L i = ltb i (length L.rows) && (row_at L i).final

abbrev ReadsFrom : Listing → List ℕ → List ℕ → Type 0
ReadsFrom L S w = (i : ℕ) × Memᴰ i S × Reads L i w

next_of : (L : Listing) (S : List ℕ) (l : ℕ) (w : List ℕ) → ReadsFrom L (next L S l) w → ReadsFrom L S (l ∷ w)
next_of L S l w (j, m, r) =
    let (e, n, z) = map_of (λ e. e.target) (keep (by_letter S l) L.edges) m in
    let (d, h) = keep-of (by_letter S l) L.edges n in
    let (p, q) = and-true-of (eqb e.label l) (any_of (eqb e.row) S) h in
    let (i, k, v) = some_of (eqb e.row) S q in
    let edge : e ≡ record { row = i; label = l; target = j } = λ x. record { row = eqb-true e.row i v x; label = eqb-true e.label l p x; target = sym z x } in
    (i, k, reads (subst (λ (y : Edge). Memᴰ y L.edges) edge d) r)

next-to : (L : Listing) (S : List ℕ) (l : ℕ) (w : List ℕ) → ReadsFrom L S (l ∷ w) → ReadsFrom L (next L S l) w
next-to L S l w (i, m, reads {j} h r) =
    (j, map-to (λ (e : Edge). e.target) (keep-to (by_letter S l) L.edges h (and-true-to (eqb l l) _ (eq-eqb l l refl) (some_to (eqb i) S m (eq-eqb i i refl)))), r)

final-of : (L : Listing) (S : List ℕ) → any_of (is_final L) S ≡ true → ReadsFrom L S []
final-of L S e =
    let (i, m, h) = some_of (is_final L) S e in
    let (p, q) = and-true-of (ltb i (length L.rows)) (row_at L i).final h in
    (i, m, ends (ltb-true i (length L.rows) p) q)

final-to : (L : Listing) (S : List ℕ) → ReadsFrom L S [] → any_of (is_final L) S ≡ true
final-to L S (i, m, ends b f) = some_to (is_final L) S m (and-true-to _ _ (lt-ltb i (length L.rows) b) f)

-- The letters that matter.
abbrev heads : List (List ℕ) → List ℕ
heads [] = []
heads ([] ∷ ws) = heads ws
heads ((a ∷ w) ∷ ws) = a ∷ heads ws

heads-to : (ws : List (List ℕ)) {l : ℕ} {w : List ℕ} → Memᴰ (l ∷ w) ws → Memᴰ l (heads ws)
heads-to [] m = absurd (mathlib.Core.List.Memᴰ.not-nil m)
heads-to ([] ∷ ws) {l} {w} m = pick (mathlib.Core.List.Memᴰ.cases_cons m) (heads-to ws)
  where
    pick : (l ∷ w ≡ []) ⊎ Memᴰ (l ∷ w) ws → (Memᴰ (l ∷ w) ws → Memᴰ l (heads ws)) → Memᴰ l (heads ws)
    pick (inl e) h = absurd (let z : ◌≡◌ {A = ℕ} 0 1 = cc in omega arith)
    pick (inr n) h = h n
heads-to ((a ∷ v) ∷ ws) {l} {w} m = pick (mathlib.Core.List.Memᴰ.cases_cons m) (heads-to ws)
  where
    pick : (l ∷ w ≡ a ∷ v) ⊎ Memᴰ (l ∷ w) ws → (Memᴰ (l ∷ w) ws → Memᴰ l (heads ws)) → Memᴰ l (heads ((a ∷ v) ∷ ws))
    pick (inl e) h = let z : l ≡ a = cc in mathlib.Core.List.Memᴰ.head z
    pick (inr n) h = mathlib.Core.List.Memᴰ.tail (h n)

abbrev letters : Listing → Language → List ℕ
letters L K = map (λ e. e.label) L.edges ++ (heads K.words ++ K.repeated)

member_letter : (L : Listing) (K : Language) {l : ℕ} {w : List ℕ} → Member K (l ∷ w) → Memᴰ l (letters L K)
member_letter L K (inl m) = mathlib.Core.List.Memᴰ.append_right (map (λ e. e.label) L.edges) (mathlib.Core.List.Memᴰ.append_left K.repeated (heads-to K.words m))
member_letter L K {l} (inr (a, n, m, e)) =
    let z : a ≡ l = cc in
    mathlib.Core.List.Memᴰ.append_right (map (λ e. e.label) L.edges) (mathlib.Core.List.Memᴰ.append_right (heads K.words) (subst (λ (x : ℕ). Memᴰ x K.repeated) z m))

read_letter_lem : (L : Listing) (K : Language) (S : List ℕ) {l : ℕ} {w : List ℕ} → ReadsFrom L S (l ∷ w) → Memᴰ l (letters L K)
read_letter_lem L K S (i, m, reads h r) = mathlib.Core.List.Memᴰ.append_left (heads K.words ++ K.repeated) (map-to (λ (e : Edge). e.label) h)

-- Pairs of a list of rows and a language, closed under letters, that agree on the empty word.
record Pair : Type 0 where
  rows : List ℕ
  language : Language

abbrev same_pair : Pair → Pair → Bool
same_pair p q = same_bytes p.rows q.rows && (same_words p.language.words q.language.words && same_bytes p.language.repeated q.language.repeated)

same_pair_lem : (p q : Pair) → same_pair p q ≡ true → p ≡ q
same_pair_lem p q e =
    let (a, d) = and-true-of (same_bytes p.rows q.rows) _ e in
    let (b, c) = and-true-of (same_words p.language.words q.language.words) _ d in
    let x = same_of p.rows q.rows a in
    let y = same_words_lem p.language.words q.language.words b in
    let z = same_of p.language.repeated q.language.repeated c in
    λ i. record { rows = x i; language = record { words = y i; repeated = z i } }

abbrev on_letter : Listing → Pair → ℕ → Pair
on_letter L p l = record { rows = next L p.rows l; language = after p.language l }

abbrev known : List Pair → Pair → Bool
known R p = any_of (same_pair p) R

abbrev agrees : Listing → List Pair → Pair → Bool
agrees L R p = beq (any_of (is_final L) p.rows) (nullable p.language) && every (λ l. known R (on_letter L p l)) (letters L p.language)

module _ (L : Listing) (R : List Pair) (closed : every (agrees L R) R ≡ true) where
  abbrev Same : Pair → List ℕ → Type 0
  Same p w = Member p.language w ↔ ReadsFrom L p.rows w

  empties : (p : Pair) → any_of (is_final L) p.rows ≡ nullable p.language → Same p []
  empties p e = (λ m. final-of L p.rows (e ∙ nullable_to p.language m), λ r. nullable_of p.language (sym e ∙ final-to L p.rows r))

  nexts : (p : Pair) (l : ℕ) (w : List ℕ) → Same (on_letter L p l) w → Same p (l ∷ w)
  nexts p l w h = (λ m. next_of L p.rows l w (h.0 (after_to p.language l w m)), λ r. after_of p.language l w (h.1 (next-to L p.rows l w r)))

  others : (p : Pair) (l : ℕ) (w : List ℕ) → any_of (eqb l) (letters L p.language) ≡ false → Same p (l ∷ w)
  others p l w e =
      let never : Memᴰ l (letters L p.language) → ⊥ = λ m. true≢false (sym (some_to (eqb l) (letters L p.language) m (eq-eqb l l refl)) ∙ e) in
      (λ m. absurd (never (member_letter L p.language m)), λ r. absurd (never (read_letter_lem L p.language p.rows r)))

  same-words-from : (w : List ℕ) (p : Pair) → Memᴰ p R → Same p w
  same-words-from [] p m =
      empties p (same_tests _ _ (and-true-of (beq (any_of (is_final L) p.rows) (nullable p.language)) _ (every_of (agrees L R) R closed p m)).0)
  same-words-from (l ∷ w) p m = case (any_of (eqb l) (letters L p.language)) refl (same-words-from w)
    where
      case : (b : Bool) → any_of (eqb l) (letters L p.language) ≡ b → ((q : Pair) → Memᴰ q R → Same q w) → Same p (l ∷ w)
      case false e h = others p l w e
      case true e h =
          let (a, n, d) = some_of (eqb l) (letters L p.language) e in
          let k = (and-true-of (beq (any_of (is_final L) p.rows) (nullable p.language)) _ (every_of (agrees L R) R closed p m)).1 in
          let z = eqb-true l a d in
          let there = every_of (λ x. known R (on_letter L p x)) (letters L p.language) k a n in
          let (q, o, s) = some_of (same_pair (on_letter L p a)) R there in
          let same : q ≡ on_letter L p l = sym (same_pair_lem (on_letter L p a) q s) ∙ ap (on_letter L p) (sym z) in
          nexts p l w (subst (λ (x : Pair). Same x w) same (h q o))

-- The pairs reached from a first one, in so many rounds.
abbrev join : List Pair → List Pair → List Pair
join R [] = R
join R (p ∷ l) = join (cond (known R p) R (R ++ (p ∷ []))) l

abbrev reach : Listing → ℕ → List Pair → List Pair
reach L zero R = R
reach L (suc n) R = reach L n (join R (bind (λ p. map (on_letter L p) (letters L p.language)) R))

abbrev first : Language → Pair
first K = record { rows = 0 ∷ []; language = K }

-- Eight rounds are enough for the languages of the bench sheet; where they are not, the test says no.
abbrev pub has_words : Listing → Language → Bool
has_words L K = let R = reach L 8 (first K ∷ []) in known R (first K) && every (agrees L R) R

pub has_words_lem : (L : Listing) (K : Language) → has_words L K ≡ true → (w : List ℕ) → Member K w ↔ Accepts L w
has_words_lem L K e w =
    let R : List Pair = reach L 8 (first K ∷ []) in
    let d = and-true-of (known R (first K)) (every (agrees L R) R) e in
    let (q, m, s) = some_of (same_pair (first K)) R d.0 in
    let h = same-words-from L R d.1 w (first K) (subst (λ (x : Pair). Memᴰ x R) (sym (same_pair_lem (first K) q s)) m) in
    (λ k. only (h.0 k), λ r. h.1 (0, mathlib.Core.List.Memᴰ.head refl, r))
  where
    only : ReadsFrom L (0 ∷ []) w → Accepts L w
    only (i, m, r) = elim (mathlib.Core.List.Memᴰ.cases_cons m) [ inl z ↦ subst (λ (x : ℕ). Reads L x w) z r | inr n ↦ absurd (mathlib.Core.List.Memᴰ.not-nil n) ]
