-- The columns of a row are its letters: what the arrays hold is what the system does.
use mathlib.Core.Path.{◌≡◌, refl, sym, ap, ◌∙◌}
use mathlib.Core.Bool.{Bool, true, false, cond}
use mathlib.Core.List.{List, [], ◌∷◌, ◌++◌, map, Memᴰ}
use Prim.Native.Nat.{ℕ, zero, suc, ◌+◌, ◌-◌, ◌*◌, ◌<◌, ◌≤◌}
use native.Mathlib.Decide.{dec_lt}
use native.Mathlib.Nat.{add-zero, add-suc}
use native.Mathlib.Omega.{arith}
use lib.Dec.{eqb}
use lib.ListN.{length, get_or, take, length-map, get_or-eq_default}
use lib.Seq.{length-take-le, get_or-take}
use borrow.Author.Tests.{eqb-true, eq-eqb, ne_eqb, lt-ltb, le-ltb}
use Rattle.lts.specs.Idle.{idle_label}
use Rattle.lts.specs.inner.Lists.{up_from, cons_if, keep}
use Rattle.lts.proofs.Lists.{map_append, up_from-of, up_from_snoc}
use Rattle.deterministic.specs.Sizes.{most_letters}
use Rattle.deterministic.specs.inner.Arrays.{letters, letter_of, column_for}
use Rattle.deterministic.specs.inner.Search.{System, place_at, moves_from, expand}
use Rattle.deterministic.proofs.ListLaws.{map_same}
use Rattle.deterministic.proofs.Loops.{turn, turns, expand_turns}
use Rattle.block_numbers.specs.inner.Found.{block_system, Fits, added, leads, goal, taken, taken_from, count_from}
use Rattle.block_numbers.proofs.Laws.Entered.{taken_none, taken-one}

pub get_d_any : (l : List ℕ) (i d e : ℕ) → i < length l → get_or l i d ≡ get_or l i e
get_d_any [] i d e h = absurd (omega arith)
get_d_any (x ∷ l) zero d e h = refl
get_d_any (x ∷ l) (suc i) d e h = get_d_any l i d e (omega arith)

map_itself : (f : ℕ → ℕ) (l : List ℕ) → ((x : ℕ) → Memᴰ x l → f x ≡ x) → map f l ≡ l
map_itself f l h = map_same f (λ x. x) l h ∙ plain l
  where
    plain : (l : List ℕ) → map (λ x. x) l ≡ l
    plain [] = refl
    plain (x ∷ l) = ap (λ z. x ∷ z) (plain l)

pub letter_last : (columns c : ℕ) → suc c ≡ columns → letter_of columns c ≡ idle_label
letter_last columns c e = ap (λ s. cond s idle_label c) (eq-eqb (suc c) columns e)

pub letter_before : (columns c : ℕ) → suc c < columns → letter_of columns c ≡ c
letter_before columns c h = ap (λ s. cond s idle_label c) (ne_eqb (suc c) columns (λ z. omega arith))

-- The letters, column by column.
pub letters-are : (columns : ℕ) → 1 ≤ columns → map (letter_of columns) (up_from 0 columns) ≡ letters columns
letters-are zero h = absurd (omega arith)
letters-are (suc m) h =
    let e : m ≡ suc m - 1 = omega arith in
    let f = letter_of (suc m) in
    let begin = map_itself f (up_from 0 m) (λ x k. letter_before (suc m) x (omega (arith, (up_from-of 0 m k).1))) in
    let last = letter_last (suc m) m refl in
    ap (map f) (up_from_snoc m) ∙ (map_append f (up_from 0 m) (m ∷ []) ∙ ((λ i. begin i ++ (last i ∷ [])) ∙ ap (λ k. up_from 0 k ++ (idle_label ∷ [])) e))

pub column_back : (columns c : ℕ) → c < columns → columns ≤ most_letters → column_for columns (letter_of columns c) ≡ c
column_back columns c h k = case (eqb (suc c) columns) refl
  where
    case : (s : Bool) → eqb (suc c) columns ≡ s → column_for columns (cond s idle_label c) ≡ c
    case true e = omega (arith, eqb-true (suc c) columns e)
    case false e = ap (λ s. cond s (columns - 1) c) (ne_eqb c idle_label (λ z. omega arith))

module _ {next blocks : List ℕ} {n columns : ℕ} (f : Fits next blocks n columns) where
  abbrev M : System ℕ
  M = block_system next blocks n columns

  -- The block of a state, and of what is none.
  block_in : (k : ℕ) → k < n → get_or (take n blocks) k n ≡ get_or blocks k 0
  block_in k h = get_or-take n blocks k n h ∙ get_d_any blocks k n 0 (omega (arith, f.all_blocks, f.states.1))

  block_out : (k : ℕ) → n ≤ k → get_or (take n blocks) k n ≡ n
  block_out k h = get_or-eq_default (take n blocks) n (omega (arith, length-take-le n blocks (omega (arith, f.all_blocks, f.states.1))))

  pub start_is : M.start ≡ get_or blocks 0 0
  start_is = block_in 0 f.states.0

  -- Row p, column c.
  module _ (p : ℕ) (small : p < n) where
    abbrev at : ℕ → ℕ
    at c = p * most_letters + c

    abbrev to : ℕ → ℕ
    to c = get_or next (at c) 0

    abbrev step : ℕ → ℕ
    step c = M.step p (letter_of columns c)

    step_is : (c : ℕ) → c < columns → step c ≡ get_or (take n blocks) (to c) n
    step_is c h =
        let inside : at c < length next = omega (arith, f.all_next, f.states.1, f.letters.1) in
        ap (λ k. get_or (take n blocks) (get_or next (p * most_letters + k) n) n) (column_back columns c h f.letters.1)
        ∙ ap (λ k. get_or (take n blocks) k n) (get_d_any next (at c) n 0 inside)

    pub step-goal : (c : ℕ) → c < columns → to c < n → step c ≡ goal next blocks n (at c)
    step-goal c h k = step_is c h ∙ block_in (to c) k

    step-none : (c : ℕ) → c < columns → n ≤ to c → step c ≡ n
    step-none c h k = step_is c h ∙ block_out (to c) k

    pub live-is : (c : ℕ) → c < columns → M.live (step c) ≡ leads next blocks n (at c)
    live-is c h = case (dec_lt (to c) n)
      where
        case : Dec (to c < n) → M.live (step c) ≡ leads next blocks n (at c)
        case (yes k) = ap M.live (step-goal c h k) ∙ (lt-ltb _ n (f.inside (to c) k) ∙ sym (lt-ltb (to c) n k))
        case (no k) = ap M.live (step-none c h (omega (arith, k))) ∙ (le-ltb n n (omega arith) ∙ sym (le-ltb (to c) n (omega (arith, k))))

    turn_is : (c : ℕ) → c < columns → (l : List ℕ) → turn M l (step c) ≡ taken next blocks n (at c) l
    turn_is c h l = case (dec_lt (to c) n)
      where
        case : Dec (to c < n) → turn M l (step c) ≡ taken next blocks n (at c) l
        case (yes k) =
            ap (λ s. cond s (added l (step c)) l) (live-is c h ∙ lt-ltb (to c) n k) ∙ (ap (added l) (step-goal c h k) ∙ sym (taken-one next blocks n (at c) l k))
        case (no k) =
            let b : n ≤ to c = omega (arith, k) in
            ap (λ s. cond s (added l (step c)) l) (live-is c h ∙ le-ltb (to c) n b) ∙ sym (taken_none next blocks n (at c) l b)

    turns_are : (k c : ℕ) → c + k ≡ columns → (l : List ℕ) → turns M p l (map (letter_of columns) (up_from c k)) ≡ taken_from next blocks n (at c) k l
    unfolding taken_from
    turns_are zero c e l = refl
    turns_are (suc k) c e l =
        ap (λ r. turns M p r (map (letter_of columns) (up_from (suc c) k))) (turn_is c (omega arith) l)
        ∙ (turns_are k (suc c) (omega arith) (taken next blocks n (at c) l) ∙ ap (λ j. taken_from next blocks n j k (taken next blocks n (at c) l)) (add-suc (p * most_letters) c))

    pub expand-is : (l : List ℕ) (i : ℕ) → place_at M l i ≡ p → expand M l i ≡ taken_from next blocks n (p * most_letters) columns l
    expand-is l i e =
        let all : 0 + columns ≡ columns = omega arith in
        expand_turns M l i ∙ (ap (λ q. turns M q l (letters columns)) e ∙ (ap (turns M p l) (sym (letters-are columns f.letters.0))
        ∙ (turns_are columns 0 all l ∙ ap (λ j. taken_from next blocks n j columns l) (add-zero (p * most_letters)))))

    -- The letters of which there are edges.
    abbrev lives : ℕ → Bool
    lives l = M.live (M.step p l)

    count_is : (k c : ℕ) → c + k ≡ columns → length (keep lives (map (letter_of columns) (up_from c k))) ≡ count_from next blocks n (at c) k
    unfolding count_from
    count_is zero c e = refl
    count_is (suc k) c e =
        let rest = map (letter_of columns) (up_from (suc c) k) in
        ap (λ s. length (cons_if s (letter_of columns c) (keep lives rest))) (live-is c (omega arith))
        ∙ (one (leads next blocks n (at c)) (letter_of columns c) (keep lives rest)
        ∙ (ap (λ j. cond (leads next blocks n (at c)) 1 0 + j) (count_is k (suc c) (omega arith))
        ∙ ap (λ j. cond (leads next blocks n (at c)) 1 0 + count_from next blocks n j k) (add-suc (p * most_letters) c)))
      where
        one : (s : Bool) (x : ℕ) (l : List ℕ) → length (cons_if s x l) ≡ cond s 1 0 + length l
        one true x l = omega arith
        one false x l = omega arith

    pub moves-count : (i : ℕ) → length (moves_from M i p) ≡ count_from next blocks n (p * most_letters) columns
    unfolding moves_from
    moves-count i =
        let all : 0 + columns ≡ columns = omega arith in
        length-map (keep lives (letters columns)) _ ∙ (ap (λ l. length (keep lives l)) (sym (letters-are columns f.letters.0))
        ∙ (count_is columns 0 all ∙ ap (λ j. count_from next blocks n j columns) (add-zero (p * most_letters))))
