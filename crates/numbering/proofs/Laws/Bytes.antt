-- The bytes written from the arrays are those of the automaton.
use mathlib.Core.Path.{◌≡◌, refl, sym, ap, ◌∙◌, subst}
use mathlib.Core.Bool.{Bool, true, false, cond}
use mathlib.Core.List.{List, [], ◌∷◌, ◌++◌, map, Memᴰ}
use Prim.Native.Nat.{ℕ, zero, suc, ◌+◌, ◌-◌, ◌*◌, ◌<◌, ◌≤◌}
use native.Mathlib.Omega.{arith}
use lib.Dec.{eqb}
use lib.ListN.{length, get_or, take, length-map, length-append}
use lib.Seq.{get_or-take}
use borrow.Author.Tests.{ltb-true, lt-ltb}
use Rattle.columns.specs.Bytes.{low_first}
use Rattle.lts.specs.Lists.{bind}
use Rattle.lts.specs.inner.Lists.{up_from, cons_if, keep}
use Rattle.lts.proofs.Lists.{get_d_mem, map-to, map_append, bind_append, up_from-to}
use Rattle.automaton.specs.Bytes.{bit_of}
use Rattle.deterministic.specs.Sizes.{most_letters}
use Rattle.deterministic.specs.Bytes.{step_bytes, automaton_bytes}
use Rattle.deterministic.specs.inner.Arrays.{letters, letter_of, array_table}
use Rattle.deterministic.specs.inner.Blocks.{numbered}
use Rattle.deterministic.specs.inner.Search.{System, number_of, Move, place_at, moves_from, found, moves_upto, edge_of, automaton_of}
use Rattle.deterministic.proofs.Found.{goal-row}
use Rattle.deterministic.proofs.Search.{Complete, found_complete}
use Rattle.block_numbers.specs.inner.Found.{block_system, Fits, Rows, Within, leads, goal}
use Rattle.numbering.specs.inner.Written.{mark_of, marks_of, steps_in, edges_in, RowFits}
use Rattle.block_numbers.proofs.Laws.Entered.{tests, slot_seen, rows-length, within-few}
use Rattle.block_numbers.proofs.Laws.Columns.{get_d_any, letters-are, step-goal, live-is}

-- Bytes are at most three for each column.
module _ (next blocks numbers : List ℕ) (n columns : ℕ) where
  steps-few : (i first c k : ℕ) → length (steps_in next blocks numbers n columns i first c k) ≤ 3 * k
  unfolding steps_in
  steps-few i first c zero = omega arith
  steps-few i first c (suc k) =
      let step = i ∷ letter_of columns c ∷ (get_or numbers (goal next blocks n (first + c)) 0 - 1) ∷ [] in
      one (leads next blocks n (first + c)) step refl (steps_in next blocks numbers n columns i first (suc c) k) (steps-few i first (suc c) k)
    where
      one : (s : Bool) (l : List ℕ) → length l ≡ 3 → (m : List ℕ) → length m ≤ 3 * k → length (cond s l [] ++ m) ≤ 3 * suc k
      one true l e m h = omega (arith, length-append l m)
      one false l e m h = omega arith

  pub edges_few : columns ≤ most_letters → (rows : List ℕ) (i k : ℕ) → length (edges_in next blocks numbers n columns rows i k) ≤ 126 * k
  unfolding edges_in
  edges_few h rows i zero = omega arith
  edges_few h rows i (suc k) =
      let l = steps_in next blocks numbers n columns i (get_or rows i 0 * most_letters) 0 columns in
      omega (arith, length-append l (edges_in next blocks numbers n columns rows (suc i) k), steps-few i (get_or rows i 0 * most_letters) 0 columns, edges_few h rows (suc i) k)

module _ {next blocks rows numbers : List ℕ} {n columns count : ℕ} (f : Fits next blocks n columns) (r : Rows rows numbers count) (w : Within n (take count rows))
    (e : take count rows ≡ found (block_system next blocks n columns) n) where
  abbrev M : System ℕ
  M = block_system next blocks n columns

  abbrev L : List ℕ
  L = take count rows

  long : length L ≡ count
  long = rows-length r 0

  complete : Complete M L
  complete = subst (Complete M) (sym e) (found_complete M tests n (omega (arith, ap length e, within-few w)))

  letter_in : (c : ℕ) → c < columns → Memᴰ (letter_of columns c) (letters columns)
  letter_in c h = subst (Memᴰ (letter_of columns c)) (letters-are columns f.letters.0) (map-to (letter_of columns) (up_from-to 0 columns c (omega arith) (omega arith)))

  -- Row i.
  module _ (i : ℕ) (h : i < count) where
    abbrev p : ℕ
    p = get_or rows i 0

    abbrev at : ℕ → ℕ
    at c = p * most_letters + c

    place : place_at M L i ≡ p
    place = get_or-take count rows i M.start h ∙ get_d_any rows i M.start 0 (omega (arith, r.long, r.few))

    small : p < n
    small = subst (λ (k : ℕ). k < n) place (w.inside (place_at M L i) (get_d_mem L i M.start (omega (arith, long))))

    -- What an entry leads to is a row.
    number_small : (c : ℕ) → c < columns → get_or next (at c) 0 < n → number_of eqb L (goal next blocks n (at c)) < count
    number_small c k t =
        let l = letter_of columns c in
        let lives : M.live (M.step (place_at M L i) l) ≡ true = ap (λ q. M.live (M.step q l)) place ∙ (live-is f p small c k ∙ lt-ltb (get_or next (at c) 0) n t) in
        let is : M.step (place_at M L i) l ≡ goal next blocks n (at c) = ap (λ q. M.step q l) place ∙ step-goal f p small c k t in
        subst (λ (q : ℕ). number_of eqb L q < count) is (omega (arith, (goal-row M tests L complete i l (omega (arith, long)) (letter_in c k) lives).0, long))

    slot_is : (c : ℕ) → c < columns → get_or next (at c) 0 < n → get_or numbers (goal next blocks n (at c)) 0 ≡ suc (number_of eqb L (goal next blocks n (at c)))
    slot_is c k t = r.numbered (goal next blocks n (at c)) ∙ slot_seen L (goal next blocks n (at c)) (omega (arith, number_small c k t, long))

    pub row_fits : RowFits next blocks numbers n columns p
    row_fits = record {
      block = omega (arith, small, f.states.1);
      numbered = λ c k t. (omega (arith, slot_is c k t), omega (arith, slot_is c k t, number_small c k t, r.few));
    }

    -- Its edges.
    abbrev move : ℕ → Move ℕ
    move l = record { row = i; label = l; goal = M.step p l }

    abbrev bytes : List ℕ → List ℕ
    bytes l = bind step_bytes (map (edge_of M L) (map move (keep (λ l. M.live (M.step p l)) l)))

    row-bytes : (k c : ℕ) → c + k ≡ columns → bytes (map (letter_of columns) (up_from c k)) ≡ steps_in next blocks numbers n columns i (p * most_letters) c k
    unfolding steps_in
    row-bytes zero c z = refl
    row-bytes (suc k) c z =
        ap (λ s. bind step_bytes (map (edge_of M L) (map move (cons_if s (letter_of columns c) others)))) (live-is f p small c (omega arith))
        ∙ one (leads next blocks n (at c)) refl (row-bytes k (suc c) (omega arith))
      where
        others : List ℕ
        others = keep (λ l. M.live (M.step p l)) (map (letter_of columns) (up_from (suc c) k))

        rest : List ℕ
        rest = steps_in next blocks numbers n columns i (p * most_letters) (suc c) k

        one : (s : Bool) → leads next blocks n (at c) ≡ s → bytes (map (letter_of columns) (up_from (suc c) k)) ≡ rest
            → bind step_bytes (map (edge_of M L) (map move (cons_if s (letter_of columns c) others)))
            ≡ cond s (i ∷ letter_of columns c ∷ (get_or numbers (goal next blocks n (at c)) 0 - 1) ∷ []) [] ++ rest
        one true t q =
            let b : c < columns = omega arith in
            let u = ltb-true (get_or next (at c) 0) n t in
            let to = ap (number_of eqb L) (step-goal f p small c b u) in
            let target : number_of eqb L (M.step p (letter_of columns c)) ≡ get_or numbers (goal next blocks n (at c)) 0 - 1 = omega (arith, to, slot_is c b u) in
            λ j. i ∷ letter_of columns c ∷ target j ∷ q j
        one false t q = q

    moves-bytes : bind step_bytes (map (edge_of M L) (moves_from M i (place_at M L i))) ≡ steps_in next blocks numbers n columns i (p * most_letters) 0 columns
    unfolding moves_from
    moves-bytes =
        let all : 0 + columns ≡ columns = omega arith in
        ap (λ q. bind step_bytes (map (edge_of M L) (moves_from M i q))) place ∙ (ap bytes (sym (letters-are columns f.letters.0)) ∙ row-bytes columns 0 all)

  -- All edges.
  rows-bytes : (k i : ℕ) → i + k ≡ count → bind step_bytes (map (edge_of M L) (bind (λ j. moves_from M j (place_at M L j)) (up_from i k))) ≡ edges_in next blocks numbers n columns rows i k
  unfolding edges_in
  rows-bytes zero i z = refl
  rows-bytes (suc k) i z =
      let this = moves_from M i (place_at M L i) in
      let others = bind (λ j. moves_from M j (place_at M L j)) (up_from (suc i) k) in
      let a = moves-bytes i (omega arith) in
      let b = rows-bytes k (suc i) (omega arith) in
      ap (bind step_bytes) (map_append (edge_of M L) this others) ∙ (bind_append step_bytes (map (edge_of M L) this) (map (edge_of M L) others) ∙ (λ j. a j ++ b j))

  module _ (marks : List Bool) (edges : ℕ) (counted : edges ≡ length (moves_upto M (take count rows) count)) where
    marks-bytes : (l : List ℕ) → map bit_of (map (λ k. get_or marks k false) l) ≡ map (mark_of marks) l
    marks-bytes [] = refl
    marks-bytes (x ∷ l) = ap (λ z. mark_of marks x ∷ z) (marks-bytes l)

    pub bytes-are : automaton_bytes (numbered (array_table next marks n columns) (take n blocks))
        ≡ low_first 2 count ++ (low_first 2 edges ++ (marks_of marks rows count ++ edges_in next blocks numbers n columns rows 0 count))
    unfolding automaton_bytes numbered automaton_of moves_upto
    bytes-are =
        let final : ℕ → Bool = λ k. get_or marks k false in
        let states : length (map final L) ≡ count = length-map L final ∙ long in
        let moves = ap (moves_upto M L) long in
        let all : length (map (edge_of M L) (moves_upto M L (length L))) ≡ edges = length-map (moves_upto M L (length L)) (edge_of M L) ∙ (ap length moves ∙ sym counted) in
        let zero-on : 0 + count ≡ count = omega arith in
        let rest = ap (λ l. bind step_bytes (map (edge_of M L) l)) moves ∙ rows-bytes count 0 zero-on in
        let marked = marks-bytes L in
        ap (λ l. automaton_bytes (automaton_of M final l)) (sym e) ∙ (λ j. low_first 2 (states j) ++ (low_first 2 (all j) ++ (marked j ++ rest j)))
