-- What is left of the search gives the rows at the end.
use mathlib.Core.Path.{◌≡◌, refl, sym, ap, ◌∙◌, subst}
use mathlib.Core.Bool.{cond}
use mathlib.Core.List.{List, [], ◌∷◌, ◌++◌}
use Prim.Native.Nat.{ℕ, zero, suc, ◌+◌, ◌-◌, ◌*◌, ◌<◌, ◌≤◌}
use native.Mathlib.Numerals.{add-one}
use native.Mathlib.Omega.{arith}
use lib.ListN.{length, get_or, take, length-append}
use lib.Seq.{get_or-take}
use borrow.Author.Tests.{lt-ltb, le-ltb}
use Rattle.lts.proofs.Lists.{get_d_mem}
use Rattle.deterministic.specs.Sizes.{most_letters}
use Rattle.deterministic.specs.inner.Search.{System, number_of, place_at, moves_from, expand, search, found, moves_upto}
use Rattle.deterministic.proofs.Search.{upto_next}
use Rattle.deterministic.proofs.Visits.{visits-more}
use Rattle.block_numbers.specs.inner.Found.{block_system, Fits, added, Rows, Within, taken_from, count_from}
use Rattle.block_numbers.proofs.Laws.Entered.{tests, rows-length, within-few, within_none, within-added, count-few}
use Rattle.block_numbers.proofs.Laws.Columns.{get_d_any, start_is, expand-is, moves-count}

module _ (next blocks : List ℕ) (n columns : ℕ) where
  -- The rows before row i are expanded.
  pub record Searching (i : ℕ) (rows numbers : List ℕ) (count edges : ℕ) : Type 0 where
    pub stand : Rows rows numbers count
    pub within : Within n (take count rows)
    pub leads : search (block_system next blocks n columns) (n - i) i (take count rows) ≡ found (block_system next blocks n columns) n
    pub counted : edges ≡ length (moves_upto (block_system next blocks n columns) (take count rows) i)
    pub few_edges : edges ≤ i * most_letters
    pub begun : i ≤ count

module _ {next blocks : List ℕ} {n columns : ℕ} (f : Fits next blocks n columns) where
  abbrev M : System ℕ
  M = block_system next blocks n columns

  pub search-start : {rows numbers : List ℕ} {count b : ℕ} → b ≡ get_or blocks 0 0 → Rows rows numbers count → take count rows ≡ added [] b → Searching next blocks n columns 0 rows numbers count 0
  unfolding number_of found moves_upto
  search-start {rows} {numbers} {count} {b} e r t =
      let first : take count rows ≡ M.start ∷ [] = t ∙ ap (λ x. x ∷ []) (e ∙ sym (start_is f)) in
      let below : b < n = omega (arith, e, f.inside 0 f.states.0) in
      let all : n - 0 ≡ n = omega arith in record {
        stand = r;
        within = subst (λ (l : List ℕ). Within n l) (sym t) (within-added (within_none n) b below);
        leads = λ i. search M (all i) 0 (first i);
        counted = refl;
        few_edges = omega arith;
        begun = omega arith;
      }

  -- Row i is expanded.
  module _ {i count edges : ℕ} {rows numbers : List ℕ} (s : Searching next blocks n columns i rows numbers count edges) (h : i < count) where
    abbrev L : List ℕ
    L = take count rows

    abbrev p : ℕ
    p = get_or rows i 0

    long : length L ≡ count
    long = rows-length s.stand 0

    place : place_at M L i ≡ p
    place = get_or-take count rows i M.start h ∙ get_d_any rows i M.start 0 (omega (arith, s.stand.long, s.stand.few))

    pub row_small : p < n
    row_small = subst (λ (k : ℕ). k < n) place (s.within.inside (place_at M L i) (get_d_mem L i M.start (omega (arith, long))))

    left : search M (n - i) i L ≡ search M (n - (i + 1)) (i + 1) (expand M L i)
    unfolding search
    left =
        let more : n - i ≡ suc (n - (i + 1)) = omega (arith, within-few s.within, long) in
        let next_one : suc i ≡ i + 1 = omega arith in
        ap (λ k. search M k i L) more
        ∙ (ap (λ b. cond b (search M (n - (i + 1)) (suc i) (expand M L i)) L) (lt-ltb i (length L) (omega (arith, long)))
        ∙ ap (λ j. search M (n - (i + 1)) j (expand M L i)) next_one)

    grown : (extra : List ℕ) × (expand M L i ≡ L ++ extra)
    unfolding expand
    grown = visits-more M tests L (moves_from M i (place_at M L i))

    moves_more : length (moves_upto M (expand M L i) (i + 1)) ≡ length (moves_upto M L i) + count_from next blocks n (p * most_letters) columns
    moves_more =
        let (x, e) = grown in
        ap (λ l. length (moves_upto M l (i + 1))) e ∙ (ap (λ k. length (moves_upto M (L ++ x) k)) (add-one i) ∙ (ap length (upto_next M L x i (omega (arith, long)))
        ∙ (length-append (moves_upto M L i) (moves_from M i (place_at M L i))
        ∙ ap (λ k. length (moves_upto M L i) + k) (ap (λ q. length (moves_from M i q)) place ∙ moves-count f p row_small i))))

    pub search_turn : {rows' numbers' : List ℕ} {count' edges' : ℕ} → Rows rows' numbers' count' → Within n (take count' rows')
        → take count' rows' ≡ taken_from next blocks n (p * most_letters) columns L → edges' ≡ edges + count_from next blocks n (p * most_letters) columns
        → Searching next blocks n columns (i + 1) rows' numbers' count' edges'
    search_turn {rows'} {numbers'} {count'} {edges'} r w t e =
        let same : take count' rows' ≡ expand M L i = t ∙ sym (expand-is f p row_small L i place) in
        let (x, d) = grown in record {
          stand = r;
          within = w;
          leads = ap (search M (n - (i + 1)) (i + 1)) same ∙ (sym left ∙ s.leads);
          counted = e ∙ (ap (λ k. k + count_from next blocks n (p * most_letters) columns) s.counted ∙ (sym moves_more ∙ ap (λ l. length (moves_upto M l (i + 1))) (sym same)));
          few_edges = omega (arith, e, s.few_edges, count-few next blocks n (p * most_letters) columns, f.letters.1);
          begun = omega (arith, ap length (same ∙ d), length-append L x, long, rows-length r 0);
        }

  -- No row is left.
  module _ {i count edges : ℕ} {rows numbers : List ℕ} (s : Searching next blocks n columns i rows numbers count edges) (h : count ≤ i) where
    over : (k : ℕ) → search M k i (take count rows) ≡ take count rows
    unfolding search
    over zero = refl
    over (suc k) = ap (λ b. cond b (search M k (suc i) (expand M (take count rows) i)) (take count rows)) (le-ltb i (length (take count rows)) (omega (arith, rows-length s.stand 0)))

    pub search-rows : take count rows ≡ found M n
    search-rows = sym (over (n - i)) ∙ s.leads

    pub search-edges : edges ≡ length (moves_upto M (take count rows) count)
    search-edges = let e : i ≡ count = omega (arith, s.begun) in s.counted ∙ ap (λ k. length (moves_upto M (take count rows) k)) e
