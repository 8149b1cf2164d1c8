-- The search that enters only positions from which a final one can be reached finds, of all reached positions, these, in the same order: no
-- live position is entered from a dead end. From a dead root it finds the root alone.
use mathlib.Core.Path.{◌≡◌, refl, sym, ap, ◌∙◌}
use mathlib.Core.Bool.{Bool, true, false, true≢false}
use mathlib.Core.List.{List, [], ◌∷◌, map}
use Prim.Native.Nat.{ℕ, zero, suc, ◌+◌, ◌<◌, ◌≤◌}
use native.Mathlib.Decide.{dec_lt}
use native.Mathlib.Omega.{arith}
use lib.ListN.{length, take}
use lib.Seq.{take-append-le}
use Rattle.lts.specs.inner.Lists.{cons_if, keep}
use Rattle.lts.specs.Steps.{Table}
use Rattle.lts.specs.inner.Range.{InRange}
use Rattle.lts.proofs.Lists.{get_d_mem}
use Rattle.actl.specs.Formulas.{Formula, size}
use Rattle.actl.proofs.Classes.{HasClass}
use Rattle.automaton.specs.Positions.{Position, at, root_at, Joins}
use Rattle.automaton.specs.inner.Search.{can_finish, position_at, visits, moves_from_among, expand_among, search_among, positions_among, positions}
use Rattle.automaton.specs.inner.DeadEnds.{any_position, all_positions}
use Rattle.automaton.proofs.Tests.{leads-inside}
use Rattle.automaton.proofs.Kept.{keep-none, keep-few, before, before-all, before-passed, before_failed, before_at, before-inside}
use Rattle.automaton.proofs.Finishing.{step_finishes, can_finish-is}
use Rattle.automaton.proofs.Inside.{room, reached-inside}
use Rattle.automaton.proofs.Moves.{moves_of}
use Rattle.automaton.proofs.Among.{on_row, visits_on_row, into, from_among, visits-kept}
use Rattle.automaton.proofs.Cuts.{search-stop, search-on, expand-more}
use Rattle.automaton.proofs.Search.{Expanded, expanded, bounded, starting}
use Rattle.lts.proofs.Booleans.{is_false}

module _ (t : Table) (F : Formula) (w : InRange t) (c : HasClass F) where
  abbrev live : Position → Bool
  live = can_finish t F

  abbrev all : ℕ → ℕ → List Position → List Position
  all = search_among any_position t F

  -- What a live position is entered from is live.
  pub joins-live : {p q : Position} {l : ℕ} → p.place ≤ size F → Joins t F p l q → live q ≡ true → live p ≡ true
  joins-live {p} {q} h j e = (can_finish-is t F c p h).1 (step_finishes j ((can_finish-is t F c q (leads-inside j.1)).0 e))

  pub dead_moves : (i : ℕ) (p : Position) → p.place ≤ size F → live p ≡ false → keep (into live) (moves_from_among any_position t F i p) ≡ []
  dead_moves i p h e = keep-none (into live) (moves_from_among any_position t F i p)
      (λ m n. is_false (live m.goal) (λ d. true≢false (sym (joins-live h (moves_of any_position t F i p n).joins d) ∙ e)))

  abbrev place : List Position → ℕ → ℕ
  place rows i = before live rows i

  -- One row is expanded.
  module _ (i : ℕ) (rows : List Position) (b : i < length rows) where
    abbrev p : Position
    p = position_at rows i

    abbrev next : List Position
    next = expand_among any_position t F rows i

    place-next : place next (suc i) ≡ place rows (suc i)
    place-next = let (extra, e) = expand-more any_position t F rows i in ap (λ l. length (keep live l)) (ap (take (suc i)) e ∙ take-append-le (suc i) rows extra b)

    next-kept : keep live next ≡ visits (keep live rows) (keep (into live) (moves_from_among any_position t F i p))
    unfolding expand_among
    next-kept = visits-kept live rows (moves_from_among any_position t F i p)

    expand_dead : p.place ≤ size F → live p ≡ false → keep live next ≡ keep live rows
    unfolding visits
    expand_dead h e = next-kept ∙ ap (visits (keep live rows)) (dead_moves i p h e)

    expand-live : live p ≡ true → keep live next ≡ expand_among live t F (keep live rows) (place rows i)
    unfolding expand_among
    expand-live e =
        let k = place rows i in
        next-kept
        ∙ (sym (visits_on_row k (keep live rows) (keep (into live) (moves_from_among any_position t F i p)))
        ∙ ap (visits (keep live rows)) (from_among live t F i k p ∙ ap (moves_from_among live t F k) (sym (before_at live (at 0 0) rows i b e))))

  -- Both searches go on alike; the pruned one takes a step where a live row is expanded.
  abbrev Alike : ℕ → ℕ → ℕ → List Position → Type 0
  Alike n k i rows = keep live (all n i rows) ≡ search_among live t F k (place rows i) (keep live rows)

  alike_stopped : (n k i : ℕ) (rows : List Position) → length rows ≤ i → Alike n k i rows
  alike_stopped n k i rows h = ap (keep live) (search-stop any_position t F n i rows h) ∙ sym (search-stop live t F k (place rows i) (keep live rows) (omega (arith, before-all live rows i h)))

  module _ (n i : ℕ) (rows : List Position) (g : Expanded any_position t F i rows) (b : i < length rows)
      (more : (k : ℕ) → room t F ≤ place (next i rows b) (suc i) + k → Alike n k (suc i) (next i rows b)) where
    alike_live : (k : ℕ) → room t F ≤ place rows i + k → live (position_at rows i) ≡ true → Alike (suc n) k i rows
    alike_live zero y e = absurd (omega (arith, before-inside live (at 0 0) rows i b e, keep-few live rows, bounded any_position t F w i rows g))
    alike_live (suc k) y e =
        let z = place-next i rows b ∙ before-passed live (at 0 0) rows i b e in
        ap (keep live) (search-on any_position t F n i rows b)
        ∙ (more k (omega arith)
        ∙ (ap (λ j. search_among live t F k j (keep live (next i rows b))) z
        ∙ (ap (search_among live t F k (suc (place rows i))) (expand-live i rows b e)
        ∙ sym (search-on live t F k (place rows i) (keep live rows) (before-inside live (at 0 0) rows i b e)))))

    alike_dead : (k : ℕ) → room t F ≤ place rows i + k → live (position_at rows i) ≡ false → Alike (suc n) k i rows
    alike_dead k y e =
        let z = place-next i rows b ∙ before_failed live (at 0 0) rows i b e in
        let h = (reached-inside t F w (g.reached (position_at rows i) (get_d_mem rows i (at 0 0) b))).0 in
        ap (keep live) (search-on any_position t F n i rows b)
        ∙ (more k (omega arith)
        ∙ (ap (λ j. search_among live t F k j (keep live (next i rows b))) z
        ∙ ap (search_among live t F k (place rows i)) (expand_dead i rows b h e)))

    alike_next : (k : ℕ) → room t F ≤ place rows i + k → Alike (suc n) k i rows
    alike_next k y = case (live (position_at rows i)) refl
      where
        case : (a : Bool) → live (position_at rows i) ≡ a → Alike (suc n) k i rows
        case true e = alike_live k y e
        case false e = alike_dead k y e

  search-kept : (n k i : ℕ) (rows : List Position) → Expanded any_position t F i rows → room t F ≤ i + n → room t F ≤ place rows i + k → Alike n k i rows
  search-kept zero k i rows g x y = alike_stopped zero k i rows (omega (arith, bounded any_position t F w i rows g))
  search-kept (suc n) k i rows g x y =
      case (dec_lt i (length rows)) (λ b k z. search-kept n k (suc i) (next i rows b) (expanded any_position t F i rows g b) (omega arith) z)
    where
      case : Dec (i < length rows) → ((b : i < length rows) (k : ℕ) → room t F ≤ place (next i rows b) (suc i) + k → Alike n k (suc i) (next i rows b)) → Alike (suc n) k i rows
      case (yes b) more = alike_next n i rows g b (more b) k y
      case (no b) more = alike_stopped (suc n) k i rows (omega arith)

  pub live-positions : live (root_at t) ≡ true → keep live (all_positions t F) ≡ positions t F
  unfolding positions_among
  live-positions e =
      search-kept (room t F) (room t F) 0 (root_at t ∷ []) (starting any_position t F w) (omega arith) (omega arith)
      ∙ ap (search_among live t F (room t F) 0) (ap (λ b. cons_if b (root_at t) []) e)

  pub bare-positions : live (root_at t) ≡ false → positions t F ≡ root_at t ∷ []
  unfolding positions_among search_among expand_among visits
  bare-positions e = alone (room t F)
    where
      no-moves : moves_from_among live t F 0 (root_at t) ≡ []
      no-moves = sym (from_among live t F 0 0 (root_at t)) ∙ ap (map (on_row 0)) (dead_moves 0 (root_at t) (omega arith) e)

      stays : expand_among live t F (root_at t ∷ []) 0 ≡ root_at t ∷ []
      stays = ap (visits (root_at t ∷ [])) no-moves

      alone : (n : ℕ) → search_among live t F n 0 (root_at t ∷ []) ≡ root_at t ∷ []
      alone zero = refl
      alone (suc n) = search-on live t F n 0 (root_at t ∷ []) (omega arith) ∙ (ap (search_among live t F n 1) stays ∙ search-stop live t F n 1 (root_at t ∷ []) (omega arith))
