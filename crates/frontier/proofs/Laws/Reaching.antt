-- What a letter reaches: exactly the positions to which the automaton's steps with this label lead.
use mathlib.Core.Path.{◌≡◌, refl, sym, ap, ◌∙◌, subst}
use mathlib.Core.Logic.{inl, inr}
use mathlib.Core.Bool.{Bool, true, false, cond, ◌&&◌, ◌||◌}
use mathlib.Core.List.{List, [], ◌∷◌, Memᴰ}
use Prim.Native.Nat.{ℕ, ◌≤◌, ◌<◌}
use native.Mathlib.Omega.{arith}
use lib.Bits.{bit_or}
use lib.Dec.{eqb}
use lib.ListN.{length, get_or}
use borrow.Author.Tests.{eqb-true, eq-eqb}
use Rattle.automaton.specs.inner.Sizes.{place_count}
use Rattle.frontier.specs.inner.Sizes.{frontier_length}
use Rattle.lts.specs.inner.Lists.{up_from}
use Rattle.lts.specs.Lists.{any_of}
use Rattle.lts.specs.Steps.{Step, Table, IsStep}
use Rattle.lts.specs.inner.Steps.{Carried, steps_from}
use Rattle.lts.specs.inner.Range.{InRange}
use Rattle.lts.proofs.Lists.{some_of, some_to, up_from-of, up_from-to}
use Rattle.lts.proofs.Booleans.{and-true-of, and-true-to, or-false}
use Rattle.lts.proofs.StepsFrom.{steps_are}
use Rattle.actl.specs.Formulas.{Formula, size}
use Rattle.automaton.specs.inner.Search.{leads, on_label}
use Rattle.target_masks.specs.inner.Masks.{MasksOf, mask_on}
use Rattle.bits.specs.inner.Bits.{bit_at}
use Rattle.automaton.specs.Positions.{at, Joins}
use Rattle.target_masks.proofs.Laws.MasksFound.{target_bit}
use Rattle.bits.proofs.Laws.Bits.{bit_or_lem, bit_zero}
use Rattle.target_masks.proofs.Laws.Places.{mask-carried}
use Rattle.automaton.proofs.Moves.{leaving}
use Rattle.automaton.proofs.Tests.{leads-of, leads-to}
use Rattle.frontier.specs.inner.Frontier.{has_state, emptied, brought, places_added, all_places}
use Rattle.frontier.specs.inner.Reached.{targets_added, targets_of, step_taken, steps_taken, places_read, state_read, letter_read}
use Rattle.frontier.proofs.Laws.Through.{through-adds, through_good}
use Rattle.frontier.proofs.Laws.Frontiers.{reached_at, reached-of, reached-to, and_no, emptied-reached, length-emptied, length-brought, brought-reached}

-- The places of all states.
pub all-reached : (frontier : List ℕ) (q : ℕ) → bit_at (all_places frontier) q ≡ any_of (λ s. reached_at frontier s q) (up_from 0 256)
all-reached frontier q =
    through-adds (places_added frontier) (λ m. bit_at m q) (λ s. reached_at frontier s q) (λ m. Unit {0}) 256 (λ s m h u. tt) (λ s m h u. adds s m (has_state frontier s)) 256 0 0 (omega arith) tt
    ∙ ap (λ b. b || any_of (λ s. reached_at frontier s q) (up_from 0 256)) (bit_zero q)
  where
    adds : (s m : ℕ) (b : Bool) → bit_at (cond b (bit_or m (get_or frontier s 0)) m) q ≡ (bit_at m q || bit_at (cond b (get_or frontier s 0) 0) q)
    adds s m true = bit_or_lem m (get_or frontier s 0) q
    adds s m false = or-false (bit_at m q) ∙ ap (λ b. bit_at m q || b) (sym (bit_zero q))

-- The target places of a set of places.
module _ (masks : List ℕ) (places l q : ℕ) where
  abbrev led : ℕ → Bool
  led k = bit_at places k && bit_at (mask_on masks k l) q

  pub targets_led : bit_at (targets_of masks places l) q ≡ any_of (λ k. bit_at places k && bit_at (mask_on masks k l) q) (up_from 0 place_count)
  targets_led =
      through-adds (targets_added masks places l) (λ m. bit_at m q) led (λ m. Unit {0}) place_count (λ k m h u. tt) (λ k m h u. adds k m (bit_at places k)) place_count 0 0 (omega arith) tt
      ∙ ap (λ b. b || any_of led (up_from 0 place_count)) (bit_zero q)
    where
      adds : (k m : ℕ) (b : Bool) → bit_at (cond b (bit_or m (mask_on masks k l)) m) q ≡ (bit_at m q || (b && bit_at (mask_on masks k l) q))
      adds k m true = bit_or_lem m (mask_on masks k l) q
      adds k m false = or-false (bit_at m q)

-- A step with label l enters v.
abbrev enters : ℕ → ℕ → Step → Bool
enters l v st = on_label l st && eqb v st.to

spread : (x b c d : Bool) → (x || b && c || b && d) ≡ (x || b && (c || d))
spread true b c d = refl
spread false true c d = refl
spread false false c d = refl

-- What steps bring.
module _ (l m : ℕ) where
  length_taken : (st : Step) (next : List ℕ) → length (step_taken l m st next) ≡ length next
  length_taken st next = case (on_label l st)
    where
      case : (b : Bool) → length (cond b (brought st.to m next) next) ≡ length next
      case true = length-brought st.to m next
      case false = refl

  length-steps : (steps : List Step) (next : List ℕ) → length (steps_taken l m steps next) ≡ length next
  unfolding steps_taken
  length-steps [] next = refl
  length-steps (st ∷ steps) next = length-steps steps (step_taken l m st next) ∙ length_taken st next

  module _ (v q : ℕ) (few : v < 256) where
    step-adds : (st : Step) (next : List ℕ) → st.to < 256 → length next ≡ frontier_length → reached_at (step_taken l m st next) v q ≡ (reached_at next v q || bit_at m q && enters l v st)
    step-adds st next h e = case (on_label l st)
      where
        case : (b : Bool) → reached_at (cond b (brought st.to m next) next) v q ≡ (reached_at next v q || bit_at m q && (b && eqb v st.to))
        case true = brought-reached st.to m next h e v q few
        case false = or-false (reached_at next v q) ∙ ap (λ b. reached_at next v q || b) (and_no (bit_at m q))

    steps_add : (steps : List Step) (next : List ℕ) → ((st : Step) → Memᴰ st steps → st.to < 256) → length next ≡ frontier_length
        → reached_at (steps_taken l m steps next) v q ≡ (reached_at next v q || bit_at m q && any_of (enters l v) steps)
    unfolding steps_taken
    steps_add [] next h e = or-false (reached_at next v q) ∙ ap (λ b. reached_at next v q || b) (and_no (bit_at m q))
    steps_add (st ∷ steps) next h e =
        steps_add steps (step_taken l m st next) (λ x i. h x (Memᴰ.tail i)) (length_taken st next ∙ e)
        ∙ (ap (λ b. b || bit_at m q && any_of (enters l v) steps) (step-adds st next (h st (Memᴰ.head refl)) e)
        ∙ spread (reached_at next v q) (bit_at m q) (enters l v st) (any_of (enters l v) steps))

-- What a state brings, and all states.
module _ (t : Table) (w : InRange t) (masks : List ℕ) (l : ℕ) where
  step_stays : {st : Step} → IsStep t st → st.from < 256 → st.to < 256
  step_stays {st} (inl m) h = omega (arith, (w.steps_in_range st m).enters, w.few_states)
  step_stays (inr (e, x)) h = omega (arith, ap (λ (s : Step). s.to) e)

  stay : (s : ℕ) → s < 256 → (st : Step) → Memᴰ st (steps_from t s) → st.to < 256
  stay s h st m = let (a, b) = (steps_are t s st).0 m in step_stays b (omega (arith, a))

  abbrev targets_on : ℕ → ℕ
  targets_on places = targets_of masks places l

  length-state : (reached : List ℕ) (s : ℕ) (next : List ℕ) → length (state_read (steps_from t) masks reached l s next) ≡ length next
  length-state reached s next = let places = get_or reached s 0 in case places (has_state reached s) (eqb (targets_on places) 0)
    where
      case : (places : ℕ) (b c : Bool) → length (cond b (cond c next (steps_taken l (targets_on places) (steps_from t s) next)) next) ≡ length next
      case places false c = refl
      case places true true = refl
      case places true false = length-steps l (targets_on places) (steps_from t s) next

  pub length_letter : (reached next : List ℕ) → length next ≡ frontier_length → length (letter_read (steps_from t) masks l reached next) ≡ frontier_length
  length_letter reached next e =
      through_good (state_read (steps_from t) masks reached l) (λ x. length x ≡ frontier_length) 256 (λ s x h i. length-state reached s x ∙ i)
      256 0 (emptied next) (omega arith) (length-emptied next ∙ e)

  module _ (v q : ℕ) (few : v < 256) where
    abbrev brings : List ℕ → ℕ → Bool
    brings reached s = has_state reached s && (bit_at (targets_on (get_or reached s 0)) q && any_of (enters l v) (steps_from t s))

    places_add : (places s : ℕ) (next : List ℕ) → s < 256 → length next ≡ frontier_length
        → reached_at (places_read (steps_from t s) masks places l next) v q ≡ (reached_at next v q || bit_at (targets_on places) q && any_of (enters l v) (steps_from t s))
    places_add places s next h e = case (eqb (targets_on places) 0) refl
      where
        case : (b : Bool) → eqb (targets_on places) 0 ≡ b
            → reached_at (cond b next (steps_taken l (targets_on places) (steps_from t s) next)) v q ≡ (reached_at next v q || bit_at (targets_on places) q && any_of (enters l v) (steps_from t s))
        case true d =
            let none : bit_at (targets_on places) q ≡ false = ap (λ m. bit_at m q) (eqb-true (targets_on places) 0 d) ∙ bit_zero q in
            or-false (reached_at next v q) ∙ ap (λ b. reached_at next v q || b && any_of (enters l v) (steps_from t s)) (sym none)
        case false d = steps_add l (targets_on places) v q few (steps_from t s) next (stay s h) e

    state-adds : (reached : List ℕ) (s : ℕ) (next : List ℕ) → s < 256 → length next ≡ frontier_length
        → reached_at (state_read (steps_from t) masks reached l s next) v q ≡ (reached_at next v q || brings reached s)
    state-adds reached s next h e = case (has_state reached s)
      where
        case : (b : Bool) → reached_at (cond b (places_read (steps_from t s) masks (get_or reached s 0) l next) next) v q
            ≡ (reached_at next v q || b && (bit_at (targets_on (get_or reached s 0)) q && any_of (enters l v) (steps_from t s)))
        case true = places_add (get_or reached s 0) s next h e
        case false = or-false (reached_at next v q)

    letter_reached : (reached next : List ℕ) → length next ≡ frontier_length → reached_at (letter_read (steps_from t) masks l reached next) v q ≡ any_of (brings reached) (up_from 0 256)
    letter_reached reached next e =
        through-adds (state_read (steps_from t) masks reached l) (λ x. reached_at x v q) (brings reached) (λ x. length x ≡ frontier_length) 256
        (λ s x h i. length-state reached s x ∙ i) (λ s x h i. state-adds reached s x h i)
        256 0 (emptied next) (omega arith) (length-emptied next ∙ e)
        ∙ ap (λ b. b || any_of (brings reached) (up_from 0 256)) (emptied-reached next v q few)

    -- The same as moves of the automaton, where only places of F are reached.
    module _ (F : Formula) (small : size F ≤ 40) (d : MasksOf F 0 masks) (carried : Carried l) (reached next : List ℕ) (long : length next ≡ frontier_length)
        (within : (s k : ℕ) → s < 256 → reached_at reached s k ≡ true → k ≤ size F) where
      mask-leads : (k : ℕ) → k ≤ size F → bit_at (mask_on masks k l) q ≡ leads F k l q
      mask-leads k h = ap (λ m. bit_at m q) (mask-carried d k l (omega arith) h carried) ∙ target_bit F k l q

      pub letter_of_lem : reached_at (letter_read (steps_from t) masks l reached next) v q ≡ true → (x : ℕ) × (x < 256) × ((j : ℕ) × (reached_at reached x j ≡ true) × Joins t F (at j x) l (at q v))
      letter_of_lem z =
          let (s, m, a) = some_of (brings reached) (up_from 0 256) (sym (letter_reached reached next long) ∙ z) in
          let below : s < 256 = omega (arith, up_from-of 0 256 m) in
          let (i, b) = and-true-of (has_state reached s) _ a in
          let (g, c) = and-true-of (bit_at (targets_on (get_or reached s 0)) q) _ b in
          let (st, n, y) = some_of (enters l v) (steps_from t s) c in
          let (e, o) = and-true-of (on_label l st) (eqb v st.to) y in
          let (k, x, u) = some_of (led masks (get_or reached s 0) l q) (up_from 0 place_count) (sym (targets_led masks (get_or reached s 0) l q) ∙ g) in
          let (has, goes) = and-true-of (bit_at (get_or reached s 0) k) (bit_at (mask_on masks k l) q) u in
          let from-here = reached-to reached s k i has in
          let (f, p) = (steps_are t s st).0 n in
          let labelled : IsStep t (record { from = s; label = l; to = st.to }) =
          subst (λ (y : ℕ). IsStep t (record { from = s; label = y; to = st.to })) (eqb-true st.label l e) (leaving t f p) in
          let step : IsStep t (record { from = s; label = l; to = v }) =
          subst (λ (x : ℕ). IsStep t (record { from = s; label = l; to = x })) (sym (eqb-true v st.to o)) labelled in
          (s, below, (k, from-here, (step, leads-of F k l q (sym (mask-leads k (within s k below from-here)) ∙ goes))))

      pub letter_to : (x j : ℕ) → x < 256 → reached_at reached x j ≡ true → Joins t F (at j x) l (at q v) → reached_at (letter_read (steps_from t) masks l reached next) v q ≡ true
      letter_to x j h z (step, moves) =
          let (i, has) = reached-of reached x j z in
          let inside = within x j h z in
          let st : Step = record { from = x; label = l; to = v } in
          let enter : any_of (enters l v) (steps_from t x) ≡ true =
          some_to (enters l v) (steps_from t x) ((steps_are t x st).1 (refl, step)) (and-true-to (on_label l st) (eqb v v) (eq-eqb l l refl) (eq-eqb v v refl)) in
          let goes : bit_at (targets_on (get_or reached x 0)) q ≡ true =
          targets_led masks (get_or reached x 0) l q
          ∙ some_to (led masks (get_or reached x 0) l q) (up_from 0 place_count) (up_from-to 0 place_count j (omega arith) (omega arith))
          (and-true-to (bit_at (get_or reached x 0) j) (bit_at (mask_on masks j l) q) has (mask-leads j inside ∙ leads-to F j l q moves)) in
          letter_reached reached next long
          ∙ some_to (brings reached) (up_from 0 256) (up_from-to 0 256 x (omega arith) (omega arith))
          (and-true-to (has_state reached x) _ i (and-true-to (bit_at (targets_on (get_or reached x 0)) q) _ goes enter))
