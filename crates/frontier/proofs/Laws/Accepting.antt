-- A word is accepted exactly if a final place is among the positions that it reaches from the root at the start state.
use mathlib.Core.Path.{◌≡◌, refl, sym, ap, ◌∙◌, subst}
use mathlib.Core.Bool.{Bool, true, false, cond, ◌&&◌, ◌||◌}
use mathlib.Core.List.{List, [], ◌∷◌}
use Prim.Native.Nat.{ℕ, suc, ◌≤◌, ◌<◌}
use native.Mathlib.Omega.{arith}
use lib.Dec.{eqb}
use lib.ListN.{length, get_or, length-replicate}
use borrow.Author.Tests.{eqb-true, eq-eqb}
use Rattle.automaton.specs.inner.Sizes.{place_count}
use Rattle.frontier.specs.inner.Sizes.{frontier_length}
use Rattle.lts.specs.inner.Lists.{up_from}
use Rattle.lts.specs.Steps.{Step, Table}
use Rattle.lts.specs.inner.Steps.{Carried, steps_from}
use Rattle.lts.specs.inner.Range.{InRange}
use Rattle.lts.proofs.Lists.{some_of, some_to, up_from-of, up_from-to}
use Rattle.lts.proofs.Booleans.{and-true-of, and-true-to}
use Rattle.actl.specs.Formulas.{Formula, size}
use Rattle.until_search.specs.inner.Flags.{flag_at}
use Rattle.automaton.specs.Places.{Final}
use Rattle.automaton.specs.Positions.{Position, at, root_at, Joins, Walk, stop, go}
use Rattle.automaton.specs.inner.Search.{final}
use Rattle.target_masks.specs.inner.Masks.{MasksOf, FinalsOf}
use Rattle.bits.specs.inner.Bits.{bit_at}
use Rattle.automaton.specs.inner.Words.{accepts}
use Rattle.automaton.proofs.Inside.{Inside, joins-inside}
use Rattle.bits.proofs.Laws.Bits.{bit_pow}
use Rattle.automaton.proofs.Reading.{accepts-is}
use Rattle.automaton.proofs.Tests.{leads-inside, final-of, final-to}
use Rattle.frontier.specs.inner.Frontier.{has_state, nowhere, emptied, all_places}
use Rattle.frontier.specs.inner.Reached.{places_read, state_read, letter_read, word_read, root_reached, final_place, some_final, Letters}
use Rattle.frontier.proofs.Laws.Through.{through_same}
use Rattle.frontier.proofs.Laws.Frontiers.{reached_at, nowhere-reached, length-brought, brought-reached}
use Rattle.frontier.proofs.Laws.Reaching.{all-reached, length_letter, letter_of_lem, letter_to}

-- The same steps bring a word to the same frontier.
module _ (from more : ℕ → List Step) (same : (s : ℕ) → s < 256 → from s ≡ more s) (masks : List ℕ) where
  letter_same : (l : ℕ) (reached next : List ℕ) → letter_read from masks l reached next ≡ letter_read more masks l reached next
  letter_same l reached next =
      through_same (state_read from masks reached l) (state_read more masks reached l) 256
      (λ s x h. ap (λ steps. cond (has_state reached s) (places_read steps masks (get_or reached s 0) l x) x) (same s h)) 256 0 (emptied next) (omega arith)

  pub word_same : (w reached next : List ℕ) → word_read from masks w reached next ≡ word_read more masks w reached next
  unfolding word_read
  word_same [] reached next = refl
  word_same (l ∷ w) reached next =
      ap (λ x. word_read from masks w x reached) (letter_same l reached next) ∙ word_same w (letter_read more masks l reached next) reached

abbrev Holds : List ℕ → Position → Type 0
Holds reached p = reached_at reached p.state p.place ≡ true

letters-head : (l : ℕ) (v : List ℕ) → Letters (l ∷ v) → Carried l
letters-head l v h = h.carried 0 (omega arith)

letters_tail : (l : ℕ) (v : List ℕ) → Letters (l ∷ v) → Letters v
letters_tail l v h = record { carried = λ i b. h.carried (suc i) (omega arith) }

module _ (t : Table) (w : InRange t) where
  start-few : t.start < 256
  start-few = omega (arith, w.starts, w.few_states)

  nowhere-long : length nowhere ≡ frontier_length
  nowhere-long = length-replicate {A = ℕ} frontier_length 0

  -- The root at the start state is reached at first, and nothing else.
  root-reached : (v q : ℕ) → v < 256 → reached_at (root_reached t.start) v q ≡ (bit_at 1 q && eqb v t.start)
  root-reached v q h = brought-reached t.start 1 nowhere start-few nowhere-long v q h ∙ ap (λ b. b || bit_at 1 q && eqb v t.start) (nowhere-reached v q)

  root-of : (p : Position) → p.state < 256 → Holds (root_reached t.start) p → p ≡ root_at t
  root-of p h z =
      let (a, b) = and-true-of (bit_at 1 p.place) (eqb p.state t.start) (sym (root-reached p.state p.place h) ∙ z) in
      let first : p.place ≡ 0 = eqb-true p.place 0 (sym (bit_pow 0 p.place) ∙ a) in
      let begin : p.state ≡ t.start = eqb-true p.state t.start b in
      (λ i. record { place = first i; state = begin i })

  root-to : Holds (root_reached t.start) (root_at t)
  root-to = root-reached t.start 0 start-few ∙ eq-eqb t.start t.start refl

  root-long : length (root_reached t.start) ≡ frontier_length
  root-long = length-brought t.start 1 nowhere ∙ nowhere-long

  module _ (F : Formula) (few : size F ≤ 40) (masks : List ℕ) (d : MasksOf F 0 masks) where
    -- A word leads from one position to another.
    abbrev Leading : List ℕ → Position → Position → Type 0
    Leading [] p q = p ≡ q
    Leading (l ∷ v) p q = (r : Position) × Joins t F p l r × Leading v r q

    leading-inside : (v : List ℕ) (p q : Position) → Inside t F p → Leading v p q → Inside t F q
    leading-inside [] p q h e = subst (Inside t F) e h
    leading-inside (l ∷ v) p q h (r, m, b) = leading-inside v r q (joins-inside t F w h.1 m) b

    leading_walk : (v : List ℕ) (p q : Position) → Leading v p q → Final F q.place → Walk t F p v
    leading_walk [] p q e f = subst (λ (x : Position). Walk t F x []) (sym e) (stop f)
    leading_walk (l ∷ v) p q (r, m, b) f = go m (leading_walk v r q b f)

    walk_leading : {p : Position} {v : List ℕ} → Walk t F p v → (q : Position) × Leading v p q × Final F q.place
    walk_leading {p} (stop f) = (p, refl, f)
    walk_leading (go {q = r} m u) = let (q, b, f) = walk_leading u in (q, (r, m, b), f)

    -- A frontier, and the one that takes turns with it: only places of F are reached.
    record Fits (reached next : List ℕ) : Type 0 where
      long : length reached ≡ frontier_length
      next-long : length next ≡ frontier_length
      within : (s k : ℕ) → s < 256 → reached_at reached s k ≡ true → k ≤ size F

    root-fits : Fits (root_reached t.start) nowhere
    root-fits = record { long = root-long; next-long = nowhere-long; within = λ s k h z. omega (arith, ap (λ (p : Position). p.place) (root-of (at k s) h z)) }

    letter_fits : (l : ℕ) → Carried l → (reached next : List ℕ) → Fits reached next → Fits (letter_read (steps_from t) masks l reached next) reached
    letter_fits l h reached next f = record {
      long = length_letter t w masks l reached next f.next-long;
      next-long = f.long;
      within = λ s k b z. let (x, i, (j, o, m)) = letter_of_lem t w masks l s k b F few d h reached next f.next-long f.within z in leads-inside m.1;
    }

    word_of : (v : List ℕ) → Letters v → (reached next : List ℕ) → Fits reached next → (q : Position) → q.state < 256 → Holds (word_read (steps_from t) masks v reached next) q
        → (p : Position) × (p.state < 256) × Holds reached p × Leading v p q
    unfolding word_read
    word_of [] h reached next f q b z = (q, b, z, refl)
    word_of (l ∷ v) h reached next f q b z =
        let few-label = letters-head l v h in
        let (r, c, a, led) = word_of v (letters_tail l v h) (letter_read (steps_from t) masks l reached next) reached (letter_fits l few-label reached next f) q b z in
        let (x, i, (j, o, m)) = letter_of_lem t w masks l r.state r.place c F few d few-label reached next f.next-long f.within a in
        (at j x, i, o, (r, m, led))

    word_to : (v : List ℕ) → Letters v → (reached next : List ℕ) → Fits reached next → (p q : Position) → Inside t F p → Holds reached p → Leading v p q
        → Holds (word_read (steps_from t) masks v reached next) q
    unfolding word_read
    word_to [] h reached next f p q i z e = subst (Holds reached) e z
    word_to (l ∷ v) h reached next f p q i z (r, m, b) =
        let few-label = letters-head l v h in
        let inside = joins-inside t F w i.1 m in
        let few-state : r.state < 256 = omega (arith, inside.1, w.few_states) in
        let here : p.state < 256 = omega (arith, i.1, w.few_states) in
        word_to v (letters_tail l v h) (letter_read (steps_from t) masks l reached next) reached (letter_fits l few-label reached next f) r q inside
        (letter_to t w masks l r.state r.place few-state F few d few-label reached next f.next-long f.within p.state p.place here z m) b

    module _ (finals : List Bool) (g : FinalsOf F 0 finals) (v : List ℕ) (h : Letters v) where
      abbrev reached : List ℕ
      reached = word_read (steps_from t) masks v (root_reached t.start) nowhere

      root-inside : Inside t F (root_at t)
      root-inside = (omega arith, w.starts)

      found-is-accepted : some_final finals (all_places reached) ≡ true → accepts t F v ≡ true
      found-is-accepted e =
          let (k, n, b) = some_of (final_place finals (all_places reached)) (up_from 0 place_count) e in
          let (z, f) = and-true-of (bit_at (all_places reached) k) (flag_at finals k) b in
          let (s, m, a) = some_of (λ x. reached_at reached x k) (up_from 0 256) (sym (all-reached reached k) ∙ z) in
          let (p, c, o, led) = word_of v h (root_reached t.start) nowhere root-fits (at k s) (omega (arith, up_from-of 0 256 m)) a in
          let from : Leading v (root_at t) (at k s) = subst (λ (x : Position). Leading v x (at k s)) (root-of p c o) led in
          let inside = leading-inside v (root_at t) (at k s) root-inside from in
          let final-place : final F k ≡ true = sym (g.flag k (omega arith) inside.0) ∙ f in
          (accepts-is t F v).1 (leading_walk v (root_at t) (at k s) from (final-of F k inside.0 final-place))

      accepted-is-found : accepts t F v ≡ true → some_final finals (all_places reached) ≡ true
      accepted-is-found e =
          let (q, b, f) = walk_leading ((accepts-is t F v).0 e) in
          let inside = leading-inside v (root_at t) q root-inside b in
          let few-state : q.state < 256 = omega (arith, inside.1, w.few_states) in
          let z = word_to v h (root_reached t.start) nowhere root-fits (root_at t) q root-inside root-to b in
          let mark : flag_at finals q.place ≡ true = g.flag q.place (omega arith) inside.0 ∙ final-to F q.place f in
          let among : bit_at (all_places reached) q.place ≡ true =
          all-reached reached q.place ∙ some_to (λ x. reached_at reached x q.place) (up_from 0 256) (up_from-to 0 256 q.state (omega arith) (omega arith)) z in
          some_to (final_place finals (all_places reached)) (up_from 0 place_count) (up_from-to 0 place_count q.place (omega arith) (omega (arith, inside.0)))
          (and-true-to (bit_at (all_places reached) q.place) (flag_at finals q.place) among mark)

      pub found-as-accepted : some_final finals (all_places (word_read (steps_from t) masks v (root_reached t.start) nowhere)) ≡ accepts t F v
      found-as-accepted = same (some_final finals (all_places reached)) (accepts t F v) found-is-accepted accepted-is-found
        where
          same : (a b : Bool) → (a ≡ true → b ≡ true) → (b ≡ true → a ≡ true) → a ≡ b
          same true b f g = sym (f refl)
          same false true f g = g refl
          same false false f g = refl
