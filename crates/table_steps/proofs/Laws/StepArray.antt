-- The array of all steps: numbers put behind its first ones, state by state; and the steps of one state, taken from it one by one.
use mathlib.Core.Path.{◌≡◌, refl, sym, ap, ◌∙◌, subst}
use mathlib.Core.List.{List, [], ◌∷◌, ◌++◌, map, append-nil, append_assoc}
use Prim.Native.Nat.{ℕ, zero, suc, ◌+◌, ◌-◌, ◌/◌, ◌%◌, ◌≤◌, ◌<◌}
use native.Mathlib.Nat.{add-zero, add-suc, suc-add, zero-add}
use native.Mathlib.Numerals.{add-one}
use native.Mathlib.Decide.{dec_lt, ℕ_discrete}
use native.Mathlib.Omega.{arith}
use lib.ListN.{length, get_or, set, take, length-set, length-map, length-append, get_or-append}
use lib.Seq.{slice, slice-cons, take-suc-set, length-slice, get_or-set_same, get_or-set_other, get_or-append-add, get_or-take}
use Rattle.lts.specs.Sizes.{most_states}
use Rattle.lts.specs.inner.Sizes.{most_steps, firsts_length}
use Rattle.lts.specs.inner.Lists.{up_from, or_else}
use Rattle.lts.specs.Lists.{bind}
use Rattle.lts.specs.Steps.{Step, Table}
use Rattle.lts.specs.inner.Steps.{Carried, idle_at, steps_from}
use Rattle.lts.specs.inner.Range.{InRange}
use Rattle.table_steps.specs.inner.StepArray.{step_code, step_at, steps_between, steps_in, exits_below, PutBehind, StepsOf}
use Rattle.lts.proofs.Lists.{up_from_snoc, bind_append, map_append, get_d_mem}
use Rattle.lts.proofs.StepsFrom.{steps_are, step-below, step-carried}
use Rattle.lts.proofs.Laws.Contents.{map_at}
use Rattle.table_steps.proofs.Laws.Exits.{steps-slice, exits_at-most, exits_grow}

-- Steps that are not taken yet, from a to before b.
module _ (steps : List ℕ) (s a b : ℕ) where
  pub between_next : a < b → steps_between steps s a b ≡ step_at steps s a ∷ steps_between steps s (a + 1) b
  between_next h =
      let more : b - a ≡ suc (b - (a + 1)) = omega arith in
      ap (λ n. map (step_at steps s) (up_from a n)) more ∙ ap (λ j. step_at steps s a ∷ map (step_at steps s) (up_from j (b - (a + 1)))) (sym (add-one a))

  pub between_over : b ≤ a → steps_between steps s a b ≡ []
  between_over h = let none_left : b - a ≡ 0 = omega arith in ap (λ n. map (step_at steps s) (up_from a n)) none_left

-- A part is put, but for the rest.
pub record PutSoFar (part : List ℕ) (at : ℕ) (before rest : List ℕ) (p : ℕ) (now : List ℕ) : Type 0 where
  pub long : length now ≡ length before
  pub ends : p + length rest ≡ at + length part
  pub put : take p now ++ rest ≡ take at before ++ part

pub put-start : (part : List ℕ) (at : ℕ) (before : List ℕ) → PutSoFar part at before part at before
put-start part at before = record { long = refl; ends = refl; put = refl }

module _ {part : List ℕ} {at : ℕ} {before : List ℕ} where
  pub put-more : {v : ℕ} {rest : List ℕ} {p : ℕ} {now : List ℕ} → p < length now → PutSoFar part at before (v ∷ rest) p now
      → PutSoFar part at before rest (p + 1) (set now p v)
  put-more {v} {rest} {p} {now} h s = record {
    long = length-set now p v ∙ s.long;
    ends = omega (arith, s.ends);
    put = ap (λ n. take n (set now p v) ++ rest) (add-one p)
        ∙ (ap (λ l. l ++ rest) (take-suc-set now p v h) ∙ (append_assoc (take p now) (v ∷ []) rest ∙ s.put));
  }

  pub put_rest : {rest more : List ℕ} {p : ℕ} {now : List ℕ} → rest ≡ more → PutSoFar part at before rest p now → PutSoFar part at before more p now
  put_rest {p} {now} e s = subst (λ (l : List ℕ). PutSoFar part at before l p now) e s

  pub put_done : {p : ℕ} {now : List ℕ} → PutSoFar part at before [] p now → PutBehind part at before p now
  put_done {p} {now} s = record { long = s.long; ends = sym (add-zero p) ∙ s.ends; put = sym (append-nil (take p now)) ∙ s.put }

pub put_as : {part more : List ℕ} {at : ℕ} {before : List ℕ} {end : ℕ} {after : List ℕ} → part ≡ more → PutBehind part at before end after
    → PutBehind more at before end after
put_as {at} {before} {end} {after} e r = subst (λ (l : List ℕ). PutBehind l at before end after) e r

-- Transitions from j to before b.
pub codes-next : (l : List Step) (j b : ℕ) (st : Step) → j < b → b ≤ length l → get_or l j st ≡ st
    → map step_code (slice j b l) ≡ step_code st ∷ map step_code (slice (j + 1) b l)
codes-next l j b st h k e =
    ap (map step_code) (slice-cons j b l st h k)
    ∙ (ap (λ x. step_code x ∷ map step_code (slice (suc j) b l)) e ∙ ap (λ n. step_code st ∷ map step_code (slice n b l)) (sym (add-one j)))

pub slice-none : {A : Type 0} (j b : ℕ) (l : List A) → b ≤ j → slice j b l ≡ []
slice-none zero zero l h = refl
slice-none zero (suc b) l h = absurd (omega arith)
slice-none (suc j) zero l h = refl
slice-none (suc j) (suc b) [] h = refl
slice-none (suc j) (suc b) (x ∷ l) h = slice-none j b l (omega arith)

pub codes_over : (l : List Step) (j b : ℕ) → b ≤ j → map step_code (slice j b l) ≡ []
codes_over l j b h = ap (map step_code) (slice-none j b l h)

-- The steps of a state.
module _ (t : Table) (w : InRange t) (s : ℕ) where
  abbrev a : ℕ
  a = exits_below t.transitions s

  abbrev b : ℕ
  b = exits_below t.transitions (suc s)

  some_leave : (l : List Step) → 0 < length l → or_else l (idle_at s ∷ []) ≡ l
  some_leave [] h = absurd (omega arith)
  some_leave (x ∷ l) h = refl

  pub steps_leave : a < b → steps_from t s ≡ slice a b t.transitions
  steps_leave h =
      steps-slice t w s
      ∙ some_leave (slice a b t.transitions) (omega (arith, length-slice a b t.transitions (exits_at-most t.transitions (suc s))))

  pub steps_idle : b ≤ a → steps_from t s ≡ idle_at s ∷ []
  steps_idle h = steps-slice t w s ∙ ap (λ l. or_else l (idle_at s ∷ [])) (slice-none a b t.transitions h)

  pub steps-few : length (steps_from t s) + a ≤ b + 1
  steps-few = pick (dec_lt a b)
    where
      pick : Dec (a < b) → length (steps_from t s) + a ≤ b + 1
      pick (yes h) = omega (arith, ap length (steps_leave h), length-slice a b t.transitions (exits_at-most t.transitions (suc s)))
      pick (no h) = omega (arith, ap length (steps_idle (omega arith)), exits_grow t.transitions s)

-- The steps of the states below s.
unfoldable pub steps_below : Table → ℕ → List Step
steps_below t s = bind (steps_from t) (up_from 0 s)

module _ (t : Table) where
  below_next : (s : ℕ) → steps_below t (s + 1) ≡ steps_below t s ++ steps_from t s
  unfolding steps_below
  below_next s =
      ap (λ n. bind (steps_from t) (up_from 0 n)) (add-one s)
      ∙ (ap (bind (steps_from t)) (up_from_snoc s)
      ∙ (bind_append (steps_from t) (up_from 0 s) (s ∷ []) ∙ ap (λ l. bind (steps_from t) (up_from 0 s) ++ l) (append-nil (steps_from t s))))

  below_split : (d s : ℕ) → (rest : List Step) × (steps_below t (d + s) ≡ steps_below t s ++ rest)
  below_split zero s = ([], ap (steps_below t) (zero-add s) ∙ sym (append-nil (steps_below t s)))
  below_split (suc d) s =
      let (rest, e) = below_split d s in
      let more = steps_from t (d + s) in (
        rest ++ more,
        ap (steps_below t) (suc-add d s ∙ sym (add-one (d + s)))
            ∙ (below_next (d + s) ∙ (ap (λ l. l ++ more) e ∙ append_assoc (steps_below t s) rest more)),
      )

  -- The first s states are done.
  pub record BelowDone (s at : ℕ) (steps firsts : List ℕ) : Type 0 where
    pub steps_long : length steps ≡ most_steps
    pub firsts_long : length firsts ≡ firsts_length
    pub counted : at ≡ length (steps_below t s)
    pub codes : take at steps ≡ map step_code (steps_below t s)
    pub first : (i : ℕ) → i < s → get_or firsts i 0 ≡ length (steps_below t i)
    pub few : at ≤ exits_below t.transitions s + s

  pub below_none : (steps firsts : List ℕ) → length steps ≡ most_steps → length firsts ≡ firsts_length → BelowDone 0 0 steps firsts
  unfolding steps_below
  below_none steps firsts a b = record {
    steps_long = a;
    firsts_long = b;
    counted = refl;
    codes = refl;
    first = λ i x. absurd (omega arith);
    few = omega arith;
  }

-- Numbers from a on that a list has in its order.
map-up_from-is : {A : Type 0} (f : ℕ → A) (d : A) (l : List A) (a : ℕ) → ((j : ℕ) → j < length l → f (a + j) ≡ get_or l j d) → map f (up_from a (length l)) ≡ l
map-up_from-is f d [] a h = refl
map-up_from-is f d (x ∷ l) a h =
    let first : f a ≡ x = ap f (sym (add-zero a)) ∙ h 0 (omega arith) in
    let more : map f (up_from (suc a) (length l)) ≡ l =
    map-up_from-is f d l (suc a) (λ j k. ap f (suc-add a j ∙ sym (add-suc a j)) ∙ h (suc j) (omega arith)) in
    λ i. first i ∷ more i

-- All states are done.
record AllDone (t : Table) (steps firsts : List ℕ) : Type 0 where
  first : (s : ℕ) → s ≤ most_states → get_or firsts s 0 ≡ length (steps_below t s)
  few : length (steps_below t 256) ≤ most_steps
  codes : take (length (steps_below t 256)) steps ≡ map step_code (steps_below t 256)

module _ (t : Table) (w : InRange t) (steps firsts : List ℕ) (h : AllDone t steps firsts) (s : ℕ) (few : s < most_states) where
  abbrev S : List Step
  S = steps_from t s

  abbrev from : ℕ
  from = get_or firsts s 0

  first-is : from ≡ length (steps_below t s)
  first-is = h.first s (omega arith)

  next-is : get_or firsts (s + 1) 0 ≡ from + length S
  next-is =
      h.first (s + 1) (omega arith)
      ∙ (ap length (below_next t s) ∙ (length-append (steps_below t s) S ∙ ap (λ n. n + length S) (sym first-is)))

  all-is : (rest : List Step) × (steps_below t 256 ≡ steps_below t s ++ (S ++ rest))
  all-is =
      let (rest, e) = below_split t (256 - (s + 1)) (s + 1) in
      let z : 256 - (s + 1) + (s + 1) ≡ 256 = omega arith in
      (rest, sym (ap (steps_below t) z) ∙ (e ∙ (ap (λ l. l ++ rest) (below_next t s) ∙ append_assoc (steps_below t s) S rest)))

  inside : from + length S ≤ length (steps_below t 256)
  inside = let (rest, e) = all-is in omega (arith, ap length e, length-append (steps_below t s) (S ++ rest), length-append S rest, first-is)

  code_at : (j : ℕ) → j < length S → get_or steps (from + j) 0 ≡ step_code (get_or S j (idle_at 0))
  code_at j x =
      let N = length (steps_below t 256) in
      let (rest, e) = all-is in
      let d : Step = idle_at 0 in
      let b : from + j < N = omega (arith, inside) in
      sym (get_or-take N steps (from + j) 0 b)
      ∙ (ap (λ l. get_or l (from + j) 0) h.codes
      ∙ (map_at step_code (steps_below t 256) (from + j) d 0 b
      ∙ ap step_code (ap (λ l. get_or l (from + j) d) e
      ∙ (ap (λ n. get_or (steps_below t s ++ (S ++ rest)) (n + j) d) first-is ∙ (get_or-append-add (steps_below t s) (S ++ rest) j d ∙ get_or-append S rest d j x)))))

  step_is : (j : ℕ) → j < length S → step_at steps s (from + j) ≡ get_or S j (idle_at 0)
  step_is j x =
      let st = get_or S j (idle_at 0) in
      let m = get_d_mem S j (idle_at 0) x in
      let (e, i) = (steps_are t s st).0 m in
      let below : st.to < 256 = step-below t w s few st m in
      let label : get_or steps (from + j) 0 / 256 ≡ st.label = omega (arith, code_at j x) in
      let to : get_or steps (from + j) 0 % 256 ≡ st.to = omega (arith, code_at j x) in
      λ k. record { from = sym e k; label = label k; to = to k }

  leaving-is : steps_in steps firsts s ≡ steps_from t s
  leaving-is =
      let many : get_or firsts (s + 1) 0 - from ≡ length S = omega (arith, next-is) in
      ap (λ n. map (step_at steps s) (up_from from n)) many ∙ map-up_from-is (step_at steps s) (idle_at 0) S from step_is

  label-carried : (j : ℕ) → from ≤ j → j < get_or firsts (s + 1) 0 → Carried (step_at steps s j).label
  label-carried j x y =
      let k : j - from < length S = omega (arith, next-is) in
      let z : from + (j - from) ≡ j = omega arith in
      let st = get_or S (j - from) (idle_at 0) in
      let (e, i) = (steps_are t s st).0 (get_d_mem S (j - from) (idle_at 0) k) in
      subst Carried (sym (ap (λ (u : Step). u.label) (step_is (j - from) k)) ∙ ap (λ n. (step_at steps s n).label) z) (step-carried t w i)

all-steps : (t : Table) → InRange t → (steps firsts : List ℕ) → AllDone t steps firsts → StepsOf t steps firsts
all-steps t w steps firsts h = record {
  fit = record {
    ordered = λ s x. omega (arith, next-is t w steps firsts h s x);
    few = λ s x. omega (arith, next-is t w steps firsts h s x, inside t w steps firsts h s x, h.few);
    labelled = λ s j x. label-carried t w steps firsts h s x j;
  };
  leaving = λ s x. leaving-is t w steps firsts h s x;
}

module _ (t : Table) (w : InRange t) where
  pub below-fits : {s at : ℕ} {steps firsts : List ℕ} → s ≤ most_states → BelowDone t s at steps firsts → at ≤ most_steps
  below-fits {s} h d = omega (arith, d.few, exits_at-most t.transitions s, w.few_transitions)

  pub below_more : {s at : ℕ} {steps firsts : List ℕ} → s < most_states → BelowDone t s at steps firsts → (end : ℕ) (after : List ℕ)
      → PutBehind (map step_code (steps_from t s)) at steps end after → BelowDone t (s + 1) end after (set firsts s at)
  below_more {s} {at} {steps} {firsts} h d end after r =
      let n : length (steps_below t (s + 1)) ≡ length (steps_below t s) + length (steps_from t s) =
      ap length (below_next t s) ∙ length-append (steps_below t s) (steps_from t s) in
      let m = length-map (steps_from t s) step_code in
      record {
        steps_long = r.long ∙ d.steps_long;
        firsts_long = length-set firsts s at ∙ d.firsts_long;
        counted = omega (arith, r.ends, m, n, d.counted);
        codes = r.put
            ∙ (ap (λ l. l ++ map step_code (steps_from t s)) d.codes
            ∙ (sym (map_append step_code (steps_below t s) (steps_from t s)) ∙ ap (map step_code) (sym (below_next t s))));
        first = λ i x. pick i x (ℕ_discrete i s);
        few = omega (arith, r.ends, m, d.few, steps-few t w s, ap (exits_below t.transitions) (add-one s));
      }
    where
      pick : (i : ℕ) → i < s + 1 → Dec (i ≡ s) → get_or (set firsts s at) i 0 ≡ length (steps_below t i)
      pick i x (yes e) =
          ap (λ k. get_or (set firsts s at) k 0) e
          ∙ (get_or-set_same firsts s at 0 (omega (arith, d.firsts_long)) ∙ (d.counted ∙ ap (λ k. length (steps_below t k)) (sym e)))
      pick i x (no e) = get_or-set_other firsts s i at 0 e ∙ d.first i (omega arith)

  pub below_all : {at : ℕ} {steps firsts : List ℕ} → BelowDone t 256 at steps firsts → StepsOf t steps (set firsts 256 at)
  below_all {at} {steps} {firsts} d = all-steps t w steps (set firsts 256 at) (record {
    first = λ i x. pick i x (ℕ_discrete i 256);
    few = omega (arith, d.counted, d.few, exits_at-most t.transitions 256, w.few_transitions);
    codes = ap (λ n. take n steps) (sym d.counted) ∙ d.codes;
  })
    where
      pick : (i : ℕ) → i ≤ 256 → Dec (i ≡ 256) → get_or (set firsts 256 at) i 0 ≡ length (steps_below t i)
      pick i x (yes e) =
          ap (λ k. get_or (set firsts 256 at) k 0) e
          ∙ (get_or-set_same firsts 256 at 0 (omega (arith, d.firsts_long)) ∙ (d.counted ∙ ap (λ k. length (steps_below t k)) (sym e)))
      pick i x (no e) = get_or-set_other firsts 256 i at 0 e ∙ d.first i (omega arith)
