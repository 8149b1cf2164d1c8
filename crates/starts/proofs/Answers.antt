-- What an accepted call says, by the reply and the bytes that it left.
use mathlib.Core.Path.{◌≡◌, refl, sym, ap, ◌∙◌, subst}
use mathlib.Core.Logic.{◌↔◌}
use mathlib.Core.Bool.{true}
use mathlib.Core.List.{List, [], ◌∷◌, map}
use mathlib.Core.Option.{Option, none, some}
use Prim.Native.Nat.{ℕ, zero, suc, ◌≤◌, ◌<◌}
use native.Mathlib.Omega.{arith}
use lib.Dec.{eqb, leb}
use lib.ListN.{length, get_or, drop, length-set, length-map, get_or-append}
use borrow.Author.Tests.{leb-true, le-leb, eqb-true, eq-eqb}
use Rattle.lts.specs.Lists.{every}
use Rattle.lts.specs.Reply.{Reply, accepted, refusal, unless, left_in, answers}
use Rattle.lts.specs.Sizes.{table_length, most_states}
use Rattle.lts.specs.Steps.{Table, labels}
use Rattle.lts.specs.inner.Prepared.{prepared_table}
use Rattle.lts.proofs.Booleans.{and-true-of, and-true-to}
use Rattle.lts.proofs.Laws.Prepared.{prepared-left}
use Rattle.actl.specs.Sizes.{formula_length}
use Rattle.actl.specs.Formulas.{Formula}
use Rattle.actl.specs.Reading.{unless_found}
use Rattle.actl.specs.FormulaReading.{with_formula, long_enough, on_prepared}
use Rattle.lts.specs.Prepared.{with_table}
use Rattle.actl.specs.inner.Prepared.{prepared_formula}
use Rattle.actl.proofs.Laws.Replies.{refusal-is-not-accepted, unless-accepted, accepted_lengths}
use Rattle.actl.proofs.Laws.Replies.{long-enough-accepted, on-prepared-accepted, on-prepared_goes}
use Rattle.satisfaction.specs.VerdictAsked.{VerdictIs, verdict_replied}
use Rattle.satisfaction.specs.inner.Holds.{verdict}
use Rattle.satisfaction.proofs.Verdicts.{flag_tells, verdict-is}
use Rattle.starts.specs.Starts.{starting_at, start_byte, with_start, wrong_start}
use Rattle.starts.specs.VerdictsAsked.{verdicts_at, joint, verdicts_asked, verdicts_replied, verdicts_left}
use Rattle.starts.specs.VerdictsAsked.{StartAnswered, StartsAnswered, VerdictsAnswered}
use Rattle.starts.proofs.Prepared.{prepared_again}
use Rattle.starts.proofs.Wrong.{wrong-nowhere}

same-accepted : {A : Type 0} {a b : A} → accepted a ≡ accepted b → a ≡ b
same-accepted e = cc

-- Answers that are 1 all over.
abbrev Ones : List ℕ → Type 0
Ones l = (i : ℕ) → i < length l → get_or l i 0 ≡ 1

ones-on : (v : ℕ) (l : List ℕ) → v ≡ 1 → Ones l → Ones (v ∷ l)
ones-on v l e h zero b = e
ones-on v l e h (suc i) b = h i (omega arith)

all_ones : (l : List ℕ) → (every (λ v. eqb v 1) l ≡ true) ↔ Ones l
all_ones [] = (λ e i h. absurd (omega arith), λ h. refl)
all_ones (v ∷ l) =
    let rest = all_ones l in
    let ones = every (λ w. eqb w 1) l in (
      λ e. let (d, f) = and-true-of (eqb v 1) ones e in ones-on v l (eqb-true v 1 d) (rest.0 f),
      λ h. and-true-to (eqb v 1) ones (eq-eqb v 1 (h 0 (omega arith))) (rest.1 (λ i b. h (suc i) (omega arith))),
    )

pub map_at : (f : ℕ → ℕ) (l : List ℕ) (i : ℕ) → i < length l → get_or (map f l) i 0 ≡ f (get_or l i 0)
map_at f [] i h = absurd (omega arith)
map_at f (x ∷ l) zero h = refl
map_at f (x ∷ l) (suc i) h = map_at f l i (omega arith)

found-accepted : {A : Type 0} (o : Option ℕ) (n : ℕ) (next : Reply A) {a : A} → unless_found o n next ≡ accepted a → (o ≡ none) × (next ≡ accepted a)
found-accepted none n next e = (refl, e)
found-accepted (some i) n next e = absurd (refusal-is-not-accepted e)

-- The verdicts of the table and the formula in prepared bytes.
abbrev pub verdicts_in : List ℕ → Table → Formula → Reply (List ℕ)
verdicts_in starts t F = unless_found (wrong_start t.states starts) 16 (accepted (verdicts_at t F starts))

module _ (table formula starts buffer : List ℕ) where
  abbrev behind_lengths : Reply (List ℕ)
  behind_lengths = with_table (prepared_table table) (λ t. with_formula (prepared_formula (labels t) formula) (λ F. verdicts_in starts t F))

  -- With room for the answers: what the prepared bytes say.
  pub with_room : most_states ≤ length buffer → verdicts_asked table formula starts buffer ≡ on_prepared table formula (verdicts_in starts)
  unfolding verdicts_asked
  with_room room = ap (λ b. long_enough table formula (unless b 14 most_states behind_lengths)) (le-leb most_states (length buffer) room)

  -- An accepted call had it.
  had_room : {vs : List ℕ} → verdicts_asked table formula starts buffer ≡ accepted vs → most_states ≤ length buffer
  unfolding verdicts_asked
  had_room e =
      let inside = unless (leb most_states (length buffer)) 14 most_states behind_lengths in
      leb-true most_states (length buffer)
      (unless-accepted (leb most_states (length buffer)) 14 most_states behind_lengths (long-enough-accepted table formula inside e)).0

  -- What was accepted: a table and a formula, a list without a wrong entry, its verdicts.
  record Accepted (vs : List ℕ) : Type 0 where
    table_in_lem : Table
    formula_in : Formula
    is_table : prepared_table table ≡ some table_in_lem
    is_formula : prepared_formula (labels table_in_lem) formula ≡ some formula_in
    table_long : table_length ≤ length table
    formula_long : formula_length ≤ length formula
    right : wrong_start table_in_lem.states starts ≡ none
    verdicts : vs ≡ verdicts_at table_in_lem formula_in starts

  accepted_so : {vs : List ℕ} → verdicts_asked table formula starts buffer ≡ accepted vs → Accepted vs
  accepted_so {vs} e =
      let d = sym (with_room (had_room e)) ∙ e in
      let p = on-prepared-accepted table formula (verdicts_in starts) d in
      let l = accepted_lengths table formula behind_lengths d in
      let t = p.table_in_lem in
      let (right, next) = found-accepted (wrong_start t.states starts) 16 (accepted (verdicts_at t p.formula_in starts)) p.goes_on in
      record {
        table_in_lem = t;
        formula_in = p.formula_in;
        is_table = p.is_table;
        is_formula = p.is_formula;
        table_long = l.0;
        formula_long = l.1;
        right = right;
        verdicts = sym (same-accepted next);
      }

  module _ {vs : List ℕ} (e : verdicts_asked table formula starts buffer ≡ accepted vs) where
    a : Accepted vs
    a = accepted_so e

    abbrev t : Table
    t = a.table_in_lem

    abbrev F : Formula
    F = a.formula_in

    abbrev left : List ℕ
    left = verdicts_left table formula starts buffer

    count : length vs ≡ length starts
    count = ap length a.verdicts ∙ length-map starts (λ s. verdict (starting_at t s) F)

    -- The byte at the index of an entry.
    written : (i : ℕ) → i < length starts → get_or left i 0 ≡ get_or vs i 0
    written i h = ap (λ r. get_or (left_in (λ l. l) r buffer) i 0) e ∙ get_or-append vs (drop (length vs) buffer) 0 i (omega (arith, count))

    value : (i : ℕ) → i < length starts → get_or left i 0 ≡ verdict (starting_at t (get_or starts i 0)) F
    value i h = written i h ∙ ap (λ l. get_or l i 0) a.verdicts ∙ map_at (λ s. verdict (starting_at t s) F) starts i h

    each : (i : ℕ) → i < length starts → StartAnswered table formula (get_or starts i 0) (get_or left i 0)
    unfolding verdict_replied
    each i h =
        let s = get_or starts i 0 in
        let again = prepared_again table t s a.is_table ((wrong-nowhere t.states starts).0 a.right i h).stands in
        record {
          prepared = (prepared-left (with_start table s)).0 (starting_at t s, again);
          as_verdict =
              on-prepared_goes (with_start table s) formula again a.is_formula (λ u G. accepted (verdict u G))
              (omega (arith, a.table_long, length-set table start_byte s)) a.formula_long
              ∙ ap accepted (sym (value i h));
          by_definition = (t, F, a.is_table, a.is_formula, subst (VerdictIs (starting_at t s) F) (sym (value i h)) (verdict-is (starting_at t s) F));
        }

    every_one : (every (λ v. eqb v 1) vs ≡ true) ↔ ((i : ℕ) → i < length starts → get_or left i 0 ≡ 1)
    every_one = (
      λ d i h. written i h ∙ (all_ones vs).0 d i (omega (arith, count)),
      λ d. (all_ones vs).1 (λ i h. let b : i < length starts = omega (arith, count) in sym (written i b) ∙ d i b),
    )

    pub starts-answered : StartsAnswered table formula starts left (joint vs)
    starts-answered = record { each = each; all = flag_tells (every (λ v. eqb v 1) vs) every_one }

  -- The same of every call.
  pub verdicts_answered : VerdictsAnswered table formula starts (verdicts_replied table formula starts buffer) (verdicts_left table formula starts buffer)
  verdicts_answered = by (verdicts_asked table formula starts buffer) refl
    where
      by : (r : Reply (List ℕ)) → verdicts_asked table formula starts buffer ≡ r
          → VerdictsAnswered table formula starts (answers joint r) (verdicts_left table formula starts buffer)
      by (accepted vs) e = starts-answered e
      by (refusal number figure) e = tt
