-- What asking for the verdicts at many starts answers and leaves.
use Rattle.std.specs.Prelude.{◌≡◌, cond, List, map, ℕ, ◌<◌, eqb, leb, length, get_or}
use Rattle.lts.specs.Lists.{every}
use Rattle.lts.specs.Reply.{Reply, accepted, refusal, unless, left_in, answers}
use Rattle.lts.specs.Sizes.{most_states}
use Rattle.lts.specs.Steps.{Table, labels}
use Rattle.lts.specs.Prepared.{LeftByReading}
use Rattle.lts.specs.inner.Prepared.{prepared_table}
use Rattle.actl.specs.Formulas.{Formula}
use Rattle.actl.specs.Reading.{unless_found}
use Rattle.actl.specs.FormulaReading.{with_formula, long_enough}
use Rattle.lts.specs.Prepared.{with_table}
use Rattle.actl.specs.InPrepared.{InPrepared}
use Rattle.actl.specs.inner.Prepared.{prepared_formula}
use Rattle.satisfaction.specs.VerdictAsked.{TellsWhether, VerdictIs, verdict_replied}
use Rattle.satisfaction.specs.inner.Holds.{verdict}
use Rattle.starts.specs.Starts.{starting_at, with_start, wrong_start}

-- 02: "For each listed state the verdict is the one that a table with that start would get."
abbrev pub verdicts_at : Table → Formula → List ℕ → List ℕ
verdicts_at t F starts = map (λ s. verdict (starting_at t s) F) starts

-- 02: "and whether it holds at all of them", "For an empty list the joint answer is yes."
abbrev pub joint : List ℕ → ℕ
joint verdicts = cond (every (λ v. eqb v 1) verdicts) 1 0

-- 02: 16, "the first such index returned, after 10". `table` and `formula` are prepared bytes, `buffer` is what is lent for the answers.
unfoldable pub verdicts_asked : List ℕ → List ℕ → List ℕ → List ℕ → Reply (List ℕ)
verdicts_asked table formula starts buffer =
    long_enough table formula (
    unless (leb most_states (length buffer)) 14 most_states (
    with_table (prepared_table table) (λ t.
    with_formula (prepared_formula (labels t) formula) (λ F.
    unless_found (wrong_start t.states starts) 16 (accepted (verdicts_at t F starts))))))

-- Accepted: the joint answer; the verdicts in the first bytes, the others stay.
abbrev pub verdicts_replied : List ℕ → List ℕ → List ℕ → List ℕ → Reply ℕ
verdicts_replied table formula starts buffer = answers joint (verdicts_asked table formula starts buffer)

abbrev pub verdicts_left : List ℕ → List ℕ → List ℕ → List ℕ → List ℕ
verdicts_left table formula starts buffer = left_in (λ verdicts. verdicts) (verdicts_asked table formula starts buffer) buffer

-- What an accepted call says of the entry that names the state s, by its answer v: the bytes with that start are prepared, `verdict` answers v for
-- them, and v is the verdict of that table by Definition 3.
pub record StartAnswered (table formula : List ℕ) (s v : ℕ) : Type 0 where
  pub prepared : LeftByReading (with_start table s)
  pub as_verdict : verdict_replied (with_start table s) formula ≡ accepted v
  pub by_definition : InPrepared table formula (λ t F. VerdictIs (starting_at t s) F v)

-- Of all entries, and of the joint answer, by the bytes that the call left.
pub record StartsAnswered (table formula starts buffer : List ℕ) (answer : ℕ) : Type 0 where
  pub each : (i : ℕ) → i < length starts → StartAnswered table formula (get_or starts i 0) (get_or buffer i 0)
  pub all : TellsWhether ((i : ℕ) → i < length starts → get_or buffer i 0 ≡ 1) answer

abbrev pub VerdictsAnswered : List ℕ → List ℕ → List ℕ → Reply ℕ → List ℕ → Type 0
VerdictsAnswered table formula starts (accepted answer) buffer = StartsAnswered table formula starts buffer answer
VerdictsAnswered table formula starts (refusal number figure) buffer = Unit {0}
