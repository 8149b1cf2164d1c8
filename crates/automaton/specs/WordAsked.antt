-- What asking for a word answers.
use Rattle.std.specs.Prelude.{Bool, cond, not as negate, ◌&&◌, List, [], ◌∷◌, ℕ, zero, suc, eqb, ltb}
use Rattle.std.proofs.Math.Option.{Option, none, some}
use Rattle.automaton.specs.Sizes.{longest_word}
use Rattle.lts.specs.Reply.{Reply, accepted, refusal}
use Rattle.lts.specs.Steps.{labels}
use Rattle.lts.specs.Idle.{idle_label}
use Rattle.actl.specs.Reading.{unless_found}
use Rattle.actl.specs.FormulaReading.{on_prepared}
use Rattle.actl.specs.InPrepared.{InPrepared}
use Rattle.satisfaction.specs.VerdictAsked.{TellsWhether}
use Rattle.automaton.specs.Explains.{Explains}
use Rattle.automaton.specs.inner.Words.{accepts}
use Rattle.automaton.specs.Bytes.{bit_of}

-- 01: "a word's label above the label count". 02: "A word may hold 99, which 13 no longer refuses."
abbrev pub is_bad : ℕ → ℕ → Bool
is_bad labels l = ltb labels l && negate (eqb l idle_label)

-- 01: "or a word over 1,024": "index of the first such label below 1,024, else 1,024"
-- The first argument is how many letters are left below 1,024, the second how many came before.
abbrev pub bad_from : ℕ → ℕ → ℕ → List ℕ → Option ℕ
bad_from left i labels [] = none
bad_from zero i labels (l ∷ w) = some i
bad_from (suc left) i labels (l ∷ w) = cond (is_bad labels l) (some i) (bad_from left (suc i) labels w)

unfoldable pub bad_letter : ℕ → List ℕ → Option ℕ
bad_letter labels w = bad_from longest_word 0 labels w

unfoldable pub word_replied : List ℕ → List ℕ → List ℕ → Reply ℕ
word_replied table formula word = on_prepared table formula (λ t F. unless_found (bad_letter (labels t) word) 13 (accepted (bit_of (accepts t F word))))

-- The answer on prepared bytes is 1 exactly if the word explains the verdict, and 0 exactly if it does not.
abbrev pub WordAnswered : List ℕ → List ℕ → List ℕ → Reply ℕ → Type 0
WordAnswered table formula word (accepted answer) = InPrepared table formula (λ t F. TellsWhether (Explains t F word) answer)
WordAnswered table formula word (refusal number figure) = Unit {0}
