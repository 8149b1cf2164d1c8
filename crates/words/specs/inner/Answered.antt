-- What `accepts` answers over prepared bytes.
use Rattle.std.specs.Prelude.{◌≡◌, Bool, List, ℕ, Result}
use Rattle.std.proofs.Math.Option.{some}
use Rattle.lts.specs.Reply.{Reply, accepted}
use Rattle.lts.specs.Steps.{Table, labels}
use Rattle.lts.specs.inner.Prepared.{table_in}
use Rattle.actl.specs.Formulas.{Formula}
use Rattle.actl.specs.inner.Prepared.{prepared_formula}
use Rattle.actl.specs.Reading.{unless_found}
use Rattle.automaton.specs.inner.Words.{accepts}
use Rattle.automaton.specs.Bytes.{bit_of}
use Rattle.words.specs.Replies.{word_reply}
use Rattle.automaton.specs.WordAsked.{bad_letter}
use Rattle.words.specs.declared.WordRefusal.{WordRefusal}

-- 01: "Word checks give 13"; else the answer.
abbrev pub word_answer : Table → Formula → List ℕ → Reply ℕ
word_answer t F w = unless_found (bad_letter (labels t) w) 13 (accepted (bit_of (accepts t F w)))

pub record Answered (table formula w : List ℕ) (r : Result Bool WordRefusal) : Type 0 where
  pub reply : (F : Formula) → prepared_formula (labels (table_in table)) formula ≡ some F → word_reply r ≡ word_answer (table_in table) F w
