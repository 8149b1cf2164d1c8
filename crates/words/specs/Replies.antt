-- 01, "What the entries turn back": the number and the figure of each case that `accepts` answers.
use Rattle.std.specs.Prelude.{ℕ, Bool, Result, Ok, Err}
use Rattle.lts.specs.Reply.{Reply, accepted, refusal}
use Rattle.automaton.specs.Bytes.{bit_of}
use Rattle.formula_check.specs.Inputs.{unprepared}
use Rattle.words.specs.declared.WordRefusal.{WordRefusal}
use Rattle.words.specs.declared.WordRefusal.TheVariants.{WordBad, Unprepared}

abbrev pub word_reply : Result Bool WordRefusal → Reply ℕ
word_reply (Ok found) = accepted (bit_of found)
word_reply (Err (WordBad index)) = refusal 13 index
word_reply (Err (Unprepared why)) = unprepared why
