-- 01, "What the entries turn back": the number and the figure of each case that `read_table` answers.
use Rattle.std.specs.Prelude.{Result, Ok, Err}
use Rattle.lts.specs.Reply.{Reply, accepted, refusal}
use Rattle.table_text.specs.declared.TableRefusal.{TableRefusal}
use Rattle.table_text.specs.declared.TableRefusal.TheVariants.{NotLaidOut, OutOfRange, NameRepeated, NotRising, BufferShort}

abbrev pub table_refusal : TableRefusal → Reply (Unit {0})
table_refusal (NotLaidOut line) = refusal 1 line
table_refusal (OutOfRange line) = refusal 2 line
table_refusal (NameRepeated line) = refusal 3 line
table_refusal (NotRising line) = refusal 4 line
table_refusal (BufferShort needed) = refusal 14 needed

abbrev pub table_reply : Result (Unit {0}) TableRefusal → Reply (Unit {0})
table_reply (Ok u) = accepted tt
table_reply (Err why) = table_refusal why
