-- 01, "What the entries turn back": the length, or the number and the figure, of each case that `table_text` answers.
use Rattle.std.specs.Prelude.{ℕ, Result, Ok, Err}
use Rattle.lts.specs.Reply.{Reply, accepted, refusal}
use Rattle.write_table.specs.declared.TextRefusal.{TextRefusal}
use Rattle.write_table.specs.declared.TextRefusal.TheVariants.{TableForeign, BufferShort}

abbrev pub text_reply : Result ℕ TextRefusal → Reply ℕ
text_reply (Ok n) = accepted n
text_reply (Err TableForeign) = refusal 10 0
text_reply (Err (BufferShort n)) = refusal 14 n
