-- What `read_table` answers and leaves.
use Rattle.std.specs.Prelude.{List, ℕ, leb, length}
use Rattle.lts.specs.Sizes.{table_length}
use Rattle.lts.specs.Reply.{Reply, unless, left_in, answers}
use Rattle.lts.specs.Steps.{Table}
use Rattle.lts.specs.Reading.{read_table}
use Rattle.lts.specs.Prepared.{table_bytes}

-- 01: "Order: 14 first". `text` is the table's text, `buffer` what is lent for the prepared table.
unfoldable pub table_reading : List ℕ → List ℕ → Reply Table
table_reading text buffer = unless (leb table_length (length buffer)) 14 table_length (read_table text)

abbrev pub table_replied : List ℕ → List ℕ → Reply (Unit {0})
table_replied text buffer = answers (λ t. tt) (table_reading text buffer)

abbrev pub table_left : List ℕ → List ℕ → List ℕ
table_left text buffer = left_in table_bytes (table_reading text buffer) buffer
