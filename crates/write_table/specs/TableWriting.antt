-- What `table_text` answers and leaves.
use Rattle.std.specs.Prelude.{◌≡◌, List, ℕ, leb, length, take}
use Rattle.lts.specs.Sizes.{table_length, longest_table_text}
use Rattle.lts.specs.Reply.{Reply, accepted, refusal, unless, left_in, answers}
use Rattle.lts.specs.Steps.{Table}
use Rattle.lts.specs.TableText.{table_text}
use Rattle.lts.specs.Reading.{read_table}
use Rattle.lts.specs.Prepared.{table_bytes, with_table}
use Rattle.lts.specs.inner.Prepared.{prepared_table}

-- 01: "Order: 14 first", then 10. `table` are prepared bytes, `buffer` is what is lent for the text.
unfoldable pub table_writing : List ℕ → List ℕ → Reply (List ℕ)
table_writing table buffer =
    unless (leb table_length (length table)) 14 table_length (
    unless (leb longest_table_text (length buffer)) 14 longest_table_text (
    with_table (prepared_table table) (λ t. accepted (table_text t))))

-- Accepted: the length; the text in the first bytes, the others stay.
abbrev pub table_written : List ℕ → List ℕ → Reply ℕ
table_written table buffer = answers length (table_writing table buffer)

abbrev pub table_text_left : List ℕ → List ℕ → List ℕ
table_text_left table buffer = left_in (λ s. s) (table_writing table buffer) buffer

-- What an accepted call left in the first bytes of the text is read as the table whose bytes these are.
abbrev pub ReadsBack : List ℕ → Reply ℕ → List ℕ → Type 0
ReadsBack table (accepted n) text = (t : Table) × (take table_length table ≡ table_bytes t) × (read_table (take n text) ≡ accepted t)
ReadsBack table (refusal number figure) text = Unit {0}
