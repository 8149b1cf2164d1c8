-- `read_file` meets its contract: the refusal of the reading, or the table that was read, prepared.
use borrow.Author.Rules.{rules}
use Rattle.explaining.proofs.BothTexts.{table-refused, table-read}
use Rattle.combined_text.proofs.Lines.{file_read}
use Rattle.combined_text.proofs.read_file.Goals as goal

pub returns : goal.returns
returns c =
    let a = c.args in
    let told = c.read_table in
    file_read a.file.now _ c.accepted.result c.accepted.ensures
    (λ h. table-refused a.file.now a.table.now c.requires told.result told.ensures.result_value c.table_answer.ensures h)
    (λ z. let x = table-read a.file.now a.table.now told.result told.new.table told.ensures.result_value told.ensures.table_after c.table_answer.ensures z c.requires in
    record { t = x.table; read = x.read; held = x.held })
