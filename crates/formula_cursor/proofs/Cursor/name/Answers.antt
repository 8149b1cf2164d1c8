-- `name` takes the longest name that stands at the cursor.
use Rattle.formula_cursor.proofs.ReadingNames.{name-stands, no_name}
use Rattle.formula_cursor.proofs.Cursor.name.Goals as goal

pub returns-then-end-at : goal.returns-then-end-at
returns-then-end-at c =
    let a = c.args in
    no_name a.text.now a.self.at c.read_name-end.result.end c.read_name-end.ensures.0 c.if-end-at.true

pub returns : goal.returns
returns c =
    let a = c.args in
    name-stands a.text.now a.self.at c.read_name-end.result.end c.read_name-end.ensures.0 c.if-end-at.false
