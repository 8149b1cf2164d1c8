-- `class_from` meets its contract: the constant is the table.
use Rattle.actl.proofs.Laws.Table.{table-right}
use borrow.Author.Rules.{rules}
use Rattle.formula_classes.proofs.class_from.Goals as goal

pub returns : goal.returns
returns c =
    table-right c.args.kind c.args.arm (search rules) (search rules)
