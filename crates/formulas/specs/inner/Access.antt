-- A node as the code hands it out: the slot that it stands for, and which slots are nodes at all.
use Rattle.actl.specs.Actions.{Cond, silent, labels}
use Rattle.actl.specs.Prepared.{Slot, slot, next_slot}
use Rattle.formulas.specs.declared.node.Condition.{Condition}
use Rattle.formulas.specs.declared.node.Condition.TheVariants.{Silent, Labels}
use Rattle.formulas.specs.declared.node.Node.{Node}
use Rattle.formulas.specs.declared.node.Node.TheVariants.{True, Not, Or, Ex, Ax, Until, UntilThen}

abbrev pub cond_in : Condition → Cond
cond_in Silent = silent
cond_in (Labels m) = labels m

abbrev pub slot_of_node : Node → Slot
slot_of_node True = slot 1 0 0
slot_of_node Not = slot 2 0 0
slot_of_node Or = slot 3 0 0
slot_of_node (Ex c) = next_slot 4 (cond_in c)
slot_of_node (Ax c) = next_slot 6 (cond_in c)
slot_of_node (Until a) = slot 8 a 0
slot_of_node (UntilThen a b) = slot 9 a b
