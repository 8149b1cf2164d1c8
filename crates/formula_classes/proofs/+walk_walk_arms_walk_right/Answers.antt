-- The walk over a formula's nodes meets its contract: a node, its arms and the right arm of `|` call each other, and the nodes left fall.
use mathlib.Core.Path.{sym, ◌∙◌}
use native.Mathlib.Omega.{arith}
use Rattle.actl.proofs.Laws.Unique.{no_kind, no_arm}
use Rattle.actl.proofs.Laws.Walks.{known-kind}
use Rattle.formula_classes.proofs.Laws.Phases.{room-kept, walked_on, walked-within, arm_in_table, walked_unary, walked-or, walked_T, right-walked}
use Rattle.formula_classes.proofs.+walk_walk_arms_walk_right.Goals as goal

-- No kind, T, or a node with an arm.
pub walk-returns-then-kind-eq0 : goal.walk-returns-then-kind-eq0
walk-returns-then-kind-eq0 t c = no_kind c.args.kinds.now c.args.k (sym c.kind_at-kind.ensures ∙ c.if-kind-eq0.true)

pub walk-returns-then-kind-eq1 : goal.walk-returns-then-kind-eq1
walk-returns-then-kind-eq1 t c =
    let known = known-kind c.args.kinds.now c.args.k c.kind_at-kind.result c.kind_at-kind.ensures c.if-kind-eq0.false in
    walked_T c.args.kinds.now known.inside (known.here ∙ c.if-kind-eq1.true) c.class_from.ensures c.note.ensures

pub walk-walk_arms-requires : goal.walk-walk_arms-requires
walk-walk_arms-requires t c =
    let known = known-kind c.args.kinds.now c.args.k c.kind_at-kind.result c.kind_at-kind.ensures c.if-kind-eq0.false in (
      omega (arith, known.inside, c.decreases),
      (
        c.requires,
        record {
          inside = known.inside;
          here = known.here;
          low = omega (arith, c.if-kind-eq0.false, c.if-kind-eq1.false);
          high = known.high;
        },
      ),
    )

-- The arm's walk, then `|` by its right arm, or the node noted.
pub walk_arms-walk-requires : goal.walk_arms-walk-requires
walk_arms-walk-requires t c = (omega (arith, c.decreases, c.requires.has_arm.inside), c.requires.room)

pub walk_arms-returns-in_err-left : goal.walk_arms-returns-in_err-left
walk_arms-returns-in_err-left t c =
    let node = c.requires.has_arm in
    rw c.from_residual.ensures (no_arm c.args.kinds.now c.args.k (λ z. omega (arith, node.here, node.low)) c.in_err-left.ensures)

pub walk_arms-walk_right-requires : goal.walk_arms-walk_right-requires
walk_arms-walk_right-requires t c =
    let arm = c.in_ok-left.ensures in
    let past = walked_on arm in
    let within = walked-within arm in
    let room = room-kept c.requires.room c.walk.auto.ends c.walk.auto.classes in
    (omega (arith, c.decreases, past, within), (room, (omega arith, arm_in_table arm)))

pub walk_arms-returns-then-kind-eq3 : goal.walk_arms-returns-then-kind-eq3
walk_arms-returns-then-kind-eq3 t c =
    walked-or c.requires.has_arm c.in_ok-left.ensures c.walk_right.new.ends c.walk_right.new.classes c.walk_right.result c.if-kind-eq3.true c.walk_right.ensures

pub walk_arms-class_from-class-requires-clause-arm_bound : goal.walk_arms-class_from-class-requires-clause-arm_bound
walk_arms-class_from-class-requires-clause-arm_bound t c =
    arm_in_table c.in_ok-left.ensures

pub walk_arms-note-requires : goal.walk_arms-note-requires
walk_arms-note-requires t c =
    let arm = c.in_ok-left.ensures in
    let room = room-kept c.requires.room c.walk.auto.ends c.walk.auto.classes in
    omega (arith, c.requires.has_arm.inside, walked-within arm, room.ends_fit, room.classes_fit, room.few)

pub walk_arms-returns : goal.walk_arms-returns
walk_arms-returns t c =
    walked_unary c.requires.has_arm c.in_ok-left.ensures c.if-kind-eq3.false c.class_from-class.ensures c.note.ensures

-- The right arm's walk, then the node noted.
pub walk_right-walk-requires : goal.walk_right-walk-requires
walk_right-walk-requires t c = (omega (arith, c.decreases), c.requires.room)

pub walk_right-class_of_or-class-requires-clause-right_bound : goal.walk_right-class_of_or-class-requires-clause-right_bound
walk_right-class_of_or-class-requires-clause-right_bound t c =
    arm_in_table c.in_ok-right.ensures

pub walk_right-note-requires : goal.walk_right-note-requires
walk_right-note-requires t c =
    let arm = c.in_ok-right.ensures in
    let room = room-kept c.requires.room c.walk.auto.ends c.walk.auto.classes in
    let above = c.requires.k_lt_middle.0 in
    omega (arith, above, walked_on arm, walked-within arm, room.ends_fit, room.classes_fit, room.few)

pub walk_right-returns : goal.walk_right-returns
walk_right-returns t c =
    right-walked c.args.left c.in_ok-right.ensures c.class_of_or-class.ensures c.note.ensures
