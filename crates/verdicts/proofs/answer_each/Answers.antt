-- `answer_each` meets its contract: the answers below i are written, each from the flags of one labelling.
use mathlib.Core.Path.{◌≡◌, refl, ap, ◌∙◌}
use mathlib.Core.Bool.{Bool, false, cond}
use mathlib.Core.List.{List}
use Prim.Native.Nat.{◌≤◌}
use native.Mathlib.Omega.{arith}
use lib.ListN.{length, length-replicate}
use Rattle.actl.specs.inner.Sizes.{node_positions}
use Rattle.lts.specs.Reply.{overwritten}
use Rattle.lts.specs.Sizes.{most_states}
use Rattle.starts.proofs.Beginnings.{right-few}
use Rattle.verdicts.proofs.Laws.Answering.{answered-none, answered-length, answered-on, answered-left, answered-jointly}
use Rattle.verdicts.proofs.Laws.Answering.{bits_verdicts, bits_joint, bit_is}
use Rattle.verdicts.proofs.answer_each.Goals as goal

pub label_table-requires : goal.label_table-requires
label_table-requires c =
    record { holds_table = c.requires.holds_table; holds_formula = c.requires.holds_formula; flags_len = length-replicate node_positions false }

pub loop-i-init : goal.loop-i-init
loop-i-init c =
    (omega arith, answered-none _ _ _)

pub byte-state-requires : goal.byte-state-requires
byte-state-requires c =
    omega (arith, c.loop-i-test.true, c.requires.holds_table.long)

pub bounds-flags-state : goal.bounds-flags-state
bounds-flags-state c =
    omega (arith, c.byte-state.ensures.fits)

pub bounds-answers-i : goal.bounds-answers-i
bounds-answers-i c =
    let few : length c.args.starts.now ≤ most_states = right-few _ _ c.requires.holds_table.in_range.few_states c.requires.starts_value.0 in
    let room : length c.args.starts.now ≤ length c.args.answers.now = omega (arith, few, c.requires.starts_value.1) in
    let long : length c.loop-i.answers ≡ length c.args.answers.now = answered-length _ _ _ (room) c.loop-i.i c.loop-i.invariant.0 c.loop-i.invariant.1 in
    omega (arith, c.loop-i-test.true, long, few, c.requires.starts_value.1, c.byte-state.ensures.fits)

pub loop-i-preserved : goal.loop-i-preserved
loop-i-preserved c =
    let flags_of : List Bool = c.label_table.new.flags in
    let few : length c.args.starts.now ≤ most_states = right-few _ _ c.requires.holds_table.in_range.few_states c.requires.starts_value.0 in
    let room : length c.args.starts.now ≤ length c.args.answers.now = omega (arith, few, c.requires.starts_value.1) in
    let a = c.args in
    let loop = c.loop-i in (
      omega (arith, c.loop-i-test.true),
      answered-on (flags_of) a.starts.now a.answers.now (room) loop.i c.byte-state.result
          c.from.result c.loop-i-test.true c.byte-state.ensures.count (c.from.ensures ∙ bit_is _) refl loop.invariant.1,
    )

pub returns : goal.returns
returns c =
    let loop = c.loop-i in
    let bits = c.label_table.ensures in
    let all = c.loop-i-test.false in
    record {
      left = λ F e. answered-left _ _ _ loop.i all loop.invariant.1 ∙ ap (λ l. overwritten l c.args.answers.now) (bits_verdicts _ _ _ _ bits c.requires.starts_value.0 F e);
      jointly = λ F e. ap (λ b. cond b 1 0) (answered-jointly _ _ _ loop.i all loop.invariant.1) ∙ bits_joint _ _ _ _ bits c.requires.starts_value.0 F e;
    }
