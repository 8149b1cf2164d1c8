-- `writing::write_row` meets its contract: what is left of the columns leads to the bytes at the end.
use mathlib.Core.Path.{◌≡◌, refl, ap, ◌∙◌}
use mathlib.Core.List.{List, ◌++◌}
use Prim.Native.Nat.{ℕ, ◌+◌, ◌-◌, ◌*◌, ◌≤◌}
use native.Mathlib.Omega.{arith}
use lib.ListN.{length}
use Rattle.columns.specs.inner.Write.{pasted}
use Rattle.deterministic.specs.Sizes.{most_letters}
use Rattle.numbering.specs.inner.Written.{step_in, steps_in}
use Rattle.numbering.proofs.Laws.Puts.{Left, left-start, left_as, part_room, left_after, left_done, steps_turn, steps_over}
use Rattle.numbering.proofs.writing.write_row.Goals as goal

pub overflow_mul-first : goal.overflow_mul-first
overflow_mul-first c =
    omega (arith, c.requires.row_fits.block)

pub loop-c-init : goal.loop-c-init
loop-c-init c =
    let a = c.args in
    let first = a.block * most_letters in
    let all = steps_in a.next.now a.blocks.now a.numbers.now a.n a.columns a.row first 0 in
    let whole : a.columns ≡ a.columns - 0 = omega arith in
    (omega arith, refl, left_as (ap all whole) (left-start (all a.columns) a.out.now a.at c.requires.columns_in_bounds))

pub write_step-end-requires : goal.write_step-end-requires
write_step-end-requires c =
    let first : ℕ = c.args.block * most_letters in
    let this : List ℕ = let a = c.args in step_in a.next.now a.blocks.now a.numbers.now a.n a.columns a.row first c.loop-c.c in
    let from : ℕ → List ℕ = λ k. let a = c.args in steps_in a.next.now a.blocks.now a.numbers.now a.n a.columns a.row first k (a.columns - k) in
    let left : let a = c.args in let all = steps_in a.next.now a.blocks.now a.numbers.now a.n a.columns a.row first 0 a.columns in
    Left (this ++ from (c.loop-c.c + 1)) c.loop-c.out c.loop-c.end (pasted a.out.now a.at all) (a.at + length all) = let a = c.args in
    left_as (steps_turn a.next.now a.blocks.now a.numbers.now a.n a.columns a.row first c.loop-c.c c.loop-c-test.true) c.loop-c.invariant.2 in
    let l = c.loop-c in
    let there = c.loop-c-test.true in
    let fits = c.requires.row_fits in
    let few = c.requires.row_lt_most_sets.1 in
    record {
      n_le_most_sets = c.requires.n_le_most_sets;
      row_lt_most_sets =
          (c.requires.row_lt_most_sets.0, (omega (arith, fits.block, there, few), (there, few)));
      numbered = fits.numbered l.c there;
      c_in_bounds = part_room (this) (from (l.c + 1)) (left);
    }

pub loop-c-preserved : goal.loop-c-preserved
loop-c-preserved c =
    let first : ℕ = c.args.block * most_letters in
    let this : List ℕ = let a = c.args in step_in a.next.now a.blocks.now a.numbers.now a.n a.columns a.row first c.loop-c.c in
    let from : ℕ → List ℕ = λ k. let a = c.args in steps_in a.next.now a.blocks.now a.numbers.now a.n a.columns a.row first k (a.columns - k) in
    let left : let a = c.args in let all = steps_in a.next.now a.blocks.now a.numbers.now a.n a.columns a.row first 0 a.columns in
    Left (this ++ from (c.loop-c.c + 1)) c.loop-c.out c.loop-c.end (pasted a.out.now a.at all) (a.at + length all) = let a = c.args in
    left_as (steps_turn a.next.now a.blocks.now a.numbers.now a.n a.columns a.row first c.loop-c.c c.loop-c-test.true) c.loop-c.invariant.2 in
    let l = c.loop-c in
    let step = c.write_step-end in
    (omega (arith, c.loop-c-test.true), step.auto.out ∙ l.invariant.1, left_after (this) (from (l.c + 1)) (left) step.ensures)

pub shape_of-out : goal.shape_of-out
shape_of-out c =
    c.loop-c.invariant.1

pub returns : goal.returns
returns c =
    let a = c.args in
    let l = c.loop-c in
    let over = steps_over a.next.now a.blocks.now a.numbers.now a.n a.columns a.row (a.block * most_letters) l.c c.loop-c-test.false in
    let (x, y) = left_done over l.invariant.2 in
    record { is = x; ends = y }
