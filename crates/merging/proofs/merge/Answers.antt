-- `merge` meets its contract: the columns are packed, and the blocks settled over them.
use mathlib.Core.Path.{◌≡◌}
use native.Mathlib.Omega.{arith}
use lib.ListN.{length, drop}
use Rattle.deterministic.specs.Sizes.{work_length}
use Rattle.deterministic.specs.inner.Arrays.{array_table}
use Rattle.packed_steps.specs.inner.Packed.{Sized}
use Rattle.merging.proofs.Laws.Rounds.{states-merged}
use Rattle.merging.proofs.merge.Goals as goal

pub pack-many-requires : goal.pack-many-requires
pack-many-requires c =
    let sized : Sized c.args.next.now c.args.n c.args.columns =
    record { whole = c.pack-arg-1.given; few = c.requires.n_le_most_sets; some_column = c.requires.le_columns.0; few_columns = c.requires.le_columns.1 } in
    (sized, c.requires.work_length_in_bounds)

pub settle-names-requires : goal.settle-names-requires
settle-names-requires c =
    let sized : Sized c.args.next.now c.args.n c.args.columns =
    record { whole = c.pack-arg-1.given; few = c.requires.n_le_most_sets; some_column = c.requires.le_columns.0; few_columns = c.requires.le_columns.1 } in
    record {
      by_index = (c.args.next.now, c.args.columns, (sized, c.pack-many.ensures.packed));
      work_length_in_bounds =
          omega (arith, c.pack-many.ensures.work_len_unchanged.0, c.requires.work_length_in_bounds);
    }

pub of_states-requires : goal.of_states-requires
of_states-requires c =
    c.settle-names.ensures.result_len

pub shape_of-work : goal.shape_of-work
shape_of-work c =
    c.pack-many.ensures.work_len_unchanged.0

pub returns : goal.returns
returns c =
    let sized : Sized c.args.next.now c.args.n c.args.columns =
    record { whole = c.pack-arg-1.given; few = c.requires.n_le_most_sets; some_column = c.requires.le_columns.0; few_columns = c.requires.le_columns.1 } in
    let a = c.args in
    let all = c.settle-names.ensures.by_index_2 a.next.now a.columns (sized) c.pack-many.ensures.packed in
    let m = states-merged (array_table a.next.now a.marks.now a.n a.columns) _ _ (sized).few c.settle-names.ensures.result_len c.of_states.ensures all in
    let work = c.pack-many.new.work in
    -- With its lists written out: compared in another form, `drop work_length` is computed step by step.
    let kept : (length work ≡ length a.work.now) × (drop work_length work ≡ drop work_length a.work.now) = c.pack-many.ensures.work_len_unchanged in
    record { result_value = m.are; by_index = m.low; work_len_unchanged = kept }
