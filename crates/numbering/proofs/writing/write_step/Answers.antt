-- `writing::write_step` meets its contract, by whether the entry leads to a state.
use borrow.Author.Rules.{rules}
use mathlib.Core.Path.{◌≡◌, refl, sym, ap, ◌∙◌}
use mathlib.Core.List.{[], ◌∷◌}
use Prim.Native.Nat.{◌+◌, ◌-◌, ◌<◌, ◌≤◌}
use native.Mathlib.Omega.{arith}
use lib.ListN.{length, get_or}
use Rattle.deterministic.specs.Sizes.{most_sets}
use Rattle.block_numbers.specs.inner.Found.{goal}
use Rattle.numbering.proofs.Laws.Puts.{put-none, put_as, step-none, step-one}
use Rattle.numbering.proofs.writing.write_step.Goals as goal

pub returns-then-n-target : goal.returns-then-n-target
returns-then-n-target c =
    let a = c.args in
    let none : a.n ≤ get_or a.next.now (a.first + a.c) 0 = omega (arith, c.if-n-target.true, c.wide-target.ensures) in
    put-none a.out.now a.at (step-none a.next.now a.blocks.now a.numbers.now a.n a.columns a.row a.first a.c none)

pub offset_bounds-numbers-block : goal.offset_bounds-numbers-block
offset_bounds-numbers-block c =
    let leads : let a = c.args in get_or a.next.now (a.first + a.c) 0 < a.n = omega (arith, c.if-n-target.false, c.wide-target.ensures) in
    let block-is : let a = c.args in c.wide-block.result ≡ goal a.next.now a.blocks.now a.n (a.first + a.c) = c.wide-block.ensures ∙ ap (λ k. get_or c.args.blocks.now k 0) c.wide-target.ensures in
    let small : c.wide-block.result < most_sets = omega (arith, block-is, c.requires.n_le_most_sets.1 (get_or c.args.next.now (c.args.first + c.args.c) 0) leads, c.requires.n_le_most_sets.0) in
    omega (arith, small)

pub bounds-numbers-block : goal.bounds-numbers-block
bounds-numbers-block c =
    let leads : let a = c.args in get_or a.next.now (a.first + a.c) 0 < a.n = omega (arith, c.if-n-target.false, c.wide-target.ensures) in
    let block-is : let a = c.args in c.wide-block.result ≡ goal a.next.now a.blocks.now a.n (a.first + a.c) = c.wide-block.ensures ∙ ap (λ k. get_or c.args.blocks.now k 0) c.wide-target.ensures in
    let small : c.wide-block.result < most_sets = omega (arith, block-is, c.requires.n_le_most_sets.1 (get_or c.args.next.now (c.args.first + c.args.c) 0) leads, c.requires.n_le_most_sets.0) in
    small

pub overflow_sub-number : goal.overflow_sub-number
overflow_sub-number c =
    let leads : let a = c.args in get_or a.next.now (a.first + a.c) 0 < a.n = omega (arith, c.if-n-target.false, c.wide-target.ensures) in
    let block-is : let a = c.args in c.wide-block.result ≡ goal a.next.now a.blocks.now a.n (a.first + a.c) = c.wide-block.ensures ∙ ap (λ k. get_or c.args.blocks.now k 0) c.wide-target.ensures in
    let number_is : let a = c.args in c.wide-number.result ≡ get_or a.numbers.now (goal a.next.now a.blocks.now a.n (a.first + a.c)) 0 =
    c.wide-number.ensures ∙ ap (λ k. get_or c.args.numbers.now k 0) (block-is) in
    let number-some : (0 < c.wide-number.result) × (c.wide-number.result ≤ most_sets) = let (x, y) = c.requires.numbered (leads) in (omega (arith, number_is), omega (arith, number_is)) in
    omega (arith, (number-some).0)

pub put_step-requires : goal.put_step-requires
put_step-requires c =
    let leads : let a = c.args in get_or a.next.now (a.first + a.c) 0 < a.n = omega (arith, c.if-n-target.false, c.wide-target.ensures) in
    let block-is : let a = c.args in c.wide-block.result ≡ goal a.next.now a.blocks.now a.n (a.first + a.c) = c.wide-block.ensures ∙ ap (λ k. get_or c.args.blocks.now k 0) c.wide-target.ensures in
    let number_is : let a = c.args in c.wide-number.result ≡ get_or a.numbers.now (goal a.next.now a.blocks.now a.n (a.first + a.c)) 0 =
    c.wide-number.ensures ∙ ap (λ k. get_or c.args.numbers.now k 0) (block-is) in
    let number-some : (0 < c.wide-number.result) × (c.wide-number.result ≤ most_sets) = let (x, y) = c.requires.numbered (leads) in (omega (arith, number_is), omega (arith, number_is)) in
    let a = c.args in
    let three = step-one a.next.now a.blocks.now a.numbers.now a.n a.columns a.row a.first a.c (leads) in
    record {
      at_in_bounds = omega (arith, ap length three, c.requires.c_in_bounds);
      row_bound =
          (omega (arith, c.requires.row_lt_most_sets.0), (c.letter.ensures.upper_bound, omega (arith, number-some)));
    }

pub returns : goal.returns
returns c =
    let leads : let a = c.args in get_or a.next.now (a.first + a.c) 0 < a.n = omega (arith, c.if-n-target.false, c.wide-target.ensures) in
    let block-is : let a = c.args in c.wide-block.result ≡ goal a.next.now a.blocks.now a.n (a.first + a.c) = c.wide-block.ensures ∙ ap (λ k. get_or c.args.blocks.now k 0) c.wide-target.ensures in
    let number_is : let a = c.args in c.wide-number.result ≡ get_or a.numbers.now (goal a.next.now a.blocks.now a.n (a.first + a.c)) 0 =
    c.wide-number.ensures ∙ ap (λ k. get_or c.args.numbers.now k 0) (block-is) in
    let a = c.args in
    let letter-is = c.letter.ensures.value in
    let three = step-one a.next.now a.blocks.now a.numbers.now a.n a.columns a.row a.first a.c (leads) in
    put_as ((λ j. a.row ∷ letter-is j ∷ (number_is j - 1) ∷ []) ∙ sym three) (record { is = c.put_step.ensures; ends = refl })
