-- `words::word_at` meets its contract: eight bytes are two fours.
use borrow.Author.Rules.{rules}
use mathlib.Core.Path.{refl}
use Rattle.kept_sets.proofs.Laws.Words.{word_parts}
use Rattle.kept_sets.proofs.words.word_at.Goals as goal

pub returns : goal.returns
returns c =
    let a = c.args in
    word_parts a.bytes.now a.i c.four_at.result c.four_at-2.result _ c.four_at.ensures.value c.four_at-2.ensures.value refl
