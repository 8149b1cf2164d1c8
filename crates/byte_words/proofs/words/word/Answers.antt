-- `word` meets its contract: eight bytes are two fours.
use native.Mathlib.Omega.{arith}
use Rattle.byte_words.proofs.Laws.Words.{eight-bytes}
use Rattle.byte_words.proofs.words.word.Goals as goal

pub returns : goal.returns
returns c =
    let a = c.args in
    omega (arith, eight-bytes a.bytes.now a.at)
