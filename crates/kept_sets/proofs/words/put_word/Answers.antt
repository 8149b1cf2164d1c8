-- `words::put_word` meets its contract: eight bytes are written one behind the other.
use borrow.Author.Rules.{rules}
use Prim.Native.Nat.{◌*◌}
use native.Mathlib.Omega.{arith}
use lib.ListN.{length-set}
use Rattle.kept_sets.proofs.Laws.Words.{word_set, word_put}
use Rattle.kept_sets.proofs.words.put_word.Goals as goal

pub bounds-bytes-at-2 : goal.bounds-bytes-at-2
bounds-bytes-at-2 c =
    simp length-set (omega arith)

pub bounds-bytes-at-3 : goal.bounds-bytes-at-3
bounds-bytes-at-3 c =
    simp length-set (omega arith)

pub bounds-bytes-at-4 : goal.bounds-bytes-at-4
bounds-bytes-at-4 c =
    simp length-set (omega arith)

pub bounds-bytes-at-5 : goal.bounds-bytes-at-5
bounds-bytes-at-5 c =
    simp length-set (omega arith)

pub bounds-bytes-at-6 : goal.bounds-bytes-at-6
bounds-bytes-at-6 c =
    simp length-set (omega arith)

pub bounds-bytes-at-7 : goal.bounds-bytes-at-7
bounds-bytes-at-7 c =
    simp length-set (omega arith)

pub bounds-bytes-at-8 : goal.bounds-bytes-at-8
bounds-bytes-at-8 c =
    simp length-set (omega arith)

pub shape_of-bytes : goal.shape_of-bytes
shape_of-bytes c =
    simp length-set

pub returns : goal.returns
returns c =
    let a = c.args in
    word_put a.bytes.now a.i a.x c.requires (omega arith) _ (word_set a.bytes.now (a.i * 8) a.x c.requires)
