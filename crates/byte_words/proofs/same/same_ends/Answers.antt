-- `same_ends` meets its contract: each byte is among the last eight or the first eight.
use mathlib.Core.List.{List}
use Prim.Native.Nat.{ℕ, ◌<◌}
use native.Mathlib.Omega.{arith}
use lib.ListN.{get_or}
use Rattle.byte_words.proofs.Laws.Ends.{last_differs, first_decides}
use Rattle.byte_words.proofs.same.same_ends.Goals as goal

pub returns-then-word : goal.returns-then-word
returns-then-word c =
    let a : List ℕ = c.args.a.now in
    let b : List ℕ = c.args.b.now in
    let small-a : (i : ℕ) → get_or a i 0 < 256 = λ i. omega (arith, c.type_inv.a i) in
    let small_b : (i : ℕ) → get_or b i 0 < 256 = λ i. omega (arith, c.type_inv.b i) in
    last_differs (a) (b) c.requires.0 (small-a) (small_b) 8 c.requires.1.0 c.requires.1.1
    c.word.result c.word-2.result c.word.ensures c.word-2.ensures c.if-word.true

pub returns : goal.returns
returns c =
    let a : List ℕ = c.args.a.now in
    let b : List ℕ = c.args.b.now in
    let small-a : (i : ℕ) → get_or a i 0 < 256 = λ i. omega (arith, c.type_inv.a i) in
    let small_b : (i : ℕ) → get_or b i 0 < 256 = λ i. omega (arith, c.type_inv.b i) in
    first_decides (a) (b) c.requires.0 (small-a) (small_b) 8 c.requires.1.0 c.requires.1.1
    c.word.result c.word-2.result c.word.ensures c.word-2.ensures c.if-word.false
    c.word-3.result c.word-4.result c.word-3.ensures c.word-4.ensures
