-- `same_halves` meets its contract: each byte is among the last four or the first four.
use mathlib.Core.Path.{◌≡◌, sym, ◌∙◌}
use mathlib.Core.List.{List}
use Prim.Native.Nat.{ℕ, ◌<◌}
use native.Mathlib.Omega.{arith}
use lib.ListN.{get_or, drop}
use Rattle.byte_words.specs.inner.Words.{number, four_bytes}
use Rattle.byte_words.proofs.Laws.Words.{four-bytes}
use Rattle.byte_words.proofs.Laws.Ends.{last_differs, first_decides}
use Rattle.byte_words.proofs.same.same_halves.Goals as goal

of_four : (b : List ℕ) (at : ℕ) {n : ℕ} → n ≡ four_bytes b at → n ≡ number 4 (drop at b)
of_four b at e = e ∙ sym (four-bytes b at)

pub returns-then-half : goal.returns-then-half
returns-then-half c =
    let a : List ℕ = c.args.a.now in
    let b : List ℕ = c.args.b.now in
    let small-a : (i : ℕ) → get_or a i 0 < 256 = λ i. omega (arith, c.type_inv.a i) in
    let small_b : (i : ℕ) → get_or b i 0 < 256 = λ i. omega (arith, c.type_inv.b i) in
    last_differs (a) (b) c.requires.0 (small-a) (small_b) 4 c.requires.1.0 c.requires.1.1
    c.half.result c.half-2.result (of_four a _ c.half.ensures.value) (of_four b _ c.half-2.ensures.value) c.if-half.true

pub returns : goal.returns
returns c =
    let a : List ℕ = c.args.a.now in
    let b : List ℕ = c.args.b.now in
    let small-a : (i : ℕ) → get_or a i 0 < 256 = λ i. omega (arith, c.type_inv.a i) in
    let small_b : (i : ℕ) → get_or b i 0 < 256 = λ i. omega (arith, c.type_inv.b i) in
    first_decides (a) (b) c.requires.0 (small-a) (small_b) 4 c.requires.1.0 c.requires.1.1
    c.half.result c.half-2.result (of_four a _ c.half.ensures.value) (of_four b _ c.half-2.ensures.value) c.if-half.false
    c.half-3.result c.half-4.result (of_four a _ c.half-3.ensures.value) (of_four b _ c.half-4.ensures.value)
