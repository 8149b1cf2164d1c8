-- Lines of one width, one behind the other, as a loop writes them.
use mathlib.Core.Path.{◌≡◌, ap, ◌∙◌, subst}
use mathlib.Core.List.{List}
use Prim.Native.Nat.{ℕ, suc, ◌+◌, ◌*◌, ◌≤◌, ◌<◌}
use native.Mathlib.Numerals.{add-one}
use native.Mathlib.Nat.{suc-mul, mul-le-mul_right}
use native.Mathlib.Omega.{arith}
use lib.ListN.{length, get_or}
use Rattle.automaton.specs.Bytes.{row_length, edge_length}
use Rattle.columns.specs.inner.Write.{pasted}
use Rattle.explanations.specs.inner.Printed.{row_text, edge_text}
use Rattle.explanations.proofs.Printing.{Lines, lines_more, three_wide, four_wide}
use Rattle.listing_text.specs.inner.Lines.{LinesWritten}

-- Lists of bytes.
abbrev pub AreBytes : List ℕ → Type 0
AreBytes bytes = (k : ℕ) → get_or bytes k 0 < 256

pub row-wide : (rows : List ℕ) (i : ℕ) → AreBytes rows → i < 65536 → length (row_text rows i) ≡ 25
row-wide rows i b few =
    let at = i * row_length in
    four_wide _ _ _ _ (omega arith) (omega (arith, b at)) (omega (arith, b (at + 1))) (omega (arith, b (at + 2)))

pub edge-wide : (edges : List ℕ) (j : ℕ) → AreBytes edges → length (edge_text edges j) ≡ 19
edge-wide edges j b =
    let at = j * edge_length in
    three_wide _ _ _ (omega (arith, b at, b (at + 1))) (omega (arith, b (at + 2))) (omega (arith, b (at + 3), b (at + 4)))

-- Behind the first i of several lines there are places for the next one.
pub places-left : (width at count i n : ℕ) {end : ℕ} → at + count * width + 81 ≤ n → i < count → end ≡ at + i * width → end + width + 81 ≤ n
places-left width at count i n {end} room b e =
    let more : suc i * width ≤ count * width = mul-le-mul_right width (omega arith) in
    omega (arith, room, e, more, suc-mul i width)

-- Where one line more ends.
pub line-ends : (width at i : ℕ) {end next long : ℕ} → end ≡ at + i * width → next ≡ end + long → long ≡ width → next ≡ at + (i + 1) * width
line-ends width at i {end} {next} {long} e f w =
    let more : (i + 1) * width ≡ suc i * width = ap (λ k. k * width) (add-one i) in
    omega (arith, e, f, w, more, suc-mul i width)

module _ {line : ℕ → List ℕ} {width at : ℕ} {before out : List ℕ} {end i : ℕ} (l : Lines line width before at out end i) where
  pub line-more : (text : List ℕ) {more : List ℕ} {next : ℕ} → more ≡ pasted out end text → next ≡ end + length text → text ≡ line i → length text ≡ width
      → end + width ≤ length before → Lines line width before at more next (i + 1)
  line-more text {more} {next} p e t w h =
      lines_more l more next (p ∙ ap (pasted out end) t) (e ∙ ap (λ x. end + length x) t) (subst (λ x. length x ≡ width) t w) h

  pub lines-written : {count : ℕ} → i ≡ count → LinesWritten line width count at before out end
  lines-written {count} e =
      subst (λ n. LinesWritten line width n at before out end) e (record { is = l.pasting.is; ends = l.pasting.ends; wide = l.wide })
