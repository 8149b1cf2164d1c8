-- Laws of writing a listing: lines of one width, one behind the other.
use mathlib.Core.Path.{◌≡◌, sym, ap, ◌∙◌, subst}
use mathlib.Core.List.{List, [], ◌∷◌, ◌++◌, append-nil, append_assoc}
use Prim.Native.Nat.{ℕ, suc, ◌+◌, ◌*◌, ◌≤◌, ◌<◌}
use native.Mathlib.Numerals.{add-one}
use native.Mathlib.Omega.{arith}
use native.Mathlib.Nat.{zero-add}
use lib.ListN.{length, length-append}
use Rattle.columns.specs.Columns.{column}
use Rattle.columns.specs.Lines.{numbers_line}
use Rattle.columns.specs.inner.Write.{pasted}
use Rattle.columns.proofs.Laws.Columns.{column-length}
use Rattle.columns.proofs.Laws.Pasting.{Pasting, pasting_none, pasting_more}
use Rattle.lts.specs.inner.Lists.{up_from}
use Rattle.lts.specs.Lists.{bind}
use Rattle.lts.specs.Reply.{overwritten}
use Rattle.lts.proofs.Lists.{up_from_snoc, bind_append}
use Rattle.lts.proofs.Laws.Pasted.{pasted-start}

pub three_wide : (a b c : ℕ) → a < 1000000 → b < 1000000 → c < 1000000 → length (numbers_line (a ∷ b ∷ c ∷ [])) ≡ 19
three_wide a b c h i j =
    length-append (column a) (numbers_line (b ∷ c ∷ []))
    ∙ omega (arith, column-length a h, column-length b i, column-length c j, length-append (column b) (numbers_line (c ∷ [])), length-append (column c) (numbers_line []))

pub four_wide : (n a b c : ℕ) → n < 1000000 → a < 1000000 → b < 1000000 → c < 1000000 → length (numbers_line (n ∷ a ∷ b ∷ c ∷ [])) ≡ 25
four_wide n a b c g h i j = length-append (column n) (numbers_line (a ∷ b ∷ c ∷ [])) ∙ omega (arith, column-length n g, three_wide a b c h i j)

-- The first i lines stand in the buffer, each of one width.
pub record Lines (line : ℕ → List ℕ) (width : ℕ) (buffer : List ℕ) (at : ℕ) (out : List ℕ) (end i : ℕ) : Type 0 where
  pub pasting : Pasting buffer at (bind line (up_from 0 i)) out end
  pub wide : end ≡ at + i * width

pub lines_none : (line : ℕ → List ℕ) (width : ℕ) (buffer : List ℕ) (at : ℕ) → at ≤ length buffer → Lines line width buffer at buffer at 0
lines_none line width buffer at h = record { pasting = pasting_none buffer at h; wide = omega arith }

lines-text : (line : ℕ → List ℕ) (i : ℕ) → bind line (up_from 0 i) ++ line i ≡ bind line (up_from 0 (i + 1))
lines-text line i = sym (
    ap (λ k. bind line (up_from 0 k)) (add-one i)
    ∙ ap (bind line) (up_from_snoc i)
    ∙ bind_append line (up_from 0 i) (i ∷ [])
    ∙ ap (λ l. bind line (up_from 0 i) ++ l) (append-nil (line i))
    )

pub lines_more : {line : ℕ → List ℕ} {width : ℕ} {buffer : List ℕ} {at : ℕ} {out : List ℕ} {end i : ℕ} → Lines line width buffer at out end i
    → (out' : List ℕ) (end' : ℕ) → out' ≡ pasted out end (line i) → end' ≡ end + length (line i) → length (line i) ≡ width → end + width ≤ length buffer
    → Lines line width buffer at out' end' (i + 1)
lines_more {line} {width} {buffer} {at} {out} {end} {i} l out' end' e d w h = record {
  pasting = subst (λ t. Pasting buffer at t out' end') (lines-text line i) (pasting_more l.pasting (line i) out' end' e d (omega arith));
  wide = omega (arith, l.wide, more);
}
  where
    more : (i + 1) * width ≡ i * width + width
    more = let z : (i + 1) * width ≡ suc i * width = ap (λ k. k * width) (add-one i) in z ∙ native.Mathlib.Nat.suc-mul i width

-- Three texts, each behind the one before.
pub three_texts : (buffer a b c : List ℕ) {out₁ out₂ out₃ : List ℕ} {e₁ e₂ e₃ : ℕ} → e₃ ≤ length buffer → e₁ ≤ e₂ → e₂ ≤ e₃
    → out₁ ≡ pasted buffer 0 a → e₁ ≡ 0 + length a → out₂ ≡ pasted out₁ e₁ b → e₂ ≡ e₁ + length b → out₃ ≡ pasted out₂ e₂ c → e₃ ≡ e₂ + length c
    → (out₃ ≡ overwritten (a ++ (b ++ c)) buffer) × (e₃ ≡ length (a ++ (b ++ c)))
three_texts buffer a b c {out₁} {out₂} {out₃} {e₁} {e₂} {e₃} h i j p₁ q₁ p₂ q₂ p₃ q₃ =
    let w₁ = pasting_more (pasting_none buffer 0 (omega arith)) a out₁ e₁ p₁ q₁ (omega arith) in
    let w₂ = pasting_more w₁ b out₂ e₂ p₂ q₂ (omega arith) in
    let w₃ = pasting_more w₂ c out₃ e₃ p₃ q₃ h in
    let t = append_assoc a b c in
    (w₃.is ∙ ap (pasted buffer 0) t ∙ pasted-start buffer (a ++ (b ++ c)), w₃.ends ∙ zero-add _ ∙ ap length t)
