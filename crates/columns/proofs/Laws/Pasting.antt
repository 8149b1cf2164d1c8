-- Texts written one behind the other into a buffer.
use mathlib.Core.Path.{◌≡◌, refl, sym, ap, ◌∙◌}
use mathlib.Core.List.{List, [], ◌∷◌, ◌++◌, append_assoc, append-nil}
use Prim.Native.Nat.{ℕ, ◌+◌, ◌≤◌, ◌<◌}
use native.Mathlib.Nat.{add-zero}
use native.Mathlib.Numerals.{add-one}
use native.Mathlib.Omega.{arith}
use lib.ListN.{length, get_or, take, length-append}
use lib.Seq.{take-suc}
use Rattle.columns.specs.Columns.{column}
use Rattle.columns.specs.Lines.{numbers_line}
use Rattle.columns.specs.inner.Write.{pasted}
use Rattle.columns.proofs.Laws.Pasted.{pasted-none, pasted-then, pasted_length}

pub record Pasting (buffer : List ℕ) (at : ℕ) (text out : List ℕ) (end : ℕ) : Type 0 where
  pub is : out ≡ pasted buffer at text
  pub ends : end ≡ at + length text
  pub fits : end ≤ length buffer

pub pasting_none : (buffer : List ℕ) (at : ℕ) → at ≤ length buffer → Pasting buffer at [] buffer at
pasting_none buffer at h = record {
  is = pasted-none at buffer;
  ends = sym (add-zero at);
  fits = h;
}

module _ {buffer : List ℕ} {at : ℕ} {text out : List ℕ} {end : ℕ} (p : Pasting buffer at text out end) where
  pub pasting_length : length out ≡ length buffer
  pasting_length = ap length p.is ∙ pasted_length buffer at text (omega (arith, p.ends, p.fits))

  pub pasting_more : (more out' : List ℕ) (end' : ℕ) → out' ≡ pasted out end more → end' ≡ end + length more → end' ≤ length buffer → Pasting buffer at (text ++ more) out' end'
  pasting_more more out' end' e d h = record {
    is = pasted-then at end text more buffer out out' p.is p.ends (omega (arith, p.ends, p.fits)) e;
    ends = omega (arith, p.ends, length-append text more);
    fits = h;
  }

-- The columns of a list of numbers, and the line that they make.
abbrev pub columns : List ℕ → List ℕ
columns [] = []
columns (n ∷ l) = column n ++ columns l

pub columns_snoc : (l : List ℕ) (n : ℕ) → columns (l ++ (n ∷ [])) ≡ columns l ++ column n
columns_snoc [] n = append-nil (column n)
columns_snoc (m ∷ l) n = ap (λ k. column m ++ k) (columns_snoc l n) ∙ sym (append_assoc (column m) (columns l) (column n))

pub columns_line : (l : List ℕ) → columns l ++ (10 ∷ []) ≡ numbers_line l
columns_line [] = refl
columns_line (n ∷ l) = append_assoc (column n) (columns l) (10 ∷ []) ∙ ap (λ k. column n ++ k) (columns_line l)

pub columns_more : (l : List ℕ) (i : ℕ) → i < length l → columns (take i l) ++ column (get_or l i 0) ≡ columns (take (i + 1) l)
columns_more l i h = sym (columns_snoc (take i l) (get_or l i 0)) ∙ ap columns (sym (take-suc l i 0 h)) ∙ ap (λ k. columns (take k l)) (sym (add-one i))
