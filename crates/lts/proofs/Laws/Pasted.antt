-- Laws of parts written into bytes one behind the other.
use mathlib.Core.Path.{◌≡◌, refl, sym, ap, ap₂, ◌∙◌}
use mathlib.Core.List.{List, [], ◌∷◌, ◌++◌, append_assoc}
use Prim.Native.Nat.{ℕ, ◌+◌, ◌<◌}
use native.Mathlib.Nat.{zero-add}
use native.Mathlib.Omega.{arith}
use lib.ListN.{length, set, drop, length-append}
use lib.Seq.{take_at, drop-append-add, drop-drop}
use Rattle.lts.specs.inner.Sizes.{names_length, transitions_length}
use Rattle.lts.specs.inner.Sizes.{transitions_at}
use Rattle.lts.specs.Reply.{overwritten}
use Rattle.columns.specs.inner.Write.{pasted}
use Rattle.columns.proofs.Laws.Pasted.{pasted-then, set-pasted}

pub pasted-first : (l : List ℕ) (i n : ℕ) (vs : List ℕ) → i < length l → pasted (set l i n) (i + 1) vs ≡ pasted l i (n ∷ vs)
pasted-first l i n vs h = pasted-then i (i + 1) (n ∷ []) vs l (set l i n) _ (set-pasted l i n h) refl (omega arith) refl

-- At the start of a buffer.
pub pasted-start : (buffer text : List ℕ) → pasted buffer 0 text ≡ overwritten text buffer
pasted-start buffer text = ap (λ k. text ++ drop k buffer) (zero-add (length text))

-- Parts behind each other.
pasted-behind : (d a v : List ℕ) (n : ℕ) → length a ≡ n → pasted (overwritten a d) n v ≡ overwritten (a ++ v) d
pasted-behind d a v n e =
    let long : n + length v ≡ length (a ++ v) = ap (λ k. k + length v) (sym e) ∙ sym (length-append a v) in
    ap₂ (λ x y. x ++ (v ++ y)) (take_at a (drop (length a) d) n e)
    (ap (λ k. drop (k + length v) (overwritten a d)) (sym e) ∙ drop-append-add a (drop (length a) d) (length v) ∙ drop-drop (length v) (length a) d
    ∙ ap (λ k. drop (k + length v) d) e ∙ ap (λ k. drop k d) long)
    ∙ sym (append_assoc a v (drop (length (a ++ v)) d))

pub table-pasted : (head names slots d : List ℕ) → length head ≡ 6 → length names ≡ names_length → length slots ≡ transitions_length
    → pasted (pasted (pasted d 0 head) 6 names) transitions_at slots ≡ overwritten (head ++ (names ++ slots)) d
table-pasted head names slots d e f g =
    ap (λ x. pasted (pasted x 6 names) transitions_at slots) (pasted-start d head)
    ∙ ap (λ x. pasted x transitions_at slots) (pasted-behind d head names 6 e)
    ∙ pasted-behind d (head ++ names) slots transitions_at (length-append head names ∙ omega arith)
    ∙ ap (λ x. overwritten x d) (append_assoc head names slots)
