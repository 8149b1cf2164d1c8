-- Each name stands in the text at its offset.
use mathlib.Core.Path.{◌≡◌, sym, ap, ◌∙◌, subst}
use mathlib.Core.Logic.{⊎_elim}
use mathlib.Core.List.Memᴰ
use mathlib.Core.List.{List, [], ◌∷◌, ◌++◌, append_assoc, append-nil, Memᴰ}
use Prim.Native.Nat.{ℕ}
use native.Mathlib.Omega.{arith}
use lib.ListN.{length, drop, length-append}
use lib.Seq.{drop-append_seam}
use Rattle.actl.specs.Grammar.{Disjunction, Piece, byte, named, text_of, pieces_f}
use Rattle.actl.specs.inner.Show.{show_f}
use Rattle.actl.specs.inner.Mentions.{Mention, names_f, offset}
use Rattle.actl.proofs.Pieces.{mentions_of, show_pieces, names_pieces}

abbrev Stands : Mention → List ℕ → Type 0
Stands m t = (p : List ℕ) × (t ≡ p ++ (m.name.bytes ++ m.behind))

further : (m : Mention) (q : List ℕ) {t : List ℕ} → Stands m t → Stands m (q ++ t)
further m q (p, e) = (q ++ p, ap (λ t. q ++ t) e ∙ sym (append_assoc q p (m.name.bytes ++ m.behind)))

mention_stands : (l : List Piece) (m : Mention) → Memᴰ m (mentions_of l) → Stands m (text_of l)
mention_stands [] m h = absurd (Memᴰ.not-nil h)
mention_stands (byte b ∷ l) m h = further m (b ∷ []) (mention_stands l m h)
mention_stands (named n ∷ l) m h =
    ⊎_elim (λ e. ([], ap (λ (k : Mention). k.name.bytes ++ k.behind) (sym e))) (λ k. further m n.bytes (mention_stands l m k)) (Memᴰ.cases_cons h)

pub name-stands : (f : Disjunction) (m : Mention) → Memᴰ m (names_f f []) → drop (offset f m) (show_f f []) ≡ m.name.bytes ++ m.behind
name-stands f m h =
    let (p, d) = mention_stands (pieces_f f []) m (subst (Memᴰ m) (sym (append-nil (names_f f [])) ∙ names_pieces f []) h) in
    let e : show_f f [] ≡ p ++ (m.name.bytes ++ m.behind) = show_pieces f [] ∙ d in
    let at : offset f m ≡ length p = omega (arith, ap length e, length-append p (m.name.bytes ++ m.behind)) in
    ap (λ n. drop n (show_f f [])) at ∙ (ap (drop (length p)) e ∙ drop-append_seam p (m.name.bytes ++ m.behind))
