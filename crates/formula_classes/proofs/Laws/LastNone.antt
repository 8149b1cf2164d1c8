-- The last class that is none, by its number: it is none, and no class behind it is.
use mathlib.Core.Path.{◌≡◌, refl, sym, ap, ◌∙◌}
use mathlib.Core.Bool.{cond}
use mathlib.Core.List.{List, [], ◌∷◌}
use mathlib.Core.Option as maybe
use mathlib.Core.Option.{none, some}
use Prim.Native.Nat.{ℕ, zero, suc, ◌+◌, ◌<◌}
use native.Mathlib.Omega.{arith}
use lib.ListN.{length, get_or}
use borrow.Author.Tests.{eq-eqb, ne_eqb}
use Rattle.std.proofs.Common.{◌≢◌, Option, None, Some, EachIndex, MatchOption}
use Rattle.actl.specs.inner.Walk.{last_none}
use Rattle.formula_classes.specs.inner.WalkReplies.{classless_node}

no_more : (k : ℕ) (l : List ℕ) (found : maybe.Option ℕ) → ((i : ℕ) → i < length l → get_or l i 0 ≢ 0) → last_none k l found ≡ found
no_more k [] found h = refl
no_more k (x ∷ l) found h =
    ap (λ t. last_none (suc k) l (cond t (some k) found)) (ne_eqb x 0 (h 0 (omega arith))) ∙ no_more (suc k) l found (λ i m. h (suc i) (omega arith))

last_at : (k : ℕ) (l : List ℕ) (found : maybe.Option ℕ) (i : ℕ) → i < length l → get_or l i 0 ≡ 0
    → ((j : ℕ) → i < j → j < length l → get_or l j 0 ≢ 0) → last_none k l found ≡ some (k + i)
last_at k [] found i b z h = absurd (omega arith)
last_at k (x ∷ l) found zero b z h =
    let here : k ≡ k + 0 = omega arith in
    ap (λ t. last_none (suc k) l (cond t (some k) found)) (eq-eqb x 0 z)
    ∙ (no_more (suc k) l (some k) (λ j m. h (suc j) (omega arith) (omega arith)) ∙ ap some here)
last_at k (x ∷ l) found (suc i) b z h =
    let on : suc k + i ≡ k + suc i = omega arith in
    last_at (suc k) l _ i (omega arith) z (λ j m n. h (suc j) (omega arith) (omega arith)) ∙ ap some on

pub last-none : (l : List ℕ) (r : Option ℕ)
    → MatchOption r (EachIndex l (λ k. get_or l k 0 ≢ 0)) (λ i. (i < length l) × (get_or l i 0 ≡ 0) × ((k : ℕ) → i < k → k < length l → get_or l k 0 ≢ 0))
    → classless_node r ≡ last_none 0 l none
last-none l None h = sym (no_more 0 l none h)
last-none l (Some i) (b, z, h) = let on : 0 + i ≡ i = omega arith in sym (last_at 0 l none i b z h ∙ ap some on)
