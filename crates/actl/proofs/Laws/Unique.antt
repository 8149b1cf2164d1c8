-- Polish notation reads in one way: where a formula's kinds end, and at which node no formula stands.
use mathlib.Core.Path.{◌≡◌, refl, sym, ap, ◌∙◌}
use mathlib.Core.Bool.{cond}
use mathlib.Core.List.{List, [], ◌∷◌, ◌++◌, map, append_assoc, append-nil}
use mathlib.Core.Option.{Option, none, some}
use Prim.Native.Nat.{ℕ, zero, suc, ◌+◌, ◌≤◌, ◌<◌}
use native.Mathlib.Omega.{arith}
use lib.Dec.{leb, eqb}
use lib.ListN.{length, get_or, drop, length-append, length-drop}
use lib.Seq.{get_or-drop}
use borrow.Author.Tests.{le-leb}
use Rattle.lts.proofs.Lists.{map_append}
use Rattle.actl.specs.Actions.{silent, labels}
use Rattle.actl.specs.Formulas.{Formula, tru, not, or, ex, ax, eu, eu_then, size, nodes}
use Rattle.actl.specs.inner.Walk.{kind_of, kinds_of, kind_at, Spelled}
use Rattle.actl.proofs.Nodes.{size_pos}
use Rattle.actl.proofs.Laws.Walks.{kind-here, drop_part, length_kinds}

-- The list behind n formulas, by the number of arms of each kind.
abbrev arms : ℕ → ℕ
arms kind = cond (eqb kind 1) 0 (cond (eqb kind 3) 2 1)

abbrev behind : List ℕ → ℕ → Option (List ℕ)
behind [] zero = some []
behind [] (suc n) = none
behind (kind ∷ l) zero = some (kind ∷ l)
behind (kind ∷ l) (suc n) = behind l (arms kind + n)

behind-none : (l : List ℕ) → behind l 0 ≡ some l
behind-none [] = refl
behind-none (kind ∷ l) = refl

one_more : (n : ℕ) → 1 + n ≡ suc n
one_more n = omega arith

two-more : (n : ℕ) → 2 + n ≡ suc (suc n)
two-more n = omega arith

no_more : (n : ℕ) → 0 + n ≡ n
no_more n = omega arith

pub behind-formula : (f : Formula) (n : ℕ) (rest : List ℕ) → behind (kinds_of f ++ rest) (suc n) ≡ behind rest n
behind-formula tru n rest = ap (behind rest) (no_more n)
behind-formula (not f) n rest = ap (behind (kinds_of f ++ rest)) (one_more n) ∙ behind-formula f n rest
behind-formula (or f g) n rest =
    (λ i. behind (map_append kind_of (nodes f) (nodes g) i ++ rest) (two-more n i))
    ∙ (ap (λ l. behind l (suc (suc n))) (append_assoc (kinds_of f) (kinds_of g) rest) ∙ (behind-formula f (suc n) (kinds_of g ++ rest) ∙ behind-formula g n rest))
behind-formula (ex silent f) n rest = ap (behind (kinds_of f ++ rest)) (one_more n) ∙ behind-formula f n rest
behind-formula (ex (labels m) f) n rest = ap (behind (kinds_of f ++ rest)) (one_more n) ∙ behind-formula f n rest
behind-formula (ax silent f) n rest = ap (behind (kinds_of f ++ rest)) (one_more n) ∙ behind-formula f n rest
behind-formula (ax (labels m) f) n rest = ap (behind (kinds_of f ++ rest)) (one_more n) ∙ behind-formula f n rest
behind-formula (eu a f) n rest = ap (behind (kinds_of f ++ rest)) (one_more n) ∙ behind-formula f n rest
behind-formula (eu_then a b f) n rest = ap (behind (kinds_of f ++ rest)) (one_more n) ∙ behind-formula f n rest

pub same-behind : (f g : Formula) {r s : List ℕ} → kinds_of f ++ r ≡ kinds_of g ++ s → r ≡ s
same-behind f g {r} {s} e =
    let p : some r ≡ some s =
    sym (behind-formula f 0 r ∙ behind-none r) ∙ (ap (λ l. behind l 1) e ∙ (behind-formula g 0 s ∙ behind-none s)) in
    cc

-- The kind of a formula's root, and its arms.
pub root-kind : (f : Formula) → (more : List ℕ) × (kinds_of f ≡ kind_of f ∷ more)
root-kind tru = ([], refl)
root-kind (not f) = (kinds_of f, refl)
root-kind (or f g) = (map kind_of (nodes f ++ nodes g), refl)
root-kind (ex c f) = (kinds_of f, refl)
root-kind (ax c f) = (kinds_of f, refl)
root-kind (eu a f) = (kinds_of f, refl)
root-kind (eu_then a b f) = (kinds_of f, refl)

kind_range : (f : Formula) → (1 ≤ kind_of f) × (kind_of f ≤ 9)
kind_range tru = (omega arith, omega arith)
kind_range (not f) = (omega arith, omega arith)
kind_range (or f g) = (omega arith, omega arith)
kind_range (ex silent f) = (omega arith, omega arith)
kind_range (ex (labels m) f) = (omega arith, omega arith)
kind_range (ax silent f) = (omega arith, omega arith)
kind_range (ax (labels m) f) = (omega arith, omega arith)
kind_range (eu a f) = (omega arith, omega arith)
kind_range (eu_then a b f) = (omega arith, omega arith)

-- The left or only arm.
first_arm : (f : Formula) → (kind_of f ≡ 1 → ⊥) → (g : Formula) × (more : List ℕ) × (kinds_of f ≡ kind_of f ∷ (kinds_of g ++ more))
first_arm tru n = absurd (n refl)
first_arm (not f) n = (f, [], ap (λ l. 2 ∷ l) (sym (append-nil (kinds_of f))))
first_arm (or f g) n = (f, kinds_of g, ap (λ l. 3 ∷ l) (map_append kind_of (nodes f) (nodes g)))
first_arm (ex c f) n = (f, [], ap (λ l. kind_of (ex c f) ∷ l) (sym (append-nil (kinds_of f))))
first_arm (ax c f) n = (f, [], ap (λ l. kind_of (ax c f) ∷ l) (sym (append-nil (kinds_of f))))
first_arm (eu a f) n = (f, [], ap (λ l. 8 ∷ l) (sym (append-nil (kinds_of f))))
first_arm (eu_then a b f) n = (f, [], ap (λ l. 9 ∷ l) (sym (append-nil (kinds_of f))))

both_arms : (f : Formula) → kind_of f ≡ 3 → (g h : Formula) × (kinds_of f ≡ 3 ∷ (kinds_of g ++ kinds_of h))
both_arms tru e = absurd (omega arith)
both_arms (not f) e = absurd (omega arith)
both_arms (or f g) e = (f, g, ap (λ l. 3 ∷ l) (map_append kind_of (nodes f) (nodes g)))
both_arms (ex silent f) e = absurd (omega arith)
both_arms (ex (labels m) f) e = absurd (omega arith)
both_arms (ax silent f) e = absurd (omega arith)
both_arms (ax (labels m) f) e = absurd (omega arith)
both_arms (eu a f) e = absurd (omega arith)
both_arms (eu_then a b f) e = absurd (omega arith)

-- Where a formula stands, its root's kind does; and where none does.
module _ (K : List ℕ) (k : ℕ) where
  pub spelled-inside : (f : Formula) → Spelled K k f → k < length K
  spelled-inside f (rest, e) = omega (arith, simp (length-drop, length-append) at (ap length e), length_kinds f, size_pos f)

  pub spelled-fits : (f : Formula) → Spelled K k f → k + size f ≤ length K
  spelled-fits f (rest, e) = omega (arith, simp (length-drop, length-append) at (ap length e), length_kinds f, size_pos f)

  pub spelled-kind : (f : Formula) → Spelled K k f → get_or K k 0 ≡ kind_of f
  spelled-kind f (rest, e) =
      let (more, d) = root-kind f in
      let z : k + 0 ≡ k = omega arith in
      sym (get_or-drop k K 0 0 ∙ ap (λ i. get_or K i 0) z) ∙ (ap (λ l. get_or l 0 0) e ∙ ap (λ l. get_or (l ++ rest) 0 0) d)

  pub no_kind : kind_at K k ≡ 0 → (f : Formula) → Spelled K k f → ⊥
  no_kind e f s =
      let d = spelled-kind f s in
      let (low, high) = kind_range f in
      let here : kind_at K k ≡ kind_of f = ap (λ x. cond (leb x 9) x 0) d ∙ ap (λ t. cond t (kind_of f) 0) (le-leb (kind_of f) 9 high) in
      omega arith

  pub no_arm : (get_or K k 0 ≡ 1 → ⊥) → ((g : Formula) → Spelled K (k + 1) g → ⊥) → (f : Formula) → Spelled K k f → ⊥
  no_arm n h f s =
      let (g, more, d) = first_arm f (λ z. n (spelled-kind f s ∙ z)) in
      let (rest, e) = s in
      let all : get_or K k 0 ∷ drop (k + 1) K ≡ kind_of f ∷ ((kinds_of g ++ more) ++ rest) = sym (kind-here K k (spelled-inside f s)) ∙ (e ∙ ap (λ l. l ++ rest) d) in
      let tail : drop (k + 1) K ≡ (kinds_of g ++ more) ++ rest = cc in
      h g (more ++ rest, tail ∙ append_assoc (kinds_of g) more rest)

  pub no-right : get_or K k 0 ≡ 3 → (l : Formula) → Spelled K (k + 1) l → ((g : Formula) → Spelled K (k + 1 + size l) g → ⊥) → (f : Formula) → Spelled K k f → ⊥
  no-right n l (r, q) h f s =
      let (g, o, d) = both_arms f (sym (spelled-kind f s) ∙ n) in
      let (rest, e) = s in
      let all : get_or K k 0 ∷ drop (k + 1) K ≡ 3 ∷ ((kinds_of g ++ kinds_of o) ++ rest) = sym (kind-here K k (spelled-inside f s)) ∙ (e ∙ ap (λ l. l ++ rest) d) in
      let tail : drop (k + 1) K ≡ (kinds_of g ++ kinds_of o) ++ rest = cc in
      let right : r ≡ kinds_of o ++ rest = same-behind l g (sym q ∙ (tail ∙ append_assoc (kinds_of g) (kinds_of o) rest)) in
      let there : drop (k + 1 + size l) K ≡ r = ap (λ x. drop (k + 1 + x) K) (sym (length_kinds l)) ∙ drop_part (k + 1) K (kinds_of l) q in
      h o (rest, there ∙ right)
