-- Slots whose kinds are a formula's decode to a formula of these kinds; slots that fit are those of its nodes.
use mathlib.Core.Path.{◌≡◌, refl, sym, ap, ◌∙◌, subst}
use mathlib.Core.Bool.{Bool, true, false, cond}
use mathlib.Core.List.{List, [], ◌∷◌, ◌++◌, map, append_assoc, append-nil, Memᴰ}
use mathlib.Core.Option.{some}
use Prim.Native.Nat.{ℕ}
use native.Mathlib.Omega.{arith}
use Rattle.lts.proofs.Lists.{map_append}
use Rattle.actl.specs.Actions.{Mask, silent, labels}
use Rattle.actl.specs.Formulas.{Formula, tru, not, or, ex, ax, eu, eu_then, nodes}
use Rattle.actl.specs.Prepared.{Slot, slot, slot_of}
use Rattle.actl.specs.inner.Prepared.{push, push_on, trees_in}
use Rattle.actl.specs.inner.Shaped.{shaped, first_used, second_used}
use Rattle.actl.specs.inner.Walk.{kind_of, kinds_of}
use Rattle.actl.proofs.Laws.Slots.{shape_of}
use Rattle.actl.proofs.Laws.Polish.{clean, trees_of}

abbrev kinds_in : List Slot → List ℕ
kinds_in l = map (λ s. s.kind) l

-- A list whose image is one and more, or two parts, is so too.
image_cons : (l : List Slot) (x : ℕ) (xs : List ℕ) → kinds_in l ≡ x ∷ xs → (s : Slot) × (m : List Slot) × (l ≡ s ∷ m) × (s.kind ≡ x) × (kinds_in m ≡ xs)
image_cons [] x xs e = let z : ◌≡◌ {A = ℕ} 0 1 = cc in absurd (omega arith)
image_cons (s ∷ m) x xs e = (s, m, refl, (cc), (cc))

image_append : (l : List Slot) (xs ys : List ℕ) → kinds_in l ≡ xs ++ ys → (a : List Slot) × (b : List Slot) × (l ≡ a ++ b) × (kinds_in a ≡ xs) × (kinds_in b ≡ ys)
image_append l [] ys e = ([], l, refl, refl, e)
image_append l (x ∷ xs) ys e =
    let (s, m, d, k, r) = image_cons l x (xs ++ ys) e in
    let (a, b, f, g, h) = image_append m xs ys r in
    (s ∷ a, b, d ∙ ap (λ z. s ∷ z) f, (λ i. k i ∷ g i), h)

-- The decoded formula.
record Parsed (f : Formula) (slots : List Slot) (l : List Formula) : Type 0 where
  formula : Formula
  decodes : trees_in slots ≡ some (formula ∷ l)
  kinds : kinds_of formula ≡ kinds_of f

abbrev Parses : Formula → Type 0
Parses f = (slots rest : List Slot) (l : List Formula) → kinds_in slots ≡ kinds_of f → trees_in rest ≡ some l → Parsed f (slots ++ rest) l

push-kind : (s : Slot) (kind : ℕ) → s.kind ≡ kind → (l : List Formula) → push s l ≡ push (slot kind s.first s.second) l
push-kind s kind k l = ap (λ x. push (slot x s.first s.second) l) k

parses_T : Parses tru
unfolding push
parses_T slots rest l d t =
    let (s, m, c, k, r) = image_cons slots 1 [] d in
    let none_left : m ≡ [] = empty_image m r in
    subst (λ z. Parsed tru (z ++ rest) l) (sym (c ∙ ap (λ z. s ∷ z) none_left))
    (record { formula = tru; decodes = ap (push_on s) t ∙ push-kind s 1 k l; kinds = refl })
  where
    empty_image : (m : List Slot) → kinds_in m ≡ [] → m ≡ []
    empty_image [] e = refl
    empty_image (x ∷ m) e = let z : ◌≡◌ {A = ℕ} 0 1 = cc in absurd (omega arith)

parses_arm : (node : Mask → Mask → Formula → Formula) (kind : ℕ) (f g : Formula)
    → ((a b : Mask) (F : Formula) (l : List Formula) → push (slot kind a b) (F ∷ l) ≡ some (node a b F ∷ l))
    → ((a b : Mask) (F : Formula) → kinds_of (node a b F) ≡ kind ∷ kinds_of F) → kinds_of g ≡ kind ∷ kinds_of f
    → Parses f → Parses g
parses_arm node kind f g h n e below slots rest l d t =
    let (s, m, c, k, r) = image_cons slots kind (kinds_of f) (d ∙ e) in
    let arm = below m rest l r t in
    let F = arm.formula in
    subst (λ z. Parsed g (z ++ rest) l) (sym c) (record {
      formula = node s.first s.second F;
      decodes = ap (push_on s) arm.decodes ∙ (push-kind s kind k (F ∷ l) ∙ h s.first s.second F l);
      kinds = n s.first s.second F ∙ (ap (λ z. kind ∷ z) arm.kinds ∙ sym e);
    })

or_decodes : (s : Slot) → s.kind ≡ 3 → (a b : List Slot) (F G : Formula) (l : List Formula) → trees_in (a ++ b) ≡ some (F ∷ G ∷ l)
    → (m : List Slot) → m ≡ a ++ b → trees_in (s ∷ m) ≡ some (or F G ∷ l)
unfolding push
or_decodes s k a b F G l t m e = ap (λ z. push_on s (trees_in z)) e ∙ (ap (push_on s) t ∙ push-kind s 3 k (F ∷ G ∷ l))

or_kinds : (f g F G : Formula) → kinds_of F ≡ kinds_of f → kinds_of G ≡ kinds_of g → kinds_of (or F G) ≡ kinds_of (or f g)
or_kinds f g F G d e = ap (λ z. 3 ∷ z) (map_append kind_of (nodes F) (nodes G) ∙ ((λ i. d i ++ e i) ∙ sym (map_append kind_of (nodes f) (nodes g))))

parses_or : (f g : Formula) → Parses f → Parses g → Parses (or f g)
parses_or f g left right slots rest l d t =
    let (s, m, c, k, r) = image_cons slots 3 (map kind_of (nodes f ++ nodes g)) d in
    let (a, b, q, x, y) = image_append m (kinds_of f) (kinds_of g) (r ∙ map_append kind_of (nodes f) (nodes g)) in
    let second = right b rest l y t in
    let first = left a (b ++ rest) (second.formula ∷ l) x second.decodes in
    subst (λ z. Parsed (or f g) (z ++ rest) l) (sym (c ∙ ap (λ z. s ∷ z) q)) (record {
      formula = or first.formula second.formula;
      decodes = or_decodes s k a (b ++ rest) first.formula second.formula l first.decodes ((a ++ b) ++ rest) (append_assoc a b rest);
      kinds = or_kinds f g first.formula second.formula first.kinds second.kinds;
    })

parses : (f : Formula) → Parses f
unfolding push
parses tru = parses_T
parses (not f) = parses_arm (λ a b F. not F) 2 f (not f) (λ a b F l. refl) (λ a b F. refl) refl (parses f)
parses (or f g) = parses_or f g (parses f) (parses g)
parses (ex silent f) = parses_arm (λ a b F. ex silent F) 4 f (ex silent f) (λ a b F l. refl) (λ a b F. refl) refl (parses f)
parses (ex (labels m) f) = parses_arm (λ a b F. ex (labels a) F) 5 f (ex (labels m) f) (λ a b F l. refl) (λ a b F. refl) refl (parses f)
parses (ax silent f) = parses_arm (λ a b F. ax silent F) 6 f (ax silent f) (λ a b F l. refl) (λ a b F. refl) refl (parses f)
parses (ax (labels m) f) = parses_arm (λ a b F. ax (labels a) F) 7 f (ax (labels m) f) (λ a b F l. refl) (λ a b F. refl) refl (parses f)
parses (eu m f) = parses_arm (λ a b F. eu a F) 8 f (eu m f) (λ a b F l. refl) (λ a b F. refl) refl (parses f)
parses (eu_then m o f) = parses_arm (λ a b F. eu_then a b F) 9 f (eu_then m o f) (λ a b F l. refl) (λ a b F. refl) refl (parses f)

-- A slot that some node has is clean.
kept : (used : Bool) (m : Mask) → (used ≡ false → m ≡ 0) → cond used m 0 ≡ m
kept true m h = refl
kept false m h = sym (h refl)

clean_shaped : (s : Slot) → shaped s ≡ true → clean s ≡ s
clean_shaped s e =
    let h = shape_of s e in
    let a = kept (first_used s.kind) s.first h.no-first in
    let b = kept (second_used s.kind) s.second h.no_second in
    λ i. slot s.kind (a i) (b i)

all_clean : (l : List Slot) → ((s : Slot) → Memᴰ s l → shaped s ≡ true) → map clean l ≡ l
all_clean [] h = refl
all_clean (s ∷ l) h = λ i. clean_shaped s (h s (Memᴰ.head refl)) i ∷ all_clean l (λ x m. h x (Memᴰ.tail m)) i

-- Slots that fit, and whose kinds are a formula's.
pub record Decoded (slots : List Slot) (f : Formula) : Type 0 where
  pub formula : Formula
  pub decodes : trees_in slots ≡ some (formula ∷ [])
  pub kinds : kinds_of formula ≡ kinds_of f
  pub slots-are : slots ≡ map slot_of (nodes formula)

pub decoded : (slots : List Slot) (f : Formula) → map (λ s. s.kind) slots ≡ kinds_of f → ((s : Slot) → Memᴰ s slots → shaped s ≡ true) → Decoded slots f
decoded slots f e h =
    let d = parses f slots [] [] e refl in
    let t : trees_in slots ≡ some (d.formula ∷ []) = ap trees_in (sym (append-nil slots)) ∙ d.decodes in
    record {
      formula = d.formula;
      decodes = t;
      kinds = d.kinds;
      slots-are = sym (all_clean slots h) ∙ (trees_of slots t ∙ ap (map slot_of) (append-nil (nodes d.formula)));
    }
