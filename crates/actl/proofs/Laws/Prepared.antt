-- What a prepared formula's bytes hold: the node count, and in slot k the node k.
use mathlib.Core.Path.{◌≡◌, refl, sym, ap, ◌∙◌, subst}
use mathlib.Core.Logic.{◌↔◌}
use mathlib.Core.Bool.{Bool, true, false, true≢false, cond, not}
use mathlib.Core.List.{List, [], ◌∷◌, ◌++◌, map, append-nil, Memᴰ}
use mathlib.Core.Option.{Option, none, some}
use Prim.Native.Nat.{ℕ, suc, ◌^◌, ◌≤◌, ◌<◌}
use native.Mathlib.Nat.{lt_of_lt_of_le}
use native.Mathlib.Omega.{arith}
use lib.Dec.{leb, eqb}
use lib.Pow.{pow_mono}
use lib.ListN.{length, get_or, take, length-map, get_or-map}
use lib.Seq.{get_or-take, ext_get_or, take_at}
use borrow.Author.Tests.{leb-true, le-leb, eqb-false, ne_eqb, not-true}
use Rattle.actl.specs.Sizes.{most_nodes, formula_length}
use Rattle.lts.specs.Sizes.{most_labels}
use Rattle.lts.specs.inner.Answers.{is_some, Decides}
use Rattle.columns.specs.Bytes.{same_bytes}
use Rattle.lts.specs.inner.Lists.{up_from}
use Rattle.lts.specs.Lists.{every}
use Rattle.lts.proofs.Laws.Prepared.{is-some-of}
use Rattle.lts.proofs.Booleans.{and-true-of, and-true-to}
use Rattle.lts.proofs.Lists.{every_of, every-to, get_d_mem, up_from-length}
use Rattle.actl.specs.Actions.{Mask}
use Rattle.actl.specs.Formulas.{Formula, tru, size, nodes, class_of}
use Rattle.actl.specs.Prepared.{Slot, slot, slot_of, formula_bytes, mask_within, slot_within, IsForm, FormOfSome}
use Rattle.actl.specs.inner.Prepared.{slot_at, is_form, trees_in, formed, prepared_formula}
use Rattle.actl.specs.inner.Shaped.{shaped, first_used, second_used}
use Rattle.actl.proofs.Nodes.{length-nodes}
use Rattle.actl.proofs.Laws.Masks.{within_low}
use Rattle.actl.proofs.Laws.Slots.{slot_by_parts, node-shaped}
use Rattle.actl.proofs.Laws.Polish.{clean, trees_of, tree-of-slots}
use Rattle.actl.proofs.Laws.Forms.{StandsFor, slot-of-form, slot-of-front, length-form}
use Rattle.lts.proofs.Laws.Contents.{map-up_from-at}
use Rattle.columns.proofs.Laws.Bytes.{same_of, same_refl}

formed-of : (n : ℕ) (b : List ℕ) (t : Option (List Formula)) {F : Formula} → formed n b t ≡ some F → (t ≡ some (F ∷ [])) × (is_form n b F ≡ true)
formed-of n b none e = let z : ◌≡◌ {A = ℕ} 0 1 = cc in absurd (omega arith)
formed-of n b (some []) e = let z : ◌≡◌ {A = ℕ} 0 1 = cc in absurd (omega arith)
formed-of n b (some (G ∷ [])) {F} e = case (is_form n b G) refl e
  where
    case : (t : Bool) → is_form n b G ≡ t → cond t (some G) none ≡ some F → (◌≡◌ {A = Option (List Formula)} (some (G ∷ [])) (some (F ∷ []))) × (is_form n b F ≡ true)
    case true d e = let g : G ≡ F = cc in (ap (λ x. some (x ∷ [])) g, ap (is_form n b) (sym g) ∙ d)
    case false d e = let z : ◌≡◌ {A = ℕ} 0 1 = cc in absurd (omega arith)
formed-of n b (some (G ∷ H ∷ l)) e = let z : ◌≡◌ {A = ℕ} 0 1 = cc in absurd (omega arith)

is-form-of : (n : ℕ) (b : List ℕ) (F : Formula) → is_form n b F ≡ true → IsForm n b F
is-form-of n b F e =
    let (r, w) = and-true-of _ (every (λ f. slot_within n (slot_of f)) (nodes F)) e in
    let (s, c) = and-true-of _ (every _ (nodes F)) r in
    let (f, m) = and-true-of (same_bytes (take formula_length b) (formula_bytes F)) (leb (size F) most_nodes) s in
    record {
      form = same_of (take formula_length b) (formula_bytes F) f;
      few = leb-true (size F) 40 m;
      classed = λ g h z. eqb-false (class_of g) 0 (not-true _ (every_of _ (nodes F) c g h)) z;
      within = every_of _ (nodes F) w;
    }

-- A mask that the kind has is the one in the bytes, and one that it does not have is zero, which eight bytes carry.
mask-exact : (used : Bool) (found m : ℕ) → cond used found 0 ≡ m → (m < 256 ^ 8 → found ≡ m) → found ≡ m
mask-exact true found m e h = e
mask-exact false found m e h = h (omega arith)

module _ (n : ℕ) (b : List ℕ) {F : Formula} (e : prepared_formula n b ≡ some F) where
  slots : List Slot
  slots = map (slot_at b) (up_from 0 (get_or b 0 0))

  pub prepared-of : IsForm n b F
  unfolding prepared_formula slots
  prepared-of = is-form-of n b F (formed-of n b (trees_in slots) e).1

  prepared-slots : map clean (map (slot_at b) (up_from 0 (get_or b 0 0))) ≡ map slot_of (nodes F)
  unfolding prepared_formula slots
  prepared-slots = trees_of slots (formed-of n b (trees_in slots) e).0 ∙ ap (map slot_of) (append-nil (nodes F))

  pub prepared-few : size F ≤ most_nodes
  prepared-few = prepared-of.few

  pub prepared-count : get_or b 0 0 ≡ size F
  prepared-count =
      sym (length-map (map (slot_at b) (up_from 0 (get_or b 0 0))) clean ∙ (length-map (up_from 0 (get_or b 0 0)) (slot_at b) ∙ up_from-length 0 (get_or b 0 0)))
      ∙ (ap length prepared-slots ∙ (length-map (nodes F) slot_of ∙ length-nodes F))

  pub prepared-slot : (k : ℕ) → k < size F → slot_at b k ≡ slot_of (get_or (nodes F) k tru)
  prepared-slot k h =
      let f = get_or (nodes F) k tru in
      let m = prepared-few in
      let at : get_or (map (slot_at b) (up_from 0 (get_or b 0 0))) k (slot 1 0 0) ≡ slot_at b k = map-up_from-at (slot_at b) (get_or b 0 0) k (slot 1 0 0) (omega (arith, prepared-count)) in
      let c : clean (slot_at b k) ≡ slot_of f =
      sym (get_or-map clean (map (slot_at b) (up_from 0 (get_or b 0 0))) k (slot 1 0 0) ∙ ap clean at)
      ∙ (ap (λ l. get_or l k (slot 1 0 0)) prepared-slots ∙ get_or-map slot_of (nodes F) k tru) in
      let s : StandsFor (slot_of f) (slot_at b k) =
      subst (StandsFor (slot_of f)) (sym (ap (λ l. slot_at l k) prepared-of.form) ∙ slot-of-front b k (omega arith)) (slot-of-form F k h) in
      sym (slot_by_parts (slot_at b k) (ap (λ x. x.kind) c) (mask-exact (first_used (slot_at b k).kind) (slot_at b k).first (slot_of f).first (ap (λ x. x.first) c)
      s.same_first) (mask-exact (second_used (slot_at b k).kind) (slot_at b k).second (slot_of f).second (ap (λ x. x.second) c) s.same_second))

  pub prepared-shaped : (k : ℕ) → k < size F → shaped (slot_at b k) ≡ true
  prepared-shaped k h = ap shaped (prepared-slot k h) ∙ node-shaped (get_or (nodes F) k tru)

-- And back: the one form is a prepared formula. Masks of at most 63 labels fit eight bytes.
pub is-form-to : (n : ℕ) (b : List ℕ) (F : Formula) → IsForm n b F → is_form n b F ≡ true
is-form-to n b F h =
    and-true-to _ (every (λ f. slot_within n (slot_of f)) (nodes F))
    (and-true-to _ (every (λ f. not (eqb (class_of f) 0)) (nodes F))
    (and-true-to (same_bytes (take formula_length b) (formula_bytes F)) (leb (size F) most_nodes)
    (rw h.form (same_refl (formula_bytes F)))
    (le-leb (size F) most_nodes h.few))
    (every-to (λ f. not (eqb (class_of f) 0)) (nodes F) (λ f m. ap not (ne_eqb (class_of f) 0 (h.classed f m)))))
    (every-to (λ f. slot_within n (slot_of f)) (nodes F) h.within)

module _ (n : ℕ) (b : List ℕ) (F : Formula) (h : IsForm n b F) where
  form-count : get_or b 0 0 ≡ size F
  unfolding formula_bytes
  form-count = sym (get_or-take formula_length b 0 0 (omega arith)) ∙ ap (λ l. get_or l 0 0) h.form

  form-slot : n ≤ 63 → (k : ℕ) → k < size F → slot_at b k ≡ slot_of (get_or (nodes F) k tru)
  form-slot few k l =
      let m = h.few in
      let f = get_or (nodes F) k tru in
      let w = and-true-of (mask_within n (slot_of f).first) (mask_within n (slot_of f).second) (h.within f (get_d_mem (nodes F) k tru (omega (arith, length-nodes F)))) in
      let s : StandsFor (slot_of f) (slot_at b k) =
      subst (StandsFor (slot_of f)) (sym (ap (λ x. slot_at x k) h.form) ∙ slot-of-front b k (omega arith)) (slot-of-form F k l) in
      let carried : (x : Mask) → mask_within n x ≡ true → x < 256 ^ 8 = λ x e. lt_of_lt_of_le (within_low n x e).1 (pow_mono {i = suc n} {j = 64} (omega arith)) in
      sym (slot_by_parts (slot_at b k) s.same_kind (s.same_first (carried (slot_of f).first w.0)) (s.same_second (carried (slot_of f).second w.1)))

  pub form-slots : n ≤ 63 → map (slot_at b) (up_from 0 (get_or b 0 0)) ≡ map slot_of (nodes F)
  form-slots few =
      let c : length (map (slot_at b) (up_from 0 (get_or b 0 0))) ≡ size F = length-map (up_from 0 (get_or b 0 0)) (slot_at b) ∙ (up_from-length 0 (get_or b 0 0) ∙ form-count) in
      ext_get_or (slot 1 0 0) (map (slot_at b) (up_from 0 (get_or b 0 0))) (map slot_of (nodes F)) (c ∙ sym (length-map (nodes F) slot_of ∙ length-nodes F))
      (λ k l. map-up_from-at (slot_at b) (get_or b 0 0) k (slot 1 0 0) (omega (arith, form-count)) ∙ (form-slot few k (omega arith) ∙ sym (get_or-map slot_of (nodes F) k tru)))

  pub prepared-to : n ≤ 63 → prepared_formula n b ≡ some F
  unfolding prepared_formula
  prepared-to few = ap (λ l. formed n b (trees_in l)) (form-slots few) ∙ (ap (formed n b) (tree-of-slots F) ∙ ap (λ t. cond t (some F) none) (is-form-to n b F h))

-- Over the labels that a table may have, prepared bytes are the forms: each of one formula, and each formula within the limits has one.
pub prepared-is-form : (n : ℕ) → n ≤ most_labels → (b : List ℕ) (F : Formula) → (prepared_formula n b ≡ some F) ↔ IsForm n b F
prepared-is-form n few b F = (λ e. prepared-of n b e, λ h. prepared-to n b F h (omega arith))

pub prepared-form : (n : ℕ) → n ≤ most_labels → (b : List ℕ) → ((F : Formula) × (prepared_formula n b ≡ some F)) ↔ FormOfSome n b
prepared-form n few b = (λ p. (p.0, (prepared-is-form n few b p.0).0 p.1), λ p. (p.0, (prepared-is-form n few b p.0).1 p.1))

pub one_form : (n : ℕ) → n ≤ most_labels → (b : List ℕ) (F G : Formula) → IsForm n b F → IsForm n b G → F ≡ G
one_form n few b F G h k =
    let e : some F ≡ some G = sym ((prepared-is-form n few b F).1 h) ∙ (prepared-is-form n few b G).1 k in
    cc

pub has-form : (n : ℕ) (F : Formula) (rest : List ℕ) → size F ≤ most_nodes → ((f : Formula) → Memᴰ f (nodes F) → class_of f ≡ 0 → ⊥)
    → ((f : Formula) → Memᴰ f (nodes F) → slot_within n (slot_of f) ≡ true) → IsForm n (formula_bytes F ++ rest) F
has-form n F rest few classed within =
    record { form = take_at (formula_bytes F) rest formula_length (length-form F few); few = few; classed = classed; within = within }

pub form_tested : (n : ℕ) → n ≤ most_labels → (b : List ℕ) → Decides (FormOfSome n b) (is_some (prepared_formula n b))
form_tested n few b = record {
  yes = λ e. (prepared-form n few b).0 (is-some-of (prepared_formula n b) e);
  no = λ e h. let (F, d) = (prepared-form n few b).1 h in true≢false (sym (ap is_some d) ∙ e);
}
