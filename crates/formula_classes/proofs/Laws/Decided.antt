-- The check decides: bytes pass all its tests exactly if they are a prepared formula.
use mathlib.Core.Path.{◌≡◌, refl, sym, ap, ◌∙◌, subst}
use mathlib.Core.Bool.{Bool, true, false, false≢true, cond}
use mathlib.Core.List.{List, [], ◌∷◌, map, Memᴰ}
use mathlib.Core.Option.{Option, none, some}
use Prim.Native.Nat.{ℕ, ◌+◌, ◌*◌, ◌-◌, ◌≤◌, ◌<◌}
use native.Mathlib.Omega.{arith}
use lib.Dec.{eqb}
use lib.ListN.{length, get_or, length-take, length-map}
use lib.Seq.{get_or-take}
use borrow.Author.Tests.{eq-eqb}
use Rattle.actl.specs.Sizes.{most_nodes, node_slot_length, formula_length}
use Rattle.lts.specs.inner.Lists.{up_from}
use Rattle.lts.specs.inner.Answers.{is_some, Decides}
use Rattle.lts.proofs.Lists.{up_from-of, every_of, every-to, get_d_mem, map_of, map-to, up_from-length}
use Rattle.lts.proofs.Booleans.{and-true-of, and-true-to}
use Rattle.actl.specs.Formulas.{Formula, tru, size, nodes}
use Rattle.actl.specs.Prepared.{Slot, slot_of, slot_within, IsForm}
use Rattle.actl.specs.inner.Prepared.{slot_at, formed, prepared_formula}
use Rattle.actl.specs.inner.Shaped.{shaped}
use Rattle.actl.specs.inner.Walk.{kinds_in}
use Rattle.actl.specs.inner.Check.{is_prepared, slot_fits, slots_fit, zeros_from, SpelledClassed}
use Rattle.actl.proofs.Nodes.{length-nodes}
use Rattle.actl.proofs.Laws.Skeletons.{class_by_kinds}
use Rattle.actl.proofs.Laws.Classed.{nodes-classed, root_among_nodes}
use Rattle.actl.proofs.Laws.Parsing.{decoded}
use Rattle.actl.proofs.Laws.Forms.{length-form, form-zeros}
use Rattle.actl.proofs.Laws.Prepared.{prepared-of, prepared-few, prepared-count, prepared-slot, prepared-shaped, is-form-to}
use Rattle.actl.proofs.Laws.Recoded.{BytesAt, form-of-bytes}
use Rattle.formula_classes.proofs.Laws.Walked.{kinds_prepared}

none-prepared : (o : Option Formula) → ((F : Formula) → o ≡ some F → ⊥) → is_some o ≡ false
none-prepared none h = refl
none-prepared (some F) h = absurd (h F refl)

module _ (n : ℕ) (b : List ℕ) where
  -- A test that fails.
  pub short-bytes : length b < formula_length → false ≡ is_prepared n b
  short-bytes h = sym (none-prepared (prepared_formula n b) (λ F e.
      let f = prepared-of n b e in
      omega (arith, sym (length-take formula_length b) ∙ (ap length f.form ∙ length-form F f.few))))

  pub many-nodes : 40 < get_or b 0 0 → false ≡ is_prepared n b
  many-nodes h = sym (none-prepared (prepared_formula n b) (λ F e. omega (arith, prepared-few n b e, prepared-count n b e)))

  fits-prepared : {F : Formula} → prepared_formula n b ≡ some F → slots_fit n b (get_or b 0 0) ≡ true
  fits-prepared {F} e = every-to (λ k. slot_fits n (slot_at b k)) (up_from 0 (get_or b 0 0)) (λ k m.
      let l : k < size F = omega (arith, up_from-of 0 (get_or b 0 0) m, prepared-count n b e) in
      let f = get_or (nodes F) k tru in
      and-true-to (shaped (slot_at b k)) (slot_within n (slot_at b k)) (prepared-shaped n b e k l)
      (ap (slot_within n) (prepared-slot n b e k l) ∙ (prepared-of n b e).within f (get_d_mem (nodes F) k tru (omega (arith, length-nodes F)))))

  pub slots_foreign : slots_fit n b (get_or b 0 0) ≡ false → false ≡ is_prepared n b
  slots_foreign h = sym (none-prepared (prepared_formula n b) (λ F e. false≢true (sym h ∙ fits-prepared e)))

  zeros-prepared : {F : Formula} → prepared_formula n b ≡ some F → zeros_from b (1 + get_or b 0 0 * node_slot_length) ≡ true
  zeros-prepared {F} e = every-to (λ i. eqb (get_or b i 0) 0) (up_from from (formula_length - from)) (λ i m.
      let few = prepared-few n b e in
      let c = prepared-count n b e in
      let (low, high) = up_from-of from (formula_length - from) m in
      let inside : i < formula_length = omega arith in
      eq-eqb (get_or b i 0) 0 (sym (get_or-take formula_length b i 0 inside) ∙ (ap (λ l. get_or l i 0) (prepared-of n b e).form ∙ form-zeros F i (omega arith))))
    where
      from : ℕ
      from = 1 + get_or b 0 0 * node_slot_length

  pub not_zeros : zeros_from b (1 + get_or b 0 0 * node_slot_length) ≡ false → false ≡ is_prepared n b
  not_zeros h = sym (none-prepared (prepared_formula n b) (λ F e. false≢true (sym h ∙ zeros-prepared e)))

  spelled-prepared : {F : Formula} → prepared_formula n b ≡ some F → SpelledClassed b (get_or b 0 0)
  spelled-prepared {F} e = (F, sym (kinds_prepared n b e), (prepared-of n b e).classed F (root_among_nodes F))

  -- All tests passed.
  module _ (long : formula_length ≤ length b) (bytes : BytesAt b) (few : get_or b 0 0 ≤ most_nodes)
      (fit : slots_fit n b (get_or b 0 0) ≡ true) (zeros : zeros_from b (1 + get_or b 0 0 * node_slot_length) ≡ true) where
    slots : List Slot
    slots = map (slot_at b) (up_from 0 (get_or b 0 0))

    slot-passed : (s : Slot) → Memᴰ s slots → (shaped s ≡ true) × (slot_within n s ≡ true)
    unfolding slots
    slot-passed s m =
        let (k, i, e) = map_of (slot_at b) (up_from 0 (get_or b 0 0)) m in
        let p = and-true-of (shaped (slot_at b k)) (slot_within n (slot_at b k)) (every_of (λ k. slot_fits n (slot_at b k)) (up_from 0 (get_or b 0 0)) fit k i) in
        (ap shaped e ∙ p.0, ap (slot_within n) e ∙ p.1)

    kinds_of-slots : map (λ s. s.kind) slots ≡ kinds_in b (get_or b 0 0)
    unfolding slots
    kinds_of-slots = map-map (up_from 0 (get_or b 0 0))
      where
        map-map : (l : List ℕ) → map (λ s. s.kind) (map (slot_at b) l) ≡ map (λ k. get_or b (1 + k * node_slot_length) 0) l
        map-map [] = refl
        map-map (k ∷ l) = ap (λ z. get_or b (1 + k * node_slot_length) 0 ∷ z) (map-map l)

    all-passed : SpelledClassed b (get_or b 0 0) → is_prepared n b ≡ true
    unfolding prepared_formula slots
    all-passed (f, e, c) =
        let d = decoded slots f (kinds_of-slots ∙ sym e) (λ s m. (slot-passed s m).0) in
        let F = d.formula in
        let slots = length-map (up_from 0 (get_or b 0 0)) (slot_at b) ∙ up_from-length 0 (get_or b 0 0) in
        let size_is : get_or b 0 0 ≡ size F = sym slots ∙ (ap length d.slots-are ∙ (length-map (nodes F) slot_of ∙ length-nodes F)) in
        let form : IsForm n b F = record {
          form = form-of-bytes b long bytes F size_is (omega arith) zeros d.slots-are;
          few = omega arith;
          classed = nodes-classed F (λ z. c (sym (class_by_kinds F f d.kinds) ∙ z));
          within = λ g m. (slot-passed (slot_of g) (subst (Memᴰ (slot_of g)) (sym d.slots-are) (map-to slot_of m))).1;
        } in
        ap is_some (ap (formed n b) d.decodes ∙ ap (λ t. cond t (some F) none) (is-form-to n b F form))

    pub decided : (t : Bool) → Decides (SpelledClassed b (get_or b 0 0)) t → t ≡ is_prepared n b
    decided true h = sym (all-passed (h.yes refl))
    decided false h = sym (none-prepared (prepared_formula n b) (λ F e. h.no refl (spelled-prepared e)))
