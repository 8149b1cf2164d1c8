-- Every accepted reading leaves the one form: at most 40 nodes, each with a class, sets within the table's labels.
use mathlib.Core.Path.{◌≡◌, refl, ap, ◌∙◌, subst}
use mathlib.Core.Logic.{◌⊎◌, inl, inr}
use mathlib.Core.Bool.{Bool, true, false}
use mathlib.Core.List.Memᴰ
use mathlib.Core.List.{List, [], ◌∷◌, ◌++◌, Memᴰ}
use mathlib.Core.Option.{Option, none, some}
use Prim.Native.Nat.{ℕ, suc, ◌^◌, ◌≤◌}
use native.Mathlib.Omega.{arith}
use lib.Dec.{leb}
use lib.ListN.{length}
use lib.Pow.{pow_pos}
use borrow.Author.Tests.{leb-true, lt-ltb}
use Rattle.actl.specs.Sizes.{most_nodes, longest_text}
use Rattle.lts.specs.Directions.{label_direction}
use Rattle.lts.specs.Reply.{Reply, accepted, unless}
use Rattle.lts.proofs.Booleans.{and-true-to}
use Rattle.actl.specs.Actions.{silent, labels}
use Rattle.actl.specs.Formulas.{Formula, size, nodes, highest_without_class}
use Rattle.actl.specs.Grammar.{Set, Condition, dot, set, Quantifier, existential, universal}
use Rattle.actl.specs.Base.{BaseHead, next, until, until_then, Base, term, or, BaseTerm, tru, not, modal, paren}
use Rattle.actl.specs.WrittenOut.{written_out}
use Rattle.actl.specs.Meaning.{action_of_set, mask_in, cond_of, next_of, modal_of, formula_of, formula_of_term}
use Rattle.actl.specs.Prepared.{slot_of, formula_bytes, mask_within, slot_within, IsForm}
use Rattle.actl.specs.inner.Reader.{Result, whole, refused, read}
use Rattle.actl.specs.Reading.{unless_found, with_classes}
use Rattle.actl.specs.inner.Mentions.{names_f, first_unknown}
use Rattle.actl.specs.inner.Reading.{on_result, read_formula}
use Rattle.actl.proofs.Laws.Classed.{all-classed}
use Rattle.actl.proofs.Laws.Masks.{mask-within}
use Rattle.actl.proofs.Laws.Prepared.{has-form}

-- Sets within n labels, at every node.
abbrev EachWithin : ℕ → List Formula → Type 0
EachWithin n l = (g : Formula) → Memᴰ g l → slot_within n (slot_of g) ≡ true

abbrev pub Within : ℕ → Formula → Type 0
Within n f = EachWithin n (nodes f)

module _ (names : List (List ℕ)) where
  n : ℕ
  n = length names

  zero-within : mask_within n 0 ≡ true
  zero-within = lt-ltb 0 (2 ^ suc n) (pow_pos (suc n))

  set-within : (x : Set) → mask_within n (mask_in names x) ≡ true
  unfolding n
  set-within x = mask-within (label_direction names) n (action_of_set names x)

  within-node : (F : Formula) (l : List Formula) → mask_within n (slot_of F).first ≡ true → mask_within n (slot_of F).second ≡ true → EachWithin n l → EachWithin n (F ∷ l)
  within-node F l d e h g m = step (Memᴰ.cases_cons m)
    where
      step : (g ≡ F) ⊎ Memᴰ g l → slot_within n (slot_of g) ≡ true
      step (inl z) = ap (λ f. slot_within n (slot_of f)) z ∙ and-true-to (mask_within n (slot_of F).first) (mask_within n (slot_of F).second) d e
      step (inr z) = h g z

  within-bare : (F : Formula) (l : List Formula) → (slot_of F).first ≡ 0 → (slot_of F).second ≡ 0 → EachWithin n l → EachWithin n (F ∷ l)
  within-bare F l d e h = within-node F l (ap (mask_within n) d ∙ zero-within) (ap (mask_within n) e ∙ zero-within) h

  within_both : (f g : Formula) → Within n f → Within n g → EachWithin n (nodes f ++ nodes g)
  within_both f g h k x m = elim (Memᴰ.append_cases (nodes f) m) [ inl d ↦ h x d | inr d ↦ k x d ]

  within-next : (q : Quantifier) (c : Condition) (f : Formula) → Within n f → Within n (next_of q (cond_of names c) f)
  within-next existential dot f h = within-bare (Formula.ex silent f) (nodes f) refl refl h
  within-next existential (set x) f h = within-node (Formula.ex (labels (mask_in names x)) f) (nodes f) (set-within x) zero-within h
  within-next universal dot f h = within-bare (Formula.ax silent f) (nodes f) refl refl h
  within-next universal (set x) f h = within-node (Formula.ax (labels (mask_in names x)) f) (nodes f) (set-within x) zero-within h

  within-modal : (m : BaseHead) (f : Formula) → Within n f → Within n (modal_of names m f)
  within-modal (next q a b c d) f h = within-next q c f h
  within-modal (until a b x d) f h = within-node (Formula.eu (mask_in names x) f) (nodes f) (set-within x) zero-within h
  within-modal (until_then a b x c d y e) f h = within-node (Formula.eu_then (mask_in names x) (mask_in names y) f) (nodes f) (set-within x) (set-within y) h

  mutual
    formula-within : (f : Base) → Within n (formula_of names f)
    formula-within (term t) = term-within t
    formula-within (or f a b t) =
        within-bare (formula_of names (or f a b t)) (nodes (formula_of names f) ++ nodes (formula_of_term names t)) refl refl
        (within_both (formula_of names f) (formula_of_term names t) (formula-within f) (term-within t))

    term-within : (t : BaseTerm) → Within n (formula_of_term names t)
    term-within tru = within-bare Formula.tru [] refl refl (λ g m. absurd (Memᴰ.not-nil m))
    term-within (not a t) = within-bare (formula_of_term names (not a t)) (nodes (formula_of_term names t)) refl refl (term-within t)
    term-within (modal h a t) = within-modal h (formula_of_term names t) (term-within t)
    term-within (paren a f b) = formula-within f

  pub sets-within : (f : Base) → Within (length names) (formula_of names f)
  unfolding n
  sets-within f = formula-within f

-- What acceptance says.
unless-accepts : {A : Type 0} (t : Bool) (number figure : ℕ) (then : Reply A) {a : A} → unless t number figure then ≡ accepted a → (t ≡ true) × (then ≡ accepted a)
unless-accepts true number figure then e = (refl, e)
unless-accepts false number figure then e = let z : ◌≡◌ {A = ℕ} 0 1 = cc in absurd (omega arith)

found-accepts : {A : Type 0} (o : Option ℕ) (number : ℕ) (then : Reply A) {a : A} → unless_found o number then ≡ accepted a → (o ≡ none) × (then ≡ accepted a)
found-accepts none number then e = (refl, e)
found-accepts (some x) number then e = let z : ◌≡◌ {A = ℕ} 0 1 = cc in absurd (omega arith)

pub record Accepts (n : ℕ) (F : Formula) : Type 0 where
  pub few : size F ≤ most_nodes
  pub no_classless : highest_without_class F ≡ none
  pub within : Within n F

result_accepts : (names : List (List ℕ)) (text : List ℕ) (r : Result) {F : Formula} → on_result names text r ≡ accepted F → Accepts (length names) F
result_accepts names text (refused rest) e = let z : ◌≡◌ {A = ℕ} 0 1 = cc in absurd (omega arith)
result_accepts names text (whole f) {F} e =
    let G = formula_of names (written_out f) in
    let a = (found-accepts (first_unknown names f (names_f f [])) 7 (with_classes G) e).1 in
    let (b, c) = unless-accepts (leb (size G) 40) 8 (size G) (unless_found (highest_without_class G) 9 (accepted G)) a in
    let (d, g) = found-accepts (highest_without_class G) 9 (accepted G) c in
    let same : G ≡ F = cc in
    subst (Accepts (length names)) same (record { few = leb-true (size G) 40 b; no_classless = d; within = sets-within names (written_out f) })

pub reading-accepts : (names : List (List ℕ)) (text : List ℕ) {F : Formula} → read_formula names text ≡ accepted F → Accepts (length names) F
unfolding read_formula
reading-accepts names text e = result_accepts names text (read text) (unless-accepts (leb (length text) longest_text) 5 (length text) (on_result names text (read text)) e).1

pub accepted-form : (n : ℕ) (F : Formula) (rest : List ℕ) → Accepts n F → IsForm n (formula_bytes F ++ rest) F
accepted-form n F rest a = has-form n F rest a.few (all-classed F a.no_classless) a.within

pub reading-leaves-form : (names : List (List ℕ)) (text rest : List ℕ) {F : Formula} → read_formula names text ≡ accepted F → IsForm (length names) (formula_bytes F ++ rest) F
reading-leaves-form names text rest {F} e = accepted-form (length names) F rest (reading-accepts names text e)
