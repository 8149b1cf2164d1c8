-- Answers written one by one from the flags of a labelling, and what they are.
use mathlib.Core.Path.{◌≡◌, refl, sym, ap, ◌∙◌}
use mathlib.Core.Bool.{Bool, true, false, cond, ◌&&◌}
use Rattle.std.specs.Int.{from_bool}
use mathlib.Core.List.{List, [], ◌∷◌, ◌++◌, map}
use mathlib.Core.Option.{none, some}
use Prim.Native.Nat.{ℕ, ◌+◌, ◌≤◌, ◌<◌}
use native.Mathlib.Numerals.{add-one}
use native.Mathlib.Omega.{arith}
use lib.Dec.{eqb}
use lib.ListN.{length, get_or, set, take, length-map}
use lib.Seq.{length-take-le, take_all, take-suc, ext_get_or}
use Rattle.columns.specs.inner.Write.{pasted}
use Rattle.columns.proofs.Laws.Pasted.{pasted-none, pasted-byte, pasted_length}
use Rattle.lts.specs.Lists.{every}
use Rattle.lts.specs.Reply.{overwritten}
use Rattle.lts.specs.Steps.{labels}
use Rattle.lts.specs.inner.Prepared.{table_in}
use Rattle.lts.proofs.Laws.Pasted.{pasted-start}
use Rattle.actl.specs.Formulas.{Formula}
use Rattle.actl.specs.inner.Prepared.{prepared_formula}
use Rattle.satisfaction.specs.inner.Holds.{verdict}
use Rattle.until_search.specs.inner.Flags.{flag_at}
use Rattle.labelling.specs.inner.Nodes.{NodesLabelled}
use Rattle.labelling.proofs.Laws.Prepared.{root-flag}
use Rattle.starts.specs.Starts.{starting_at, wrong_start}
use Rattle.starts.specs.VerdictsAsked.{verdicts_at, joint}
use Rattle.starts.proofs.Answers.{map_at}
use Rattle.starts.proofs.Anywhere.{verdict_anywhere}
use Rattle.starts.proofs.Wrong.{wrong-nowhere}

abbrev bits_at : List Bool → List ℕ → List ℕ
bits_at flags l = map (λ s. cond (flag_at flags s) 1 0) l

map-one-more : (f : ℕ → ℕ) (l : List ℕ) (s : ℕ) → map f (l ++ (s ∷ [])) ≡ map f l ++ (f s ∷ [])
map-one-more f [] s = refl
map-one-more f (r ∷ l) s = ap (λ k. f r ∷ k) (map-one-more f l s)

every-one-more : (p : ℕ → Bool) (l : List ℕ) (s : ℕ) → every p (l ++ (s ∷ [])) ≡ (every p l && p s)
every-one-more p [] s = by (p s)
  where
    by : (b : Bool) → (b && true) ≡ (true && b)
    by true = refl
    by false = refl
every-one-more p (r ∷ l) s = by (p r) (every p l) (every-one-more p l s)
  where
    by : (b : Bool) {x : Bool} (y : Bool) → x ≡ (y && p s) → (b && x) ≡ ((b && y) && p s)
    by true y e = e
    by false y e = refl

module _ (flags : List Bool) (starts buffer : List ℕ) where
  -- The first i answers are written.
  pub record AnsweredBelow (i : ℕ) (now : List ℕ) (all : Bool) : Type 0 where
    pub is : now ≡ pasted buffer 0 (bits_at flags (take i starts))
    pub jointly : all ≡ every (flag_at flags) (take i starts)

  pub answered-none : AnsweredBelow 0 buffer true
  answered-none = record { is = pasted-none 0 buffer; jointly = refl }

  module _ (room : length starts ≤ length buffer) where
    count : (i : ℕ) → i ≤ length starts → length (bits_at flags (take i starts)) ≡ i
    count i h = length-map (take i starts) (λ s. cond (flag_at flags s) 1 0) ∙ length-take-le i starts h

    pub answered-length : (i : ℕ) {now : List ℕ} {all : Bool} → i ≤ length starts → AnsweredBelow i now all → length now ≡ length buffer
    answered-length i h d = ap length d.is ∙ pasted_length buffer 0 (bits_at flags (take i starts)) (omega (arith, count i h))

    pub answered-on : (i s v : ℕ) {now : List ℕ} {all both : Bool} → i < length starts → s ≡ get_or starts i 0 → v ≡ cond (flag_at flags s) 1 0
        → both ≡ (all && flag_at flags s) → AnsweredBelow i now all → AnsweredBelow (i + 1) (set now i v) both
    answered-on i s v {now} {all} {both} h e d f below =
        let taken : take (i + 1) starts ≡ take i starts ++ (s ∷ []) =
        ap (λ k. take k starts) (add-one i) ∙ take-suc starts i 0 h ∙ ap (λ r. take i starts ++ (r ∷ [])) (sym e) in
        record {
          is = ap (set now i) d
              ∙ pasted-byte 0 i (cond (flag_at flags s) 1 0) (bits_at flags (take i starts)) buffer now below.is (omega (arith, count i (omega arith))) (omega arith)
              ∙ ap (pasted buffer 0) (sym (ap (bits_at flags) taken ∙ map-one-more (λ r. cond (flag_at flags r) 1 0) (take i starts) s));
          jointly = f ∙ ap (λ b. b && flag_at flags s) below.jointly ∙ sym (ap (every (flag_at flags)) taken ∙ every-one-more (flag_at flags) (take i starts) s);
        }

  pub answered-left : (i : ℕ) {now : List ℕ} {all : Bool} → length starts ≤ i → AnsweredBelow i now all → now ≡ overwritten (bits_at flags starts) buffer
  answered-left i h d = d.is ∙ ap (λ l. pasted buffer 0 (bits_at flags l)) (take_all i starts h) ∙ pasted-start buffer (bits_at flags starts)

  pub answered-jointly : (i : ℕ) {now : List ℕ} {all : Bool} → length starts ≤ i → AnsweredBelow i now all → all ≡ every (flag_at flags) starts
  answered-jointly i h d = d.jointly ∙ ap (every (flag_at flags)) (take_all i starts h)

pub bit_is : (b : Bool) → from_bool b ≡ cond b 1 0
bit_is true = refl
bit_is false = refl

-- The bits of one labelling are the verdicts of the tables with each start.
module _ (table formula starts : List ℕ) (flags : List Bool) (labelled : NodesLabelled table formula flags)
    (right : wrong_start (table_in table).states starts ≡ none) (F : Formula) (is_formula : prepared_formula (labels (table_in table)) formula ≡ some F) where
  pub bits_verdicts : bits_at flags starts ≡ verdicts_at (table_in table) F starts
  bits_verdicts =
      let f : ℕ → ℕ = λ s. cond (flag_at flags s) 1 0 in
      let g : ℕ → ℕ = λ s. verdict (starting_at (table_in table) s) F in
      ext_get_or 0 (map f starts) (map g starts) (length-map starts f ∙ sym (length-map starts g)) (λ i h.
      let b : i < length starts = omega (arith, length-map starts f) in
      let s = get_or starts i 0 in
      map_at f starts i b
      ∙ ap (λ (z : Bool). cond z 1 0) (root-flag table formula flags labelled F is_formula s ((wrong-nowhere (table_in table).states starts).0 right i b).stands)
      ∙ sym (verdict_anywhere (table_in table) s F)
      ∙ sym (map_at g starts i b))

  bits_ones : (l : List ℕ) → every (λ v. eqb v 1) (bits_at flags l) ≡ every (flag_at flags) l
  bits_ones [] = refl
  bits_ones (s ∷ l) = by (flag_at flags s) (bits_ones l)
    where
      by : (b : Bool) {x y : Bool} → x ≡ y → (eqb (cond b 1 0) 1 && x) ≡ (b && y)
      by true e = e
      by false e = refl

  pub bits_joint : cond (every (flag_at flags) starts) 1 0 ≡ joint (verdicts_at (table_in table) F starts)
  bits_joint = ap (λ (z : Bool). cond z 1 0) (sym (bits_ones starts)) ∙ ap joint bits_verdicts
