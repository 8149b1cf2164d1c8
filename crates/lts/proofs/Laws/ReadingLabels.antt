-- Reading the lines of labels: one more, and all of them.
use mathlib.Core.Path.{◌≡◌, refl, sym, ap, ap₂, ◌∙◌}
use mathlib.Core.Bool.{true, not}
use mathlib.Core.List.{List, [], ◌∷◌, ◌++◌, append_assoc, append-nil}
use Prim.Native.Nat.{ℕ, zero, suc, ◌+◌, ◌≤◌, ◌<◌}
use native.Mathlib.Numerals.{add-one}
use native.Mathlib.Omega.{arith}
use lib.Dec.{eqb}
use lib.ListN.{length, drop, length-append}
use borrow.Author.Tests.{eqb-true, eq-eqb}
use Rattle.columns.specs.Columns.{value_at}
use Rattle.columns.proofs.Laws.Bytes.{same_of}
use Rattle.lts.specs.Reply.{accepted, unless}
use Rattle.lts.specs.Steps.{Table}
use Rattle.lts.specs.Names.{is_name}
use Rattle.lts.specs.Text.{ended, label_line}
use Rattle.lts.specs.TableText.{label_lines}
use Rattle.lts.specs.Reading.{Line, line, first_line, on_line, Header, used, read_transitions, read_labels_with}
use Rattle.lts.specs.inner.Reading.{label_laid_out, read_labels}
use Rattle.lts.proofs.Booleans.{and-true-of}
use Rattle.lts.proofs.Laws.Tests.{name_shape}
use Rattle.lts.proofs.Laws.Lines.{first-line-of, first-line-to, label-number, label-name, label-laid_out, label_unbroken}
use Rattle.lts.proofs.Laws.Reading.{Named, unless-to, unless-of, on-line-of}

pub snoc_length : {A : Type 0} (l : List A) (x : A) → length (l ++ (x ∷ [])) ≡ suc (length l)
snoc_length l x = length-append l (x ∷ []) ∙ add-one (length l)

-- One label more.
module _ (h : Header) (left : ℕ) (names : List (List ℕ)) where
  abbrev number : ℕ
  number = 2 + length names

  pub label-read : (text l rest : List ℕ) → first_line text ≡ line l rest → label_laid_out l ≡ true → eqb (value_at 0 l) (suc (length names)) ≡ true → not (used names (drop 7 l)) ≡ true
      → read_labels h (suc left) names text ≡ read_labels h left (names ++ (drop 7 l ∷ [])) rest
  unfolding read_labels_with
  label-read text l rest e p q r =
      ap (λ (f : Line). on_line number f (λ k m. unless (label_laid_out k) 1 number
      (unless (eqb (value_at 0 k) (suc (length names))) 2 number (unless (not (used names (drop 7 k))) 3 number (read_labels h left (names ++ (drop 7 k ∷ [])) m))))) e
      ∙ (unless-to (label_laid_out l) 1 number _ p ∙ (unless-to (eqb (value_at 0 l) (suc (length names))) 2 number _ q ∙ unless-to (not (used names (drop 7 l))) 3 number _ r))

  pub record LabelRead (text : List ℕ) (t : Table) : Type 0 where
    pub this : List ℕ
    pub rest : List ℕ
    pub first : first_line text ≡ line this rest
    pub laid_out : label_laid_out this ≡ true
    pub in_turn : eqb (value_at 0 this) (suc (length names)) ≡ true
    pub unused : not (used names (drop 7 this)) ≡ true
    pub goes_on : read_labels h left (names ++ (drop 7 this ∷ [])) rest ≡ accepted t

  pub label_was_read : (text : List ℕ) (t : Table) → read_labels h (suc left) names text ≡ accepted t → LabelRead text t
  unfolding read_labels_with
  label_was_read text t e =
      let (l, rest, first, d) = on-line-of number (first_line text) _ t e in
      let p = unless-of (label_laid_out l) 1 number _ t d in
      let q = unless-of (eqb (value_at 0 l) (suc (length names))) 2 number _ t p.1 in
      let r = unless-of (not (used names (drop 7 l))) 3 number _ t q.1 in
      record { this = l; rest = rest; first = first; laid_out = p.0; in_turn = q.0; unused = r.0; goes_on = r.1 }

-- All the labels.
pub labels-read : (h : Header) (names more : List (List ℕ)) (rest : List ℕ) → length names + length more ≤ 40 → Named names more
    → read_labels h (length more) names (label_lines (suc (length names)) more ++ rest) ≡ read_transitions h (names ++ more) h.transitions [] rest
unfolding read_labels_with
labels-read h names [] rest few g = ap (λ (l : List (List ℕ)). read_transitions h l h.transitions [] rest) (sym (append-nil names))
labels-read h names (n ∷ more) rest few g =
    let k : ℕ = suc (length names) in
    let small : k < 1000000 = omega arith in
    let after : List ℕ = label_lines (suc k) more ++ rest in
    let split : label_lines k (n ∷ more) ++ rest ≡ ended (label_line k n) ++ after = append_assoc (ended (label_line k n)) (label_lines (suc k) more) rest in
    let turn : eqb (value_at 0 (label_line k n)) k ≡ true = eq-eqb _ _ (label-number k n small) in
    let next : length (names ++ (n ∷ [])) ≡ k = snoc_length names n in
    label-read h (length more) names (label_lines k (n ∷ more) ++ rest) (label_line k n) after
    (ap first_line split ∙ first-line-to (label_line k n) after (label_unbroken k n (name_shape n g.0)))
    (label-laid_out k n small g.0) turn (ap (λ (x : List ℕ). not (used names x)) (label-name k n small) ∙ g.1)
    ∙ (ap (λ (x : List ℕ). read_labels h (length more) (names ++ (x ∷ [])) after) (label-name k n small)
    ∙ (ap (λ (j : ℕ). read_labels h (length more) (names ++ (n ∷ [])) (label_lines (suc j) more ++ rest)) (sym next)
    ∙ (labels-read h (names ++ (n ∷ [])) more rest (omega arith) g.2
    ∙ ap (λ (l : List (List ℕ)). read_transitions h l h.transitions [] rest) (append_assoc names (n ∷ []) more))))

pub record LabelsRead (h : Header) (left : ℕ) (names : List (List ℕ)) (text : List ℕ) (t : Table) : Type 0 where
  pub more : List (List ℕ)
  pub rest : List ℕ
  pub count : length more ≡ left
  pub text-is : text ≡ label_lines (suc (length names)) more ++ rest
  pub named : Named names more
  pub goes_on : read_transitions h (names ++ more) h.transitions [] rest ≡ accepted t

pub labels_were_read : (h : Header) (left : ℕ) (names : List (List ℕ)) (text : List ℕ) (t : Table)
    → read_labels h left names text ≡ accepted t → LabelsRead h left names text t
unfolding read_labels_with
labels_were_read h zero names text t e = record {
  more = [];
  rest = text;
  count = refl;
  text-is = refl;
  named = tt;
  goes_on = ap (λ (l : List (List ℕ)). read_transitions h l h.transitions [] text) (append-nil names) ∙ e;
}
labels_were_read h (suc left) names text t e =
    let r = label_was_read h left names text t e in
    join r (labels_were_read h left (names ++ (drop 7 r.this ∷ [])) r.rest t r.goes_on)
  where
    join : (r : LabelRead h left names text t) → LabelsRead h left (names ++ (drop 7 r.this ∷ [])) r.rest t → LabelsRead h (suc left) names text t
    join r k =
        let n : List ℕ = drop 7 r.this in
        let turn : value_at 0 r.this ≡ suc (length names) = eqb-true _ _ r.in_turn in
        let laid = and-true-of _ (is_name n) r.laid_out in
        let line-is : r.this ≡ label_line (suc (length names)) n = same_of r.this _ laid.0 ∙ ap (λ (j : ℕ). label_line j n) turn in
        record {
          more = n ∷ k.more;
          rest = k.rest;
          count = ap suc k.count;
          text-is = first-line-of text r.this r.rest r.first
              ∙ (ap₂ (λ (l m : List ℕ). ended l ++ m) line-is (k.text-is ∙ ap (λ (j : ℕ). label_lines (suc j) k.more ++ k.rest) (snoc_length names n))
              ∙ sym (append_assoc (ended (label_line (suc (length names)) n)) (label_lines (suc (suc (length names))) k.more) k.rest));
          named = (laid.1, r.unused, k.named);
          goes_on = ap (λ (l : List (List ℕ)). read_transitions h l h.transitions [] k.rest) (sym (append_assoc names (n ∷ []) k.more)) ∙ k.goes_on;
        }
