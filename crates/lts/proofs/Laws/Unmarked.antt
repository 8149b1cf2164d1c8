-- Texts without marks: a table's is read as if names had none.
use mathlib.Core.Path.{◌≡◌, refl, sym, ap, ap₂, ◌∙◌, subst}
use mathlib.Core.Logic.{◌⊎◌, inl, inr}
use mathlib.Core.Bool.{Bool, true, false, cond, true≢false, not, ◌&&◌}
use mathlib.Core.List.{List, [], ◌∷◌, ◌++◌}
use Prim.Native.Nat.{ℕ, zero, suc, ◌+◌}
use native.Mathlib.Omega.{arith}
use lib.Dec.{eqb}
use lib.ListN.{length, take, drop}
use Rattle.columns.specs.Bytes.{same_bytes}
use Rattle.columns.specs.Columns.{value_at}
use Rattle.lts.specs.Lists.{every}
use Rattle.lts.specs.Reply.{Reply, unless}
use Rattle.lts.specs.Steps.{Table}
use Rattle.lts.specs.Marks.{unmarked, marked, is_mark}
use Rattle.lts.specs.Names.{is_name_with, is_name}
use Rattle.lts.specs.Directions.{Plain}
use Rattle.lts.specs.Text.{label_line}
use Rattle.lts.specs.Reading.{Line, missing, line, longer, first_line, on_line, Header, header_of, header_laid_out, header_in_range, label_laid_out_with, used}
use Rattle.lts.specs.Reading.{read_labels_with, read_table_with}
use Rattle.lts.proofs.Booleans.{and-true-of, and-true-to, not-false}
use Rattle.lts.proofs.Laws.NameRuns.{IsStem, MarkedBy, name_parts, stem-named}

-- Parts of a text without marks have none.
plain_cons : (b : ℕ) (s : List ℕ) → not (is_mark b) ≡ true → Plain s → Plain (b ∷ s)
plain_cons b s h k = and-true-to (not (is_mark b)) (every (λ b. not (is_mark b)) s) h k

plain_parts : (b : ℕ) (s : List ℕ) → Plain (b ∷ s) → (not (is_mark b) ≡ true) × Plain s
plain_parts b s h = and-true-of (not (is_mark b)) (every (λ b. not (is_mark b)) s) h

pub plain_behind : (p s : List ℕ) → Plain (p ++ s) → Plain p × Plain s
plain_behind [] s h = (refl, h)
plain_behind (b ∷ p) s h =
    let d = plain_parts b (p ++ s) h in
    let i = plain_behind p s d.1 in
    (plain_cons b p d.0 i.0, i.1)

pub plain_append : (p s : List ℕ) → Plain p → Plain s → Plain (p ++ s)
plain_append [] s h k = k
plain_append (b ∷ p) s h k = let d = plain_parts b p h in plain_cons b (p ++ s) d.0 (plain_append p s d.1 k)

pub plain_take : (n : ℕ) (s : List ℕ) → Plain s → Plain (take n s)
plain_take zero s h = refl
plain_take (suc n) [] h = refl
plain_take (suc n) (b ∷ s) h = let d = plain_parts b s h in plain_cons b (take n s) d.0 (plain_take n s d.1)

plain_drop : (n : ℕ) (s : List ℕ) → Plain s → Plain (drop n s)
plain_drop zero s h = h
plain_drop (suc n) [] h = refl
plain_drop (suc n) (b ∷ s) h = plain_drop n s (plain_parts b s h).1

-- A name without marks is one of 01's.
pub plain_stem : (l : List ℕ) → is_name l ≡ true → Plain l → IsStem l
plain_stem l e h = case (name_parts l e)
  where
    case : IsStem l ⊎ MarkedBy IsStem l → IsStem l
    case (inl d) = d
    case (inr d) =
        let last = (plain_behind d.stem (d.mark ∷ []) (subst Plain d.parts h)).1 in
        absurd (true≢false (sym d.is-mark ∙ not-false (is_mark d.mark) (plain_parts d.mark [] last).0))

pub plain_name : (l : List ℕ) → Plain l → is_name_with unmarked l ≡ is_name_with marked l
plain_name l h = case (is_name_with unmarked l) refl (is_name_with marked l) refl
  where
    case : (s : Bool) → is_name_with unmarked l ≡ s → (t : Bool) → is_name_with marked l ≡ t → s ≡ t
    case true d true e = refl
    case false d false e = refl
    case true d false e = sym (stem-named l d) ∙ e
    case false d true e = sym d ∙ plain_stem l e h

-- Lines.
line_plain : (text : List ℕ) → Plain text → (l rest : List ℕ) → first_line text ≡ line l rest → Plain l × Plain rest
line_plain [] h l rest e = absurd (let z : ◌≡◌ {A = ℕ} 0 1 = cc in omega arith)
line_plain (b ∷ s) h l rest e = case (eqb b 10) e (line_plain s (plain_parts b s h).1)
  where
    further : (f : Line) → longer b f ≡ line l rest → ((k r : List ℕ) → f ≡ line k r → Plain k × Plain r) → Plain l × Plain rest
    further missing d again = absurd (let z : ◌≡◌ {A = ℕ} 0 1 = cc in omega arith)
    further (line k r) d again =
        let i = again k r refl in
        let first : b ∷ k ≡ l = cc in
        let last : r ≡ rest = cc in
        (subst Plain first (plain_cons b k (plain_parts b s h).0 i.0), subst Plain last i.1)

    case : (t : Bool) → cond t (line [] s) (longer b (first_line s)) ≡ line l rest → ((k r : List ℕ) → first_line s ≡ line k r → Plain k × Plain r) → Plain l × Plain rest
    case true d again =
        let first : [] ≡ l = cc in
        let last : s ≡ rest = cc in
        (subst Plain first refl, subst Plain last (plain_parts b s h).1)
    case false d again = further (first_line s) d again

on-line-same : (n : ℕ) (text : List ℕ) (f g : List ℕ → List ℕ → Reply Table) → Plain text → ((l rest : List ℕ) → Plain l → Plain rest → f l rest ≡ g l rest)
    → on_line n (first_line text) f ≡ on_line n (first_line text) g
on-line-same n text f g h same = case (first_line text) refl
  where
    case : (x : Line) → first_line text ≡ x → on_line n x f ≡ on_line n x g
    case missing e = refl
    case (line l rest) e = let p = line_plain text h l rest e in same l rest p.0 p.1

laid_out_same : (l : List ℕ) → Plain l → label_laid_out_with unmarked l ≡ label_laid_out_with marked l
laid_out_same l h = ap (λ t. same_bytes l (label_line (value_at 0 l) (drop 7 l)) && t) (plain_name (drop 7 l) (plain_drop 7 l h))

labels-same : (h : Header) (left : ℕ) (names : List (List ℕ)) (text : List ℕ) → Plain text → read_labels_with unmarked h left names text ≡ read_labels_with marked h left names text
unfolding read_labels_with
labels-same h zero names text p = refl
labels-same h (suc left) names text p =
    on-line-same (2 + length names) text
    (λ l rest. unless (label_laid_out_with unmarked l) 1 (2 + length names)
    (unless (eqb (value_at 0 l) (suc (length names))) 2 (2 + length names)
    (unless (not (used names (drop 7 l))) 3 (2 + length names) (read_labels_with unmarked h left (names ++ (drop 7 l ∷ [])) rest))))
    (λ l rest. unless (label_laid_out_with marked l) 1 (2 + length names)
    (unless (eqb (value_at 0 l) (suc (length names))) 2 (2 + length names)
    (unless (not (used names (drop 7 l))) 3 (2 + length names) (read_labels_with marked h left (names ++ (drop 7 l ∷ [])) rest))))
    p (λ l rest q r. ap₂ (λ t x. unless t 1 (2 + length names) (unless (eqb (value_at 0 l) (suc (length names))) 2 (2 + length names) (unless (not (used names (drop 7 l))) 3 (2 + length names) x)))
    (laid_out_same l q) (labels-same h left (names ++ (drop 7 l ∷ [])) rest r))

-- 02: "Tables without marks read as before."
pub table_without_marks : (text : List ℕ) → Plain text → read_table_with unmarked text ≡ read_table_with marked text
unfolding read_table_with
table_without_marks text p =
    on-line-same 1 text
    (λ l rest. unless (header_laid_out (header_of l) l) 1 1 (unless (header_in_range (header_of l)) 2 1 (read_labels_with unmarked (header_of l) (header_of l).labels [] rest)))
    (λ l rest. unless (header_laid_out (header_of l) l) 1 1 (unless (header_in_range (header_of l)) 2 1 (read_labels_with marked (header_of l) (header_of l).labels [] rest)))
    p (λ l rest q r. ap (λ x. unless (header_laid_out (header_of l) l) 1 1 (unless (header_in_range (header_of l)) 2 1 x)) (labels-same (header_of l) (header_of l).labels [] rest r))
