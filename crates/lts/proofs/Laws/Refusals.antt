-- Which numbers a reply may refuse with; reading a table: 1 to 4.
use mathlib.Core.Path.{◌≡◌, refl, sym, subst}
use mathlib.Core.Logic.{◌↔◌}
use mathlib.Core.Bool.{Bool, true, false, not, true≢false}
use mathlib.Core.List.{List, [], ◌∷◌, ◌++◌}
use mathlib.Core.Option.{Option, none, some}
use Prim.Native.Nat.{ℕ, zero, suc, ◌≤◌}
use native.Mathlib.Omega.{arith}
use lib.Dec.{eqb}
use lib.ListN.{length, drop}
use Rattle.columns.specs.Columns.{value_at}
use Rattle.lts.specs.Reply.{Reply, accepted, refusal, unless, answers}
use Rattle.lts.specs.Steps.{Step, Table}
use Rattle.lts.specs.Prepared.{with_table}
use Rattle.lts.specs.Reading.{Line, missing, line, first_line, on_line, Header, header_of, header_laid_out, header_in_range, used, step_of, step_laid_out, step_in_range, above}
use Rattle.lts.specs.Reading.{read_transitions, read_labels_with, read_table, read_table_with}
use Rattle.lts.specs.inner.Reading.{label_laid_out, read_labels}

abbrev pub Numbered : {A : Type 0} → (ℕ → Type 0) → Reply A → Type 0
Numbered P (accepted a) = Unit {0}
Numbered P (refusal number figure) = P number

abbrev pub Between : ℕ → ℕ → ℕ → Type 0
Between least most number = (least ≤ number) × (number ≤ most)

module _ {A : Type 0} (P : ℕ → Type 0) where
  pub numbered_of : (r : Reply A) (n g : ℕ) → Numbered P r → r ≡ refusal n g → P n
  numbered_of r n g h e = subst (Numbered P) e h

  pub with_table-numbers : P 10 → (o : Option Table) (next : Table → Reply A) → ((t : Table) → Numbered P (next t)) → Numbered P (with_table o next)
  with_table-numbers ten none next h = ten
  with_table-numbers ten (some t) next h = h t

  pub numbered-unless : (b : Bool) (n f : ℕ) (r : Reply A) → P n → Numbered P r → Numbered P (unless b n f r)
  numbered-unless true n f r h o = o
  numbered-unless false n f r h o = h

  pub numbered-answers : {B : Type 0} (f : A → B) (r : Reply A) → Numbered P r → Numbered P (answers f r)
  numbered-answers f (accepted a) o = tt
  numbered-answers f (refusal n g) o = o

  pub numbered_so : (Q : ℕ → Type 0) → ((n : ℕ) → P n → Q n) → (r : Reply A) → Numbered P r → Numbered Q r
  numbered_so Q h (accepted a) o = tt
  numbered_so Q h (refusal n g) o = h n o

-- What a refusal comes from.
pub same-refusal : {A : Type 0} {m f n g : ℕ} → ◌≡◌ {A = Reply A} (refusal m f) (refusal n g) → (m ≡ n) × (f ≡ g)
same-refusal e = (cc, cc)

pub unless-refused : {A : Type 0} (n g : ℕ) (b : Bool) (m f : ℕ) (next : Reply A) → (n ≡ m → ⊥) → unless b m f next ≡ refusal n g → (b ≡ true) × (next ≡ refusal n g)
unless-refused n g true m f next h e = (refl, e)
unless-refused n g false m f next h e = absurd (h (sym (same-refusal e).0))

pub answers-refused : {A B : Type 0} (f : A → B) (r : Reply A) (n g : ℕ) → (answers f r ≡ refusal n g) ↔ (r ≡ refusal n g)
answers-refused f (accepted a) n g = (λ e. let z : ◌≡◌ {A = ℕ} 0 1 = cc in absurd (omega arith), λ e. let z : ◌≡◌ {A = ℕ} 0 1 = cc in absurd (omega arith))
answers-refused {A = A} {B = B} f (refusal m h) n g = (again {C = B} {D = A}, again {C = A} {D = B})
  where
    again : {C D : Type 0} → ◌≡◌ {A = Reply C} (refusal m h) (refusal n g) → ◌≡◌ {A = Reply D} (refusal m h) (refusal n g)
    again e = let (a, b) = same-refusal e in λ i. refusal (a i) (b i)

abbrev TableNumber : ℕ → Type 0
TableNumber = Between 1 4

line-numbers : (n : ℕ) (f : Line) (g : List ℕ → List ℕ → Reply Table) → ((l rest : List ℕ) → Numbered TableNumber (g l rest)) → Numbered TableNumber (on_line n f g)
line-numbers n missing g h = (omega arith, omega arith)
line-numbers n (line l rest) g h = h l rest

transitions-numbers : (h : Header) (names : List (List ℕ)) (left : ℕ) (steps : List Step) (text : List ℕ) → Numbered TableNumber (read_transitions h names left steps text)
unfolding read_transitions
transitions-numbers h names zero steps [] = tt
transitions-numbers h names zero steps (b ∷ text) = (omega arith, omega arith)
transitions-numbers h names (suc left) steps text = line-numbers _ (first_line text) _ (λ l rest.
    numbered-unless TableNumber (step_laid_out l) 1 _ _ (omega arith, omega arith)
    (numbered-unless TableNumber (step_in_range h (step_of l)) 2 _ _ (omega arith, omega arith)
    (numbered-unless TableNumber (above steps (step_of l)) 4 _ _ (omega arith, omega arith) (transitions-numbers h names left (steps ++ (step_of l ∷ [])) rest))))

labels-numbers : (h : Header) (left : ℕ) (names : List (List ℕ)) (text : List ℕ) → Numbered TableNumber (read_labels h left names text)
unfolding read_labels_with
labels-numbers h zero names text = transitions-numbers h names h.transitions [] text
labels-numbers h (suc left) names text = line-numbers _ (first_line text) _ (λ l rest.
    numbered-unless TableNumber (label_laid_out l) 1 _ _ (omega arith, omega arith)
    (numbered-unless TableNumber (eqb (value_at 0 l) (suc (length names))) 2 _ _ (omega arith, omega arith)
    (numbered-unless TableNumber (not (used names (drop 7 l))) 3 _ _ (omega arith, omega arith) (labels-numbers h left (names ++ (drop 7 l ∷ [])) rest))))

pub table-numbers : (text : List ℕ) → Numbered (Between 1 4) (read_table text)
unfolding read_table_with
table-numbers text = line-numbers 1 (first_line text) _ (λ l rest.
    numbered-unless TableNumber (header_laid_out (header_of l) l) 1 1 _ (omega arith, omega arith)
    (numbered-unless TableNumber (header_in_range (header_of l)) 2 1 _ (omega arith, omega arith) (labels-numbers (header_of l) (header_of l).labels [] rest)))

pub unless-false : {A : Type 0} (b : Bool) (n f : ℕ) (next : Reply A) → b ≡ false → unless b n f next ≡ refusal n f
unless-false true n f next e = absurd (true≢false e)
unless-false false n f next e = refl
