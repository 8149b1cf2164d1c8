-- Laws of reading one more line: what the line says of the reading from there.
use mathlib.Core.Path.{◌≡◌, refl, ap, ◌∙◌}
use mathlib.Core.Bool.{Bool, true, false, not}
use mathlib.Core.List.{List, [], ◌∷◌, ◌++◌}
use Prim.Native.Nat.{ℕ, suc, ◌+◌}
use native.Mathlib.Omega.{arith}
use borrow.Author.Tests.{eq-eqb, ne_eqb}
use lib.Dec.{eqb}
use lib.ListN.{length, drop}
use Rattle.columns.specs.Columns.{value_at}
use Rattle.lts.specs.Reply.{Reply, refusal, unless}
use Rattle.lts.specs.Steps.{Step, Table}
use Rattle.lts.specs.Reading.{Header, Line, missing, line, first_line, on_line, used, step_of, step_laid_out, step_in_range, above}
use Rattle.lts.specs.inner.Reading.{label_laid_out}
use Rattle.lts.specs.Reading.{read_transitions, read_labels_with}
use Rattle.lts.specs.inner.Reading.{read_labels}
use Rattle.lts.specs.inner.Lines.{LineAt, NoLineAt}
use Rattle.table_text.specs.inner.Progress.{Refuses}
use Rattle.table_text.specs.declared.TableRefusal.TheVariants.{NotLaidOut, OutOfRange, NameRepeated, NotRising}

-- A line that is not laid out, and one that is.
pub no_line : (laid : List ℕ → Bool) (n : ℕ) (x : Line) (next : List ℕ → List ℕ → Reply Table) → ((l rest : List ℕ) → x ≡ line l rest → laid l ≡ false)
    → on_line n x (λ l rest. unless (laid l) 1 n (next l rest)) ≡ refusal 1 n
no_line laid n missing next h = refl
no_line laid n (line l rest) next h = ap (λ t. unless t 1 n (next l rest)) (h l rest refl)

pub a_line : (laid : List ℕ → Bool) (n : ℕ) (x : Line) (next : List ℕ → List ℕ → Reply Table) (l rest : List ℕ) → x ≡ line l rest → laid l ≡ true
    → on_line n x (λ l rest. unless (laid l) 1 n (next l rest)) ≡ next l rest
a_line laid n x next l rest e d = ap (λ y. on_line n y (λ l rest. unless (laid l) 1 n (next l rest))) e ∙ ap (λ t. unless t 1 n (next l rest)) d

-- A test that is passed, and one that is not.
pub passed : (t : Bool) (number figure : ℕ) (next : Reply Table) → t ≡ true → unless t number figure next ≡ next
passed t number figure next e = ap (λ b. unless b number figure next) e

pub failed : (t : Bool) (number figure : ℕ) (next : Reply Table) → t ≡ false → unless t number figure next ≡ refusal number figure
failed t number figure next e = ap (λ b. unless b number figure next) e

-- Labels.
module _ (h : Header) (s : List ℕ) (at left : ℕ) (names : List (List ℕ)) where
  -- What is left to read, and which line it starts with.
  abbrev labels-left : Reply Table
  labels-left = read_labels h (suc left) names (drop at s)

  abbrev here : ℕ
  here = 2 + length names

  pub label-refused : (n : ℕ) → n ≡ length names + 2 → NoLineAt label_laid_out s at → Refuses (labels-left) (NotLaidOut n)
  unfolding read_labels_with
  label-refused n f g = record {
    number = 1;
    figure = here;
    reply = no_line label_laid_out here (first_line (drop at s)) _ g;
    says = ap (refusal 1) (omega arith);
  }

  module _ (to : ℕ) (l : List ℕ) (g : LineAt label_laid_out s at to l) where
    abbrev behind : Reply Table
    behind = read_labels h left (names ++ (drop 7 l ∷ [])) (drop to s)

    label_opened : labels-left ≡ unless (eqb (value_at 0 l) (suc (length names))) 2 here (unless (not (used names (drop 7 l))) 3 here behind)
    unfolding read_labels_with
    label_opened = a_line label_laid_out here (first_line (drop at s)) _ l (drop to s) g.is_line g.laid_out

    pub label_out_of_order : (n : ℕ) → n ≡ length names + 2 → (value_at 0 l ≡ length names + 1 → ⊥) → Refuses (labels-left) (OutOfRange n)
    label_out_of_order n f d = record {
      number = 2;
      figure = here;
      reply = label_opened ∙ rw (ne_eqb (value_at 0 l) (suc (length names)) (λ z. d (omega arith)));
      says = ap (refusal 2) (omega arith);
    }

    pub label-repeated : (n : ℕ) → n ≡ length names + 2 → value_at 0 l ≡ length names + 1 → used names (drop 7 l) ≡ true → Refuses (labels-left) (NameRepeated n)
    label-repeated n f d u = record {
      number = 3;
      figure = here;
      reply = label_opened ∙ rw (eq-eqb (value_at 0 l) (suc (length names)) (omega arith), u);
      says = ap (refusal 3) (omega arith);
    }

    pub label-accepted : value_at 0 l ≡ length names + 1 → used names (drop 7 l) ≡ false → labels-left ≡ behind
    label-accepted d u = label_opened ∙ rw (eq-eqb (value_at 0 l) (suc (length names)) (omega arith), u)

-- Transitions.
module _ (h : Header) (s : List ℕ) (at left : ℕ) (names : List (List ℕ)) (steps : List Step) where
  -- What is left to read, and which line it starts with.
  abbrev steps-left : Reply Table
  steps-left = read_transitions h names (suc left) steps (drop at s)

  abbrev line_of : ℕ
  line_of = 2 + length names + length steps

  -- What the line of a transition in range leads to.
  abbrev risen : ℕ → Step → Reply Table
  risen to st = unless (above steps st) 4 line_of (read_transitions h names left (steps ++ (st ∷ [])) (drop to s))

  pub transition_refused : (n : ℕ) → n ≡ length names + length steps + 2 → NoLineAt step_laid_out s at → Refuses (steps-left) (NotLaidOut n)
  unfolding read_transitions
  transition_refused n f g = record {
    number = 1;
    figure = line_of;
    reply = no_line step_laid_out line_of (first_line (drop at s)) _ g;
    says = ap (refusal 1) (omega arith);
  }

  module _ (to : ℕ) (l : List ℕ) (g : LineAt step_laid_out s at to l) (st : Step) (v : step_of l ≡ st) where
    transition_opened : steps-left ≡ unless (step_in_range h st) 2 line_of (risen to st)
    unfolding read_transitions
    transition_opened =
        a_line step_laid_out line_of (first_line (drop at s)) _ l (drop to s) g.is_line g.laid_out
        ∙ ap (λ x. unless (step_in_range h x) 2 line_of (risen to x)) v

    pub transition_out_of_range : (n : ℕ) → n ≡ length names + length steps + 2 → step_in_range h st ≡ false → Refuses (steps-left) (OutOfRange n)
    transition_out_of_range n f d = record {
      number = 2;
      figure = line_of;
      reply = transition_opened ∙ failed (step_in_range h st) 2 line_of (risen to st) d;
      says = ap (refusal 2) (omega arith);
    }

    in_range_opened : step_in_range h st ≡ true → steps-left ≡ risen to st
    in_range_opened d = transition_opened ∙ passed (step_in_range h st) 2 line_of (risen to st) d

    pub transition_not-rising : (n : ℕ) → n ≡ length names + length steps + 2 → step_in_range h st ≡ true → above steps st ≡ false → Refuses (steps-left) (NotRising n)
    transition_not-rising n f d u = record {
      number = 4;
      figure = line_of;
      reply = in_range_opened d ∙ failed (above steps st) 4 line_of (read_transitions h names left (steps ++ (st ∷ [])) (drop to s)) u;
      says = ap (refusal 4) (omega arith);
    }

    pub transition_accepted : step_in_range h st ≡ true → above steps st ≡ true → steps-left ≡ read_transitions h names left (steps ++ (st ∷ [])) (drop to s)
    transition_accepted d u = in_range_opened d ∙ passed (above steps st) 4 line_of (read_transitions h names left (steps ++ (st ∷ [])) (drop to s)) u
