-- The bench sheet's starred lines are right: one test that is run on every line, and the law that the test is sound.
use mathlib.Core.Path.{◌≡◌, refl, sym, ap, ◌∙◌, subst}
use mathlib.Core.Logic.{◌⊎◌, inl, inr, ◌↔◌}
use mathlib.Core.Bool.{Bool, true, false, false≢true, beq, ◌&&◌, ◌||◌}
use mathlib.Core.List.{List, [], ◌∷◌, Memᴰ}
use mathlib.Core.Option.{Option, none, some}
use Prim.Native.Nat.{ℕ, zero, suc, ◌-◌}
use native.Mathlib.Omega.{arith}
use lib.Dec.{eqb}
use lib.ListN.{length}
use borrow.Author.Tests.{eqb-true}
use Rattle.columns.specs.Columns.{column, digits_within}
use Rattle.lts.specs.Lists.{every}
use Rattle.lts.specs.Names.{find_from}
use Rattle.lts.specs.Reply.{Reply, accepted, refusal}
use Rattle.lts.specs.inner.Range.{InRange}
use Rattle.lts.specs.Steps.{Table, silent}
use Rattle.lts.specs.inner.Steps.{steps_from}
use Rattle.lts.specs.Reading.{read_table, read_table_with, read_labels_with, read_transitions}
use Rattle.lts.specs.inner.Reading.{read_labels}
use Rattle.lts.proofs.Booleans.{and-true-of, or-true-of}
use Rattle.lts.proofs.Lists.{every_of}
use Rattle.lts.proofs.Laws.Texts.{text-of-read}
use Rattle.actl.specs.Actions.{in_set, mask_of, meets, passes}
use Rattle.actl.specs.Formulas.{Formula, class_of, highest_without_class}
use Rattle.actl.specs.inner.Reading.{read_formula}
use Rattle.satisfaction.specs.inner.Holds.{holds, within}
use Rattle.satisfaction.specs.Satisfaction.{Sat}
use Rattle.satisfaction.proofs.Satisfaction.{holds-is_satisfaction}
use Rattle.automaton.specs.Positions.{Position, root_at, Walk}
use Rattle.automaton.specs.Explains.{Explains}
use Rattle.automaton.specs.inner.Search.{final_of, final, leads_of, leads, targets, can_finish, number_of, same_position, moves_to_among, moves_on_among, moves_from_among, visit}
use Rattle.automaton.specs.inner.Search.{visits, expand_among, search_among, positions_among, moves_upto_among, listing}
use Rattle.automaton.specs.Listing.{Listing}
use Rattle.automaton.specs.Listed.{placed}
use Rattle.automaton.specs.inner.Words.{Accepts}
use Rattle.automaton.proofs.Explains.{explains-is_walk}
use Rattle.automaton.proofs.Reading.{listing-words}
use Rattle.explanations.specs.BenchSheet.{Language, Member, Answer, Expected, refused, explained, SheetLine, LastRow, IsAnswer, Meets, IsRight, starred}
use Rattle.explanations.proofs.Languages.{has_words, has_words_lem, same_tests}

-- The test.
abbrev row_said : Listing → Option Position → Bool
row_said L none = true
row_said L (some p) = same_position (placed L (length L.rows - 1)) p

abbrev answered : Table → Formula → Answer → Bool
answered t F a =
    eqb (class_of F) a.class && ((eqb (class_of F) 1 || eqb (class_of F) 2) && (beq a.holds (holds t F t.start)
    && (has_words (listing t F) a.language && row_said (listing t F) a.last_row)))

abbrev refused_so : Reply Formula → ℕ → ℕ → Bool
refused_so (accepted F) number figure = false
refused_so (refusal m g) number figure = eqb m number && eqb g figure

abbrev answered_so : Table → Reply Formula → Answer → Bool
answered_so t (accepted F) a = answered t F a
answered_so t (refusal m g) a = false

abbrev said_rightly : Table → List ℕ → Expected → Bool
said_rightly t text (refused number figure) = refused_so (read_formula t.names text) number figure
said_rightly t text (explained a) = answered_so t (read_formula t.names text) a

abbrev read_rightly : Reply Table → List ℕ → Expected → Bool
read_rightly (accepted t) text expected = said_rightly t text expected
read_rightly (refusal m g) text expected = false

abbrev is_right : SheetLine → Bool
is_right l = read_rightly (read_table l.table) l.formula l.expected

-- It is sound.
row-right : (L : Listing) (p : Option Position) → row_said L p ≡ true → LastRow L p
row-right L none e = tt
row-right L (some p) e =
    let (a, b) = and-true-of (eqb (placed L (length L.rows - 1)).place p.place) _ e in
    let x = eqb-true (placed L (length L.rows - 1)).place p.place a in
    let y = eqb-true (placed L (length L.rows - 1)).state p.state b in
    λ i. record { place = x i; state = y i }

class-right : (c : ℕ) → (eqb c 1 || eqb c 2) ≡ true → (c ≡ 1) ⊎ (c ≡ 2)
class-right c e = elim (or-true-of (eqb c 1) (eqb c 2) e) [ inl d ↦ inl (eqb-true c 1 d) | inr d ↦ inr (eqb-true c 2 d) ]

module _ (t : Table) (range : InRange t) where
  answers-right : (F : Formula) (a : Answer) → answered t F a ≡ true → IsAnswer t F a
  answers-right F a e =
      let (p, e₁) = and-true-of (eqb (class_of F) a.class) _ e in
      let (q, e₂) = and-true-of (eqb (class_of F) 1 || eqb (class_of F) 2) _ e₁ in
      let (r, e₃) = and-true-of (beq a.holds (holds t F t.start)) _ e₂ in
      let (u, v) = and-true-of (has_words (listing t F) a.language) _ e₃ in
      let c = class-right (class_of F) q in
      let h = holds-is_satisfaction t F t.start in
      let z = same_tests a.holds (holds t F t.start) r in
      record {
        class = eqb-true (class_of F) a.class p;
        verdict = (λ d. h.0 (sym z ∙ d), λ d. z ∙ h.1 d);
        words = λ w.
            let k = has_words_lem (listing t F) a.language u w in
            let l = listing-words t F range c w in
            let m = explains-is_walk t F w c in
            (λ d. m.1 (l.0 (k.0 d)), λ d. k.1 (l.1 (m.0 d)));
        row = row-right (listing t F) a.last_row v;
      }

  refused-right : (r : Reply Formula) (number figure : ℕ) → refused_so r number figure ≡ true → r ≡ refusal number figure
  refused-right (accepted F) number figure e = absurd (false≢true e)
  refused-right (refusal m g) number figure e =
      let (a, b) = and-true-of (eqb m number) (eqb g figure) e in
      let x = eqb-true m number a in
      let y = eqb-true g figure b in
      λ i. refusal (x i) (y i)

  answered-right : (r : Reply Formula) (a : Answer) → answered_so t r a ≡ true → (F : Formula) × (r ≡ accepted F) × IsAnswer t F a
  answered-right (accepted F) a e = (F, refl, answers-right F a e)
  answered-right (refusal m g) a e = absurd (false≢true e)

  says-right : (text : List ℕ) (s : Expected) → said_rightly t text s ≡ true → Meets t text s
  says-right text (refused number figure) e = refused-right (read_formula t.names text) number figure e
  says-right text (explained a) e = answered-right (read_formula t.names text) a e

right : (l : SheetLine) (r : Reply Table) → read_table l.table ≡ r → read_rightly r l.formula l.expected ≡ true → IsRight l
right l (accepted t) e d = (t, e, says-right t (text-of-read l.table t e).1 l.formula l.expected d)
right l (refusal m g) e d = absurd (false≢true d)

pub right-of_test : (l : SheetLine) → is_right l ≡ true → IsRight l
right-of_test l e = right l (read_table l.table) refl e

starred_tested : every is_right starred ≡ true
unfolding read_table_with read_labels_with read_transitions column digits_within read_formula find_from mask_of class_of highest_without_class holds within steps_from meets passes
    in_set silent listing positions_among search_among expand_among visits visit moves_upto_among moves_from_among moves_on_among moves_to_among
    number_of can_finish targets leads leads_of final final_of
starred_tested = refl

-- Every starred line is right, from its texts.
pub starred-right : (l : SheetLine) → Memᴰ l starred → IsRight l
starred-right l m = right-of_test l (every_of is_right starred starred_tested l m)
