-- What building answers and leaves: by the refusal of its inputs, or by the listing and the lent places.
use mathlib.Core.Path.{◌≡◌, sym, ap, ◌∙◌, subst, subst₃}
use mathlib.Core.List.{List}
use mathlib.Core.Option.{some}
use Prim.Native.Nat.{ℕ}
use Rattle.std.specs.Result.{IsErrAnd}
use Rattle.std.proofs.Common.{Result, Err}
use Rattle.std.proofs.lemmas.Result.{err_from_is_err_and}
use Rattle.lts.specs.Reply.{Reply, left_in, answers}
use Rattle.lts.specs.Steps.{Table, labels}
use Rattle.lts.specs.inner.Prepared.{table_in}
use Rattle.actl.specs.Formulas.{Formula}
use Rattle.actl.specs.inner.Prepared.{prepared_formula}
use Rattle.formula_check.specs.Inputs.{inputs_reply}
use Rattle.formula_check.specs.declared.inputs.Unprepared.{Unprepared}
use Rattle.formula_check.proofs.Laws.Inputs.{checked, Both, goes_on, inputs_refused}
use Rattle.automaton.specs.Listing.{Listing}
use Rattle.automaton.specs.inner.Search.{listing}
use Rattle.automaton.specs.Bytes.{rows_bytes, edges_bytes}
use Rattle.building.specs.Replies.{build_reply}
use Rattle.automaton.specs.Build.{counts, fitted, built, build_replied, rows_left, edges_left}
use Rattle.explanations.specs.Demands.{FromPrepared}
use Rattle.explanations.proofs.Demands.{building_explains}
use Rattle.building.specs.inner.LaidOut.{LaidOut}
use Rattle.automaton.specs.declared.Totals.{Totals}
use Rattle.building.specs.declared.BuildRefusal.{BuildRefusal}
use Rattle.building.specs.declared.BuildRefusal.TheVariants as refused

module _ (table formula rows edges : List ℕ) where
  -- The promises of building: the reply and the lent places by equations, and the demands, which follow.
  abbrev pub Promised : Result Totals BuildRefusal → List ℕ → List ℕ → Type 0
  Promised r x y = (build_reply r ≡ build_replied table formula rows edges)
      × ((x ≡ rows_left table formula rows edges) × ((y ≡ edges_left table formula rows edges) × FromPrepared table formula (build_reply r) x y))

  demanded : (r : Result Totals BuildRefusal) (x y : List ℕ) → build_reply r ≡ build_replied table formula rows edges
      → x ≡ rows_left table formula rows edges → y ≡ edges_left table formula rows edges → Promised r x y
  demanded r x y e d f = (e, (d, (f, subst₃ (FromPrepared table formula) (sym e) (sym d) (sym f) (building_explains table formula rows edges))))

  abbrev next : Table → Formula → Reply Listing
  next t F = fitted (listing t F) rows edges

  pub refused_inputs : {i : Result (Unit {0}) Unprepared} → inputs_reply i ≡ checked table formula → {why : Unprepared} → i ≡ Err why
      → (r : Result Totals BuildRefusal) → IsErrAnd r (λ y. y ≡ refused.Unprepared why) → Promised r rows edges
  unfolding built
  refused_inputs outcome {why} e r h =
      let d = inputs_refused table formula outcome next e in
      let (y, is, from) = err_from_is_err_and r h in
      subst (λ (x : Result Totals BuildRefusal). Promised x rows edges) (sym (is ∙ ap Err from))
      (demanded (Err (refused.Unprepared why)) rows edges (ap (answers counts) d) (ap (λ x. left_in rows_bytes x rows) d) (ap (λ x. left_in edges_bytes x edges) d))

  pub promised : (b : Both table formula) (F : Formula) → prepared_formula (labels (table_in table)) formula ≡ some F
      → {r : Result Totals BuildRefusal} {x y : List ℕ} → LaidOut (listing (table_in table) F) rows edges r x y → Promised r x y
  unfolding built
  promised b F d {r} {x} {y} l =
      let z = goes_on table formula next b F d in
      demanded r x y (l.reply ∙ sym (ap (answers counts) z)) (l.rows_left ∙ sym (ap (λ x. left_in rows_bytes x rows) z))
      (l.edges_left_lem ∙ sym (ap (λ x. left_in edges_bytes x edges) z))
