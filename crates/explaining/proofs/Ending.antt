-- What is answered and left once both texts are read: a refusal of building, or the explanation.
use mathlib.Core.Path.{◌≡◌, refl, sym, ap, ◌∙◌, subst}
use mathlib.Core.List.{List, ◌++◌}
use mathlib.Core.Option.{some}
use Prim.Native.Nat.{ℕ, ◌≤◌}
use native.Mathlib.Omega.{arith}
use lib.ListN.{length, take, drop}
use lib.Seq.{take-length}
use Rattle.std.proofs.Common.{Result, Ok, Err}
use Rattle.lts.specs.Reply.{Reply, accepted, refusal, overwritten, left_in, answers}
use Rattle.lts.specs.Steps.{Table, labels}
use Rattle.lts.specs.inner.Range.{InRange}
use Rattle.lts.specs.inner.Prepared.{table_in}
use Rattle.lts.specs.inner.HoldsTable.{HoldsTable}
use Rattle.lts.proofs.Laws.Prepared as tables
use Rattle.actl.specs.Formulas.{Formula}
use Rattle.actl.specs.inner.Prepared.{prepared_formula}
use Rattle.actl.specs.inner.HoldsFormula.{HoldsFormula}
use Rattle.actl.proofs.Classes.{HasClass}
use Rattle.actl.proofs.Laws.Prepared as formulas
use Rattle.formula_check.specs.Inputs.{unprepared_number}
use Rattle.formula_check.specs.declared.inputs.Unprepared.{Unprepared}
use Rattle.formula_check.specs.declared.inputs.Unprepared.TheVariants.{TableForeign, FormulaForeign, BufferShort}
use Rattle.automaton.specs.Listing.{Listing}
use Rattle.automaton.specs.inner.Search.{listing}
use Rattle.automaton.specs.Bytes.{row_length, rows_bytes, edges_bytes, row_final}
use Rattle.automaton.specs.Build.{fitted, counts}
use Rattle.automaton.proofs.Accepted.{prepared_in_range, formed-has-class, fitted-accepted}
use Rattle.building.specs.Replies.{build_reply}
use Rattle.building.specs.inner.LaidOut.{LaidOut}
use Rattle.automaton.specs.declared.Totals.{Totals}
use Rattle.building.specs.declared.BuildRefusal.{BuildRefusal}
use Rattle.building.specs.declared.BuildRefusal.TheVariants as refused
use Rattle.replies.specs.Interface.{edges_in}
use Rattle.replies.specs.inner.Says.{Says}
use Rattle.replies.specs.declared.Answer.{Answer}
use Rattle.explanations.specs.Explanation.{Explanation}
use Rattle.explanations.specs.inner.BothTexts.{Read, HoldsBoth, listing_of, ClassIn}
use Rattle.explaining.specs.Outcome.{Outcome}
use Rattle.explaining.specs.inner.Told.{verdict_told}
use Rattle.explaining.proofs.Answers.{said_of, kept_of}
use Rattle.explaining.proofs.Into.{same_outcome}
use Rattle.explaining.proofs.Told.{some_row_lem, verdict-told}

-- No refusal of building has the number 0.
unprepared-not-zero : (why : Unprepared) → unprepared_number why ≡ 0 → ⊥
unprepared-not-zero TableForeign e = omega arith
unprepared-not-zero FormulaForeign e = omega arith
unprepared-not-zero (BufferShort needed) e = omega arith

never_zero : (b : Result Totals BuildRefusal) (n g : ℕ) → build_reply b ≡ refusal n g → n ≡ 0 → ⊥
never_zero (Ok m) n g e z = let q : ◌≡◌ {A = ℕ} 0 1 = cc in omega arith
never_zero (Err (refused.RowsShort m)) n g e z = let q : 11 ≡ n = cc in omega arith
never_zero (Err (refused.EdgesShort m)) n g e z = let q : 12 ≡ n = cc in omega arith
never_zero (Err (refused.Unprepared why)) n g e z = let q : unprepared_number why ≡ n = cc in unprepared-not-zero why (q ∙ z)

module _ (t f : List ℕ) (x : Read) (held : HoldsBoth t f x) where
  abbrev L : Listing
  L = listing x.table x.formula

  same-table : table_in t ≡ x.table
  same-table = (tables.prepared-of t x.table held.is_table).2

  formula_in : prepared_formula (labels (table_in t)) f ≡ some x.formula
  formula_in = ap (λ (u : Table). prepared_formula (labels u) f) same-table ∙ held.is_formula

  -- What building asks for.
  pub both_hold : HoldsTable t × HoldsFormula (labels (table_in t)) f
  both_hold = (tables.prepared-holds t x.table held.is_table, record { formula = x.formula; prepared = formula_in })

  ranged : InRange x.table
  ranged = prepared_in_range t held.is_table

  classed : HasClass x.formula
  classed = formed-has-class (formulas.prepared-of (labels x.table) f held.is_formula)

  -- What was built, and the answer to it.
  module _ (rows edges rows' edges' : List ℕ) (b : Result Totals BuildRefusal)
      (laid : (F : Formula) → prepared_formula (labels (table_in t)) f ≡ some F → LaidOut (listing (table_in t) F) rows edges b rows' edges')
      {a : Answer} (answered : Says (λ c. c.rows) (build_reply b) a) where
    abbrev explained : Listing → Explanation
    explained L = record { table = x.table; formula = x.formula; list = L }

    outcome : LaidOut L rows edges b rows' edges'
    outcome = subst (λ (u : Table). LaidOut (listing u x.formula) rows edges b rows' edges') same-table (laid x.formula formula_in)

    counted : {r : Reply Listing} → fitted L rows edges ≡ r → build_reply b ≡ answers counts r
    counted e = outcome.reply ∙ ap (answers counts) e

    pub refused_said : (a.number ≡ 0 → ⊥) → {b : Answer} → b ≡ a → (table formula : List ℕ)
        → Outcome (listing_of x rows edges) (Err b) table table formula formula rows rows' edges edges'
    refused_said h {b} same table formula = by (fitted L rows edges) refl
      where
        by : (r : Reply Listing) → fitted L rows edges ≡ r
            → Outcome (answers explained r) (Err b) table table formula formula rows rows' edges edges'
        by (accepted K) e = absurd (h (said_of answered (counted e)).number_said)
        by (refusal n g) e =
            let said = said_of answered (counted e) in
            record {
              reply = λ i. refusal ((ap (λ (y : Answer). y.number) same ∙ said.number_said) i) ((ap (λ (y : Answer). y.figure) same ∙ said.figure_said) i);
              table_left_lem = refl;
              formula_left_lem = refl;
              rows_left = outcome.rows_left ∙ ap (λ r. left_in rows_bytes r rows) e;
              edges_left_lem = outcome.edges_left_lem ∙ ap (λ r. left_in edges_bytes r edges) e;
            }

    module _ (h : a.number ≡ 0) where
      fits : fitted L rows edges ≡ accepted L
      fits = by (fitted L rows edges) refl
        where
          by : (r : Reply Listing) → fitted L rows edges ≡ r → fitted L rows edges ≡ accepted L
          by (refusal n g) e = absurd (never_zero b n g (counted e) (sym (said_of answered (counted e)).number_said ∙ h))
          by (accepted K) e = e ∙ ap accepted (fitted-accepted L rows edges e).2

      pub row-there : row_length ≤ length rows
      row-there = omega (arith, (fitted-accepted L rows edges fits).0, some_row_lem x.table x.formula ranged classed)

      pub explained_said : (IsRow-count mark class IsEdge-count told : ℕ) → IsRow-count ≡ a.figure → mark ≡ row_final rows' 0 → ClassIn f class → IsEdge-count ≡ edges_in 0 (build_reply b)
          → told ≡ verdict_told IsEdge-count mark class
          → (table table' formula formula' : List ℕ) → table' ≡ overwritten t table → formula' ≡ overwritten f formula
          → Outcome (listing_of x rows edges) (Ok (record { verdict = told; class = class; rows = IsRow-count; edges = IsEdge-count })) table table' formula formula' rows rows' edges edges'
      explained_said IsRow-count mark class IsEdge-count told n m c k v table table' formula formula' p q =
          let rows_are = outcome.rows_left ∙ ap (λ r. left_in rows_bytes r rows) fits in
          let is-class = c (_) x.formula held.is_formula in
          let rows-said = n ∙ (said_of answered (counted fits)).figure_said in
          let edges-said = kept_of (λ c. c.edges) 0 k (counted fits) in
          let is-mark = m ∙ ap (λ l. row_final l 0) rows_are in
          let verdict-said = v ∙ (λ i. verdict_told (edges-said i) (is-mark i) (is-class i)) ∙ verdict-told x.table x.formula ranged classed rows in
          same_outcome (ap (answers explained) fits) (record {
            reply = λ i. accepted (record { verdict = verdict-said i; class = is-class i; rows = rows-said i; edges = edges-said i });
            table_left_lem = p ∙ ap (λ y. overwritten y table) held.table_bytes_lem;
            formula_left_lem = q ∙ ap (λ y. overwritten y formula) held.formula_bytes_lem;
            rows_left = rows_are;
            edges_left_lem = outcome.edges_left_lem ∙ ap (λ r. left_in edges_bytes r edges) fits;
          })

pub copied : (bytes buffer out : List ℕ) → out ≡ take (length bytes) bytes ++ drop (length bytes) buffer → out ≡ overwritten bytes buffer
copied bytes buffer out e = e ∙ ap (λ l. l ++ drop (length bytes) buffer) (take-length bytes)
