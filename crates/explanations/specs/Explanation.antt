-- What `explain` answers and leaves: both texts read, then the automaton built.
use Rattle.std.specs.Prelude.{List, ℕ, length}
use Rattle.lts.specs.Reply.{Reply, accepted, refusal, left_in, answers}
use Rattle.lts.specs.Steps.{Table}
use Rattle.lts.specs.Reading.{read_table}
use Rattle.lts.specs.Prepared.{table_bytes}
use Rattle.actl.specs.Formulas.{Formula, class_of}
use Rattle.actl.specs.inner.Reading.{read_formula}
use Rattle.actl.specs.Prepared.{formula_bytes}
use Rattle.actl.specs.FormulaReading.{long_enough}
use Rattle.satisfaction.specs.inner.Holds.{verdict}
use Rattle.automaton.specs.Listing.{Listing}
use Rattle.automaton.specs.inner.Search.{listing}
use Rattle.automaton.specs.Bytes.{rows_bytes, edges_bytes}
use Rattle.automaton.specs.Build.{Counts, fitted}

-- 01: "verdict (1 holds, 0 not), class, rows, edges"
pub record Summary : Type 0 where
  pub verdict : ℕ
  pub class : ℕ
  pub rows : ℕ
  pub edges : ℕ

abbrev pub counts_of : Summary → Counts
counts_of s = record { rows = s.rows; edges = s.edges }

-- What was read, and its listing.
pub record Explanation : Type 0 where
  pub table : Table
  pub formula : Formula
  pub list : Listing

abbrev pub and_then : {A B : Type 0} → Reply A → (A → Reply B) → Reply B
and_then (accepted a) f = f a
and_then (refusal number figure) f = refusal number figure

-- The refusals of the entries in turn: reading the table, reading the formula, building.
abbrev pub explanation : List ℕ → List ℕ → List ℕ → List ℕ → Reply Explanation
explanation table_text formula_text rows edges =
    and_then (read_table table_text) (λ t.
    and_then (read_formula t.names formula_text) (λ F.
    answers (λ L. record { table = t; formula = F; list = L }) (fitted (listing t F) rows edges)))

-- 01: "Order: 14 first". The texts, then what is lent for the prepared table, the prepared formula, the rows and the edges.
unfoldable pub explaining : List ℕ → List ℕ → List ℕ → List ℕ → List ℕ → List ℕ → Reply Explanation
explaining table_text formula_text table formula rows edges = long_enough table formula (explanation table_text formula_text rows edges)

abbrev pub summary : Explanation → Summary
summary e = record {
  verdict = verdict e.table e.formula;
  class = class_of e.formula;
  rows = length e.list.rows;
  edges = length e.list.edges;
}

-- The reply, and each lent buffer afterwards, by the reply of `explaining`. A refusal leaves all of them.
abbrev pub explain_replied : Reply Explanation → Reply Summary
explain_replied e = answers summary e

abbrev pub table_explained : Reply Explanation → List ℕ → List ℕ
table_explained e table = left_in (λ x. table_bytes x.table) e table

abbrev pub formula_explained : Reply Explanation → List ℕ → List ℕ
formula_explained e formula = left_in (λ x. formula_bytes x.formula) e formula

abbrev pub rows_explained : Reply Explanation → List ℕ → List ℕ
rows_explained e rows = left_in (λ x. rows_bytes x.list) e rows

abbrev pub edges_explained : Reply Explanation → List ℕ → List ℕ
edges_explained e edges = left_in (λ x. edges_bytes x.list) e edges
