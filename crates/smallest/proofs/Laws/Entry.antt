-- The promises of `smallest`: by a buffer that is short, by the refusal of the inputs, or by what is laid out; the work buffer all zero.
use mathlib.Core.Path.{◌≡◌, refl, sym, ap, ◌∙◌, subst}
use mathlib.Core.Bool.{cond}
use mathlib.Core.List.{List, ◌++◌}
use mathlib.Core.Option.{some}
use Prim.Native.Nat.{ℕ, ◌≤◌, ◌<◌}
use native.Mathlib.Omega.{arith}
use lib.ListN.{length, drop, replicate, length-replicate}
use borrow.Author.Tests.{le-leb, lt-leb, ne_eqb}
use Rattle.std.specs.Result.{IsErrAnd}
use Rattle.std.proofs.Common.{Result, Err}
use Rattle.std.proofs.lemmas.Result.{err_from_is_err_and}
use Rattle.lts.specs.Sizes.{table_length}
use Rattle.lts.specs.Reply.{Reply, accepted, refusal, left_in, answers}
use Rattle.lts.specs.Steps.{labels}
use Rattle.lts.specs.inner.Prepared.{prepared_table, table_in}
use Rattle.lts.proofs.Laws.Refusals.{Numbered, with_table-numbers}
use Rattle.actl.specs.Sizes.{formula_length}
use Rattle.actl.specs.Formulas.{Formula}
use Rattle.actl.specs.FormulaReading.{on_prepared}
use Rattle.actl.specs.inner.Prepared.{prepared_formula}
use Rattle.actl.proofs.Laws.Foreign.{with_formula-numbers}
use Rattle.formula_check.specs.Inputs.{unprepared, inputs_reply}
use Rattle.formula_check.specs.declared.inputs.Unprepared.{Unprepared}
use Rattle.formula_check.specs.declared.inputs.Unprepared.TheVariants.{BufferShort}
use Rattle.formula_check.proofs.Laws.Inputs.{checked, Both, both_long, goes_on, inputs_refused}
use Rattle.explanations.specs.Demands.{FromPrepared}
use Rattle.deterministic.specs.Sizes.{smallest_length, work_length}
use Rattle.deterministic.specs.SmallestAsked.{Beside, beside_in, smallest_asked, counts_beside, rows_beside, edges_beside, smallest_bytes, cleared, work_left, SmallestAnswered}
use Rattle.deterministic.specs.SmallestAsked.{smallest_replied, smallest_rows, smallest_edges, smallest_left, smallest_work}
use Rattle.deterministic.proofs.Answered.{with_room, smallest-explains, smallest-answered}
use Rattle.deterministic.proofs.Refusals.{in_numbers}
use Rattle.smallest.specs.Replies.{smallest_reply}
use Rattle.automaton.specs.declared.Totals.{Totals}
use Rattle.smallest.specs.declared.SmallestRefusal.{SmallestRefusal}
use Rattle.smallest.specs.declared.SmallestRefusal.TheVariants as refused
use Rattle.smallest.specs.inner.Answered.{WorkKept, LaidBeside, Answered}
use Rattle.smallest.proofs.Laws.Laid.{laid}

pub work-same : (work : List ℕ) → WorkKept work work
work-same work = record { long = refl; past = refl }

module _ (table formula rows edges out work : List ℕ) where
  abbrev asked : Reply Beside
  asked = smallest_asked table formula rows edges out work

  abbrev said : Reply Beside
  said = on_prepared table formula (beside_in rows edges)

  -- Behind the lengths.
  pub answered-refused : {i : Result (Unit {0}) Unprepared} {why : Unprepared} → inputs_reply i ≡ checked table formula → i ≡ Err why
      → (r : Result Totals SmallestRefusal) → IsErrAnd r (λ y. y ≡ refused.Unprepared why) → Answered table formula rows edges out work r rows edges out work
  answered-refused {i} {why} outcome e r h =
      let d = inputs_refused table formula outcome (beside_in rows edges) e in
      let (y, is, from) = err_from_is_err_and r h in
      record { laid = laid said (unprepared why) rows edges out (sym d) r rows edges out (ap smallest_reply (is ∙ ap Err from)) refl refl refl; kept = work-same work }

  pub answered-laid : (b : Both table formula) {r : Result Totals SmallestRefusal} {x y z w : List ℕ}
      → ((F : Formula) → prepared_formula (labels (table_in table)) formula ≡ some F → LaidBeside (beside_in rows edges (table_in table) F) rows edges out r x y z)
      → WorkKept work w → Answered table formula rows edges out work r x y z w
  answered-laid b {r} {x} {y} {z} h k = record {
    laid = subst (λ (f : Reply Beside). LaidBeside f rows edges out r x y z) (sym (goes_on table formula (beside_in rows edges) b b.formula_in b.prepared)) (h b.formula_in b.prepared);
    kept = k;
  }

  -- The promises: the reply and the lent buffers by equations, and what they say, which follows.
  abbrev pub Promised : Result Totals SmallestRefusal → List ℕ → List ℕ → List ℕ → List ℕ → Type 0
  Promised r x y z w = (smallest_reply r ≡ smallest_replied table formula rows edges out work)
      × ((x ≡ smallest_rows table formula rows edges out work) × ((y ≡ smallest_edges table formula rows edges out work)
      × ((z ≡ smallest_left table formula rows edges out work) × ((w ≡ smallest_work table formula rows edges out work)
      × (FromPrepared table formula (smallest_reply r) x y × SmallestAnswered table formula (smallest_reply r) x y z)))))

  promised : (r : Result Totals SmallestRefusal) (x y z w : List ℕ) → smallest_reply r ≡ answers counts_beside asked → x ≡ left_in rows_beside asked rows → y ≡ left_in edges_beside asked edges
      → z ≡ left_in smallest_bytes asked out → w ≡ work_left asked work → Promised r x y z w
  promised r x y z w a b c d e =
      let shown = subst (λ q. FromPrepared table formula q x y) (sym a) (subst (λ p. FromPrepared table formula (answers counts_beside asked) p y) (sym b)
      (subst (FromPrepared table formula (answers counts_beside asked) (left_in rows_beside asked rows)) (sym c) (smallest-explains table formula rows edges out work))) in
      let told = subst (λ q. SmallestAnswered table formula q x y z) (sym a) (subst (λ p. SmallestAnswered table formula (answers counts_beside asked) p y z) (sym b)
      (subst (λ p. SmallestAnswered table formula (answers counts_beside asked) (left_in rows_beside asked rows) p z) (sym c)
      (subst (SmallestAnswered table formula (answers counts_beside asked) (left_in rows_beside asked rows) (left_in edges_beside asked edges)) (sym d)
      (smallest-answered table formula rows edges out work)))) in
      (a, (b, (c, (d, (e, (shown, told))))))

  -- A buffer that is short.
  pub short : (n : ℕ) → asked ≡ refusal 14 n → Promised (Err (refused.Unprepared (BufferShort n))) rows edges out work
  short n e = promised (Err (refused.Unprepared (BufferShort n))) rows edges out work (ap (answers counts_beside) (sym e)) (ap (λ r. left_in rows_beside r rows) (sym e))
      (ap (λ r. left_in edges_beside r edges) (sym e)) (ap (λ r. left_in smallest_bytes r out) (sym e)) (ap (λ r. work_left r work) (sym e))

  pub short-table : length table < table_length → asked ≡ refusal 14 table_length
  unfolding smallest_asked
  short-table h = rw (lt-leb table_length (length table) h)

  module _ (long : table_length ≤ length table) where
    pub short-formula : length formula < formula_length → asked ≡ refusal 14 formula_length
    unfolding smallest_asked
    short-formula h = rw (le-leb table_length (length table) long, lt-leb formula_length (length formula) h)

    module _ (wide : formula_length ≤ length formula) where
      pub short_out : length out < smallest_length → asked ≡ refusal 14 smallest_length
      unfolding smallest_asked
      short_out h = rw (le-leb table_length (length table) long, le-leb formula_length (length formula) wide, lt-leb smallest_length (length out) h)

      module _ (room : smallest_length ≤ length out) where
        pub short-work : length work < work_length → asked ≡ refusal 14 work_length
        unfolding smallest_asked
        short-work h = rw (le-leb table_length (length table) long, le-leb formula_length (length formula) wide, le-leb smallest_length (length out) room, lt-leb work_length (length work) h)

        module _ (enough : work_length ≤ length work) where
          is : asked ≡ said
          is = with_room table formula rows edges out work room enough

          abbrev NotShort : ℕ → Type 0
          NotShort n = n ≡ 14 → ⊥

          not_short : Numbered NotShort said
          not_short = subst (Numbered NotShort) (sym (both_long table formula (beside_in rows edges) long wide))
              (with_table-numbers NotShort (λ e. omega arith) (prepared_table table) _ (λ t. with_formula-numbers NotShort (λ e. omega arith) (prepared_formula (labels t) formula) _ (λ F.
              in_numbers NotShort (λ n h e. omega (arith, h.1)) (λ e. omega arith) rows edges t F)))

          is-cleared : (r : Reply Beside) → Numbered NotShort r → work_left r work ≡ cleared work
          is-cleared (accepted b) h = refl
          is-cleared (refusal n g) h = ap (λ b. cond b work (cleared work)) (ne_eqb n 14 h)

          -- What stands past the work buffer's length stays.
          zeros-past : (w : List ℕ) → WorkKept work w → cleared w ≡ cleared work
          unfolding cleared
          zeros-past w k =
              let n = length-replicate {A = ℕ} work_length 0 in
              ap (λ l. replicate work_length 0 ++ l) (ap (λ m. drop m w) n ∙ (k.past ∙ ap (λ m. drop m work) (sym n)))

          pub answered : {r : Result Totals SmallestRefusal} {x y z w v : List ℕ} → Answered table formula rows edges out work r x y z w → v ≡ cleared w → Promised r x y z v
          answered {r} {x} {y} {z} {w} {v} a e =
              let l = a.laid in
              promised r x y z v (l.reply ∙ ap (answers counts_beside) (sym is)) (l.rows_left ∙ ap (λ f. left_in rows_beside f rows) (sym is))
              (l.edges_left_lem ∙ ap (λ f. left_in edges_beside f edges) (sym is)) (l.out_left ∙ ap (λ f. left_in smallest_bytes f out) (sym is))
              (e ∙ (zeros-past w a.kept ∙ (sym (is-cleared said not_short) ∙ ap (λ f. work_left f work) (sym is))))
