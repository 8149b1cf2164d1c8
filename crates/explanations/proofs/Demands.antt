-- Demands 2 and 3, whole: from the two texts through both readings to what building wrote, and of any prepared bytes that building accepts.
use mathlib.Core.Path.{◌≡◌, refl, sym, subst}
use mathlib.Core.Logic.{◌↔◌}
use mathlib.Core.List.{List}
use mathlib.Core.Option.{some}
use Prim.Native.Nat.{ℕ, ◌/◌, ◌≤◌}
use lib.ListN.{length, drop}
use Rattle.lts.specs.Sizes.{table_length}
use Rattle.actl.specs.Sizes.{formula_length}
use Rattle.lts.specs.Reply.{Reply, accepted, refusal, overwritten, left_in, answers}
use Rattle.lts.specs.Steps.{Table, labels}
use Rattle.lts.specs.inner.Range.{InRange}
use Rattle.lts.specs.Reading.{read_table}
use Rattle.lts.specs.Prepared.{table_bytes}
use Rattle.lts.specs.inner.Prepared.{prepared_table}
use Rattle.lts.specs.TableReading.{table_replied, table_left}
use Rattle.lts.proofs.Laws.Texts.{text-of-read}
use Rattle.actl.specs.Formulas.{Formula}
use Rattle.actl.specs.inner.Reading.{read_formula}
use Rattle.actl.specs.Prepared.{formula_bytes, IsForm}
use Rattle.actl.specs.inner.Prepared.{prepared_formula}
use Rattle.actl.specs.FormulaReading.{formula_replied, formula_left}
use Rattle.actl.proofs.Laws.Prepared as prepared-formula
use Rattle.automaton.specs.Listing.{Listing}
use Rattle.automaton.specs.inner.Search.{listing}
use Rattle.automaton.specs.Bytes.{row_length, edge_length, rows_bytes, edges_bytes}
use Rattle.automaton.specs.Build.{Counts, counts, fitted, built, build_replied, rows_left, edges_left}
use Rattle.automaton.specs.Explains.{Explains}
use Rattle.automaton.specs.WordAsked.{word_replied, WordAnswered}
use Rattle.actl.proofs.Laws.Replies.{refusal-is-not-accepted, accepted_lengths, long-enough-accepted, on-prepared-accepted, on-prepared_goes, in_prepared}
use Rattle.satisfaction.specs.inner.Holds.{verdict}
use Rattle.satisfaction.specs.VerdictAsked.{verdict_replied, TellsWhether}
use Rattle.satisfaction.proofs.Verdicts.{verdict-is}
use Rattle.automaton.proofs.Accepted.{prepared_in_range, formed-has-class, fitted-accepted}
use Rattle.automaton.proofs.WordsAccepted.{listing-accepts, word_answered}
use Rattle.explanations.specs.Demands.{WordsAccepted, RunsTraced, WordRead, Explained, FromCalls, FromPrepared}
use Rattle.explanations.specs.Standstills.{StandstillsSeen}
use Rattle.explanations.specs.InOneCall.{FromTexts}
use Rattle.explanations.specs.Explanation as explain
use Rattle.explanations.proofs.Readings.{table-prepared, table_long, formula-form, formula-prepared, formula_long, reading-leaves-table, reading-leaves-formula}
use Rattle.explanations.proofs.Traced.{listing_traces, listing-stands_still}

abbrev WordsAndRuns : Table → Formula → Counts → List ℕ → List ℕ → Type 0
WordsAndRuns t F c rows edges = WordsAccepted t F c rows edges × RunsTraced t F c rows edges × StandstillsSeen t c rows edges

-- What is written behind a listing's bytes does not matter.
listing-explained : {t : Table} {F : Formula} {n : ℕ} {b : List ℕ} → InRange t → IsForm n b F → {L : Listing} → L ≡ listing t F → (rows edges : List ℕ)
    → WordsAndRuns t F (counts L) (overwritten (rows_bytes L) rows) (overwritten (edges_bytes L) edges)
listing-explained {t} {F} w h {L} e rows edges =
    let x = drop (length (rows_bytes (listing t F))) rows in
    let y = drop (length (edges_bytes (listing t F))) edges in
    subst (λ (K : Listing). WordsAndRuns t F (counts K) (overwritten (rows_bytes K) rows) (overwritten (edges_bytes K) edges)) (sym e)
    (listing-accepts t F w (formed-has-class h) h.few x y, listing_traces t F w (formed-has-class h) h.few x y, listing-stands_still t F w (formed-has-class h) h.few x y)

-- An answer tells of one thing what it tells of another that is so exactly if the first is.
tells_alike : {P Q : Type 0} {a : ℕ} → P ↔ Q → TellsWhether Q a → TellsWhether P a
tells_alike h (one, nought) = ((λ e. h.1 (one.0 e), λ p. one.1 (h.0 p)), (λ e p. nought.0 e (h.0 p), λ n. nought.1 (λ q. n (h.1 q))))

module _ (table formula : List ℕ) {t : Table} {F : Formula} (is_table : prepared_table table ≡ some t) (is_formula : prepared_formula (labels t) formula ≡ some F) where
  word_read : (c : Counts) (rows edges : List ℕ) → WordsAccepted t F c rows edges → (w : List ℕ) → WordRead t F c rows edges w (word_replied table formula w)
  word_read c rows edges h w = by (word_replied table formula w) (word_answered table formula w)
    where
      by : (r : Reply ℕ) → WordAnswered table formula w r → WordRead t F c rows edges w r
      by (refusal n g) a = tt
      by (accepted v) a =
          let told : TellsWhether (Explains t F w) v = in_prepared table formula is_table is_formula (λ u G. TellsWhether (Explains u G w) v) a in
          (tells_alike (h w) told, told)

  explained-on : table_length ≤ length table → formula_length ≤ length formula → (c : Counts) (rows edges : List ℕ) → WordsAndRuns t F c rows edges
      → Explained table formula t F (verdict t F) c rows edges
  unfolding verdict_replied
  explained-on long wide c rows edges (words, runs, standstills) = record {
    is_table = is_table;
    is_formula = is_formula;
    verdict = verdict-is t F;
    verdict_asked = on-prepared_goes table formula is_table is_formula (λ t F. accepted (verdict t F)) long wide;
    words = words;
    word_asked = word_read c rows edges words;
    runs = runs;
    standstills = standstills;
  }

module _ (table formula rows edges : List ℕ) where
  abbrev explains : Reply Listing → Type 0
  explains r = FromPrepared table formula (answers counts r) (left_in rows_bytes r rows) (left_in edges_bytes r edges)

  prepared-explained : (r : Reply Listing) → built table formula rows edges ≡ r → explains r
  unfolding built
  prepared-explained (refusal n f) e = tt
  prepared-explained (accepted L) e =
      let p = on-prepared-accepted table formula (λ t F. fitted (listing t F) rows edges) e in
      let t = p.table_in_lem in
      let F = p.formula_in in
      let (long, wide) = accepted_lengths table formula _ e in
      let form = prepared-formula.prepared-of (labels t) formula p.is_formula in (
        t,
        F,
        verdict t F,
        explained-on table formula p.is_table p.is_formula long wide (counts L) (overwritten (rows_bytes L) rows) (overwritten (edges_bytes L) edges)
            (listing-explained (prepared_in_range table p.is_table) form (fitted-accepted (listing t F) rows edges p.goes_on).2 rows edges),
      )

  -- "it covers alike any other prepared bytes that building accepts"
  pub building_explains : FromPrepared table formula (build_replied table formula rows edges) (rows_left table formula rows edges) (edges_left table formula rows edges)
  building_explains = prepared-explained (built table formula rows edges) refl

-- "from the two texts through both readings to what building wrote, each call handed what the calls before it left"
module _ (table_text formula_text table formula rows edges : List ℕ) where
  -- What the calls before left.
  abbrev table_left_lem : List ℕ
  table_left_lem = table_left table_text table

  abbrev formula_left_lem : List ℕ
  formula_left_lem = formula_left table_left_lem formula_text formula

  from-prepared : (r : Reply Counts) (x y : List ℕ) (t : Table) (F : Formula) → read_table table_text ≡ accepted t → read_formula t.names formula_text ≡ accepted F
      → prepared_table table_left_lem ≡ some t → prepared_formula (labels t) formula_left_lem ≡ some F
      → FromPrepared table_left_lem formula_left_lem r x y → FromCalls table_text formula_text r table_left_lem formula_left_lem x y
  from-prepared (refusal n f) x y t F a b c d h = tt
  from-prepared (accepted k) x y t F a b c d (u, G, v, h) =
      (t, F, a, b, (v, in_prepared table_left_lem formula_left_lem c d (λ u G. Explained table_left_lem formula_left_lem u G v k x y) (u, G, h.is_table, h.is_formula, h)))

  pub texts_explained : table_replied table_text table ≡ accepted tt → formula_replied table_left_lem formula_text formula ≡ accepted tt
      → FromCalls table_text formula_text (build_replied table_left_lem formula_left_lem rows edges) table_left_lem formula_left_lem (rows_left table_left_lem formula_left_lem rows edges)
      (edges_left table_left_lem formula_left_lem rows edges)
  texts_explained e d =
      let (t, a, c) = reading-leaves-table table_text table e in
      let (F, b, h, g) = reading-leaves-formula table_left_lem formula_text formula t c d in
      from-prepared (build_replied table_left_lem formula_left_lem rows edges) (rows_left table_left_lem formula_left_lem rows edges) (edges_left table_left_lem formula_left_lem rows edges) t F a b
      c g (building_explains table_left_lem formula_left_lem rows edges)

-- The same of `explain`, which reads both texts and builds. What an accepted explanation says of its texts and of the lent places:
pub record Accepted (table_text formula_text rows edges : List ℕ) (e : explain.Explanation) : Type 0 where
  pub read_table_lem : read_table table_text ≡ accepted e.table
  pub read-formula : read_formula e.table.names formula_text ≡ accepted e.formula
  pub is-listing : e.list ≡ listing e.table e.formula
  pub rows_fit : length e.list.rows ≤ length rows / row_length
  pub edges_fit : length e.list.edges ≤ length edges / edge_length

next-accepted : {A B : Type 0} (r : Reply A) (f : A → Reply B) {b : B} → explain.and_then r f ≡ accepted b → (a : A) × (r ≡ accepted a) × (f a ≡ accepted b)
next-accepted (accepted a) f e = (a, refl, e)
next-accepted (refusal n g) f e = absurd (refusal-is-not-accepted e)

module _ (table_text formula_text rows edges : List ℕ) where
  listed-accepted : (t : Table) (F : Formula) → read_table table_text ≡ accepted t → read_formula t.names formula_text ≡ accepted F
      → (r : Reply Listing) → fitted (listing t F) rows edges ≡ r → (e : explain.Explanation) → answers (λ L. record { table = t; formula = F; list = L }) r ≡ accepted e
      → Accepted table_text formula_text rows edges e
  listed-accepted t F a b (refusal n g) d e h = absurd (refusal-is-not-accepted h)
  listed-accepted t F a b (accepted L) d e h =
      let (i, j, k) = fitted-accepted (listing t F) rows edges d in
      let z : record { table = t; formula = F; list = L } ≡ e = cc in
      subst (Accepted table_text formula_text rows edges) z
      (record {
        read_table_lem = a;
        read-formula = b;
        is-listing = k;
        rows_fit = subst (λ (K : Listing). length K.rows ≤ length rows / row_length) (sym k) i;
        edges_fit =
            subst (λ (K : Listing). length K.edges ≤ length edges / edge_length) (sym k) j;
      })

  pub explanation-accepted : (e : explain.Explanation) → explain.explanation table_text formula_text rows edges ≡ accepted e → Accepted table_text formula_text rows edges e
  explanation-accepted e d =
      let (t, a, g) = next-accepted (read_table table_text) (λ t. explain.and_then (read_formula t.names formula_text)
      (λ F. answers (λ L. record { table = t; formula = F; list = L }) (fitted (listing t F) rows edges))) d in
      let (F, b, h) = next-accepted (read_formula t.names formula_text) (λ F. answers (λ L. record { table = t; formula = F; list = L }) (fitted (listing t F) rows edges)) g in
      listed-accepted t F a b (fitted (listing t F) rows edges) refl e h

module _ (table_text formula_text table formula rows edges : List ℕ) where
  abbrev explained : Reply explain.Explanation → Type 0
  explained r = FromTexts table_text formula_text (explain.explain_replied r) (explain.table_explained r table) (explain.formula_explained r formula)
      (explain.rows_explained r rows) (explain.edges_explained r edges)

  explanation-explains : (r : Reply explain.Explanation) → explain.explaining table_text formula_text table formula rows edges ≡ r → explained r
  unfolding explain.explaining
  explanation-explains (refusal n f) e = tt
  explanation-explains (accepted x) e =
      let d = long-enough-accepted table formula (explain.explanation table_text formula_text rows edges) e in
      let h = explanation-accepted table_text formula_text rows edges x d in
      let t = x.table in
      let F = x.formula in
      let w = (text-of-read table_text t h.read_table_lem).1 in
      let form = formula-form t w formula_text F h.read-formula formula in (
        t,
        F,
        h.read_table_lem,
        h.read-formula,
        (
          refl,
          explained-on (overwritten (table_bytes t) table) (overwritten (formula_bytes F) formula)
              (table-prepared table_text t h.read_table_lem table) (formula-prepared t w formula_text F h.read-formula formula)
              (table_long table_text t h.read_table_lem table) (formula_long t w formula_text F h.read-formula formula)
              (counts x.list) (overwritten (rows_bytes x.list) rows) (overwritten (edges_bytes x.list) edges) (listing-explained w form h.is-listing rows edges),
        ),
      )

  pub explain_explains : explained (explain.explaining table_text formula_text table formula rows edges)
  explain_explains = explanation-explains (explain.explaining table_text formula_text table formula rows edges) refl
