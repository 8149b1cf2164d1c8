-- A written formula reads back: its text restores it, in prepared bytes too, and over one table the text tells the formula.
use mathlib.Core.Path.{◌≡◌, refl, sym, ap, ◌∙◌, subst}
use mathlib.Core.Bool.{true, cond}
use mathlib.Core.List.{List, [], ◌∷◌, append-nil, Memᴰ}
use mathlib.Core.Option.{none, some}
use Prim.Native.Nat.{ℕ, suc, ◌≤◌}
use lib.Dec.{leb}
use lib.ListN.{length, take, length-map}
use borrow.Author.Tests.{le-leb, ne_eqb}
use Rattle.lts.specs.Sizes.{most_labels, table_length}
use Rattle.lts.specs.Reply.{Reply, accepted, unless, left_in, answers, overwritten}
use Rattle.lts.specs.Lists.{Rising}
use Rattle.lts.specs.Names.{is_name}
use Rattle.lts.specs.Steps.{Table, labels}
use Rattle.lts.specs.inner.Range.{Differ, InRange}
use Rattle.lts.specs.inner.Prepared.{prepared_table}
use Rattle.lts.proofs.Laws.Prepared.{prepared-of as table_of, prepared-length}
use Rattle.actl.specs.Sizes.{most_nodes, longest_text, formula_length}
use Rattle.actl.specs.Formulas.{Formula, size, nodes, class_of, highest_from, highest_without_class}
use Rattle.actl.specs.Grammar.{Name}
use Rattle.actl.specs.Base.{typed}
use Rattle.actl.specs.Meaning.{formula_of}
use Rattle.actl.specs.WrittenOut.{written_out}
use Rattle.actl.specs.Reading.{unless_found, with_classes}
use Rattle.actl.specs.Prepared.{formula_bytes, IsForm}
use Rattle.actl.specs.FormulaReading.{formula_reading}
use Rattle.lts.specs.Prepared.{with_table}
use Rattle.actl.specs.inner.Prepared.{prepared_formula}
use Rattle.actl.specs.inner.Reading.{on_result, read_unlimited, read_formula}
use Rattle.actl.proofs.Expansion.{typed-written}
use Rattle.actl.proofs.Grammar.{read-text}
use Rattle.actl.proofs.Pieces.{shown_text, on_mentions_lem}
use Rattle.actl.proofs.Laws.Accepted.{Within}
use Rattle.actl.proofs.Laws.Expanded.{line_read}
use Rattle.actl.proofs.Laws.Prepared.{prepared-of, one_form}
use Rattle.written_back.specs.FormulaText.{formula_text}
use Rattle.written_back.specs.ReadBack.{Restores, RestoresBytes, ReadsBack, SameText}
use Rattle.written_back.proofs.SetTrees.{bytes_of}
use Rattle.written_back.proofs.Trees.{tree_of, formula_shown, formula-read, formula_clear}

-- Every node has a class, so there is no highest one without.
abbrev EachClassed : List Formula → Type 0
EachClassed l = (f : Formula) → Memᴰ f l → class_of f ≡ 0 → ⊥

abbrev pub ClassedNodes : Formula → Type 0
ClassedNodes F = EachClassed (nodes F)

none_highest : (k : ℕ) (l : List Formula) → EachClassed l → highest_from k l none ≡ none
none_highest k [] h = refl
none_highest k (f ∷ l) h =
    ap (λ t. highest_from (suc k) l (cond t (some k) none)) (ne_eqb (class_of f) 0 (h f (Memᴰ.head refl)))
    ∙ none_highest (suc k) l (λ g d. h g (Memᴰ.tail d))

classes-pass : (F : Formula) → size F ≤ most_nodes → ClassedNodes F → with_classes F ≡ accepted F
unfolding highest_without_class
classes-pass F few classed =
    ap (λ b. unless b 8 (size F) (unless_found (highest_without_class F) 9 (accepted F))) (le-leb (size F) most_nodes few)
    ∙ ap (λ o. unless_found o 9 (accepted F)) (none_highest 0 (nodes F) classed)

-- Names, with what makes each one.
pub as-names : (N : List (List ℕ)) → ((n : List ℕ) → Memᴰ n N → is_name n ≡ true) → (K : List Name) × (bytes_of K ≡ N)
as-names [] h = ([], refl)
as-names (n ∷ N) h =
    let (K, e) = as-names N (λ k d. h k (Memᴰ.tail d)) in
    (record { bytes = n; fits = h n (Memᴰ.head refl) } ∷ K, ap (λ l. n ∷ l) e)

-- Over names that differ.
restores_named : (K : List Name) → Rising Differ (bytes_of K) → length K ≤ most_labels
    → (F : Formula) → size F ≤ most_nodes → ClassedNodes F → Within (length K) F → Restores (bytes_of K) F
restores_named K differ short F few classed within =
    let g = tree_of K F in
    let clear = (formula_clear K differ F [] (record { none-lacking = λ i. refl })).none-lacking 0 in
    record {
      tree = g;
      base = shown_text (typed g) (formula_shown K F [] ∙ append-nil (formula_text (bytes_of K) F));
      reads =
          ap (λ o. unless_found o 7 (with_classes (formula_of (bytes_of K) (written_out (typed g))))) clear
          ∙ (ap (λ b. with_classes (formula_of (bytes_of K) b)) (typed-written g)
          ∙ (ap with_classes (formula-read K differ short F within) ∙ classes-pass F few classed));
    }

-- Over a table in range: of at most 40 nodes, each with a class, and sets within the labels.
pub restores : (t : Table) → InRange t → (F : Formula) → size F ≤ most_nodes → ClassedNodes F → Within (labels t) F → Restores t.names F
restores t r F few classed within =
    let (K, e) = as-names t.names r.named in
    let count : labels t ≡ length K = ap length (sym e) ∙ length-map K (λ n. n.bytes) in
    let differ = subst (Rising Differ) (sym e) r.names_differ in
    let short = subst (λ n. n ≤ most_labels) count r.few_labels in
    subst (λ N. Restores N F) e (restores_named K differ short F few classed (subst (λ n. Within n F) count within))

module _ (table formula : List ℕ) (t : Table) (F : Formula)
    (is_table : prepared_table table ≡ some t) (is_formula : prepared_formula (labels t) formula ≡ some F) where
  form : IsForm (labels t) formula F
  form = prepared-of (labels t) formula is_formula

  pub prepared_restores : Restores t.names F
  prepared_restores = restores t (table_of table t is_table).0 F form.few form.classed form.within

  -- Reading the text, of any length, gives the formula.
  pub reads_unlimited : read_unlimited t.names (formula_text t.names F) ≡ accepted F
  reads_unlimited =
      let s = formula_text t.names F in
      let f = typed prepared_restores.tree in
      ap (on_result t.names s) ((read-text s f).1 prepared_restores.base) ∙ (on_mentions_lem t.names f ∙ prepared_restores.reads)

  -- Within 512 bytes `read_formula` does so, and leaves the formula's bytes.
  text-read : length (formula_text t.names F) ≤ longest_text → (buffer : List ℕ) → formula_length ≤ length buffer
      → formula_reading table (formula_text t.names F) buffer ≡ accepted F
  unfolding formula_reading
  text-read short buffer long =
      let s = formula_text t.names F in
      let inside : Reply Formula = with_table (prepared_table table) (λ u. read_formula u.names s) in
      let rest : Reply Formula = unless (leb formula_length (length buffer)) 14 formula_length inside in
      ap (λ b. unless b 14 table_length rest) (le-leb table_length (length table) (prepared-length table t is_table))
      ∙ (ap (λ b. unless b 14 formula_length inside) (le-leb formula_length (length buffer) long)
      ∙ (ap (λ o. with_table o (λ u. read_formula u.names s)) is_table
      ∙ (line_read t.names s (typed prepared_restores.tree) short prepared_restores.base ∙ prepared_restores.reads)))

  pub restores_bytes : length (formula_text t.names F) ≤ longest_text → RestoresBytes table formula (formula_text t.names F)
  restores_bytes short buffer long =
      let e = text-read short buffer long in
      (ap (answers (λ G. tt)) e, ap (λ r. left_in formula_bytes r buffer) e ∙ ap (λ b. overwritten b buffer) (sym form.form))

  pub reads_back : ReadsBack table formula
  reads_back = (t, F, is_table, is_formula, (prepared_restores, restores_bytes))

-- Formulas of the same text are the same, and so are those of the same bytes.
pub same_text : (table formula other : List ℕ) (t : Table) (F G : Formula) → prepared_table table ≡ some t
    → prepared_formula (labels t) formula ≡ some F → prepared_formula (labels t) other ≡ some G → SameText table formula other
same_text table formula other t F G e p q = (t, F, e, p, (t, G, e, q, (same_bytes, same-formula)))
  where
    h : IsForm (labels t) formula F
    h = prepared-of (labels t) formula p

    k : IsForm (labels t) other G
    k = prepared-of (labels t) other q

    same_bytes : formula_text t.names F ≡ formula_text t.names G → take formula_length formula ≡ take formula_length other
    same_bytes d =
        let both : accepted F ≡ accepted G =
        sym (reads_unlimited table formula t F e p) ∙ (ap (read_unlimited t.names) d ∙ reads_unlimited table other t G e q) in
        let same : F ≡ G = cc in
        h.form ∙ (ap formula_bytes same ∙ sym k.form)

    same-formula : take formula_length formula ≡ take formula_length other → formula_text t.names F ≡ formula_text t.names G
    same-formula d =
        let also : IsForm (labels t) formula G = record { form = d ∙ k.form; few = k.few; classed = k.classed; within = k.within } in
        ap (formula_text t.names) (one_form (labels t) (table_of table t e).0.few_labels formula F G h also)
