-- No bracket too many: a text that reads to a formula has, with one for each `&`, at least as many pairs as the formula's own text.
use mathlib.Core.Path.{◌≡◌, refl, ◌∙◌, subst}
use mathlib.Core.Bool.{Bool, true, false, cond}
use mathlib.Core.List.{List, [], append-nil, Memᴰ}
use mathlib.Core.Option.{Option, none, some}
use Prim.Native.Nat.{ℕ, ◌+◌, ◌≤◌}
use native.Mathlib.Omega.{arith}
use lib.Dec.{leb}
use Rattle.lts.specs.Marks.{marked}
use Rattle.lts.specs.Reply.{Reply, accepted}
use Rattle.lts.specs.Names.{is_name}
use Rattle.lts.specs.Steps.{Table, labels}
use Rattle.lts.specs.inner.Prepared.{prepared_table}
use Rattle.lts.proofs.Laws.Prepared.{prepared-of as table_of}
use Rattle.actl.specs.Sizes.{most_nodes}
use Rattle.actl.specs.Formulas.{Formula, size, highest_without_class}
use Rattle.actl.specs.Grammar.{Name, Set, Operand, Condition, Quantifier, existential, universal}
use Rattle.actl.specs.Grammar.{Head, next, until, until_then, reach, labelled}
use Rattle.actl.specs.Grammar.{Disjunction, conjunction, or, Conjunction, term, and, Term, tru, not, modal, paren, pieces_f}
use Rattle.actl.specs.Grammatical.{Text}
use Rattle.actl.specs.Base.{BaseHead, Base, BaseTerm, typed, typed_term, BaseText}
use Rattle.actl.specs.WrittenOut.{dual_of, modal_out, written_out, written_out_conjunction, written_out_term}
use Rattle.actl.specs.Meaning.{modal_of, formula_of, formula_of_term}
use Rattle.actl.specs.Reading.{unless_found, unknown_from, with_classes, on_tree}
use Rattle.actl.specs.inner.Prepared.{prepared_formula}
use Rattle.actl.proofs.Pieces.{shown_text}
use Rattle.actl.proofs.Laws.Replies.{refusal-is-not-accepted, unless-accepted}
use Rattle.written_back.specs.FormulaText.{is_or, formula_text}
use Rattle.written_back.specs.Brackets.{outside, ampersands, FewestBrackets}
use Rattle.written_back.proofs.Pairs.{pairs, pairs_a, pairs_t, ands, ands_a, ands_t, no_ands}
use Rattle.written_back.proofs.Counted.{pairs-counted, ands_counted}
use Rattle.written_back.proofs.SetTrees.{bytes_of}
use Rattle.written_back.proofs.Trees.{as_term, tree_of, formula_shown}
use Rattle.written_back.proofs.ReadBack.{as-names}

-- The pairs that are written around an arm, which has n of its own.
abbrev pub arm_pairs : Formula → ℕ → ℕ
arm_pairs f n = n + cond (is_or f) 1 0

-- The pairs that `formula_text` writes.
abbrev pub pairs_of : Formula → ℕ
pairs_of Formula.tru = 0
pairs_of (Formula.not f) = arm_pairs f (pairs_of f)
pairs_of (Formula.or f g) = pairs_of f + arm_pairs g (pairs_of g)
pairs_of (Formula.ex c f) = arm_pairs f (pairs_of f)
pairs_of (Formula.ax c f) = arm_pairs f (pairs_of f)
pairs_of (Formula.eu a f) = arm_pairs f (pairs_of f)
pairs_of (Formula.eu_then a b f) = arm_pairs f (pairs_of f)

-- The formula's pairs as an arm.
abbrev pub pairs_as_arm : Formula → ℕ
pairs_as_arm f = arm_pairs f (pairs_of f)

bit_low : (b : Bool) → cond b 1 0 ≤ 1
bit_low true = omega arith
bit_low false = omega arith

module _ (N : List (List ℕ)) where
  -- A keyword has no pairs of its own, nor has a short form, written out.
  keyword-pairs : (h : BaseHead) (F : Formula) → pairs_as_arm (modal_of N h F) ≡ pairs_as_arm F
  keyword-pairs (BaseHead.next existential a b c d) F = omega arith
  keyword-pairs (BaseHead.next universal a b c d) F = omega arith
  keyword-pairs (BaseHead.until a b x d) F = omega arith
  keyword-pairs (BaseHead.until_then a b x c d y e) F = omega arith

  dual_pairs : (q : Quantifier) (h : BaseHead) (a : ℕ) (t : BaseTerm)
      → pairs_as_arm (formula_of_term N (dual_of q h a t)) ≡ pairs_as_arm (formula_of_term N t)
  dual_pairs existential h a t = keyword-pairs h (formula_of_term N t)
  dual_pairs universal h a t = let F = formula_of_term N t in omega (arith, keyword-pairs h (Formula.not F))

  head-pairs : (h : Head) (a : ℕ) (t : BaseTerm) → pairs_as_arm (formula_of_term N (modal_out h a t)) ≡ pairs_as_arm (formula_of_term N t)
  head-pairs (next q b c x d) a t = keyword-pairs (BaseHead.next q b c x d) (formula_of_term N t)
  head-pairs (until b c x d) a t = keyword-pairs (BaseHead.until b c x d) (formula_of_term N t)
  head-pairs (until_then b c x d e y g) a t = keyword-pairs (BaseHead.until_then b c x d e y g) (formula_of_term N t)
  head-pairs (reach q) a t = dual_pairs q (BaseHead.until 0 0 (Set.operand Operand.any) 0) a t
  head-pairs (labelled q b c x d) a t = dual_pairs q (BaseHead.next existential b c (Condition.set x) d) a t

  mutual
    pub pairs_least : (f : Disjunction) → pairs_of (formula_of N (written_out f)) ≤ pairs f + ands f
    pairs_least (conjunction c) = omega (arith, conjunction_least c)
    pairs_least (or f a b c) = omega (arith, pairs_least f, conjunction_least c)

    conjunction_least : (c : Conjunction) → pairs_as_arm (formula_of_term N (written_out_conjunction c)) ≤ pairs_a c + ands_a c
    conjunction_least (term t) = term_least t
    conjunction_least (and c a b t) = omega (arith, conjunction_least c, term_least t)

    term_least : (t : Term) → pairs_as_arm (formula_of_term N (written_out_term t)) ≤ pairs_t t + ands_t t
    term_least tru = omega arith
    term_least (not a t) = omega (arith, term_least t)
    term_least (modal h a t) = omega (arith, head-pairs h a (written_out_term t), term_least t)
    term_least (paren a f b) = omega (arith, bit_low (is_or (formula_of N (written_out f))), pairs_least f)

  -- What is accepted of a tree is the formula of the tree written out.
  found-accepted : (o : Option ℕ) (number : ℕ) (then : Reply Formula) {F : Formula} → unless_found o number then ≡ accepted F → then ≡ accepted F
  found-accepted none number then e = e
  found-accepted (some x) number then e = absurd (refusal-is-not-accepted e)

  pub tree-accepted : (f : Disjunction) {F : Formula} → on_tree N f ≡ accepted F → formula_of N (written_out f) ≡ F
  tree-accepted f {F} e =
      let G = formula_of N (written_out f) in
      let a = found-accepted (unknown_from N 0 (pieces_f f [])) 7 (with_classes G) e in
      let b = (unless-accepted (leb (size G) most_nodes) 8 (size G) (unless_found (highest_without_class G) 9 (accepted G)) a).1 in
      let c = found-accepted (highest_without_class G) 9 (accepted G) b in
      (cc)

  -- A text that reads to the formula has in its bytes no fewer.
  counted_least : (s : List ℕ) (f : Disjunction) (F : Formula) → Text marked s f → on_tree N f ≡ accepted F
      → pairs_of F ≤ outside s + ampersands s
  counted_least s f F p h =
      let least = subst (λ G. pairs_of G ≤ pairs f + ands f) (tree-accepted f h) (pairs_least f) in
      omega (arith, least, pairs-counted f p, ands_counted f p)

  counted_least_base : (s : List ℕ) (g : Base) (F : Formula) → BaseText marked s g → on_tree N (typed g) ≡ accepted F → pairs_of F ≤ outside s
  counted_least_base s g F p h = omega (arith, counted_least s (typed g) F p h, ands_counted (typed g) p, no_ands g)

  written-fewest : (F : Formula) → outside (formula_text N F) ≡ pairs_of F → FewestBrackets N F
  written-fewest F e = record {
    fewest = λ s f p h. omega (arith, e, counted_least s f F p h);
    in_base = λ s g p h. omega (arith, e, counted_least_base s g F p h);
  }

-- The tree of the written text has the pairs that are written.
module _ (K : List Name) where
  arm_pairs_lem : (f : Formula) → pairs (typed (tree_of K f)) ≡ pairs_of f → pairs_t (typed_term (as_term (tree_of K f))) ≡ pairs_as_arm f
  arm_pairs_lem Formula.tru e = refl
  arm_pairs_lem (Formula.not f) e = omega (arith, e)
  arm_pairs_lem (Formula.or f g) e = omega (arith, e)
  arm_pairs_lem (Formula.ex c f) e = omega (arith, e)
  arm_pairs_lem (Formula.ax c f) e = omega (arith, e)
  arm_pairs_lem (Formula.eu a f) e = omega (arith, e)
  arm_pairs_lem (Formula.eu_then a b f) e = omega (arith, e)

  tree-pairs : (F : Formula) → pairs (typed (tree_of K F)) ≡ pairs_of F
  tree-pairs Formula.tru = refl
  tree-pairs (Formula.not f) = arm_pairs_lem f (tree-pairs f)
  tree-pairs (Formula.or f g) = omega (arith, tree-pairs f, arm_pairs_lem g (tree-pairs g))
  tree-pairs (Formula.ex c f) = arm_pairs_lem f (tree-pairs f)
  tree-pairs (Formula.ax c f) = arm_pairs_lem f (tree-pairs f)
  tree-pairs (Formula.eu a f) = arm_pairs_lem f (tree-pairs f)
  tree-pairs (Formula.eu_then a b f) = arm_pairs_lem f (tree-pairs f)

  written-pairs : (F : Formula) → outside (formula_text (bytes_of K) F) ≡ pairs_of F
  written-pairs F =
      let f = typed (tree_of K F) in
      pairs-counted f (shown_text f (formula_shown K F [] ∙ append-nil (formula_text (bytes_of K) F))) ∙ tree-pairs F

-- Of any formula, over well-formed names.
pub named-fewest : (N : List (List ℕ)) → ((n : List ℕ) → Memᴰ n N → is_name n ≡ true) → (F : Formula) → FewestBrackets N F
named-fewest N named F =
    let (K, e) = as-names N named in
    subst (λ M. FewestBrackets M F) e (written-fewest (bytes_of K) F (written-pairs K F))

pub fewest_brackets : (table formula : List ℕ) (t : Table) (F : Formula) → prepared_table table ≡ some t
    → prepared_formula (labels t) formula ≡ some F → FewestBrackets t.names F
fewest_brackets table formula t F is_table is_formula = named-fewest t.names (table_of table t is_table).0.named F
