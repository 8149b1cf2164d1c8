-- Reading a formula refuses with 5 to 9: a text with a tree with 7 to 9.
use mathlib.Core.List.{List, []}
use mathlib.Core.Option.{Option, none, some}
use Prim.Native.Nat.{ℕ}
use native.Mathlib.Omega.{arith}
use lib.Dec.{leb}
use lib.ListN.{length}
use Rattle.lts.specs.Reply.{Reply}
use Rattle.lts.proofs.Laws.Refusals.{Numbered, Between, numbered-unless, numbered_so}
use Rattle.actl.specs.Sizes.{most_nodes, longest_text}
use Rattle.actl.specs.Formulas.{Formula, size, highest_without_class}
use Rattle.actl.specs.Grammar.{Disjunction, pieces_f}
use Rattle.actl.specs.WrittenOut.{written_out}
use Rattle.actl.specs.Meaning.{formula_of}
use Rattle.actl.specs.inner.Reader.{Result, whole, refused, read}
use Rattle.actl.specs.Reading.{unless_found, unknown_from, with_classes, on_tree}
use Rattle.actl.specs.inner.Mentions.{names_f, first_unknown}
use Rattle.actl.specs.inner.Reading.{on_mentions, on_result, read_formula}

pub numbered-found : {A : Type 0} (P : ℕ → Type 0) (o : Option ℕ) (n : ℕ) (r : Reply A) → P n → Numbered P r → Numbered P (unless_found o n r)
numbered-found P none n r h o = o
numbered-found P (some f) n r h o = h

found-numbers : (o : Option ℕ) (F : Formula) → Numbered (Between 7 9) (unless_found o 7 (with_classes F))
found-numbers o F =
    numbered-found (Between 7 9) o 7 _ (omega arith, omega arith)
    (numbered-unless (Between 7 9) (leb (size F) most_nodes) 8 (size F) _ (omega arith, omega arith)
    (numbered-found (Between 7 9) (highest_without_class F) 9 _ (omega arith, omega arith) tt))

module _ (names : List (List ℕ)) where
  pub tree-numbers : (f : Disjunction) → Numbered (Between 7 9) (on_tree names f)
  tree-numbers f = found-numbers (unknown_from names 0 (pieces_f f [])) (formula_of names (written_out f))

  pub result_numbers : (text : List ℕ) (x : Result) → Numbered (Between 6 9) (on_result names text x)
  result_numbers text (refused rest) = (omega arith, omega arith)
  result_numbers text (whole f) =
      numbered_so (Between 7 9) (Between 6 9) (λ n h. (omega (arith, h.0), h.1)) (on_mentions names f)
      (found-numbers (first_unknown names f (names_f f [])) (formula_of names (written_out f)))

  pub reading-numbers : (text : List ℕ) → Numbered (Between 5 9) (read_formula names text)
  unfolding read_formula
  reading-numbers text =
      numbered-unless (Between 5 9) (leb (length text) longest_text) 5 (length text) _ (omega arith, omega arith)
      (numbered_so (Between 6 9) (Between 5 9) (λ n h. (omega (arith, h.0), h.1)) (on_result names text (read text)) (result_numbers text (read text)))
