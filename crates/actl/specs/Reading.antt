-- Behind the grammar: 7, 8 and 9, by the tree of a formula's text, over a table's label names.
use Rattle.std.specs.Prelude.{List, [], ◌∷◌, ℕ, suc, ◌+◌, leb, length}
use Rattle.std.proofs.Math.Option.{Option, none, some}
use Rattle.actl.specs.Sizes.{most_nodes}
use Rattle.lts.specs.Reply.{Reply, accepted, refusal, unless}
use Rattle.lts.specs.Names.{lookup}
use Rattle.actl.specs.Formulas.{Formula, size, highest_without_class}
use Rattle.actl.specs.Grammar.{Disjunction, Piece, byte, named, pieces_f}
use Rattle.actl.specs.WrittenOut.{written_out}
use Rattle.actl.specs.Meaning.{formula_of}

-- Goes on if there is nothing to refuse, and else refuses with a number and what was found.
abbrev pub unless_found : {A : Type 0} → Option ℕ → ℕ → Reply A → Reply A
unless_found none number next = next
unless_found (some figure) number next = refusal number figure

abbrev pub unknown_at : Option ℕ → ℕ → Option ℕ → Option ℕ
unknown_at none at later = some at
unknown_at (some a) at later = later

-- 01: "a name the table lacks": "offset of the first such". The pieces' text begins at the offset i.
abbrev pub unknown_from : List (List ℕ) → ℕ → List Piece → Option ℕ
unknown_from names i [] = none
unknown_from names i (byte b ∷ l) = unknown_from names (suc i) l
unknown_from names i (named n ∷ l) = unknown_at (lookup names n.bytes) i (unknown_from names (i + length n.bytes) l)

-- 01: "over 40 nodes", then "a node without class: the highest-numbered one"
abbrev pub with_classes : Formula → Reply Formula
with_classes F = unless (leb (size F) most_nodes) 8 (size F) (unless_found (highest_without_class F) 9 (accepted F))

-- Behind the grammar, of a text whose tree is f: 7 measures the text; 8, 9 and the formula are those of the tree written out.
abbrev pub on_tree : List (List ℕ) → Disjunction → Reply Formula
on_tree names f = unless_found (unknown_from names 0 (pieces_f f [])) 7 (with_classes (formula_of names (written_out f)))
