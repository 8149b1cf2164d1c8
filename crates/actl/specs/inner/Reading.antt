-- The executable twin of `ReadBy` (../ByGrammar.antt): `reading_by_grammar` (proofs/Laws/ByGrammar.antt) makes `read_formula` its answer, and `read-text`
-- (proofs/Grammar.antt) that of a text of any length. `on_mentions` is `on_tree` (../Reading.antt), by `on_mentions_lem` (proofs/Pieces.antt).
use Rattle.std.specs.Prelude.{List, [], ℕ, ◌-◌, leb, length}
use Rattle.actl.specs.Sizes.{longest_text}
use Rattle.lts.specs.Reply.{Reply, refusal, unless}
use Rattle.actl.specs.Formulas.{Formula}
use Rattle.actl.specs.Grammar.{Disjunction}
use Rattle.actl.specs.WrittenOut.{written_out}
use Rattle.actl.specs.Meaning.{formula_of}
use Rattle.actl.specs.Reading.{unless_found, with_classes}
use Rattle.actl.specs.inner.Mentions.{names_f, first_unknown}
use Rattle.actl.specs.inner.Reader.{Result, whole, refused, read}

abbrev pub on_mentions : List (List ℕ) → Disjunction → Reply Formula
on_mentions names f = unless_found (first_unknown names f (names_f f [])) 7 (with_classes (formula_of names (written_out f)))

abbrev pub on_result : List (List ℕ) → List ℕ → Result → Reply Formula
on_result names text (refused rest) = refusal 6 (length text - length rest)
on_result names text (whole f) = on_mentions names f

-- A text of any length.
abbrev pub read_unlimited : List (List ℕ) → List ℕ → Reply Formula
read_unlimited names text = on_result names text (read text)

unfoldable pub read_formula : List (List ℕ) → List ℕ → Reply Formula
read_formula names text = unless (leb (length text) longest_text) 5 (length text) (read_unlimited names text)
