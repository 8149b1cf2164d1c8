-- Reading a formula's text, stated by the grammar alone: what `read_formula` answers, and what `read_formula` answers and leaves. m says whether
-- it is the grammar with marks.
use Rattle.std.specs.Prelude.{◌≡◌, List, ℕ, ◌≤◌, ◌<◌, length}
use Rattle.actl.specs.Sizes.{longest_text}
use Rattle.lts.specs.Reply.{Reply, refusal, left_in, answers}
use Rattle.lts.specs.Steps.{Table}
use Rattle.lts.specs.Marks.{Marks, marked}
use Rattle.actl.specs.Formulas.{Formula}
use Rattle.actl.specs.Grammar.{Disjunction}
use Rattle.actl.specs.Grammatical.{Text, Grammatical, Longest}
use Rattle.actl.specs.Reading.{on_tree}
use Rattle.actl.specs.Prepared.{formula_bytes}
use Rattle.actl.specs.FormulaReading.{on_table}

-- 01: "Formulas go 5, 6, 7, 8, 9." r is the answer for the text, over a table's label names.
pub data ReadBy (m : Marks) (names : List (List ℕ)) (text : List ℕ) (r : Reply Formula) : Type 0 where
  -- 01: "formula over 512 bytes": "its length"
  long : longest_text < length text → r ≡ refusal 5 (length text) → ReadBy m names text r
  -- 01: "formula not in the grammar": "length of the longest beginning that some grammatical text, of any length, has"
  ungrammatical : length text ≤ longest_text → (Grammatical m text → ⊥) → (n : ℕ) → Longest m text n → r ≡ refusal 6 n → ReadBy m names text r
  -- The text has the tree f, and 7, 8, 9 or the formula follow from the tree.
  grammatical : length text ≤ longest_text → (f : Disjunction) → Text m text f → r ≡ on_tree names f → ReadBy m names text r

-- 01: "Order: 14 first, then 10"; behind them the text is read by the grammar. r is the reply, and the buffer holds `left` afterwards.
pub record FormulaByGrammar (table text buffer : List ℕ) (r : Reply (Unit {0})) (left : List ℕ) : Type 0 where
  pub reading : Table → Reply Formula
  pub by_grammar : (t : Table) → ReadBy marked t.names text (reading t)
  pub replies : r ≡ answers (λ F. tt) (on_table table buffer reading)
  pub leaves : left ≡ left_in formula_bytes (on_table table buffer reading) buffer
