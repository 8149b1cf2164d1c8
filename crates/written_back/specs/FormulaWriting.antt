-- What `write_formula` answers and leaves.
use Rattle.std.specs.Prelude.{List, ℕ, leb, length}
use Rattle.lts.specs.Reply.{Reply, accepted, unless, left_in, answers}
use Rattle.lts.specs.Steps.{labels}
use Rattle.lts.specs.inner.Prepared.{prepared_table}
use Rattle.actl.specs.Sizes.{longest_text}
use Rattle.actl.specs.inner.Prepared.{prepared_formula}
use Rattle.actl.specs.FormulaReading.{with_formula, long_enough}
use Rattle.lts.specs.Prepared.{with_table}
use Rattle.written_back.specs.FormulaText.{formula_text}

-- 02: "A text over 512 bytes is not written. Errors: 15 for that text, the needed length returned"
abbrev pub unless_long : List ℕ → Reply (List ℕ)
unless_long s = unless (leb (length s) longest_text) 15 (length s) (accepted s)

-- "after 10 and 14". `table` and `formula` are prepared bytes, `text` is what is lent for the text.
unfoldable pub formula_writing : List ℕ → List ℕ → List ℕ → Reply (List ℕ)
formula_writing table formula text =
    long_enough table formula (
    unless (leb longest_text (length text)) 14 longest_text (
    with_table (prepared_table table) (λ t.
    with_formula (prepared_formula (labels t) formula) (λ F. unless_long (formula_text t.names F)))))

-- Accepted: the length; the text in the first bytes, the others stay.
abbrev pub formula_written : List ℕ → List ℕ → List ℕ → Reply ℕ
formula_written table formula text = answers length (formula_writing table formula text)

abbrev pub text_left : List ℕ → List ℕ → List ℕ → List ℕ
text_left table formula text = left_in (λ s. s) (formula_writing table formula text) text
