-- What is answered and left once all of the text is counted: 15, or the text in the first bytes.
use mathlib.Core.Path.{◌≡◌, sym, ap, ◌∙◌}
use mathlib.Core.List.{List, ◌++◌}
use mathlib.Core.Option.{some}
use Prim.Native.Nat.{ℕ, ◌≤◌, ◌<◌}
use native.Mathlib.Omega.{arith}
use lib.ListN.{length, take, drop}
use lib.Seq.{take-length}
use borrow.Author.Tests.{le-leb, lt-leb}
use Rattle.lts.specs.Reply.{accepted, refusal, unless, left_in, answers}
use Rattle.lts.specs.Steps.{labels}
use Rattle.lts.specs.inner.Prepared.{table_in}
use Rattle.actl.specs.Sizes.{longest_text}
use Rattle.actl.specs.Formulas.{Formula}
use Rattle.actl.specs.inner.Prepared.{prepared_formula}
use Rattle.written_back.specs.FormulaText.{formula_text}
use Rattle.std.proofs.Common.{Ok, Err}
use Rattle.write_formula.specs.declared.WriteRefusal.TheVariants.{TooLong}
use Rattle.formula_walk.specs.inner.Walk.{TextAdded}
use Rattle.write_formula.specs.inner.Line.{line_of, LineWritten}

module _ (table formula text e x : List ℕ) (n : ℕ) (t : TextAdded table formula e x n) where
  module _ (F : Formula) (f : prepared_formula (labels (table_in table)) formula ≡ some F) where
    abbrev line : List ℕ
    line = formula_text (table_in table).names F

    counted : n ≡ length line
    counted = omega (arith, (t.adds F f).ends)

    is-long : longest_text < n → line_of table F ≡ refusal 15 (length line)
    is-long h = ap (λ b. unless b 15 (length line) (accepted line)) (lt-leb (length line) longest_text (omega (arith, counted)))

    fits : n ≤ longest_text → line_of table F ≡ accepted line
    fits h = ap (λ b. unless b 15 (length line) (accepted line)) (le-leb (length line) longest_text (omega (arith, counted)))

    put_down : n ≤ longest_text → take n x ≡ line
    put_down h = (t.adds F f).made h

  pub line-long : longest_text < n → LineWritten table formula text text (Err (TooLong n))
  line-long h = record {
    replies = λ F f. sym (ap (answers length) (is-long F f h) ∙ ap (refusal 15) (sym (counted F f)));
    leaves = λ F f. sym (ap (λ r. left_in (λ s. s) r text) (is-long F f h));
  }

  pub line-fits : {text' : List ℕ} → n ≤ longest_text → text' ≡ take (length (take n x)) (take n x) ++ drop (length (take n x)) text → LineWritten table formula text text' (Ok n)
  line-fits {text'} h d = record {
    replies = λ F f. sym (ap (answers length) (fits F f h) ∙ ap accepted (sym (counted F f)));
    leaves = λ F f.
        d ∙ (ap (λ l. l ++ drop (length (take n x)) text) (take-length (take n x))
        ∙ (ap (λ l. l ++ drop (length l) text) (put_down F f h) ∙ sym (ap (λ r. left_in (λ s. s) r text) (fits F f h))));
  }
