-- `answer` meets its contract: 13, and else what the word's reading says.
use mathlib.Core.Path.{◌≡◌, sym, ap, ◌∙◌}
use mathlib.Core.List.{List}
use mathlib.Core.Option.{Option}
use Prim.Native.Nat.{ℕ}
use Rattle.lts.specs.Reply.{accepted}
use Rattle.lts.specs.Steps.{Table, labels}
use Rattle.lts.specs.inner.Prepared.{table_in}
use Rattle.tables.specs.inner.Access.{found_in}
use Rattle.actl.specs.Formulas.{Formula}
use Rattle.actl.specs.Reading.{unless_found}
use Rattle.automaton.specs.Bytes.{bit_of}
use Rattle.automaton.specs.inner.Words.{accepts}
use Rattle.automaton.specs.WordAsked.{bad_letter}
use Rattle.frontier.proofs.Laws.Left.{letters-carried}
use Rattle.words.specs.inner.Answered.{word_answer}
use Rattle.words.proofs.answer.Goals as goal

pub is_accepted-requires : goal.is_accepted-requires
is_accepted-requires c =
    let table_of : Table = table_in c.args.table.now in
    let word_of : List ℕ = c.args.word.now in
    let known : bad_letter (labels table_of) word_of ≡ found_in c.bad_letter-bad.result = sym (c.bad_letter-bad.ensures ∙ ap (λ n. bad_letter n word_of) c.label_count.ensures.count) in
    let none = known ∙ ap found_in c.in-None.is in
    record {
      holds_table = c.requires.holds_table;
      holds_formula = c.requires.holds_formula;
      letters =
          letters-carried (labels (table_of)) (word_of) c.requires.holds_table.in_range.few_labels none;
    }

pub returns-in-Some : goal.returns-in-Some
returns-in-Some c =
    let table_of : Table = table_in c.args.table.now in
    let word_of : List ℕ = c.args.word.now in
    let known : bad_letter (labels table_of) word_of ≡ found_in c.bad_letter-bad.result = sym (c.bad_letter-bad.ensures ∙ ap (λ n. bad_letter n word_of) c.label_count.ensures.count) in
    let answered : (F : Formula) (o : Option ℕ) → found_in c.bad_letter-bad.result ≡ o
    → unless_found o 13 (accepted (bit_of (accepts table_of F word_of))) ≡ word_answer table_of F word_of = λ F o e.
    sym (ap (λ o. unless_found o 13 (accepted (bit_of (accepts table_of F word_of)))) (known ∙ e)) in
    record { reply = λ F e. answered F _ (ap found_in c.in-Some.is) }

pub returns-in-None : goal.returns-in-None
returns-in-None c =
    let table_of : Table = table_in c.args.table.now in
    let word_of : List ℕ = c.args.word.now in
    let known : bad_letter (labels table_of) word_of ≡ found_in c.bad_letter-bad.result = sym (c.bad_letter-bad.ensures ∙ ap (λ n. bad_letter n word_of) c.label_count.ensures.count) in
    let answered : (F : Formula) (o : Option ℕ) → found_in c.bad_letter-bad.result ≡ o
    → unless_found o 13 (accepted (bit_of (accepts table_of F word_of))) ≡ word_answer table_of F word_of = λ F o e.
    sym (ap (λ o. unless_found o 13 (accepted (bit_of (accepts table_of F word_of)))) (known ∙ e)) in
    record {
      reply = λ F e.
          ap (λ b. accepted (bit_of b)) (c.is_accepted.ensures.answer F e) ∙ answered F _ (ap found_in c.in-None.is);
    }
