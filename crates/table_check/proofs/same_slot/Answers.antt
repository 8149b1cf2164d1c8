-- `same_slot` meets its contract: names are equal exactly if both words of their slots are.
use mathlib.Core.Path.{sym, ◌∙◌}
use mathlib.Core.List.{List}
use Prim.Native.Nat.{ℕ, ◌<◌}
use native.Mathlib.Omega.{arith}
use borrow.Author.Tests.{eqb-true, eqb-false}
use Rattle.lts.specs.inner.Prepared.{byte_at}
use Rattle.table_check.proofs.Laws.Words.{words-name, name-first-words, name-second-words}
use Rattle.table_check.proofs.same_slot.Goals as goal

pub returns-else-word : goal.returns-else-word
returns-else-word c =
    let table : List ℕ = c.args.table.now in
    let small : (i : ℕ) → byte_at table i < 256 = λ i. omega (arith, c.type_inv.table i) in
    record {
      yes = λ e. absurd (c.if-word.false (eqb-true _ _ e));
      no = λ d e. c.if-word.false (c.word.ensures
          ∙ (name-first-words (table) (small) c.requires.table_length_in_bounds.0 c.args.j c.args.k c.requires.table_length_in_bounds.1.0 c.requires.table_length_in_bounds.1.1
          c.requires.name_held.0 c.requires.name_held.1 e ∙ sym c.word-2.ensures));
    }

pub returns-then-word : goal.returns-then-word
returns-then-word c =
    let table : List ℕ = c.args.table.now in
    let small : (i : ℕ) → byte_at table i < 256 = λ i. omega (arith, c.type_inv.table i) in
    let first = sym c.word.ensures ∙ (c.if-word.true ∙ c.word-2.ensures) in
    let one = c.word-then-word in
    let other = c.word-then-word-2 in
    record {
      yes = λ e. words-name (table) (small) c.requires.table_length_in_bounds.0 c.args.j c.args.k c.requires.table_length_in_bounds.1.0 c.requires.table_length_in_bounds.1.1
          c.requires.name_held.0 c.requires.name_held.1 first (sym one.ensures ∙ (eqb-true _ _ e ∙ other.ensures));
      no = λ e p. eqb-false _ _ e (one.ensures
          ∙ (name-second-words (table) (small) c.requires.table_length_in_bounds.0 c.args.j c.args.k c.requires.table_length_in_bounds.1.0 c.requires.table_length_in_bounds.1.1
          c.requires.name_held.0 c.requires.name_held.1 p ∙ sym other.ensures));
    }
