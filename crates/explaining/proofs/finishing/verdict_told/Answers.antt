-- `verdict_told` meets its contract: something is explained if there is an edge or the mark is set; by the class, that says what holds.
use mathlib.Core.Path.{◌≡◌, sym, ap, ◌∙◌}
use mathlib.Core.Bool.{Bool, cond, not as negate, ◌||◌}
use lib.Dec.{eqb, ltb}
use borrow.Author.Tests.{lt-ltb, le-ltb, eq-eqb, ne_eqb}
use Rattle.automaton.specs.Bytes.{bit_of}
use Rattle.automaton.specs.inner.Search.{explains}
use Rattle.explaining.proofs.finishing.verdict_told.Goals as goal
use Rattle.explaining.proofs.finishing.verdict_told.Goals.{then-edges-gt0, else-edges-gt0, then-class-eq1, else-class-eq1}

pub returns-then-holds : goal.returns-then-holds
returns-then-holds c =
    let a = c.args in
    let explained : Bool = ltb 0 a.edges || eqb a.mark 1 in
    let is_explained : c.if-edges-gt0.explained ≡ explained = elim c.if-edges-gt0.branch [
      | then-edges-gt0 w ↦ let z = lt-ltb 0 a.edges w.if-edges-gt0.true in w.explained-is ∙ (z ∙ sym (ap (λ b. b || eqb a.mark 1) z))
      | else-edges-gt0 w ↦ w.explained-is ∙ sym (ap (λ b. b || eqb a.mark 1) (le-ltb 0 a.edges w.if-edges-gt0.false))
    ] in
    let h = c.if-edges-gt0.explained in
    let by_class : c.if-class-eq1.holds ≡ explains a.class h = elim c.if-class-eq1.branch [
      | then-class-eq1 w ↦ w.holds-is ∙ sym (ap (λ b. cond b h (negate h)) (eq-eqb a.class 1 w.if-class-eq1.true))
      | else-class-eq1 w ↦ w.holds-is ∙ sym (ap (λ b. cond b h (negate h)) (ne_eqb a.class 1 w.if-class-eq1.false))
    ] in
    ap bit_of (sym c.if-holds.true ∙ (by_class ∙ ap (explains a.class) is_explained))

pub returns-else-holds : goal.returns-else-holds
returns-else-holds c =
    let a = c.args in
    let explained : Bool = ltb 0 a.edges || eqb a.mark 1 in
    let is_explained : c.if-edges-gt0.explained ≡ explained = elim c.if-edges-gt0.branch [
      | then-edges-gt0 w ↦ let z = lt-ltb 0 a.edges w.if-edges-gt0.true in w.explained-is ∙ (z ∙ sym (ap (λ b. b || eqb a.mark 1) z))
      | else-edges-gt0 w ↦ w.explained-is ∙ sym (ap (λ b. b || eqb a.mark 1) (le-ltb 0 a.edges w.if-edges-gt0.false))
    ] in
    let h = c.if-edges-gt0.explained in
    let by_class : c.if-class-eq1.holds ≡ explains a.class h = elim c.if-class-eq1.branch [
      | then-class-eq1 w ↦ w.holds-is ∙ sym (ap (λ b. cond b h (negate h)) (eq-eqb a.class 1 w.if-class-eq1.true))
      | else-class-eq1 w ↦ w.holds-is ∙ sym (ap (λ b. cond b h (negate h)) (ne_eqb a.class 1 w.if-class-eq1.false))
    ] in
    ap bit_of (sym c.if-holds.false ∙ (by_class ∙ ap (explains a.class) is_explained))
