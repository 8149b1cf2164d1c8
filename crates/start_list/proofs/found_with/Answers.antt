-- `found_with` meets its contract: a right entry leaves what was found.
use mathlib.Core.Path.{◌≡◌, refl, sym, ap, ◌∙◌}
use mathlib.Core.Bool.{cond}
use mathlib.Core.Option as math
use Prim.Native.Nat.{ℕ}
use Rattle.std.specs.Option.{option_or}
use Rattle.std.specs.Prelude.{Option, None, Some}
use Rattle.tables.specs.inner.Access.{found_in}
use Rattle.starts.specs.inner.Search.{earlier}
use Rattle.start_list.proofs.found_with.Goals as goal

nothing-later : (o : Option ℕ) → found_in o ≡ earlier (found_in o) math.none
nothing-later None = refl
nothing-later (Some i) = refl

or-later : (o : Option ℕ) (i : ℕ) → found_in (option_or o (Some i)) ≡ earlier (found_in o) (math.some i)
or-later None i = refl
or-later (Some k) i = refl

pub returns-then-right : goal.returns-then-right
returns-then-right c =
    let a = c.args in
    nothing-later a.found ∙ sym (ap (λ b. earlier (found_in a.found) (cond b math.none (math.some a.i))) c.if-right.true)

pub returns-else-right : goal.returns-else-right
returns-else-right c =
    let a = c.args in
    ap found_in c.or.ensures ∙ or-later a.found a.i ∙ sym (ap (λ b. earlier (found_in a.found) (cond b math.none (math.some a.i))) c.if-right.false)
