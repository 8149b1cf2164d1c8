-- What is written for what was read of two files is what the program is to write for them: `combined-right`.
use mathlib.Core.Path.{◌≡◌, ap₂, ◌∙◌}
use mathlib.Core.List.{List}
use Prim.Native.Nat.{ℕ}
use Rattle.lts.specs.Reply.{Reply}
use Rattle.lts.specs.Steps.{Table}
use Rattle.lts.specs.TableText.{table_text}
use Rattle.lts.proofs.Laws.Bounded.{reading_bounded}
use Rattle.files.specs.inner.Files.{Begins}
use Rattle.side_by_side.specs.Combining.{combining}
use Rattle.combined_text.specs.CombinedText.{unless_refused, combined_text}

pub combined-right : (one two part other : List ℕ) → Begins part one → Begins other two → combined_text part other ≡ combined_text one two
unfolding combined_text
combined-right one two part other (n, a, d) (m, b, e) =
    ap₂ (λ (p q : List ℕ). combined_text p q) d e
    ∙ ap₂ (λ (r u : Reply Table). unless_refused 1 r (λ f. unless_refused 2 u (λ s. unless_refused 0 (combining f s) table_text))) (reading_bounded n one a) (reading_bounded m two b)
