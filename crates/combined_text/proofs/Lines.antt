-- What is written for two files, by what they were read to.
use mathlib.Core.Path.{◌≡◌, sym, subst}
use mathlib.Core.List.{List}
use Prim.Native.Nat.{ℕ}
use Rattle.std.proofs.Common.{Result, Ok, Err, MatchResult}
use Rattle.replies.specs.declared.Answer.{Answer}
use Rattle.lts.specs.Reading.{read_table}
use Rattle.lts.specs.Reply.{Reply, accepted, refusal}
use Rattle.lts.specs.Steps.{Table}
use Rattle.lts.specs.TableText.{table_text}
use Rattle.explanations.specs.inner.Printed.{TextWritten}
use Rattle.side_by_side.specs.Combining.{combining}
use Rattle.combined_text.specs.CombinedText.{refused_line, unless_refused, combined_text}
use Rattle.combined_text.specs.inner.Reading.{BothHeld, FileHeld, FileRead}

abbrev lines_of : Reply Table → Reply Table → List ℕ
lines_of r u = unless_refused 1 r (λ f. unless_refused 2 u (λ s. unless_refused 0 (combining f s) table_text))

module _ (one two before out : List ℕ) (n : ℕ) where
  pub first-refused : (number figure : ℕ) → read_table one ≡ refusal number figure → TextWritten (refused_line 1 number figure) before out n → TextWritten (combined_text one two) before out n
  unfolding combined_text
  first-refused number figure e w = subst (λ (r : Reply Table). TextWritten (lines_of r (read_table two)) before out n) (sym e) w

  pub second-refused : (f : Table) → read_table one ≡ accepted f → (number figure : ℕ) → read_table two ≡ refusal number figure
      → TextWritten (refused_line 2 number figure) before out n → TextWritten (combined_text one two) before out n
  unfolding combined_text
  second-refused f d number figure e w =
      subst (λ (r : Reply Table). TextWritten (lines_of r (read_table two)) before out n) (sym d) (subst (λ (r : Reply Table). TextWritten (lines_of (accepted f) r) before out n) (sym e) w)

  pub both-written : (f s : Table) → read_table one ≡ accepted f → read_table two ≡ accepted s → TextWritten (unless_refused 0 (combining f s) table_text) before out n
      → TextWritten (combined_text one two) before out n
  unfolding combined_text
  both-written f s d e w =
      subst (λ (r : Reply Table). TextWritten (lines_of r (read_table two)) before out n) (sym d) (subst (λ (r : Reply Table). TextWritten (lines_of (accepted f) r) before out n) (sym e) w)

-- What `accepted` makes of the answer to a reading.
pub file_read : (file table : List ℕ) {a : Answer} (r : Result ℕ Answer)
    → MatchResult r (λ figure. (a.number ≡ 0) × (figure ≡ a.figure)) (λ b. (a.number ≡ 0 → ⊥) × (b ≡ a))
    → ((a.number ≡ 0 → ⊥) → read_table file ≡ refusal a.number a.figure) → (a.number ≡ 0 → FileHeld file table) → FileRead file table r
file_read file table (Ok n) (z, e) refused taken = taken z
file_read file table (Err b) (h, e) refused taken = subst (λ (x : Answer). read_table file ≡ refusal x.number x.figure) (sym e) (refused h)

abbrev pub both-held : (one two first second : List ℕ) → FileHeld one first → FileHeld two second → BothHeld first second
both-held one two first second x y = record { f = x.t; s = y.t; first_held = x.held; second_held = y.held }
