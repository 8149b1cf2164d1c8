-- The text that is made of what was asked: a refusal's line, or the lines of the list.
use mathlib.Core.Path.{◌≡◌, refl, sym, ap, ◌∙◌, subst}
use mathlib.Core.Bool.{Bool, true, false}
use mathlib.Core.List.{List}
use Prim.Native.Nat.{ℕ, ◌≤◌, ◌<◌}
use native.Mathlib.Omega.{arith}
use lib.Dec.{eqb}
use lib.ListN.{length, take}
use Rattle.lts.specs.Lists.{every}
use Rattle.lts.specs.Sizes.{most_states}
use Rattle.lts.specs.Reply.{Reply, accepted, refusal, overwritten, left_in}
use Rattle.lts.proofs.Laws.Refusals.{Between, numbered_of}
use Rattle.explanations.specs.inner.Printed.{TextWritten}
use Rattle.replies.specs.Interface.{number_in, figure_in}
use Rattle.replies.specs.declared.Answer.{Answer}
use Rattle.explaining.proofs.Answers.{refused_so_lem}
use Rattle.files.specs.inner.Writing.{refused_line}
use Rattle.starts.specs.VerdictsAsked.{joint}
use Rattle.verdict_text.specs.VerdictsText.{entries_in, listed_verdicts}
use Rattle.verdict_text.specs.inner.Entries.{ListRead, entry_lines}
use Rattle.verdict_lines.specs.inner.Asking.{verdicts_over, Asked}
use Rattle.verdict_lines.specs.inner.FileLines.{counted_lines}
use Rattle.verdict_lines.proofs.Laws.Listing.{over_numbers, over_refused, over_stopped, over_listed, over_few}

joint-small : (vs : List ℕ) → joint vs < 256
joint-small vs = by (every (λ v. eqb v 1) vs)
  where
    by : (b : Bool) → mathlib.Core.Bool.cond b 1 0 < 256
    by true = omega arith
    by false = omega arith

module _ (table_text text list starts buffer buffer' : List ℕ) (count : ℕ) (read : ListRead list starts count) {a : Answer}
    (asked : Asked table_text text (take count starts) buffer buffer' a) (counted : ℕ) where
  abbrev over : Reply (List ℕ)
  over = verdicts_over table_text text (take count starts)

  abbrev lines : Reply (List ℕ)
  lines = listed_verdicts table_text text (entries_in list)

  module _ {before out : List ℕ} {end : ℕ} where
    -- The lines of an equal reply.
    same_lines : {r : Reply (List ℕ)} → lines ≡ r → TextWritten (counted_lines counted r) before out end → TextWritten (counted_lines counted lines) before out end
    same_lines e w = subst (λ (x : Reply (List ℕ)). TextWritten (counted_lines counted x) before out end) (sym e) w

    pub refused-lines : (a.number ≡ 0 → ⊥) → TextWritten (refused_line counted a.number a.figure) before out end
        → TextWritten (counted_lines counted lines) before out end
    refused-lines h = same_lines (over_refused list starts count read table_text text (refused_so_lem over asked.says h))

  -- What was accepted.
  pub record Listed : Type 0 where
    pub verdicts : List ℕ
    pub is : over ≡ accepted verdicts
    pub answer : joint verdicts ≡ a.figure
    pub small : a.figure < 256
    pub few : count ≤ most_states

  pub was_listed : a.number ≡ 0 → Listed
  was_listed z = by over refl
    where
      by : (x : Reply (List ℕ)) → over ≡ x → Listed
      by (refusal n g) e =
          let least = (numbered_of (Between 1 16) over n g (over_numbers table_text text (take count starts)) e).0 in
          absurd (omega (arith, least, asked.says.number_said ∙ ap number_in e))
      by (accepted vs) e =
          let answer : joint vs ≡ a.figure = sym (asked.says.figure_said ∙ ap (figure_in joint) e) in
          record { verdicts = vs; is = e; answer = answer; small = omega (arith, joint-small vs); few = over_few list starts count read table_text text e }

  module _ (z : a.number ≡ 0) {before out : List ℕ} {end : ℕ} where
    pub stopped_lines : count < length (entries_in list) → TextWritten (refused_line counted 16 count) before out end → TextWritten (counted_lines counted lines) before out end
    stopped_lines h = same_lines (over_stopped list starts count read table_text text (was_listed z).is h)

    pub listed-lines : length (entries_in list) ≤ count → TextWritten (entry_lines a.figure count starts buffer') before out end
        → TextWritten (counted_lines counted lines) before out end
    listed-lines h w =
        let l = was_listed z in
        let vs = l.verdicts in
        let left : buffer' ≡ overwritten vs buffer = asked.left ∙ ap (λ r. left_in (λ x. x) r buffer) l.is in
        same_lines (over_listed list starts count read table_text text l.is h buffer)
        (subst (λ s. TextWritten s before out end) (λ k. entry_lines (sym l.answer k) count starts (left k)) w)
