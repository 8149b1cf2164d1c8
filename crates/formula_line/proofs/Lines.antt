-- The line that is made of what was written back.
use mathlib.Core.Path.{◌≡◌, refl, sym, ap, ◌∙◌, subst}
use mathlib.Core.List.{List, [], ◌∷◌, ◌++◌}
use Prim.Native.Nat.{ℕ, ◌+◌, ◌≤◌, ◌<◌}
use native.Mathlib.Nat.{zero-add}
use native.Mathlib.Omega.{arith}
use lib.ListN.{length, set, length-append}
use Rattle.columns.proofs.Laws.Pasted.{pasted-byte}
use Rattle.lts.specs.Reply.{Reply, accepted, refusal, overwritten, left_in}
use Rattle.lts.proofs.Laws.Pasted.{pasted-start}
use Rattle.lts.proofs.Laws.Refusals.{Between, numbered_of}
use Rattle.actl.specs.Sizes.{longest_text}
use Rattle.explanations.specs.inner.Printed.{TextWritten}
use Rattle.replies.specs.Interface.{number_in, figure_in}
use Rattle.replies.specs.declared.Answer.{Answer}
use Rattle.explaining.proofs.Answers.{refused_so_lem}
use Rattle.files.specs.inner.Writing.{refused_line}
use Rattle.formula_line.specs.LineText.{written_back}
use Rattle.formula_line.specs.inner.Back.{WroteBack}
use Rattle.formula_line.specs.inner.FileLine.{counted_line}
use Rattle.formula_line.proofs.Reading.{back_numbers, written-short}

module _ (table_text text before after : List ℕ) {a : Answer} (wrote : WroteBack table_text text before after a) where
  abbrev W : Reply (List ℕ)
  W = written_back table_text text

  -- A refusal leaves the buffer.
  pub refused-line : (counted : ℕ) → (a.number ≡ 0 → ⊥) → {out : List ℕ} {end : ℕ}
      → TextWritten (refused_line counted a.number a.figure) after out end → TextWritten (counted_line counted W) before out end
  refused-line counted h {out} {end} w =
      let is = refused_so_lem W wrote.says h in
      let kept : after ≡ before = wrote.left ∙ ap (λ x. left_in (λ s. s) x before) is in
      subst (λ (x : Reply (List ℕ)). TextWritten (counted_line counted x) before out end) (sym is)
      (subst (λ (b : List ℕ). TextWritten (refused_line counted a.number a.figure) b out end) kept w)

  -- The text, and its length.
  pub record Line : Type 0 where
    pub line : List ℕ
    pub is_line : W ≡ accepted line
    pub long : length line ≡ a.figure
    pub short : a.figure ≤ longest_text

  pub line-written : a.number ≡ 0 → Line
  line-written z = by W refl
    where
      by : (x : Reply (List ℕ)) → W ≡ x → Line
      by (refusal n g) e =
          let least = (numbered_of (Between 1 15) W n g (back_numbers table_text text) e).0 in
          absurd (omega (arith, least, wrote.says.number_said ∙ ap number_in e))
      by (accepted s) e =
          let long : length s ≡ a.figure = sym (wrote.says.figure_said ∙ ap (figure_in length) e) in
          record { line = s; is_line = e; long = long; short = omega (arith, written-short table_text text s e) }

  -- An LF behind it.
  pub ended-line : (counted : ℕ) → a.number ≡ 0 → a.figure < length before → {out : List ℕ} {end : ℕ}
      → end ≡ a.figure + 1 → out ≡ set after a.figure 10 → TextWritten (counted_line counted W) before out end
  ended-line counted z room {out} {end} e o =
      let l = line-written z in
      let s = l.line in
      let left : after ≡ overwritten s before = wrote.left ∙ ap (λ x. left_in (λ s. s) x before) l.is_line in
      let at : a.figure ≡ 0 + length s = sym l.long ∙ sym (zero-add (length s)) in
      let behind = pasted-byte 0 a.figure 10 s before after (left ∙ sym (pasted-start before s)) at room in
      subst (λ (x : Reply (List ℕ)). TextWritten (counted_line counted x) before out end) (sym l.is_line)
      (record { is = o ∙ behind ∙ pasted-start before (s ++ (10 ∷ [])); ends = omega (arith, l.long, length-append s (10 ∷ [])) })
