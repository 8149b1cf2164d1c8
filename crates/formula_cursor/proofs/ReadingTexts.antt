-- A whole text: read to its end, or refused where no grammatical text goes on.
use mathlib.Core.Path.{◌≡◌, refl, sym, ap, ◌∙◌}
use mathlib.Core.List.{List, [], ◌∷◌}
use Prim.Native.Nat.{ℕ, zero, suc, ◌-◌, ◌≤◌}
use native.Mathlib.Decide.{dec_le}
use native.Mathlib.Omega.{arith}
use lib.ListN.{length, drop, length-drop, drop_of_length-le}
use lib.Seq.{drop-cons}
use Rattle.actl.specs.inner.Show.{gap, show_f}
use Rattle.actl.specs.inner.Reader.{f_top, t_first, term_at, after_disjunction, stop, read_byte, finish_disjunction, proceed, run, start, read, refused}
use Rattle.actl.specs.inner.Mentions.{names_f}
use Rattle.actl.specs.inner.Cursor.{peek, Token, Marked, Fails}
use Rattle.actl.specs.inner.Readers.{unknown_in, earlier, FormulaRead, WholeRead, RefusedAt}
use Rattle.actl.specs.inner.Meaning.{formula_f}
use Rattle.formula_cursor.proofs.ReadingPlaces.{run-stop}
use Rattle.formula_cursor.proofs.ReadingMoves.{on-other}
use Rattle.actl.proofs.ReadingLabels.{first_unknown_lem}
use Rattle.actl.proofs.ReadingNodes.{bytes-length}

pub refused-at : (s : List ℕ) (to : ℕ) → to ≤ length s → read s ≡ refused (drop to s) → RefusedAt s to
refused-at s to h e = record { rest = drop to s; reads = e; figure = omega (arith, length-drop to s) }

pub text_fails : (s : List ℕ) {to : ℕ} → Fails s 0 to (λ k. term_at (t_first k)) → RefusedAt s to
text_fails s {to} h = refused-at s to h.within (h.reads f_top)

pub text_blank : (s : List ℕ) {to : ℕ} → Marked s 0 32 to → RefusedAt s 0
text_blank s h = refused-at s 0 (omega arith) (run-stop s 0 start (omega arith) refl (ap (read_byte start) h.here))

pub text-token : (s : List ℕ) → (peek s 0 ≡ 32 → ⊥) → Token s 0
text-token s h = record { within = omega arith; past = h }

module _ {N : List (List ℕ)} {s e : List ℕ} {end to m l : ℕ} {x : List ℕ} (h : FormulaRead N s 0 0 0 e end to m l x) where
  -- Blanks behind the formula, and whatever stands behind them.
  pub text-rest : (end ≡ length s → ⊥) → RefusedAt s to
  text-rest n = refused-at s to h.token.within (h.moves.reads f_top ∙ rest (dec_le (length s) to))
    where
      ends : (g : ℕ) → to - end ≡ g → length s ≤ to → finish_disjunction h.value f_top g ≡ refused []
      ends zero z w = absurd (n (omega (arith, h.blanks, h.moves.within)))
      ends (suc g) z w = refl

      stuck : read_byte (after_disjunction h.value f_top (to - end)) (peek s to) ≡ stop
      stuck = on-other (peek s to) 32 _ _ h.token.past ∙ (on-other (peek s to) 38 _ _ h.no_and ∙ on-other (peek s to) 124 _ _ h.no_or)

      rest : Dec (length s ≤ to) → run (drop to s) (after_disjunction h.value f_top (to - end)) ≡ refused (drop to s)
      rest (yes w) =
          let d = drop_of_length-le s w in
          ap (λ r. run r (after_disjunction h.value f_top (to - end))) d ∙ (ends (to - end) refl w ∙ ap refused (sym d))
      rest (no w) =
          let d = drop-cons s to 256 (omega arith) in
          ap (λ r. run r (after_disjunction h.value f_top (to - end))) d
          ∙ (ap (λ v. proceed v (run (drop (suc to) s)) (refused (peek s to ∷ drop (suc to) s))) stuck ∙ ap refused (sym d))

  pub text-whole : end ≡ length s → WholeRead N s e x m l
  text-whole z =
      let w : to ≡ length s = omega (arith, h.blanks, h.moves.within) in
      let b : to - end ≡ 0 = omega arith in
      let d : drop to s ≡ [] = drop_of_length-le s (let v : length s ≤ to = omega arith in v) in
      let t : s ≡ show_f h.value [] = h.moves.text ∙ (λ i. show_f h.value (gap (b i) (d i))) in
      record {
        value = h.value;
        reads = h.moves.reads f_top ∙ (λ i. run (d i) (after_disjunction h.value f_top (b i)));
        count = omega (arith, h.written.ends, bytes-length (formula_f N h.value));
        long = h.written.long;
        made = h.written.made;
        lacks = h.lacks ∙ (λ i. earlier 0 (unknown_in N (length (t i)) (names_f h.value (gap (b i) (d i)))))
            ∙ ap (earlier 0) (first_unknown_lem N h.value (names_f h.value []));
      }
