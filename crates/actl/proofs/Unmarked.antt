-- A text without marks is read as by the grammar without marks: it has the same trees, the same beginnings, and so the same answers.
use mathlib.Core.Path.{◌≡◌, refl, sym, ◌∙◌, subst}
use mathlib.Core.Logic.{◌↔◌}
use mathlib.Core.List.{List, [], ◌∷◌, ◌++◌}
use Prim.Native.Nat.{ℕ}
use lib.ListN.{take}
use Rattle.lts.specs.Reply.{Reply}
use Rattle.lts.specs.Marks.{unmarked, marked}
use Rattle.lts.specs.Directions.{Plain}
use Rattle.lts.proofs.Laws.Unmarked.{plain_append, plain_take}
use Rattle.actl.specs.Formulas.{Formula}
use Rattle.actl.specs.Grammar.{Disjunction, pieces_f}
use Rattle.actl.specs.Grammatical.{Text, Grammatical, Viable, Longest}
use Rattle.actl.specs.ByGrammar.{ReadBy, long, ungrammatical, grammatical}
use Rattle.actl.specs.inner.Show.{show_f}
use Rattle.actl.specs.inner.Reader.{State, ReaderStep, go, stop, read_byte, proceed, run, start, whole, refused}
use Rattle.actl.proofs.Sound.{shown, Reads, goes, stops, step-reads, completes}
use Rattle.actl.proofs.Marks.{pieces_fit, plain_fits}
use Rattle.actl.proofs.Pieces.{shown_text}
use Rattle.actl.proofs.Grammar.{not_both, read-text}

-- A tree without marks is one of the grammar with them.
pub with_marks : (s : List ℕ) (f : Disjunction) → Text unmarked s f → Text marked s f
with_marks s f h = record { fits = pieces_fit (pieces_f f []); shows = h.shows }

pub without_marks : (s : List ℕ) (f : Disjunction) → Plain s → Text marked s f → Text unmarked s f
without_marks s f p h = record { fits = plain_fits (pieces_f f []) (subst Plain (sym h.shows) p); shows = h.shows }

-- What the reader has read of a text that is read whole.
read_so_far : (p t : List ℕ) (x : State) (f : Disjunction) → run (p ++ t) x ≡ whole f → (y : State) × ((s : List ℕ) → shown x (p ++ s) ≡ shown y s)
read_so_far [] t x f e = (x, λ s. refl)
read_so_far (b ∷ p) t x f e = step (read_byte x b) (step-reads x b) (λ y. read_so_far p t y f) e
  where
    step : (v : ReaderStep) → Reads (shown x) b v → ((y : State) → run (p ++ t) y ≡ whole f → (z : State) × ((s : List ℕ) → shown y (p ++ s) ≡ shown z s))
        → proceed v (run (p ++ t)) (refused (b ∷ (p ++ t))) ≡ whole f → (z : State) × ((s : List ℕ) → shown x (b ∷ (p ++ s)) ≡ shown z s)
    step (go y) (goes h) again e = let (z, k) = again y e in (z, λ s. h (p ++ s) ∙ k s)
    step stop stops again e = not_both e

-- A beginning without marks goes on without marks.
pub viable_without : (p : List ℕ) → Plain p → Viable marked p → Viable unmarked p
viable_without p h (rest, (f, d)) =
    let (y, k) = read_so_far p rest start f ((read-text (p ++ rest) f).1 d) in
    let (g, s, e, q) = completes y in
    let whole-text : show_f g [] ≡ p ++ s = sym (k s ∙ e) in
    (s, (g, without_marks (p ++ s) g (plain_append p s h q) (shown_text g whole-text)))

pub viable_with : (p : List ℕ) → Viable unmarked p → Viable marked p
viable_with p (rest, (f, d)) = (rest, (f, with_marks (p ++ rest) f d))

module _ (text : List ℕ) (plain : Plain text) where
  longest_without : (n : ℕ) → Longest marked text n → Longest unmarked text n
  longest_without n h = record {
    within = h.within;
    begins = viable_without (take n text) (plain_take n text plain) h.begins;
    most = λ k w v. h.most k w (viable_with (take k text) v);
  }

  longest_with : (n : ℕ) → Longest unmarked text n → Longest marked text n
  longest_with n h = record {
    within = h.within;
    begins = viable_with (take n text) h.begins;
    most = λ k w v. h.most k w (viable_without (take k text) (plain_take k text plain) v);
  }

  -- 02: "Tables without marks read as before", and formulas do.
  pub read_without_marks : (names : List (List ℕ)) (r : Reply Formula) → ReadBy marked names text r ↔ ReadBy unmarked names text r
  read_without_marks names r = (fewer, more)
    where
      fewer : ReadBy marked names text r → ReadBy unmarked names text r
      fewer (long h e) = long h e
      fewer (ungrammatical h g n l e) = ungrammatical h (λ (p : Grammatical unmarked text). g (p.0, with_marks text p.0 p.1)) n (longest_without n l) e
      fewer (grammatical h f p e) = grammatical h f (without_marks text f plain p) e

      more : ReadBy unmarked names text r → ReadBy marked names text r
      more (long h e) = long h e
      more (ungrammatical h g n l e) = ungrammatical h (λ (p : Grammatical marked text). g (p.0, without_marks text p.0 plain p.1)) n (longest_with n l) e
      more (grammatical h f p e) = grammatical h f (with_marks text f p) e
