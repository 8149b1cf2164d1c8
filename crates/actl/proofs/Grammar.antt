-- The reader answers with a text's only tree, or with the length of the longest beginning that some grammatical text has.
use mathlib.Core.Path.{◌≡◌, refl, sym, ap, ◌∙◌, subst}
use mathlib.Core.Logic.{◌⊎◌, inl, inr, ◌↔◌}
use mathlib.Core.List.{List, [], ◌∷◌, ◌++◌, append_assoc}
use Prim.Native.Nat.{ℕ, zero, suc, ◌+◌, ◌-◌, ◌≤◌}
use native.Mathlib.Decide.{dec_le}
use native.Mathlib.Omega.{arith}
use lib.ListN.{length, take, length-append}
use lib.Seq.{take-append_seam, take-append-add}
use Rattle.lts.specs.Marks.{Marks, marked}
use Rattle.actl.specs.Grammar.{Disjunction}
use Rattle.actl.specs.Grammatical.{Text, Viable, Longest}
use Rattle.actl.specs.inner.Show.{show_f}
use Rattle.actl.specs.inner.Reader.{f_top, f_paren, State, term_at, after_e, after_a, after_first, after_second, after_labelled, after_next, after_until}
use Rattle.actl.specs.inner.Reader.{bracket_at, operand_at, after_dot, naming, after_set, after_disjunction, ReaderStep, go, stop, read_byte, finish}
use Rattle.actl.specs.inner.Reader.{proceed, run, start, read, whole, refused}
use Rattle.actl.proofs.Sound.{shown, Reads, goes, stops, step-reads, completes}
use Rattle.actl.proofs.Complete.{formula-read}
use Rattle.actl.proofs.Pieces.{text_shown, shown_text}

pub not_both : {A : Type 0} {r : List ℕ} {f : Disjunction} → refused r ≡ whole f → A
not_both e = absurd (let z : ◌≡◌ {A = ℕ} 0 1 = cc in omega arith)

same_rest : {r s : List ℕ} → refused r ≡ refused s → r ≡ s
same_rest e = cc

same-tree : {f g : Disjunction} → whole f ≡ whole g → f ≡ g
same-tree e = cc

-- The end of the text: it stands behind a whole formula, or a byte is missing.
finished : (x : State) → (finish x ≡ refused []) ⊎ ((f : Disjunction) × (finish x ≡ whole f) × (shown x [] ≡ show_f f []))
finished (term_at k) = inl refl
finished (after_e k) = inl refl
finished (after_a k) = inl refl
finished (after_first q k) = inl refl
finished (after_second q k) = inl refl
finished (after_labelled q k g) = inl refl
finished (after_next q k g) = inl refl
finished (after_until k g) = inl refl
finished (bracket_at q a k g) = inl refl
finished (operand_at k) = inl refl
finished (after_dot q a c k g) = inl refl
finished (naming n k) = inl refl
finished (after_set x k g) = inl refl
finished (after_disjunction f f_top zero) = inr (f, refl, refl)
finished (after_disjunction f f_top (suc n)) = inl refl
finished (after_disjunction f (f_paren k a) n) = inl refl

finish-whole : (x : State) (f : Disjunction) → finish x ≡ whole f → shown x [] ≡ show_f f []
finish-whole x f e = elim (finished x) [ inl d ↦ not_both (sym d ∙ e) | inr d ↦ d.2 ∙ ap (λ g. show_f g []) (same-tree (sym d.1 ∙ e)) ]

finish-refused : (x : State) (r : List ℕ) → finish x ≡ refused r → [] ≡ r
finish-refused x r e = elim (finished x) [ inl d ↦ same_rest (sym d ∙ e) | inr d ↦ not_both (sym e ∙ d.1) ]

-- A text that is read whole is the tree's.
run-whole : (s : List ℕ) (x : State) (f : Disjunction) → run s x ≡ whole f → shown x s ≡ show_f f []
run-whole [] x f e = finish-whole x f e
run-whole (b ∷ s) x f e = next (read_byte x b) (step-reads x b) (λ y. run-whole s y f) e
  where
    next : (v : ReaderStep) → Reads (shown x) b v → ((y : State) → run s y ≡ whole f → shown y s ≡ show_f f []) → proceed v (run s) (refused (b ∷ s)) ≡ whole f → shown x (b ∷ s) ≡ show_f f []
    next (go y) (goes p) ih e = p s ∙ ih y e
    next stop stops ih e = not_both e

-- Where a text is refused: a state was reached, and the next byte leads nowhere, whatever follows.
pub record Refusal (x : State) (s r : List ℕ) : Type 0 where
  pub front : List ℕ
  pub at : State
  pub parts : s ≡ front ++ r
  pub reached : (t : List ℕ) → shown x (front ++ t) ≡ shown at t
  pub dead : (b : ℕ) (l : List ℕ) → r ≡ b ∷ l → (t : List ℕ) → run (front ++ b ∷ t) x ≡ refused (b ∷ t)

nil-cons : {A : Type 0} {b : ℕ} {l : List ℕ} → [] ≡ b ∷ l → A
nil-cons e = absurd (let z : ◌≡◌ {A = ℕ} 0 1 = cc in omega arith)

same_head : {b c : ℕ} {l m : List ℕ} → b ∷ l ≡ c ∷ m → b ≡ c
same_head e = cc

run-refused : (s : List ℕ) (x : State) (r : List ℕ) → run s x ≡ refused r → Refusal x s r
run-refused [] x r e = record { front = []; at = x; parts = finish-refused x r e; reached = λ t. refl; dead = λ b l d t. nil-cons (finish-refused x r e ∙ d) }
run-refused (b ∷ s) x r e = next (read_byte x b) refl (step-reads x b) (λ y. run-refused s y r) e
  where
    next : (v : ReaderStep) → read_byte x b ≡ v → Reads (shown x) b v → ((y : State) → run s y ≡ refused r → Refusal y s r) → proceed v (run s) (refused (b ∷ s)) ≡ refused r → Refusal x (b ∷ s) r
    next (go y) w (goes p) ih e = let h = ih y e in record {
      front = b ∷ h.front;
      at = h.at;
      parts = ap (λ l. b ∷ l) h.parts;
      reached = λ t. p (h.front ++ t) ∙ h.reached t;
      dead = λ c l d t. ap (λ v. proceed v (run (h.front ++ c ∷ t)) (refused (b ∷ (h.front ++ c ∷ t)))) w ∙ h.dead c l d t;
    }
    next stop w stops ih e = record {
      front = [];
      at = x;
      parts = same_rest e;
      reached = λ t. refl;
      dead = λ c l d t. ap (λ v. proceed v (run t) (refused (c ∷ t))) (ap (read_byte x) (same_head (sym d ∙ sym (same_rest e))) ∙ w);
    }

-- The theorems.
shown_read : (s : List ℕ) (f : Disjunction) → show_f f [] ≡ s → read s ≡ whole f
shown_read s f e = ap read (sym e) ∙ formula-read f f_top []

pub read-text : (s : List ℕ) (f : Disjunction) → (read s ≡ whole f) ↔ Text marked s f
read-text s f = (λ e. shown_text f (sym (run-whole s start f e)), λ e. shown_read s f (text_shown f e))

pub one-tree : (m : Marks) (s : List ℕ) (f g : Disjunction) → Text m s f → Text m s g → f ≡ g
one-tree m s f g p q = same-tree (sym (shown_read s f (text_shown f p)) ∙ shown_read s g (text_shown g q))

pub refused-text : (s r : List ℕ) (f : Disjunction) → read s ≡ refused r → show_f f [] ≡ s → ⊥
refused-text s r f e p = not_both (sym e ∙ shown_read s f p)

module _ (p : List ℕ) (x : State) (reached : (t : List ℕ) → p ++ t ≡ shown x t) where
  beyond : (r : List ℕ) (j : ℕ) → ((b : ℕ) (l : List ℕ) → r ≡ b ∷ l → (t : List ℕ) → read (p ++ b ∷ t) ≡ refused (b ∷ t))
      → suc j ≤ length r → Viable marked (p ++ take (suc j) r) → ⊥
  beyond [] j dead h v = omega arith
  beyond (b ∷ r) j dead h (t, (f, e)) = refused-text (p ++ b ∷ (take j r ++ t)) _ f (dead b r refl (take j r ++ t)) (text_shown f e ∙ append_assoc p (b ∷ take j r) t)

  longest : (r : List ℕ) → ((b : ℕ) (l : List ℕ) → r ≡ b ∷ l → (t : List ℕ) → read (p ++ b ∷ t) ≡ refused (b ∷ t)) → Longest marked (p ++ r) (length p)
  longest r dead = record {
    within = simp length-append (omega arith);
    begins = rw take-append_seam (let (f, t, e, _) = completes x in (t, (f, shown_text f (sym (reached t ∙ e)))));
    most = λ m h v. case m h v (dec_le m (length p));
  }
    where
      case : (m : ℕ) → m ≤ length (p ++ r) → Viable marked (take m (p ++ r)) → Dec (m ≤ length p) → m ≤ length p
      case m h v (yes q) = q
      case m h v (no q) =
          let j = m - length p - 1 in
          let e : m ≡ length p + suc j = omega arith in
          absurd (beyond r j dead (omega (arith, length-append p r)) (subst (Viable marked) (ap (λ i. take i (p ++ r)) e ∙ take-append-add p r (suc j)) v))

pub read-refused : (s r : List ℕ) → read s ≡ refused r → Longest marked s (length s - length r)
read-refused s r e =
    let h = run-refused s start r e in
    let d : length s - length r ≡ length h.front = omega (arith, simp length-append at (ap length h.parts)) in
    rw d (subst (λ l. Longest marked l (length h.front)) (sym h.parts) (longest h.front h.at h.reached r h.dead))
