-- The reader reads every text of the grammar, and gives its tree.
use mathlib.Core.Path.{◌≡◌, refl, sym, ap, ◌∙◌}
use mathlib.Core.Bool.{Bool, true, false, cond, Bool-set, true≢false}
use mathlib.Core.HLevel.{is_prop→PathP}
use mathlib.Core.List.{List, [], ◌∷◌, ◌++◌, append_assoc, append-nil}
use Prim.Native.Nat.{ℕ, zero, suc, ◌+◌}
use native.Mathlib.Nat.{add-zero}
use native.Mathlib.Omega.{arith}
use lib.Dec.{eqb}
use borrow.Author.Tests.{ne_eqb}
use Rattle.lts.specs.Names.{is_lower, is_name_byte, at_most, is_name}
use Rattle.lts.specs.Marks.{marked, is_mark}
use Rattle.lts.proofs.Booleans.{and-true-of}
use Rattle.lts.proofs.Laws.NameBytes.{name-more, name-ends}
use Rattle.actl.specs.Grammar.{Name, Set, operand, union, Operand, name, any, received, sent, except, group, Condition, dot, set, Quantifier, existential}
use Rattle.actl.specs.Grammar.{universal, Head, next, until, until_then, reach, labelled, Disjunction, conjunction, or, Conjunction, term, and, Term, tru, not}
use Rattle.actl.specs.Grammar.{modal, paren}
use Rattle.actl.specs.inner.Show.{gap, show_s, show_o, show_c, show_q, show_l, show_h, show_f, show_a, show_t}
use Rattle.actl.specs.inner.Reader.{InDisjunction, f_paren, InTerm, t_first, t_or, t_and, t_not, t_modal, InSet, s_paren, s_next, s_until, s_then, s_labelled, InOperand}
use Rattle.actl.specs.inner.Reader.{o_first, o_or, o_not, State, term_at, after_labelled, after_next, after_until, bracket_at, operand_at, after_dot, naming}
use Rattle.actl.specs.inner.Reader.{after_set, after_disjunction, ReaderStep, go, on, plug_t, plug_o, named, leave_o, read_byte, finish}
use Rattle.actl.specs.inner.Reader.{proceed, run, refused}
use Rattle.actl.proofs.Sound.{leave_step}

-- Blanks, where they count up.
abbrev up : ℕ → ℕ → ℕ
up zero g = g
up (suc n) g = up n (suc g)

up_add : (n g : ℕ) → up n g ≡ n + g
up_add zero g = omega arith
up_add (suc n) g = up_add n (suc g) ∙ omega arith

up-zero : (n : ℕ) → up n 0 ≡ n
up-zero n = up_add n 0 ∙ add-zero n

gaps_up : (x : ℕ → State) → ((g : ℕ) → read_byte (x g) 32 ≡ go (x (suc g))) → (n g : ℕ) (s : List ℕ) → run (gap n s) (x g) ≡ run s (x (up n g))
gaps_up x h zero g s = refl
gaps_up x h (suc n) g s = ap (λ v. proceed v (run (gap n s)) (refused (32 ∷ gap n s))) (h g) ∙ gaps_up x h n (suc g) s

pub gaps : (x : ℕ → State) → ((g : ℕ) → read_byte (x g) 32 ≡ go (x (suc g))) → (n : ℕ) (s : List ℕ) → run (gap n s) (x 0) ≡ run s (x n)
gaps x h n s = gaps_up x h n 0 s ∙ ap (λ g. run s (x g)) (up-zero n)

-- Names.
pub same_name : (m n : Name) → m.bytes ≡ n.bytes → m ≡ n
same_name m n e = λ i. record { bytes = e i; fits = is_prop→PathP (λ j. is_name (e j) ≡ true) (λ j. Bool-set (is_name (e j)) true) m.fits n.fits i }

pub named-yes : (l : List ℕ) (k : InOperand) (t : Bool) (e : is_name l ≡ t) (y : ReaderStep) (h : is_name l ≡ true) → named l k t e y ≡ go (naming (record { bytes = l; fits = h }) k)
named-yes l k true e y h = ap (λ v. go (naming (record { bytes = l; fits = v }) k)) (Bool-set (is_name l) true e h)
named-yes l k false e y h = absurd (true≢false (sym h ∙ e))

pub named-no : (l : List ℕ) (k : InOperand) (t : Bool) (e : is_name l ≡ t) (y : ReaderStep) → is_name l ≡ false → named l k t e y ≡ y
named-no l k true e y h = absurd (true≢false (sym e ∙ h))
named-no l k false e y h = refl

pub spell : (q : List ℕ) (m n : Name) (k : InOperand) (s : List ℕ) → n.bytes ≡ m.bytes ++ q → run (q ++ s) (naming m k) ≡ run s (naming n k)
spell [] m n k s e = ap (λ v. run s (naming v k)) (same_name m n (sym (append-nil m.bytes) ∙ sym e))
spell (b ∷ q) m n k s e =
    let h = name-more m.bytes b q (ap is_name (sym e) ∙ n.fits) in
    ap (λ v. proceed v (run (q ++ s)) (refused (b ∷ (q ++ s)))) (named-yes (m.bytes ++ (b ∷ [])) k (is_name (m.bytes ++ (b ∷ []))) refl (leave_o (name m) k b) h)
    ∙ spell q (record { bytes = m.bytes ++ (b ∷ []); fits = h }) n k s (e ∙ sym (append_assoc m.bytes (b ∷ []) q))

-- What a name cannot go on with.
abbrev pub Ends : List ℕ → Type 0
Ends [] = Unit {0}
Ends (b ∷ s) = (is_mark b ≡ false) × (is_name_byte b ≡ false)

pub ends-gap : (a b : ℕ) (s : List ℕ) → is_mark b ≡ false → is_name_byte b ≡ false → Ends (gap a (b ∷ s))
ends-gap zero b s p h = (p, h)
ends-gap (suc a) b s p h = (refl, refl)

pub leave_end : (o : Operand) (k : InOperand) → refused [] ≡ finish (plug_o o k)
leave_end o (o_first k) = refl
leave_end o (o_or x a k b) = refl
leave_end o (o_not k a) = leave_end (except a o) k

pub leave_at : (b : ℕ) (s : List ℕ) (n : Name) (k : InOperand) → is_name (n.bytes ++ (b ∷ [])) ≡ false → run (b ∷ s) (naming n k) ≡ run (b ∷ s) (plug_o (name n) k)
leave_at b s n k h = ap (λ v. proceed v (run s) (refused (b ∷ s))) (named-no (n.bytes ++ (b ∷ [])) k (is_name (n.bytes ++ (b ∷ []))) refl (leave_o (name n) k b) h ∙ leave_step (name n) k b)

pub leave : (s : List ℕ) (n : Name) (k : InOperand) → Ends s → run s (naming n k) ≡ run s (plug_o (name n) k)
leave [] n k h = leave_end (name n) k
leave (b ∷ s) n k h = leave_at b s n k (name-ends b h.0 h.1 n.bytes)

lower_not : (b m : ℕ) → is_lower b ≡ true → is_lower m ≡ false → eqb b m ≡ false
lower_not b m p q = ne_eqb b m (λ e. true≢false (sym p ∙ (ap is_lower e ∙ q)))

pub on-not : (b m : ℕ) (y z : ReaderStep) → is_lower b ≡ true → is_lower m ≡ false → on b m y z ≡ z
on-not b m y z p q = ap (λ t. cond t y z) (lower_not b m p q)

pub name-start : (b : ℕ) (k : InOperand) (h : is_name (b ∷ []) ≡ true) → read_byte (operand_at k) b ≡ go (naming (record { bytes = b ∷ []; fits = h }) k)
name-start b k h =
    let l = (and-true-of (is_lower b) true h).0 in
    on-not b 32 _ _ l refl ∙ (on-not b 42 _ _ l refl ∙ (on-not b 63 _ _ l refl
    ∙ (on-not b 33 _ _ l refl ∙ (on-not b 126 _ _ l refl ∙ (on-not b 40 _ _ l refl ∙ named-yes (b ∷ []) k (is_name (b ∷ [])) refl _ h)))))

spelled : (l : List ℕ) (h : is_name l ≡ true) (k : InOperand) (s : List ℕ) → run (l ++ s) (operand_at k) ≡ run s (naming (record { bytes = l; fits = h }) k)
spelled [] h k s = absurd (true≢false (sym h))
spelled (b ∷ q) h k s =
    let i = name-more [] b q h in
    ap (λ v. proceed v (run (q ++ s)) (refused (b ∷ (q ++ s)))) (name-start b k i) ∙ spell q (record { bytes = b ∷ []; fits = i }) (record { bytes = b ∷ q; fits = h }) k s refl

-- The trees.
mutual
  pub set-read : (x : Set) (k : InSet) (s : List ℕ) → Ends s → run (show_s x s) (operand_at (o_first k)) ≡ run s (after_set x k 0)
  set-read (operand o) k s h = operand_read o (o_first k) s h
  set-read (union x a b o) k s h =
      set-read x k (gap a (124 ∷ gap b (show_o o s))) (ends-gap a 124 _ refl refl)
      ∙ (gaps (after_set x k) (λ g. refl) a (124 ∷ gap b (show_o o s))
      ∙ (gaps (λ g. operand_at (o_or x a k g)) (λ g. refl) b (show_o o s) ∙ operand_read o (o_or x a k b) s h))

  pub operand_read : (o : Operand) (k : InOperand) (s : List ℕ) → Ends s → run (show_o o s) (operand_at k) ≡ run s (plug_o o k)
  operand_read (name n) k s h = spelled n.bytes n.fits k s ∙ leave s n k h
  operand_read any k s h = refl
  operand_read received k s h = refl
  operand_read sent k s h = refl
  operand_read (except a o) k s h = gaps (λ g. operand_at (o_not k g)) (λ g. refl) a (show_o o s) ∙ operand_read o (o_not k a) s h
  operand_read (group a x b) k s h =
      gaps (λ g. operand_at (o_first (s_paren k g))) (λ g. refl) a (show_s x (gap b (41 ∷ s)))
      ∙ (set-read x (s_paren k a) (gap b (41 ∷ s)) (ends-gap b 41 s refl refl) ∙ gaps (after_set x (s_paren k a)) (λ g. refl) b (41 ∷ s))

-- A set in the bracket of EX or AX is read as any set.
enter_name : (q : Quantifier) (a : ℕ) (k : InTerm) (g : ℕ) (l : List ℕ) (s : List ℕ) → is_name l ≡ true → run (l ++ s) (bracket_at q a k g) ≡ run (l ++ s) (operand_at (o_first (s_next q a k g)))
enter_name q a k g [] s h = absurd (true≢false (sym h))
enter_name q a k g (b ∷ l) s h =
    let i = (and-true-of (is_lower b) (at_most marked 11 l) h).0 in
    ap (λ v. proceed v (run (l ++ s)) (refused (b ∷ (l ++ s)))) (on-not b 32 _ _ i refl ∙ (on-not b 46 _ _ i refl ∙ sym (on-not b 32 _ _ i refl)))

enter_operand : (q : Quantifier) (a : ℕ) (k : InTerm) (g : ℕ) (o : Operand) (s : List ℕ) → run (show_o o s) (bracket_at q a k g) ≡ run (show_o o s) (operand_at (o_first (s_next q a k g)))
enter_operand q a k g (name n) s = enter_name q a k g n.bytes s n.fits
enter_operand q a k g any s = refl
enter_operand q a k g received s = refl
enter_operand q a k g sent s = refl
enter_operand q a k g (except b o) s = refl
enter_operand q a k g (group b x c) s = refl

enter : (q : Quantifier) (a : ℕ) (k : InTerm) (g : ℕ) (x : Set) (s : List ℕ) → run (show_s x s) (bracket_at q a k g) ≡ run (show_s x s) (operand_at (o_first (s_next q a k g)))
enter q a k g (operand o) s = enter_operand q a k g o s
enter q a k g (union x b c o) s = enter q a k g x (gap b (124 ∷ gap c (show_o o s)))

quant_read : (q : Quantifier) (k : InTerm) (s : List ℕ) → run (show_q q s) (term_at k) ≡ run s (after_next q k 0)
quant_read existential k s = refl
quant_read universal k s = refl

cond-read : (c : Condition) (q : Quantifier) (a b d : ℕ) (k : InTerm) (s : List ℕ) → run (show_c c (gap d (93 ∷ s))) (bracket_at q a k b) ≡ run s (term_at (t_modal (next q a b c d) k 0))
cond-read dot q a b d k s = gaps (after_dot q a b k) (λ g. refl) d (93 ∷ s)
cond-read (set x) q a b d k s = enter q a k b x (gap d (93 ∷ s)) ∙
    (set-read x (s_next q a k b) (gap d (93 ∷ s)) (ends-gap d 93 s refl refl) ∙ gaps (after_set x (s_next q a k b)) (λ g. refl) d (93 ∷ s))

label-read : (q : Quantifier) (k : InTerm) (s : List ℕ) → run (show_l q s) (term_at k) ≡ run s (after_labelled q k 0)
label-read existential k s = refl
label-read universal k s = refl

pub head_read : (h : Head) (k : InTerm) (s : List ℕ) → run (show_h h s) (term_at k) ≡ run s (term_at (t_modal h k 0))
head_read (next q a b c d) k s =
    quant_read q k (gap a (91 ∷ gap b (show_c c (gap d (93 ∷ s)))))
    ∙ (gaps (after_next q k) (λ g. refl) a (91 ∷ gap b (show_c c (gap d (93 ∷ s))))
    ∙ (gaps (bracket_at q a k) (λ g. refl) b (show_c c (gap d (93 ∷ s))) ∙ cond-read c q a b d k s))
head_read (until a b x d) k s =
    gaps (after_until k) (λ g. refl) a (91 ∷ gap b (show_s x (gap d (93 ∷ s))))
    ∙ (gaps (λ g. operand_at (o_first (s_until a k g))) (λ g. refl) b (show_s x (gap d (93 ∷ s)))
    ∙ (set-read x (s_until a k b) (gap d (93 ∷ s)) (ends-gap d 93 s refl refl) ∙ gaps (after_set x (s_until a k b)) (λ g. refl) d (93 ∷ s)))
head_read (until_then a b x c d y e) k s =
    gaps (after_until k) (λ g. refl) a (91 ∷ gap b (show_s x (gap c (59 ∷ gap d (show_s y (gap e (93 ∷ s)))))))
    ∙ (gaps (λ g. operand_at (o_first (s_until a k g))) (λ g. refl) b (show_s x (gap c (59 ∷ gap d (show_s y (gap e (93 ∷ s))))))
    ∙ (set-read x (s_until a k b) (gap c (59 ∷ gap d (show_s y (gap e (93 ∷ s))))) (ends-gap c 59 _ refl refl)
    ∙ (gaps (after_set x (s_until a k b)) (λ g. refl) c (59 ∷ gap d (show_s y (gap e (93 ∷ s))))
    ∙ (gaps (λ g. operand_at (o_first (s_then a b x c k g))) (λ g. refl) d (show_s y (gap e (93 ∷ s)))
    ∙ (set-read y (s_then a b x c k d) (gap e (93 ∷ s)) (ends-gap e 93 s refl refl) ∙ gaps (after_set y (s_then a b x c k d)) (λ g. refl) e (93 ∷ s))))))
head_read (reach existential) k s = refl
head_read (reach universal) k s = refl
head_read (labelled q a b x d) k s =
    label-read q k (gap a (91 ∷ gap b (show_s x (gap d (93 ∷ s)))))
    ∙ (gaps (after_labelled q k) (λ g. refl) a (91 ∷ gap b (show_s x (gap d (93 ∷ s))))
    ∙ (gaps (λ g. operand_at (o_first (s_labelled q a k g))) (λ g. refl) b (show_s x (gap d (93 ∷ s)))
    ∙ (set-read x (s_labelled q a k b) (gap d (93 ∷ s)) (ends-gap d 93 s refl refl) ∙ gaps (after_set x (s_labelled q a k b)) (λ g. refl) d (93 ∷ s))))

-- A conjunction begins a formula, or stands behind `|`.
pub data Starts (k : InDisjunction) : InTerm → (Conjunction → Disjunction) → Type 0 where
  first : Starts k (t_first k) conjunction
  later : (f : Disjunction) (a b : ℕ) → Starts k (t_or f a k b) (or f a b)

mutual
  pub formula-read : (f : Disjunction) (k : InDisjunction) (s : List ℕ) → run (show_f f s) (term_at (t_first k)) ≡ run s (after_disjunction f k 0)
  formula-read (conjunction c) k s = conjunction-read c k first s
  formula-read (or f a b c) k s =
      formula-read f k (gap a (124 ∷ gap b (show_a c s)))
      ∙ (gaps (after_disjunction f k) (λ g. refl) a (124 ∷ gap b (show_a c s))
      ∙ (gaps (λ g. term_at (t_or f a k g)) (λ g. refl) b (show_a c s) ∙ conjunction-read c k (later f a b) s))

  conjunction-read : (c : Conjunction) (k : InDisjunction) {i : InTerm} {v : Conjunction → Disjunction} → Starts k i v → (s : List ℕ) →
      run (show_a c s) (term_at i) ≡ run s (after_disjunction (v c) k 0)
  conjunction-read (term t) k first s = term-read t (t_first k) s
  conjunction-read (term t) k (later f a b) s = term-read t (t_or f a k b) s
  conjunction-read (and c a b t) k first s =
      conjunction-read c k first (gap a (38 ∷ gap b (show_t t s)))
      ∙ (gaps (after_disjunction (conjunction c) k) (λ g. refl) a (38 ∷ gap b (show_t t s))
      ∙ (gaps (λ g. term_at (t_and (conjunction c) a k g)) (λ g. refl) b (show_t t s) ∙ term-read t (t_and (conjunction c) a k b) s))
  conjunction-read (and c a b t) k (later f g h) s =
      conjunction-read c k (later f g h) (gap a (38 ∷ gap b (show_t t s)))
      ∙ (gaps (after_disjunction (or f g h c) k) (λ i. refl) a (38 ∷ gap b (show_t t s))
      ∙ (gaps (λ i. term_at (t_and (or f g h c) a k i)) (λ i. refl) b (show_t t s) ∙ term-read t (t_and (or f g h c) a k b) s))

  pub term-read : (t : Term) (k : InTerm) (s : List ℕ) → run (show_t t s) (term_at k) ≡ run s (plug_t t k)
  term-read tru k s = refl
  term-read (not a t) k s = gaps (λ g. term_at (t_not k g)) (λ g. refl) a (show_t t s) ∙ term-read t (t_not k a) s
  term-read (modal h a t) k s = head_read h k (gap a (show_t t s)) ∙ (gaps (λ g. term_at (t_modal h k g)) (λ g. refl) a (show_t t s) ∙ term-read t (t_modal h k a) s)
  term-read (paren a f b) k s =
      gaps (λ g. term_at (t_first (f_paren k g))) (λ g. refl) a (show_f f (gap b (41 ∷ s)))
      ∙ (formula-read f (f_paren k a) (gap b (41 ∷ s)) ∙ gaps (after_disjunction f (f_paren k a)) (λ g. refl) b (41 ∷ s))
