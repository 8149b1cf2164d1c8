-- What the reader has read, and that a step reads one byte more.
use mathlib.Core.Path.{◌≡◌, refl, sym, ap, ◌∙◌, subst}
use mathlib.Core.Bool.{Bool, true, false, cond}
use mathlib.Core.List.{List, [], ◌∷◌, ◌++◌, append_assoc}
use Prim.Native.Nat.{ℕ, zero, suc}
use lib.Dec.{eqb}
use borrow.Author.Tests.{eqb-true}
use Rattle.lts.specs.Names.{is_name}
use Rattle.lts.specs.Directions.{Plain}
use Rattle.actl.specs.Grammar.{Set, operand, union, Operand, name, any, received, sent, except, group, dot, set, Quantifier, existential}
use Rattle.actl.specs.Grammar.{universal, Head, next, until, until_then, labelled, Disjunction, conjunction, or, term, Term, tru, not}
use Rattle.actl.specs.Grammar.{modal, paren}
use Rattle.actl.specs.inner.Show.{gap, show_s, show_o, show_q, show_l, show_h, show_f, show_t}
use Rattle.actl.specs.inner.Reader.{InDisjunction, f_top, f_paren, InTerm, t_first, t_or, t_and, t_not, t_modal, InSet, s_paren, s_next, s_until, s_then, s_labelled, InOperand}
use Rattle.actl.specs.inner.Reader.{o_first, o_or, o_not, State, term_at, after_e, after_a, after_first, after_second, after_labelled, after_next, after_until, bracket_at}
use Rattle.actl.specs.inner.Reader.{operand_at, after_dot, naming, after_set, after_disjunction, ReaderStep, go, stop, on, and_last, plug_t, plug_o, blank_f, blank_t}
use Rattle.actl.specs.inner.Reader.{blank_s, blank_o, term_step, named, operand_step, close_step, set_step, leave_o, paren_step, second, third, read_byte}

abbrev mutual
  pub pre_f : InDisjunction → List ℕ → List ℕ
  pre_f f_top s = s
  pre_f (f_paren k a) s = pre_t k (40 ∷ gap a s)

  pub pre_t : InTerm → List ℕ → List ℕ
  pre_t (t_first k) s = pre_f k s
  pre_t (t_or f a k b) s = pre_f k (show_f f (gap a (124 ∷ gap b s)))
  pre_t (t_and f a k b) s = pre_f k (show_f f (gap a (38 ∷ gap b s)))
  pre_t (t_not k a) s = pre_t k (126 ∷ gap a s)
  pre_t (t_modal h k a) s = pre_t k (show_h h (gap a s))

abbrev mutual
  pub pre_s : InSet → List ℕ → List ℕ
  pre_s (s_paren k a) s = pre_o k (40 ∷ gap a s)
  pre_s (s_next q a k b) s = pre_t k (show_q q (gap a (91 ∷ gap b s)))
  pre_s (s_until a k b) s = pre_t k (69 ∷ 85 ∷ gap a (91 ∷ gap b s))
  pre_s (s_then a b x c k d) s = pre_t k (69 ∷ 85 ∷ gap a (91 ∷ gap b (show_s x (gap c (59 ∷ gap d s)))))
  pre_s (s_labelled q a k b) s = pre_t k (show_l q (gap a (91 ∷ gap b s)))

  pub pre_o : InOperand → List ℕ → List ℕ
  pre_o (o_first k) s = pre_s k s
  pre_o (o_or x a k b) s = pre_s k (show_s x (gap a (124 ∷ gap b s)))
  pre_o (o_not k a) s = pre_o k (126 ∷ gap a s)

-- The first letter of DIA or BOX.
abbrev first : Quantifier → ℕ
first existential = 68
first universal = 66

abbrev pub shown : State → List ℕ → List ℕ
shown (term_at k) s = pre_t k s
shown (after_e k) s = pre_t k (69 ∷ s)
shown (after_a k) s = pre_t k (65 ∷ s)
shown (after_first q k) s = pre_t k (first q ∷ s)
shown (after_second q k) s = pre_t k (first q ∷ second q ∷ s)
shown (after_labelled q k g) s = pre_t k (show_l q (gap g s))
shown (after_next q k g) s = pre_t k (show_q q (gap g s))
shown (after_until k g) s = pre_t k (69 ∷ 85 ∷ gap g s)
shown (bracket_at q a k g) s = pre_t k (show_q q (gap a (91 ∷ gap g s)))
shown (operand_at k) s = pre_o k s
shown (after_dot q a c k g) s = pre_t k (show_q q (gap a (91 ∷ gap c (46 ∷ gap g s))))
shown (naming n k) s = pre_o k (n.bytes ++ s)
shown (after_set x k g) s = pre_s k (show_s x (gap g s))
shown (after_disjunction f k g) s = pre_f k (show_f f (gap g s))

pub gap_more : (g : ℕ) (s : List ℕ) → gap g (32 ∷ s) ≡ 32 ∷ gap g s
gap_more zero s = refl
gap_more (suc g) s = ap (λ l. 32 ∷ l) (gap_more g s)

pub and_shown : (f : Disjunction) (a b : ℕ) (t : Term) (s : List ℕ) → show_f f (gap a (38 ∷ gap b (show_t t s))) ≡ show_f (and_last f a b t) s
and_shown (conjunction c) a b t s = refl
and_shown (or f g h c) a b t s = refl

letters : (q : Quantifier) (s : List ℕ) → first q ∷ second q ∷ third q ∷ s ≡ show_l q s
letters existential s = refl
letters universal s = refl

pub plug_shown : (t : Term) (k : InTerm) (s : List ℕ) → pre_t k (show_t t s) ≡ shown (plug_t t k) s
plug_shown t (t_first k) s = refl
plug_shown t (t_or f a k b) s = refl
plug_shown t (t_and f a k b) s = ap (pre_f k) (and_shown f a b t s)
plug_shown t (t_not k a) s = plug_shown (not a t) k s
plug_shown t (t_modal h k a) s = plug_shown (modal h a t) k s

pub plug_o_shown : (o : Operand) (k : InOperand) (s : List ℕ) → pre_o k (show_o o s) ≡ shown (plug_o o k) s
plug_o_shown o (o_first k) s = refl
plug_o_shown o (o_or x a k b) s = refl
plug_o_shown o (o_not k a) s = plug_o_shown (except a o) k s

-- A step at b reads b: r is the text so far, with what comes behind it.
pub data Reads (r : List ℕ → List ℕ) (b : ℕ) : ReaderStep → Type 0 where
  goes : {y : State} → ((s : List ℕ) → r (b ∷ s) ≡ shown y s) → Reads r b (go y)
  stops : Reads r b stop

on-reads : {r : List ℕ → List ℕ} (b m : ℕ) {y z : ReaderStep} → Reads r m y → Reads r b z → Reads r b (on b m y z)
on-reads {r} b m {y} {z} p q = case (eqb b m) refl
  where
    case : (t : Bool) → eqb b m ≡ t → Reads r b (cond t y z)
    case true e = subst (λ (v : ℕ). Reads r v y) (sym (eqb-true b m e)) p
    case false e = q

blank_s-reads : (k : InSet) (s : List ℕ) → pre_s k (32 ∷ s) ≡ pre_s (blank_s k) s
blank_s-reads (s_paren k a) s = ap (λ l. pre_o k (40 ∷ l)) (gap_more a s)
blank_s-reads (s_next q a k b) s = ap (λ l. pre_t k (show_q q (gap a (91 ∷ l)))) (gap_more b s)
blank_s-reads (s_until a k b) s = ap (λ l. pre_t k (69 ∷ 85 ∷ gap a (91 ∷ l))) (gap_more b s)
blank_s-reads (s_then a b x c k d) s = ap (λ l. pre_t k (69 ∷ 85 ∷ gap a (91 ∷ gap b (show_s x (gap c (59 ∷ l)))))) (gap_more d s)
blank_s-reads (s_labelled q a k b) s = ap (λ l. pre_t k (show_l q (gap a (91 ∷ l)))) (gap_more b s)

blank_o-reads : (k : InOperand) (s : List ℕ) → pre_o k (32 ∷ s) ≡ pre_o (blank_o k) s
blank_o-reads (o_first k) s = blank_s-reads k s
blank_o-reads (o_or x a k b) s = ap (λ l. pre_s k (show_s x (gap a (124 ∷ l)))) (gap_more b s)
blank_o-reads (o_not k a) s = ap (λ l. pre_o k (126 ∷ l)) (gap_more a s)

blank_f-reads : (k : InDisjunction) → Reads (shown (term_at (t_first k))) 32 (blank_f k)
blank_f-reads f_top = stops
blank_f-reads (f_paren k a) = goes λ s. ap (λ l. pre_t k (40 ∷ l)) (gap_more a s)

blank_t-reads : (k : InTerm) → Reads (shown (term_at k)) 32 (blank_t k)
blank_t-reads (t_first k) = blank_f-reads k
blank_t-reads (t_or f a k b) = goes λ s. ap (λ l. pre_f k (show_f f (gap a (124 ∷ l)))) (gap_more b s)
blank_t-reads (t_and f a k b) = goes λ s. ap (λ l. pre_f k (show_f f (gap a (38 ∷ l)))) (gap_more b s)
blank_t-reads (t_not k a) = goes λ s. ap (λ l. pre_t k (126 ∷ l)) (gap_more a s)
blank_t-reads (t_modal h k a) = goes λ s. ap (λ l. pre_t k (show_h h l)) (gap_more a s)

term-reads : (k : InTerm) (b : ℕ) → Reads (shown (term_at k)) b (term_step k b)
term-reads k b =
    on-reads b 84 (goes (plug_shown tru k)) (on-reads b 126 (goes (λ s. refl)) (on-reads b 40 (goes (λ s. refl))
    (on-reads b 69 (goes (λ s. refl)) (on-reads b 65 (goes (λ s. refl)) (on-reads b 68 (goes (λ s. refl)) (on-reads b 66 (goes (λ s. refl)) stops))))))

named-reads : {r : List ℕ → List ℕ} (b : ℕ) (l : List ℕ) (k : InOperand) (t : Bool) (e : is_name l ≡ t) {y : ReaderStep}
    → ((s : List ℕ) → r (b ∷ s) ≡ pre_o k (l ++ s)) → Reads r b y → Reads r b (named l k t e y)
named-reads b l k true e p q = goes p
named-reads b l k false e p q = q

operand-reads : (k : InOperand) (b : ℕ) → Reads (shown (operand_at k)) b (operand_step k b)
operand-reads k b =
    on-reads b 42 (goes (plug_o_shown any k)) (on-reads b 63 (goes (plug_o_shown received k)) (on-reads b 33 (goes (plug_o_shown sent k))
    (on-reads b 126 (goes (λ s. refl)) (on-reads b 40 (goes (λ s. refl))
    (named-reads b (b ∷ []) k (is_name (b ∷ [])) refl (λ s. refl) stops)))))

close_reads : (x : Set) (k : InSet) (g b : ℕ) → Reads (shown (after_set x k g)) b (close_step x k g b)
close_reads x (s_paren k a) g b = on-reads b 41 (goes (plug_o_shown (group a x g) k)) stops
close_reads x (s_next q a k c) g b = on-reads b 93 (goes (λ s. refl)) stops
close_reads x (s_until a k c) g b = on-reads b 93 (goes (λ s. refl)) (on-reads b 59 (goes (λ s. refl)) stops)
close_reads y (s_then a c x d k e) g b = on-reads b 93 (goes (λ s. refl)) stops
close_reads x (s_labelled q a k c) g b = on-reads b 93 (goes (λ s. refl)) stops

set_reads : (x : Set) (k : InSet) (g b : ℕ) → Reads (shown (after_set x k g)) b (set_step x k g b)
set_reads x k g b = on-reads b 32 (goes (λ s. ap (λ l. pre_s k (show_s x l)) (gap_more g s))) (on-reads b 124 (goes (λ s. refl)) (close_reads x k g b))

-- Leaving an operand is a step from behind it.
pub leave_step : (o : Operand) (k : InOperand) (b : ℕ) → leave_o o k b ≡ read_byte (plug_o o k) b
leave_step o (o_first k) b = refl
leave_step o (o_or x a k c) b = refl
leave_step o (o_not k a) b = leave_step (except a o) k b

leave_reads : (o : Operand) (k : InOperand) (b : ℕ) → Reads (λ s. pre_o k (show_o o s)) b (leave_o o k b)
leave_reads o (o_first k) b = set_reads (operand o) k 0 b
leave_reads o (o_or x a k c) b = set_reads (union x a c o) k 0 b
leave_reads o (o_not k a) b = leave_reads (except a o) k b

paren-reads : (f : Disjunction) (k : InDisjunction) (g b : ℕ) → Reads (shown (after_disjunction f k g)) b (paren_step f k g b)
paren-reads f f_top g b = stops
paren-reads f (f_paren k a) g b = on-reads b 41 (goes (plug_shown (paren a f g) k)) stops

pub step-reads : (x : State) (b : ℕ) → Reads (shown x) b (read_byte x b)
step-reads (term_at k) b = on-reads b 32 (blank_t-reads k) (term-reads k b)
step-reads (after_e k) b = on-reads b 88 (goes (λ s. refl)) (on-reads b 85 (goes (λ s. refl)) (on-reads b 70 (goes (λ s. refl)) stops))
step-reads (after_a k) b = on-reads b 88 (goes (λ s. refl)) (on-reads b 71 (goes (λ s. refl)) stops)
step-reads (after_first q k) b = on-reads b (second q) (goes (λ s. refl)) stops
step-reads (after_second q k) b = on-reads b (third q) (goes (λ s. ap (pre_t k) (letters q s))) stops
step-reads (after_labelled q k g) b = on-reads b 32 (goes (λ s. ap (λ l. pre_t k (show_l q l)) (gap_more g s))) (on-reads b 91 (goes (λ s. refl)) stops)
step-reads (after_next q k g) b = on-reads b 32 (goes (λ s. ap (λ l. pre_t k (show_q q l)) (gap_more g s))) (on-reads b 91 (goes (λ s. refl)) stops)
step-reads (after_until k g) b = on-reads b 32 (goes (λ s. ap (λ l. pre_t k (69 ∷ 85 ∷ l)) (gap_more g s))) (on-reads b 91 (goes (λ s. refl)) stops)
step-reads (bracket_at q a k g) b = on-reads b 32 (goes (λ s. ap (λ l. pre_t k (show_q q (gap a (91 ∷ l)))) (gap_more g s)))
    (on-reads b 46 (goes (λ s. refl)) (operand-reads (o_first (s_next q a k g)) b))
step-reads (operand_at k) b = on-reads b 32 (goes (blank_o-reads k)) (operand-reads k b)
step-reads (after_dot q a c k g) b = on-reads b 32 (goes (λ s. ap (λ l. pre_t k (show_q q (gap a (91 ∷ gap c (46 ∷ l))))) (gap_more g s))) (on-reads b 93 (goes (λ s. refl)) stops)
step-reads (naming n k) b = named-reads b (n.bytes ++ (b ∷ [])) k (is_name (n.bytes ++ (b ∷ []))) refl (λ s. ap (pre_o k) (sym (append_assoc n.bytes (b ∷ []) s))) (leave_reads (name n) k b)
step-reads (after_set x k g) b = set_reads x k g b
step-reads (after_disjunction f k g) b = on-reads b 32 (goes (λ s. ap (λ l. pre_f k (show_f f l)) (gap_more g s)))
    (on-reads b 38 (goes (λ s. refl)) (on-reads b 124 (goes (λ s. refl)) (paren-reads f k g b)))

-- What was read can be completed: some text that starts with it is a formula's, and no mark is needed for that.
abbrev pub Completes : (List ℕ → List ℕ) → Type 0
Completes r = (f : Disjunction) × (s : List ℕ) × (r s ≡ show_f f []) × Plain s

mutual
  complete_f : (k : InDisjunction) (f : Disjunction) → Completes (λ s. pre_f k (show_f f s))
  complete_f f_top f = (f, [], refl, refl)
  complete_f (f_paren k a) f = let (g, s, e, p) = complete_t k (paren a f 0) in (g, 41 ∷ s, e, p)

  complete_t : (k : InTerm) (t : Term) → Completes (λ s. pre_t k (show_t t s))
  complete_t (t_first k) t = complete_f k (conjunction (term t))
  complete_t (t_or f a k b) t = complete_f k (or f a b (term t))
  complete_t (t_and f a k b) t = let (g, s, e, p) = complete_f k (and_last f a b t) in (g, s, ap (pre_f k) (and_shown f a b t s) ∙ e, p)
  complete_t (t_not k a) t = complete_t k (not a t)
  complete_t (t_modal h k a) t = complete_t k (modal h a t)

complete_tru : (k : InTerm) → Completes (pre_t k)
complete_tru k = let (g, s, e, p) = complete_t k tru in (g, 84 ∷ s, e, p)

complete_head : (k : InTerm) (h : Head) → Completes (λ s. pre_t k (show_h h s))
complete_head k h = let (g, s, e, p) = complete_t k (modal h 0 tru) in (g, 84 ∷ s, e, p)

mutual
  complete_s : (k : InSet) (x : Set) → Completes (λ s. pre_s k (show_s x s))
  complete_s (s_paren k a) x = let (g, s, e, p) = complete_o k (group a x 0) in (g, 41 ∷ s, e, p)
  complete_s (s_next q a k b) x = let (g, s, e, p) = complete_head k (next q a b (set x) 0) in (g, 93 ∷ s, e, p)
  complete_s (s_until a k b) x = let (g, s, e, p) = complete_head k (until a b x 0) in (g, 93 ∷ s, e, p)
  complete_s (s_then a b x c k d) y = let (g, s, e, p) = complete_head k (until_then a b x c d y 0) in (g, 93 ∷ s, e, p)
  complete_s (s_labelled q a k b) x = let (g, s, e, p) = complete_head k (labelled q a b x 0) in (g, 93 ∷ s, e, p)

  complete_o : (k : InOperand) (o : Operand) → Completes (λ s. pre_o k (show_o o s))
  complete_o (o_first k) o = complete_s k (operand o)
  complete_o (o_or x a k b) o = complete_s k (union x a b o)
  complete_o (o_not k a) o = complete_o k (except a o)

-- Letters are no marks.
complete_letters : (q : Quantifier) (k : InTerm) → Completes (λ s. pre_t k (first q ∷ second q ∷ s)) × Completes (λ s. pre_t k (first q ∷ s))
complete_letters existential k = let (g, s, e, p) = complete_head k (labelled existential 0 0 (operand any) 0) in ((g, 65 ∷ 91 ∷ 42 ∷ 93 ∷ s, e, p), (g, 73 ∷ 65 ∷ 91 ∷ 42 ∷ 93 ∷ s, e, p))
complete_letters universal k = let (g, s, e, p) = complete_head k (labelled universal 0 0 (operand any) 0) in ((g, 88 ∷ 91 ∷ 42 ∷ 93 ∷ s, e, p), (g, 79 ∷ 88 ∷ 91 ∷ 42 ∷ 93 ∷ s, e, p))

pub completes : (x : State) → Completes (shown x)
completes (term_at k) = complete_tru k
completes (after_e k) = let (g, s, e, p) = complete_head k (next existential 0 0 dot 0) in (g, 88 ∷ 91 ∷ 46 ∷ 93 ∷ s, e, p)
completes (after_a k) = let (g, s, e, p) = complete_head k (next universal 0 0 dot 0) in (g, 88 ∷ 91 ∷ 46 ∷ 93 ∷ s, e, p)
completes (after_first q k) = (complete_letters q k).1
completes (after_second q k) = (complete_letters q k).0
completes (after_labelled q k a) = let (g, s, e, p) = complete_head k (labelled q a 0 (operand any) 0) in (g, 91 ∷ 42 ∷ 93 ∷ s, e, p)
completes (after_next q k a) = let (g, s, e, p) = complete_head k (next q a 0 dot 0) in (g, 91 ∷ 46 ∷ 93 ∷ s, e, p)
completes (after_until k a) = let (g, s, e, p) = complete_head k (until a 0 (operand any) 0) in (g, 91 ∷ 42 ∷ 93 ∷ s, e, p)
completes (bracket_at q a k b) = let (g, s, e, p) = complete_head k (next q a b dot 0) in (g, 46 ∷ 93 ∷ s, e, p)
completes (operand_at k) = let (g, s, e, p) = complete_o k any in (g, 42 ∷ s, e, p)
completes (after_dot q a c k b) = let (g, s, e, p) = complete_head k (next q a c dot b) in (g, 93 ∷ s, e, p)
completes (naming n k) = complete_o k (name n)
completes (after_set x k a) = let (g, s, e, p) = complete_s k (union x a 0 any) in (g, 124 ∷ 42 ∷ s, e, p)
completes (after_disjunction f k a) = let (g, s, e, p) = complete_f k (or f a 0 (term tru)) in (g, 124 ∷ 84 ∷ s, e, p)
