-- The executable twin of `Text` (../Grammatical.antt), a byte at a time: `read-text` (proofs/Grammar.antt) says that it accepts exactly the grammatical
-- texts. A context is what was read before a place, inside out; its last number is the blanks read since the last token.
use Rattle.std.specs.Prelude.{◌≡◌, refl, Bool, true, false, cond, List, [], ◌∷◌, ◌++◌, ℕ, zero, suc, eqb}
use Rattle.lts.specs.Names.{is_name}
use Rattle.actl.specs.Grammar.{Name, Set, operand, union, Operand, name, any, received, sent, except, group, dot, set, Quantifier, existential, universal, Head}
use Rattle.actl.specs.Grammar.{next, until, until_then, reach, labelled, Disjunction, conjunction, or, term, and, Term, tru, not, modal, paren}

mutual
  pub data InDisjunction : Type 0 where
    f_top : InDisjunction
    f_paren : InTerm → ℕ → InDisjunction

  pub data InTerm : Type 0 where
    t_first : InDisjunction → InTerm
    t_or : Disjunction → ℕ → InDisjunction → ℕ → InTerm
    t_and : Disjunction → ℕ → InDisjunction → ℕ → InTerm
    t_not : InTerm → ℕ → InTerm
    t_modal : Head → InTerm → ℕ → InTerm

mutual
  pub data InSet : Type 0 where
    s_paren : InOperand → ℕ → InSet
    s_next : Quantifier → ℕ → InTerm → ℕ → InSet
    s_until : ℕ → InTerm → ℕ → InSet
    s_then : ℕ → ℕ → Set → ℕ → InTerm → ℕ → InSet
    s_labelled : Quantifier → ℕ → InTerm → ℕ → InSet

  pub data InOperand : Type 0 where
    o_first : InSet → InOperand
    o_or : Set → ℕ → InSet → ℕ → InOperand
    o_not : InOperand → ℕ → InOperand

-- What was read, and what may come.
pub data State : Type 0 where
  term_at : InTerm → State
  after_e : InTerm → State
  after_a : InTerm → State
  after_first : Quantifier → InTerm → State
  after_second : Quantifier → InTerm → State
  after_labelled : Quantifier → InTerm → ℕ → State
  after_next : Quantifier → InTerm → ℕ → State
  after_until : InTerm → ℕ → State
  bracket_at : Quantifier → ℕ → InTerm → ℕ → State
  operand_at : InOperand → State
  after_dot : Quantifier → ℕ → ℕ → InTerm → ℕ → State
  naming : Name → InOperand → State
  after_set : Set → InSet → ℕ → State
  after_disjunction : Disjunction → InDisjunction → ℕ → State

pub data ReaderStep : Type 0 where
  go : State → ReaderStep
  stop : ReaderStep

abbrev pub on : ℕ → ℕ → ReaderStep → ReaderStep → ReaderStep
on b m x y = cond (eqb b m) x y

-- A term joined by `&`. It binds tighter than the `|` before it: the term joins the last conjunction.
abbrev pub and_last : Disjunction → ℕ → ℕ → Term → Disjunction
and_last (conjunction c) a b t = conjunction (and c a b t)
and_last (or f g h c) a b t = or f g h (and c a b t)

abbrev pub plug_t : Term → InTerm → State
plug_t t (t_first k) = after_disjunction (conjunction (term t)) k 0
plug_t t (t_or f a k b) = after_disjunction (or f a b (term t)) k 0
plug_t t (t_and f a k b) = after_disjunction (and_last f a b t) k 0
plug_t t (t_not k a) = plug_t (not a t) k
plug_t t (t_modal h k a) = plug_t (modal h a t) k

abbrev pub plug_o : Operand → InOperand → State
plug_o o (o_first k) = after_set (operand o) k 0
plug_o o (o_or x a k b) = after_set (union x a b o) k 0
plug_o o (o_not k a) = plug_o (except a o) k

abbrev pub blank_f : InDisjunction → ReaderStep
blank_f f_top = stop
blank_f (f_paren k a) = go (term_at (t_first (f_paren k (suc a))))

abbrev pub blank_t : InTerm → ReaderStep
blank_t (t_first k) = blank_f k
blank_t (t_or f a k b) = go (term_at (t_or f a k (suc b)))
blank_t (t_and f a k b) = go (term_at (t_and f a k (suc b)))
blank_t (t_not k a) = go (term_at (t_not k (suc a)))
blank_t (t_modal h k a) = go (term_at (t_modal h k (suc a)))

abbrev pub blank_s : InSet → InSet
blank_s (s_paren k a) = s_paren k (suc a)
blank_s (s_next q a k b) = s_next q a k (suc b)
blank_s (s_until a k b) = s_until a k (suc b)
blank_s (s_then a b x c k d) = s_then a b x c k (suc d)
blank_s (s_labelled q a k b) = s_labelled q a k (suc b)

abbrev pub blank_o : InOperand → InOperand
blank_o (o_first k) = o_first (blank_s k)
blank_o (o_or x a k b) = o_or x a k (suc b)
blank_o (o_not k a) = o_not k (suc a)

abbrev pub term_step : InTerm → ℕ → ReaderStep
term_step k b =
    on b 84 (go (plug_t tru k)) (on b 126 (go (term_at (t_not k 0))) (on b 40 (go (term_at (t_first (f_paren k 0))))
    (on b 69 (go (after_e k)) (on b 65 (go (after_a k)) (on b 68 (go (after_first existential k)) (on b 66 (go (after_first universal k)) stop))))))

-- The bytes l as a name, where they are one.
abbrev pub named : (l : List ℕ) → InOperand → (t : Bool) → is_name l ≡ t → ReaderStep → ReaderStep
named l k true e y = go (naming (record { bytes = l; fits = e }) k)
named l k false e y = y

abbrev pub operand_step : InOperand → ℕ → ReaderStep
operand_step k b =
    on b 42 (go (plug_o any k)) (on b 63 (go (plug_o received k)) (on b 33 (go (plug_o sent k))
    (on b 126 (go (operand_at (o_not k 0))) (on b 40 (go (operand_at (o_first (s_paren k 0))))
    (named (b ∷ []) k (is_name (b ∷ [])) refl stop)))))

abbrev pub close_step : Set → InSet → ℕ → ℕ → ReaderStep
close_step x (s_paren k a) g b = on b 41 (go (plug_o (group a x g) k)) stop
close_step x (s_next q a k c) g b = on b 93 (go (term_at (t_modal (next q a c (set x) g) k 0))) stop
close_step x (s_until a k c) g b = on b 93 (go (term_at (t_modal (until a c x g) k 0))) (on b 59 (go (operand_at (o_first (s_then a c x g k 0)))) stop)
close_step y (s_then a c x d k e) g b = on b 93 (go (term_at (t_modal (until_then a c x d e y g) k 0))) stop
close_step x (s_labelled q a k c) g b = on b 93 (go (term_at (t_modal (labelled q a c x g) k 0))) stop

abbrev pub set_step : Set → InSet → ℕ → ℕ → ReaderStep
set_step x k g b = on b 32 (go (after_set x k (suc g))) (on b 124 (go (operand_at (o_or x g k 0))) (close_step x k g b))

-- A name ends at a byte that it cannot have.
abbrev pub leave_o : Operand → InOperand → ℕ → ReaderStep
leave_o o (o_first k) b = set_step (operand o) k 0 b
leave_o o (o_or x a k c) b = set_step (union x a c o) k 0 b
leave_o o (o_not k a) b = leave_o (except a o) k b

abbrev pub paren_step : Disjunction → InDisjunction → ℕ → ℕ → ReaderStep
paren_step f f_top g b = stop
paren_step f (f_paren k a) g b = on b 41 (go (plug_t (paren a f g) k)) stop

-- The second letter of DIA or BOX, and the third.
abbrev pub second : Quantifier → ℕ
second existential = 73
second universal = 79

abbrev pub third : Quantifier → ℕ
third existential = 65
third universal = 88

abbrev pub read_byte : State → ℕ → ReaderStep
read_byte (term_at k) b = on b 32 (blank_t k) (term_step k b)
read_byte (after_e k) b = on b 88 (go (after_next existential k 0)) (on b 85 (go (after_until k 0)) (on b 70 (go (term_at (t_modal (reach existential) k 0))) stop))
read_byte (after_a k) b = on b 88 (go (after_next universal k 0)) (on b 71 (go (term_at (t_modal (reach universal) k 0))) stop)
read_byte (after_first q k) b = on b (second q) (go (after_second q k)) stop
read_byte (after_second q k) b = on b (third q) (go (after_labelled q k 0)) stop
read_byte (after_labelled q k g) b = on b 32 (go (after_labelled q k (suc g))) (on b 91 (go (operand_at (o_first (s_labelled q g k 0)))) stop)
read_byte (after_next q k g) b = on b 32 (go (after_next q k (suc g))) (on b 91 (go (bracket_at q g k 0)) stop)
read_byte (after_until k g) b = on b 32 (go (after_until k (suc g))) (on b 91 (go (operand_at (o_first (s_until g k 0)))) stop)
read_byte (bracket_at q a k g) b = on b 32 (go (bracket_at q a k (suc g))) (on b 46 (go (after_dot q a g k 0)) (operand_step (o_first (s_next q a k g)) b))
read_byte (operand_at k) b = on b 32 (go (operand_at (blank_o k))) (operand_step k b)
read_byte (after_dot q a c k g) b = on b 32 (go (after_dot q a c k (suc g))) (on b 93 (go (term_at (t_modal (next q a c dot g) k 0))) stop)
read_byte (naming n k) b = named (n.bytes ++ (b ∷ [])) k (is_name (n.bytes ++ (b ∷ []))) refl (leave_o (name n) k b)
read_byte (after_set x k g) b = set_step x k g b
read_byte (after_disjunction f k g) b = on b 32 (go (after_disjunction f k (suc g))) (on b 38 (go (term_at (t_and f g k 0))) (on b 124 (go (term_at (t_or f g k 0))) (paren_step f k g b)))

-- A formula that is the whole text, or what is left from the byte that no grammatical text has there.
pub data Result : Type 0 where
  whole : Disjunction → Result
  refused : List ℕ → Result

abbrev pub finish_disjunction : Disjunction → InDisjunction → ℕ → Result
finish_disjunction f f_top zero = whole f
finish_disjunction f f_top (suc g) = refused []
finish_disjunction f (f_paren k a) g = refused []

abbrev pub finish : State → Result
finish (term_at k) = refused []
finish (after_e k) = refused []
finish (after_a k) = refused []
finish (after_first q k) = refused []
finish (after_second q k) = refused []
finish (after_labelled q k g) = refused []
finish (after_next q k g) = refused []
finish (after_until k g) = refused []
finish (bracket_at q a k g) = refused []
finish (operand_at k) = refused []
finish (after_dot q a c k g) = refused []
finish (naming n k) = refused []
finish (after_set x k g) = refused []
finish (after_disjunction f k g) = finish_disjunction f k g

abbrev pub proceed : ReaderStep → (State → Result) → Result → Result
proceed (go x) f r = f x
proceed stop f r = r

abbrev pub run : List ℕ → State → Result
run [] x = finish x
run (b ∷ s) x = proceed (read_byte x b) (run s) (refused (b ∷ s))

abbrev pub start : State
start = term_at (t_first f_top)

abbrev pub read : List ℕ → Result
read s = run s start
