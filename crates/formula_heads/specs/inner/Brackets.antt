-- What the readers of a keyword's parts hand each other: each part is read in a state, behind the text that came before it.
use Rattle.std.specs.Prelude.{◌≡◌, true, false, List, ◌∷◌, ℕ, ◌+◌, length, drop, get_or, Option, None, Some, Result, Ok, Err}
use Rattle.actl.specs.Grammar as grammar
use Rattle.actl.specs.inner.Show.{gap, show_s, show_q, show_l, show_h}
use Rattle.actl.specs.Grammar.{Head, existential, universal}
use Rattle.actl.specs.inner.Reader.{InTerm, t_modal, o_first, s_until, s_labelled, State, term_at, operand_at, after_set}
use Rattle.actl.specs.inner.Reader.{after_first, after_labelled, after_next, after_until, bracket_at}
use Rattle.actl.specs.inner.Mentions.{names_h}
use Rattle.actl.specs.Prepared.{Slot}
use Rattle.actl.specs.inner.Cursor.{peek, Moves, Fails, Keyword}
use Rattle.actl.specs.inner.Readers.{unknown_in, earlier, head_slots, SetRead}
use Rattle.formulas.specs.declared.node.Condition.{Condition}
use Rattle.formulas.specs.declared.node.Node.{Node}
use Rattle.formulas.specs.declared.node.Node.TheVariants.{Ex, Ax}
use Rattle.formula_cursor.specs.declared.Cursor.{Cursor}
use Rattle.formula_heads.specs.declared.Quantifier.{Quantifier}
use Rattle.formula_heads.specs.declared.Quantifier.TheVariants.{Existential, Universal}
use Rattle.formula_heads.specs.declared.Keyword as word
use Rattle.formula_heads.specs.declared.Keyword.TheVariants.{Next, Until, Labelled}
use Rattle.formula_heads.specs.declared.Heading.{Heading}
use Rattle.formula_heads.specs.inner.HeadReplies.{slots_of}

abbrev pub quantifier_in : Quantifier → grammar.Quantifier
quantifier_in Existential = existential
quantifier_in Universal = universal

-- The node of EX or AX over a step condition.
abbrev pub node_over : Quantifier → Condition → Node
node_over Existential x = Ex x
node_over Universal x = Ax x

-- A node, between two `~` where every path or step is meant.
abbrev pub dual_of : Quantifier → Cursor → Node → ℕ → Heading
dual_of Existential c n l = record { end = c; node = n; dual = false; lost = l }
dual_of Universal c n l = record { end = c; node = n; dual = true; lost = l }

-- The keyword of a pair.
abbrev pub word_of : Quantifier → List ℕ → List ℕ → List ℕ
word_of Existential some every = some
word_of Universal some every = every

-- The two letters w stand at a place, or do not.
abbrev pub NoWord : List ℕ → ℕ → List ℕ → Type 0
NoWord s at w = peek s at ≡ get_or w 0 0 → peek s (at + 1) ≡ get_or w 1 0 → ⊥

abbrev pub Word : List ℕ → ℕ → List ℕ → ℕ → Type 0
Word s at w to = Keyword s at (get_or w 0 0) (get_or w 1 0) to

abbrev pub ChoiceAnswer : List ℕ → ℕ → List ℕ → List ℕ → Option (Quantifier × Cursor) → Type 0
ChoiceAnswer s at some every (Some x) = Word s at (word_of x.0 some every) x.1.at
ChoiceAnswer s at some every None = NoWord s at some × NoWord s at every

-- A place at which no EF or AG stands.
pub record NoShort (s : List ℕ) (at : ℕ) : Type 0 where
  pub no_ef : peek s at ≡ 69 → peek s (at + 1) ≡ 70 → ⊥
  pub no_ag : peek s at ≡ 65 → peek s (at + 1) ≡ 71 → ⊥

-- The rest of a keyword with its bracket, from `at` on, in the state x. Of the head's text, `before` was read already.
pub record RestRead (N : List (List ℕ)) (s : List ℕ) (x : InTerm → State) (before : List ℕ → List ℕ)
    (at lost to : ℕ) (slots : List Slot) (left : ℕ) : Type 0 where
  pub value : Head
  pub text : List ℕ → List ℕ
  pub shows : (r : List ℕ) → show_h value r ≡ before (text r)
  pub moves : Moves s at to text x (λ k. term_at (t_modal value k 0))
  pub means : head_slots N value ≡ slots
  pub lacks : left ≡ earlier lost (unknown_in N (length s) (names_h value (drop to s)))

abbrev pub RestAnswer : List (List ℕ) → List ℕ → (InTerm → State) → (List ℕ → List ℕ) → ℕ → ℕ → Result Heading Cursor → Type 0
RestAnswer N s x before at lost (Ok h) = RestRead N s x before at lost h.end.at (slots_of h) h.lost
RestAnswer N s x before at lost (Err c) = Fails s at c.at x

-- Behind a keyword and so many blanks.
abbrev pub behind_word : word.Keyword → ℕ → InTerm → State
behind_word (Next q) g k = after_next (quantifier_in q) k g
behind_word Until g k = after_until k g
behind_word (Labelled q) g k = after_labelled (quantifier_in q) k g

abbrev pub shown_word : word.Keyword → List ℕ → List ℕ
shown_word (Next q) r = show_q (quantifier_in q) r
shown_word Until r = 69 ∷ 85 ∷ r
shown_word (Labelled q) r = show_l (quantifier_in q) r

-- In its bracket, with so many blanks before it and behind its `[`.
abbrev pub in_bracket : word.Keyword → ℕ → ℕ → InTerm → State
in_bracket (Next q) a b k = bracket_at (quantifier_in q) a k b
in_bracket Until a b k = operand_at (o_first (s_until a k b))
in_bracket (Labelled q) a b k = operand_at (o_first (s_labelled (quantifier_in q) a k b))

abbrev pub shown_bracket : word.Keyword → ℕ → ℕ → List ℕ → List ℕ
shown_bracket w a b r = shown_word w (gap a (91 ∷ gap b r))

abbrev pub ContentsAnswer : word.Keyword → List (List ℕ) → List ℕ → ℕ → ℕ → Result Heading Cursor → Type 0
ContentsAnswer w N s at lost r = (a b : ℕ) → RestAnswer N s (in_bracket w a b) (shown_bracket w a b) at lost r

abbrev pub NextAnswer : List (List ℕ) → List ℕ → Quantifier → ℕ → ℕ → Result Heading Cursor → Type 0
NextAnswer N s q at lost r = ContentsAnswer (Next q) N s at lost r

abbrev pub UntilAnswer : List (List ℕ) → List ℕ → ℕ → ℕ → Result Heading Cursor → Type 0
UntilAnswer N s at lost r = ContentsAnswer Until N s at lost r

abbrev pub LabelledAnswer : List (List ℕ) → List ℕ → Quantifier → ℕ → ℕ → Result Heading Cursor → Type 0
LabelledAnswer N s q at lost r = ContentsAnswer (Labelled q) N s at lost r

-- Behind the first set of EU, whatever it is.
abbrev pub FirstSetAnswer : List (List ℕ) → List ℕ → ℕ → ℕ → ℕ → Result Heading Cursor → Type 0
FirstSetAnswer N s at mask left r =
    (a b from lost : ℕ) (x : SetRead N s from lost at mask left)
    → RestAnswer N s (λ k. after_set x.value (s_until a k b) x.blanks)
    (λ t. shown_bracket Until a b (show_s x.value (gap x.blanks t))) at lost r

-- The first letter of DIA or BOX, and what is read behind it.
abbrev pub first : grammar.Quantifier → ℕ
first existential = 68
first universal = 66

abbrev pub LettersAnswer : List (List ℕ) → List ℕ → Quantifier → ℕ → ℕ → Result Heading Cursor → Type 0
LettersAnswer N s q at lost r = RestAnswer N s (after_first (quantifier_in q)) (λ t. first (quantifier_in q) ∷ t) at lost r
