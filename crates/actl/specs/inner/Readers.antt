-- What the readers of sets, heads, terms and formulas say: N are the table's label names, s is the text.
-- Each is read from `at` to `to`, and comes with the reader's moves, whatever stood before; or the text is refused.
use Rattle.std.specs.Prelude.{◌≡◌, ◌⊎◌, List, [], ◌∷◌, ◌++◌, ℕ, zero, suc, ◌+◌, ◌*◌, ◌-◌, ◌≤◌, ◌<◌, length, drop}
use Rattle.std.proofs.Math.Option.{Option, none, some}
use Rattle.actl.specs.Sizes.{longest_text, most_nodes}
use Rattle.columns.specs.inner.Write.{pasted}
use Rattle.lts.specs.Names.{lookup}
use Rattle.lts.specs.inner.Prepared.{table_in}
use Rattle.lts.specs.inner.HoldsTable.{HoldsTable}
use Rattle.actl.specs.Actions.{Action}
use Rattle.actl.specs.Formulas.{size}
use Rattle.actl.specs.Grammar.{Set, Operand, Quantifier, existential, universal, Head, next, until, until_then, reach, labelled, Disjunction, Term}
use Rattle.actl.specs.inner.Show.{gap, show_s, show_o, show_h, show_f, show_t}
use Rattle.actl.specs.inner.Reader.{o_first, t_first, t_modal, term_at, operand_at, after_set, after_disjunction}
use Rattle.actl.specs.inner.Reader.{plug_o, plug_t, read, whole, refused}
use Rattle.actl.specs.inner.Mentions.{Mention, names_s, names_o, names_h, names_f, names_t, first_unknown}
use Rattle.actl.specs.Meaning.{labels_of, action_of_operand, mask_in, cond_of}
use Rattle.actl.specs.inner.Meaning.{formula_f, formula_t}
use Rattle.actl.specs.Reading.{unknown_at}
use Rattle.actl.specs.Prepared.{Slot, slot, next_slot}
use Rattle.actl.specs.inner.NodeBytes.{bytes_of_nodes, NodesWritten}
use Rattle.actl.specs.inner.Cursor.{peek, Token, Moves, Marked}

-- The label names of the table in prepared bytes.
abbrev pub names_in : List ℕ → List (List ℕ)
names_in b = (table_in b).names

-- Where a reader may begin: over a table's bytes b, at a token of a text that is not too long.
pub record ReaderStart (b s : List ℕ) (at : ℕ) : Type 0 where
  pub table : HoldsTable b
  pub short : length s ≤ longest_text
  pub token : Token s at

-- The first of the names that the table lacks, by its offset in a text of n bytes.
abbrev pub unknown_in : List (List ℕ) → ℕ → List Mention → Option ℕ
unknown_in N n [] = none
unknown_in N n (m ∷ l) = unknown_at (lookup N m.name.bytes) (n - length (m.name.bytes ++ m.behind)) (unknown_in N n l)

-- 0 as long as the table has every name, and else one more than the first offset.
abbrev pub earlier : ℕ → Option ℕ → ℕ
earlier zero none = zero
earlier zero (some a) = suc a
earlier (suc l) o = suc l

pub record OperandRead (N : List (List ℕ)) (s : List ℕ) (at lost to mask left : ℕ) : Type 0 where
  pub value : Operand
  pub up : at < to
  pub moves : Moves s at to (show_o value) operand_at (plug_o value)
  pub means : mask ≡ labels_of N (action_of_operand N value)
  pub lacks : left ≡ earlier lost (unknown_in N (length s) (names_o value (drop to s)))

-- A set is read with the blanks behind it.
pub record SetRead (N : List (List ℕ)) (s : List ℕ) (at lost to mask left : ℕ) : Type 0 where
  pub value : Set
  pub blanks : ℕ
  pub up : at < to
  pub token : Token s to
  pub last : peek s to ≡ 124 → ⊥
  pub moves : Moves s at to (λ r. show_s value (gap blanks r)) (λ k. operand_at (o_first k)) (λ k. after_set value k blanks)
  pub means : mask ≡ mask_in N value
  pub lacks : left ≡ earlier lost (unknown_in N (length s) (names_s value (gap blanks (drop to s))))

-- A set and the mark that ends its bracket.
pub record EnclosedRead (N : List (List ℕ)) (s : List ℕ) (at mark lost to mask left : ℕ) : Type 0 where
  pub end : ℕ
  pub contents : SetRead N s at lost end mask left
  pub shut : Marked s end mark to

-- A set, and another mark behind it.
pub record Unclosed (N : List (List ℕ)) (s : List ℕ) (at mark lost to : ℕ) : Type 0 where
  pub mask : ℕ
  pub left : ℕ
  pub contents : SetRead N s at lost to mask left
  pub other : peek s to ≡ mark → ⊥

-- The node between two `~`, where every path or step is meant.
abbrev pub dual_slots : Quantifier → Slot → List Slot
dual_slots existential v = v ∷ []
dual_slots universal v = slot 2 0 0 ∷ v ∷ slot 2 0 0 ∷ []

abbrev pub next_kind : Quantifier → ℕ
next_kind existential = 4
next_kind universal = 6

-- The nodes that a keyword puts before those of its arm.
abbrev pub head_slots : List (List ℕ) → Head → List Slot
head_slots N (next q a b c d) = next_slot (next_kind q) (cond_of N c) ∷ []
head_slots N (until a b x d) = slot 8 (mask_in N x) 0 ∷ []
head_slots N (until_then a b x c d y e) = slot 9 (mask_in N x) (mask_in N y) ∷ []
head_slots N (reach q) = dual_slots q (slot 8 (labels_of N Action.any) 0)
head_slots N (labelled q a b x d) = dual_slots q (slot 5 (mask_in N x) 0)

-- A keyword, and the nodes that it puts before its arm's.
pub record HeadRead (N : List (List ℕ)) (s : List ℕ) (at lost to : ℕ) (slots : List Slot) (left : ℕ) : Type 0 where
  pub value : Head
  pub up : at < to
  pub moves : Moves s at to (show_h value) term_at (λ k. term_at (t_modal value k 0))
  pub means : head_slots N value ≡ slots
  pub lacks : left ≡ earlier lost (unknown_in N (length s) (names_h value (drop to s)))

-- A place at which no `T`, `~` or `(` stands: a term there begins with a keyword.
pub record NoMark (s : List ℕ) (at : ℕ) : Type 0 where
  pub no_true : peek s at ≡ 84 → ⊥
  pub no_not : peek s at ≡ 126 → ⊥
  pub no_paren : peek s at ≡ 40 → ⊥

-- A place at which no EX, AX or EU stands.
pub record NoLong (s : List ℕ) (at : ℕ) : Type 0 where
  pub no_ex : peek s at ≡ 69 → peek s (at + 1) ≡ 88 → ⊥
  pub no_ax : peek s at ≡ 65 → peek s (at + 1) ≡ 88 → ⊥
  pub no_eu : peek s at ≡ 69 → peek s (at + 1) ≡ 85 → ⊥

-- How far a text without keyword there can go on: past an E or an A.
abbrev pub NoKeyword : List ℕ → ℕ → ℕ → Type 0
NoKeyword s at to = Marked s at 69 to ⊎ (Marked s at 65 to ⊎ ((peek s at ≡ 69 → ⊥) × (peek s at ≡ 65 → ⊥) × (to ≡ at)))

pub record TermRead (N : List (List ℕ)) (s : List ℕ) (at n lost : ℕ) (e : List ℕ) (to m left : ℕ) (x : List ℕ) : Type 0 where
  pub value : Term
  pub up : at < to
  pub few : m + 4 * at ≤ n + 4 * to
  pub moves : Moves s at to (show_t value) term_at (plug_t value)
  pub written : NodesWritten n m e x (bytes_of_nodes (formula_t N value))
  pub lacks : left ≡ earlier lost (unknown_in N (length s) (names_t value (drop to s)))

-- A formula ends at one place, and the blanks behind it at the other.
pub record FormulaRead (N : List (List ℕ)) (s : List ℕ) (at n lost : ℕ) (e : List ℕ) (end to m left : ℕ) (x : List ℕ) : Type 0 where
  pub value : Disjunction
  pub up : at < end
  pub blanks : end ≤ to
  pub few : m + 4 * at ≤ n + 4 * end
  pub token : Token s to
  pub no_and : peek s to ≡ 38 → ⊥
  pub no_or : peek s to ≡ 124 → ⊥
  pub moves : Moves s at to (λ r. show_f value (gap (to - end) r)) (λ k. term_at (t_first k)) (λ k. after_disjunction value k (to - end))
  pub written : NodesWritten n m e x (bytes_of_nodes (formula_f N value))
  pub lacks : left ≡ earlier lost (unknown_in N (length s) (names_f value (gap (to - end) (drop to s))))

-- A formula, and the `)` behind it.
pub record BracketRead (N : List (List ℕ)) (s : List ℕ) (at n lost : ℕ) (e : List ℕ) (to m left : ℕ) (x : List ℕ) : Type 0 where
  pub end : ℕ
  pub behind : ℕ
  pub contents : FormulaRead N s at n lost e end behind m left x
  pub shut : Marked s behind 41 to

pub record Unbracketed (N : List (List ℕ)) (s : List ℕ) (at n lost : ℕ) (e : List ℕ) (to : ℕ) (x : List ℕ) : Type 0 where
  pub end : ℕ
  pub m : ℕ
  pub left : ℕ
  pub contents : FormulaRead N s at n lost e end to m left x
  pub other : peek s to ≡ 41 → ⊥

-- A whole text: how many nodes it has, written out; the nodes in the bytes e, if they are not too many; the first name that the table lacks.
pub record WholeRead (N : List (List ℕ)) (s e x : List ℕ) (n left : ℕ) : Type 0 where
  pub value : Disjunction
  pub reads : read s ≡ whole value
  pub count : n ≡ size (formula_f N value)
  pub long : length x ≡ length e
  pub made : n ≤ most_nodes → x ≡ pasted e 1 (bytes_of_nodes (formula_f N value))
  pub lacks : left ≡ earlier 0 (first_unknown N value (names_f value []))

-- 01: "length of the longest beginning that some grammatical text, of any length, has"
pub record RefusedAt (s : List ℕ) (n : ℕ) : Type 0 where
  pub rest : List ℕ
  pub reads : read s ≡ refused rest
  pub figure : n ≡ length s - length rest
