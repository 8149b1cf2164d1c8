-- What the reader of `~` or a keyword hands to the reader of the term behind it.
use Rattle.std.specs.Prelude.{◌≡◌, ◌⊎◌, List, ◌++◌, ℕ, ◌+◌, ◌≤◌, ◌<◌, length, drop, Result, Ok, Err}
use Rattle.actl.specs.Grammar.{Term}
use Rattle.actl.specs.inner.Show.{show_t}
use Rattle.actl.specs.inner.Reader.{InTerm, term_at, plug_t}
use Rattle.actl.specs.inner.Mentions.{names_t}
use Rattle.actl.specs.inner.Meaning.{formula_t}
use Rattle.actl.specs.inner.Cursor.{peek, Token, Moves, Fails}
use Rattle.actl.specs.inner.NodeBytes.{bytes_of_nodes, NodesWritten, NodeRoom}
use Rattle.actl.specs.inner.Readers.{unknown_in, earlier}
use Rattle.formula_cursor.specs.declared.Cursor.{Cursor}
use Rattle.formula_terms.specs.declared.Nodes.{Nodes}
use Rattle.formula_terms.specs.inner.TermReplies.{TermAnswer}

-- A place at which `T` or `(` stands.
abbrev pub Atom : List ℕ → ℕ → Type 0
Atom s at = (peek s at ≡ 84) ⊎ (peek s at ≡ 40)

-- A place at which neither `T` nor `(` stands: a term there has another behind its beginning.
pub record NoAtom (s : List ℕ) (at : ℕ) : Type 0 where
  pub no_true : peek s at ≡ 84 → ⊥
  pub no_paren : peek s at ≡ 40 → ⊥

-- The beginning of a term, up to the term behind it: what it makes of that term, and the nodes that stand before that term's.
pub record PrefixRead (N : List (List ℕ)) (s : List ℕ) (at n lost : ℕ) (e : List ℕ) (to m left : ℕ) (x : List ℕ) : Type 0 where
  pub place : InTerm → InTerm
  pub value : Term → Term
  pub plugs : (t : Term) (i : InTerm) → plug_t t (place i) ≡ plug_t (value t) i
  pub text : List ℕ → List ℕ
  pub shows : (t : Term) (r : List ℕ) → text (show_t t r) ≡ show_t (value t) r
  pub up : at < to
  pub few : m ≤ n + 3
  pub token : Token s to
  pub moves : Moves s at to text term_at (λ i. term_at (place i))
  pub nodes : List ℕ
  pub written : NodesWritten n m e x nodes
  pub means : (t : Term) → nodes ++ bytes_of_nodes (formula_t N t) ≡ bytes_of_nodes (formula_t N (value t))
  pub lacks : (t : Term) (r : List ℕ) → drop to s ≡ show_t t r
      → earlier left (unknown_in N (length s) (names_t t r)) ≡ earlier lost (unknown_in N (length s) (names_t (value t) r))

abbrev pub PrefixAnswer : List (List ℕ) → List ℕ → ℕ → ℕ → ℕ → List ℕ → List ℕ → Result Nodes Cursor → Type 0
PrefixAnswer N s at n lost e x (Ok r) = PrefixRead N s at n lost e r.end.at r.count r.lost x
PrefixAnswer N s at n lost e x (Err c) = Fails s at c.at term_at

-- Beginnings from `at` to `to`, any number of them: whatever is read behind them as a term, with them it is read from `at`.
pub record PrefixesPassed (N : List (List ℕ)) (s : List ℕ) (at n lost : ℕ) (e : List ℕ) (to m left : ℕ) (x : List ℕ) : Type 0 where
  pub up : at ≤ to
  pub token : Token s to
  pub room : NodeRoom x to m
  pub says : (y : List ℕ) (r : Result Nodes Cursor) → TermAnswer N s to m left x y r → TermAnswer N s at n lost e y r

-- All of them.
pub record PrefixesRead (N : List (List ℕ)) (s : List ℕ) (at n lost : ℕ) (e : List ℕ) (to m left : ℕ) (x : List ℕ) : Type 0 where
  pub passed : PrefixesPassed N s at n lost e to m left x
  pub atom : Atom s to

abbrev pub PrefixesAnswer : List (List ℕ) → List ℕ → ℕ → ℕ → ℕ → List ℕ → List ℕ → Result Nodes Cursor → Type 0
PrefixesAnswer N s at n lost e x (Ok r) = PrefixesRead N s at n lost e r.end.at r.count r.lost x
PrefixesAnswer N s at n lost e x (Err c) = Fails s at c.at term_at
