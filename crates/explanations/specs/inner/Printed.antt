-- The executable twin of `printed` (../Printed.antt), from the bytes in the lent places: `listing-printed` (proofs/Lines.antt) makes them equal.
use Rattle.std.specs.Prelude.{◌≡◌, cond, List, [], ◌∷◌, ◌++◌, ℕ, ◌+◌, ◌*◌, eqb, length, get_or}
use Rattle.automaton.specs.Bytes.{row_length, edge_at}
use Rattle.columns.specs.Lines.{numbers_line}
use Rattle.lts.specs.inner.Lists.{up_from}
use Rattle.lts.specs.Lists.{bind}
use Rattle.lts.specs.Reply.{Reply, accepted, refusal, overwritten}
use Rattle.explanations.specs.Explanation.{Summary}
use Rattle.explanations.specs.Printed.{edge_line, summary_line}

-- The same from the bytes in the lent places.
abbrev pub row_text : List ℕ → ℕ → List ℕ
row_text rows i = numbers_line (i ∷ get_or rows (i * row_length) 0 ∷ get_or rows (i * row_length + 1) 0 ∷ get_or rows (i * row_length + 2) 0 ∷ [])

abbrev pub edge_text : List ℕ → ℕ → List ℕ
edge_text edges j = edge_line (edge_at edges j)

abbrev pub rows_text : List ℕ → ℕ → List ℕ
rows_text rows n = bind (row_text rows) (up_from 0 n)

abbrev pub edges_text : List ℕ → ℕ → List ℕ
edges_text edges n = bind (edge_text edges) (up_from 0 n)

abbrev pub listing_text : Summary → List ℕ → List ℕ → List ℕ
listing_text s rows edges = summary_line s ++ (rows_text rows s.rows ++ edges_text edges s.edges)

-- What a writer leaves: a text at the start of a buffer, which held `before`, and the text's length.
pub record TextWritten (text before out : List ℕ) (end : ℕ) : Type 0 where
  pub is : out ≡ overwritten text before
  pub ends : end ≡ length text

-- A reply about the beginning of a formula of `n` bytes. "formula over 512 bytes": 5, "its length"
abbrev pub with_length : {A : Type 0} → ℕ → Reply A → Reply A
with_length n (accepted a) = accepted a
with_length n (refusal number figure) = refusal number (cond (eqb number 5) n figure)
