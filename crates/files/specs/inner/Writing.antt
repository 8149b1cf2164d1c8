-- What `write_reply` and `write_refused` take and leave.
use Rattle.std.specs.Prelude.{◌≡◌, cond, List, ℕ, ◌≤◌, eqb, length, take}
use Rattle.explanations.specs.Sizes.{rows_lent, edges_lent}
use Rattle.lts.specs.Reply.{Reply, accepted, refusal}
use Rattle.explanations.specs.Explanation.{Summary}
use Rattle.explanations.specs.inner.Printed.{listing_text}
use Rattle.explanations.specs.Printed.{refusal_line}

-- A refusal's line about a formula of `n` bytes. 01: "formula over 512 bytes": 5, "its length"
abbrev pub refused_line : ℕ → ℕ → ℕ → List ℕ
refused_line n number figure = refusal_line number (cond (eqb number 5) n figure)

-- The text of a reply, by the bytes in the lent places.
abbrev pub reply_text : Reply Summary → ℕ → List ℕ → List ℕ → List ℕ
reply_text (accepted s) n rows edges = listing_text s rows edges
reply_text (refusal number figure) n rows edges = refused_line n number figure

-- Counts that the program's places hold: 1,024 rows and 4,096 edges.
abbrev pub Few : Reply Summary → Type 0
Few (accepted s) = (s.rows ≤ rows_lent) × (s.edges ≤ edges_lent)
Few (refusal number figure) = Unit {0}

-- n counts bytes at the start of a buffer. The second part follows from the first; with both, a caller lends the n bytes without a proof.
abbrev pub PrefixLength : ℕ → List ℕ → Type 0
PrefixLength n buffer = (n ≤ length buffer) × (n ≡ length (take n buffer))
