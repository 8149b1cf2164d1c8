-- What the C functions return and write: the refusal's number, or 0; and the figure.
use Rattle.std.specs.Prelude.{ℕ}
use Rattle.lts.specs.Reply.{Reply, accepted, refusal}
use Rattle.automaton.specs.Build.{Counts}

abbrev pub number_in : {A : Type 0} → Reply A → ℕ
number_in (accepted a) = 0
number_in (refusal number figure) = number

-- The figure of a refusal; a value of what was accepted.
abbrev pub figure_in : {A : Type 0} → (A → ℕ) → Reply A → ℕ
figure_in value (accepted a) = value a
figure_in value (refusal number figure) = figure

-- A value that only an accepted call writes, and that held `before`: what it holds afterwards.
abbrev pub kept_in : {A : Type 0} → (A → ℕ) → ℕ → Reply A → ℕ
kept_in value before (accepted a) = value a
kept_in value before (refusal number figure) = before

-- "`*edge_count` is written when a build is accepted"
abbrev pub edges_in : ℕ → Reply Counts → ℕ
edges_in before r = kept_in (λ c. c.edges) before r
