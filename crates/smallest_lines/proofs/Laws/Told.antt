-- The text of an automaton tells which one it is, if its numbers fit six columns.
use mathlib.Core.Path.{◌≡◌, refl, sym, ap, ◌∙◌}
use mathlib.Core.Bool.{Bool, true, false}
use mathlib.Core.List.{List, [], ◌∷◌, ◌++◌, append_assoc, Memᴰ}
use Prim.Native.Nat.{ℕ, suc, ◌+◌, ◌<◌}
use native.Mathlib.Omega.{arith}
use lib.ListN.{length, take, drop}
use lib.Seq.{take_at, drop_at}
use Rattle.columns.specs.Columns.{column}
use Rattle.columns.specs.Lines.{numbers_line}
use Rattle.columns.proofs.Laws.Columns.{column-length, column_unique}
use Rattle.lts.specs.Lists.{bind}
use Rattle.automaton.specs.Bytes.{bit_of}
use Rattle.automaton.specs.Listing.{Edge}
use Rattle.explanations.specs.Printed.{edge_line}
use Rattle.deterministic.specs.Automata.{Automaton, count, IsEdge}
use Rattle.smallest_text.specs.Text.{state_lines, automaton_text}

cut : (a b x y : List ℕ) → length a ≡ length b → a ++ x ≡ b ++ y → (a ≡ b) × (x ≡ y)
cut a b x y l e = (
  sym (take_at a x (length b) l) ∙ (ap (take (length b)) e ∙ take_at b y (length b) refl),
  sym (drop_at a x (length b) l) ∙ (ap (drop (length b)) e ∙ drop_at b y (length b) refl),
)

-- Numbers of six columns.
abbrev Narrow : ℕ → Type 0
Narrow n = n < 1000000

first-told : (a b : ℕ) (x y : List ℕ) → Narrow a → Narrow b → column a ++ x ≡ column b ++ y → (a ≡ b) × (x ≡ y)
first-told a b x y h k e =
    let (same, rest) = cut (column a) (column b) x y (column-length a h ∙ sym (column-length b k)) e in
    (column_unique a b same, rest)

-- The first number of a line, and the line behind it.
number-told : (a b : ℕ) (l m x y : List ℕ) → Narrow a → Narrow b → numbers_line (a ∷ l) ++ x ≡ numbers_line (b ∷ m) ++ y → (a ≡ b) × (numbers_line l ++ x ≡ numbers_line m ++ y)
number-told a b l m x y h k e =
    first-told a b (numbers_line l ++ x) (numbers_line m ++ y) h k (sym (append_assoc (column a) (numbers_line l) x) ∙ e ∙ append_assoc (column b) (numbers_line m) y)

ended-told : (x y : List ℕ) → numbers_line [] ++ x ≡ numbers_line [] ++ y → x ≡ y
ended-told x y e = ap (drop 1) e

bits_told : (a b : Bool) → ◌≡◌ {A = ℕ} (bit_of a) (bit_of b) → a ≡ b
bits_told true true e = refl
bits_told true false e = absurd (omega arith)
bits_told false true e = absurd (omega arith)
bits_told false false e = refl

narrow_bit : (b : Bool) → Narrow (bit_of b)
narrow_bit true = omega arith
narrow_bit false = omega arith

marks-told : (i : ℕ) (l m : List Bool) (x y : List ℕ) → length l ≡ length m → Narrow (i + length l) → state_lines i l ++ x ≡ state_lines i m ++ y → (l ≡ m) × (x ≡ y)
marks-told i [] [] x y s h e = (refl, e)
marks-told i [] (b ∷ m) x y s h e = absurd (omega arith)
marks-told i (a ∷ l) [] x y s h e = absurd (omega arith)
marks-told i (a ∷ l) (b ∷ m) x y s h e =
    let p = state_lines (suc i) l in
    let q = state_lines (suc i) m in
    let lines = sym (append_assoc (numbers_line (i ∷ bit_of a ∷ [])) p x) ∙ e ∙ append_assoc (numbers_line (i ∷ bit_of b ∷ [])) q y in
    let (same, behind) = number-told i i (bit_of a ∷ []) (bit_of b ∷ []) (p ++ x) (q ++ y) (omega arith) (omega arith) lines in
    let (bit, past) = number-told (bit_of a) (bit_of b) [] [] (p ++ x) (q ++ y) (narrow_bit a) (narrow_bit b) behind in
    let (rest, end) = marks-told (suc i) l m x y (omega arith) (omega arith) (ended-told (p ++ x) (q ++ y) past) in
    (λ k. bits_told a b bit k ∷ rest k, end)

abbrev NarrowEdge : Edge → Type 0
NarrowEdge e = Narrow e.row × Narrow e.label × Narrow e.target

edges-told : (l m : List Edge) → length l ≡ length m → ((e : Edge) → Memᴰ e l → NarrowEdge e) → ((e : Edge) → Memᴰ e m → NarrowEdge e)
    → bind edge_line l ≡ bind edge_line m → l ≡ m
edges-told [] [] s g h e = refl
edges-told [] (b ∷ m) s g h e = absurd (omega arith)
edges-told (a ∷ l) [] s g h e = absurd (omega arith)
edges-told (a ∷ l) (b ∷ m) s g h e =
    let x = bind edge_line l in
    let y = bind edge_line m in
    let (i, j, k) = g a (Memᴰ.head refl) in
    let (i', j', k') = h b (Memᴰ.head refl) in
    let (row, first) = number-told a.row b.row (a.label ∷ a.target ∷ []) (b.label ∷ b.target ∷ []) x y i i' e in
    let (label, second) = number-told a.label b.label (a.target ∷ []) (b.target ∷ []) x y j j' first in
    let (target, third) = number-told a.target b.target [] [] x y k k' second in
    let rest = edges-told l m (omega arith) (λ z n. g z (Memᴰ.tail n)) (λ z n. h z (Memᴰ.tail n)) (ended-told x y third) in
    λ z. record { row = row z; label = label z; target = target z } ∷ rest z

pub record Fits (d : Automaton) : Type 0 where
  pub few_states : Narrow (count d)
  pub few_edges : Narrow (length d.edges)
  pub narrow : (e : Edge) → IsEdge d e → NarrowEdge e

pub text_tells : (d e : Automaton) → Fits d → Fits e → automaton_text d ≡ automaton_text e → d ≡ e
unfolding automaton_text
text_tells d e f g z =
    let p = state_lines 0 d.final ++ bind edge_line d.edges in
    let q = state_lines 0 e.final ++ bind edge_line e.edges in
    let (states, first) = number-told (count d) (count e) (length d.edges ∷ []) (length e.edges ∷ []) p q f.few_states g.few_states z in
    let (edges, second) = number-told (length d.edges) (length e.edges) [] [] p q f.few_edges g.few_edges first in
    let (final, third) = marks-told 0 d.final e.final (bind edge_line d.edges) (bind edge_line e.edges) states (omega (arith, f.few_states)) (ended-told p q second) in
    let steps = edges-told d.edges e.edges edges f.narrow g.narrow third in
    λ i. record { final = final i; edges = steps i }
