-- The bytes of a deterministic automaton: how many they are, and that they tell which one it is.
use mathlib.Core.Path.{◌≡◌, refl, sym, ap, ◌∙◌}
use mathlib.Core.Logic.{◌↔◌}
use mathlib.Core.Bool.{Bool, true, false}
use mathlib.Core.List.{List, [], ◌∷◌, ◌++◌, map}
use Prim.Native.Nat.{ℕ, ◌+◌, ◌*◌, ◌<◌}
use native.Mathlib.Omega.{arith}
use lib.ListN.{length, get_or, take, drop, length-append, length-map, take-append-drop}
use lib.Seq.{take_at, drop_at}
use Rattle.lts.specs.Lists.{bind}
use Rattle.lts.specs.Steps.{Table}
use Rattle.actl.specs.Formulas.{Formula}
use Rattle.automaton.specs.Listing.{Edge}
use Rattle.automaton.specs.Build.{Counts}
use Rattle.automaton.specs.Explains.{Explains}
use Rattle.automaton.specs.Bytes.{bit_of}
use Rattle.deterministic.specs.Automata.{Automaton, count}
use Rattle.deterministic.specs.Smallest.{SameWords}
use Rattle.deterministic.specs.SmallestAsked.{SmallestIn}
use Rattle.deterministic.specs.Bytes.{step_bytes, automaton_bytes, pair_at, used_length, used}
use Rattle.deterministic.proofs.Unique.{unique, equal_words}

-- Counts that two bytes hold.
pub record Small (d : Automaton) : Type 0 where
  pub few_states : count d < 65536
  pub few_edges : length d.edges < 65536

cut : {A : Type 0} (a b x y : List A) → length a ≡ length b → a ++ x ≡ b ++ y → (a ≡ b) × (x ≡ y)
cut a b x y l e = (
  sym (take_at a x (length b) l) ∙ (ap (take (length b)) e ∙ take_at b y (length b) refl),
  sym (drop_at a x (length b) l) ∙ (ap (drop (length b)) e ∙ drop_at b y (length b) refl),
)

marks-same : (l m : List Bool) → map bit_of l ≡ map bit_of m → l ≡ m
marks-same [] [] e = refl
marks-same [] (b ∷ m) e = absurd (omega (arith, ap length e))
marks-same (a ∷ l) [] e = absurd (omega (arith, ap length e))
marks-same (a ∷ l) (b ∷ m) e =
    let x = one a b (ap (λ z. get_or z 0 0) e) in
    let y = marks-same l m (ap (drop 1) e) in
    λ i. x i ∷ y i
  where
    one : (a b : Bool) → ◌≡◌ {A = ℕ} (bit_of a) (bit_of b) → a ≡ b
    one true true e = refl
    one true false e = absurd (omega arith)
    one false true e = absurd (omega arith)
    one false false e = refl

edges-same : (l m : List Edge) → bind step_bytes l ≡ bind step_bytes m → l ≡ m
edges-same [] [] e = refl
edges-same [] (b ∷ m) e = absurd (omega (arith, ap length e))
edges-same (a ∷ l) [] e = absurd (omega (arith, ap length e))
edges-same (a ∷ l) (b ∷ m) e =
    let x = ap (λ z. get_or z 0 0) e in
    let y = ap (λ z. get_or z 1 0) e in
    let z = ap (λ z. get_or z 2 0) e in
    let r = edges-same l m (ap (drop 3) e) in
    λ i. record { row = x i; label = y i; target = z i } ∷ r i

edges-long : (l : List Edge) → length (bind step_bytes l) ≡ 3 * length l
edges-long [] = refl
edges-long (a ∷ l) = let e = edges-long l in omega arith

module _ (d : Automaton) (s : Small d) where
  pub states-read : pair_at 0 (automaton_bytes d) ≡ count d
  unfolding automaton_bytes
  states-read = let h = s.few_states in omega arith

  pub edges-read : pair_at 2 (automaton_bytes d) ≡ length d.edges
  unfolding automaton_bytes
  edges-read = let h = s.few_edges in omega arith

  pub bytes-long : length (automaton_bytes d) ≡ 4 + count d + 3 * length d.edges
  unfolding automaton_bytes
  bytes-long = omega (arith, length-append (map bit_of d.final) (bind step_bytes d.edges), length-map d.final bit_of, edges-long d.edges)

pub bytes_same : (d e : Automaton) → Small d → Small e → automaton_bytes d ≡ automaton_bytes e → d ≡ e
unfolding automaton_bytes
bytes_same d e s r h =
    let n : count d ≡ count e = sym (states-read d s) ∙ (ap (pair_at 0) h ∙ states-read e r) in
    let l : length (map bit_of d.final) ≡ length (map bit_of e.final) = length-map d.final bit_of ∙ (n ∙ sym (length-map e.final bit_of)) in
    let (a, b) = cut (map bit_of d.final) (map bit_of e.final) (bind step_bytes d.edges) (bind step_bytes e.edges) l (ap (drop 4) h) in
    let x = marks-same d.final e.final a in
    let y = edges-same d.edges e.edges b in
    λ i. record { final = x i; edges = y i }

-- What a buffer that begins with an automaton's bytes uses.
pub used-is : (d : Automaton) → Small d → (left : List ℕ) → take (length (automaton_bytes d)) left ≡ automaton_bytes d → used left ≡ automaton_bytes d
unfolding automaton_bytes
used-is d s left e =
    let z : left ≡ automaton_bytes d ++ drop (length (automaton_bytes d)) left = sym (take-append-drop (length (automaton_bytes d)) left) ∙ ap (λ l. l ++ drop (length (automaton_bytes d)) left) e in
    let n : used_length left ≡ length (automaton_bytes d) = ap used_length z ∙ (front (drop (length (automaton_bytes d)) left) ∙ sym (bytes-long d s)) in
    ap (λ k. take k left) n ∙ e
  where
    front : (x : List ℕ) → used_length (automaton_bytes d ++ x) ≡ 4 + count d + 3 * length d.edges
    front x = let h = s.few_states in let k = s.few_edges in omega arith

-- 02: "Two questions over the same label numbers, neither refused, have equal listings exactly when they have equal words."
module _ {t u : Table} {F G : Formula} {c k : Counts} {rows edges left more others right : List ℕ} (a : SmallestIn t F c rows edges left) (b : SmallestIn u G k more others right) where
  small : {v : Table} {H : Formula} {n : Counts} {x y z : List ℕ} (s : SmallestIn v H n x y z) → Small s.d
  small s = record { few_states = omega (arith, s.few_states); few_edges = omega (arith, s.few_edges) }

  pub equal_questions : (used left ≡ used right) ↔ SameWords (Explains t F) (Explains u G)
  equal_questions =
      let x = used-is a.d (small a) left a.says in
      let y = used-is b.d (small b) right b.says in (
        λ e. equal_words a.is_smallest b.is_smallest (bytes_same a.d b.d (small a) (small b) (sym x ∙ (e ∙ y))),
        λ w. x ∙ (ap automaton_bytes (unique a.is_smallest b.is_smallest w) ∙ sym y),
      )
