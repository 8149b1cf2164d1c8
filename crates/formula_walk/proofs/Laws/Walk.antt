-- The walk over a formula's nodes writes the formula's text, node by node; and how much one node writes at most.
use mathlib.Core.Path.{◌≡◌, refl, sym, ap, ◌∙◌}
use mathlib.Core.Bool.{Bool, true, false, cond, ◌&&◌}
use mathlib.Core.List.{List, [], ◌∷◌, ◌++◌, map, append-nil, append_assoc, Memᴰ}
use Prim.Native.Nat.{ℕ, suc, ◌-◌, ◌≤◌, ◌<◌}
use native.Mathlib.Omega.{arith}
use lib.Dec.{eqb}
use lib.ListN.{length, length-append}
use Rattle.lts.specs.inner.Lists.{up_from}
use Rattle.lts.proofs.Lists.{map_append}
use Rattle.actl.specs.Actions.{Mask, Cond, silent, labels}
use Rattle.actl.specs.Formulas.{Formula, tru, not, or, ex, ax, eu, eu_then, nodes}
use Rattle.actl.specs.Prepared.{Slot, slot, next_slot, slot_of}
use Rattle.actl.specs.inner.Prepared.{slot_at}
use Rattle.written_back.specs.FormulaText.{set_text, cond_text, as_arm, formula_text}
use Rattle.written_back.proofs.Laws.Sets.{set-text-short}
use Rattle.formula_walk.specs.inner.Walk.{keyword, slot_text, drained, rested, opening, closing, written_at, arm_after, pending_after}
use Rattle.formula_walk.specs.inner.Walk.{walked}

-- A node's own text. That of EX and AX goes by their condition; the others' texts are had by computation.
pub slot-text-ex : (N : List (List ℕ)) (c : Cond) → slot_text N (next_slot 4 c) ≡ keyword 69 88 (cond_text N c)
slot-text-ex N silent = refl
slot-text-ex N (labels m) = refl

pub slot-text-ax : (N : List (List ℕ)) (c : Cond) → slot_text N (next_slot 6 c) ≡ keyword 65 88 (cond_text N c)
slot-text-ax N silent = refl
slot-text-ax N (labels m) = refl

-- A node that is neither T nor `|` writes its own text h alone; the next node is an arm, and as much is pending as before.
pub record Alone (N : List (List ℕ)) (s : Slot) (arm : Bool) (p h : List ℕ) : Type 0 where
  pub writes : written_at N s arm p ≡ h
  pub next_arm : arm_after s.kind ≡ true
  pub pending : pending_after s.kind arm p ≡ p

no_bracket : (arm : Bool) (h : List ℕ) → cond (arm && false) (40 ∷ []) [] ++ (h ++ []) ≡ h
no_bracket true h = append-nil h
no_bracket false h = append-nil h

module _ (N : List (List ℕ)) (arm : Bool) (p : List ℕ) where
  pub alone-not : Alone N (slot 2 0 0) arm p (126 ∷ [])
  alone-not = record { writes = no_bracket arm (126 ∷ []); next_arm = refl; pending = refl }

  pub alone-ex : (c : Cond) → Alone N (next_slot 4 c) arm p (keyword 69 88 (cond_text N c))
  alone-ex silent = record { writes = no_bracket arm (keyword 69 88 (46 ∷ [])); next_arm = refl; pending = refl }
  alone-ex (labels m) = record { writes = no_bracket arm (keyword 69 88 (set_text N m)); next_arm = refl; pending = refl }

  pub alone-ax : (c : Cond) → Alone N (next_slot 6 c) arm p (keyword 65 88 (cond_text N c))
  alone-ax silent = record { writes = no_bracket arm (keyword 65 88 (46 ∷ [])); next_arm = refl; pending = refl }
  alone-ax (labels m) = record { writes = no_bracket arm (keyword 65 88 (set_text N m)); next_arm = refl; pending = refl }

  pub alone-until : (a : Mask) → Alone N (slot 8 a 0) arm p (keyword 69 85 (set_text N a))
  alone-until a = record { writes = no_bracket arm (keyword 69 85 (set_text N a)); next_arm = refl; pending = refl }

  pub alone-until-then : (a b : Mask) → Alone N (slot 9 a b) arm p (keyword 69 85 (set_text N a ++ (59 ∷ set_text N b)))
  alone-until-then a b =
      record { writes = no_bracket arm (keyword 69 85 (set_text N a ++ (59 ∷ set_text N b))); next_arm = refl; pending = refl }

-- T writes what is pending up to the next `|`; a `|` opens its bracket.
pub written-true : (N : List (List ℕ)) (arm : Bool) (p : List ℕ) → written_at N (slot 1 0 0) arm p ≡ 84 ∷ drained p
written-true N true p = refl
written-true N false p = refl

pub written-or : (N : List (List ℕ)) (arm : Bool) (p : List ℕ) → written_at N (slot 3 0 0) arm p ≡ opening arm 3
written-or N true p = refl
written-or N false p = refl

either : (b : Bool) (l : List ℕ) → cond b l l ≡ l
either true l = refl
either false l = refl

-- What comes behind an arm: what is pending there, and the rest of the walk.
abbrev behind : List (List ℕ) → List Slot → List ℕ → List ℕ
behind N rest p = drained p ++ walked N rest true (rested p)

-- A node with one arm: its own text h, that of its arm, and what comes behind it.
over_arm : (N : List (List ℕ)) (s : Slot) (f : Formula) (rest : List Slot) (arm : Bool) (p : List ℕ) {h : List ℕ} → Alone N s arm p h
    → walked N (map slot_of (nodes f) ++ rest) true p ≡ as_arm f (formula_text N f) ++ behind N rest p
    → walked N (s ∷ (map slot_of (nodes f) ++ rest)) arm p
    ≡ cond arm (h ++ as_arm f (formula_text N f)) (h ++ as_arm f (formula_text N f)) ++ behind N rest p
over_arm N s f rest arm p {h} n e =
    let a = as_arm f (formula_text N f) in
    let d = behind N rest p in
    (λ i. n.writes i ++ walked N (map slot_of (nodes f) ++ rest) (n.next_arm i) (n.pending i))
    ∙ (ap (λ w. h ++ w) e ∙ (sym (append_assoc h a d) ∙ ap (λ w. w ++ d) (sym (either arm (h ++ a)))))

-- `|` between its arms, without brackets and with them.
two_arms : (x y d : List ℕ) {w v : List ℕ} → w ≡ x ++ (124 ∷ v) → v ≡ y ++ d → w ≡ (x ++ (124 ∷ y)) ++ d
two_arms x y d e f = e ∙ (ap (λ l. x ++ (124 ∷ l)) f ∙ sym (append_assoc x (124 ∷ y) d))

in_brackets : (t d : List ℕ) {w : List ℕ} → w ≡ t ++ (41 ∷ d) → 40 ∷ w ≡ (40 ∷ (t ++ (41 ∷ []))) ++ d
in_brackets t d e = ap (λ l. 40 ∷ l) (e ∙ sym (append_assoc t (41 ∷ []) d))

arms_apart : (f g : Formula) (rest : List Slot)
    → map slot_of (nodes f ++ nodes g) ++ rest ≡ map slot_of (nodes f) ++ (map slot_of (nodes g) ++ rest)
arms_apart f g rest =
    ap (λ l. l ++ rest) (map_append slot_of (nodes f) (nodes g)) ∙ append_assoc (map slot_of (nodes f)) (map slot_of (nodes g)) rest

pub walked-formula : (N : List (List ℕ)) (F : Formula) (rest : List Slot) (arm : Bool) (p : List ℕ)
    → walked N (map slot_of (nodes F) ++ rest) arm p
    ≡ cond arm (as_arm F (formula_text N F)) (formula_text N F) ++ (drained p ++ walked N rest true (rested p))
unfolding formula_text
walked-formula N tru rest true p = refl
walked-formula N tru rest false p = refl
walked-formula N (not f) rest arm p = over_arm N (slot 2 0 0) f rest arm p (alone-not N arm p) (walked-formula N f rest true p)
walked-formula N (or f g) rest false p =
    ap (λ l. walked N l false (124 ∷ p)) (arms_apart f g rest)
    ∙ two_arms (formula_text N f) (as_arm g (formula_text N g)) (behind N rest p)
    (walked-formula N f (map slot_of (nodes g) ++ rest) false (124 ∷ p)) (walked-formula N g rest true p)
walked-formula N (or f g) rest true p =
    let right = as_arm g (formula_text N g) in
    in_brackets (formula_text N f ++ (124 ∷ right)) (behind N rest p)
    (ap (λ l. walked N l false (124 ∷ 41 ∷ p)) (arms_apart f g rest)
    ∙ two_arms (formula_text N f) right (41 ∷ behind N rest p)
    (walked-formula N f (map slot_of (nodes g) ++ rest) false (124 ∷ 41 ∷ p)) (walked-formula N g rest true (41 ∷ p)))
walked-formula N (ex c f) rest arm p = over_arm N (next_slot 4 c) f rest arm p (alone-ex N arm p c) (walked-formula N f rest true p)
walked-formula N (ax c f) rest arm p = over_arm N (next_slot 6 c) f rest arm p (alone-ax N arm p c) (walked-formula N f rest true p)
walked-formula N (eu a f) rest arm p = over_arm N (slot 8 a 0) f rest arm p (alone-until N arm p a) (walked-formula N f rest true p)
walked-formula N (eu_then a b f) rest arm p =
    over_arm N (slot 9 a b) f rest arm p (alone-until-then N arm p a b) (walked-formula N f rest true p)

pub walked-text : (N : List (List ℕ)) (F : Formula) → walked N (map slot_of (nodes F)) false [] ≡ formula_text N F
walked-text N F =
    ap (λ l. walked N l false []) (sym (append-nil (map slot_of (nodes F))))
    ∙ (walked-formula N F [] false [] ∙ append-nil (formula_text N F))

-- The walk as a loop over the slots in a prepared formula's bytes.
pub walked_step : (N : List (List ℕ)) (b : List ℕ) (k n : ℕ) (arm : Bool) (p : List ℕ) → k < n
    → walked N (map (slot_at b) (up_from k (n - k))) arm p
    ≡ written_at N (slot_at b k) arm p
    ++ walked N (map (slot_at b) (up_from (suc k) (n - suc k))) (arm_after (slot_at b k).kind) (pending_after (slot_at b k).kind arm p)
walked_step N b k n arm p h =
    let e : n - k ≡ suc (n - suc k) = omega arith in
    ap (λ m. walked N (map (slot_at b) (up_from k m)) arm p) e

pub walked_end : (N : List (List ℕ)) (b : List ℕ) (k n : ℕ) (arm : Bool) (p : List ℕ) → n ≤ k
    → walked N (map (slot_at b) (up_from k (n - k))) arm p ≡ []
walked_end N b k n arm p h =
    let e : n - k ≡ 0 = omega arith in
    ap (λ m. walked N (map (slot_at b) (up_from k m)) arm p) e

-- Lengths.
pub drained-short : (p : List ℕ) → length (drained p) ≤ length p
drained-short [] = omega arith
drained-short (b ∷ p) = step (eqb b 124) (drained-short p)
  where
    step : (t : Bool) → length (drained p) ≤ length p → length (b ∷ cond t [] (drained p)) ≤ suc (length p)
    step true h = omega arith
    step false h = omega arith

record Short (n : ℕ) (l : List ℕ) : Type 0 where
  few : length l ≤ n

short : {n : ℕ} (l : List ℕ) → length l ≤ n → Short n l
short l h = record { few = h }

either_short : {n : ℕ} (b : Bool) {x y : List ℕ} → Short n x → Short n y → Short n (cond b x y)
either_short true h k = h
either_short false h k = k

keyword-short : (a b : ℕ) (s : List ℕ) → length s ≤ 1125 → Short 1130 (keyword a b s)
keyword-short a b s h = short (keyword a b s) (omega (arith, length-append s (93 ∷ 32 ∷ [])))

module _ (N : List (List ℕ)) (s : Slot) (few : length N ≤ 40) (low : (n : List ℕ) → Memᴰ n N → length n ≤ 13) where
  set-short : (m : ℕ) → length (set_text N m) ≤ 562
  set-short m = omega (arith, set-text-short N m low)

  slot-short : Short 1130 (slot_text N s)
  slot-short =
      let k = s.kind in
      let one = set_text N s.first in
      let two = set_text N s.second in
      let first = set-short s.first in
      let both : length (one ++ (59 ∷ two)) ≤ 1125 = omega (arith, first, set-short s.second, length-append one (59 ∷ two)) in
      either_short (eqb k 1) (short (84 ∷ []) (omega arith)) (
      either_short (eqb k 2) (short (126 ∷ []) (omega arith)) (
      either_short (eqb k 3) (short [] (omega arith)) (
      either_short (eqb k 4) (keyword-short 69 88 (46 ∷ []) (omega arith)) (
      either_short (eqb k 5) (keyword-short 69 88 one (omega (arith, first))) (
      either_short (eqb k 6) (keyword-short 65 88 (46 ∷ []) (omega arith)) (
      either_short (eqb k 7) (keyword-short 65 88 one (omega (arith, first))) (
      either_short (eqb k 8) (keyword-short 69 85 one (omega (arith, first))) (
      either_short (eqb k 9) (keyword-short 69 85 (one ++ (59 ∷ two)) both) (short [] (omega arith))))))))))

closing-short : (k : ℕ) (p : List ℕ) → length p ≤ 80 → Short 80 (closing k p)
closing-short k p h = either_short (eqb k 1) (short (drained p) (omega (arith, drained-short p))) (short [] (omega arith))

pub written-short : (N : List (List ℕ)) (s : Slot) (arm : Bool) (p : List ℕ) → length N ≤ 40
    → ((n : List ℕ) → Memᴰ n N → length n ≤ 13) → length p ≤ 80 → length (written_at N s arm p) ≤ 1250
written-short N s arm p few low h =
    let k = s.kind in
    let before : Short 1 (opening arm k) = either_short (arm && eqb k 3) (short (40 ∷ []) (omega arith)) (short [] (omega arith)) in
    let own = slot-short N s few low in
    let after = closing-short k p h in
    omega (
      arith,
      before.few,
      own.few,
      after.few,
      length-append (opening arm k) (slot_text N s ++ closing k p),
      length-append (slot_text N s) (closing k p),
    )
