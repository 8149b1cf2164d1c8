-- Laws of the slots' bytes: one more slot is put behind the others, and the slots give back what they hold.
use mathlib.Core.Path.{◌≡◌, refl, sym, ap, ap₂, ◌∙◌}
use mathlib.Core.Bool.{true}
use mathlib.Core.List.{List, [], ◌∷◌, ◌++◌, map, append_assoc, append-nil}
use Prim.Native.Nat.{ℕ, zero, suc, ◌+◌, ◌-◌, ◌*◌, ◌<◌, ◌≤◌}
use native.Mathlib.Nat.{add-zero, zero-add}
use native.Mathlib.Omega.{arith}
use lib.ListN.{length, get_or, take, drop, replicate, length-append, length-replicate, replicate-append-replicate}
use lib.Seq.{take-append_seam, drop-append-add, take_at, drop_at, drop-drop, get_or-drop}
use Rattle.lts.specs.Sizes.{most_labels, most_transitions, name_slot_length, transition_length}
use Rattle.lts.specs.inner.Sizes.{names_length, transitions_length}
use Rattle.columns.specs.Bytes.{padded}
use Rattle.columns.specs.inner.Write.{pasted}
use Rattle.lts.specs.inner.Lists.{up_from}
use Rattle.lts.specs.Lists.{every}
use Rattle.lts.specs.Lists.{bind}
use Rattle.lts.specs.Steps.{Step}
use Rattle.lts.specs.Names.{is_name, lookup}
use Rattle.lts.specs.Reading.{used, step_below, above}
use Rattle.lts.specs.Prepared.{name_slot, transition_slot}
use Rattle.lts.specs.inner.Slots.{counted, stored_name, stored_names, stored_step, rises_after, name_bytes, step_bytes}
use Rattle.lts.proofs.Booleans.{and-true-of, and-true-to}
use Rattle.lts.proofs.Lists.{bind_append}
use Rattle.lts.specs.inner.Answers.{is_some}
use Rattle.lts.proofs.Laws.NameRuns.{name-short}
use Rattle.lts.proofs.Laws.Names.{used_looked_up}

-- Zeros behind a list.
abbrev zeros : ℕ → List ℕ
zeros n = replicate n 0

drop-zeros : (k n : ℕ) → drop k (zeros n) ≡ zeros (n - k)
drop-zeros zero n = let all : n ≡ n - 0 = omega arith in ap zeros all
drop-zeros (suc k) zero = let none : 0 ≡ 0 - suc k = omega arith in ap zeros none
drop-zeros (suc k) (suc n) = let same : n - k ≡ suc n - suc k = omega arith in drop-zeros k n ∙ ap zeros same

pub padded-written : (w : ℕ) (m v : List ℕ) → length m + length v ≤ w → pasted (padded w m) (length m) v ≡ padded w (m ++ v)
padded-written w m v h =
    let left : w - length m - length v ≡ w - length (m ++ v) = omega (arith, length-append m v) in
    ap₂ (λ x y. x ++ (v ++ y)) (take-append_seam m (replicate (w - length m) 0))
    (drop-append-add m (replicate (w - length m) 0) (length v) ∙ drop-zeros (length v) (w - length m) ∙ ap (λ n. replicate n 0) left)
    ∙ sym (append_assoc m v (replicate (w - length (m ++ v)) 0))

pub padded_inner : (w u : ℕ) (m v : List ℕ) → length v ≤ u → length m + u ≤ w → padded w (m ++ v) ≡ padded w (m ++ padded u v)
padded_inner w u m v h k =
    let inner : length (padded u v) ≡ u = length-append v (replicate (u - length v) 0) ∙ ap (λ n. length v + n) (length-replicate (u - length v) 0) ∙ omega arith in
    let left : w - length (m ++ v) ≡ (u - length v) + (w - length (m ++ padded u v)) = omega (arith, length-append m v, length-append m (padded u v)) in
    ap (λ n. (m ++ v) ++ replicate n 0) left
    ∙ ap (λ z. (m ++ v) ++ z) (sym (replicate-append-replicate (u - length v) (w - length (m ++ padded u v)) 0))
    ∙ simp append_assoc

-- Names.
slot-length : (n : List ℕ) → length n ≤ 13 → length (name_slot n) ≡ 16
slot-length n h = length-append (counted n) (replicate (16 - length (counted n)) 0) ∙ ap (λ k. length (counted n) + k) (length-replicate (16 - length (counted n)) 0) ∙ omega arith

names-length : (names : List (List ℕ)) → every is_name names ≡ true → length (bind name_slot names) ≡ length names * name_slot_length
names-length [] e = refl
names-length (n ∷ names) e =
    let d = and-true-of (is_name n) (every is_name names) e in
    length-append (name_slot n) (bind name_slot names) ∙ omega (arith, slot-length n (name-short n d.0).1, names-length names d.1)

pub name-written : (names : List (List ℕ)) (name : List ℕ) (k : ℕ) → length names ≡ k → k < most_labels → every is_name names ≡ true → length name ≤ 13
    → pasted (name_bytes names) (k * name_slot_length) (counted name) ≡ name_bytes (names ++ (name ∷ []))
name-written names name k c h e s =
    let long : length (bind name_slot names) ≡ k * name_slot_length = names-length names e ∙ ap (λ n. n * name_slot_length) c in
    ap (λ i. pasted (name_bytes names) i (counted name)) (sym long)
    ∙ padded-written names_length (bind name_slot names) (counted name) (omega arith)
    ∙ padded_inner names_length 16 (bind name_slot names) (counted name) (omega arith) (omega arith)
    ∙ ap (λ z. padded names_length (bind name_slot names ++ z)) (sym (append-nil (name_slot name)))
    ∙ ap (padded names_length) (sym (bind_append name_slot names (name ∷ [])))

stored_slot : (b : List ℕ) (j : ℕ) (name z : List ℕ) → drop (j * name_slot_length) b ≡ name_slot name ++ z → stored_name b j ≡ name
stored_slot b j name z e =
    let size : get_or b (j * name_slot_length) 0 ≡ length name =
    ap (λ p. get_or b p 0) (sym (add-zero (j * name_slot_length))) ∙ sym (get_or-drop (j * name_slot_length) b 0 0) ∙ ap (λ l. get_or l 0 0) e in
    let rest : drop (j * name_slot_length + 1) b ≡ (name ++ replicate (16 - length (counted name)) 0) ++ z = sym (drop-drop 1 (j * name_slot_length) b) ∙ ap (drop 1) e in
    ap₂ take size (rest ∙ append_assoc name (replicate (16 - length (counted name)) 0) z) ∙ take_at name (replicate (16 - length (counted name)) 0 ++ z) (length name) refl

stored_from : (b : List ℕ) (j : ℕ) (names : List (List ℕ)) (z : List ℕ) → every is_name names ≡ true → drop (j * name_slot_length) b ≡ bind name_slot names ++ z
    → map (stored_name b) (up_from j (length names)) ≡ names
stored_from b j [] z e d = refl
stored_from b j (n ∷ names) z e d =
    let f = and-true-of (is_name n) (every is_name names) e in
    let here : drop (j * name_slot_length) b ≡ name_slot n ++ (bind name_slot names ++ z) = d ∙ append_assoc (name_slot n) (bind name_slot names) z in
    let next : j * name_slot_length + name_slot_length ≡ suc j * name_slot_length = omega arith in
    let further : drop (suc j * name_slot_length) b ≡ bind name_slot names ++ z =
    ap (λ p. drop p b) (sym next) ∙ sym (drop-drop 16 (j * name_slot_length) b) ∙ ap (drop 16) here ∙ drop_at (name_slot n) (bind name_slot names ++ z) 16 (slot-length n (name-short n f.0).1) in
    ap₂ (λ x y. x ∷ y) (stored_slot b j n (bind name_slot names ++ z) here) (stored_from b (suc j) names z f.1 further)

pub names_stored : (names : List (List ℕ)) → every is_name names ≡ true → stored_names (name_bytes names) (length names) ≡ names
names_stored names e = stored_from (name_bytes names) 0 names (replicate (names_length - length (bind name_slot names)) 0) e refl

pub names_snoc : (names : List (List ℕ)) (name : List ℕ) → every is_name names ≡ true → is_name name ≡ true → every is_name (names ++ (name ∷ [])) ≡ true
names_snoc [] name e d = rw d
names_snoc (n ∷ names) name e d =
    let f = and-true-of (is_name n) (every is_name names) e in
    and-true-to (is_name n) (every is_name (names ++ (name ∷ []))) f.0 (names_snoc names name f.1 d)

pub used_stored : (b : List ℕ) (count : ℕ) (names : List (List ℕ)) (name : List ℕ) → length names ≡ count → every is_name names ≡ true → b ≡ name_bytes names
    → is_some (lookup (stored_names b count) name) ≡ used names name
used_stored b count names name c e k = ap (λ l. is_some (lookup l name)) (ap₂ stored_names k (sym c) ∙ names_stored names e) ∙ sym (used_looked_up names name)

-- Transitions.
steps-length : (steps : List Step) → length (bind transition_slot steps) ≡ length steps * transition_length
steps-length [] = refl
steps-length (x ∷ steps) = let d = steps-length steps in omega arith

pub step-written : (steps : List Step) (st : Step) (k : ℕ) → length steps ≡ k → k < most_transitions
    → pasted (step_bytes steps) (k * transition_length) (transition_slot st) ≡ step_bytes (steps ++ (st ∷ []))
step-written steps st k c h =
    let long : length (bind transition_slot steps) ≡ k * transition_length = steps-length steps ∙ ap (λ n. n * transition_length) c in
    ap (λ i. pasted (step_bytes steps) i (transition_slot st)) (sym long)
    ∙ padded-written transitions_length (bind transition_slot steps) (transition_slot st) (omega arith)
    ∙ ap (λ z. padded transitions_length z) (sym (bind_append transition_slot steps (st ∷ [])))

stored_step_lem : (b : List ℕ) (j : ℕ) (x : Step) (z : List ℕ) → drop (j * transition_length) b ≡ transition_slot x ++ z → stored_step b j ≡ x
stored_step_lem b j x z e =
    let from : get_or b (j * transition_length) 0 ≡ x.from =
    ap (λ p. get_or b p 0) (sym (add-zero (j * transition_length))) ∙ sym (get_or-drop (j * transition_length) b 0 0) ∙ ap (λ l. get_or l 0 0) e in
    let label : get_or b (j * transition_length + 1) 0 ≡ x.label = sym (get_or-drop (j * transition_length) b 1 0) ∙ ap (λ l. get_or l 1 0) e in
    let to : get_or b (j * transition_length + 2) 0 ≡ x.to = sym (get_or-drop (j * transition_length) b 2 0) ∙ ap (λ l. get_or l 2 0) e in
    λ i. record { from = from i; label = label i; to = to i }

last-from : (b : List ℕ) (j : ℕ) (x : Step) (l : List Step) (z : List ℕ) (st : Step) → drop (j * transition_length) b ≡ bind transition_slot (x ∷ l) ++ z
    → step_below (stored_step b (j + length l)) st ≡ above (x ∷ l) st
last-from b j x [] z st e = let here : stored_step b (j + 0) ≡ x = ap (stored_step b) (add-zero j) ∙ stored_step_lem b j x z e in ap (λ y. step_below y st) here
last-from b j x (y ∷ l) z st e =
    let next : j * transition_length + transition_length ≡ suc j * transition_length = omega arith in
    let further : drop (suc j * transition_length) b ≡ bind transition_slot (y ∷ l) ++ z = ap (λ p. drop p b) (sym next) ∙ sym (drop-drop 3 (j * transition_length) b) ∙ ap (drop 3) e in
    let place : j + suc (length l) ≡ suc j + length l = omega arith in
    ap (λ p. step_below (stored_step b p) st) place ∙ last-from b (suc j) y l z st further

pub rises-above : (steps : List Step) (st : Step) → rises_after (step_bytes steps) (length steps) st ≡ above steps st
unfolding rises_after
rises-above [] st = refl
rises-above (x ∷ l) st =
    ap (λ p. step_below (stored_step (step_bytes (x ∷ l)) p) st) (sym (zero-add (length l)))
    ∙ last-from (step_bytes (x ∷ l)) 0 x l (replicate (transitions_length - length (bind transition_slot (x ∷ l))) 0) st refl

pub rises_stored : (b : List ℕ) (count : ℕ) (steps : List Step) (st : Step) → length steps ≡ count → b ≡ step_bytes steps → rises_after b count st ≡ above steps st
rises_stored b count steps st c k = ap₂ (λ x n. rises_after x n st) k (sym c) ∙ rises-above steps st
