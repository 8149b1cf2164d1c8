-- The names of a set's labels one behind the other: what is put down of the first k labels.
use mathlib.Core.Path.{◌≡◌, refl, sym, ap, ◌∙◌, subst}
use mathlib.Core.Bool.{Bool, true, false, cond}
use mathlib.Core.List.Memᴰ
use mathlib.Core.List.{List, [], ◌∷◌, ◌++◌, append-nil, Memᴰ}
use Prim.Native.Nat.{ℕ, suc, ◌+◌, ◌*◌, ◌≤◌, ◌<◌}
use native.Mathlib.Omega.{arith}
use lib.Dec.{eqb}
use lib.ListN.{length, take, drop, get_or, length-append, length-take, take-append-drop}
use lib.Seq.{take_all}
use borrow.Author.Tests.{eq-eqb, ne_eqb}
use Rattle.lts.specs.Lists.{bind}
use Rattle.lts.specs.Names.{is_name}
use Rattle.lts.proofs.Laws.NameRuns.{name-short}
use Rattle.actl.specs.Actions.{Mask, in_set}
use Rattle.written_back.specs.FormulaText.{members, joined}
use Rattle.written_back.proofs.Laws.Sets.{members-to, members-few, members-of, joined-more, joined-short}
use Rattle.formula_pieces.specs.inner.Adds.{Adds, label_text}
use Rattle.formula_pieces.proofs.Laws.Adds.{adds_then}

abbrev Named : List (List ℕ) → Type 0
Named N = (n : List ℕ) → Memᴰ n N → is_name n ≡ true

-- Only no names have no text.
joined-some : (l : List (List ℕ)) → Named l → (at end : ℕ) → end ≡ at + length (joined l) → eqb end at ≡ eqb (length l) 0
joined-some [] named at end e = eq-eqb end at (omega arith)
joined-some (n ∷ l) named at end e =
    let some = (name-short n (named n (Memᴰ.head refl))).0 in
    ne_eqb end at (λ z. omega (arith, some, length-append n (bind (λ x. 124 ∷ x) l))) ∙ sym (ne_eqb (length (n ∷ l)) 0 (λ z. omega arith))

-- What is put of a label, by whether the set has it.
pub label-put : (m : Mask) (start k : ℕ) (name : List ℕ) (t : Bool) {at to : ℕ} {e x : List ℕ} → in_set m (k + 1) ≡ t
    → Adds (cond t (cond (eqb at start) [] (124 ∷ []) ++ name) []) at e x to → Adds (label_text m start at k name) at e x to
label-put m start k name t {at} {to} {e} {x} d a = subst (λ b. Adds (cond b (cond (eqb at start) [] (124 ∷ []) ++ name) []) at e x to) (sym d) a

module _ (N : List (List ℕ)) (named : Named N) (m : Mask) (at : ℕ) (e : List ℕ) where
  abbrev among : ℕ → List (List ℕ)
  among k = members (take k N) m

  among_named : (k : ℕ) → Named (among k)
  among_named k n h = named n (subst (λ l. Memᴰ n l) (take-append-drop k N) (Memᴰ.append_left (drop k N) (members-of 1 (take k N) m n h)))

  -- The text of the first k labels.
  abbrev pub Joining : List ℕ → ℕ → ℕ → Type 0
  Joining x end k = Adds (joined (among k)) at e x end

  pub joining_more : {x y name : List ℕ} {end to : ℕ} (k : ℕ) → k < length N → get_or N k [] ≡ name → Joining x end k
      → Adds (label_text m at end k name) end x y to → Joining y to (k + 1)
  joining_more {x} {y} {name} {end} {to} k few is j a =
      subst (λ l. Adds l at e y to) (sym (text (in_set m (k + 1)) refl)) (adds_then j (subst (λ n. Adds (label_text m at end k n) end x y to) (sym is) a))
    where
      grown : among (k + 1) ≡ among k ++ cond (in_set m (k + 1)) (get_or N k [] ∷ []) []
      grown =
          let one : suc k ≡ k + 1 = omega arith in
          let two : 1 + k ≡ k + 1 = omega arith in
          ap among (sym one) ∙ (members-to k 1 N m few ∙ ap (λ a. among k ++ cond (in_set m a) (get_or N k [] ∷ []) []) two)

      text : (t : Bool) → in_set m (k + 1) ≡ t → joined (among (k + 1)) ≡ joined (among k) ++ label_text m at end k (get_or N k [])
      text true d =
          ap joined (grown ∙ ap (λ t. among k ++ cond t (get_or N k [] ∷ []) []) d)
          ∙ (joined-more (among k) (get_or N k [])
          ∙ (ap (λ t. joined (among k) ++ (cond t [] (124 ∷ []) ++ get_or N k [])) (sym (joined-some (among k) (among_named k) at end j.ends))
          ∙ ap (λ t. joined (among k) ++ cond t (cond (eqb end at) [] (124 ∷ []) ++ get_or N k []) []) (sym d)))
      text false d =
          ap joined (grown ∙ (ap (λ t. among k ++ cond t (get_or N k [] ∷ []) []) d ∙ append-nil (among k)))
          ∙ (sym (append-nil (joined (among k))) ∙ ap (λ t. joined (among k) ++ cond t (cond (eqb end at) [] (124 ∷ []) ++ get_or N k []) []) (sym d))

  pub joining_all : {x : List ℕ} {end : ℕ} (k : ℕ) → length N ≤ k → Joining x end k → Adds (joined (members N m)) at e x end
  joining_all {x} {end} k h j = subst (λ l. Adds (joined (members l m)) at e x end) (take_all k N h) j

  -- Fourteen bytes for each label are enough.
  pub joining_short : {x : List ℕ} {end : ℕ} (k : ℕ) → Joining x end k → end ≤ at + 14 * k
  joining_short k j =
      omega (arith, j.ends, joined-short (among k) (λ n h. (name-short n (among_named k n h)).1), members-few 1 (take k N) m, length-take k N)
