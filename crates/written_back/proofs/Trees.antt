-- A formula's tree in the base notation, over names that differ: its text is the formula's, and what it stands for is the formula.
use mathlib.Core.Path.{◌≡◌, refl, sym, ap, ◌∙◌}
use mathlib.Core.Bool.{true}
use mathlib.Core.List.Memᴰ
use mathlib.Core.List.{List, [], ◌∷◌, ◌++◌, append_assoc}
use Prim.Native.Nat.{ℕ, ◌≤◌}
use lib.ListN.{length}
use Rattle.lts.specs.Sizes.{most_labels}
use Rattle.lts.specs.Lists.{Rising}
use Rattle.lts.specs.inner.Range.{Differ}
use Rattle.lts.proofs.Booleans.{and-true-of}
use Rattle.actl.specs.Actions.{Mask, Cond, silent, labels}
use Rattle.actl.specs.Formulas.{Formula, tru, not, or, ex, ax, eu, eu_then, nodes}
use Rattle.actl.specs.Grammar.{Name, Condition, dot, set, existential, universal, Piece, byte, pieces_s, pieces_c, pieces_f, pieces_t}
use Rattle.actl.specs.Base.{BaseHead, Base, BaseTerm, typed, typed_term}
use Rattle.actl.specs.Meaning.{mask_in, cond_of, formula_of, formula_of_term}
use Rattle.actl.specs.Prepared.{slot_of, mask_within}
use Rattle.actl.specs.inner.Show.{show_c, show_f, show_t}
use Rattle.actl.proofs.Laws.Accepted.{Within}
use Rattle.actl.proofs.Laws.Classed.{root_among_nodes}
use Rattle.written_back.specs.FormulaText.{set_text, cond_text, as_arm, formula_text}
use Rattle.written_back.proofs.SetTrees.{bytes_of, set_tree, set_shown, names-found}
use Rattle.written_back.proofs.SetMasks.{set-read, Clear, clear_byte, set_clear}

abbrev cond_tree : List Name → Cond → Condition
cond_tree K silent = dot
cond_tree K (labels m) = set (set_tree K m)

-- An arm that is `|` stands in round brackets.
abbrev pub as_term : Base → BaseTerm
as_term (Base.term t) = t
as_term (Base.or f a b t) = BaseTerm.paren 0 (Base.or f a b t) 0

-- A keyword with its square bracket, and a blank behind it.
abbrev headed : BaseHead → Base → Base
headed h f = Base.term (BaseTerm.modal h 1 (as_term f))

abbrev pub tree_of : List Name → Formula → Base
tree_of K tru = Base.term BaseTerm.tru
tree_of K (not f) = Base.term (BaseTerm.not 0 (as_term (tree_of K f)))
tree_of K (or f g) = Base.or (tree_of K f) 0 0 (as_term (tree_of K g))
tree_of K (ex c f) = headed (BaseHead.next existential 0 0 (cond_tree K c) 0) (tree_of K f)
tree_of K (ax c f) = headed (BaseHead.next universal 0 0 (cond_tree K c) 0) (tree_of K f)
tree_of K (eu a f) = headed (BaseHead.until 0 0 (set_tree K a) 0) (tree_of K f)
tree_of K (eu_then a b f) = headed (BaseHead.until_then 0 0 (set_tree K a) 0 0 (set_tree K b) 0) (tree_of K f)

-- Its text.
cond_shown : (K : List Name) (c : Cond) (s : List ℕ) → show_c (cond_tree K c) s ≡ cond_text (bytes_of K) c ++ s
cond_shown K silent s = refl
cond_shown K (labels m) s = set_shown K m s

square_shut : (t x s : List ℕ) → t ++ (93 ∷ 32 ∷ (x ++ s)) ≡ ((t ++ (93 ∷ 32 ∷ [])) ++ x) ++ s
square_shut t x s = sym (append_assoc (t ++ (93 ∷ 32 ∷ [])) x s ∙ append_assoc t (93 ∷ 32 ∷ []) (x ++ s))

two-shut : (t u x s : List ℕ) → t ++ (59 ∷ (((u ++ (93 ∷ 32 ∷ [])) ++ x) ++ s)) ≡ (((t ++ (59 ∷ u)) ++ (93 ∷ 32 ∷ [])) ++ x) ++ s
two-shut t u x s =
    let shut = u ++ (93 ∷ 32 ∷ []) in
    sym (ap (λ l. (l ++ x) ++ s) (append_assoc t (59 ∷ u) (93 ∷ 32 ∷ []))
    ∙ (ap (λ l. l ++ s) (append_assoc t (59 ∷ shut) x) ∙ append_assoc t (59 ∷ (shut ++ x)) s))

module _ (K : List Name) where
  abbrev text : Formula → List ℕ
  text f = formula_text (bytes_of K) f

  arm_shown : (f : Formula) → ((s : List ℕ) → show_f (typed (tree_of K f)) s ≡ text f ++ s)
      → (s : List ℕ) → show_t (typed_term (as_term (tree_of K f))) s ≡ as_arm f (text f) ++ s
  arm_shown tru h s = h s
  arm_shown (not f) h s = h s
  arm_shown (or f g) h s = ap (λ r. 40 ∷ r) (h (41 ∷ s) ∙ sym (append_assoc (text (or f g)) (41 ∷ []) s))
  arm_shown (ex c f) h s = h s
  arm_shown (ax c f) h s = h s
  arm_shown (eu a f) h s = h s
  arm_shown (eu_then a b f) h s = h s

  -- What stands in a square bracket, and the arm behind it.
  next_shown : (c : Cond) (f : Formula) (s : List ℕ) {r : List ℕ} → r ≡ as_arm f (text f) ++ s
      → show_c (cond_tree K c) (93 ∷ 32 ∷ r) ≡ ((cond_text (bytes_of K) c ++ (93 ∷ 32 ∷ [])) ++ as_arm f (text f)) ++ s
  next_shown c f s {r} e =
      let inside = cond_text (bytes_of K) c in
      cond_shown K c (93 ∷ 32 ∷ r) ∙ (ap (λ l. inside ++ (93 ∷ 32 ∷ l)) e ∙ square_shut inside (as_arm f (text f)) s)

  pub formula_shown : (F : Formula) (s : List ℕ) → show_f (typed (tree_of K F)) s ≡ formula_text (bytes_of K) F ++ s
  unfolding formula_text
  formula_shown tru s = refl
  formula_shown (not f) s = ap (λ r. 126 ∷ r) (arm_shown f (formula_shown f) s)
  formula_shown (or f g) s =
      ap (λ r. show_f (typed (tree_of K f)) (124 ∷ r)) (arm_shown g (formula_shown g) s)
      ∙ (formula_shown f (124 ∷ (as_arm g (text g) ++ s)) ∙ sym (append_assoc (text f) (124 ∷ as_arm g (text g)) s))
  formula_shown (ex c f) s = ap (λ r. 69 ∷ 88 ∷ 91 ∷ r) (next_shown c f s (arm_shown f (formula_shown f) s))
  formula_shown (ax c f) s = ap (λ r. 65 ∷ 88 ∷ 91 ∷ r) (next_shown c f s (arm_shown f (formula_shown f) s))
  formula_shown (eu a f) s = ap (λ r. 69 ∷ 85 ∷ 91 ∷ r) (next_shown (labels a) f s (arm_shown f (formula_shown f) s))
  formula_shown (eu_then a b f) s =
      let under = next_shown (labels b) f s (arm_shown f (formula_shown f) s) in
      ap (λ r. 69 ∷ 85 ∷ 91 ∷ r) (set_shown K a _ ∙ (ap (λ r. set_text (bytes_of K) a ++ (59 ∷ r)) under
      ∙ two-shut (set_text (bytes_of K) a) (set_text (bytes_of K) b) (as_arm f (text f)) s))

-- What it stands for.
arm_read : (N : List (List ℕ)) (g : Base) → formula_of_term N (as_term g) ≡ formula_of N g
arm_read N (Base.term t) = refl
arm_read N (Base.or f a b t) = refl

module _ (K : List Name) (differ : Rising Differ (bytes_of K)) where
  module _ (few : length K ≤ most_labels) where
    abbrev Fits : Mask → Type 0
    Fits m = mask_within (length K) m ≡ true

    root-within : (F : Formula) → Within (length K) F → Fits (slot_of F).first × Fits (slot_of F).second
    root-within F h =
        and-true-of (mask_within (length K) (slot_of F).first) (mask_within (length K) (slot_of F).second) (h F (root_among_nodes F))

    mask-read : (m : Mask) → Fits m → mask_in (bytes_of K) (set_tree K m) ≡ m
    mask-read m h = set-read K m differ few h

    ex-read : (c : Cond) (f : Formula) → Within (length K) (ex c f) → cond_of (bytes_of K) (cond_tree K c) ≡ c
    ex-read silent f h = refl
    ex-read (labels m) f h = ap labels (mask-read m (root-within (ex (labels m) f) h).0)

    ax-read : (c : Cond) (f : Formula) → Within (length K) (ax c f) → cond_of (bytes_of K) (cond_tree K c) ≡ c
    ax-read silent f h = refl
    ax-read (labels m) f h = ap labels (mask-read m (root-within (ax (labels m) f) h).0)

    arm_of_lem : (f : Formula) → formula_of (bytes_of K) (tree_of K f) ≡ f → formula_of_term (bytes_of K) (as_term (tree_of K f)) ≡ f
    arm_of_lem f e = arm_read (bytes_of K) (tree_of K f) ∙ e

    pub formula-read : (F : Formula) → Within (length K) F → formula_of (bytes_of K) (tree_of K F) ≡ F
    formula-read tru h = refl
    formula-read (not f) h = ap not (arm_of_lem f (formula-read f (λ g d. h g (Memᴰ.tail d))))
    formula-read (or f g) h =
        let left = formula-read f (λ x d. h x (Memᴰ.tail (Memᴰ.append_left (nodes g) d))) in
        let right = arm_of_lem g (formula-read g (λ x d. h x (Memᴰ.tail (Memᴰ.append_right (nodes f) d)))) in
        λ i. or (left i) (right i)
    formula-read (ex c f) h =
        let under = arm_of_lem f (formula-read f (λ g d. h g (Memᴰ.tail d))) in
        λ i. ex (ex-read c f h i) (under i)
    formula-read (ax c f) h =
        let under = arm_of_lem f (formula-read f (λ g d. h g (Memᴰ.tail d))) in
        λ i. ax (ax-read c f h i) (under i)
    formula-read (eu a f) h =
        let under = arm_of_lem f (formula-read f (λ g d. h g (Memᴰ.tail d))) in
        λ i. eu (mask-read a (root-within (eu a f) h).0 i) (under i)
    formula-read (eu_then a b f) h =
        let under = arm_of_lem f (formula-read f (λ g d. h g (Memᴰ.tail d))) in
        let (one, two) = root-within (eu_then a b f) h in
        λ i. eu_then (mask-read a one i) (mask-read b two i) (under i)

  -- The table has its names.
  abbrev Has : List Piece → Type 0
  Has p = Clear (bytes_of K) p

  typing : (b : ℕ) {p : List Piece} → Has p → Has (byte b ∷ p)
  typing b c = clear_byte (bytes_of K) b c

  has-set : (m : Mask) {p : List Piece} → Has p → Has (pieces_s (set_tree K m) p)
  has-set m {p} c = set_clear (bytes_of K) K m (names-found 1 K differ) p c

  has-cond : (x : Cond) {p : List Piece} → Has p → Has (pieces_c (cond_tree K x) p)
  has-cond silent c = typing 46 c
  has-cond (labels m) c = has-set m c

  has_arm : (g : Base) → ((p : List Piece) → Has p → Has (pieces_f (typed g) p))
      → {p : List Piece} → Has p → Has (pieces_t (typed_term (as_term g)) p)
  has_arm (Base.term t) h {p} c = h p c
  has_arm (Base.or f a b t) h {p} c = typing 40 (h (byte 41 ∷ p) (typing 41 c))

  has-behind : (g : Base) → ((p : List Piece) → Has p → Has (pieces_f (typed g) p))
      → {p : List Piece} → Has p → Has (byte 93 ∷ byte 32 ∷ pieces_t (typed_term (as_term g)) p)
  has-behind g h c = typing 93 (typing 32 (has_arm g h c))

  pub formula_clear : (F : Formula) (p : List Piece) → Clear (bytes_of K) p → Clear (bytes_of K) (pieces_f (typed (tree_of K F)) p)
  formula_clear tru p c = typing 84 c
  formula_clear (not f) p c = typing 126 (has_arm (tree_of K f) (formula_clear f) c)
  formula_clear (or f g) p c = formula_clear f _ (typing 124 (has_arm (tree_of K g) (formula_clear g) c))
  formula_clear (ex x f) p c = typing 69 (typing 88 (typing 91 (has-cond x (has-behind (tree_of K f) (formula_clear f) c))))
  formula_clear (ax x f) p c = typing 65 (typing 88 (typing 91 (has-cond x (has-behind (tree_of K f) (formula_clear f) c))))
  formula_clear (eu a f) p c = typing 69 (typing 85 (typing 91 (has-set a (has-behind (tree_of K f) (formula_clear f) c))))
  formula_clear (eu_then a b f) p c =
      typing 69 (typing 85 (typing 91 (has-set a (typing 59 (has-set b (has-behind (tree_of K f) (formula_clear f) c))))))
