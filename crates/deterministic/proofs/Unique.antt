-- Smallest automata of the same words are equal: "equal listings exactly when they have equal words".
use mathlib.Core.Path.{◌≡◌, refl, sym, ap, ◌∙◌, subst}
use mathlib.Core.Logic.{◌⊎◌, inl, inr}
use mathlib.Core.Bool.{false}
use mathlib.Core.List.Memᴰ
use mathlib.Core.List.{List, [], ◌∷◌, ◌++◌, Memᴰ}
use Prim.Native.Nat.{ℕ, zero, suc, ◌<◌, ◌≤◌}
use native.Mathlib.Decide.{dec_lt, ℕ_discrete}
use native.Mathlib.Omega.{arith}
use lib.Seq.{ext_get_or}
use Rattle.lts.specs.Lists.{Rising}
use Rattle.automaton.specs.Listing.{Edge}
use Rattle.deterministic.specs.Automata.{edge, Automaton, count, IsEdge, Leads, Reads, Accepts, bare}
use Rattle.deterministic.specs.Smallest.{Before, SameWords, CanFinish, IsSmallest}
use Rattle.lts.proofs.Lists.{rising_unique}
use Rattle.deterministic.proofs.ListLaws.{same_flag, mem_split}
use Rattle.deterministic.proofs.Runs.{same-sym, same_trans, after_edge, before_never, before_trans, sorted_deterministic, bare-reads-none}

-- The first edge of a list that leads to n.
pub record FirstTo (n : ℕ) (l : List Edge) : Type 0 where
  pub before : List Edge
  pub first : Edge
  pub after : List Edge
  pub split : l ≡ before ++ (first ∷ after)
  pub leads : first.target ≡ n
  pub none : (a : Edge) → Memᴰ a before → a.target ≡ n → ⊥

pub first_to : (n : ℕ) (l : List Edge) (e : Edge) → Memᴰ e l → e.target ≡ n → FirstTo n l
first_to n [] e m z = absurd (Memᴰ.not-nil m)
first_to n (x ∷ l) e m z = case (ℕ_discrete x.target n) (λ k. first_to n l e k z) (Memᴰ.cases_cons m)
  where
    case : Dec (x.target ≡ n) → (Memᴰ e l → FirstTo n l) → (e ≡ x) ⊎ Memᴰ e l → FirstTo n (x ∷ l)
    case (yes y) h k = record { before = []; first = x; after = l; split = refl; leads = y; none = λ a i j. Memᴰ.not-nil i }
    case (no y) h (inl k) = absurd (y (ap (λ (u : Edge). u.target) (sym k) ∙ z))
    case (no y) h (inr k) = let f = h k in record {
      before = x ∷ f.before;
      first = f.first;
      after = f.after;
      split = ap (λ u. x ∷ u) f.split;
      leads = f.leads;
      none = λ a i j. elim (Memᴰ.cases_cons i) [ inl u ↦ y (ap (λ (v : Edge). v.target) (sym u) ∙ j) | inr u ↦ f.none a u j ];
    }

-- In a sorted list, what stands before an edge is what precedes it.
pub stands-before : (pre post : List Edge) (x a : Edge) → Rising Before (pre ++ (x ∷ post)) → Memᴰ a pre → Before a x
stands-before [] post x a s m = absurd (Memᴰ.not-nil m)
stands-before (y ∷ pre) post x a s m =
    elim (Memᴰ.cases_cons m) [ inl e ↦ subst (λ u. Before u x) (sym e) (s.0 x (Memᴰ.append_right pre (Memᴰ.head refl))) | inr n ↦ stands-before pre post x a s.1 n ]

pub before_stands : (pre post : List Edge) (x a : Edge) → Rising Before (pre ++ (x ∷ post)) → Memᴰ a (pre ++ (x ∷ post)) → Before a x → Memᴰ a pre
before_stands [] post x a s m b = elim (Memᴰ.cases_cons m) [ inl e ↦ let z = subst (λ u. Before u x) e b in absurd (before_never x x z z) | inr n ↦ absurd (before_never x a (s.0 a n) b) ]
before_stands (y ∷ pre) post x a s m b = elim (Memᴰ.cases_cons m) [ inl e ↦ Memᴰ.head e | inr n ↦ Memᴰ.tail (before_stands pre post x a s.1 n b) ]

-- A run from below n to n has an edge from below n to n or beyond.
pub crossing : (A : Automaton) (n i : ℕ) (w : List ℕ) → i < n → Leads A i w n → (e : Edge) × IsEdge A e × (e.row < n) × (n ≤ e.target)
crossing A n i [] h r = absurd (omega arith)
crossing A n i (l ∷ w) h (k, e, r) = case (dec_lt k n) (λ b. crossing A n k w b r)
  where
    case : Dec (k < n) → (k < n → (e : Edge) × IsEdge A e × (e.row < n) × (n ≤ e.target)) → (e : Edge) × IsEdge A e × (e.row < n) × (n ≤ e.target)
    case (yes b) f = f b
    case (no b) f = (edge i l k, e, h, omega (arith, b))

-- The first edge to state n leaves a lower state.
pub record Entry (d : Automaton) (n : ℕ) : Type 0 where
  pub to : FirstTo n d.edges
  pub from-below : to.first.row < n
  pub is-edge : IsEdge d to.first

module _ {P : List ℕ → Type 0} {d : Automaton} (h : IsSmallest P d) where
  -- An edge to n or beyond is not before the first edge to n.
  not_early : (n : ℕ) (f : FirstTo n d.edges) (e : Edge) → 1 ≤ n → IsEdge d e → n ≤ e.target → Before e f.first → ⊥
  not_early n f e c m b t = case (ℕ_discrete e.target n)
    where
      sorted_split : Rising Before (f.before ++ (f.first ∷ f.after))
      sorted_split = subst (Rising Before) f.split h.sorted

      stands : (a : Edge) → IsEdge d a → Before a f.first → Memᴰ a f.before
      stands a k z = before_stands f.before f.after f.first a sorted_split (subst (Memᴰ a) f.split k) z

      case : Dec (e.target ≡ n) → ⊥
      case (yes z) = f.none e (stands e m t) z
      case (no z) =
          let (pre, post, q) = mem_split m in
          let (a, k, y) = h.in_turn pre post e q n c (omega (arith, z)) in
          let u = stands-before pre post e a (subst (Rising Before) q h.sorted) k in
          f.none a (stands a (subst (Memᴰ a) (sym q) (Memᴰ.append_left (e ∷ post) k)) (before_trans a e f.first u t)) y

  edge_to : (n : ℕ) → 1 ≤ n → (e : Edge) → IsEdge d e → n ≤ e.target → FirstTo n d.edges
  edge_to n c e m b = case (ℕ_discrete e.target n)
    where
      case : Dec (e.target ≡ n) → FirstTo n d.edges
      case (yes z) = first_to n d.edges e m z
      case (no z) =
          let (pre, post, q) = mem_split m in
          let (a, k, y) = h.in_turn pre post e q n c (omega (arith, z)) in
          first_to n d.edges a (subst (Memᴰ a) (sym q) (Memᴰ.append_left (e ∷ post) k)) y

  pub entry : (n : ℕ) → 1 ≤ n → n < count d → Entry d n
  entry n c b =
      let (w, r) = h.reached n b in
      let (e, m, x, y) = crossing d n 0 w (omega arith) r in
      let f = edge_to n c e m y in
      record {
        to = f;
        from-below = case f e m x y (dec_lt e.row f.first.row);
        is-edge = stands f;
      }
    where
      stands : (f : FirstTo n d.edges) → IsEdge d f.first
      stands f = subst (Memᴰ f.first) (sym f.split) (Memᴰ.append_right f.before (Memᴰ.head refl))

      case : (f : FirstTo n d.edges) (e : Edge) → IsEdge d e → e.row < n → n ≤ e.target → Dec (e.row < f.first.row) → f.first.row < n
      case f e m x y (yes z) = absurd (not_early n f e c m y (inl z))
      case f e m x y (no z) = omega (arith, z)

-- State i of one automaton and state j of another have the same residual.
abbrev pub Match : Automaton → Automaton → ℕ → ℕ → Type 0
Match d e i j = (i < count d) × (j < count e) × SameWords (Reads d i) (Reads e j)

match_sym : (d e : Automaton) {i j : ℕ} → Match d e i j → Match e d j i
match_sym d e (a, b, s) = (b, a, same-sym s)

module _ {P Q : List ℕ → Type 0} {d e : Automaton} (h : IsSmallest P d) (k : IsSmallest Q e) where
  -- A match goes along an edge, if every state can finish.
  along : CanFinish d → (i j l i' : ℕ) → Match d e i j → IsEdge d (edge i l i') → (j' : ℕ) × IsEdge e (edge j l j') × Match d e i' j'
  along fd i j l i' (a, b, s) m =
      let c = (h.well_formed.in_range (edge i l i') m).1 in
      let (w, r) = fd i' c in
      let (j', n, u) = (s (l ∷ w)).0 (i', m, r) in
      let det-d = sorted_deterministic d h.sorted in
      let det-e = sorted_deterministic e k.sorted in (
        j',
        n,
        (
          c,
          (k.well_formed.in_range (edge j l j') n).1,
          λ v. (λ x. after_edge e det-e j l j' n v ((s (l ∷ v)).0 (i', m, x)), λ x. after_edge d det-d i l i' m v ((s (l ∷ v)).1 (j', n, x))),
        ),
      )

  one_left : (i i' j : ℕ) → Match d e i j → Match d e i' j → i ≡ i'
  one_left i i' j (a, b, s) (a', b', s') = h.apart i i' a a' (same_trans s (same-sym s'))

-- Two smallest automata of the same words, in which every state can finish: state i of one has the residual of state i of the other.
module _ {P Q : List ℕ → Type 0} {d e : Automaton} (h : IsSmallest P d) (k : IsSmallest Q e) (fd : CanFinish d) (fe : CanFinish e) where
  abbrev Same : ℕ → Type 0
  Same n = (i : ℕ) → i < n → i < count d → Match d e i i

  -- State n of d is entered first from state i by label l, and the same leads to state m in e: then m is n.
  not-below : (n m : ℕ) → Same n → Match d e n m → m < n → ⊥
  not-below n m g t b = let z : n ≡ m = one_left h k n m m t (g m b (omega (arith, t.0))) in omega arith

  not_beyond : (n m i l : ℕ) → 1 ≤ n → Same n → (f : FirstTo n d.edges) → f.first.row ≡ i → f.first.label ≡ l → i < n → n < count d
      → IsEdge e (edge i l m) → n < m → ⊥
  not_beyond n m i l c g f x y b o t u =
      let (pre, post, q) = mem_split t in
      let (a, p, z) = k.in_turn pre post (edge i l m) q n c u in
      let r = stands-before pre post (edge i l m) a (subst (Rising Before) q k.sorted) p in
      let a-edge = subst (Memᴰ a) (sym q) (Memᴰ.append_left (edge i l m ∷ post) p) in
      case a z a-edge r
    where
      low : (a : Edge) → Before a (edge i l m) → a.row < n
      low a (inl v) = omega arith
      low a (inr v) = omega (arith, v.0)

      early : (a : Edge) → Before a (edge i l m) → (j : ℕ) → Before (edge a.row a.label j) f.first
      early a (inl v) j = inl (omega arith)
      early a (inr v) j = inr (v.0 ∙ sym x, omega (arith, v.1))

      side : (a : Edge) → a.target ≡ n → Before a (edge i l m) → (j : ℕ) → IsEdge d (edge a.row a.label j) → Match e d a.target j → Dec (j < n) → ⊥
      side a z r j s v (yes w) = let y : a.target ≡ j = one_left k h a.target j j v (match_sym _ _ (g j w (omega arith))) in omega arith
      side a z r j s v (no w) = not_early h n f (edge a.row a.label j) c s (omega (arith, w)) (early a r j)

      case : (a : Edge) → a.target ≡ n → IsEdge e a → Before a (edge i l m) → ⊥
      case a z s r =
          let w = low a r in
          let (j, v, y) = along k h fe a.row a.row a.label a.target (match_sym _ _ (g a.row w (omega arith))) s in
          side a z r j v y (dec_lt j n)

  next : (n : ℕ) → 1 ≤ n → Same n → n < count d → Match d e n n
  next n c g b =
      let t = entry h n c b in
      let f = t.to in
      let x = f.first in
      let (m, u, v) = along h k fd x.row x.row x.label x.target (g x.row t.from-below (omega (arith, t.from-below))) t.is-edge in
      let v' : Match d e n m = subst (λ (y : ℕ). Match d e y m) f.leads v in
      let z : m ≡ n = meet t m u v' (dec_lt m n) (dec_lt n m) in
      subst (λ (y : ℕ). Match d e n y) z v'
    where
      meet : (t : Entry d n) (m : ℕ) → IsEdge e (edge t.to.first.row t.to.first.label m) → Match d e n m → Dec (m < n) → Dec (n < m) → m ≡ n
      meet t m u v (yes x) y = absurd (not-below n m g v x)
      meet t m u v (no x) (yes y) = absurd (not_beyond n m t.to.first.row t.to.first.label c g t.to refl refl t.from-below b u y)
      meet t m u v (no x) (no y) = omega (arith, x, y)

  module _ (same : SameWords (Accepts d) (Accepts e)) where
    pub matched : (n : ℕ) → Same n
    matched zero i b c = absurd (omega arith)
    matched (suc n) i b c = case (dec_lt i n) n refl (matched n)
      where
        case : Dec (i < n) → (m : ℕ) → m ≡ n → Same n → Match d e i i
        case (yes x) m z g = g i x c
        case (no x) zero z g = let y : 0 ≡ i = omega arith in subst (λ (j : ℕ). Match d e j j) y (h.well_formed.some_state, k.well_formed.some_state, same)
        case (no x) (suc m) z g = let y : n ≡ i = omega arith in subst (λ (j : ℕ). Match d e j j) y (next n (omega arith) g (omega arith))

    pub match_at : (i : ℕ) → i < count d → Match d e i i
    match_at i b = matched (suc i) i (omega arith) b

    -- So an edge of one is an edge of the other.
    pub shared : (a : Edge) → IsEdge d a → IsEdge e a
    shared a m =
        let r = h.well_formed.in_range a m in
        let (j, n, t) = along h k fd a.row a.row a.label a.target (match_at a.row r.0) m in
        let z : j ≡ a.target = one_left k h j a.target a.target (match_sym _ _ t) (match_sym _ _ (match_at a.target r.1)) in
        subst (λ (y : ℕ). IsEdge e (edge a.row a.label y)) z n

finishing : {P Q : List ℕ → Type 0} {d e : Automaton} (h : IsSmallest P d) (k : IsSmallest Q e) → CanFinish d → CanFinish e → SameWords (Accepts d) (Accepts e) → d ≡ e
finishing {P} {Q} {d} {e} h k fd fe same = λ i. record { final = finals i; edges = edges i }
  where
    up : (i : ℕ) → i < count d → Match d e i i
    up = match_at h k fd fe same

    down : (i : ℕ) → i < count e → Match e d i i
    down = match_at k h fe fd (same-sym same)

    sized : (n m : ℕ) → ((i : ℕ) → i < n → i < m) → n ≤ m
    sized zero m f = omega arith
    sized (suc n) m f = f n (omega arith)

    finals : d.final ≡ e.final
    finals =
        let x = sized (count d) (count e) (λ i b. (up i b).1) in
        let y = sized (count e) (count d) (λ i b. (down i b).1) in
        ext_get_or false d.final e.final (omega arith) (λ i b. same_flag _ _ ((up i b).2 []))

    edges : d.edges ≡ e.edges
    edges = rising_unique Before before_never d.edges e.edges h.sorted k.sorted (shared h k fd fe same) (shared k h fe fd (same-sym same))

never_bare : {P : List ℕ → Type 0} {d e : Automaton} (h : IsSmallest P d) → CanFinish d → SameWords (Accepts d) (Accepts e) → e ≡ bare → ⊥
never_bare h f same z = let (w, r) = f 0 h.well_formed.some_state in bare-reads-none w (subst (λ (a : Automaton). Accepts a w) z ((same w).0 r))

-- "Two questions over the same label numbers have equal listings exactly when they have equal words."
pub unique : {P Q : List ℕ → Type 0} {d e : Automaton} → IsSmallest P d → IsSmallest Q e → SameWords P Q → d ≡ e
unique {P} {Q} {d} {e} h k same = case h.no_trap k.no_trap
  where
    words : SameWords (Accepts d) (Accepts e)
    words = same_trans (same-sym h.exact) (same_trans same k.exact)

    case : CanFinish d ⊎ (d ≡ bare) → CanFinish e ⊎ (e ≡ bare) → d ≡ e
    case (inl a) (inl b) = finishing h k a b words
    case (inl a) (inr b) = absurd (never_bare h a words b)
    case (inr a) (inl b) = absurd (never_bare k b (same-sym words) a)
    case (inr a) (inr b) = a ∙ sym b

pub equal_words : {P Q : List ℕ → Type 0} {d e : Automaton} → IsSmallest P d → IsSmallest Q e → d ≡ e → SameWords P Q
equal_words {P} {Q} {d} {e} h k z = same_trans h.exact (subst (λ (a : Automaton). SameWords (Accepts a) Q) (sym z) (same-sym k.exact))
