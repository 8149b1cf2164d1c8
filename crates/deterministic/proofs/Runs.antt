-- Laws of `Leads` and `Reads`; residuals of deterministic automata.
use mathlib.Core.Path.{◌≡◌, refl, sym, ap, ◌∙◌, subst}
use mathlib.Core.Logic.{◌⊎◌, inl, inr}
use mathlib.Core.Bool.{false≢true}
use mathlib.Core.List.Memᴰ
use mathlib.Core.List.{List, [], ◌∷◌, ◌++◌}
use Prim.Native.Nat.{ℕ, ◌<◌}
use native.Mathlib.Omega.{arith}
use Rattle.lts.specs.Lists.{Rising}
use Rattle.automaton.specs.Listing.{Edge}
use Rattle.deterministic.specs.Automata.{edge, Automaton, count, IsEdge, Leads, Reads, Accepts, WellFormed, Deterministic, bare}
use Rattle.deterministic.specs.Smallest.{Before, SameWords}
use Rattle.deterministic.proofs.ListLaws.{rising_mem}

pub same-sym : {P Q : List ℕ → Type 0} → SameWords P Q → SameWords Q P
same-sym h w = ((h w).1, (h w).0)

pub same_trans : {P Q R : List ℕ → Type 0} → SameWords P Q → SameWords Q R → SameWords P R
same_trans h k w = (λ x. (k w).0 ((h w).0 x), λ x. (h w).1 ((k w).1 x))

-- A run and then a reading.
pub run_on : (A : Automaton) (i j : ℕ) (w v : List ℕ) → Leads A i w j → Reads A j v → Reads A i (w ++ v)
run_on A i j [] v r h = subst (λ k. Reads A k v) (sym r) h
run_on A i j (l ∷ w) v (k, e, r) h = (k, e, run_on A k j w v r h)

pub split_run : (A : Automaton) (i : ℕ) (w v : List ℕ) → Reads A i (w ++ v) → (j : ℕ) × Leads A i w j × Reads A j v
split_run A i [] v h = (i, refl, h)
split_run A i (l ∷ w) v (k, e, h) = let (j, r, x) = split_run A k w v h in (j, (k, e, r), x)

pub run_range : (A : Automaton) → WellFormed A → (i j : ℕ) (w : List ℕ) → i < count A → Leads A i w j → j < count A
run_range A f i j [] h r = subst (λ k. k < count A) r h
run_range A f i j (l ∷ w) h (k, e, r) = run_range A f k j w (f.in_range (edge i l k) e).1 r

pub run_unique : (A : Automaton) → Deterministic A → (i j k : ℕ) (w : List ℕ) → Leads A i w j → Leads A i w k → j ≡ k
run_unique A d i j k [] r s = sym r ∙ s
run_unique A d i j k (l ∷ w) (m, e, r) (n, f, s) = run_unique A d m j k w r (subst (λ x. Leads A x w k) (sym (d i l m n e f)) s)

-- After an edge, the residual is what the state reads behind its label.
pub after_edge : (A : Automaton) → Deterministic A → (i l j : ℕ) → IsEdge A (edge i l j) → (w : List ℕ) → Reads A i (l ∷ w) → Reads A j w
after_edge A d i l j e w (k, f, h) = subst (λ x. Reads A x w) (d i l k j f e) h

pub after_run : (A : Automaton) → Deterministic A → (i j : ℕ) (w v : List ℕ) → Leads A i w j → Reads A i (w ++ v) → Reads A j v
after_run A d i j w v r h = let (k, s, x) = split_run A i w v h in subst (λ y. Reads A y v) (run_unique A d i k j w s r) x

-- Order of edges.
pub before_never : (a b : Edge) → Before a b → Before b a → ⊥
before_never a b (inl x) (inl y) = omega arith
before_never a b (inl x) (inr y) = omega (arith, y.0)
before_never a b (inr x) (inl y) = omega (arith, x.0)
before_never a b (inr x) (inr y) = omega (arith, x.1, y.1)

pub before_trans : (a b c : Edge) → Before a b → Before b c → Before a c
before_trans a b c (inl x) (inl y) = inl (omega arith)
before_trans a b c (inl x) (inr y) = inl (omega (arith, y.0))
before_trans a b c (inr x) (inl y) = inl (omega (arith, x.0))
before_trans a b c (inr x) (inr y) = inr (x.0 ∙ y.0, omega (arith, x.1, y.1))

pub sorted_deterministic : (A : Automaton) → Rising Before A.edges → Deterministic A
sorted_deterministic A s i l j k e f = case (rising_mem Before A.edges s e f)
  where
    case : (edge i l j ≡ edge i l k) ⊎ (Before (edge i l j) (edge i l k) ⊎ Before (edge i l k) (edge i l j)) → j ≡ k
    case (inl z) = ap (λ (x : Edge). x.target) z
    case (inr (inl (inl z))) = absurd (omega arith)
    case (inr (inl (inr z))) = absurd (omega (arith, z.1))
    case (inr (inr (inl z))) = absurd (omega arith)
    case (inr (inr (inr z))) = absurd (omega (arith, z.1))

pub bare-reads-none : (w : List ℕ) → Accepts bare w → ⊥
bare-reads-none [] h = absurd (false≢true h)
bare-reads-none (l ∷ w) (k, e, h) = Memᴰ.not-nil e
