-- An unending run from the start shows a formula of class 1, or breaks one of class 2, exactly if positions trace a beginning of it.
use mathlib.Core.Path.{◌≡◌, refl, sym, ap, ◌∙◌, subst}
use mathlib.Core.Logic.{◌⊎◌, inl, inr, ◌↔◌, ⊎_map}
use mathlib.Core.Bool.{Bool, true, false, false≢true}
use Prim.Native.Nat.{ℕ, zero, suc, ◌+◌, ◌-◌, ◌<◌, ◌≤◌}
use native.Mathlib.Nat.{add-zero, add-suc, suc-add, zero-add}
use native.Mathlib.Decide.{dec_le}
use native.Mathlib.Omega.{arith}
use Rattle.lts.specs.Steps.{Step, Table, IsStep}
use Rattle.actl.specs.Actions.{Mask, in_set, Cond, meets, passes}
use Rattle.actl.specs.Formulas.{Formula, tru, not, or, ex, ax, eu, eu_then, is_t, class_of, At, root}
use Rattle.actl.proofs.Classes.{class_types, HasClass}
use Rattle.satisfaction.specs.Runs.{Run}
use Rattle.automaton.specs.Places.{Final, Leads}
use Rattle.automaton.specs.Positions.{Position, at, root_at, Joins}
use Rattle.automaton.proofs.Frames.{Frame, Until, now, later, Shows, Breaks}
use Rattle.automaton.proofs.Acceptance.{Accepting, halt, move, shown_is_accepting, broken_is_accepting}
use Rattle.explanations.specs.Shown.{PassesFrom, Shown, Broken, ShowsOrBreaks}
use Rattle.explanations.specs.inner.Positions.{PositionsTrace}

-- A run as a frame: the number of the next step.
abbrev along : (ℕ → Step) → Frame
along r = record { World = ℕ; Next = λ i. Unit {0}; lab = λ i x. (r i).label; to = λ i x. suc i; Done = λ i. Unit {0} }

module _ (r : ℕ → Step) (a : Mask) (P : ℕ → Type 0) where
  until-to : (d i j : ℕ) → d + i ≡ j → PassesFrom r a i j → P j → Until (along r) a P i
  until-to zero i j e h p = now (subst P (sym e ∙ zero-add i) p)
  until-to (suc d) i j e h p = later tt (h i (omega arith) (omega arith)) (until-to d (suc i) j (omega arith) (λ k l m. h k (omega arith) m) p)

  until-of : {i : ℕ} → Until (along r) a P i → (j : ℕ) × (i ≤ j) × PassesFrom r a i j × P j
  until-of {i} (now p) = (i, omega arith, λ k l m. absurd (omega arith), p)
  until-of {i} (later x e u) =
      let (j, l, h, p) = until-of u in
      let more : (k : ℕ) → Dec (suc i ≤ k) → i ≤ k → k < j → passes a (r k).label ≡ true
      = λ k d. elim d [ yes y ↦ λ m n. h k y n | no z ↦ λ m n. subst (λ (q : ℕ). passes a (r q).label ≡ true) (omega arith) e ] in
      (j, omega arith, λ k. more k (dec_le (suc i) k), p)

cases : (b : Bool) → (b ≡ true) ⊎ (b ≡ false)
cases true = inl refl
cases false = inr refl

module _ (r : ℕ → Step) where
  T_unbroken : (f : Formula) (i : ℕ) → is_t f ≡ true → Broken f r i → ⊥
  T_unbroken tru i e d = d
  T_unbroken (not f) i e d = false≢true e
  T_unbroken (or f g) i e d = d
  T_unbroken (ex c f) i e d = d
  T_unbroken (ax c f) i e d = false≢true e
  T_unbroken (eu a f) i e d = d
  T_unbroken (eu_then a b f) i e d = d

  all_broken_to : (c : Cond) (f : Formula) (i : ℕ) → (Broken f r (suc i) → Breaks f (along r) (suc i)) → (meets c (r i).label ≡ true) ⊎ (meets c (r i).label ≡ false)
      → (is_t f ≡ true) ⊎ (is_t f ≡ false) → Broken (ax c f) r i → Breaks (ax c f) (along r) i
  all_broken_to c f i h m t (inl e) = inl (tt, e, tt)
  all_broken_to c f i h m (inl t) (inr d) = absurd (T_unbroken f (suc i) t d)
  all_broken_to c f i h (inl m) (inr t) (inr d) = inr (tt, t, m, h d)
  all_broken_to c f i h (inr m) (inr t) (inr d) = inl (tt, m, tt)

  all_broken_of : (c : Cond) (f : Formula) (i : ℕ) → (Breaks f (along r) (suc i) → Broken f r (suc i)) → Breaks (ax c f) (along r) i → Broken (ax c f) r i
  all_broken_of c f i h (inl d) = inl d.1
  all_broken_of c f i h (inr d) = inr (h d.3)

  along-run : (f : Formula) (i : ℕ) → (Shown f r i ↔ Shows f (along r) i) × (Broken f r i ↔ Breaks f (along r) i)
  along-run tru i = ((λ d. tt, λ d. tt), (λ d. d, λ d. d))
  along-run (not f) i = let h = along-run f i in (h.1, h.0)
  along-run (or f g) i = let h = (along-run f i).0 in let k = (along-run g i).0 in ((⊎_map h.0 k.0, ⊎_map h.1 k.1), (λ d. d, λ d. d))
  along-run (ex c f) i = let h = (along-run f (suc i)).0 in ((λ d. (tt, d.0, h.0 d.1), λ d. (d.1, h.1 d.2)), (λ d. d, λ d. d))
  along-run (ax c f) i = let h = (along-run f (suc i)).1 in ((λ d. d, λ d. d), (all_broken_to c f i h.0 (cases _) (cases _), all_broken_of c f i h.1))
  along-run (eu a f) i = (
    (
      λ (j, l, h, p). until-to r a (λ v. Shows f (along r) v) (j - i) i j (omega arith) h ((along-run f j).0.0 p),
      λ u. let (j, l, h, p) = until-of r a (λ v. Shows f (along r) v) u in (j, l, h, (along-run f j).0.1 p),
    ),
    (λ d. d, λ d. d),
  )
  along-run (eu_then a b f) i = (
    (
      λ (j, l, h, e, p). until-to r a (λ v. (x : Unit {0}) × (in_set b (r v).label ≡ true) × Shows f (along r) (suc v)) (j - i) i j (omega arith) h (tt, e, (along-run f (suc j)).0.0 p),
      λ u. let (j, l, h, p) = until-of r a (λ v. (x : Unit {0}) × (in_set b (r v).label ≡ true) × Shows f (along r) (suc v)) u in (j, l, h, p.1, (along-run f (suc j)).0.1 p.2),
    ),
    (λ d. d, λ d. d),
  )

-- Places along a run.
abbrev from_place : ℕ → (ℕ → ℕ) → ℕ → ℕ
from_place k p zero = k
from_place k p (suc j) = p j

module _ (F : Formula) (r : ℕ → Step) where
  record PlacesFrom (k i n : ℕ) : Type 0 where
    place : ℕ → ℕ
    first : place 0 ≡ k
    leads : (j : ℕ) → j < n → Leads F (place j) (r (i + j)).label (place (suc j))
    last : Final F (place n)

  leads-from : (k q i n : ℕ) (p : ℕ → ℕ) → p 0 ≡ q → Leads F k (r i).label q → ((j : ℕ) → j < n → Leads F (p j) (r (suc i + j)).label (p (suc j)))
      → (j : ℕ) → j < suc n → Leads F (from_place k p j) (r (i + j)).label (p j)
  leads-from k q i n p z e h zero l = rw (add-zero, z) e
  leads-from k q i n p z e h (suc j) l = rw (add-suc, ← suc-add) (h j (omega arith))

  places_of : {k i : ℕ} → Accepting (along r) F k i → (n : ℕ) × PlacesFrom k i n
  places_of {k} (halt e d) = (0, record { place = λ j. k; first = refl; leads = λ j l. absurd (omega arith); last = e })
  places_of {k} {i} (move {q} x e u) = let (n, h) = places_of u in
      (suc n, record { place = from_place k h.place; first = refl; leads = leads-from k q i n h.place h.first e h.leads; last = h.last })

  places-to : (n : ℕ) (p : ℕ → ℕ) (i : ℕ) → ((j : ℕ) → j < n → Leads F (p j) (r (i + j)).label (p (suc j))) → Final F (p n) → Accepting (along r) F (p 0) i
  places-to zero p i h d = halt d tt
  places-to (suc n) p i h d = move tt (rw add-zero at (h 0 (omega arith))) (places-to n (λ j. p (suc j)) (suc i) (λ j l. rw (suc-add, ← add-suc) (h (suc j) (omega arith))) d)

-- Places along a run of the table are positions.
module _ {t : Table} (F : Formula) (r : Run t t.start) where
  step_between : (k : ℕ) → IsStep t (record { from = (r.step k).from; label = (r.step k).label; to = (r.step (suc k)).from })
  step_between k = let e = r.follows k in
      subst (IsStep t) (λ i. record { from = (r.step k).from; label = (r.step k).label; to = sym e i }) (r.taken k)

  positions-of : (n : ℕ) → PlacesFrom F r.step 0 0 n → PositionsTrace t F r.step n
  positions-of n h = let z = h.first in record {
    position = λ k. at (h.place k) (r.step k).from;
    first = λ i. at (z i) (r.starts i);
    last = h.last;
    states = λ k l. refl;
    joins = λ k l. (step_between k, rw zero-add at (h.leads k l));
  }

  positions_accept : (n : ℕ) → PositionsTrace t F r.step n → Accepting (along r.step) F 0 0
  positions_accept n h =
      subst (λ (k : ℕ). Accepting (along r.step) F k 0) (ap (λ (p : Position). p.place) h.first)
      (places-to F r.step n (λ k. (h.position k).place) 0 (λ j l. rw zero-add (h.joins j l).1) h.last)

  accepting_run : Accepting (along r.step) F 0 0 ↔ ((n : ℕ) × PositionsTrace t F r.step n)
  accepting_run = (λ u. let (n, h) = places_of F r.step u in (n, positions-of n h), λ (n, h). positions_accept n h)

  pub shown_by_positions : class_of F ≡ 1 → Shown F r.step 0 ↔ ((n : ℕ) × PositionsTrace t F r.step n)
  shown_by_positions c =
      let o : At F 0 F = root in
      let a = (along-run r.step F 0).0 in
      let b = shown_is_accepting {M = along r.step} 0 o ((class_types F).0 c) in
      (λ x. accepting_run.0 (b.0 (a.0 x)), λ x. a.1 (b.1 (accepting_run.1 x)))

  pub broken_by_positions : class_of F ≡ 2 → Broken F r.step 0 ↔ ((n : ℕ) × PositionsTrace t F r.step n)
  broken_by_positions c =
      let o : At F 0 F = root in
      let a = (along-run r.step F 0).1 in
      let b = broken_is_accepting {M = along r.step} 0 o ((class_types F).1 c) in
      (λ x. accepting_run.0 (b.0 (a.0 x)), λ x. a.1 (b.1 (accepting_run.1 x)))

  pub runs_by_positions : HasClass F → ShowsOrBreaks F r.step ↔ ((n : ℕ) × PositionsTrace t F r.step n)
  runs_by_positions (inl c) = let h = shown_by_positions c in (one, λ x. inl (c, h.1 x))
    where
      one : ShowsOrBreaks F r.step → (n : ℕ) × PositionsTrace t F r.step n
      one (inl (e, d)) = (shown_by_positions c).0 d
      one (inr (e, d)) = absurd (omega arith)
  runs_by_positions (inr c) = let h = broken_by_positions c in (two, λ x. inr (c, h.1 x))
    where
      two : ShowsOrBreaks F r.step → (n : ℕ) × PositionsTrace t F r.step n
      two (inl (e, d)) = absurd (omega arith)
      two (inr (e, d)) = (broken_by_positions c).0 d
