-- The words of the witnesses (class 1) or of the counterexamples (class 2) of Definition 6 are the words by which the automaton
-- walks from the root at the start state to a final position.
use mathlib.Core.Path.{◌≡◌, refl, sym, ap, ◌∙◌, subst}
use mathlib.Core.Logic.{◌⊎◌, inl, inr, ◌↔◌, ⊎_map}
use mathlib.Core.Bool.{true, false}
use mathlib.Core.List.{List, [], ◌∷◌, ◌++◌}
use Prim.Native.Nat.{ℕ}
use native.Mathlib.Omega.{arith}
use Rattle.lts.specs.Steps.{Step, Table, IsStep}
use Rattle.actl.specs.Actions.{Mask, in_set, meets, passes}
use Rattle.actl.specs.Formulas.{Formula, tru, not, or, ex, ax, eu, eu_then, is_t, class_of, At, root}
use Rattle.actl.proofs.Classes.{class_types}
use Rattle.automaton.specs.Paths.{IsPath, word_of}
use Rattle.automaton.specs.Witnesses.{AllPass, Witness, Counterexample}
use Rattle.automaton.specs.Positions.{Position, at, root_at, Walk, stop, go}
use Rattle.automaton.proofs.Frames.{Frame, Until, now, later, Shows, Breaks}
use Rattle.automaton.proofs.Acceptance.{Accepting, halt, move, shown_is_accepting, broken_is_accepting}

-- Finite path-shows as a frame: what is left of the path.
abbrev Head : List Step → Type 0
Head [] = ⊥
Head (st ∷ p) = Unit {0}

abbrev lab_head : (p : List Step) → Head p → ℕ
lab_head [] x = 0
lab_head (st ∷ p) x = st.label

abbrev tail : (p : List Step) → Head p → List Step
tail [] x = []
tail (st ∷ p) x = p

abbrev pub Paths : Frame
Paths = record { World = List Step; Next = Head; lab = lab_head; to = tail; Done = λ p. p ≡ [] }

module _ (a : Mask) (P : List Step → Type 0) where
  until_path : (before rest : List Step) → AllPass a before → P rest → Until Paths a P (before ++ rest)
  until_path [] rest h p = now p
  until_path (st ∷ before) rest h p = later tt h.0 (until_path before rest h.1 p)

  abbrev Split : List Step → Type 0
  Split p = (before : List Step) × (rest : List Step) × (p ≡ before ++ rest) × AllPass a before × P rest

  split_more : (p : List Step) (x : Head p) → passes a (lab_head p x) ≡ true → Split (tail p x) → Split p
  split_more [] x e d = absurd x
  split_more (st ∷ p) x e (before, rest, z, h, q) = (st ∷ before, rest, ap (λ l. st ∷ l) z, (e, h), q)

  path_until : {p : List Step} → Until Paths a P p → Split p
  path_until {p} (now q) = ([], p, refl, tt, q)
  path_until {p} (later x e u) = split_more p x e (path_until u)

pub path_shows : (f : Formula) (p : List Step) → (Witness f p ↔ Shows f Paths p) × (Counterexample f p ↔ Breaks f Paths p)
path_shows tru p = ((λ d. d, λ d. d), (λ d. d, λ d. d))
path_shows (not f) p = let h = path_shows f p in (h.1, h.0)
path_shows (or f g) p = let h = (path_shows f p).0 in let k = (path_shows g p).0 in ((⊎_map h.0 k.0, ⊎_map h.1 k.1), (λ d. d, λ d. d))
path_shows (ex c f) p = ((λ (st, rest, e, m, w). subst (Shows (ex c f) Paths) (sym e) (tt, m, (path_shows f rest).0.0 w), back p (λ q. (path_shows f q).0.1)), (λ d. d, λ d. d))
  where
    back : (p : List Step) → ((q : List Step) → Shows f Paths q → Witness f q) → Shows (ex c f) Paths p → Witness (ex c f) p
    back [] h d = absurd d.0
    back (st ∷ p) h d = (st, p, refl, d.1, h p d.2)
path_shows (ax c f) p = ((λ d. d, λ d. d), (there (λ q. (path_shows f q).1.0), back p (λ q. (path_shows f q).1.1)))
  where
    there : ((q : List Step) → Counterexample f q → Breaks f Paths q) → Counterexample (ax c f) p → Breaks (ax c f) Paths p
    there h (inl d) = subst (Breaks (ax c f) Paths) (sym d.1) (inl (tt, d.2, refl))
    there h (inr d) = subst (Breaks (ax c f) Paths) (sym d.3) (inr (tt, d.2, d.4, h d.1 d.5))

    back : (p : List Step) → ((q : List Step) → Breaks f Paths q → Counterexample f q) → Breaks (ax c f) Paths p → Counterexample (ax c f) p
    back [] h (inl d) = absurd d.0
    back [] h (inr d) = absurd d.0
    back (st ∷ p) h (inl d) = inl (st, ap (λ l. st ∷ l) d.2, d.1)
    back (st ∷ p) h (inr d) = inr (st, p, d.1, refl, d.2, h p d.3)
path_shows (eu a f) p = (
  (
    λ (before, rest, e, h, w). subst (Shows (eu a f) Paths) (sym e) (until_path a _ before rest h ((path_shows f rest).0.0 w)),
    λ u. let (before, rest, e, h, w) = path_until a _ u in (before, rest, e, h, (path_shows f rest).0.1 w),
  ),
  (λ d. d, λ d. d),
)
path_shows (eu_then a b f) p = (
  (
    λ (before, st, rest, e, h, m, w). subst (Shows (eu_then a b f) Paths) (sym e) (until_path a _ before (st ∷ rest) h (tt, m, (path_shows f rest).0.0 w)),
    λ u. let (before, rest, e, h, w) = path_until a _ u in back rest before e h (λ q. (path_shows f q).0.1) w,
  ),
  (λ d. d, λ d. d),
)
  where
    back : (rest before : List Step) → p ≡ before ++ rest → AllPass a before → ((q : List Step) → Shows f Paths q → Witness f q)
        → (x : Head rest) × (in_set b (lab_head rest x) ≡ true) × Shows f Paths (tail rest x) → Witness (eu_then a b f) p
    back [] before e h i d = absurd d.0
    back (st ∷ rest) before e h i d = (before, st, rest, e, h, d.1, i rest d.2)

module _ (t : Table) (F : Formula) where
  not-ended : {st : Step} {p : List Step} → st ∷ p ≡ [] → ⊥
  not-ended e = let z : ◌≡◌ {A = ℕ} 0 1 = cc in omega arith

  walk_of : {k : ℕ} (s : ℕ) (p : List Step) → Accepting Paths F k p → IsPath t s p → Walk t F (at k s) (word_of p)
  walk_of s [] (halt e d) h = stop e
  walk_of s [] (move x e u) h = absurd x
  walk_of s (st ∷ p) (halt e d) h = absurd (not-ended d)
  walk_of {k} s (st ∷ p) (move x e u) h = subst (λ (q : ℕ). Walk t F (at k q) (st.label ∷ word_of p)) h.0 (go (h.1, e) (walk_of st.to p u h.2))

  path_of : {p : Position} {w : List ℕ} → Walk t F p w → (path : List Step) × IsPath t p.state path × (word_of path ≡ w) × Accepting Paths F p.place path
  path_of (stop e) = ([], tt, refl, halt e refl)
  path_of (go {p} {q} {l} (st, e) u) = let (path, h, z, d) = path_of u in
      (record { from = p.state; label = l; to = q.state } ∷ path, (refl, st, h), ap (λ v. l ∷ v) z, move tt e d)

-- A finite path from the start, with this word.
abbrev pub WordOf : Table → (List Step → Type 0) → List ℕ → Type 0
WordOf t P w = (p : List Step) × IsPath t t.start p × (word_of p ≡ w) × P p

module _ (t : Table) (F : Formula) (w : List ℕ) where
  pub words-of_witnesses : class_of F ≡ 1 → WordOf t (Witness F) w ↔ Walk t F (root_at t) w
  words-of_witnesses c =
      let o : At F 0 F = root in
      let b : (p : List Step) → Shows F Paths p ↔ Accepting Paths F 0 p = λ p. shown_is_accepting {M = Paths} p o ((class_types F).0 c) in (
        λ (p, h, e, d). subst (Walk t F (root_at t)) e (walk_of t F t.start p ((b p).0 ((path_shows F p).0.0 d)) h),
        λ u. let (p, h, e, d) = path_of t F u in (p, h, e, (path_shows F p).0.1 ((b p).1 d)),
      )

  pub words-of_counterexamples : class_of F ≡ 2 → WordOf t (Counterexample F) w ↔ Walk t F (root_at t) w
  words-of_counterexamples c =
      let o : At F 0 F = root in
      let b : (p : List Step) → Breaks F Paths p ↔ Accepting Paths F 0 p = λ p. broken_is_accepting {M = Paths} p o ((class_types F).1 c) in (
        λ (p, h, e, d). subst (Walk t F (root_at t)) e (walk_of t F t.start p ((b p).0 ((path_shows F p).1.0 d)) h),
        λ u. let (p, h, e, d) = path_of t F u in (p, h, e, (path_shows F p).1.1 ((b p).1 d)),
      )
