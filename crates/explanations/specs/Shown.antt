-- 01: what an unending run shows and breaks "at a number i, just before step i, by these rules alone".
use Rattle.std.specs.Prelude.{◌≡◌, ◌⊎◌, true, false, ℕ, suc, ◌≤◌, ◌<◌}
use Rattle.lts.specs.Steps.{Step}
use Rattle.actl.specs.Actions.{Mask, in_set, meets, passes}
use Rattle.actl.specs.Formulas.{Formula, tru, not, or, ex, ax, eu, eu_then, class_of}

-- "each step from i to before j is silent or meets A"
abbrev pub PassesFrom : (ℕ → Step) → Mask → ℕ → ℕ → Type 0
PassesFrom r a i j = (k : ℕ) → i ≤ k → k < j → passes a (r k).label ≡ true

abbrev mutual
  pub Shown : Formula → (ℕ → Step) → ℕ → Type 0
  -- "`T` is shown at every i and broken at none."
  Shown tru r i = Unit {0}
  -- "`~f` is shown where f is broken, and broken where f is shown."
  Shown (not f) r i = Broken f r i
  -- "`f | g` is shown where f is or g is."
  Shown (or f g) r i = Shown f r i ⊎ Shown g r i
  -- "`EX[A] f` is shown at i if step i meets A and f is shown at i + 1."
  Shown (ex c f) r i = (meets c (r i).label ≡ true) × Shown f r (suc i)
  Shown (ax c f) r i = ⊥
  -- "`EU[A] f` is shown at i if, for some j from i on, each step from i to before j is silent or meets A, and f is shown at j."
  Shown (eu a f) r i = (j : ℕ) × (i ≤ j) × PassesFrom r a i j × Shown f r j
  -- "`EU[A;B] f` is shown at i if, for some j from i on, each step from i to before j is silent or meets A, step j meets B, and f is shown at j + 1."
  Shown (eu_then a b f) r i = (j : ℕ) × (i ≤ j) × PassesFrom r a i j × (in_set b (r j).label ≡ true) × Shown f r (suc j)

  pub Broken : Formula → (ℕ → Step) → ℕ → Type 0
  Broken tru r i = ⊥
  Broken (not f) r i = Shown f r i
  Broken (or f g) r i = ⊥
  Broken (ex c f) r i = ⊥
  -- "`AX[A] f` is broken at i if step i doesn't meet A or f is broken at i + 1."
  Broken (ax c f) r i = (meets c (r i).label ≡ false) ⊎ Broken f r (suc i)
  Broken (eu a f) r i = ⊥
  Broken (eu_then a b f) r i = ⊥

-- 01: "The run shows, or breaks, the formula if the root is shown, or broken, at 0." Class 1 is shown, class 2 broken.
abbrev pub ShowsOrBreaks : Formula → (ℕ → Step) → Type 0
ShowsOrBreaks F r = ((class_of F ≡ 1) × Shown F r 0) ⊎ ((class_of F ≡ 2) × Broken F r 0)
