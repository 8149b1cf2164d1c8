-- Runs, finite paths and tables are frames: worlds with labelled steps. Over any frame, the automaton comes to an end from a place
-- exactly if the node there is shown (class 1) or broken (class 2).
use mathlib.Core.Path.{◌≡◌, refl, sym, ap, ◌∙◌, subst}
use mathlib.Core.Logic.{◌⊎◌, inl, inr}
use mathlib.Core.Bool.{true, false}
use Prim.Native.Nat.{ℕ, suc, ◌+◌}
use Rattle.actl.specs.Actions.{Mask, in_set, Cond, meets, passes}
use Rattle.actl.specs.Formulas.{Formula, tru, not, or, ex, ax, eu, eu_then, size, is_t, At, root, in_not, in_left, in_right, in_ex, in_ax, in_eu, in_eu_then}
use Rattle.actl.proofs.Nodes.{at_fun, at-end}
use Rattle.actl.proofs.Subformulas.{at_cast}
use Rattle.actl.proofs.Classes.{Witnessable, Refutable, arm_refutable}
use Rattle.automaton.specs.Places.{FreeOf, StepOf, FreeMove, StepMove}

pub record Frame : Type 1 where
  pub World : Type 0
  pub Next : World → Type 0
  pub lab : (w : World) → Next w → ℕ
  pub to : (w : World) → Next w → World
  -- Where a path may end.
  pub Done : World → Type 0

pub data Until (M : Frame) (a : Mask) (P : M.World → Type 0) : M.World → Type 0 where
  now : {w : M.World} → P w → Until M a P w
  later : {w : M.World} (x : M.Next w) → passes a (M.lab w x) ≡ true → Until M a P (M.to w x) → Until M a P w

abbrev mutual
  pub Shows : Formula → (M : Frame) → M.World → Type 0
  Shows tru M w = M.Done w
  Shows (not f) M w = Breaks f M w
  Shows (or f g) M w = Shows f M w ⊎ Shows g M w
  Shows (ex c f) M w = (x : M.Next w) × (meets c (M.lab w x) ≡ true) × Shows f M (M.to w x)
  Shows (ax c f) M w = ⊥
  Shows (eu a f) M w = Until M a (λ v. Shows f M v) w
  Shows (eu_then a b f) M w = Until M a (λ v. (x : M.Next v) × (in_set b (M.lab v x) ≡ true) × Shows f M (M.to v x)) w

  pub Breaks : Formula → (M : Frame) → M.World → Type 0
  Breaks tru M w = ⊥
  Breaks (not f) M w = Shows f M w
  Breaks (or f g) M w = ⊥
  Breaks (ex c f) M w = ⊥
  Breaks (ax c f) M w = ((x : M.Next w) × (meets c (M.lab w x) ≡ false) × M.Done (M.to w x)) ⊎ ((x : M.Next w) × (is_t f ≡ false) × (meets c (M.lab w x) ≡ true) × Breaks f M (M.to w x))
  Breaks (eu a f) M w = ⊥
  Breaks (eu_then a b f) M w = ⊥

-- The automaton along a frame, a move at a time.
pub data Finishes (M : Frame) (F : Formula) : ℕ → M.World → Type 0 where
  end : {k : ℕ} {w : M.World} → k ≡ size F → M.Done w → Finishes M F k w
  top : {k : ℕ} {w : M.World} → At F k tru → M.Done w → Finishes M F k w
  free : {k q : ℕ} {w : M.World} → FreeMove F k q → Finishes M F q w → Finishes M F k w
  step : {k q : ℕ} {w : M.World} (x : M.Next w) → StepMove F k (M.lab w x) q → Finishes M F q (M.to w x) → Finishes M F k w

abbrev pub Means : (M : Frame) → Formula → M.World → Type 0
Means M f w = (Witnessable f → Shows f M w) × (Refutable f → Breaks f M w)

module _ {M : Frame} {F : Formula} where
  free_sound : (f : Formula) {k q : ℕ} (w : M.World) → At F k f → FreeOf f k q → ((g : Formula) → At F q g → Means M g w) → Means M f w
  free_sound tru w h z ih = absurd z
  free_sound (not f) w h e ih = let g = ih f (at_cast e (in_not h)) in (g.1, g.0)
  free_sound (or f g) w h (inl e) ih = (λ o. inl ((ih f (at_cast e (in_left h))).0 o.0), λ z. absurd z)
  free_sound (or f g) w h (inr e) ih = (λ o. inr ((ih g (at_cast e (in_right h))).0 o.1), λ z. absurd z)
  free_sound (ex c f) w h z ih = absurd z
  free_sound (ax c f) w h z ih = absurd z
  free_sound (eu a f) w h e ih = (λ o. now ((ih f (at_cast e (in_eu h))).0 o), λ z. absurd z)
  free_sound (eu_then a b f) w h z ih = absurd z

  step_sound : (f : Formula) {k q : ℕ} (w : M.World) (x : M.Next w) → At F k f → StepOf f (size F) k (M.lab w x) q
      → (q ≡ size F → M.Done (M.to w x)) → ((g : Formula) → At F q g → Means M g (M.to w x)) → Means M f w
  step_sound tru w x h z en ih = absurd z
  step_sound (not f) w x h z en ih = absurd z
  step_sound (or f g) w x h z en ih = absurd z
  step_sound (ex c f) w x h m en ih = (λ o. (x, m.0, (ih f (at_cast m.1 (in_ex h))).0 o), λ z. absurd z)
  step_sound (ax c f) w x h (inl m) en ih = (λ z. absurd z, λ o. inl (x, m.0, en m.1))
  step_sound (ax c f) w x h (inr m) en ih = (λ z. absurd z, λ o. inr (x, m.1, m.0, (ih f (at_cast m.2 (in_ax h))).1 (arm_refutable f m.1 o)))
  step_sound (eu a f) w x h m en ih = (λ o. later x m.0 ((ih (eu a f) (at_cast m.1 h)).0 o), λ z. absurd z)
  step_sound (eu_then a b f) w x h (inl m) en ih = (λ o. later x m.0 ((ih (eu_then a b f) (at_cast m.1 h)).0 o), λ z. absurd z)
  step_sound (eu_then a b f) w x h (inr m) en ih = (λ o. now (x, m.0, (ih f (at_cast m.1 (in_eu_then h))).0 o), λ z. absurd z)

  -- At END the world is done: END has no moves.
  at_done : {k : ℕ} {w : M.World} → Finishes M F k w → k ≡ size F → M.Done w
  at_done (end e d) z = d
  at_done (top h d) z = d
  at_done (free m h) z = absurd (at-end m.1 z)
  at_done (step x m h) z = absurd (at-end m.1 z)

  pub finishes_sound : {k : ℕ} {w : M.World} → Finishes M F k w → (f : Formula) → At F k f → Means M f w
  finishes_sound (end e d) f h = absurd (at-end h e)
  finishes_sound {w} (top t d) f h = subst (λ (g : Formula). Means M g w) (at_fun t h) (λ o. d, λ z. absurd z)
  finishes_sound {w} (free {k} {q} m u) f h = free_sound f w h (subst (λ (g : Formula). FreeOf g k q) (at_fun m.1 h) m.2) (finishes_sound u)
  finishes_sound {w} (step {k} {q} x m u) f h = step_sound f w x h (subst (λ (g : Formula). StepOf g (size F) k (M.lab w x) q) (at_fun m.1 h) m.2) (at_done u) (finishes_sound u)

  until_finishes : {k : ℕ} (a : Mask) (P : M.World → Type 0) → ((v : M.World) (x : M.Next v) → passes a (M.lab v x) ≡ true → StepMove F k (M.lab v x) k)
      → ((v : M.World) → P v → Finishes M F k v) → {w : M.World} → Until M a P w → Finishes M F k w
  until_finishes a P loop win (now p) = win _ p
  until_finishes a P loop win (later x e u) = step x (loop _ x e) (until_finishes a P loop win u)

  pub finishes_complete : (f : Formula) (k : ℕ) → At F k f → (w : M.World) → (Witnessable f → Shows f M w → Finishes M F k w) × (Refutable f → Breaks f M w → Finishes M F k w)
  finishes_complete tru k h w = (λ o d. top h d, λ z. absurd z)
  finishes_complete (not f) k h w = let i = finishes_complete f (suc k) (in_not h) w in
      (λ o d. free (not f, h, refl) (i.1 o d), λ o d. free (not f, h, refl) (i.0 o d))
  finishes_complete (or f g) k h w = (λ o d. pick ((finishes_complete f _ (in_left h) w).0 o.0) ((finishes_complete g _ (in_right h) w).0 o.1) d, λ z. absurd z)
    where
      pick : (Shows f M w → Finishes M F (suc k) w) → (Shows g M w → Finishes M F (suc (k + size f)) w) → Shows f M w ⊎ Shows g M w → Finishes M F k w
      pick l r (inl d) = free (or f g, h, inl refl) (l d)
      pick l r (inr d) = free (or f g, h, inr refl) (r d)
  finishes_complete (ex c f) k h w = (λ o d. step d.0 (ex c f, h, (d.1, refl)) ((finishes_complete f _ (in_ex h) (M.to w d.0)).0 o d.2), λ z. absurd z)
  finishes_complete (ax c f) k h w = (λ z. absurd z, λ o d. pick (λ v t. (finishes_complete f _ (in_ax h) v).1 t) o d)
    where
      pick : ((v : M.World) → Refutable f → Breaks f M v → Finishes M F (suc k) v) → (is_t f ≡ true) ⊎ Refutable f → Breaks (ax c f) M w → Finishes M F k w
      pick i o (inl d) = step d.0 (ax c f, h, inl (d.1, refl)) (end refl d.2)
      pick i o (inr d) = step d.0 (ax c f, h, inr (d.2, d.1, refl)) (i (M.to w d.0) (arm_refutable f d.1 o) d.3)
  finishes_complete (eu a f) k h w =
      (λ o d. until_finishes a _ (λ v x e. (eu a f, h, (e, refl))) (λ v p. free (eu a f, h, refl) ((finishes_complete f _ (in_eu h) v).0 o p)) d, λ z. absurd z)
  finishes_complete (eu_then a b f) k h w = (
    λ o d. until_finishes a _ (λ v x e. (eu_then a b f, h, inl (e, refl)))
        (λ v p. step p.0 (eu_then a b f, h, inr (p.1, refl)) ((finishes_complete f _ (in_eu_then h) (M.to v p.0)).0 o p.2)) d,
    λ z. absurd z,
  )
