-- The automaton along a frame, an edge at a time: a final place where the path may end, or a step after event-free moves.
use mathlib.Core.Path.{◌≡◌, refl}
use mathlib.Core.Logic.{◌⊎◌, inl, inr, ◌↔◌}
use Prim.Native.Nat.{ℕ}
use Rattle.actl.specs.Formulas.{Formula, tru, size, At}
use Rattle.actl.proofs.Classes.{Witnessable, Refutable}
use Rattle.automaton.specs.Places.{FreeMove, StepMove, FreeMoves, stay, then, Final, Leads}
use Rattle.automaton.proofs.Frames.{Frame, Finishes, end, top, free, step, Shows, Breaks, finishes_sound, finishes_complete}

pub data Accepting (M : Frame) (F : Formula) : ℕ → M.World → Type 0 where
  halt : {k : ℕ} {w : M.World} → Final F k → M.Done w → Accepting M F k w
  move : {k q : ℕ} {w : M.World} (x : M.Next w) → Leads F k (M.lab w x) q → Accepting M F q (M.to w x) → Accepting M F k w

module _ {M : Frame} {F : Formula} where
  after_free : {k q : ℕ} {w : M.World} → FreeMove F k q → Accepting M F q w → Accepting M F k w
  after_free m (halt e d) = halt (e.0, then m e.1, e.2) d
  after_free m (move x e u) = move x (e.0, then m e.1, e.2) u

  by_edges : {k : ℕ} {w : M.World} → Finishes M F k w → Accepting M F k w
  by_edges {k} (end e d) = halt (k, stay, inl e) d
  by_edges {k} (top h d) = halt (k, stay, inr h) d
  by_edges (free m u) = after_free m (by_edges u)
  by_edges {k} (step x m u) = move x (k, stay, m) (by_edges u)

  after_frees : {k q : ℕ} {w : M.World} → FreeMoves F k q → Finishes M F q w → Finishes M F k w
  after_frees stay u = u
  after_frees (then m s) u = free m (after_frees s u)

  at_last : {k : ℕ} {w : M.World} → (k ≡ size F) ⊎ At F k tru → M.Done w → Finishes M F k w
  at_last (inl e) d = end e d
  at_last (inr h) d = top h d

  by_moves : {k : ℕ} {w : M.World} → Accepting M F k w → Finishes M F k w
  by_moves (halt e d) = after_frees e.1 (at_last e.2 d)
  by_moves (move x e u) = after_frees e.1 (step x e.2 (by_moves u))

  pub shown_is_accepting : {k : ℕ} {f : Formula} (w : M.World) → At F k f → Witnessable f → Shows f M w ↔ Accepting M F k w
  shown_is_accepting {k} {f} w h o = (λ d. by_edges ((finishes_complete f k h w).0 o d), λ u. (finishes_sound (by_moves u) f h).0 o)

  pub broken_is_accepting : {k : ℕ} {f : Formula} (w : M.World) → At F k f → Refutable f → Breaks f M w ↔ Accepting M F k w
  broken_is_accepting {k} {f} w h o = (λ d. by_edges ((finishes_complete f k h w).1 o d), λ u. (finishes_sound (by_moves u) f h).1 o)
