-- Slots that some node has: equal by their parts, and zero in the masks that their kind does not have.
use mathlib.Core.Path.{◌≡◌, refl, sym, ap, ◌∙◌}
use mathlib.Core.Bool.{Bool, true, false, false≢true, ◌||◌}
use Prim.Native.Nat.{ℕ, ◌≤◌}
use lib.Dec.{leb, eqb}
use borrow.Author.Tests.{leb-true, eqb-true}
use Rattle.lts.proofs.Booleans.{and-true-of}
use Rattle.actl.specs.Actions.{Mask, silent, labels}
use Rattle.actl.specs.Formulas.{Formula, tru, not, or, ex, ax, eu, eu_then}
use Rattle.actl.specs.Prepared.{Slot, slot, slot_of}
use Rattle.actl.specs.inner.Shaped.{shaped, first_used, second_used}

pub slot_by_parts : (s : Slot) {k a b : ℕ} → s.kind ≡ k → s.first ≡ a → s.second ≡ b → slot k a b ≡ s
slot_by_parts s e f g = λ i. slot (sym e i) (sym f i) (sym g i)

or-false-of : (a b : Bool) → a ≡ false → (a || b) ≡ true → b ≡ true
or-false-of true b e d = absurd (false≢true (sym e))
or-false-of false b e d = d

pub record Shape (s : Slot) : Type 0 where
  pub low : 1 ≤ s.kind
  pub high : s.kind ≤ 9
  pub no-first : first_used s.kind ≡ false → s.first ≡ 0
  pub no_second : second_used s.kind ≡ false → s.second ≡ 0

pub shape_of : (s : Slot) → shaped s ≡ true → Shape s
unfolding shaped
shape_of s e =
    let (r, d) = and-true-of _ (second_used s.kind || eqb s.second 0) e in
    let (t, c) = and-true-of _ (first_used s.kind || eqb s.first 0) r in
    let (a, b) = and-true-of (leb 1 s.kind) (leb s.kind 9) t in
    record {
      low = leb-true 1 s.kind a;
      high = leb-true s.kind 9 b;
      no-first = λ f. eqb-true s.first 0 (or-false-of (first_used s.kind) _ f c);
      no_second = λ f. eqb-true s.second 0 (or-false-of (second_used s.kind) _ f d);
    }

module _ (s : Slot) (e : shaped s ≡ true) {k : ℕ} (d : s.kind ≡ k) where
  -- A kind without masks, with the first alone, and with both.
  pub slot_without_masks : first_used k ≡ false → second_used k ≡ false → slot k 0 0 ≡ s
  slot_without_masks f g =
      let h = shape_of s e in slot_by_parts s d (h.no-first (ap first_used d ∙ f)) (h.no_second (ap second_used d ∙ g))

  pub slot_with_first : {a : Mask} → second_used k ≡ false → s.first ≡ a → slot k a 0 ≡ s
  slot_with_first g f = slot_by_parts s d f ((shape_of s e).no_second (ap second_used d ∙ g))

pub node-shaped : (f : Formula) → shaped (slot_of f) ≡ true
unfolding shaped
node-shaped tru = refl
node-shaped (not f) = refl
node-shaped (or f g) = refl
node-shaped (ex silent f) = refl
node-shaped (ex (labels m) f) = refl
node-shaped (ax silent f) = refl
node-shaped (ax (labels m) f) = refl
node-shaped (eu a f) = refl
node-shaped (eu_then a b f) = refl
