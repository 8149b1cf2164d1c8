-- A table of the places that a search found: the words of a place's number are those of the place.
use mathlib.Core.Path.{◌≡◌, sym, ◌∙◌, refl, subst}
use mathlib.Core.Bool.{Bool, true, false}
use mathlib.Core.List.{List, [], ◌∷◌, Memᴰ}
use Prim.Native.Nat.{ℕ, ◌<◌}
use native.Mathlib.Omega.{arith}
use lib.ListN.{length}
use borrow.Author.Tests.{ltb-true, lt-ltb}
use Rattle.deterministic.specs.Smallest.{SameWords}
use Rattle.deterministic.specs.inner.Search.{System, place_at}
use Rattle.deterministic.specs.inner.Blocks.{Table}
use Rattle.deterministic.specs.inner.Explored.{Leading, Tabulates}
use Rattle.deterministic.proofs.Found.{Speaks}
use Rattle.deterministic.proofs.Merging.{Words}

module _ {A : Type 0} (S : System A) (final : A → Bool) (rows : List A) (t : Table) (g : Tabulates S final rows t) where
  abbrev place : ℕ → A
  place = place_at S rows

  pub row_of_lem : (k : ℕ) → k < t.size → k < length rows
  row_of_lem k h = omega (arith, g.size_is)

  pub letter_of_lem : (l : ℕ) → Memᴰ l t.labels → Memᴰ l S.labels
  letter_of_lem l m = subst (Memᴰ l) g.labels_are m

  -- A step that leads to a place.
  pub next-is : (k l : ℕ) → k < t.size → Memᴰ l t.labels → t.next k l < t.size → (S.live (S.step (place k) l) ≡ true) × (place (t.next k l) ≡ S.step (place k) l)
  next-is k l b m h = case (S.live (S.step (place k) l)) refl
    where
      x : Leading S rows (t.next k l) k l
      x = g.leading k l (row_of_lem k b) (letter_of_lem l m)

      case : (c : Bool) → S.live (S.step (place k) l) ≡ c → (S.live (S.step (place k) l) ≡ true) × (place (t.next k l) ≡ S.step (place k) l)
      case true e = (e, (x.lives e).1)
      case false e = absurd (omega (arith, x.ends e, g.size_is))

  tabled_of : (k : ℕ) (w : List ℕ) → k < t.size → Words t k w → Speaks S final (place k) w
  tabled_of k [] b h = sym (g.marked k (row_of_lem k b)) ∙ h
  tabled_of k (l ∷ w) b (m, x, h) =
      let x' = ltb-true (t.next k l) t.size x in
      let (y, e) = next-is k l b m x' in
      (letter_of_lem l m, y, subst (λ (p : A). Speaks S final p w) e (tabled_of (t.next k l) w x' h))

  tabled_to : (k : ℕ) (w : List ℕ) → k < t.size → Speaks S final (place k) w → Words t k w
  tabled_to k [] b h = g.marked k (row_of_lem k b) ∙ h
  tabled_to k (l ∷ w) b (m, x, h) =
      let (y, e) = (g.leading k l (row_of_lem k b) m).lives x in
      let y' : t.next k l < t.size = omega (arith, g.size_is) in
      (subst (Memᴰ l) (sym g.labels_are) m, lt-ltb (t.next k l) t.size y', tabled_to (t.next k l) w y' (subst (λ (p : A). Speaks S final p w) (sym e) h))

  pub tabled_words : (k : ℕ) → k < t.size → SameWords (Words t k) (Speaks S final (place k))
  tabled_words k b w = (tabled_of k w b, tabled_to k w b)
