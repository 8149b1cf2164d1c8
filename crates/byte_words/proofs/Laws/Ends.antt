-- Two lists of bytes of one length compared: byte by byte, and by the numbers in their first and in their last w bytes.
use mathlib.Core.Path.{◌≡◌, refl, sym, ap, ◌∙◌}
use mathlib.Core.Bool.{Bool, true, false}
use mathlib.Core.List.{List}
use Prim.Native.Nat.{ℕ, ◌+◌, ◌-◌, ◌≤◌, ◌<◌}
use native.Mathlib.Nat.{zero-add}
use native.Mathlib.Omega.{arith}
use borrow.Author.Tests.{leb-true, leb-false, eqb-true, eqb-false}
use lib.Dec.{leb, eqb}
use lib.ListN.{length, get_or, drop}
use lib.Seq.{ext_get_or}
use Rattle.columns.specs.Bytes.{same_bytes}
use Rattle.byte_words.specs.inner.Words.{number}
use Rattle.columns.proofs.Laws.Bytes.{same-to}
use Rattle.columns.proofs.Laws.Compared.{same-of_unequal}
use Rattle.byte_words.proofs.Laws.Words.{number-run}

module _ (a b : List ℕ) where
  -- A byte, or the number in n bytes, that differs.
  pub byte_differs : (i : ℕ) → (get_or a i 0 ≡ get_or b i 0 → ⊥) → false ≡ same_bytes a b
  byte_differs i d = sym (same-of_unequal a b (λ e. d (ap (λ l. get_or l i 0) e)))

  number_differs : (n p : ℕ) → (number n (drop p a) ≡ number n (drop p b) → ⊥) → false ≡ same_bytes a b
  number_differs n p d = sym (same-of_unequal a b (λ e. d (ap (λ l. number n (drop p l)) e)))

  module _ (long : length a ≡ length b) where
    pub bytes_same : ((i : ℕ) → i < length a → get_or a i 0 ≡ get_or b i 0) → true ≡ same_bytes a b
    bytes_same same = sym (same-to a b (ext_get_or 0 a b long same))

    -- Each byte is among the first w or the last w: u and v are the numbers in the last w, x and y in the first.
    module _ (small-a : (i : ℕ) → get_or a i 0 < 256) (small_b : (i : ℕ) → get_or b i 0 < 256) (w : ℕ) (many : w ≤ length a) (few : length a ≤ w + w) where
      abbrev last : ℕ
      last = length a - w

      ends_same : number w (drop last a) ≡ number w (drop last b) → number w (drop 0 a) ≡ number w (drop 0 b) → (i : ℕ) → i < length a → get_or a i 0 ≡ get_or b i 0
      ends_same e f i h = case (leb w i) refl
        where
          at_place : (l : List ℕ) (j k : ℕ) → j ≡ k → get_or l j 0 ≡ get_or l k 0
          at_place l j k p = ap (λ n. get_or l n 0) p

          case : (t : Bool) → leb w i ≡ t → get_or a i 0 ≡ get_or b i 0
          case true t =
              let far = leb-true w i t in
              let place : last + (i - last) ≡ i = omega arith in
              at_place a i (last + (i - last)) (sym place) ∙ (number-run a b small-a small_b w last last e (i - last) (omega arith) ∙ at_place b (last + (i - last)) i place)
          case false t =
              at_place a i (0 + i) (sym (zero-add i))
              ∙ (number-run a b small-a small_b w 0 0 f i (omega (arith, leb-false w i t)) ∙ at_place b (0 + i) i (zero-add i))

      module _ (u v : ℕ) (last-a : u ≡ number w (drop (length a - w) a)) (last-b : v ≡ number w (drop (length a - w) b)) where
        pub last_differs : (u ≡ v → ⊥) → false ≡ same_bytes a b
        last_differs d = number_differs w last (λ e. d (last-a ∙ (e ∙ sym last-b)))

        pub first_decides : u ≡ v → (x y : ℕ) → x ≡ number w (drop 0 a) → y ≡ number w (drop 0 b) → eqb x y ≡ same_bytes a b
        first_decides e x y first-a first-b = case (eqb x y) refl
          where
            case : (t : Bool) → eqb x y ≡ t → t ≡ same_bytes a b
            case true t = bytes_same (ends_same (sym last-a ∙ (e ∙ last-b)) (sym first-a ∙ (eqb-true x y t ∙ first-b)))
            case false t = number_differs w 0 (λ f. eqb-false x y t (first-a ∙ (f ∙ sym first-b)))
