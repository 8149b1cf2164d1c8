-- Numbers of several bytes, the low one first: by their parts; equal bytes make equal numbers, and equal numbers are made of equal bytes.
use mathlib.Core.Path.{◌≡◌, refl, sym, ap, ◌∙◌}
use mathlib.Core.List.{List}
use Prim.Native.Nat.{ℕ, zero, suc, ◌+◌, ◌*◌, ◌<◌}
use native.Mathlib.Nat.{add-zero, add_assoc}
use native.Mathlib.Omega.{arith}
use lib.ListN.{get_or, drop}
use lib.Seq.{drop-drop, get_or-drop}
use Rattle.byte_words.specs.inner.Words.{number, four_bytes}

-- The first byte, and the bytes behind it.
pub number-next : (n : ℕ) (b : List ℕ) (at : ℕ) → number (suc n) (drop at b) ≡ get_or b at 0 + number n (drop (at + 1) b) * 256
number-next n b at = simp (drop-drop, get_or-drop, add-zero) refl

pub four-bytes : (b : List ℕ) (at : ℕ) → number 4 (drop at b) ≡ four_bytes b at
four-bytes b at = simp (drop-drop, get_or-drop, add-zero, add_assoc) (omega arith)

-- Eight bytes are two fours; sixteen are two eights.
pub eight-bytes : (b : List ℕ) (at : ℕ) → number 8 (drop at b) ≡ four_bytes b at + four_bytes b (at + 4) * 4294967296
eight-bytes b at = simp (drop-drop, get_or-drop, add-zero, add_assoc) (omega arith)

pub sixteen_bytes : (b : List ℕ) (at : ℕ) → number 16 (drop at b) ≡ number 8 (drop at b) + number 8 (drop (at + 8) b) * 18446744073709551616
sixteen_bytes b at = simp (drop-drop, add-zero, add_assoc) (omega arith)

-- Two lists, n bytes of the one from p on and of the other from q on.
module _ (b c : List ℕ) where
  abbrev pub SameRun : ℕ → ℕ → ℕ → Type 0
  SameRun n p q = (i : ℕ) → i < n → get_or b (p + i) 0 ≡ get_or c (q + i) 0

  -- The first byte of a run.
  pub first_of : (p q : ℕ) → get_or b (p + 0) 0 ≡ get_or c (q + 0) 0 → get_or b p 0 ≡ get_or c q 0
  first_of p q e = ap (λ i. get_or b i 0) (sym (add-zero p)) ∙ (e ∙ ap (λ i. get_or c i 0) (add-zero q))

  pub of_first : (p q : ℕ) → get_or b p 0 ≡ get_or c q 0 → get_or b (p + 0) 0 ≡ get_or c (q + 0) 0
  of_first p q e = ap (λ i. get_or b i 0) (add-zero p) ∙ (e ∙ ap (λ i. get_or c i 0) (sym (add-zero q)))

  -- What is left of a run behind its first m bytes.
  pub run_after : (n m p q : ℕ) → SameRun n p q → (i : ℕ) → m + i < n → get_or b (p + m + i) 0 ≡ get_or c (q + m + i) 0
  run_after n m p q same i h = simp add_assoc (same (m + i) h)

  pub run-number : (n p q : ℕ) → SameRun n p q → number n (drop p b) ≡ number n (drop q c)
  run-number zero p q same = refl
  run-number (suc n) p q same =
      let first : get_or b p 0 ≡ get_or c q 0 = first_of p q (same 0 (omega arith)) in
      let later : SameRun n (p + 1) (q + 1) = λ i h. run_after (suc n) 1 p q same i (omega arith) in
      number-next n b p ∙ ((λ z. first z + run-number n (p + 1) (q + 1) later z * 256) ∙ sym (number-next n c q))

  module _ (bytes : (i : ℕ) → get_or b i 0 < 256) (others : (i : ℕ) → get_or c i 0 < 256) where
    pub number-run : (n p q : ℕ) → number n (drop p b) ≡ number n (drop q c) → SameRun n p q
    number-run zero p q e i h = absurd (omega arith)
    number-run (suc n) p q e zero h = of_first p q (omega (arith, e, number-next n b p, number-next n c q, bytes p, others q))
    number-run (suc n) p q e (suc i) h =
        let rest : number n (drop (p + 1) b) ≡ number n (drop (q + 1) c) =
        omega (arith, e, number-next n b p, number-next n c q, bytes p, others q) in
        let here : p + suc i ≡ p + 1 + i = omega arith in
        let there : q + 1 + i ≡ q + suc i = omega arith in
        ap (λ j. get_or b j 0) here ∙ (number-run n (p + 1) (q + 1) rest i (omega arith) ∙ ap (λ j. get_or c j 0) there)
