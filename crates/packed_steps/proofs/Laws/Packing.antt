-- Columns in bytes: one entry more, one column more.
use mathlib.Core.Path.{◌≡◌, refl, sym, ap, ◌∙◌, subst}
use mathlib.Core.Logic.{◌⊎◌, inl, inr}
use mathlib.Core.Bool.{Bool, true, false, cond}
use mathlib.Core.List.{List}
use Prim.Native.Nat.{ℕ, ◌+◌, ◌*◌, ◌/◌, ◌%◌, ◌<◌, ◌≤◌}
use native.Mathlib.Decide.{dec_lt}
use native.Mathlib.Nat.{eq-or-lt_of_le}
use native.Mathlib.Omega.{arith}
use lib.ListN.{length, get_or, set, length-set}
use lib.Seq.{get_or-set_same, get_or-set_other, drop-set-lt}
use borrow.Author.Tests.{lt-ltb, le-ltb}
use Rattle.deterministic.specs.Sizes.{most_sets, most_letters, work_length}
use Rattle.packed_steps.specs.inner.Packed.{entry_at, EntryPut, target_in, ColumnIs, Nowhere, ColumnTo, Packed}
use Rattle.lts.proofs.Laws.Compare.{get_d_any}

-- The two bytes of an entry.
pub entry_is : (b : List ℕ) (p x y r : ℕ) → x ≡ get_or b (p * 2) 0 → y ≡ get_or b (p * 2 + 1) 0 → r ≡ x + y * 256 → r ≡ entry_at b p
unfolding entry_at
entry_is b p x y r e f g = omega (arith, e, f, g)

module _ (b : List ℕ) (p x : ℕ) (low : p < most_sets * most_letters) (long : work_length ≤ length b) (small : x < 65536) where
  abbrev one : List ℕ
  one = set b (p * 2) (x % 256)

  abbrev both : List ℕ
  both = set one (p * 2 + 1) (x / 256)

  one-long : length one ≡ length b
  one-long = length-set b (p * 2) (x % 256)

  first : get_or both (p * 2) 0 ≡ x % 256
  first = get_or-set_other one (p * 2 + 1) (p * 2) (x / 256) 0 (λ e. absurd (omega arith)) ∙ get_or-set_same b (p * 2) (x % 256) 0 (omega arith)

  second : get_or both (p * 2 + 1) 0 ≡ x / 256
  second = get_or-set_same one (p * 2 + 1) (x / 256) 0 (omega (arith, one-long))

  other : (i : ℕ) → (i ≡ p * 2 → ⊥) → (i ≡ p * 2 + 1 → ⊥) → get_or both i 0 ≡ get_or b i 0
  other i e f = get_or-set_other one (p * 2 + 1) i (x / 256) 0 f ∙ get_or-set_other b (p * 2) i (x % 256) 0 e

  pub entry_put : EntryPut b p x both
  unfolding entry_at
  entry_put = record {
    long = length-set one (p * 2 + 1) (x / 256) ∙ one-long;
    put = omega (arith, first, second);
    others = λ q d.
        let e = other (q * 2) (λ z. d (omega arith)) (λ z. absurd (omega arith)) in
        let f = other (q * 2 + 1) (λ z. absurd (omega arith)) (λ z. d (omega arith)) in
        omega (arith, e, f);
    behind = drop-set-lt work_length one (p * 2 + 1) (x / 256) (omega arith) ∙ drop-set-lt work_length b (p * 2) (x % 256) (omega arith);
  }

-- Targets by which blocks are looked up.
pub target_is : (n x : ℕ) → x < n → target_in n x ≡ x
target_is n x h = ap (λ b. cond b x most_sets) (lt-ltb x n h)

pub target_none : (n x : ℕ) → n ≤ x → target_in n x ≡ most_sets
target_none n x h = ap (λ b. cond b x most_sets) (le-ltb x n h)

pub target_small : (n x : ℕ) → n ≤ most_sets → target_in n x ≤ most_sets
target_small n x b = case (dec_lt x n)
  where
    case : Dec (x < n) → target_in n x ≤ most_sets
    case (yes h) = omega (arith, target_is n x h)
    case (no h) = omega (arith, target_none n x (omega (arith, h)))

-- One entry more.
module _ (next : List ℕ) (n c i : ℕ) (before : List ℕ) where
  pub column-start : ColumnTo next n c i 0 before before
  column-start = record { long = refl; behind = refl; stayed = λ p h. refl; put = λ l h. absurd (omega arith) }

  pub column-more : (k x : ℕ) (now after : List ℕ) → ColumnTo next n c i k before now → x ≡ target_in n (get_or next (k * most_letters + c) n) → EntryPut now (i * most_sets + k) x after
      → ColumnTo next n c i (k + 1) before after
  column-more k x now after g e w = record {
    long = w.long ∙ g.long;
    behind = w.behind ∙ g.behind;
    stayed = λ p h. w.others p (λ z. absurd (omega arith)) ∙ g.stayed p h;
    put = λ l h. case l (eq-or-lt_of_le (omega arith));
  }
    where
      case : (l : ℕ) → (l ≡ k) ⊎ (l < k) → entry_at after (i * most_sets + l) ≡ target_in n (get_or next (l * most_letters + c) n)
      case l (inl z) = subst (λ (m : ℕ). entry_at after (i * most_sets + m) ≡ target_in n (get_or next (m * most_letters + c) n)) (sym z) (w.put ∙ e)
      case l (inr z) = w.others (i * most_sets + l) (λ y. absurd (omega arith)) ∙ g.put l z

  pub column_done : (k : ℕ) (after : List ℕ) → n ≤ k → ColumnTo next n c i k before after → ColumnTo next n c i n before after
  column_done k after h g = record { long = g.long; behind = g.behind; stayed = g.stayed; put = λ l d. g.put l (omega arith) }

-- A target as it is read.
pub target-read : (next : List ℕ) (n i to : ℕ) → i < length next → to ≡ get_or next i 0 → to ≡ get_or next i n
target-read next n i to h e = e ∙ get_d_any 0 n next i h

pub nowhere-more : (next : List ℕ) (n c k to : ℕ) (s r : Bool) → (s ≡ false → Nowhere next n c k) → to ≡ get_or next (k * most_letters + c) n → (r ≡ false → (s ≡ false) × (n ≤ to)) → r ≡ false
    → Nowhere next n c (k + 1)
nowhere-more next n c k to s r f e g d l h = case (eq-or-lt_of_le (omega arith))
  where
    case : (l ≡ k) ⊎ (l < k) → n ≤ get_or next (l * most_letters + c) n
    case (inl z) = subst (λ (m : ℕ). n ≤ get_or next (m * most_letters + c) n) (sym z) (omega (arith, e, (g d).1))
    case (inr z) = f (g d).0 l z

-- One column more.
pub packed_none : (next : List ℕ) (n : ℕ) (b : List ℕ) → Packed next n 0 b 0
packed_none next n b = record { few = omega arith; of = λ i h. absurd (omega arith); to = λ c h. absurd (omega arith) }

module _ (next : List ℕ) (n c many : ℕ) (b after : List ℕ) (p : Packed next n c b many) (g : ColumnTo next n c many n b after) (few : n ≤ most_sets) where
  stays : (i e : ℕ) → i < many → ColumnIs next n e i n b → ColumnIs next n e i n after
  stays i e h f l d = g.stayed (i * most_sets + l) (omega arith) ∙ f l d

  packed_more : (some : Bool) → (some ≡ false → Nowhere next n c n) → Packed next n (c + 1) after (cond some (many + 1) many)
  packed_more true f = record {
    few = omega (arith, p.few);
    of = λ i h. of i (eq-or-lt_of_le (omega arith));
    to = λ e h. to e (eq-or-lt_of_le (omega arith));
  }
    where
      of : (i : ℕ) → (i ≡ many) ⊎ (i < many) → (e : ℕ) × (e < c + 1) × ColumnIs next n e i n after
      of i (inl z) = (c, omega arith, subst (λ (m : ℕ). ColumnIs next n c m n after) (sym z) g.put)
      of i (inr z) = let (e, h, q) = p.of i z in (e, omega arith, stays i e z q)

      to : (e : ℕ) → (e ≡ c) ⊎ (e < c) → ((i : ℕ) × (i < many + 1) × ColumnIs next n e i n after) ⊎ Nowhere next n e n
      to e (inl z) = inl (many, omega arith, subst (λ (m : ℕ). ColumnIs next n m many n after) (sym z) g.put)
      to e (inr z) = old (p.to e z)
        where
          old : ((i : ℕ) × (i < many) × ColumnIs next n e i n b) ⊎ Nowhere next n e n → ((i : ℕ) × (i < many + 1) × ColumnIs next n e i n after) ⊎ Nowhere next n e n
          old (inl (i, h, q)) = inl (i, omega arith, stays i e h q)
          old (inr q) = inr q
  packed_more false f = record {
    few = omega (arith, p.few);
    of = λ i h. let (e, d, q) = p.of i h in (e, omega arith, stays i e h q);
    to = λ e h. to e (eq-or-lt_of_le (omega arith));
  }
    where
      to : (e : ℕ) → (e ≡ c) ⊎ (e < c) → ((i : ℕ) × (i < many) × ColumnIs next n e i n after) ⊎ Nowhere next n e n
      to e (inl z) = inr (subst (λ (m : ℕ). Nowhere next n m n) (sym z) (f refl))
      to e (inr z) = old (p.to e z)
        where
          old : ((i : ℕ) × (i < many) × ColumnIs next n e i n b) ⊎ Nowhere next n e n → ((i : ℕ) × (i < many) × ColumnIs next n e i n after) ⊎ Nowhere next n e n
          old (inl (i, h, q)) = inl (i, h, stays i e h q)
          old (inr q) = inr q

  pub packed_count : (some : Bool) (r : ℕ) → r ≡ cond some (many + 1) many → (some ≡ false → Nowhere next n c n) → Packed next n (c + 1) after r
  packed_count some r e f = subst (λ (m : ℕ). Packed next n (c + 1) after m) (sym e) (packed_more some f)
