-- The blocks that are looked up by the packed columns.
use mathlib.Core.Path.{◌≡◌, sym, ap, ◌∙◌, subst}
use mathlib.Core.Logic.{◌⊎◌, inl, inr}
use mathlib.Core.List.{List}
use Prim.Native.Nat.{ℕ, ◌+◌, ◌*◌, ◌<◌, ◌≤◌}
use native.Mathlib.Decide.{dec_lt}
use native.Mathlib.Nat.{eq-or-lt_of_le}
use native.Mathlib.Omega.{arith}
use lib.ListN.{length, take, get_or}
use Rattle.deterministic.specs.Sizes.{most_sets, most_letters, work_length}
use Rattle.packed_steps.specs.inner.Packed.{entry_at, target_in, ColumnIs, Nowhere, Sized, Packed}
use Rattle.packed_steps.proofs.Laws.Packing.{target_is, target_none, target_small}
use Rattle.merging.specs.inner.Rounds.{Ended, target_block, SameTargets}
use Rattle.merging.specs.inner.Alike.{Ready, SameIn}
use Rattle.merging.proofs.Laws.Signatures.{block_in, block_out}

-- What is packed may be read.
module _ (next : List ℕ) (n columns : ℕ) (b : List ℕ) (many : ℕ) (s : Sized next n columns) (p : Packed next n columns b many) where
  pub packed_ready : (old : List ℕ) → work_length ≤ length b → Ended n old → Ready b n many old
  packed_ready old long e = record {
    few = s.few;
    few_columns = omega (arith, p.few, s.few_columns);
    long = long;
    small = λ i k h d. let (c, g, q) = p.of i h in omega (arith, q k d, target_small n (get_or next (k * most_letters + c) n) s.few);
    whole = e.whole;
    last = e.last;
  }

  module _ (old : List ℕ) (e : Ended n old) where
    abbrev c : List ℕ
    c = take n old

    in_old : n ≤ length old
    in_old = omega (arith, e.whole, s.few)

    -- The block that an entry leads to.
    looked_up : (i k l : ℕ) → ColumnIs next n l i n b → l < columns → k < n → get_or old (entry_at b (i * most_sets + k)) 0 ≡ target_block next c n k l
    looked_up i k l q g h = ap (λ x. get_or old x 0) (q k h) ∙ case (dec_lt x n)
      where
        x : ℕ
        x = get_or next (k * most_letters + l) n

        case : Dec (x < n) → get_or old (target_in n x) 0 ≡ target_block next c n k l
        case (yes d) = ap (λ y. get_or old y 0) (target_is n x d) ∙ block_in old n x in_old d
        case (no d) = ap (λ y. get_or old y 0) (target_none n x (omega (arith, d))) ∙ (e.last ∙ block_out old n x in_old (omega (arith, d)))

    -- Nothing of it is a state.
    no_block : (l k : ℕ) → Nowhere next n l n → l < columns → k < n → target_block next c n k l ≡ n
    no_block l k q g h =
        sym (block_out old n (get_or next (k * most_letters + l) n) in_old (q k h))

    module _ (j k : ℕ) (a : j < n) (d : k < n) where
      pub targets-to : SameIn b old many j k → SameTargets next c n columns j k
      targets-to f l h = case (p.to l h)
        where
          case : ((i : ℕ) × (i < many) × ColumnIs next n l i n b) ⊎ Nowhere next n l n → target_block next c n j l ≡ target_block next c n k l
          case (inl (i, m, q)) = sym (looked_up i j l q h a) ∙ (f i m ∙ looked_up i k l q h d)
          case (inr q) = no_block l j q h a ∙ sym (no_block l k q h d)

      pub targets_of_lem : SameTargets next c n columns j k → SameIn b old many j k
      targets_of_lem f i m = let (l, h, q) = p.of i m in looked_up i j l q h a ∙ (f l h ∙ sym (looked_up i k l q h d))

-- One column more of two states.
pub same_more : (b old : List ℕ) (i j k x y : ℕ) → SameIn b old i j k → x ≡ get_or old (entry_at b (i * most_sets + j)) 0 → y ≡ get_or old (entry_at b (i * most_sets + k)) 0
    → x ≡ y → SameIn b old (i + 1) j k
same_more b old i j k x y f a d e l h = case (eq-or-lt_of_le (omega arith))
  where
    case : (l ≡ i) ⊎ (l < i) → get_or old (entry_at b (l * most_sets + j)) 0 ≡ get_or old (entry_at b (l * most_sets + k)) 0
    case (inl z) = subst (λ (m : ℕ). get_or old (entry_at b (m * most_sets + j)) 0 ≡ get_or old (entry_at b (m * most_sets + k)) 0) (sym z) (sym a ∙ (e ∙ d))
    case (inr z) = f l z
