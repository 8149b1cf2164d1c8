-- A set's text by its mask, over the labels of a prepared table; and its length.
use mathlib.Core.Path.{◌≡◌, refl, sym, ap, ◌∙◌}
use mathlib.Core.Bool.{Bool, true, false, cond}
use mathlib.Core.List.{List, [], ◌∷◌}
use Prim.Native.Nat.{ℕ, suc, ◌-◌, ◌^◌, ◌≤◌}
use native.Mathlib.Omega.{arith}
use lib.Dec.{eqb}
use lib.ListN.{length}
use borrow.Author.Tests.{eq-eqb, ne_eqb}
use Rattle.lts.specs.Directions.{label_direction}
use Rattle.lts.specs.inner.HoldsTable.{HoldsTable}
use Rattle.lts.specs.inner.Prepared.{table_in}
use Rattle.lts.proofs.Laws.NameRuns.{name-short}
use Rattle.actl.specs.Actions.{Mask, Action, Cond, silent, labels}
use Rattle.actl.specs.Prepared.{mask_within}
use Rattle.actl.specs.Meaning.{labels_of}
use Rattle.actl.proofs.ReadingMasks.{mask-any}
use Rattle.written_back.specs.FormulaText.{set_text, cond_text, members, joined}
use Rattle.written_back.proofs.Laws.Sets.{set-text_by_mask, set-text-short}

module _ (table : List ℕ) (holds : HoldsTable table) (m : Mask) where
  abbrev N : List (List ℕ)
  N = (table_in table).names

  abbrev every-label : ℕ
  every-label = 2 ^ suc (length N) - 2

  all-mask : labels_of N Action.any ≡ every-label
  all-mask = omega (arith, mask-any (label_direction N) (length N))

  -- At most fourteen bytes for each label, and two for `~*`.
  pub set-short : length (set_text N m) ≤ 562
  set-short = omega (arith, set-text-short N m (λ n h. (name-short n (holds.in_range.named n h)).1), holds.in_range.few_labels)

  module _ (within : mask_within (length N) m ≡ true) where
    by_tests : (a b : Bool) → eqb m every-label ≡ a → eqb m 0 ≡ b → set_text N m ≡ cond a (42 ∷ []) (cond b (126 ∷ 42 ∷ []) (joined (members N m)))
    by_tests a b d e =
        set-text_by_mask N m holds.in_range.few_labels within
        ∙ (ap (λ t. cond t (42 ∷ []) (cond (eqb m 0) (126 ∷ 42 ∷ []) (joined (members N m)))) d
        ∙ ap (λ t. cond a (42 ∷ []) (cond t (126 ∷ 42 ∷ []) (joined (members N m)))) e)

    pub set_all : m ≡ labels_of N Action.any → set_text N m ≡ 42 ∷ []
    set_all d = by_tests true (eqb m 0) (eq-eqb m every-label (d ∙ all-mask)) refl

    module _ (not-all : m ≡ labels_of N Action.any → ⊥) where
      other : eqb m every-label ≡ false
      other = ne_eqb m every-label (λ d. not-all (d ∙ sym all-mask))

      pub set-none : m ≡ 0 → set_text N m ≡ 126 ∷ 42 ∷ []
      set-none d = by_tests false true other (eq-eqb m 0 d)

      pub set-some : (m ≡ 0 → ⊥) → set_text N m ≡ joined (members N m)
      set-some d = by_tests false false other (ne_eqb m 0 d)

pub cond_short : (table : List ℕ) → HoldsTable table → (c : Cond) → length (cond_text (table_in table).names c) ≤ 562
cond_short table holds silent = omega arith
cond_short table holds (labels m) = set-short table holds m
