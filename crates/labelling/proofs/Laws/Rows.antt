-- Rows of flags in one list: putting one in.
use mathlib.Core.Path.{◌≡◌, ap, ◌∙◌, sym, subst}
use mathlib.Core.Logic.{◌⊎◌, inl, inr}
use mathlib.Core.Bool.{Bool, false}
use mathlib.Core.List.{List}
use Prim.Native.Nat.{ℕ, ◌+◌, ◌-◌, ◌*◌, ◌≤◌, ◌<◌}
use native.Mathlib.Omega.{arith}
use lib.ListN.{length, take, drop}
use borrow.Rule.Slice.PartMut.{put_mid}
use Rattle.std.proofs.lemmas.List.{length-append, length-drop, length-take-le, get_or_append_left, get_or-append-add, get_or-append_right, get_or-take, get_or-drop}
use Rattle.actl.specs.Sizes.{most_nodes}
use Rattle.actl.specs.inner.Sizes.{node_positions}
use Rattle.lts.specs.Sizes.{most_states}
use Rattle.until_search.specs.inner.Flags.{flag_at}
use Rattle.labelling.specs.inner.Nodes.{RowPut}

module _ (k : ℕ) (row flags : List Bool) (few : k < most_nodes) (e : length flags ≡ node_positions) (r : length row ≡ most_states) where
  front : length (take (k * most_states) flags) ≡ k * most_states
  front = length-take-le (k * most_states) flags (omega arith)

  outside : (i : ℕ) → (i < k * most_states) ⊎ (k * most_states + most_states ≤ i) → flag_at (put_mid (k * most_states) most_states flags row) i ≡ flag_at flags i
  outside i (inl l) = get_or_append_left (take (k * most_states) flags) _ false i (omega (arith, front)) ∙ get_or-take (k * most_states) flags i false l
  outside i (inr l) =
      get_or-append_right (take (k * most_states) flags) _ (k * most_states) i false front (omega arith)
      ∙ get_or-append_right row _ most_states (i - k * most_states) false r (omega arith)
      ∙ get_or-drop most_states (drop (k * most_states) flags) (i - k * most_states - most_states) false
      ∙ get_or-drop (k * most_states) flags (most_states + (i - k * most_states - most_states)) false
      ∙ ap (λ j. flag_at flags j) (omega arith)

  pub row-put : (n : ℕ) → n ≡ most_states → RowPut k row flags (put_mid (k * most_states) n flags row)
  row-put n m = subst (λ n. RowPut k row flags (put_mid (k * most_states) n flags row)) (sym m) (record {
    places = length-append (take (k * most_states) flags) _ ∙ omega (
      arith,
      front,
      length-append row (drop most_states (drop (k * most_states) flags)),
      length-drop most_states (drop (k * most_states) flags),
      length-drop (k * most_states) flags,
    );
    inside = λ s h.
        ap (λ i. flag_at (put_mid (k * most_states) most_states flags row) (i + s)) (sym front)
        ∙ get_or-append-add (take (k * most_states) flags) _ s false ∙ get_or_append_left row _ false s (omega arith);
    outside = outside;
  })
