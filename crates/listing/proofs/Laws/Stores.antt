-- Stores at neighbouring places of a list, as one part put in place.
use mathlib.Core.Path.{◌≡◌, refl, ◌∙◌}
use mathlib.Core.Bool.{Bool, true, false}
use mathlib.Core.List.{List, [], ◌∷◌, append_assoc}
use Prim.Native.Nat.{ℕ, ◌+◌, ◌*◌, ◌≤◌}
use native.Mathlib.Numerals.{add-one, add-two}
use native.Mathlib.Omega.{arith}
use lib.ListN.{length, set, take, drop}
use lib.Seq.{sets, sets-eq}
use Rattle.std.specs.Int.{from_bool}
use Rattle.columns.specs.Bytes.{low_first}
use Rattle.columns.specs.inner.Write.{pasted}
use Rattle.columns.proofs.Laws.Pasting.{pasting_none, pasting_more, pasting_length}
use Rattle.columns.proofs.Laws.Pasted.{set-pasted}
use Rattle.automaton.specs.Listing.{Edge}
use Rattle.automaton.specs.Bytes.{edge_length, bit_of}
use Rattle.listing.specs.inner.Places.{put_edge}

in_place : (out : List ℕ) (at : ℕ) (part : List ℕ) → at + length part ≤ length out → sets out at part ≡ pasted out at part
in_place out at part h = sets-eq part out at h ∙ append_assoc (take at out) part (drop (at + length part) out)

pub two_stores : (out : List ℕ) (i a b : ℕ) → i + 2 ≤ length out → set (set out i a) (i + 1) b ≡ pasted out i (a ∷ b ∷ [])
two_stores out i a b h = rw (add-one) (in_place out i (a ∷ b ∷ []) h)

pub three_stores : (out : List ℕ) (i a b c : ℕ) → i + 3 ≤ length out → set (set (set out i a) (i + 1) b) (i + 2) c ≡ pasted out i (a ∷ b ∷ c ∷ [])
three_stores out i a b c h = rw (add-one, add-two) (in_place out i (a ∷ b ∷ c ∷ []) h)

-- An edge's row, label and target, each written behind the one before.
pub edge_in_place : (n : ℕ) (e : Edge) (out : List ℕ) {begun whole : List ℕ} → n * edge_length + edge_length ≤ length out
    → begun ≡ pasted out (n * edge_length) (low_first 2 e.row)
    → whole ≡ pasted (set begun (n * edge_length + 2) e.label) (n * edge_length + 3) (low_first 2 e.target) → whole ≡ put_edge n e out
unfolding put_edge
edge_in_place n e out {begun} {whole} room row target =
    let at = n * edge_length in
    let first = pasting_more (pasting_none out at (omega arith)) (low_first 2 e.row) begun (at + 2) row refl (omega arith) in
    let labelled = set-pasted begun (at + 2) e.label (omega (arith, pasting_length first)) in
    let second = pasting_more first (e.label ∷ []) (set begun (at + 2) e.label) (at + 3) labelled (omega arith) (omega arith) in
    (pasting_more second (low_first 2 e.target) whole (at + 5) target (omega arith) (omega arith)).is

-- A mark as a number.
pub bit_of_bool : (b : Bool) → from_bool b ≡ bit_of b
bit_of_bool true = refl
bit_of_bool false = refl
