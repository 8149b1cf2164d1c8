-- The column of a number below 10,000, byte by byte, and six bytes written one behind the other.
use mathlib.Core.Path.{◌≡◌, ◌∙◌}
use mathlib.Core.List.{List, [], ◌∷◌, append_assoc}
use Prim.Native.Nat.{ℕ, suc, ◌+◌, ◌/◌, ◌%◌, ◌≤◌, ◌<◌}
use native.Mathlib.Omega.{arith}
use lib.ListN.{length, take, drop, set}
use lib.Seq.{sets-eq}
use Rattle.columns.specs.Columns.{column}
use Rattle.columns.specs.inner.Read.{lead}
use Rattle.columns.specs.inner.Write.{pasted}
use Rattle.columns.proofs.Laws.ColumnsRead.{column-leads}

pub small-column : (n : ℕ) → n < 10000 → column n ≡ 32 ∷ 32 ∷ lead (n / 1000) ∷ lead (n / 100) ∷ lead (n / 10) ∷ (48 + n % 10) ∷ []
small-column n h =
    let one : n / 10 / 10 / 10 / 10 / 10 ≡ 0 = omega arith in
    let two : n / 10 / 10 / 10 / 10 ≡ 0 = omega arith in
    let three : n / 10 / 10 / 10 ≡ n / 1000 = omega arith in
    let four : n / 10 / 10 ≡ n / 100 = omega arith in
    column-leads n (omega arith) ∙ (λ i. lead (one i) ∷ lead (two i) ∷ lead (three i) ∷ lead (four i) ∷ lead (n / 10) ∷ (48 + n % 10) ∷ [])

pub six_set : (l : List ℕ) (at : ℕ) → at + 6 ≤ length l → (a b c d e f : ℕ)
    → set (set (set (set (set (set l at a) (at + 1) b) (at + 2) c) (at + 3) d) (at + 4) e) (at + 5) f ≡ pasted l at (a ∷ b ∷ c ∷ d ∷ e ∷ f ∷ [])
six_set l at h a b c d e f =
    let second : at + 1 ≡ suc at = omega arith in
    let third : at + 2 ≡ suc (suc at) = omega arith in
    let fourth : at + 3 ≡ suc (suc (suc at)) = omega arith in
    let fifth : at + 4 ≡ suc (suc (suc (suc at))) = omega arith in
    let sixth : at + 5 ≡ suc (suc (suc (suc (suc at)))) = omega arith in
    let six = a ∷ b ∷ c ∷ d ∷ e ∷ f ∷ [] in
    rw (second, third, fourth, fifth, sixth) (sets-eq six l at h ∙ append_assoc (take at l) six (drop (at + 6) l))
