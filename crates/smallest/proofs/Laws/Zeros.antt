-- The first bytes of a buffer zero.
use mathlib.Core.Path.{◌≡◌, sym, ap, ◌∙◌}
use mathlib.Core.List.{List, ◌++◌}
use Prim.Native.Nat.{ℕ, ◌≤◌}
use lib.ListN.{length, take, drop, replicate, length-replicate}
use lib.Seq.{length-take-le}
use Rattle.lts.specs.Reply.{overwritten}

pub zeros_before : (n : ℕ) (w : List ℕ) → n ≤ length w → {filled : List ℕ} → filled ≡ replicate (length (take n w)) 0 → filled ++ drop n w ≡ overwritten (replicate n 0) w
zeros_before n w h e =
    ap (λ l. l ++ drop n w) (e ∙ ap (λ k. replicate k 0) (length-take-le n w h)) ∙ ap (λ k. replicate n 0 ++ drop k w) (sym (length-replicate {A = ℕ} n 0))
