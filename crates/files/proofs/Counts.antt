-- What is known of the length of a text that was written.
use mathlib.Core.Path.{◌≡◌, sym, ap}
use mathlib.Core.List.{List}
use Prim.Native.Nat.{ℕ, ◌≤◌}
use native.Mathlib.Omega.{arith}
use lib.ListN.{length, drop, length-append, length-drop}
use lib.Seq.{length-take-le}
use Rattle.files.specs.inner.Writing.{PrefixLength}
use Rattle.explanations.specs.inner.Printed.{TextWritten}

-- A text that was written into a buffer has no more bytes than the buffer.
pub written-counts : {text before out : List ℕ} {end : ℕ} → TextWritten text before out end → length out ≡ length before → PrefixLength end out
written-counts {text} {before} {out} {end} w e =
    let fits : end ≤ length out = omega (arith, w.ends, ap length w.is, length-append text (drop (length text) before), length-drop (length text) before) in
    (fits, sym (length-take-le end out fits))
