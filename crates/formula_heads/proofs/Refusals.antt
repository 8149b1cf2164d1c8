-- What is known where `ok_or` refuses.
use mathlib.Core.Path.{◌≡◌, refl}
use Rattle.std.specs.Prelude.{Option, None, Some, Err, ok_or}

pub missed : {A B : Type 0} (o : Option A) (d x : B) → Err x ≡ ok_or o d → (o ≡ None) × (d ≡ x)
missed None d x h = (refl, cc)
missed (Some v) d x h = cc
