-- 02: "The idle step now prints as label 99."
use Rattle.std.specs.Prelude.{ℕ}

abbrev pub idle_label : ℕ
idle_label = 99
