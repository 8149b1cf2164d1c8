-- Parts of reading a table, for tables with marks.
use Rattle.std.specs.Prelude.{Bool, List, ℕ}
use Rattle.lts.specs.Reply.{Reply}
use Rattle.lts.specs.Steps.{Table}
use Rattle.lts.specs.Marks.{marked}
use Rattle.lts.specs.Reading.{Header, label_laid_out_with, read_labels_with}

abbrev pub label_laid_out : List ℕ → Bool
label_laid_out l = label_laid_out_with marked l

-- Tables have marks.
abbrev pub read_labels : Header → ℕ → List (List ℕ) → List ℕ → Reply Table
read_labels h left names text = read_labels_with marked h left names text
