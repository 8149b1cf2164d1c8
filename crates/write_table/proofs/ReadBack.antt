-- `read_table` of what `table_text` writes is the table: `reads_back`.
use mathlib.Core.Path.{◌≡◌, refl, ap, ◌∙◌}
use mathlib.Core.Bool.{Bool, true, false}
use mathlib.Core.List.{List}
use mathlib.Core.Option.{Option, none, some}
use Prim.Native.Nat.{ℕ}
use lib.Dec.{leb}
use lib.ListN.{length, take, drop}
use lib.Seq.{take_at}
use Rattle.lts.specs.Sizes.{table_length, longest_table_text}
use Rattle.lts.specs.Reply.{Reply, accepted, unless, left_in, answers}
use Rattle.lts.specs.Steps.{Table}
use Rattle.lts.specs.TableText.{table_text}
use Rattle.lts.specs.Reading.{read_table}
use Rattle.lts.specs.Prepared.{table_bytes, with_table}
use Rattle.lts.specs.inner.Range.{InRange}
use Rattle.lts.specs.inner.Prepared.{prepared_table}
use Rattle.lts.proofs.Laws.Prepared.{prepared-of}
use Rattle.lts.proofs.Laws.Texts.{read-of-text}
use Rattle.write_table.specs.TableWriting.{table_writing, table_written, table_text_left, ReadsBack}

-- What is replied, by the two tests and by the table that is found.
abbrev replied : Bool → Bool → Option Table → Reply (List ℕ)
replied a b o = unless a 14 table_length (unless b 14 longest_table_text (with_table o (λ t. accepted (table_text t))))

pub reads_back : (table buffer : List ℕ) → ReadsBack table (table_written table buffer) (table_text_left table buffer)
unfolding table_writing
reads_back table buffer =
    by (leb table_length (length table)) (leb longest_table_text (length buffer)) (prepared_table table) (λ t e. let p = prepared-of table t e in (p.0, p.1))
  where
    by : (a b : Bool) (o : Option Table) → ((t : Table) → o ≡ some t → InRange t × (take table_length table ≡ table_bytes t))
        → ReadsBack table (answers length (replied a b o)) (left_in (λ s. s) (replied a b o) buffer)
    by false b o h = tt
    by true false o h = tt
    by true true none h = tt
    by true true (some t) h =
        let p = h t refl in
        let text = table_text t in
        (t, p.1, ap read_table (take_at text (drop (length text) buffer) (length text) refl) ∙ read-of-text t p.0)
