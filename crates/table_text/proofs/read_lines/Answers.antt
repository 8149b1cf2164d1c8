-- `read_lines` answers what reading the lines behind the first gives, and keeps it in the slots.
use mathlib.Core.Path.{ap₂, ◌∙◌}
use mathlib.Core.List.{List, ◌++◌}
use Prim.Native.Nat.{ℕ}
use Rattle.std.specs.Prelude.{Result, Ok, Err}
use Rattle.std.proofs.lemmas.Result.{err_from_is_err_and}
use Rattle.lts.proofs.Laws.TableBytes.{table_bytes_lem}
use Rattle.lts.specs.inner.Slots.{head_bytes}
use Rattle.lts.specs.Reading.{Header}
use Rattle.table_lines.specs.inner.LineReplies.{header}
use Rattle.table_text.specs.declared.TableRefusal.{TableRefusal}
use Rattle.table_text.specs.inner.Progress.{NamesRead, TransitionsRead, LinesRead}
use Rattle.table_text.proofs.Laws.Readings.{refuses_whole}
use Rattle.table_text.proofs.read_lines.Goals as goal

-- The transitions behind the names.
both-read : (h : Header) (s : List ℕ) (at : ℕ) (names slots : List ℕ) → NamesRead h s 25 at names
    → (r : Result (Unit {0}) TableRefusal) → TransitionsRead h s at slots r → LinesRead h s names slots r
both-read h s at names slots n (Ok u) f =
    let steps = f n.names n.counts in record {
      table = record { states = h.states; names = n.names; transitions = steps.steps; start = h.start };
      reads = n.reads ∙ steps.reads;
      kept = ap₂ (λ x y. head_bytes h ++ (x ++ y)) n.kept steps.kept ∙ table_bytes_lem h n.names steps.steps n.counts steps.counts;
    }
both-read h s at names slots n (Err t) f = refuses_whole n.reads (f n.names n.counts)

pub returns-in_err-at : goal.returns-in_err-at
returns-in_err-at c =
    let p = err_from_is_err_and c.from_residual.result c.from_residual.ensures.1 in
    rw (p.1, p.2) c.in_err-at.ensures

pub returns : goal.returns
returns c =
    both-read (header c.args.counts) c.args.text.now c.in_ok-at.at c.read_labels.new.names c.read_transitions.new.slots c.in_ok-at.ensures
    c.read_transitions.result c.read_transitions.ensures
