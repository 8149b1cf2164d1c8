-- What `table_text` refuses: with 10 or 14 and no other number; with 10 exactly the bytes that no reading leaves.
use mathlib.Core.Path.{◌≡◌, refl}
use mathlib.Core.Logic.{◌↔◌, ◌⊎◌, inl, inr}
use mathlib.Core.List.{List}
use mathlib.Core.Option.{Option, none, some}
use Prim.Native.Nat.{ℕ, ◌≤◌}
use native.Mathlib.Omega.{arith}
use lib.Dec.{leb}
use lib.ListN.{length}
use borrow.Author.Tests.{leb-true, le-leb}
use Rattle.lts.specs.Sizes.{table_length, longest_table_text}
use Rattle.lts.specs.Reply.{Reply, accepted, refusal, unless}
use Rattle.lts.specs.Steps.{Table}
use Rattle.lts.specs.TableText.{table_text}
use Rattle.lts.specs.Prepared.{LeftByReading, with_table}
use Rattle.lts.specs.inner.Prepared.{prepared_table}
use Rattle.lts.proofs.Laws.Prepared.{prepared-left}
use Rattle.lts.proofs.Laws.Refusals.{Numbered, numbered-unless, numbered-answers, with_table-numbers, unless-refused, answers-refused}
use Rattle.write_table.specs.TableWriting.{table_writing, table_written}

abbrev TenOrFourteen : ℕ → Type 0
TenOrFourteen n = (n ≡ 10) ⊎ (n ≡ 14)

pub writing_numbers : (table buffer : List ℕ) → Numbered TenOrFourteen (table_written table buffer)
unfolding table_writing
writing_numbers table buffer =
    let P = TenOrFourteen in
    numbered-answers P length (table_writing table buffer)
    (numbered-unless P (leb table_length (length table)) 14 table_length _ (inr refl)
    (numbered-unless P (leb longest_table_text (length buffer)) 14 longest_table_text _ (inr refl)
    (with_table-numbers P (inl refl) (prepared_table table) (λ t. accepted (table_text t)) (λ t. tt))))

-- Both buffers are long enough, and no accepted reading leaves the table's bytes.
pub record Foreign (table buffer : List ℕ) : Type 0 where
  pub table_long : table_length ≤ length table
  pub buffer_long : longest_table_text ≤ length buffer
  pub not_left : LeftByReading table → ⊥

module _ (table buffer : List ℕ) where
  abbrev found : Option Table → Reply (List ℕ)
  found o = with_table o (λ t. accepted (table_text t))

  none_found : (o : Option Table) → found o ≡ refusal 10 0 → (t : Table) → o ≡ some t → ⊥
  none_found none e t d = let z : ◌≡◌ {A = ℕ} 0 1 = cc in omega arith
  none_found (some u) e t d = let z : ◌≡◌ {A = ℕ} 0 1 = cc in omega arith

  foreign_of : table_writing table buffer ≡ refusal 10 0 → Foreign table buffer
  unfolding table_writing
  foreign_of e =
      let next = unless (leb longest_table_text (length buffer)) 14 longest_table_text (found (prepared_table table)) in
      let (l, d) = unless-refused 10 0 (leb table_length (length table)) 14 table_length next (λ z. omega arith) e in
      let (m, c) = unless-refused 10 0 (leb longest_table_text (length buffer)) 14 longest_table_text (found (prepared_table table)) (λ z. omega arith) d in
      record {
        table_long = leb-true table_length (length table) l;
        buffer_long = leb-true longest_table_text (length buffer) m;
        not_left = λ h. let (t, p) = (prepared-left table).1 h in none_found (prepared_table table) c t p;
      }

  foreign_to : Foreign table buffer → table_writing table buffer ≡ refusal 10 0
  unfolding table_writing
  foreign_to h =
      rw (le-leb table_length (length table) h.table_long, le-leb longest_table_text (length buffer) h.buffer_long) (case (prepared_table table) refl)
    where
      case : (o : Option Table) → prepared_table table ≡ o → found o ≡ refusal 10 0
      case none e = refl
      case (some t) e = absurd (h.not_left ((prepared-left table).0 (t, e)))

  pub refuses_foreign : (table_written table buffer ≡ refusal 10 0) ↔ Foreign table buffer
  refuses_foreign =
      let kept = answers-refused length (table_writing table buffer) 10 0 in
      (λ e. foreign_of (kept.0 e), λ h. kept.1 (foreign_to h))
