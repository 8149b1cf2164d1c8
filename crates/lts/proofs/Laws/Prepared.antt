-- Prepared bytes: those of a table in range, and those that some accepted reading leaves.
use mathlib.Core.Path.{◌≡◌, refl, sym, ap, ◌∙◌, subst}
use mathlib.Core.Logic.{◌↔◌}
use mathlib.Core.Bool.{Bool, true, false, false≢true, cond}
use mathlib.Core.List.{List, ◌++◌}
use mathlib.Core.Option.{Option, none, some}
use Prim.Native.Nat.{ℕ, ◌≤◌}
use native.Mathlib.Omega.{arith}
use lib.ListN.{length, take, drop, length-take, take-append-drop}
use Rattle.lts.specs.Sizes.{table_length}
use Rattle.columns.specs.Bytes.{same_bytes}
use Rattle.columns.proofs.Laws.Bytes.{same_of, same-to}
use Rattle.lts.specs.Reply.{Reply, accepted, refusal}
use Rattle.lts.specs.Steps.{Table}
use Rattle.lts.specs.inner.Range.{InRange}
use Rattle.lts.specs.TableText.{table_text}
use Rattle.lts.specs.Reading.{read_table}
use Rattle.lts.specs.Prepared.{table_bytes, LeftByReading}
use Rattle.lts.specs.inner.Prepared.{table_in, left_by, prepared_table}
use Rattle.lts.specs.inner.HoldsTable.{HoldsTable}
use Rattle.lts.specs.inner.Answers.{is_some}
use Rattle.lts.proofs.Laws.Texts.{read-of-text, text-of-read}
use Rattle.lts.proofs.Laws.TableBytes.{table-bytes-length, table_in_bytes}

-- Bytes that begin with a table's say that table.
pub table_in_beginning : (t : Table) → InRange t → (b : List ℕ) → take table_length b ≡ table_bytes t → table_in b ≡ t
table_in_beginning t r b e =
    let split : b ≡ table_bytes t ++ drop table_length b = sym (take-append-drop table_length b) ∙ ap (λ (l : List ℕ). l ++ drop table_length b) e in
    ap table_in split ∙ table_in_bytes t r (drop table_length b)

pub left_by_of : (b : List ℕ) (a : Reply Table) (t : Table) → left_by b a ≡ some t → (a ≡ accepted t) × (take table_length b ≡ table_bytes t)
left_by_of b (accepted u) t e = step (same_bytes (take table_length b) (table_bytes u)) refl e
  where
    step : (z : Bool) → same_bytes (take table_length b) (table_bytes u) ≡ z → cond z (some u) none ≡ some t → (accepted u ≡ accepted t) × (take table_length b ≡ table_bytes t)
    step true d f = let s : u ≡ t = cc in (ap accepted s, same_of (take table_length b) (table_bytes u) d ∙ ap table_bytes s)
    step false d f = let z : ◌≡◌ {A = ℕ} 0 1 = cc in absurd (omega arith)
left_by_of b (refusal number figure) t e = let z : ◌≡◌ {A = ℕ} 0 1 = cc in absurd (omega arith)

pub prepared-of : (b : List ℕ) (t : Table) → prepared_table b ≡ some t → InRange t × (take table_length b ≡ table_bytes t) × (table_in b ≡ t)
unfolding prepared_table
prepared-of b t e =
    let p = left_by_of b (read_table (table_text (table_in b))) t e in
    let r = (text-of-read (table_text (table_in b)) t p.0).1 in
    (r, p.1, table_in_beginning t r b p.1)

pub prepared-to : (b : List ℕ) (t : Table) → InRange t → take table_length b ≡ table_bytes t → prepared_table b ≡ some t
unfolding prepared_table
prepared-to b t r e =
    ap (λ (u : Table). left_by b (read_table (table_text u))) (table_in_beginning t r b e)
    ∙ (ap (left_by b) (read-of-text t r) ∙ ap (λ (z : Bool). cond z (some t) none) (same-to (take table_length b) (table_bytes t) e))

-- 01: "prepared table bytes that no accepted reading leaves" are those that are not prepared.
pub prepared-left : (b : List ℕ) → ((t : Table) × (prepared_table b ≡ some t)) ↔ LeftByReading b
prepared-left b = (left, back)
  where
    left : (t : Table) × (prepared_table b ≡ some t) → LeftByReading b
    left (t, e) = let p = prepared-of b t e in (table_text t, t, read-of-text t p.0, p.1)

    back : LeftByReading b → (t : Table) × (prepared_table b ≡ some t)
    back (text, t, e, d) = (t, prepared-to b t (text-of-read text t e).1 d)

-- What a test that found prepared bytes says.
pub is-some-of : {A : Type 0} (o : Option A) → is_some o ≡ true → (a : A) × (o ≡ some a)
is-some-of none e = absurd (false≢true e)
is-some-of (some a) e = (a, refl)

pub prepared_in : (b : List ℕ) → is_some (prepared_table b) ≡ true → prepared_table b ≡ some (table_in b)
prepared_in b e =
    let (t, d) = is-some-of (prepared_table b) e in
    d ∙ ap some (sym (prepared-of b t d).2)

pub prepared-length : (b : List ℕ) (t : Table) → prepared_table b ≡ some t → table_length ≤ length b
prepared-length b t e =
    let p = prepared-of b t e in
    omega (arith, length-take table_length b, ap length p.1, table-bytes-length t p.0)

pub prepared-holds : (b : List ℕ) (t : Table) → prepared_table b ≡ some t → HoldsTable b
prepared-holds b t e = let p = prepared-of b t e in
    record { long = prepared-length b t e; in_range = subst InRange (sym p.2) p.0 }

pub found-holds : (b : List ℕ) → is_some (prepared_table b) ≡ true → HoldsTable b
found-holds b e = prepared-holds b (table_in b) (prepared_in b e)
