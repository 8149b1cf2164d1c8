-- 01, "Bench sheet": the starred lines, and what each says of the definitions.
use Rattle.std.specs.Prelude.{◌≡◌, ◌⊎◌, ◌↔◌, Bool, true, false, ℕ, suc, ◌-◌, length, replicate}
use mathlib.Core.List.{List, [], ◌∷◌, ◌++◌, Memᴰ}
use Rattle.std.proofs.Math.Option.{Option, none, some}
use Prim.Native.String.{String}
use Rattle.columns.specs.Ascii.{ascii}
use Rattle.lts.specs.Reply.{accepted, refusal}
use Rattle.lts.specs.Steps.{Table}
use Rattle.lts.specs.Idle.{idle_label}
use Rattle.lts.specs.Text.{ended}
use Rattle.lts.specs.Reading.{read_table}
use Rattle.actl.specs.Formulas.{Formula, class_of}
use Rattle.actl.specs.inner.Reading.{read_formula}
use Rattle.satisfaction.specs.Satisfaction.{Sat}
use Rattle.automaton.specs.Positions.{Position, at}
use Rattle.automaton.specs.Explains.{Explains}
use Rattle.automaton.specs.Listing.{Listing}
use Rattle.automaton.specs.inner.Search.{listing}
use Rattle.automaton.specs.Listed.{placed}

-- A set of words: those listed, and the words of one or more of each letter in `repeated`.
pub record Language : Type 0 where
  pub words : List (List ℕ)
  pub repeated : List ℕ

abbrev pub only : List (List ℕ) → Language
only l = record { words = l; repeated = [] }

abbrev pub one_or_more : ℕ → Language
one_or_more a = record { words = []; repeated = a ∷ [] }

abbrev pub Member : Language → List ℕ → Type 0
Member L w = Memᴰ w L.words ⊎ ((a : ℕ) × (n : ℕ) × Memᴰ a L.repeated × (w ≡ replicate (suc n) a))

-- What a line says: a refusal; or class, verdict, all words, and where the last row stands if it says so.
pub record Answer : Type 0 where
  pub class : ℕ
  pub holds : Bool
  pub language : Language
  pub last_row : Option Position

pub data Expected : Type 0 where
  refused : ℕ → ℕ → Expected
  explained : Answer → Expected

pub record SheetLine : Type 0 where
  pub table : List ℕ
  pub formula : List ℕ
  pub expected : Expected

abbrev pub LastRow : Listing → Option Position → Type 0
LastRow L none = Unit {0}
LastRow L (some p) = placed L (length L.rows - 1) ≡ p

-- What is said of a table and a formula: the verdict by Definition 3, the words by Definition 6, the row by the listing.
pub record IsAnswer (t : Table) (F : Formula) (a : Answer) : Type 0 where
  pub class : class_of F ≡ a.class
  pub verdict : (a.holds ≡ true) ↔ Sat t F t.start
  pub words : (w : List ℕ) → Member a.language w ↔ Explains t F w
  pub row : LastRow (listing t F) a.last_row

abbrev pub Meets : Table → List ℕ → Expected → Type 0
Meets t text (refused number figure) = read_formula t.names text ≡ refusal number figure
Meets t text (explained a) = (F : Formula) × (read_formula t.names text ≡ accepted F) × IsAnswer t F a

-- From the texts.
abbrev pub IsRight : SheetLine → Type 0
IsRight l = (t : Table) × (read_table l.table ≡ accepted t) × Meets t l.formula l.expected

-- The tables.
abbrev pub lines : List String → List ℕ
lines [] = []
lines (l ∷ rest) = ended (ascii l) ++ lines rest

abbrev pub table_m : List ℕ
table_m = lines ("     3     2     3     0" ∷ "     1 req" ∷ "     2 ack" ∷ "     0     1     1" ∷ "     1     0     2" ∷ "     1     2     0" ∷ [])

abbrev pub one_state : List ℕ
one_state = lines ("     1     0     0     0" ∷ [])

abbrev pub loops : List ℕ
loops = lines ("     1     3     3     0" ∷ "     1 a" ∷ "     2 b" ∷ "     3 c" ∷ "     0     1     0" ∷ "     0     2     0" ∷ "     0     3     0" ∷ [])

abbrev pub asks : List ℕ → String → Expected → SheetLine
asks table formula expected = record { table = table; formula = ascii formula; expected = expected }

abbrev pub holding : ℕ → Language → Expected
holding class language = explained (record { class = class; holds = true; language = language; last_row = none })

abbrev pub failing : ℕ → Language → Option Position → Expected
failing class language row = explained (record { class = class; holds = false; language = language; last_row = row })

abbrev pub starred : List SheetLine
starred =
    asks table_m "T" (holding 1 (only ([] ∷ [])))
    ∷ asks table_m "~T" (failing 2 (only ([] ∷ [])) none)
    ∷ asks table_m "AX[req] T" (holding 2 (only []))
    ∷ asks table_m "AX[ack] T" (failing 2 (only ((1 ∷ []) ∷ [])) (some (at 2 1)))
    ∷ asks table_m "AX[req] AX[ack] T" (failing 2 (only ((1 ∷ 0 ∷ []) ∷ [])) none)
    ∷ asks table_m "EU[req] EX[ack] T" (holding 1 (only ((1 ∷ 2 ∷ []) ∷ [])))
    ∷ asks table_m "EU[~req] T" (holding 1 (only ([] ∷ [])))
    ∷ asks table_m "T | ~T" (refused 9 0)
    ∷ asks table_m "~EX[req] ~T" (refused 9 1)
    ∷ asks one_state "EU[*] EX[.] T" (holding 1 (one_or_more idle_label))
    ∷ asks loops "EX[b] T | EX[c] T | EX[a] EX[b] T" (holding 1 (only ((2 ∷ []) ∷ (3 ∷ []) ∷ (1 ∷ 2 ∷ []) ∷ [])))
    ∷ []
