-- Definition 1 of document 000: labelled transition systems; and 01's idle step, which makes the transition relation total.
use Rattle.std.specs.Prelude.{◌≡◌, ◌⊎◌, Bool, ◌||◌, ℕ, eqb, length}
use mathlib.Core.List.{List, Memᴰ}
use Rattle.lts.specs.Idle.{idle_label}

pub record Step : Type 0 where
  pub from : ℕ
  pub label : ℕ
  pub to : ℕ

-- `names` are the labels' names: label a has the name at a - 1.
pub record Table : Type 0 where
  pub states : ℕ
  pub names : List (List ℕ)
  pub transitions : List Step
  pub start : ℕ

abbrev pub labels : Table → ℕ
labels t = length t.names

-- 01: "Label 0 is the silent step." 02, of the idle step: "It still counts as silent in formulas"
unfoldable pub silent : ℕ → Bool
silent a = eqb a 0 || eqb a idle_label

-- 01: "A state without transitions is given a silent loop to itself, its idle step." Here with label i, and then with the idle label.
abbrev pub loop_at : ℕ → ℕ → Step
loop_at i s = record { from = s; label = i; to = s }

abbrev pub Exitless : Table → ℕ → Type 0
Exitless t s = (x : Step) → Memᴰ x t.transitions → x.from ≡ s → ⊥

-- The steps of the table, idle steps included, if these carry label i; and with the idle label.
abbrev pub IsStepWith : ℕ → Table → Step → Type 0
IsStepWith i t st = Memᴰ st t.transitions ⊎ ((st ≡ loop_at i st.from) × Exitless t st.from)

abbrev pub IsStep : Table → Step → Type 0
IsStep t st = IsStepWith idle_label t st
