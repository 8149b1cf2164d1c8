-- Where something holds, as flags state by state; and what holds at a node, from where its arms hold.
use Rattle.std.specs.Prelude.{◌≡◌, Bool, true, false, not as negate, ◌&&◌, ◌||◌, List, ℕ, ◌+◌, ◌*◌, ◌<◌, length, get_or}
use Rattle.actl.specs.inner.Sizes.{node_positions}
use Rattle.lts.specs.Sizes.{most_states}
use Rattle.lts.specs.Lists.{any_of}
use Rattle.lts.specs.Lists.{every}
use Rattle.lts.specs.Steps.{Step, Table}
use Rattle.lts.specs.inner.Steps.{steps_from}
use Rattle.actl.specs.Actions.{Cond, in_set, meets}
use Rattle.actl.specs.Formulas.{Formula, tru, size, nodes}
use Rattle.formulas.specs.inner.Access.{cond_in}
use Rattle.formulas.specs.declared.node.Node.{Node}
use Rattle.formulas.specs.declared.node.Node.TheVariants.{True, Not, Or, Ex, Ax, Until, UntilThen}
use Rattle.satisfaction.specs.inner.Holds.{within, enters, holds}

abbrev pub flag_at : List Bool → ℕ → Bool
flag_at l s = get_or l s false

-- A step meets a condition and leads to where p holds.
abbrev pub leads_to : Cond → (ℕ → Bool) → Step → Bool
leads_to c p st = meets c st.label && p st.to

-- A test comes out as it is wanted.
abbrev pub as_wanted : Bool → Bool → Bool
as_wanted true a = a
as_wanted false a = negate a

-- Some step leads to where p holds; or, if that is not wanted, some step does not.
abbrev pub leads_as_wanted : Bool → Cond → (ℕ → Bool) → Step → Bool
leads_as_wanted wanted c p st = as_wanted wanted (leads_to c p st)

abbrev pub some_step : Bool → Cond → (ℕ → Bool) → List Step → Bool
some_step wanted c p steps = any_of (leads_as_wanted wanted c p) steps

-- What holds at s, which the steps leave, of a node whose arms hold where p and q do. Of an until: its end, without the steps before.
abbrev pub at_once : Node → (ℕ → Bool) → (ℕ → Bool) → ℕ → List Step → Bool
at_once True p q s steps = true
at_once Not p q s steps = negate (p s)
at_once Or p q s steps = p s || q s
at_once (Ex c) p q s steps = any_of (leads_to (cond_in c) p) steps
at_once (Ax c) p q s steps = every (leads_to (cond_in c) p) steps
at_once (Until a) p q s steps = p s
at_once (UntilThen a b) p q s steps = any_of (λ st. in_set b st.label && p st.to) steps

-- The same, with an until's steps before its end.
abbrev pub node_holds : Table → Node → (ℕ → Bool) → (ℕ → Bool) → ℕ → Bool
node_holds t True p q s = true
node_holds t Not p q s = negate (p s)
node_holds t Or p q s = p s || q s
node_holds t (Ex c) p q s = any_of (leads_to (cond_in c) p) (steps_from t s)
node_holds t (Ax c) p q s = every (leads_to (cond_in c) p) (steps_from t s)
node_holds t (Until a) p q s = within t a p (length t.transitions) s
node_holds t (UntilThen a b) p q s = within t a (enters t b p) (length t.transitions) s

-- Flags that say of each state below n whether p holds there.
pub record Flags (n : ℕ) (p : ℕ → Bool) (flags : List Bool) : Type 0 where
  pub places : length flags ≡ most_states
  pub flag : (s : ℕ) → s < n → flag_at flags s ≡ p s

-- Flags of every node of F at every state of the table: node k and state s at k * 256 + s.
pub record NodeFlags (t : Table) (F : Formula) (flags : List Bool) : Type 0 where
  pub places : length flags ≡ node_positions
  pub flag : (k s : ℕ) → k < size F → s < t.states → flag_at flags (k * most_states + s) ≡ holds t (get_or (nodes F) k tru) s
