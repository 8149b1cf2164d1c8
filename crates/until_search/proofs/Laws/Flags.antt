-- Tests that come out as wanted, and a search along a part of a list.
use mathlib.Core.Path.{◌≡◌, refl, sym, ap, ◌∙◌}
use mathlib.Core.Bool.{Bool, true, false, false≢true, true≢false, not, ◌&&◌, ◌||◌, beq}
use mathlib.Core.List.{List, [], ◌∷◌}
use Prim.Native.Nat.{ℕ, ◌+◌, ◌≤◌, ◌<◌}
use native.Mathlib.Decide.{ℕ_discrete}
use native.Mathlib.Omega.{arith}
use lib.ListN.{set, replicate, length-set, length-replicate}
use lib.Seq.{get_or-set_same, get_or-set_other}
use Rattle.lts.specs.Sizes.{most_states}
use Rattle.lts.specs.Lists.{any_of}
use Rattle.lts.specs.Lists.{every}
use Rattle.lts.specs.Steps.{Step}
use Rattle.table_steps.specs.inner.StepArray.{step_at, steps_between}
use Rattle.table_steps.proofs.Laws.StepArray.{between_next, between_over}
use Rattle.until_search.specs.inner.Flags.{as_wanted, flag_at, Flags}

pub same-there : (wanted result m there : Bool) → result ≡ m → there ≡ true → beq result wanted ≡ as_wanted wanted (m && there)
same-there true true true true e d = refl
same-there true true true false e d = absurd (false≢true d)
same-there true true false there e d = absurd (true≢false e)
same-there true false true there e d = absurd (false≢true e)
same-there true false false there e d = refl
same-there false true true true e d = refl
same-there false true true false e d = absurd (false≢true d)
same-there false true false there e d = absurd (true≢false e)
same-there false false true there e d = absurd (false≢true e)
same-there false false false there e d = refl

pub same-nowhere : (wanted m there : Bool) → there ≡ false → not wanted ≡ as_wanted wanted (m && there)
same-nowhere wanted m true e = absurd (true≢false e)
same-nowhere true true false e = refl
same-nowhere true false false e = refl
same-nowhere false true false e = refl
same-nowhere false false false e = refl

not-or : (a b : Bool) → not (not a || b) ≡ (a && not b)
not-or true b = refl
not-or false b = refl

module _ {A : Type 0} (p : A → Bool) where
  pub some_wanted : (l : List A) → any_of (λ x. as_wanted true (p x)) l ≡ any_of p l
  some_wanted l = refl

  -- All pass exactly if none fails.
  pub every-not-some : (l : List A) → not (any_of (λ x. as_wanted false (p x)) l) ≡ every p l
  every-not-some [] = refl
  every-not-some (x ∷ l) = not-or (p x) (any_of (λ x. as_wanted false (p x)) l) ∙ ap (λ b. p x && b) (every-not-some l)

-- Steps that are not searched yet, from k to before `end`.
module _ (p : Step → Bool) (steps : List ℕ) (s k end : ℕ) where
  abbrev rest : Bool
  rest = any_of p (steps_between steps s (k + 1) end)

  pub some-found : k < end → p (step_at steps s k) ≡ true → any_of p (steps_between steps s k end) ≡ true
  some-found h e = ap (any_of p) (between_next steps s k end h) ∙ ap (λ b. b || rest) e

  pub some-later : k < end → p (step_at steps s k) ≡ false → any_of p (steps_between steps s k end) ≡ any_of p (steps_between steps s (k + 1) end)
  some-later h e = ap (any_of p) (between_next steps s k end h) ∙ ap (λ b. b || rest) e

  pub some-none : end ≤ k → any_of p (steps_between steps s k end) ≡ false
  some-none h = ap (any_of p) (between_over steps s k end h)

-- Flags set a state at a time.
module _ (p : ℕ → Bool) where
  pub flags_none : Flags 0 p (replicate most_states false)
  flags_none = record { places = length-replicate most_states false; flag = λ s h. absurd (omega arith) }

  pub flags_on : (end : ℕ) {flags : List Bool} (b : Bool) → end < most_states → b ≡ p end → Flags end p flags → Flags (end + 1) p (set flags end b)
  flags_on end {flags} b h e d = record {
    places = length-set flags end b ∙ d.places;
    flag = λ s l. here s l (ℕ_discrete s end);
  }
    where
      here : (s : ℕ) → s < end + 1 → Dec (s ≡ end) → flag_at (set flags end b) s ≡ p s
      here s l (yes c) =
          ap (flag_at (set flags end b)) c ∙ (get_or-set_same flags end b false (omega (arith, d.places)) ∙ (e ∙ ap p (sym c)))
      here s l (no c) = get_or-set_other flags end s b false c ∙ d.flag s (omega arith)

  pub flags_all : (n end : ℕ) {flags : List Bool} → n ≤ end → Flags end p flags → Flags n p flags
  flags_all n end h d = record { places = d.places; flag = λ s l. d.flag s (omega arith) }

-- Flags of two tests that agree at every state.
pub flags_same : {n : ℕ} {p q : ℕ → Bool} {flags : List Bool} → ((s : ℕ) → s < n → p s ≡ q s) → Flags n p flags → Flags n q flags
flags_same h d = record { places = d.places; flag = λ s l. d.flag s l ∙ h s l }
