-- Reading line by line: one line more, and all the lines of labels and of transitions.
use mathlib.Core.Path.{◌≡◌, refl, sym, ap, ◌∙◌}
use mathlib.Core.Bool.{Bool, true, false, not}
use mathlib.Core.List.{List, [], ◌∷◌, ◌++◌, append_assoc, append-nil}
use Prim.Native.Nat.{ℕ, zero, suc, ◌+◌}
use native.Mathlib.Omega.{arith}
use lib.ListN.{length}
use Rattle.columns.proofs.Laws.Bytes.{same_of}
use Rattle.lts.specs.Reply.{Reply, accepted, unless}
use Rattle.lts.specs.Steps.{Step, Table}
use Rattle.lts.specs.Names.{is_name}
use Rattle.lts.specs.Text.{ended, transition_line}
use Rattle.lts.specs.TableText.{transition_lines}
use Rattle.lts.specs.Reading.{Line, missing, line, first_line, on_line, Header, used, step_of, step_laid_out, step_in_range, above, read_transitions}
use Rattle.lts.proofs.Laws.Tests.{CountsInRange, step_range_of}
use Rattle.lts.proofs.Laws.Grown.{Grown}
use Rattle.lts.proofs.Laws.Lines.{first-line-of, first-line-to, step-of, step-laid_out, step_unbroken}

-- Names that may follow, and transitions that may follow.
abbrev pub Named : List (List ℕ) → List (List ℕ) → Type 0
Named names more = Grown (λ n. is_name n ≡ true) (λ l n. not (used l n) ≡ true) names more

abbrev pub Added : Header → List Step → List Step → Type 0
Added h steps more = Grown (λ st. step_in_range h st ≡ true) (λ l st. above l st ≡ true) steps more

abbrev pub table_of : Header → List (List ℕ) → List Step → Table
table_of h names steps = record { states = h.states; names = names; transitions = steps; start = h.start }

module _ {A : Type 0} where
  pub unless-to : (b : Bool) (n f : ℕ) (next : Reply A) → b ≡ true → unless b n f next ≡ next
  unless-to b n f next e = ap (λ z. unless z n f next) e

  pub unless-of : (b : Bool) (n f : ℕ) (next : Reply A) (a : A) → unless b n f next ≡ accepted a → (b ≡ true) × (next ≡ accepted a)
  unless-of true n f next a e = (refl, e)
  unless-of false n f next a e = let z : ◌≡◌ {A = ℕ} 0 1 = cc in absurd (omega arith)

pub on-line-of : (n : ℕ) (f : Line) (next : List ℕ → List ℕ → Reply Table) (t : Table) → on_line n f next ≡ accepted t
    → (l : List ℕ) × (rest : List ℕ) × (f ≡ line l rest) × (next l rest ≡ accepted t)
on-line-of n missing next t e = let z : ◌≡◌ {A = ℕ} 0 1 = cc in absurd (omega arith)
on-line-of n (line l rest) next t e = (l, rest, refl, e)

-- One transition more.
module _ (h : Header) (names : List (List ℕ)) (left : ℕ) (steps : List Step) where
  abbrev number : ℕ
  number = 2 + length names + length steps

  pub transition_read : (text l rest : List ℕ) → first_line text ≡ line l rest → step_laid_out l ≡ true → step_in_range h (step_of l) ≡ true → above steps (step_of l) ≡ true
      → read_transitions h names (suc left) steps text ≡ read_transitions h names left (steps ++ (step_of l ∷ [])) rest
  unfolding read_transitions
  transition_read text l rest e p q r =
      ap (λ (f : Line). on_line number f (λ k m. unless (step_laid_out k) 1 number
      (unless (step_in_range h (step_of k)) 2 number (unless (above steps (step_of k)) 4 number (read_transitions h names left (steps ++ (step_of k ∷ [])) m))))) e
      ∙ (unless-to (step_laid_out l) 1 number _ p ∙ (unless-to (step_in_range h (step_of l)) 2 number _ q ∙ unless-to (above steps (step_of l)) 4 number _ r))

  pub record TransitionRead (text : List ℕ) (t : Table) : Type 0 where
    pub this : List ℕ
    pub rest : List ℕ
    pub first : first_line text ≡ line this rest
    pub laid_out : step_laid_out this ≡ true
    pub in_range : step_in_range h (step_of this) ≡ true
    pub rises : above steps (step_of this) ≡ true
    pub goes_on : read_transitions h names left (steps ++ (step_of this ∷ [])) rest ≡ accepted t

  pub transition_was_read : (text : List ℕ) (t : Table) → read_transitions h names (suc left) steps text ≡ accepted t → TransitionRead text t
  unfolding read_transitions
  transition_was_read text t e =
      let (l, rest, first, d) = on-line-of number (first_line text) _ t e in
      let p = unless-of (step_laid_out l) 1 number _ t d in
      let q = unless-of (step_in_range h (step_of l)) 2 number _ t p.1 in
      let r = unless-of (above steps (step_of l)) 4 number _ t q.1 in
      record { this = l; rest = rest; first = first; laid_out = p.0; in_range = q.0; rises = r.0; goes_on = r.1 }

-- All the transitions.
module _ (h : Header) (c : CountsInRange h) (names : List (List ℕ)) where
  pub transitions-read : (steps more : List Step) → Added h steps more
      → read_transitions h names (length more) steps (transition_lines more) ≡ accepted (table_of h names (steps ++ more))
  unfolding read_transitions
  transitions-read steps [] g = ap (λ (l : List Step). accepted (table_of h names l)) (sym (append-nil steps))
  transitions-read steps (st ∷ more) g =
      let k = step_range_of h st g.0 in
      let same : step_of (transition_line st) ≡ st = step-of st (omega (arith, c.few_states)) (omega (arith, c.few_labels)) (omega (arith, c.few_states)) in
      transition_read h names (length more) steps (ended (transition_line st) ++ transition_lines more) (transition_line st) (transition_lines more)
      (first-line-to (transition_line st) (transition_lines more) (step_unbroken st))
      (step-laid_out st (omega (arith, c.few_states)) (omega (arith, c.few_labels)) (omega (arith, c.few_states)))
      (ap (step_in_range h) same ∙ g.0) (ap (above steps) same ∙ g.1)
      ∙ (ap (λ (x : Step). read_transitions h names (length more) (steps ++ (x ∷ [])) (transition_lines more)) same
      ∙ (transitions-read (steps ++ (st ∷ [])) more g.2 ∙ ap (λ (l : List Step). accepted (table_of h names l)) (append_assoc steps (st ∷ []) more)))

pub record TransitionsRead (h : Header) (names : List (List ℕ)) (left : ℕ) (steps : List Step) (text : List ℕ) (t : Table) : Type 0 where
  pub more : List Step
  pub count : length more ≡ left
  pub text-is : text ≡ transition_lines more
  pub added : Added h steps more
  pub table : t ≡ table_of h names (steps ++ more)

pub transitions_were_read : (h : Header) (names : List (List ℕ)) (left : ℕ) (steps : List Step) (text : List ℕ) (t : Table)
    → read_transitions h names left steps text ≡ accepted t → TransitionsRead h names left steps text t
unfolding read_transitions
transitions_were_read h names zero steps [] t e = record {
  more = [];
  count = refl;
  text-is = refl;
  added = tt;
  table = let z : table_of h names steps ≡ t = cc in sym z ∙ ap (table_of h names) (sym (append-nil steps));
}
transitions_were_read h names zero steps (b ∷ s) t e = let z : ◌≡◌ {A = ℕ} 0 1 = cc in absurd (omega arith)
transitions_were_read h names (suc left) steps text t e =
    let r = transition_was_read h names left steps text t e in
    join r (transitions_were_read h names left (steps ++ (step_of r.this ∷ [])) r.rest t r.goes_on)
  where
    join : (r : TransitionRead h names left steps text t) → TransitionsRead h names left (steps ++ (step_of r.this ∷ [])) r.rest t → TransitionsRead h names (suc left) steps text t
    join r k = record {
      more = step_of r.this ∷ k.more;
      count = ap suc k.count;
      text-is = first-line-of text r.this r.rest r.first
          ∙ (ap (λ (l : List ℕ). ended l ++ r.rest) (same_of r.this _ r.laid_out) ∙ ap (λ (l : List ℕ). ended (transition_line (step_of r.this)) ++ l) k.text-is);
      added = (r.in_range, r.rises, k.added);
      table = k.table ∙ ap (table_of h names) (append_assoc steps (step_of r.this ∷ []) k.more);
    }
