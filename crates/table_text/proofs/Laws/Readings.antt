-- Laws of the loops over labels and transitions: what is read so far, and what is left.
use mathlib.Core.Path.{◌≡◌, refl, ap, ◌∙◌}
use mathlib.Core.Bool.{true}
use mathlib.Core.List.{List, [], ◌∷◌, ◌++◌}
use Prim.Native.Nat.{ℕ, suc, ◌+◌, ◌-◌, ◌<◌, ◌≤◌}
use native.Mathlib.Omega.{arith}
use lib.ListN.{length, drop, replicate, length-replicate, length-append, length-drop, drop_of_length-le}
use Rattle.lts.specs.inner.Sizes.{names_length, transitions_length}
use Rattle.lts.specs.Lists.{every}
use Rattle.lts.specs.Reply.{Reply, accepted, refusal}
use Rattle.lts.specs.Steps.{Step, Table}
use Rattle.lts.specs.Names.{is_name}
use Rattle.lts.specs.Reading.{Header, at_end, read_transitions, read_labels_with}
use Rattle.lts.specs.inner.Reading.{read_labels}
use Rattle.lts.specs.inner.Slots.{name_bytes, step_bytes}
use Rattle.table_lines.specs.inner.LineReplies.{header}
use Rattle.table_text.specs.inner.Progress.{Refuses, NameRead, NamesRead, TransitionLineRead, StepsRead, TransitionProgress}
use Rattle.table_lines.specs.declared.HeaderFields.{HeaderFields}
use Rattle.std.specs.Prelude.{Ok}
use Rattle.table_text.specs.declared.TableRefusal.{TableRefusal}
use Rattle.table_text.specs.declared.TableRefusal.TheVariants.{NotLaidOut}
use Rattle.lts.proofs.Laws.SlotBytes.{names_snoc}

-- A refusal of what is left is one of the whole.
pub refuses_whole : {a b : Reply Table} {t : TableRefusal} → a ≡ b → Refuses b t → Refuses a t
refuses_whole e r = record { number = r.number; figure = r.figure; reply = e ∙ r.reply; says = r.says }

-- Names.
pub record NamesSoFar (h : Header) (s : List ℕ) (from : ℕ) (b : List ℕ) (at count : ℕ) : Type 0 where
  pub names : List (List ℕ)
  pub counts : length names ≡ count
  pub few : count ≤ h.labels
  pub all-names : every is_name names ≡ true
  pub within : at ≤ length s
  pub reads : read_labels h h.labels [] (drop from s) ≡ read_labels h (h.labels - count) names (drop at s)
  pub kept : b ≡ name_bytes names

module _ (h : Header) (s : List ℕ) (from : ℕ) where
  pub names-start : (b : List ℕ) → from ≤ length s → b ≡ replicate names_length 0 → NamesSoFar h s from b from 0
  names-start b k e = record {
    names = [];
    counts = refl;
    few = omega arith;
    all-names = refl;
    within = k;
    reads = let all : h.labels ≡ h.labels - 0 = omega arith in ap (λ n. read_labels h n [] (drop from s)) all;
    kept = e;
  }

  module _ (b : List ℕ) (at count : ℕ) (r : NamesSoFar h s from b at count) where
    names-next : count < h.labels
        → read_labels h h.labels [] (drop from s) ≡ read_labels h (suc (h.labels - (count + 1))) r.names (drop at s)
    names-next k =
        let more : h.labels - count ≡ suc (h.labels - (count + 1)) = omega arith in
        r.reads ∙ ap (λ n. read_labels h n r.names (drop at s)) more

    pub names-refused : count < h.labels → {t : TableRefusal} → Refuses (read_labels h (suc (h.labels - (count + 1))) r.names (drop at s)) t
        → Refuses (read_labels h h.labels [] (drop from s)) t
    names-refused k f = refuses_whole (names-next k) f

    pub names-go-on : count < h.labels → (to : ℕ) (d : List ℕ) → NameRead h s at to (h.labels - (count + 1)) r.names d → NamesSoFar h s from d to (count + 1)
    names-go-on k to d f = record {
      names = r.names ++ (f.name ∷ []);
      counts = length-append r.names (f.name ∷ []) ∙ omega (arith, r.counts);
      few = omega arith;
      all-names = names_snoc r.names f.name r.all-names f.is_name;
      within = f.within;
      reads = names-next k ∙ f.reads;
      kept = f.kept;
    }

    pub names-end : h.labels ≤ count → NamesRead h s from at b
    unfolding read_labels_with
    names-end k =
        let few = r.few in
        let none : h.labels - count ≡ 0 = omega arith in
        record {
          names = r.names;
          counts = omega (arith, r.counts);
          within = r.within;
          reads = r.reads ∙ ap (λ n. read_labels h n r.names (drop at s)) none;
          kept = r.kept;
        }

-- Transitions.
pub record StepsSoFar (h : Header) (s : List ℕ) (from : ℕ) (names : List (List ℕ)) (b : List ℕ) (at count : ℕ) : Type 0 where
  pub steps : List Step
  pub counts : length steps ≡ count
  pub reads : read_transitions h names h.transitions [] (drop from s) ≡ read_transitions h names (h.transitions - count) steps (drop at s)
  pub kept : b ≡ step_bytes steps

module _ (h : Header) (s : List ℕ) (from : ℕ) (names : List (List ℕ)) where
  pub steps-start : (b : List ℕ) → b ≡ replicate transitions_length 0 → StepsSoFar h s from names b from 0
  steps-start b e = record {
    steps = [];
    counts = refl;
    reads = let all : h.transitions ≡ h.transitions - 0 = omega arith in ap (λ n. read_transitions h names n [] (drop from s)) all;
    kept = e;
  }

  module _ (b : List ℕ) (at count : ℕ) (r : StepsSoFar h s from names b at count) where
    steps_next : count < h.transitions
        → read_transitions h names h.transitions [] (drop from s) ≡ read_transitions h names (suc (h.transitions - (count + 1))) r.steps (drop at s)
    steps_next k =
        let more : h.transitions - count ≡ suc (h.transitions - (count + 1)) = omega arith in
        r.reads ∙ ap (λ n. read_transitions h names n r.steps (drop at s)) more

    pub steps-refused : count < h.transitions → {t : TableRefusal} → Refuses (read_transitions h names (suc (h.transitions - (count + 1))) r.steps (drop at s)) t
        → Refuses (read_transitions h names h.transitions [] (drop from s)) t
    steps-refused k f = refuses_whole (steps_next k) f

    pub steps-go-on : count < h.transitions → (to : ℕ) (d : List ℕ) → TransitionLineRead h s at to (h.transitions - (count + 1)) names r.steps d
        → StepsSoFar h s from names d to (count + 1)
    steps-go-on k to d f = record {
      steps = r.steps ++ (f.last ∷ []);
      counts = length-append r.steps (f.last ∷ []) ∙ omega (arith, r.counts);
      reads = steps_next k ∙ f.reads;
      kept = f.kept;
    }

    module _ (k : count ≡ h.transitions) where
      steps_over : read_transitions h names h.transitions [] (drop from s) ≡ read_transitions h names 0 r.steps (drop at s)
      steps_over = let none : h.transitions - count ≡ 0 = omega arith in r.reads ∙ ap (λ n. read_transitions h names n r.steps (drop at s)) none

      more-text : (l : List ℕ) (n : ℕ) (a : Reply Table) → 0 < length l → at_end n l a ≡ refusal 1 n
      more-text [] n a h = absurd (omega arith)
      more-text (x ∷ l) n a h = refl

      pub text-follows : at < length s → length names ≡ h.labels → (n : ℕ) → n ≡ h.labels + count + 2
          → Refuses (read_transitions h names h.transitions [] (drop from s)) (NotLaidOut n)
      unfolding read_transitions
      text-follows m c n f = record {
        number = 1;
        figure = 2 + length names + length r.steps;
        reply = steps_over ∙ more-text (drop at s) (2 + length names + length r.steps) _ (omega (arith, length-drop at s));
        says = ap (refusal 1) (omega (arith, r.counts));
      }

      pub steps-end : length s ≤ at → StepsRead h s from names b
      unfolding read_transitions
      steps-end m = record {
        steps = r.steps;
        counts = r.counts ∙ k;
        reads =
            let t : Table = record { states = h.states; names = names; transitions = r.steps; start = h.start } in
            steps_over ∙ ap (λ l. at_end (2 + length names + length r.steps) l (accepted t)) (drop_of_length-le s m);
        kept = r.kept;
      }

-- The loop over transitions, whatever the names before them are.
pub record TransitionsSoFar (c : HeaderFields) (s : List ℕ) (from : ℕ) (b : List ℕ) (at count : ℕ) : Type 0 where
  pub within : at ≤ length s
  pub few : count ≤ c.transitions
  pub long : length b ≡ transitions_length
  pub so_far : (names : List (List ℕ)) → length names ≡ c.labels → StepsSoFar (header c) s from names b at count

line-within : (c : HeaderFields) (s : List ℕ) (from : ℕ) (b : List ℕ) (at count : ℕ) → TransitionsSoFar c s from b at count → (to : ℕ) (d : List ℕ)
    → TransitionProgress (header c) s at count b d (Ok to) → (names : List (List ℕ)) → length names ≡ c.labels → to ≤ length s
line-within c s from b at count i to d f names e = let r = i.so_far names e in (f 0 names r.steps e r.counts r.kept).within

pub line_taken : (c : HeaderFields) (s : List ℕ) (from : ℕ) (b : List ℕ) (at count : ℕ) → TransitionsSoFar c s from b at count → count < c.transitions
    → (to : ℕ) (d : List ℕ) → TransitionProgress (header c) s at count b d (Ok to) → length d ≡ length b → TransitionsSoFar c s from d to (count + 1)
line_taken c s from b at count i k to d f e = record {
  within = line-within c s from b at count i to d f (replicate c.labels []) (length-replicate c.labels []);
  few = omega arith;
  long = e ∙ i.long;
  so_far = λ names g.
      let r = i.so_far names g in
      steps-go-on (header c) s from names b at count r k to d (f (c.transitions - (count + 1)) names r.steps g r.counts r.kept);
}
