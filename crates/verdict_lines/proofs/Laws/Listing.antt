-- The lines of a list, from the verdicts at the bytes that were read of it.
use mathlib.Core.Path.{◌≡◌, refl, sym, ap, ◌∙◌, subst}
use mathlib.Core.Bool.{Bool, true, false, cond, ◌&&◌}
use mathlib.Core.List.{List, [], ◌∷◌, ◌++◌}
use mathlib.Core.Option.{Option, none, some}
use Prim.Native.Nat.{ℕ, ◌+◌, ◌≤◌, ◌<◌}
use native.Mathlib.Omega.{arith}
use lib.Dec.{leb, ltb}
use lib.ListN.{length, get_or, take, drop, length-map, get_or-append}
use lib.Seq.{length-take-le, get_or-take, take_all}
use borrow.Author.Tests.{le-ltb}
use Rattle.columns.specs.Lines.{numbers_line}
use Rattle.lts.specs.Lists.{bind}
use Rattle.lts.specs.Sizes.{most_states}
use Rattle.lts.specs.Steps.{Table}
use Rattle.lts.specs.Reply.{Reply, accepted, refusal, overwritten}
use Rattle.lts.specs.Reading.{read_table}
use Rattle.lts.specs.inner.Lists.{up_from}
use Rattle.lts.proofs.Laws.Refusals.{Numbered, Between}
use Rattle.lts.proofs.Laws.Texts.{text-of-read}
use Rattle.actl.specs.Formulas.{Formula}
use Rattle.actl.specs.Reading.{unless_found}
use Rattle.actl.specs.inner.Reading.{read_formula}
use Rattle.actl.proofs.Laws.Replies.{refusal-is-not-accepted}
use Rattle.satisfaction.specs.inner.Holds.{verdict}
use Rattle.explanations.specs.Explanation.{and_then}
use Rattle.explanations.proofs.Beginnings.{then-numbers}
use Rattle.explanations.proofs.Lines.{lines_are}
use Rattle.starts.specs.Starts.{starting_at, is_right, wrong_start}
use Rattle.starts.specs.VerdictsAsked.{verdicts_at, joint}
use Rattle.starts.specs.inner.Search.{earlier, least_after}
use Rattle.starts.proofs.Answers.{map_at}
use Rattle.starts.proofs.Beginnings.{wrong-next, wrong-later, right-few}
use Rattle.verdict_text.specs.VerdictsText.{entries_in, verdict_line, verdict_lines, listed_verdicts}
use Rattle.verdict_text.specs.inner.Entries.{ListRead, entry_line, entry_lines}
use Rattle.verdict_lines.specs.inner.Asking.{verdicts_of, verdicts_over}

found-numbers : (o : Option ℕ) (r : Reply (List ℕ)) → Numbered (Between 1 16) r → Numbered (Between 1 16) (unless_found o 16 r)
found-numbers none r h = h
found-numbers (some i) r h = (omega arith, omega arith)

pub over_numbers : (table_text text starts : List ℕ) → Numbered (Between 1 16) (verdicts_over table_text text starts)
unfolding verdicts_over
over_numbers table_text text starts =
    then-numbers 16 (omega arith) (verdicts_of starts) (λ t F. found-numbers (wrong_start t.states starts) (accepted (verdicts_at t F starts)) tt) table_text text

same-accepted : {A : Type 0} {a b : A} → accepted a ≡ accepted b → a ≡ b
same-accepted e = cc

module _ (list starts : List ℕ) (count : ℕ) (read : ListRead list starts count) where
  abbrev entries : List ℕ
  entries = entries_in list

  -- The entry behind the bytes that were read names no state.
  stopped : (states : ℕ) → states ≤ most_states → wrong_start states (take count entries) ≡ none → count < length entries → wrong_start states entries ≡ some count
  stopped states few none_before h =
      let large = read.stops h in
      let least = least_after 0 (take count entries) in
      let e = get_or entries count 0 in
      let wrong : is_right states least e ≡ false = no (leb least e) (le-ltb e states (omega arith)) in
      wrong-later states entries (count + 1) count
      (wrong-next states entries count h ∙ (λ k. earlier (none_before k) (cond (wrong k) none (some count))))
    where
      no : (a : Bool) {b : Bool} → b ≡ false → (a && b) ≡ false
      no true d = d
      no false d = refl

  -- What was asked of the bytes, and what is to be written of the list.
  abbrev listing : Table → Formula → Reply (List ℕ)
  listing t F = unless_found (wrong_start t.states entries) 16 (accepted (verdict_lines t F entries))

  module _ (t : Table) (F : Formula) (few : t.states ≤ most_states) where
    abbrev asked : Reply (List ℕ)
    asked = verdicts_of (take count starts) t F

    same_asked : asked ≡ verdicts_of (take count entries) t F
    same_asked = ap (λ l. verdicts_of l t F) read.same

    -- By what the search found among the bytes.
    refused_so_lem : {n g : ℕ} → asked ≡ refusal n g → listing t F ≡ refusal n g
    refused_so_lem {n} {g} e = by (wrong_start t.states (take count entries)) refl (sym same_asked ∙ e)
      where
        by : (o : Option ℕ) → wrong_start t.states (take count entries) ≡ o
            → unless_found o 16 (accepted (verdicts_at t F (take count entries))) ≡ refusal n g → listing t F ≡ refusal n g
        by none d f = absurd (refusal-is-not-accepted (sym f))
        by (some i) d f =
            ap (λ o. unless_found o 16 (accepted (verdict_lines t F entries))) (wrong-later t.states entries count i d)
            ∙ (let a : 16 ≡ n = cc in let b : i ≡ g = cc in λ k. refusal (a k) (b k))

    accepted_so : {vs : List ℕ} → asked ≡ accepted vs → (wrong_start t.states (take count entries) ≡ none) × (vs ≡ verdicts_at t F (take count entries))
    accepted_so {vs} e = by (wrong_start t.states (take count entries)) refl (sym same_asked ∙ e)
      where
        by : (o : Option ℕ) → wrong_start t.states (take count entries) ≡ o
            → unless_found o 16 (accepted (verdicts_at t F (take count entries))) ≡ accepted vs
            → (wrong_start t.states (take count entries) ≡ none) × (vs ≡ verdicts_at t F (take count entries))
        by none d f = (d, sym (same-accepted f))
        by (some i) d f = absurd (refusal-is-not-accepted f)

    -- The lines of all entries, by the bytes of the list and of the answers.
    module _ {vs : List ℕ} (e : asked ≡ accepted vs) (all : length entries ≤ count) (buffer : List ℕ) where
      whole : take count entries ≡ entries
      whole = take_all count entries all

      right : wrong_start t.states entries ≡ none
      right = ap (wrong_start t.states) (sym whole) ∙ (accepted_so e).0

      verdicts : vs ≡ verdicts_at t F entries
      verdicts = (accepted_so e).1 ∙ ap (verdicts_at t F) whole

      abbrev at : ℕ → ℕ
      at s = verdict (starting_at t s) F

      long : length vs ≡ length entries
      long = ap length verdicts ∙ length-map entries at

      entry : (i : ℕ) → i < length entries → get_or starts i 0 ≡ get_or entries i 0
      entry i h =
          let b : i < count = omega (arith, read.few) in
          sym (get_or-take count starts i 0 b) ∙ ap (λ l. get_or l i 0) read.same ∙ get_or-take count entries i 0 b

      answer : (i : ℕ) → i < length entries → get_or (overwritten vs buffer) i 0 ≡ at (get_or entries i 0)
      answer i h = get_or-append vs (drop (length vs) buffer) 0 i (omega (arith, long)) ∙ ap (λ l. get_or l i 0) verdicts ∙ map_at at entries i h

      lines : bind (entry_line starts (overwritten vs buffer)) (up_from 0 (length entries)) ≡ bind (verdict_line t F) entries
      lines = lines_are 0 (λ k. bind (verdict_line t F)) (entry_line starts (overwritten vs buffer)) (λ k. verdict_line t F) (λ k. refl) (λ k s l. refl) entries
          (λ i h k. numbers_line (entry i h k ∷ answer i h k ∷ []))

      listed_so : listing t F ≡ accepted (entry_lines (joint vs) count starts (overwritten vs buffer))
      listed_so =
          let same : length entries ≡ count = omega (arith, read.few) in
          ap (λ o. unless_found o 16 (accepted (verdict_lines t F entries))) right
          ∙ (λ k. accepted (numbers_line (joint (sym verdicts k) ∷ same k ∷ []) ++ sym lines k))
          ∙ ap (λ n. accepted (numbers_line (joint vs ∷ count ∷ []) ++ bind (entry_line starts (overwritten vs buffer)) (up_from 0 n))) same

  -- The same of the two texts.
  module _ (table_text text : List ℕ) where
    abbrev over : Reply (List ℕ)
    over = verdicts_over table_text text (take count starts)

    -- A law of the table and the formula that were read is one of the texts, if refused readings keep it.
    by_reading : (P : Reply (List ℕ) → Reply (List ℕ) → Type 0) → ((n g : ℕ) → P (refusal n g) (refusal n g))
        → ((t : Table) (F : Formula) → t.states ≤ most_states → P (verdicts_of (take count starts) t F) (listing t F))
        → P over (listed_verdicts table_text text entries)
    unfolding verdicts_over listed_verdicts
    by_reading P refused both = by_table (read_table table_text) refl
      where
        by_formula : (t : Table) → t.states ≤ most_states → (r : Reply Formula)
            → P (and_then r (λ F. verdicts_of (take count starts) t F)) (and_then r (λ F. listing t F))
        by_formula t few (accepted F) = both t F few
        by_formula t few (refusal n g) = refused n g

        by_table : (r : Reply Table) → read_table table_text ≡ r
            → P (and_then r (λ t. and_then (read_formula t.names text) (λ F. verdicts_of (take count starts) t F)))
            (and_then r (λ t. and_then (read_formula t.names text) (λ F. listing t F)))
        by_table (accepted t) e = by_formula t (text-of-read table_text t e).1.few_states (read_formula t.names text)
        by_table (refusal n g) e = refused n g

    pub over_refused : {n g : ℕ} → over ≡ refusal n g → listed_verdicts table_text text entries ≡ refusal n g
    over_refused {n} {g} = by_reading (λ x y. x ≡ refusal n g → y ≡ refusal n g) (λ m f e. e) (λ t F few e. refused_so_lem t F few e)

    pub over_stopped : {vs : List ℕ} → over ≡ accepted vs → count < length entries → listed_verdicts table_text text entries ≡ refusal 16 count
    over_stopped {vs} = by_reading (λ x y. x ≡ accepted vs → count < length entries → y ≡ refusal 16 count)
        (λ m f e h. absurd (refusal-is-not-accepted e)) (λ t F few e h.
        ap (λ o. unless_found o 16 (accepted (verdict_lines t F entries))) (stopped t.states few (accepted_so t F few e).0 h))

    pub over_listed : {vs : List ℕ} → over ≡ accepted vs → length entries ≤ count → (buffer : List ℕ)
        → listed_verdicts table_text text entries ≡ accepted (entry_lines (joint vs) count starts (overwritten vs buffer))
    over_listed {vs} = by_reading (λ x y. x ≡ accepted vs → length entries ≤ count → (buffer : List ℕ) → y ≡ accepted (entry_lines (joint vs) count starts (overwritten vs buffer)))
        (λ m f e h b. absurd (refusal-is-not-accepted e)) (λ t F few e h b. listed_so t F few e h b)

    pub over_few : {vs : List ℕ} → over ≡ accepted vs → count ≤ most_states
    over_few {vs} = by_reading (λ x y. x ≡ accepted vs → count ≤ most_states) (λ m f e. absurd (refusal-is-not-accepted e)) (λ t F few e.
        omega (arith, right-few t.states (take count entries) few (accepted_so t F few e).0, length-take-le count entries read.few))
