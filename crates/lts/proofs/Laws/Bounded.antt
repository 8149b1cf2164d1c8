-- A table's text has at most 20,321 bytes, so a reader need not hold more than 20,322 of a longer text: they get the same answer.
use mathlib.Core.Path.{◌≡◌, refl, sym, ap, ◌∙◌}
use mathlib.Core.Logic.{◌⊎◌, inl, inr}
use mathlib.Core.Bool.{Bool, true, false, cond, not}
use mathlib.Core.List.{List, [], ◌∷◌, ◌++◌, append-nil}
use Prim.Native.Nat.{ℕ, zero, suc, ◌+◌, ◌-◌, ◌*◌, ◌≤◌}
use native.Mathlib.Omega.{arith}
use lib.Dec.{eqb}
use lib.ListN.{length, take, drop, length-append}
use lib.Seq.{drop-drop}
use Rattle.lts.specs.Sizes.{most_transitions}
use Rattle.lts.specs.inner.Sizes.{enough_table_text}
use Rattle.columns.specs.Columns.{column, value_at}
use Rattle.columns.specs.Bytes.{same_bytes}
use Rattle.columns.proofs.Laws.Bytes.{same_of}
use Rattle.columns.proofs.Laws.Columns.{column-length}
use Rattle.lts.specs.Reply.{Reply, refusal, unless}
use Rattle.lts.specs.Steps.{Step, Table}
use Rattle.lts.specs.Names.{is_name}
use Rattle.lts.specs.Text.{header_line, label_line, transition_line}
use Rattle.lts.specs.Reading.{Line, missing, line, longer, first_line, on_line, Header, header_of, header_laid_out, header_in_range, used, step_of, step_laid_out}
use Rattle.lts.specs.Reading.{step_in_range, above, at_end, read_transitions, read_labels_with, read_table, read_table_with}
use Rattle.lts.specs.inner.Reading.{label_laid_out, read_labels}
use Rattle.lts.proofs.Booleans.{and-true-of}
use Rattle.lts.proofs.Laws.Tests.{name_shape, counts_of}
use Rattle.lts.proofs.Laws.LinesRead.{column_peeled}

-- The first line of a beginning of m bytes: the same line, or none, where the line has m bytes or more.
record SameLine (m : ℕ) (t : List ℕ) : Type 0 where
  bytes : List ℕ
  rest : List ℕ
  whole : first_line t ≡ line bytes rest
  begun : first_line (take m t) ≡ line bytes (take (m - suc (length bytes)) rest)

record CutLine (m : ℕ) (t : List ℕ) : Type 0 where
  begun : first_line (take m t) ≡ missing
  long : (l rest : List ℕ) → first_line t ≡ line l rest → m ≤ length l

missing-or : (f : Line) (b : ℕ) (l rest : List ℕ) → longer b f ≡ line l rest → (k : List ℕ) × (f ≡ line k rest) × (l ≡ b ∷ k)
missing-or missing b l rest e = absurd (let z : ◌≡◌ {A = ℕ} 0 1 = cc in omega arith)
missing-or (line k r) b l rest e = (k, (cc), (cc))

cut : (m : ℕ) (t : List ℕ) → SameLine m t ⊎ CutLine m t
cut zero t = inr (record { begun = refl; long = λ l rest e. omega arith })
cut (suc m) [] = inr (record { begun = refl; long = λ l rest e. absurd (let z : ◌≡◌ {A = ℕ} 0 1 = cc in omega arith) })
cut (suc m) (b ∷ s) = case (eqb b 10) refl (cut m s)
  where
    further : eqb b 10 ≡ false → SameLine m s ⊎ CutLine m s → SameLine (suc m) (b ∷ s) ⊎ CutLine (suc m) (b ∷ s)
    further e (inl h) =
        let w : first_line (b ∷ s) ≡ line (b ∷ h.bytes) h.rest = ap (λ x. cond x (line [] s) (longer b (first_line s))) e ∙ ap (longer b) h.whole in
        let z : m - suc (length h.bytes) ≡ suc m - suc (suc (length h.bytes)) = omega arith in
        let v : first_line (b ∷ take m s) ≡ line (b ∷ h.bytes) (take (suc m - suc (suc (length h.bytes))) h.rest) =
        ap (λ x. cond x (line [] (take m s)) (longer b (first_line (take m s)))) e ∙ ap (longer b) h.begun ∙ ap (λ k. line (b ∷ h.bytes) (take k h.rest)) z in
        inl (record { bytes = b ∷ h.bytes; rest = h.rest; whole = w; begun = v })
    further e (inr h) = inr (record {
      begun = ap (λ x. cond x (line [] (take m s)) (longer b (first_line (take m s)))) e ∙ ap (longer b) h.begun;
      long = λ l rest d.
          let (k, f, z) = missing-or (first_line s) b l rest (sym (ap (λ x. cond x (line [] s) (longer b (first_line s))) e) ∙ d) in
          omega (arith, h.long k rest f, ap length z);
    })

    case : (x : Bool) → eqb b 10 ≡ x → SameLine m s ⊎ CutLine m s → SameLine (suc m) (b ∷ s) ⊎ CutLine (suc m) (b ∷ s)
    case true e h =
        let z : m ≡ suc m - suc zero = omega arith in
        inl (record {
          bytes = [];
          rest = s;
          whole = ap (λ x. cond x (line [] s) (longer b (first_line s))) e;
          begun = ap (λ x. cond x (line [] (take m s)) (longer b (first_line (take m s)))) e ∙ ap (λ k. line [] (take k s)) z;
        })
    case false e h = further e h

-- A line of at most w bytes where it is laid out, and what follows it.
module _ (n w m : ℕ) (laid : List ℕ → Bool) (next : List ℕ → List ℕ → Reply Table) (narrow : (l : List ℕ) → laid l ≡ true → length l ≤ w) (room : w + 1 ≤ m)
    (same : (l rest : List ℕ) → laid l ≡ true → next l (take (m - suc (length l)) rest) ≡ next l rest) where
  abbrev answer : List ℕ → List ℕ → Reply Table
  answer l rest = unless (laid l) 1 n (next l rest)

  line_bounded : (text : List ℕ) → on_line n (first_line (take m text)) answer ≡ on_line n (first_line text) answer
  line_bounded text = by (cut m text)
    where
      laid_case : (l rest : List ℕ) (b : Bool) → laid l ≡ b → unless b 1 n (next l (take (m - suc (length l)) rest)) ≡ unless b 1 n (next l rest)
      laid_case l rest true e = same l rest e
      laid_case l rest false e = refl

      too_long : (l rest : List ℕ) → m ≤ length l → (b : Bool) → laid l ≡ b → refusal 1 n ≡ unless b 1 n (next l rest)
      too_long l rest h true e = absurd (omega (arith, narrow l e))
      too_long l rest h false e = refl

      cut_short : (f : Line) → first_line text ≡ f → ((l rest : List ℕ) → first_line text ≡ line l rest → m ≤ length l) → refusal 1 n ≡ on_line n f answer
      cut_short missing e h = refl
      cut_short (line l rest) e h = too_long l rest (h l rest e) (laid l) refl

      by : SameLine m text ⊎ CutLine m text → on_line n (first_line (take m text)) answer ≡ on_line n (first_line text) answer
      by (inl h) = ap (λ f. on_line n f answer) h.begun ∙ laid_case h.bytes h.rest (laid h.bytes) refl ∙ sym (ap (λ f. on_line n f answer) h.whole)
      by (inr h) = ap (λ f. on_line n f answer) h.begun ∙ cut_short (first_line text) refl h.long

-- How long laid-out lines are.
peeled : (l m : List ℕ) → l ≡ column (value_at 0 l) ++ m → (length l ≡ 6 + length m) × (drop 6 l ≡ m)
peeled l m e =
    let (small, d) = column_peeled l m e in
    (ap length e ∙ length-append (column (value_at 0 l)) m ∙ ap (λ k. k + length m) (column-length (value_at 0 l) small), d)

past : (i : ℕ) (l : List ℕ) → value_at i l ≡ value_at 0 (drop i l)
past i l = refl

step_narrow : (l : List ℕ) → step_laid_out l ≡ true → length l ≤ 18
step_narrow l e =
    let st = step_of l in
    let is = same_of l (transition_line st) e in
    let (n₁, d₁) = peeled l (column st.label ++ column st.to) is in
    let twelve : drop 6 (drop 6 l) ≡ drop 12 l = drop-drop 6 6 l in
    let (n₂, d₂) = peeled (drop 6 l) (column st.to) d₁ in
    let last : drop 12 l ≡ column st.to ++ [] = sym twelve ∙ d₂ ∙ sym (append-nil (column st.to)) in
    let (n₃, d₃) = peeled (drop 12 l) [] last in
    omega (arith, n₁, ap length d₁, n₂, ap length d₂, n₃, ap length last, length-append (column st.label) (column st.to), ap length twelve, length-append (column st.to) [])

label_narrow : (l : List ℕ) → label_laid_out l ≡ true → length l ≤ 20
label_narrow l e =
    let (a, b) = and-true-of (same_bytes l (label_line (value_at 0 l) (drop 7 l))) (is_name (drop 7 l)) e in
    let (n, d) = peeled l (32 ∷ drop 7 l) (same_of l (label_line (value_at 0 l) (drop 7 l)) a) in
    omega (arith, n, (name_shape (drop 7 l) b).short)

header_narrow : (l : List ℕ) → header_laid_out (header_of l) l ≡ true → length l ≤ 24
header_narrow l e =
    let h = header_of l in
    let is = same_of l (header_line h.states h.labels h.transitions h.start) e in
    let (n₁, d₁) = peeled l (column h.labels ++ (column h.transitions ++ column h.start)) is in
    let (n₂, d₂) = peeled (drop 6 l) (column h.transitions ++ column h.start) d₁ in
    let twelve : drop 6 (drop 6 l) ≡ drop 12 l = drop-drop 6 6 l in
    let e₂ : drop 12 l ≡ column h.transitions ++ column h.start = sym twelve ∙ d₂ in
    let (n₃, d₃) = peeled (drop 12 l) (column h.start) e₂ in
    let eighteen : drop 6 (drop 12 l) ≡ drop 18 l = drop-drop 6 12 l in
    let e₃ : drop 18 l ≡ column h.start ++ [] = sym eighteen ∙ d₃ ∙ sym (append-nil (column h.start)) in
    let (n₄, d₄) = peeled (drop 18 l) [] e₃ in
    omega (arith, n₁, ap length d₁, n₂, ap length d₂, ap length twelve, ap length e₂, n₃, ap length d₃, ap length eighteen, ap length e₃, n₄, length-append (column h.start) [])

-- All lines.
end_bounded : (n m : ℕ) (text : List ℕ) (next : Reply Table) → 1 ≤ m → at_end n (take m text) next ≡ at_end n text next
end_bounded n zero text next h = absurd (omega arith)
end_bounded n (suc m) [] next h = refl
end_bounded n (suc m) (b ∷ text) next h = refl

transitions_bounded : (h : Header) (names : List (List ℕ)) (left : ℕ) (steps : List Step) (m : ℕ) (text : List ℕ) → 19 * left + 1 ≤ m
    → read_transitions h names left steps (take m text) ≡ read_transitions h names left steps text
unfolding read_transitions
transitions_bounded h names zero steps m text g = end_bounded _ m text _ (omega arith)
transitions_bounded h names (suc left) steps m text g =
    line_bounded (2 + length names + length steps) 18 m step_laid_out
    (λ l rest. unless (step_in_range h (step_of l)) 2 (2 + length names + length steps)
    (unless (above steps (step_of l)) 4 (2 + length names + length steps) (read_transitions h names left (steps ++ (step_of l ∷ [])) rest)))
    step_narrow (omega arith)
    (λ l rest e. ap (λ r. unless (step_in_range h (step_of l)) 2 (2 + length names + length steps) (unless (above steps (step_of l)) 4 (2 + length names + length steps) r))
    (transitions_bounded h names left (steps ++ (step_of l ∷ [])) (m - suc (length l)) rest (omega (arith, step_narrow l e))))
    text

labels_bounded : (h : Header) → h.transitions ≤ most_transitions → (left : ℕ) (names : List (List ℕ)) (m : ℕ) (text : List ℕ) → 21 * left + 19457 ≤ m
    → read_labels h left names (take m text) ≡ read_labels h left names text
unfolding read_labels_with
labels_bounded h few zero names m text g = transitions_bounded h names h.transitions [] m text (omega arith)
labels_bounded h few (suc left) names m text g =
    line_bounded (2 + length names) 20 m label_laid_out
    (λ l rest. unless (eqb (value_at 0 l) (suc (length names))) 2 (2 + length names) (unless (not (used names (drop 7 l))) 3 (2 + length names) (read_labels h left (names ++ (drop 7 l ∷ [])) rest)))
    label_narrow (omega arith)
    (λ l rest e. ap (λ r. unless (eqb (value_at 0 l) (suc (length names))) 2 (2 + length names) (unless (not (used names (drop 7 l))) 3 (2 + length names) r))
    (labels_bounded h few left (names ++ (drop 7 l ∷ [])) (m - suc (length l)) rest (omega (arith, label_narrow l e))))
    text

pub reading_bounded : (m : ℕ) (text : List ℕ) → enough_table_text ≤ m → read_table (take m text) ≡ read_table text
unfolding read_table_with
reading_bounded m text g =
    line_bounded 1 24 m (λ l. header_laid_out (header_of l) l) (λ l rest. unless (header_in_range (header_of l)) 2 1 (read_labels (header_of l) (header_of l).labels [] rest))
    header_narrow (omega arith) (λ l rest e. ranged l rest e (header_in_range (header_of l)) refl) text
  where
    ranged : (l rest : List ℕ) → header_laid_out (header_of l) l ≡ true → (b : Bool) → header_in_range (header_of l) ≡ b
        → unless b 2 1 (read_labels (header_of l) (header_of l).labels [] (take (m - suc (length l)) rest)) ≡ unless b 2 1 (read_labels (header_of l) (header_of l).labels [] rest)
    ranged l rest e true d =
        let c = counts_of (header_of l) d in
        labels_bounded (header_of l) c.few_transitions (header_of l).labels [] (m - suc (length l)) rest (omega (arith, header_narrow l e, c.few_labels))
    ranged l rest e false d = refl
