-- Reading is what the grammar says, and nothing else is: no definition of the reader is needed to believe its answers.
use mathlib.Core.Path.{◌≡◌, refl, sym, ap, ◌∙◌, subst}
use mathlib.Core.Logic.{◌↔◌}
use mathlib.Core.Bool.{Bool, true, false}
use mathlib.Core.List.{List}
use mathlib.Core.Option.{Option, none, some}
use Prim.Native.Nat.{ℕ, ◌-◌, ◌≤◌, ◌<◌}
use native.Mathlib.Omega.{arith}
use lib.Dec.{leb}
use lib.ListN.{length}
use borrow.Author.Tests.{leb-true, leb-false, le-leb, lt-leb}
use Rattle.actl.specs.Sizes.{formula_length, longest_text}
use Rattle.lts.specs.Sizes.{table_length}
use Rattle.lts.specs.Reply.{Reply, accepted, refusal, unless}
use Rattle.lts.specs.Steps.{Table}
use Rattle.lts.specs.Marks.{Marks, marked}
use Rattle.lts.specs.inner.Prepared.{prepared_table}
use Rattle.lts.proofs.Laws.Refusals.{Between, numbered_of, same-refusal, unless-refused, answers-refused}
use Rattle.actl.specs.Formulas.{Formula}
use Rattle.actl.specs.Grammatical.{Grammatical, Longest}
use Rattle.actl.specs.inner.Reader.{Result, whole, refused, read}
use Rattle.actl.specs.Reading.{on_tree}
use Rattle.actl.specs.inner.Reading.{on_result, read_formula}
use Rattle.actl.specs.FormulaReading.{on_table, formula_reading, formula_replied, formula_left}
use Rattle.lts.specs.Prepared.{with_table}
use Rattle.actl.specs.ByGrammar.{ReadBy, long, ungrammatical, grammatical, FormulaByGrammar}
use Rattle.actl.proofs.Grammar.{read-text, read-refused, refused-text}
use Rattle.actl.proofs.Pieces.{text_shown, on_mentions_lem}
use Rattle.actl.proofs.Laws.Refusals.{tree-numbers}
use Rattle.actl.proofs.Laws.Replies.{refusal-is-not-accepted, long-enough-accepted, accepted-answer}

-- There is one longest beginning.
pub one-longest : (g : Marks) (text : List ℕ) (m n : ℕ) → Longest g text m → Longest g text n → m ≡ n
one-longest g text m n h k =
    let a = k.most m h.within h.begins in
    let b = h.most n k.within k.begins in
    omega arith

module _ (names : List (List ℕ)) (text : List ℕ) where
  result_by : length text ≤ longest_text → (x : Result) → read text ≡ x → ReadBy marked names text (on_result names text x)
  result_by h (refused rest) e = ungrammatical h (λ p. refused-text text rest p.0 e (text_shown p.0 p.1)) (length text - length rest) (read-refused text rest e) refl
  result_by h (whole f) e = grammatical h f ((read-text text f).0 e) (on_mentions_lem names f)

  pub reading-is_by : ReadBy marked names text (read_formula names text)
  unfolding read_formula
  reading-is_by = case (leb (length text) longest_text) refl
    where
      case : (b : Bool) → leb (length text) longest_text ≡ b → ReadBy marked names text (unless b 5 (length text) (on_result names text (read text)))
      case true e = result_by (leb-true (length text) longest_text e) (read text) refl
      case false e = long (leb-false (length text) longest_text e) refl

  short-read : length text ≤ longest_text → read_formula names text ≡ on_result names text (read text)
  unfolding read_formula
  short-read h = ap (λ b. unless b 5 (length text) (on_result names text (read text))) (le-leb (length text) longest_text h)

  long-read : longest_text < length text → read_formula names text ≡ refusal 5 (length text)
  unfolding read_formula
  long-read h = ap (λ b. unless b 5 (length text) (on_result names text (read text))) (lt-leb (length text) longest_text h)

  refused-longest : (n : ℕ) → (Grammatical marked text → ⊥) → Longest marked text n → (x : Result) → read text ≡ x → on_result names text x ≡ refusal 6 n
  refused-longest n h l (refused rest) e = ap (refusal 6) (one-longest marked text (length text - length rest) n (read-refused text rest e) l)
  refused-longest n h l (whole f) e = absurd (h (f, (read-text text f).0 e))

  by_is-reading : (r : Reply Formula) → ReadBy marked names text r → read_formula names text ≡ r
  by_is-reading r (long h e) = long-read h ∙ sym e
  by_is-reading r (ungrammatical h g n l e) = short-read h ∙ (refused-longest n g l (read text) refl ∙ sym e)
  by_is-reading r (grammatical h f p e) = short-read h ∙ (ap (on_result names text) ((read-text text f).1 p) ∙ (on_mentions_lem names f ∙ sym e))

  -- The answer is r exactly if the grammar says so.
  pub reading_by_grammar : (r : Reply Formula) → (read_formula names text ≡ r) ↔ ReadBy marked names text r
  reading_by_grammar r = (λ e. subst (ReadBy marked names text) e reading-is_by, by_is-reading r)

-- What an answer says of the text.
module _ (names : List (List ℕ)) (text : List ℕ) where
  by_length : (n : ℕ) → ReadBy marked names text (refusal 5 n) → (longest_text < length text) × (n ≡ length text)
  by_length n (long h e) = (h, (same-refusal e).1)
  by_length n (ungrammatical h g m l e) = let z : ◌≡◌ {A = ℕ} 5 6 = (same-refusal e).0 in absurd (omega arith)
  by_length n (grammatical h f p e) = let z = numbered_of (Between 7 9) (on_tree names f) 5 n (tree-numbers names f) (sym e) in absurd (omega (arith, z.0))

  by_longest : (n : ℕ) → ReadBy marked names text (refusal 6 n) → Longest marked text n × (Grammatical marked text → ⊥)
  by_longest n (long h e) = let z : ◌≡◌ {A = ℕ} 6 5 = (same-refusal e).0 in absurd (omega arith)
  by_longest n (ungrammatical h g m l e) = (subst (Longest marked text) (sym (same-refusal e).1) l, g)
  by_longest n (grammatical h f p e) = let z = numbered_of (Between 7 9) (on_tree names f) 6 n (tree-numbers names f) (sym e) in absurd (omega (arith, z.0))

  by_grammatical : (k g : ℕ) → 7 ≤ k → ReadBy marked names text (refusal k g) → (length text ≤ longest_text) × Grammatical marked text
  by_grammatical k g w (long h e) = let z : k ≡ 5 = (same-refusal e).0 in absurd (omega arith)
  by_grammatical k g w (ungrammatical h _ m l e) = let z : k ≡ 6 = (same-refusal e).0 in absurd (omega arith)
  by_grammatical k g w (grammatical h f p e) = (h, (f, p))

  by_accepted-grammatical : (F : Formula) → ReadBy marked names text (accepted F) → (length text ≤ longest_text) × Grammatical marked text
  by_accepted-grammatical F (long h e) = let z : ◌≡◌ {A = ℕ} 0 1 = cc in absurd (omega arith)
  by_accepted-grammatical F (ungrammatical h g m l e) = let z : ◌≡◌ {A = ℕ} 0 1 = cc in absurd (omega arith)
  by_accepted-grammatical F (grammatical h f p e) = (h, (f, p))

  -- 5: "formula over 512 bytes": "its length"
  pub reading-length : (n : ℕ) → read_formula names text ≡ refusal 5 n → (longest_text < length text) × (n ≡ length text)
  reading-length n e = by_length n ((reading_by_grammar names text (refusal 5 n)).0 e)

  -- 6: "length of the longest beginning that some grammatical text, of any length, has"
  pub reading-longest : (n : ℕ) → read_formula names text ≡ refusal 6 n → Longest marked text n × (Grammatical marked text → ⊥)
  reading-longest n e = by_longest n ((reading_by_grammar names text (refusal 6 n)).0 e)

  -- 7, 8, 9, and acceptance.
  pub reading-grammatical : (k g : ℕ) → 7 ≤ k → read_formula names text ≡ refusal k g → (length text ≤ longest_text) × Grammatical marked text
  reading-grammatical k g w e = by_grammatical k g w ((reading_by_grammar names text (refusal k g)).0 e)

  pub reading-accepted-grammatical : (F : Formula) → read_formula names text ≡ accepted F → (length text ≤ longest_text) × Grammatical marked text
  reading-accepted-grammatical F e = by_accepted-grammatical F ((reading_by_grammar names text (accepted F)).0 e)

-- The entry.
pub formula_by_grammar : (table text buffer : List ℕ) {r : Reply (Unit {0})} {left : List ℕ} → r ≡ formula_replied table text buffer → left ≡ formula_left table text buffer
    → FormulaByGrammar table text buffer r left
unfolding formula_reading
formula_by_grammar table text buffer e d = record { reading = λ t. read_formula t.names text; by_grammar = λ t. reading-is_by t.names text; replies = e; leaves = d }

module _ {A : Type 0} (k g : ℕ) where
  table-refused : (o : Option Table) (next : Table → Reply A) → (k ≡ 10 → ⊥) → with_table o next ≡ refusal k g → (t : Table) × (next t ≡ refusal k g)
  table-refused none next h e = absurd (h (sym (same-refusal e).0))
  table-refused (some t) next h e = (t, e)

  on-table-refused : (table buffer : List ℕ) (next : Table → Reply A) → (k ≡ 14 → ⊥) → (k ≡ 10 → ⊥) → on_table table buffer next ≡ refusal k g → (t : Table) × (next t ≡ refusal k g)
  on-table-refused table buffer next h i e =
      table-refused (prepared_table table) next i
      (unless-refused k g (leb formula_length (length buffer)) 14 formula_length (with_table (prepared_table table) next) h
      (unless-refused k g (leb table_length (length table)) 14 table_length (unless (leb formula_length (length buffer)) 14 formula_length (with_table (prepared_table table) next)) h e).1).1

table-accepted : {A : Type 0} (o : Option Table) (next : Table → Reply A) (a : A) → with_table o next ≡ accepted a → (t : Table) × (next t ≡ accepted a)
table-accepted none next a e = absurd (refusal-is-not-accepted e)
table-accepted (some t) next a e = (t, e)

module _ (table text buffer : List ℕ) {r : Reply (Unit {0})} {left : List ℕ} (h : FormulaByGrammar table text buffer r left) where
  text-refused : (k g : ℕ) → (k ≡ 14 → ⊥) → (k ≡ 10 → ⊥) → r ≡ refusal k g → (t : Table) × ReadBy marked t.names text (refusal k g)
  text-refused k g i j e =
      let (t, d) = on-table-refused k g table buffer h.reading i j ((answers-refused (λ F. tt) (on_table table buffer h.reading) k g).0 (sym h.replies ∙ e)) in
      (t, subst (ReadBy marked t.names text) d (h.by_grammar t))

  -- 5, 6, as above.
  pub replied_length : (n : ℕ) → r ≡ refusal 5 n → (longest_text < length text) × (n ≡ length text)
  replied_length n e = let (t, d) = text-refused 5 n (λ z. omega arith) (λ z. omega arith) e in by_length t.names text n d

  pub replied_longest : (n : ℕ) → r ≡ refusal 6 n → Longest marked text n × (Grammatical marked text → ⊥)
  replied_longest n e = let (t, d) = text-refused 6 n (λ z. omega arith) (λ z. omega arith) e in by_longest t.names text n d

  -- 7, 8, 9, and acceptance.
  pub replied_grammatical : (k g : ℕ) → 7 ≤ k → k ≤ 9 → r ≡ refusal k g → (length text ≤ longest_text) × Grammatical marked text
  replied_grammatical k g l m e = let (t, d) = text-refused k g (λ z. omega arith) (λ z. omega arith) e in by_grammatical t.names text k g l d

  pub replied_accepted-grammatical : r ≡ accepted tt → (length text ≤ longest_text) × Grammatical marked text
  replied_accepted-grammatical e =
      let (F, d) = accepted-answer (λ F. tt) (on_table table buffer h.reading) (sym h.replies ∙ e) in
      let (t, c) = table-accepted (prepared_table table) h.reading F (long-enough-accepted table buffer (with_table (prepared_table table) h.reading) d) in
      by_accepted-grammatical t.names text F (subst (ReadBy marked t.names text) c (h.by_grammar t))
