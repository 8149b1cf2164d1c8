-- What `explain` promises: demand 1, the reply and every lent byte afterwards, by an equation each; what 6 means; demands 2 and 3 of what it read,
-- answered and left.
use Rattle.std.specs.Prelude.{◌≡◌, List, ℕ, Result}
use Rattle.lts.specs.Reply.{refusal}
use Rattle.lts.specs.Marks.{marked}
use Rattle.actl.specs.Grammatical.{Grammatical, Longest}
use Rattle.explanations.specs.InOneCall.{FromTexts}
use Rattle.explanations.specs.Explanation.{explaining}
use Rattle.explaining.specs.Replies.{explain_reply}
use Rattle.explaining.specs.Outcome.{Outcome}
use Rattle.explaining.specs.declared.explained.Explained.{Explained}
use Rattle.replies.specs.declared.Answer.{Answer}

-- The texts; what is lent, before and after; the reply.
pub record Promise (table_text formula_text table table' formula formula' rows rows' edges edges' : List ℕ) (r : Result Explained Answer) : Type 0 where
  pub outcome : Outcome (explaining table_text formula_text table formula rows edges) r table table' formula formula' rows rows' edges edges'
  -- 01: "formula not in the grammar": "length of the longest beginning that some grammatical text, of any length, has"
  pub longest : (n : ℕ) → explain_reply r ≡ refusal 6 n → Longest marked formula_text n × (Grammatical marked formula_text → ⊥)
  pub demands : FromTexts table_text formula_text (explain_reply r) table' formula' rows' edges'
