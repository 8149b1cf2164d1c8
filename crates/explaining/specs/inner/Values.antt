-- The values that the C function of `explain` writes beside the figure: `explain_values` answers what they hold afterwards.
use Rattle.std.specs.Prelude.{◌≡◌}
use Rattle.lts.specs.Reply.{Reply}
use Rattle.explanations.specs.Explanation.{Summary}
use Rattle.replies.specs.Interface.{kept_in}
use Rattle.explaining.specs.declared.explained.Values.{Values}

pub record ValuesLeft (reply : Reply Summary) (before after : Values) : Type 0 where
  pub verdict_left : after.verdict ≡ kept_in (λ s. s.verdict) before.verdict reply
  pub class_left : after.class ≡ kept_in (λ s. s.class) before.class reply
  pub edges_left_lem : after.edges ≡ kept_in (λ s. s.edges) before.edges reply
