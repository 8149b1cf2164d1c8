-- What the functions of this crate say of a reply: its number and its figure.
use Rattle.std.specs.Prelude.{◌≡◌, ℕ}
use Rattle.lts.specs.Reply.{Reply}
use Rattle.replies.specs.declared.Answer.{Answer}
use Rattle.replies.specs.Interface.{figure_in, number_in}

pub record Says {A : Type 0} (value : A → ℕ) (reply : Reply A) (a : Answer) : Type 0 where
  pub number_said : a.number ≡ number_in reply
  pub figure_said : a.figure ≡ figure_in value reply
