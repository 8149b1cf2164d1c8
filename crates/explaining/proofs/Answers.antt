-- The number and the figure of a reply, and a value that only an accepted call writes, are those of what the reply equals.
use mathlib.Core.Path.{◌≡◌, sym, ap, ◌∙◌, subst}
use Prim.Native.Nat.{ℕ}
use Rattle.std.proofs.Common.{Result, Ok, Err, MatchResult}
use Rattle.lts.specs.Reply.{Reply, accepted, refusal}
use Rattle.replies.specs.Interface.{number_in, figure_in, kept_in}
use Rattle.replies.specs.inner.Says.{Says}
use Rattle.replies.specs.declared.Answer.{Answer}
use Rattle.explaining.specs.inner.Answered.{Answered}

module _ {A : Type 0} {x y : Reply A} where
  pub said_of : {value : A → ℕ} {a : Answer} → Says value x a → x ≡ y → Says value y a
  said_of {value} {a} s e = record { number_said = s.number_said ∙ ap number_in e; figure_said = s.figure_said ∙ ap (figure_in value) e }

  pub kept_of : (value : A → ℕ) (before : ℕ) {after : ℕ} → after ≡ kept_in value before x → x ≡ y → after ≡ kept_in value before y
  kept_of value before k e = k ∙ ap (kept_in value before) e

-- An answer whose number is not 0 is that of a refusal.
pub refused_so_lem : {A : Type 0} {value : A → ℕ} {a : Answer} (x : Reply A) → Says value x a → (a.number ≡ 0 → ⊥) → x ≡ refusal a.number a.figure
refused_so_lem (accepted u) s h = absurd (h s.number_said)
refused_so_lem (refusal n g) s h = λ i. refusal (sym s.number_said i) (sym s.figure_said i)

pub refused-number : {a b : Answer} → b ≡ a → (a.number ≡ 0 → ⊥) → b.number ≡ 0 → ⊥
refused-number e h z = h (ap (λ (x : Answer). x.number) (sym e) ∙ z)

-- What `accepted` makes of an answer says what the answer does.
pub answered : (P : Answer → Type 0) {a : Answer} (r : Result ℕ Answer)
    → MatchResult r (λ figure. (a.number ≡ 0) × (figure ≡ a.figure)) (λ b. (a.number ≡ 0 → ⊥) × (b ≡ a)) → P a → Answered P r
answered P (Ok n) (z, e) p = subst P (λ i. record { number = z i; figure = sym e i }) p
answered P (Err b) (h, e) p = (refused-number e h, subst P (sym e) p)

pub answered_alike : {P Q : Answer → Type 0} → ((a : Answer) → P a → Q a) → (r : Result ℕ Answer) → Answered P r → Answered Q r
answered_alike f (Ok n) p = f _ p
answered_alike f (Err a) (h, p) = (h, f a p)
