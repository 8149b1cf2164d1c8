-- What an entry says and leaves.
use Rattle.std.specs.Prelude.{Bool, true, false, List, ◌++◌, ℕ, length, drop}

-- Its values, or 01's number and figure of a refusal.
pub data Reply (A : Type 0) : Type 0 where
  accepted : A → Reply A
  refusal : ℕ → ℕ → Reply A

-- Goes on if a test is passed, and else refuses.
abbrev pub unless : {A : Type 0} → Bool → ℕ → ℕ → Reply A → Reply A
unless true number figure next = next
unless false number figure next = refusal number figure

-- A lent buffer with its first bytes written anew: what stood past them stays.
abbrev pub overwritten : List ℕ → List ℕ → List ℕ
overwritten bytes buffer = bytes ++ drop (length bytes) buffer

-- A lent buffer afterwards: written if the call accepted, else as it was.
abbrev pub left_in : {A : Type 0} → (A → List ℕ) → Reply A → List ℕ → List ℕ
left_in bytes (accepted a) buffer = overwritten (bytes a) buffer
left_in bytes (refusal number figure) buffer = buffer

-- A reply that keeps a part of the values.
abbrev pub answers : {A B : Type 0} → (A → B) → Reply A → Reply B
answers f (accepted a) = accepted (f a)
answers f (refusal number figure) = refusal number figure
