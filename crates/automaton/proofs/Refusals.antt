-- Building and asking for a word refuse with 10 exactly foreign bytes; behind them building with 11 and 12, words with 13.
use mathlib.Core.List.{List}
use Prim.Native.Nat.{ℕ, ◌/◌}
use native.Mathlib.Omega.{arith}
use lib.Dec.{leb}
use lib.ListN.{length}
use Rattle.lts.specs.Reply.{accepted}
use Rattle.lts.specs.Steps.{labels}
use Rattle.lts.proofs.Laws.Refusals.{Numbered, Between, numbered-unless, numbered_so}
use Rattle.actl.specs.Foreign.{RefusesForeign}
use Rattle.actl.specs.Reading.{unless_found}
use Rattle.actl.proofs.Laws.Refusals.{numbered-found}
use Rattle.actl.proofs.Laws.Foreign.{NotTen, refuses_foreign, answers_refuse_foreign}
use Rattle.automaton.specs.Listing.{Listing}
use Rattle.automaton.specs.inner.Search.{listing}
use Rattle.automaton.specs.Bytes.{row_length, edge_length, bit_of}
use Rattle.automaton.specs.Build.{fitted, built, counts, build_replied}
use Rattle.automaton.specs.inner.Words.{accepts}
use Rattle.automaton.specs.WordAsked.{bad_letter, word_replied}

pub fitted-numbers : (L : Listing) (rows edges : List ℕ) → Numbered (Between 11 12) (fitted L rows edges)
fitted-numbers L rows edges =
    numbered-unless (Between 11 12) (leb (length L.rows) (length rows / row_length)) 11 _ _ (omega arith, omega arith)
    (numbered-unless (Between 11 12) (leb (length L.edges) (length edges / edge_length)) 12 _ _ (omega arith, omega arith) tt)

pub build_refuses_foreign : (table formula rows edges : List ℕ) → RefusesForeign table formula (build_replied table formula rows edges)
unfolding built
build_refuses_foreign table formula rows edges =
    answers_refuse_foreign table formula counts (built table formula rows edges)
    (refuses_foreign table formula (λ t F. fitted (listing t F) rows edges)
    (λ t F. numbered_so (Between 11 12) NotTen (λ n h e. omega (arith, h.0)) (fitted (listing t F) rows edges) (fitted-numbers (listing t F) rows edges)))

pub word_refuses_foreign : (table formula word : List ℕ) → RefusesForeign table formula (word_replied table formula word)
unfolding word_replied
word_refuses_foreign table formula word =
    refuses_foreign table formula (λ t F. unless_found (bad_letter (labels t) word) 13 (accepted (bit_of (accepts t F word))))
    (λ t F. numbered-found NotTen (bad_letter (labels t) word) 13 (accepted (bit_of (accepts t F word))) (λ e. omega arith) tt)
