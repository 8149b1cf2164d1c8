-- Worked examples: the definitions of formulas, run over the label names of 01's table M.
use mathlib.Core.Path.{◌≡◌, refl}
use mathlib.Core.List.{[], ◌∷◌}
use mathlib.Core.Option.{some}
use Prim.Native.String.{String}
use lib.ListN.{length}
use Rattle.actl.specs.Sizes.{formula_length}
use Rattle.columns.specs.Ascii.{ascii}
use Rattle.lts.specs.Names.{find_from}
use Rattle.lts.specs.Reply.{Reply, accepted, refusal}
use Rattle.actl.specs.Actions.{mask_of, labels}
use Rattle.actl.specs.Formulas.{Formula, tru, or, ax, eu_then, class_of, highest_without_class}
use Rattle.actl.specs.inner.Reading.{read_formula}
use Rattle.actl.specs.Prepared.{formula_bytes}
use Rattle.actl.specs.inner.Prepared.{push, prepared_formula}

abbrev over_m : String → Reply Formula
over_m s = read_formula (ascii "req" ∷ ascii "ack" ∷ []) (ascii s)

-- Labels 1 and 2 are bits 1 and 2 of a mask.
read_whole : over_m "EU[*;ack] T" ≡ accepted (eu_then 6 4 tru)
unfolding read_formula find_from mask_of class_of highest_without_class
read_whole = refl

except_never_silent : over_m "AX[~req] T" ≡ accepted (ax (labels 4) tru)
unfolding read_formula find_from mask_of class_of highest_without_class
except_never_silent = refl

from_the_left : over_m "T | T | T" ≡ accepted (or (or tru tru) tru)
unfolding read_formula find_from mask_of class_of highest_without_class
from_the_left = refl

prepared-formula : prepared_formula 2 (formula_bytes (eu_then 6 4 tru)) ≡ some (eu_then 6 4 tru)
unfolding prepared_formula formula_bytes push class_of
prepared-formula = refl

prepared-length : length (formula_bytes (eu_then 6 4 tru)) ≡ formula_length
unfolding formula_bytes
prepared-length = refl

-- The bench sheet's refusals.
empty_text : over_m "" ≡ refusal 6 0
unfolding read_formula
empty_text = refl

no_bracket : over_m "EX[a T" ≡ refusal 6 5
unfolding read_formula
no_bracket = refl

no_such_name : over_m "EX[a] T" ≡ refusal 7 3
unfolding read_formula find_from
no_such_name = refl

-- Of two names that the table lacks, the first.
first-of-two-names : over_m "EX[b] EX[a] T" ≡ refusal 7 3
unfolding read_formula find_from
first-of-two-names = refl

no-class : over_m "T | ~T" ≡ refusal 9 0
unfolding read_formula find_from class_of highest_without_class
no-class = refl

no-class-within : over_m "~EX[req] ~T" ≡ refusal 9 1
unfolding read_formula find_from mask_of class_of highest_without_class
no-class-within = refl

-- A blank first, a blank last, a name of thirteen letters, a blank inside a keyword.
blank_first : over_m " T" ≡ refusal 6 0
unfolding read_formula
blank_first = refl

blank_last : over_m "T " ≡ refusal 6 2
unfolding read_formula
blank_last = refl

long-name : over_m "EX[abcdefghijklm] T" ≡ refusal 6 15
unfolding read_formula
long-name = refl

blank_inside : over_m "E X[req] T" ≡ refusal 6 1
unfolding read_formula
blank_inside = refl

-- The grammar is judged before names.
grammar_before-names : over_m "EX[a] T)" ≡ refusal 6 7
unfolding read_formula find_from
grammar_before-names = refl

-- 02: over labels `clamp?`, `clamp!`, `clamp` and `req`, which are bits 1 to 4.
abbrev over_clamp : String → Reply Formula
over_clamp s = read_formula (ascii "clamp?" ∷ ascii "clamp!" ∷ ascii "clamp" ∷ ascii "req" ∷ []) (ascii s)

three_names : over_clamp "EU[clamp?|clamp;clamp!] T" ≡ accepted (eu_then 10 4 tru)
unfolding read_formula find_from mask_of class_of highest_without_class
three_names = refl

received_and_sent : over_clamp "EU[?;!] T" ≡ accepted (eu_then 2 4 tru)
unfolding read_formula find_from mask_of class_of highest_without_class
received_and_sent = refl

not_received : over_clamp "AX[~?] T" ≡ accepted (ax (labels 28) tru)
unfolding read_formula find_from mask_of class_of highest_without_class
not_received = refl

beside-names : over_clamp "EU[(? | req);~(!)] T" ≡ accepted (eu_then 18 26 tru)
unfolding read_formula find_from mask_of class_of highest_without_class
beside-names = refl

no-label_received : over_m "EU[?;~!] T" ≡ accepted (eu_then 0 6 tru)
unfolding read_formula find_from mask_of class_of highest_without_class
no-label_received = refl

-- A mark stands right behind its name, which is then over.
mark-behind_a_blank : over_clamp "EX[req ?] T" ≡ refusal 6 7
unfolding read_formula find_from
mark-behind_a_blank = refl

letter_behind_a_mark : over_clamp "EX[req?a" ≡ refusal 6 7
unfolding read_formula find_from
letter_behind_a_mark = refl

two-marks : over_clamp "EX[clamp??" ≡ refusal 6 9
unfolding read_formula find_from
two-marks = refl

other-mark-behind_a_mark : over_clamp "EX[clamp?!" ≡ refusal 6 9
unfolding read_formula find_from
other-mark-behind_a_mark = refl

thirteen_letters-and_a_mark : over_clamp "EX[abcdefghijklm?" ≡ refusal 6 15
unfolding read_formula find_from
thirteen_letters-and_a_mark = refl

twelve_letters-and_a_mark : over_clamp "EX[abcdefghijkl?" ≡ refusal 6 16
unfolding read_formula find_from
twelve_letters-and_a_mark = refl

letter_behind_an_operand : over_clamp "EX[?a" ≡ refusal 6 4
unfolding read_formula find_from
letter_behind_an_operand = refl

two_operands : over_clamp "EX[??" ≡ refusal 6 4
unfolding read_formula find_from
two_operands = refl

letter_behind_a_blank : over_clamp "EX[? a" ≡ refusal 6 5
unfolding read_formula find_from
letter_behind_a_blank = refl

beside_the_silent-step : over_clamp "EX[.|?] T" ≡ refusal 6 4
unfolding read_formula find_from
beside_the_silent-step = refl

silent-step-behind_an_operand : over_clamp "EX[?|.] T" ≡ refusal 6 5
unfolding read_formula find_from
silent-step-behind_an_operand = refl

-- The whole name is looked up.
known_by_another_mark : over_clamp "EX[req!] T" ≡ refusal 7 3
unfolding read_formula find_from
known_by_another_mark = refl
