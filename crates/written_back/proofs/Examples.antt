-- Worked examples of a formula's text, over small tables of label names: what a line is read to, and what is written for it.
use mathlib.Core.Path.{◌≡◌, refl}
use mathlib.Core.Bool.{true}
use mathlib.Core.List.{List, [], ◌∷◌, ◌++◌, map}
use mathlib.Core.Option.{some}
use Prim.Native.Nat.{ℕ, zero, suc}
use Prim.Native.String.{String}
use Rattle.columns.specs.Ascii.{ascii}
use Rattle.lts.specs.Lists.{every}
use Rattle.lts.specs.Names.{is_name, find_from, lookup}
use Rattle.lts.specs.Steps.{silent as isSilent}
use Rattle.lts.specs.Reply.{accepted, refusal}
use Rattle.lts.specs.inner.Lists.{up_from}
use Rattle.actl.specs.Actions.{mask_of, in_set, silent, labels}
use Rattle.actl.specs.Formulas.{Formula, tru, not, or, ex, ax, eu, eu_then, class_of, highest_without_class}
use Rattle.actl.specs.Reading.{with_classes}
use Rattle.actl.specs.inner.Reading.{read_unlimited}
use Rattle.written_back.specs.Brackets.{outside, ampersands}
use Rattle.written_back.specs.FormulaText.{set_text, formula_text}
use Rattle.written_back.specs.FormulaWriting.{unless_long}

-- Over the names N the formula F has this text.
abbrev Writes : List (List ℕ) → Formula → String → Type 0
Writes N F text = formula_text N F ≡ ascii text

-- A line is read to F, F has this text, and the text is read to F again.
abbrev Reads : List (List ℕ) → String → Formula → String → Type 0
Reads N line F text = (read_unlimited N (ascii line) ≡ accepted F) × Writes N F text × (read_unlimited N (ascii text) ≡ accepted F)

-- The tables' label names: none, one, two, four, and three with marks. Label 1 is bit 1 of a mask.
abbrev no_names : List (List ℕ)
no_names = []

abbrev one_name : List (List ℕ)
one_name = ascii "a" ∷ []

abbrev two_names : List (List ℕ)
two_names = ascii "ack" ∷ ascii "req" ∷ []

abbrev four_names : List (List ℕ)
four_names = ascii "a" ∷ ascii "b" ∷ ascii "c" ∷ ascii "d" ∷ []

abbrev marked_names : List (List ℕ)
marked_names = ascii "a!" ∷ ascii "b?" ∷ ascii "c" ∷ []

-- Sets: `*` for all labels, be it one by its name, or none at all; `~*` for the empty set.
only-label : Reads one_name "EX[a] T" (ex (labels 2) tru) "EX[*] T"
unfolding find_from mask_of class_of highest_without_class formula_text set_text in_set isSilent
only-label = (refl, refl, refl)

all-labels : Reads four_names "EX[d|c|b|a] T" (ex (labels 30) tru) "EX[*] T"
unfolding find_from mask_of class_of highest_without_class formula_text set_text in_set isSilent
all-labels = (refl, refl, refl)

no_label : Reads one_name "AX[~a] T" (ax (labels 0) tru) "AX[~*] T"
unfolding find_from mask_of class_of highest_without_class formula_text set_text in_set isSilent
no_label = (refl, refl, refl)

of-no-labels : Reads no_names "EX[~*] T" (ex (labels 0) tru) "EX[*] T"
unfolding find_from mask_of class_of highest_without_class formula_text set_text in_set isSilent
of-no-labels = (refl, refl, refl)

-- By rising number, with the bars between them only.
by_number : Reads four_names "AX [ d | b ] T" (ax (labels 20) tru) "AX[b|d] T"
unfolding find_from mask_of class_of highest_without_class formula_text set_text in_set isSilent
by_number = (refl, refl, refl)

-- `?` and `!` come back as names.
received_labels : Reads marked_names "EX[?] T" (ex (labels 4) tru) "EX[b?] T"
unfolding find_from mask_of class_of highest_without_class formula_text set_text in_set isSilent
received_labels = (refl, refl, refl)

sent_and-others : Reads marked_names "EU[!;~!] T" (eu_then 2 12 tru) "EU[a!;b?|c] T"
unfolding find_from mask_of class_of highest_without_class formula_text set_text in_set isSilent
sent_and-others = (refl, refl, refl)

silent-step : Reads two_names "AX[.]T" (ax silent tru) "AX[.] T"
unfolding find_from mask_of class_of highest_without_class formula_text set_text in_set isSilent
silent-step = (refl, refl, refl)

-- `&` and the short forms come back in the base notation.
box_of_ack : Reads two_names "BOX[ack] ~T" (not (ex (labels 2) (not (not tru)))) "~EX[ack] ~~T"
unfolding find_from mask_of class_of highest_without_class formula_text set_text in_set isSilent
box_of_ack = (refl, refl, refl)

diamond : Reads two_names "DIA[req] T" (ex (labels 4) tru) "EX[req] T"
unfolding find_from mask_of class_of highest_without_class formula_text set_text in_set isSilent
diamond = (refl, refl, refl)

at_last : Reads two_names "EF EX[ack] T" (eu 6 (ex (labels 2) tru)) "EU[*] EX[ack] T"
unfolding find_from mask_of class_of highest_without_class formula_text set_text in_set isSilent
at_last = (refl, refl, refl)

always : Reads two_names "AG ~T" (not (eu 6 (not (not tru)))) "~EU[*] ~~T"
unfolding find_from mask_of class_of highest_without_class formula_text set_text in_set isSilent
always = (refl, refl, refl)

both : Reads two_names "~T & AX[req] T" (not (or (not (not tru)) (not (ax (labels 4) tru)))) "~(~~T|~AX[req] T)"
unfolding find_from mask_of class_of highest_without_class formula_text set_text in_set isSilent
both = (refl, refl, refl)

-- `|` groups from the left: a left arm has no brackets, a right arm that is a `|` keeps its pair.
from_the_left : Reads no_names "((T) | T) | T" (or (or tru tru) tru) "T|T|T"
unfolding find_from mask_of class_of highest_without_class formula_text set_text in_set isSilent
from_the_left = (refl, refl, refl)

right_arm : Reads no_names "T | (T | T)" (or tru (or tru tru)) "T|(T|T)"
unfolding find_from mask_of class_of highest_without_class formula_text set_text in_set isSilent
right_arm = (refl, refl, refl)

-- Below `~`, EX, AX and EU a `|` has its pair, and nothing else has one.
below-not : Reads no_names "~((T | T))" (not (or tru tru)) "~(T|T)"
unfolding find_from mask_of class_of highest_without_class formula_text set_text in_set isSilent
below-not = (refl, refl, refl)

below_a_keyword : Reads no_names "EX[.](T | T)" (ex silent (or tru tru)) "EX[.] (T|T)"
unfolding find_from mask_of class_of highest_without_class formula_text set_text in_set isSilent
below_a_keyword = (refl, refl, refl)

beside_a_bar : Reads no_names "(EX[.] (T)) | (~(~T))" (or (ex silent tru) (not (not tru))) "EX[.] T|~~T"
unfolding find_from mask_of class_of highest_without_class formula_text set_text in_set isSilent
beside_a_bar = (refl, refl, refl)

-- One blank stands after each `]`, whatever follows: `T`, a keyword, `~` or a bracket.
blank_before-not : Reads two_names "EU[*;~*]~~T" (eu_then 6 0 (not (not tru))) "EU[*;~*] ~~T"
unfolding find_from mask_of class_of highest_without_class formula_text set_text in_set isSilent
blank_before-not = (refl, refl, refl)

blank_before_a_keyword : Reads two_names "EU[ack]EX[req]T" (eu 2 (ex (labels 4) tru)) "EU[ack] EX[req] T"
unfolding find_from mask_of class_of highest_without_class formula_text set_text in_set isSilent
blank_before_a_keyword = (refl, refl, refl)

blank_before_a_bracket : Reads two_names "EU[ack](T|T)" (eu 2 (or tru tru)) "EU[ack] (T|T)"
unfolding find_from mask_of class_of highest_without_class formula_text set_text in_set isSilent
blank_before_a_bracket = (refl, refl, refl)

-- A formula has its text even if no reading gives it: here the root has no class.
without_class : Writes two_names (eu_then 6 0 (not tru)) "EU[*;~*] ~T"
unfolding formula_text set_text in_set isSilent
without_class = refl

-- What is counted in a text: brackets in a set are not, and an `&` stands for the pair that its text in the base notation has.
in_a_set : (outside (ascii "EX[~(a|b)] (T|T) & (T)") ≡ 2) × (ampersands (ascii "EX[~(a|b)] (T|T) & (T)") ≡ 1)
in_a_set = (refl, refl)

for_an_and : (outside (ascii "T & T") ≡ 0) × (ampersands (ascii "T & T") ≡ 1) × (outside (ascii "~(~T|~T)") ≡ 1)
for_an_and = (refl, refl, refl)

-- However long, the needed length is exact: forty names of 13 bytes, and 39 nodes EU, each with two sets of all labels but the first.
abbrev long_name : ℕ → ℕ → List ℕ
long_name mark letter = ascii "labelnumber" ++ (letter ∷ mark ∷ [])

abbrev long_names : List (List ℕ)
long_names = map (long_name 33) (up_from 97 20) ++ map (long_name 63) (up_from 97 20)

abbrev nested : ℕ → Formula
nested zero = tru
nested (suc n) = eu_then 2199023255548 2199023255548 (nested n)

needed_length : unless_long (formula_text long_names (nested 39)) ≡ refusal 15 42745
unfolding formula_text set_text in_set isSilent
needed_length = refl

-- A table may have these names, which differ, and a prepared formula may be this one.
long_but_possible : (every is_name long_names ≡ true) × (map (lookup long_names) long_names ≡ map some (up_from 1 40))
    × (with_classes (nested 39) ≡ accepted (nested 39))
unfolding find_from class_of highest_without_class
long_but_possible = (refl, refl, refl)
