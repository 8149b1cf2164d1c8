-- Worked examples of 02's `&` and short forms: the definitions, run over the label names of 01's table M.
use mathlib.Core.Path.{◌≡◌, refl}
use mathlib.Core.List.{List, [], ◌∷◌}
use Prim.Native.Nat.{ℕ, zero, suc}
use Prim.Native.String.{String}
use Rattle.columns.specs.Ascii.{ascii}
use Rattle.lts.specs.Names.{find_from}
use Rattle.lts.specs.Reply.{Reply, accepted, refusal}
use Rattle.actl.specs.Actions.{mask_of, silent, labels}
use Rattle.actl.specs.Formulas.{Formula, tru, not, or, ex, ax, eu, class_of, highest_without_class}
use Rattle.actl.specs.inner.Reading.{read_formula}

abbrev over_m : String → Reply Formula
over_m s = read_formula (ascii "req" ∷ ascii "ack" ∷ []) (ascii s)

-- 02: "`AG x` is `~EF ~x`", "`BOX[A] x` is `~EX[A] ~x`", "`EF x` is `EU[*] x`", "`DIA[A] x` is `EX[A] x`", "`x & y` is `~(~x | ~y)`"
always_no_ack : over_m "AG ~EX[ack] T" ≡ accepted (not (eu 6 (not (not (ex (labels 4) tru)))))
unfolding read_formula find_from mask_of class_of highest_without_class
always_no_ack = refl

after_each_req : over_m "BOX[req] ~EX[ack] T" ≡ accepted (not (ex (labels 2) (not (not (ex (labels 4) tru)))))
unfolding read_formula find_from mask_of class_of highest_without_class
after_each_req = refl

at-last_ack : over_m "EF DIA[ack] T" ≡ accepted (eu 6 (ex (labels 4) tru))
unfolding read_formula find_from mask_of class_of highest_without_class
at-last_ack = refl

req_and-no_ack : over_m "AX[req] T & ~EX[ack] T" ≡ accepted (not (or (not (ax (labels 2) tru)) (not (not (ex (labels 4) tru)))))
unfolding read_formula find_from mask_of class_of highest_without_class
req_and-no_ack = refl

-- From the left; the prefix forms bind tightest, then `&`. No blank is needed behind a keyword.
three_joined : over_m "AX[req]T & ~T & AX[ack]T" ≡ accepted (not (or (not (not (or (not (ax (labels 2) tru)) (not (not tru))))) (not (ax (labels 4) tru))))
unfolding read_formula find_from mask_of class_of highest_without_class
three_joined = refl

prefix_first : over_m "AG ~T & ~T" ≡ accepted (not (or (not (not (eu 6 (not (not tru))))) (not (not tru))))
unfolding read_formula find_from mask_of class_of highest_without_class
prefix_first = refl

in_brackets : over_m "AG (~T & ~T)" ≡ accepted (not (eu 6 (not (not (or (not (not tru)) (not (not tru)))))))
unfolding read_formula find_from mask_of class_of highest_without_class
in_brackets = refl

no-blanks : over_m "EFEX[req]DIA[ack]EFT" ≡ accepted (eu 6 (ex (labels 2) (ex (labels 4) (eu 6 tru))))
unfolding read_formula find_from mask_of class_of highest_without_class
no-blanks = refl

blanks_between : over_m "DIA [ req ] EF T" ≡ accepted (ex (labels 2) (eu 6 tru))
unfolding read_formula find_from mask_of class_of highest_without_class
blanks_between = refl

-- Figures of 6: whole lengths, then the first byte that cannot stand there.
of_dia : over_m "DI" ≡ refusal 6 2
unfolding read_formula find_from
of_dia = refl

of_box : over_m "BO" ≡ refusal 6 2
unfolding read_formula find_from
of_box = refl

behind_ef : over_m "EF" ≡ refusal 6 2
unfolding read_formula find_from
behind_ef = refl

behind-and : over_m "T&" ≡ refusal 6 2
unfolding read_formula find_from
behind-and = refl

behind-and-and_a_blank : over_m "T & " ≡ refusal 6 4
unfolding read_formula find_from
behind-and-and_a_blank = refl

dia_without_bracket : over_m "DIAT" ≡ refusal 6 3
unfolding read_formula find_from
dia_without_bracket = refl

dia_without_bracket_behind_a_blank : over_m "DIA T" ≡ refusal 6 4
unfolding read_formula find_from
dia_without_bracket_behind_a_blank = refl

silent-step_in_dia : over_m "DIA[." ≡ refusal 6 4
unfolding read_formula find_from
silent-step_in_dia = refl

two-sets_in_box : over_m "BOX[req;" ≡ refusal 6 7
unfolding read_formula find_from
two-sets_in_box = refl

bracket_behind_ef : over_m "EF[req] T" ≡ refusal 6 2
unfolding read_formula find_from
bracket_behind_ef = refl

bracket_behind_ag : over_m "AG [req]" ≡ refusal 6 3
unfolding read_formula find_from
bracket_behind_ag = refl

two_ands : over_m "T&&T" ≡ refusal 6 2
unfolding read_formula find_from
two_ands = refl

and_first : over_m "&" ≡ refusal 6 0
unfolding read_formula find_from
and_first = refl

and-behind_a_bracket : over_m "EX[req]&T" ≡ refusal 6 7
unfolding read_formula find_from
and-behind_a_bracket = refl

and_in_a_set : over_m "EX[req&ack" ≡ refusal 6 6
unfolding read_formula find_from
and_in_a_set = refl

no_eg : over_m "EG T" ≡ refusal 6 1
unfolding read_formula find_from
no_eg = refl

no_af : over_m "AF T" ≡ refusal 6 1
unfolding read_formula find_from
no_af = refl

blank_inside_ef : over_m "E F T" ≡ refusal 6 1
unfolding read_formula find_from
blank_inside_ef = refl

-- 7 measures the line as typed.
unknown_behind_ag : over_m "AG ~EX[a] T" ≡ refusal 7 7
unfolding read_formula find_from
unknown_behind_ag = refl

unknown_in_box : over_m "BOX[a] ~T" ≡ refusal 7 4
unfolding read_formula find_from
unknown_in_box = refl

-- 8 counts the nodes written out.
forty_one : over_m "T&T&T&T&T&T&T&T&T" ≡ refusal 8 41
unfolding read_formula find_from mask_of class_of highest_without_class
forty_one = refl

-- 9: `&` needs two sides of class 2, and the arm T is the exception of AX alone. Precedence shows in the figure.
and-of-class_1 : over_m "T & T" ≡ refusal 9 1
unfolding read_formula find_from mask_of class_of highest_without_class
and-of-class_1 = refl

always_true : over_m "AG T" ≡ refusal 9 1
unfolding read_formula find_from mask_of class_of highest_without_class
always_true = refl

box_true : over_m "BOX[req] T" ≡ refusal 9 1
unfolding read_formula find_from mask_of class_of highest_without_class
box_true = refl

always_reachable : over_m "AG EF T" ≡ refusal 9 1
unfolding read_formula find_from mask_of class_of highest_without_class
always_reachable = refl

or-before-and : over_m "T | ~T & ~T" ≡ refusal 9 0
unfolding read_formula find_from mask_of class_of highest_without_class
or-before-and = refl

or_in_brackets : over_m "(T | ~T) & ~T" ≡ refusal 9 3
unfolding read_formula find_from mask_of class_of highest_without_class
or_in_brackets = refl

-- EF over a table without labels goes on by silent steps alone: no label is in `*`.
over_no-labels : read_formula [] (ascii "EF EX[.] T") ≡ accepted (eu 0 (ex silent tru))
unfolding read_formula find_from mask_of class_of highest_without_class
over_no-labels = refl

-- 256 `T` joined by `&`, 511 bytes.
abbrev and-true : ℕ → List ℕ
and-true zero = []
and-true (suc n) = 38 ∷ 84 ∷ and-true n

most-nodes : read_formula [] (84 ∷ and-true 255) ≡ refusal 8 1276
unfolding read_formula find_from
most-nodes = refl
