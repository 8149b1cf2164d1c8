-- `write_node` writes a node by what it is.
use mathlib.Core.Path.{refl}
use mathlib.Core.Bool.{Bool}
use mathlib.Core.List.{List}
use Prim.Native.Nat.{ℕ}
use native.Mathlib.Omega.{arith}
use Rattle.lts.specs.inner.Prepared.{table_in}
use Rattle.formulas.specs.inner.Access.{cond_in}
use Rattle.formula_walk.proofs.Laws.NodeTexts.{over_less, ex-within, ax-within, until-within, both-within, alone-walks, true-walks, or-walks}
use Rattle.formula_walk.proofs.Laws.Walk.{alone-not, alone-ex, alone-ax, alone-until, alone-until-then}
use Rattle.formula_walk.proofs.write_node.Goals as goal

pub put_keyword-end-requires : goal.put_keyword-end-requires
put_keyword-end-requires c =
    (over_less c.requires.over.0 567 (omega arith), ex-within _ _ c.requires.node_value _ c.in-Ex.is)

pub put_keyword-end-requires-in-Ax : goal.put_keyword-end-requires-in-Ax
put_keyword-end-requires-in-Ax c =
    (over_less c.requires.over.0 567 (omega arith), ax-within _ _ c.requires.node_value _ c.in-Ax.is)

pub put_keyword-end-requires-in-Until : goal.put_keyword-end-requires-in-Until
put_keyword-end-requires-in-Until c =
    (over_less c.requires.over.0 567 (omega arith), until-within _ _ c.requires.node_value _ c.in-Until.is)

pub put_until_then-end-requires : goal.put_until_then-end-requires
put_until_then-end-requires c =
    let both = both-within _ _ c.requires.node_value _ _ c.in-UntilThen.is in
    (over_less c.requires.over.0 1130 (omega arith), both.0, both.1)

pub returns-in-True : goal.returns-in-True
returns-in-True c =
    let N : List (List ℕ) = (table_in c.args.table.now).names in
    let arm : Bool = c.args.arm in
    true-walks (N) _ (arm) _ _ _ _ c.in-True.is c.put-end.ensures c.close.ensures

pub returns-in-Not : goal.returns-in-Not
returns-in-Not c =
    let N : List (List ℕ) = (table_in c.args.table.now).names in
    let arm : Bool = c.args.arm in
    alone-walks (N) _ (arm) _ _ _ _ _ c.in-Not.is (alone-not _ _ _) c.put-end-in-Not.ensures _ (refl, refl, refl)

pub returns-in-Or : goal.returns-in-Or
returns-in-Or c =
    let N : List (List ℕ) = (table_in c.args.table.now).names in
    let arm : Bool = c.args.arm in
    or-walks (N) _ (arm) _ _ _ _ c.in-Or.is c.open.ensures

pub returns-in-Ex : goal.returns-in-Ex
returns-in-Ex c =
    let N : List (List ℕ) = (table_in c.args.table.now).names in
    let arm : Bool = c.args.arm in
    alone-walks (N) _ (arm) _ _ _ _ _ c.in-Ex.is (alone-ex _ _ _ (cond_in c.in-Ex.condition)) c.put_keyword-end.ensures _ (refl, refl, refl)

pub returns-in-Ax : goal.returns-in-Ax
returns-in-Ax c =
    let N : List (List ℕ) = (table_in c.args.table.now).names in
    let arm : Bool = c.args.arm in
    alone-walks (N) _ (arm) _ _ _ _ _ c.in-Ax.is (alone-ax _ _ _ (cond_in c.in-Ax.condition)) c.put_keyword-end-in-Ax.ensures _ (refl, refl, refl)

pub returns-in-Until : goal.returns-in-Until
returns-in-Until c =
    let N : List (List ℕ) = (table_in c.args.table.now).names in
    let arm : Bool = c.args.arm in
    alone-walks (N) _ (arm) _ _ _ _ _ c.in-Until.is (alone-until _ _ _ _) c.put_keyword-end-in-Until.ensures _ (refl, refl, refl)

pub returns-in-UntilThen : goal.returns-in-UntilThen
returns-in-UntilThen c =
    let N : List (List ℕ) = (table_in c.args.table.now).names in
    let arm : Bool = c.args.arm in
    alone-walks (N) _ (arm) _ _ _ _ _ c.in-UntilThen.is (alone-until-then _ _ _ _ _) c.put_until_then-end.ensures _ (refl, refl, refl)
