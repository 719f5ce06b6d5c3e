-- `judge::cycle::contains_cycle` meets its contract. Around 'peel elimination of those left gives everybody exactly if that of those present does;
-- 'pass has met nobody clear so far; the loop inside has met nobody before the one at m. Each round takes one mark away. Assumes nothing.
use Prim.Native.Nat.{ℕ}
use mathlib.Core.Path.{◌≡◌, sym, ◌∙◌, ap, subst}
use mathlib.Core.Bool.{Bool, not}
use mathlib.Core.List.{List}
use native.Mathlib.Omega.{arith}
use Rattle.basics.specs.Below.{any_below, count_below}
use Rattle.basics.specs.Elimination.{gives_all}
use Rattle.basics.proofs.Bools.{and_both}
use Rattle.basics.proofs.Eliminated.{clear_open}
use Rattle.pairs.specs.Square.{is_in, said_before}
use Rattle.judge.proofs.Unmarked.{left_in_row, unmarked_fewer, unmarked_gives_all}
use Rattle.judge.proofs.Peel.{Passed, passed_blocked, passed_gone, passed_all}
use Rattle.judge.proofs.cycle.contains_cycle.Invariants.{row}
use Rattle.judge.proofs.cycle.contains_cycle.Goals as goal

pub pass-preserved-then-rows-m : goal.pass-preserved-then-rows-m
pass-preserved-then-rows-m c =
    let stands = and_both (is_in c.pass.left c.loop-k.k) (said_before c.args.rows c.loop-k.k c.pass.m) c.if-left-k.true c.if-rows-m.true in
    (c.pass.invariant.0, passed_blocked c.pass.invariant.1 c.if-left-m.true c.loop-k.k c.loop-k-test.true stands)

pub peel-smaller : goal.peel-smaller
peel-smaller c =
    let a = c.args in
    let fewer = unmarked_fewer a.places (said_before a.rows) c.pass.left c.pass.m c.pass-test.true c.if-left-m.true in
    let same = ap (λ (left : List Bool). count_below (is_in left) a.places) c.pass.invariant.0 in
    omega arith

pub peel-preserved : goal.peel-preserved
peel-preserved c key =
    let pass = c.pass in
    let a = c.args in
    let before = said_before a.rows in
    let end : c.loop-k.k ≡ a.places = omega arith in
    let nobody = ap (any_below (left_in_row pass.left (row a.rows pass.m))) (sym end) ∙ c.loop-k.invariant in
    c.peel.invariant key
    ∙ ap (λ (left : List Bool). gives_all a.places before key (is_in left)) (sym pass.invariant.0)
    ∙ unmarked_gives_all a.places before pass.left pass.m key (clear_open a.places before (is_in pass.left) pass.m c.if-left-m.true nobody)

pub pass-preserved : goal.pass-preserved
pass-preserved c = (c.pass.invariant.0, passed_gone c.pass.invariant.1 c.if-left-m.false)

pub returns-in-peel : goal.returns-in-peel
returns-in-peel c key =
    let pass = c.pass in
    let a = c.args in
    let end : pass.m ≡ a.places = omega arith in
    passed_all (subst (λ (m : ℕ). Passed a.places (said_before a.rows) (is_in pass.left) m pass.any) end pass.invariant.1) key
    ∙ ap (λ (left : List Bool). not (gives_all a.places (said_before a.rows) key (is_in left))) pass.invariant.0
    ∙ ap not (sym (c.peel.invariant key))
