-- `judge::order::put_order` meets its contract. The invariant: the numbers of those taken so far stand in the buffer, and they and the order
-- of those left are the order of those present; a round takes the next one, and after as many rounds as places nobody is left.
-- Rests on the contract of `next_of`.
use mathlib.Core.Path.{◌≡◌, ◌∙◌}
use native.Mathlib.Omega.{arith}
use Rattle.pairs.specs.Square.{said_before}
use Rattle.judge.specs.Ordered.{begin_of}
use Rattle.judge.proofs.Rounds.{put_none, put_more, put_all, put_full}
use Rattle.judge.proofs.order.put_order.Goals as goal

pub loop-count-init : goal.loop-count-init
loop-count-init c = let a = c.args in put_none a.places (said_before a.rows) (begin_of a.begins) a.present a.order.now

pub returns-in_default-clause-count : goal.returns-in_default-clause-count
returns-in_default-clause-count c = (put_all c.loop-count.invariant c.in_default.ensures).0

pub returns-in_default-clause-numbers : goal.returns-in_default-clause-numbers
returns-in_default-clause-numbers c = (put_all c.loop-count.invariant c.in_default.ensures).1

pub loop-count-preserved : goal.loop-count-preserved
loop-count-preserved c = put_more c.loop-count.invariant c.requires.1 c.in-Some.m c.in-Some.ensures.0 c.in-Some.ensures.1

pub returns-clause-count : goal.returns-clause-count
returns-clause-count c =
    let sofar = c.loop-count.invariant in
    let end : c.args.places ≡ c.loop-count.count = omega arith in
    end ∙ (put_all sofar (put_full sofar c.loop-count-test.false)).0

pub returns-clause-numbers : goal.returns-clause-numbers
returns-clause-numbers c = let sofar = c.loop-count.invariant in (put_all sofar (put_full sofar c.loop-count-test.false)).1
