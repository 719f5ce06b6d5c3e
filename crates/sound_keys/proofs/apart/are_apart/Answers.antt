-- `sound_keys::apart::are_apart` meets its contract. The loop's invariant: all places passed are apart from those behind them.
-- Rests on the contract of `is_apart`.
use mathlib.Core.Path.{ap}
use mathlib.Core.Bool.{not}
use Rattle.sound_keys.specs.Apart.{apart}
use Rattle.basics.proofs.Tested.{answer_fails}
use Rattle.sound_keys.proofs.apart.are_apart.Goals as goal

pub returns-then-not-is_apart : goal.returns-then-not-is_apart
returns-then-not-is_apart c =
    let s = c.args in
    let answer = c.is_apart in
    answer_fails (apart s.passes s.keys) s.places c.loop-i.i c.loop-i-test.true answer.result answer.ensures (ap not c.if-not-is_apart.true)
