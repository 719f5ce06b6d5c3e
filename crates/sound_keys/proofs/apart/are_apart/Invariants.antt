-- `sound_keys::apart::are_apart` meets its contract. The loop's invariant: all places passed are apart from those behind them.
-- Rests on the contract of `is_apart`.
use mathlib.Core.Path.{◌≡◌}
use mathlib.Core.Bool.{true}
use Rattle.basics.specs.Below.{all_below}
use Rattle.sound_keys.specs.Apart.{apart}
use Rattle.sound_keys.proofs.apart.are_apart.Given as goal

abbrev pub invariant-loop-i : goal.invariant-loop-i
invariant-loop-i l = all_below (apart l.passes l.keys) l.i ≡ true
