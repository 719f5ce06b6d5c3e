-- `sound_keys::apart::is_apart` meets its contract. The loop's invariant: the flag says whether the places passed have other keys than place i. Assumes nothing.
use Prim.Native.Nat.{◌+◌}
use mathlib.Core.Path.{◌≡◌}
use mathlib.Core.Bool.{false, not, ◌&&◌}
use lib.ListN.{get_or}
use lib.Dec.{eqb}
use Rattle.basics.specs.Below.{all_below}
use Rattle.sound_keys.proofs.apart.is_apart.Given as goal

-- i and the one behind it that comes after k others do not both pass with the same key
abbrev pub invariant-loop-k : goal.invariant-loop-k
invariant-loop-k l =
    l.apart ≡ all_below (λ k. not (get_or l.passes l.i false && (get_or l.passes (l.i + 1 + k) false && eqb (get_or l.keys l.i 0) (get_or l.keys (l.i + 1 + k) 0)))) l.k
