-- `sound::clauses::each_sound` meets its contract. The loop's invariant: all places passed are sound by themselves.
-- Rests on the contract of `is_place_sound`.
use mathlib.Core.Path.{◌≡◌}
use mathlib.Core.Bool.{true}
use Rattle.basics.specs.Below.{all_below}
use Rattle.rules.specs.Books.{place_at, of_places}
use Rattle.rules.specs.Sound.{place_sound}
use Rattle.sound.proofs.clauses.each_sound.Given as goal

abbrev pub invariant-loop-i : goal.invariant-loop-i
invariant-loop-i l = all_below (λ k. place_sound l.at.limits.size l.at.records (place_at (of_places l.at.places.now) k)) l.i ≡ true
