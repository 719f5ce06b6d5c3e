-- `sound::clauses::each_sound` meets its contract. The loop's invariant: all places passed are sound by themselves.
-- Rests on the contract of `is_place_sound`.
use mathlib.Core.Path.{ap}
use mathlib.Core.Bool.{not}
use Rattle.basics.proofs.Tested.{answer_fails}
use Rattle.rules.specs.Books.{place_at, of_places}
use Rattle.rules.specs.Sound.{place_sound}
use Rattle.sound.proofs.clauses.each_sound.Goals as goal

pub returns-then-not-is_place_sound : goal.returns-then-not-is_place_sound
returns-then-not-is_place_sound c =
    let s = c.args.at in
    let answer = c.is_place_sound in
    answer_fails (λ k. place_sound s.limits.size s.records (place_at (of_places s.places.now) k)) s.limits.size.places c.loop-i.i c.loop-i-test.true answer.result answer.ensures (ap not c.if-not-is_place_sound.true)
