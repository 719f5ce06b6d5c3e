-- Room in the log: with a live place, or with room for one record more, the records are below the most. Assumes nothing.
use Prim.Native.Nat.{ℕ, ◌+◌, ◌≤◌, ◌<◌}
use mathlib.Core.Path.{◌≡◌}
use native.Mathlib.Omega.{arith}
use borrow.Author.Tests.{eq-eqb}
use Rattle.basics.specs.Below.{count_below}
use Rattle.basics.proofs.Bools.{clash}
use Rattle.basics.proofs.Below.{count_zero}
use Rattle.rules.specs.Sizes.{Size, most_records}
use Rattle.rules.specs.Books.{Books, place_at, is_live, live_count, room_taken}
use Rattle.rules.specs.Sound.{Sound}

-- a live place is counted, so the records stay below the most
pub live_has_room : (z : Size) (b : Books) (i : ℕ) → Sound z b → i < z.places → (place_at b i).status ≡ 1 → b.records < most_records
unfolding room_taken live_count
live_has_room z b i s h live =
    let room = s.room in
    let counted : count_below (λ k. is_live (place_at b k)) z.places ≡ 0 → ⊥ = λ e. clash (eq-eqb _ 1 live) (count_zero _ z.places e i h) in
    omega arith

-- and so they do where the log has room for one record more
pub room_for_one : (z : Size) (b : Books) → room_taken z b + 1 ≤ most_records → b.records < most_records
unfolding room_taken
room_for_one z b h = omega arith
