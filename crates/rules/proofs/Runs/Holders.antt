-- A good handle names the transaction of the begin or post that answered it: the seat of its place was taken by a record with that place
-- and that turn. Rests on the walk over the day and on books that mirror it. Assumes nothing.
use Prim.Native.Nat.{ℕ, ◌≤◌}
use mathlib.Core.Path.{◌≡◌, sym, ◌∙◌, ap}
use mathlib.Core.Bool.{true}
use native.Mathlib.Omega.{arith}
use Rattle.rules.specs.Sizes.{Size}
use Rattle.rules.specs.Books.{place_at}
use Rattle.rules.specs.Handles.{handle_of, place_of, turn_of, good_handle}
use Rattle.rules.specs.Layout.{seat}
use Rattle.rules.specs.Run.{Machine}
use Rattle.rules.specs.Runs.{holder, AnsweredBy, HandlesName}
use Rattle.rules.proofs.Calls.Asked.{held_asked}
use Rattle.rules.proofs.Books.HandleLaws.{handle_of_parts}
use Rattle.rules.proofs.Mirror.Mirrors.{Mirrored}
use Rattle.rules.proofs.Runs.Running.{reached_kept}
use Rattle.rules.proofs.Log.Seats.{held_of_seat, seat_of_held}
use Rattle.rules.proofs.Books.SoundnessSays.{held_status}

-- a good handle
pub handle_names : (z : Size) (m : Machine) → Mirrored z m.state.books m.day → (h : ℕ) → good_handle z m.state.books h ≡ true → AnsweredBy m.day h
unfolding holder
handle_names z m mirror h here =
    let caller = held_asked z m.state.books h mirror.sound here in
    let p = place_at m.state.books (place_of h) in
    let mirrors = mirror.places (place_of h) caller.place in
    let held : 1 ≤ (seat m.day (place_of h)).status = omega (arith, mirrors.status, held_status p caller.held) in
    let t = held_of_seat (place_of h) z m.day mirror.walking held in
    let seated = seat_of_held (place_of h) m.day t in
    let turn : t.start.turn ≡ turn_of h = sym seated.2 ∙ (mirrors.holds caller.held).turn ∙ caller.turn in
    record {
      newer = t.since;
      answering = t.start;
      earlier = t.before;
      split = t.split;
      numbered = omega (arith, seated.1);
      starts = t.starts;
      names = ap (λ i. handle_of i t.start.turn) t.there ∙ ap (handle_of (place_of h)) turn ∙ handle_of_parts h;
    }

pub handles_name : HandlesName
handles_name z m w r = handle_names z m (reached_kept z m w r).mirror
