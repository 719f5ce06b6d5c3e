-- What is known of a live caller where the books mirror the day: its place holds its transaction, its record fits and is its own, and its place may
-- change. Rests on the mirror of the books in the day. Assumes nothing.
use Prim.Native.Nat.{ℕ, ◌<◌}
use mathlib.Core.Path.{◌≡◌, sym, ◌∙◌, ap, subst}
use mathlib.Core.Bool.{false}
use mathlib.Core.List.{List}
use lib.ListN.{length}
use native.Mathlib.Omega.{arith}
use Rattle.basics.specs.Bytes.{AreBytes}
use Rattle.rules.specs.declared.Place.{Place}
use Rattle.rules.specs.Sizes.{Size, Within, cell_bytes, turns}
use Rattle.rules.specs.Books.{Books, place_at, held_status, with_place}
use Rattle.rules.specs.Handles.{place_of, named_place}
use Rattle.rules.specs.Kinds.{kind_starts}
use Rattle.rules.specs.Daylog.{Proper}
use Rattle.rules.specs.State.{record_at}
use Rattle.rules.specs.Day.{whose}
use Rattle.rules.specs.Kept.{LiveCaller}
use Rattle.rules.specs.Run.{Machine}
use Rattle.rules.proofs.Books.HandleLaws.{turn_of_below, place_of_below}
use Rattle.rules.proofs.Day.Events.{whose_others}
use Rattle.rules.proofs.Day.Commits.{begins_differ}
use Rattle.rules.proofs.Mirror.Mirrors.{Holds, Mirrors, Mirrored}
use Rattle.rules.proofs.Mirror.DayGrows.{StaysLive, AsBefore, changed_one, proper_at}

module _ (z : Size) (m : Machine) (mirror : Mirrored z m.state.books m.day) where
  abbrev b : Books
  b = m.state.books

  -- ---- live places

  -- a live place holds its transaction, and no two live places hold one
  pub live_holds : (i : ℕ) → i < z.places → (place_at m.state.books i).status ≡ 1 → Holds z m.day i (place_at m.state.books i)
  live_holds i h live = (mirror.places i h).holds (ap held_status live)

  pub live_differ : (i j : ℕ) → i < z.places → j < z.places → (place_at m.state.books i).status ≡ 1 → (place_at m.state.books j).status ≡ 1
      → (place_at m.state.books i).begin ≡ (place_at m.state.books j).begin → i ≡ j
  live_differ i j h k live there e =
      begins_differ z m.day mirror.walking i j (omega (arith, (mirror.places i h).status)) (omega (arith, (mirror.places j k).status))
      ((live_holds i h live).begin ∙ e ∙ sym (live_holds j k there).begin)

  -- ---- a live caller

  module _ (h : ℕ) (caller : LiveCaller z m.state.books h) where
    -- its place mirrors its seat, and is held
    pub caller_mirrors : Mirrors z m.day (place_of h) (named_place m.state.books h)
    caller_mirrors = mirror.places (place_of h) caller.place

    pub caller_holds : Holds z m.day (place_of h) (named_place m.state.books h)
    caller_holds = live_holds (place_of h) caller.place caller.live

    -- its record fits into its bytes
    pub caller_proper : Within z → (kind c : ℕ) (value : List ℕ) → kind < 256 → c < 256 → length value ≡ cell_bytes → AreBytes value
        → Proper (record_at kind (place_of h) (named_place m.state.books h) c value)
    caller_proper w kind c value k d =
        proper_at z kind (place_of h) (named_place b h) c value w k caller.place
        (subst (λ (t : ℕ). t < turns) (sym caller.turn) (turn_of_below h caller.below)) d

    -- it is of the caller's transaction
    pub caller_whose : (kind c : ℕ) (value : List ℕ) → kind_starts kind ≡ false
        → whose m.day (record_at kind (place_of h) (named_place m.state.books h) c value) ≡ (named_place m.state.books h).begin
    caller_whose kind c value k = whose_others m.day (record_at kind (place_of h) (named_place b h) c value) k ∙ caller_holds.begin

    -- its place changed
    pub caller_changed : (q : Place) → StaysLive (named_place m.state.books h) q → AsBefore z m.state.books (with_place m.state.books (place_of h) q)
    caller_changed q = changed_one z b (place_of h) q mirror.shape (place_of_below h)
