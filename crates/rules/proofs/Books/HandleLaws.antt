-- Laws of handles: a handle tells its place and turn, a good handle is one that is not stale, and a handle's lookup is the first of its reasons.
-- Assumes nothing.
use Prim.Native.Nat.{ℕ, zero, suc, ◌≤◌, ◌<◌}
use mathlib.Core.Path.{◌≡◌, refl}
use mathlib.Core.Bool.{Bool, true, false, not, cond, ◌&&◌, ◌||◌}
use lib.Dec.{eqb}
use native.Mathlib.Omega.{arith}
use borrow.Author.Tests.{le-leb}
use Rattle.basics.proofs.Bools.{split}
use Rattle.rules.specs.declared.Place.{Place}
use Rattle.rules.specs.Sizes.{Size, turns, handles, handles_a_turn}
use Rattle.rules.specs.Books.{Books, place_at, held_status, is_committed, next_turn}
use Rattle.rules.specs.Numbers.{granted, stale, ended, first_reason}
use Rattle.rules.specs.Handles.{handle_of, place_of, turn_of, out_of_range, turn_agrees, good_handle, Caller, asks_live, is_stale, is_ended, gate, looked_up}
use Rattle.rules.specs.Steps.{handle_reasons}

-- the place and the turn that were put into a handle come out again
pub place_of_handle_of : (i t : ℕ) → i < handles_a_turn → place_of (handle_of i t) ≡ i
place_of_handle_of i t h = omega arith

pub turn_of_handle_of : (i t : ℕ) → i < handles_a_turn → turn_of (handle_of i t) ≡ t
turn_of_handle_of i t h = omega arith

-- a place and a turn that exist make a handle below 2,097,152
pub handle_of_below : (i t : ℕ) → i < handles_a_turn → t < turns → handle_of i t < handles
handle_of_below i t h k = omega arith

-- a handle is its place and its turn
pub handle_of_parts : (h : ℕ) → handle_of (place_of h) (turn_of h) ≡ h
handle_of_parts h = omega arith

-- a handle names one of 32 places, and a handle below 2,097,152 one of 65,536 turns
pub place_of_below : (h : ℕ) → place_of h < handles_a_turn
place_of_below h = omega arith

pub turn_of_below : (h : ℕ) → h < handles → turn_of h < turns
turn_of_below h k = omega arith

-- 2,097,151, the greatest handle, names place 31 and turn 65,535
pub greatest_handle : (place_of 2097151 ≡ 31) × (turn_of 2097151 ≡ 65535)
greatest_handle = (refl, refl)

-- 2,097,152 and above are stale, whatever the books
pub past_handles_stale : (z : Size) (b : Books) (h : ℕ) → handles ≤ h → is_stale z b h ≡ true
unfolding is_stale out_of_range
past_handles_stale z b h k = rw (le-leb handles h k)

-- the turn after 65,535 is 0
pub last_turn_wraps : next_turn 65535 ≡ 0
last_turn_wraps = refl

-- ---- range, turn and status

-- a handle in range whose turn agrees is ended exactly if its place is committed, for a call that asks for a live transaction
pub ended_is_committed : (z : Size) (who : Caller) (b : Books) (h : ℕ) → asks_live who ≡ true → out_of_range z h ≡ false → turn_agrees b h ≡ true
    → is_ended z who b h ≡ is_committed (place_at b (place_of h))
unfolding is_ended
ended_is_committed z who b h live near agrees = rw (live, near, agrees)

-- a place of a known status is held exactly if it is not free
good_agrees : (out agrees : Bool) (s : ℕ) → (out ≡ false → s ≤ 2) → not out && (held_status s && agrees) ≡ not (out || (eqb s 0 || not agrees))
good_agrees true agrees s k = refl
good_agrees false agrees zero k = refl
good_agrees false true (suc zero) k = refl
good_agrees false false (suc zero) k = refl
good_agrees false true (suc (suc zero)) k = refl
good_agrees false false (suc (suc zero)) k = refl
good_agrees false agrees (suc (suc (suc s))) k = absurd (omega (arith, k refl))

-- range, turn and gate say what the reasons 3 and 4 say, by the three answers of the tests and the three statuses
reasons_agree : (out agrees : Bool) (who : Caller) (s : ℕ) → (out ≡ false → s ≤ 2)
    → cond (out || not agrees) stale (gate who s) ≡ cond (out || (eqb s 0 || not agrees)) stale (cond (asks_live who && (not out && (agrees && eqb s 2))) ended granted)
unfolding gate
reasons_agree true agrees who s k = refl
reasons_agree false false who s k = split (eqb s 0) (λ e. rw e) (λ e. rw e)
reasons_agree false true who zero k = refl
reasons_agree false true who (suc zero) k = split (asks_live who) (λ e. rw e) (λ e. rw e)
reasons_agree false true who (suc (suc zero)) k = split (asks_live who) (λ e. rw e) (λ e. rw e)
reasons_agree false true who (suc (suc (suc s))) k = absurd (omega (arith, k refl))

-- a handle in range names a place of a known status
abbrev pub StatusKnown : Size → Place → ℕ → Type 0
StatusKnown z p h = out_of_range z h ≡ false → p.status ≤ 2

module _ (z : Size) (b : Books) (h : ℕ) (known : StatusKnown z (place_at b (place_of h)) h) where
  -- a handle is good exactly if it is not stale
  pub good_or_stale : good_handle z b h ≡ not (is_stale z b h)
  unfolding good_handle is_stale
  good_or_stale = good_agrees (out_of_range z h) (turn_agrees b h) (place_at b (place_of h)).status known

  -- what a handle is looked up to is the first of its reasons, whoever calls
  pub looked_up_reasons : (who : Caller) → looked_up z who (place_at b (place_of h)) h ≡ first_reason (handle_reasons z who b h)
  unfolding looked_up first_reason handle_reasons is_stale is_ended turn_agrees
  looked_up_reasons who =
      reasons_agree (out_of_range z h) (eqb (place_at b (place_of h)).turn (turn_of h)) who (place_at b (place_of h)).status known
