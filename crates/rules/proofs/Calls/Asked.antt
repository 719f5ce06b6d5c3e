-- What is known when no reason applies, call by call, over any books and lengths, and what a good handle says. Rests on what the tests of soundness and of handles say.
-- Assumes nothing.
use Prim.Native.Nat.{ℕ, ◌+◌, ◌≤◌, ◌<◌}
use mathlib.Core.Path.{◌≡◌, refl, sym, ◌∙◌, ap}
use mathlib.Core.Bool.{true, false, not, ◌||◌}
use mathlib.Core.List.{List, [], ◌∷◌, ◌++◌, append-nil}
use lib.Dec.{leb, eqb}
use native.Mathlib.Omega.{arith}
use borrow.Author.Tests.{ltb-false, leb-false, eqb-true, eqb-false, eq-eqb, ne_eqb, not-true, not-false}
use Rattle.basics.specs.Lists.{all_in}
use Rattle.basics.proofs.Bools.{clash, true_of_not, and_left, and_right, or_fails, or_false_left, or_false_right, equal_or_not}
use Rattle.basics.proofs.Below.{any_false}
use Rattle.basics.proofs.Search.{least_is}
use Rattle.rules.specs.Sizes.{Size, cell_bytes, table_bytes, drafts_bytes, log_bytes, most_records, handles}
use Rattle.rules.specs.Books.{Books, place_at, is_free, is_live, is_held, lowest_free, no_free, live_count, room_taken}
use Rattle.rules.specs.declared.Caller.TheVariants.{Reads, Writes, Commits, GivesUp, Orders}
use Rattle.rules.specs.Handles.{place_of, turn_of, out_of_range, turn_agrees, good_handle, Caller, asks_live, is_stale, is_ended}
use Rattle.rules.specs.Sound.{Sound}
use Rattle.rules.specs.Numbers.{granted, stale, ended, Reason, ◌if◌, first_reason, wrong}
use Rattle.rules.specs.Steps.{soundness_reason, handle_reasons, cell_reason, handle_cell_reasons, room_reason, begin_reasons, write_reasons, read_reasons, show_reasons, commit_reasons, give_up_reasons, post_reasons, order_reasons, close_reasons}
use Rattle.rules.specs.Kept.{HeldCaller, LiveCaller, BeginAsked, WriteAsked, ReadAsked, ShowAsked, CommitAsked, GiveUpAsked, PostAsked, OrderAsked, CloseAsked, ReasonsAsked}
use Rattle.rules.proofs.Books.HandleLaws.{ended_is_committed, StatusKnown, good_or_stale}
use Rattle.rules.proofs.Calls.Reasons.{none_after, none_of_both}
use Rattle.rules.proofs.Books.SoundnessSays.{sound_says}
use Rattle.rules.proofs.Books.Room.{live_has_room}

-- ---- one reason at a time

-- no length is wrong: each is right
right : (n wanted : ℕ) → wrong n wanted ≡ false → n ≡ wanted
right n wanted e = eqb-true n wanted (not-false (eqb n wanted) e)

right_two : (a x b y : ℕ) → wrong a x || wrong b y ≡ false → (a ≡ x) × (b ≡ y)
right_two a x b y e = (right a x (or_false_left (wrong a x) _ e), right b y (or_false_right (wrong a x) _ e))

right_three : (a x b y c w : ℕ) → wrong a x || (wrong b y || wrong c w) ≡ false → (a ≡ x) × (b ≡ y) × (c ≡ w)
right_three a x b y c w e =
    let rest = right_two b y c w (or_false_right (wrong a x) _ e) in
    (right a x (or_false_left (wrong a x) _ e), rest.0, rest.1)

room_asked : (records_after live_after : ℕ) → first_reason (room_reason records_after live_after ∷ []) ≡ granted → records_after + live_after ≤ most_records
unfolding room_reason
room_asked records_after live_after e = ltb-false most_records (records_after + live_after) (none_after (room_reason records_after live_after) [] (omega arith) e).0

module _ (z : Size) (b : Books) where
  sound_asked : (soundness_reason z b).applies ≡ false → Sound z b
  unfolding soundness_reason
  sound_asked e = (sound_says z b).0 (not-false _ e)

  cell_asked : (c : ℕ) → (cell_reason z c).applies ≡ false → c < z.cells
  unfolding cell_reason
  cell_asked c e = leb-false z.cells c e

  -- the lowest free place is free
  pub lowest_is_free : lowest_free z b < z.places → (place_at b (lowest_free z b)).status ≡ 0
  unfolding lowest_free
  lowest_is_free h = eqb-true _ 0 ((least_is (λ i. is_free (place_at b i)) z.places).passes h)

  free_asked : no_free z b ≡ false → lowest_free z b < z.places
  unfolding no_free lowest_free
  free_asked e =
      let most = (least_is (λ i. is_free (place_at b i)) z.places).most in
      let other = eqb-false _ z.places e in
      omega arith

-- ---- the handle

module _ (z : Size) (b : Books) (h : ℕ) (s : Sound z b) where
  -- a handle in range names one of the places
  place_asked : out_of_range z h ≡ false → place_of h < z.places
  unfolding out_of_range
  place_asked e = leb-false z.places (place_of h) (or_false_right (leb handles h) _ e)

  -- a place of a known status
  pub status_asked : StatusKnown z (place_at b (place_of h)) h
  status_asked near = (s.each (place_of h) (place_asked near)).status_known

  -- of sound books a handle is good exactly if it is not stale
  pub good_is_not_stale : good_handle z b h ≡ not (is_stale z b h)
  good_is_not_stale = good_or_stale z b h status_asked

  -- what a good handle says
  module _ (good : good_handle z b h ≡ true) where
    in_range : out_of_range z h ≡ false
    unfolding good_handle
    in_range = not-true _ (and_left _ _ good)

    with_turn : turn_agrees b h ≡ true
    unfolding good_handle
    with_turn = and_right (is_held (place_at b (place_of h))) _ (and_right (not (out_of_range z h)) _ good)

    pub held_asked : HeldCaller z b h
    unfolding good_handle out_of_range turn_agrees
    held_asked =
        record {
          books = s;
          below = leb-false handles h (or_false_left _ _ in_range);
          place = place_asked in_range;
          held = and_left _ _ (and_right (not (out_of_range z h)) _ good);
          turn = eqb-true (place_at b (place_of h)).turn (turn_of h) with_turn;
        }

    -- and if the transaction has not ended either, it is live
    live_asked : (who : Caller) → asks_live who ≡ true → is_ended z who b h ≡ false → LiveCaller z b h
    live_asked who live e =
        let p = place_at b (place_of h) in
        let caller = held_asked in
        let other = sym (ended_is_committed z who b h live in_range with_turn) ∙ e in
        let first : eqb p.status 1 ≡ true = true_of_not _ (λ f. clash caller.held (or_fails _ _ f other)) in
        record { books = s; below = caller.below; place = caller.place; live = eqb-true p.status 1 first; turn = caller.turn }

  -- a good handle is refused to no order
  pub order_goes_on : good_handle z b h ≡ true → (later : List Reason) → first_reason (handle_reasons z Orders b h ++ later) ≡ first_reason later
  unfolding handle_reasons first_reason is_ended asks_live
  order_goes_on good later = rw (not-true (is_stale z b h) (sym good_is_not_stale ∙ good)) refl

  module _ (who : Caller) (e : first_reason (handle_reasons z who b h) ≡ granted) where
    -- a call that no reason of its handle refuses has a good one
    pub good_asked : good_handle z b h ≡ true
    unfolding handle_reasons
    good_asked = good_is_not_stale ∙ ap not (none_after (stale if is_stale z b h) _ (omega arith) e).0

    caller_asked : asks_live who ≡ true → LiveCaller z b h
    unfolding handle_reasons
    caller_asked live =
        let three = none_after (stale if is_stale z b h) _ (omega arith) e in
        live_asked good_asked who live (none_after (ended if is_ended z who b h) _ (omega arith) three.1).0

-- a live caller's log has room
pub caller_has_room : (z : Size) (b : Books) (h : ℕ) → LiveCaller z b h → b.records < most_records
caller_has_room z b h l = live_has_room z b (place_of h) l.books l.place l.live

-- books, handle and cell together
books_handle_cell_asked : (z : Size) (who : Caller) (b : Books) (h c : ℕ) (later : List Reason) → asks_live who ≡ true
    → first_reason (handle_cell_reasons z who b h c ++ later) ≡ granted → LiveCaller z b h × (c < z.cells) × (first_reason later ≡ granted)
unfolding handle_cell_reasons soundness_reason handle_reasons cell_reason all_in
books_handle_cell_asked z who b h c later live e =
    let two = none_after (soundness_reason z b) (handle_reasons z who b h ++ (cell_reason z c ∷ []) ++ later) (omega arith) e in
    let three = none_of_both (handle_reasons z who b h) (cell_reason z c ∷ later) refl two.1 in
    let five = none_after (cell_reason z c) later (omega arith) three.1 in
    (caller_asked z b h (sound_asked z b two.0) who three.0 live, cell_asked z b c five.0, five.1)

-- ---- each call

pub begin_asked : (z : Size) (log_length : ℕ) (b : Books) → first_reason (begin_reasons z log_length b) ≡ granted → BeginAsked z log_length b
unfolding begin_reasons soundness_reason room_taken
begin_asked z log_length b e =
    let one = none_after _ _ (omega arith) e in
    let two = none_after (soundness_reason z b) _ (omega arith) one.1 in
    let six = none_after _ _ (omega arith) two.1 in
    let seven = room_asked (b.records + 1) (live_count z b + 1) six.1 in
    record {
      log_right = right log_length log_bytes one.0;
      books = sound_asked z b two.0;
      free = free_asked z b six.0;
      room = omega (arith, seven);
    }

pub write_asked : (z : Size) (value_length drafts_length log_length : ℕ) (b : Books) (h c : ℕ) → first_reason (write_reasons z value_length drafts_length log_length b h c) ≡ granted
    → WriteAsked z value_length drafts_length log_length b h c
unfolding write_reasons asks_live room_taken
write_asked z value_length drafts_length log_length b h c e =
    let one = none_after _ _ (omega arith) e in
    let lengths = right_three value_length cell_bytes drafts_length (drafts_bytes z) log_length log_bytes one.0 in
    let five = books_handle_cell_asked z Writes b h c (room_reason (b.records + 1) (live_count z b) ∷ []) refl one.1 in
    let seven = room_asked (b.records + 1) (live_count z b) five.2 in
    record {
      value_right = lengths.0;
      drafts_right = lengths.1;
      log_right = lengths.2;
      caller = five.0;
      cell = five.1;
      room = omega (arith, seven);
    }

pub read_asked : (z : Size) (table_length drafts_length log_length : ℕ) (b : Books) (h c : ℕ) → first_reason (read_reasons z table_length drafts_length log_length b h c) ≡ granted
    → ReadAsked z table_length drafts_length log_length b h c
unfolding read_reasons asks_live room_taken
read_asked z table_length drafts_length log_length b h c e =
    let one = none_after _ _ (omega arith) e in
    let lengths = right_three table_length (table_bytes z) drafts_length (drafts_bytes z) log_length log_bytes one.0 in
    let five = books_handle_cell_asked z Reads b h c (room_reason (b.records + 1) (live_count z b) ∷ []) refl one.1 in
    let seven = room_asked (b.records + 1) (live_count z b) five.2 in
    record {
      table_right = lengths.0;
      drafts_right = lengths.1;
      log_right = lengths.2;
      caller = five.0;
      cell = five.1;
      room = omega (arith, seven);
    }

-- the number that the read gave is 0, or else it is the answer
given_asked : (given : ℕ) (later : List Reason) → first_reason ((given if not (eqb given 0)) ∷ later) ≡ granted
    → (given ≡ 0) × (first_reason later ≡ granted)
unfolding first_reason
given_asked given later e =
    equal_or_not given 0 (λ zero. (zero, rw (eq-eqb given 0 zero) at e)) (λ other. absurd (other (rw (ne_eqb given 0 other) at e)))

pub show_asked : (z : Size) (table_length drafts_length : ℕ) (b : Books) (given h c : ℕ)
    → first_reason (show_reasons z table_length drafts_length b given h c) ≡ granted → ShowAsked z table_length drafts_length b given h c
unfolding show_reasons asks_live
show_asked z table_length drafts_length b given h c e =
    let zero = given_asked given _ e in
    let one = none_after _ _ (omega arith) zero.1 in
    let lengths = right_two table_length (table_bytes z) drafts_length (drafts_bytes z) one.0 in
    let five = books_handle_cell_asked z Reads b h c [] refl (rw append-nil one.1) in
    record { read_granted = zero.0; table_right = lengths.0; drafts_right = lengths.1; caller = five.0; cell = five.1 }

pub commit_asked : (z : Size) (table_length drafts_length log_length : ℕ) (b : Books) (h : ℕ) → first_reason (commit_reasons z table_length drafts_length log_length b h) ≡ granted
    → CommitAsked z table_length drafts_length log_length b h
unfolding commit_reasons soundness_reason asks_live
commit_asked z table_length drafts_length log_length b h e =
    let one = none_after _ _ (omega arith) e in
    let lengths = right_three table_length (table_bytes z) drafts_length (drafts_bytes z) log_length log_bytes one.0 in
    let two = none_after (soundness_reason z b) _ (omega arith) one.1 in
    record {
      table_right = lengths.0;
      drafts_right = lengths.1;
      log_right = lengths.2;
      caller = caller_asked z b h (sound_asked z b two.0) Commits two.1 refl;
    }

pub give_up_asked : (z : Size) (log_length : ℕ) (b : Books) (h : ℕ) → first_reason (give_up_reasons z log_length b h) ≡ granted → GiveUpAsked z log_length b h
unfolding give_up_reasons soundness_reason asks_live
give_up_asked z log_length b h e =
    let one = none_after _ _ (omega arith) e in
    let two = none_after (soundness_reason z b) _ (omega arith) one.1 in
    record { log_right = right log_length log_bytes one.0; caller = caller_asked z b h (sound_asked z b two.0) GivesUp two.1 refl }

pub post_asked : (z : Size) (value_length table_length log_length : ℕ) (b : Books) (c : ℕ) → first_reason (post_reasons z value_length table_length log_length b c) ≡ granted
    → PostAsked z value_length table_length log_length b c
unfolding post_reasons soundness_reason cell_reason room_taken
post_asked z value_length table_length log_length b c e =
    let one = none_after _ _ (omega arith) e in
    let lengths = right_three value_length cell_bytes table_length (table_bytes z) log_length log_bytes one.0 in
    let two = none_after (soundness_reason z b) _ (omega arith) one.1 in
    let five = none_after (cell_reason z c) _ (omega arith) two.1 in
    let six = none_after _ _ (omega arith) five.1 in
    let seven = room_asked (b.records + 1) (live_count z b) six.1 in
    record {
      value_right = lengths.0;
      table_right = lengths.1;
      log_right = lengths.2;
      books = sound_asked z b two.0;
      cell = cell_asked z b c five.0;
      free = free_asked z b six.0;
      room = omega (arith, seven);
    }

pub order_asked : (z : Size) (buffer_length : ℕ) (b : Books) (h : ℕ) → first_reason (order_reasons z buffer_length b h) ≡ granted → OrderAsked z buffer_length b h
unfolding order_reasons soundness_reason handle_reasons all_in
order_asked z buffer_length b h e =
    let one = none_after _ _ (omega arith) e in
    let two = none_after (soundness_reason z b) _ (omega arith) one.1 in
    let three = none_of_both (handle_reasons z Orders b h) _ refl two.1 in
    let again = none_after _ _ (omega arith) three.1 in
    record {
      buffer_right = right buffer_length z.places one.0;
      caller = let s = sound_asked z b two.0 in held_asked z b h s (good_asked z b h s Orders three.0);
      no_cycle = again.0;
    }

pub close_asked : (z : Size) (log_length : ℕ) (b : Books) → first_reason (close_reasons z log_length b) ≡ granted → CloseAsked z log_length b
unfolding close_reasons soundness_reason
close_asked z log_length b e =
    let one = none_after _ _ (omega arith) e in
    let two = none_after (soundness_reason z b) _ (omega arith) one.1 in
    let eight = none_after _ _ (omega arith) two.1 in
    record {
      log_right = right log_length log_bytes one.0;
      books = sound_asked z b two.0;
      nobody_live = any_false (λ i. is_live (place_at b i)) z.places eight.0;
    }

pub reasons_asked : ReasonsAsked
reasons_asked =
    record {
      of_begin = begin_asked;
      of_write = write_asked;
      of_read = read_asked;
      of_show = show_asked;
      of_commit = commit_asked;
      of_give_up = give_up_asked;
      of_post = post_asked;
      of_order = order_asked;
      of_close = close_asked;
      good = good_is_not_stale;
    }
