-- The machine of the rules after a call: its state is that of the outcome, the opening table is told by the call and its number, and an order has at most
-- as many numbers as places. Assumes nothing.
use Prim.Native.Nat.{ℕ, ◌≤◌}
use mathlib.Core.Path.{◌≡◌, refl, ◌∙◌, ap}
use mathlib.Core.Logic.{◌≢◌}
use mathlib.Core.Bool.{Bool, false, cond}
use lib.ListN.{length}
use native.Mathlib.Omega.{arith}
use borrow.Author.Tests.{ne_eqb}
use Rattle.rules.specs.declared.Size.{Size}
use Rattle.rules.specs.Sizes.{order_numbers}
use Rattle.rules.specs.Numbers.{granted, conflict}
use Rattle.rules.specs.State.{State, Entry, nothing, adds, closes, opens, Outcome, refused, recorded}
use Rattle.rules.specs.Calls.{Call, Open, Begin, Write, Read, Show, Commit, GiveUp, Post, Order, Close, issued, IsJudged, read_judged, commit_judged}
use Rattle.rules.specs.Handles.{place_of}
use Rattle.rules.specs.Judged.{Judged, granted_of, turned_back}
use Rattle.rules.specs.Steps.{open_rule, begin_of, write_of, own_read_of, show_of, give_up_of, post_of, order_of, close_of}
use Rattle.rules.specs.Run.{Machine, lends, outcome, new_day, moved_on, after_call}
use Rattle.rules.proofs.Calls.EachCall.{handed_on, EachOutcome, each_call}
use Rattle.rules.proofs.Judging.GivenOrders.{order_length}
use Rattle.theorems.specs.Calling.{renews}

-- its state is that of the outcome
pub moved_state : (m : Machine) (s : State) (entry : Entry) → (moved_on m s entry).state ≡ s
unfolding moved_on new_day
moved_state m s nothing = refl
moved_state m s (adds r) = refl
moved_state m s (closes records total) = refl
moved_state m s opens = refl

-- machines with the same state, day and opening are one
pub same_machine : (a b : Machine) → a.state ≡ b.state → a.day ≡ b.day → a.opening ≡ b.opening → a ≡ b
same_machine a b s d p =
    ap (λ x. record { state = x; day = a.day; opening = a.opening }) s
    ∙ ap (λ x. record { state = b.state; day = x; opening = a.opening }) d
    ∙ ap (λ x. record { state = b.state; day = b.day; opening = x }) p

-- a judged call begins no new day
judged_renews : {z : Size} {own : ℕ → ℕ → Bool} {s : State} {c : Call} {h : ℕ} {j : Judged} → IsJudged z own s c h j → (number : ℕ) → renews c number ≡ false
judged_renews (read_judged h c other) number = refl
judged_renews (commit_judged h) number = refl

-- the table at the opening or the last close, told by the call and its number
module _ (z : Size) (m : Machine) where
  abbrev OpeningTold : Call → Outcome → Type 0
  OpeningTold c o = o ≡ outcome z c m → (after_call m o).opening ≡ cond (renews c o.number) o.after.table m.opening

  opening_each : EachOutcome z (lends z m) m.state OpeningTold
  unfolding after_call moved_on new_day refused open_rule begin_of write_of own_read_of granted_of show_of turned_back give_up_of post_of order_of close_of recorded outcome issued
  opening_each =
      record {
        on_refused = refused_told;
        on_open = λ q. refl;
        on_begin = λ asked q. refl;
        on_write = λ h c value asked q. refl;
        on_own_read = λ h c asked own q. refl;
        on_judged = λ judged asked free q. rw (judged_renews judged granted) refl;
        on_turned_back = λ judged asked cycle q. rw (judged_renews judged conflict) refl;
        on_show = λ given h c asked q. refl;
        on_give_up = λ h asked q. refl;
        on_post = λ c value asked q. refl;
        on_order = λ h asked q. refl;
        on_close = λ asked q. refl;
      }
    where
      refused_told : (c : Call) (n : ℕ) → n ≢ granted → (handed_on c ≢ conflict → n ≢ conflict) → refused n m.state ≡ outcome z c m
          → m.opening ≡ cond (renews c n) m.state.table m.opening
      refused_told Open n k j q = absurd (k (ap (λ o. o.number) q))
      refused_told Begin n k j q = refl
      refused_told (Write h c value) n k j q = refl
      refused_told (Read h c) n k j q = refl
      refused_told (Show given h c) n k j q = refl
      refused_told (Commit h) n k j q = refl
      refused_told (GiveUp h) n k j q = refl
      refused_told (Post c value) n k j q = refl
      refused_told (Order h) n k j q = refl
      refused_told Close n k j q = rw (ne_eqb n granted k)

  pub opening_right : (c : Call) → OpeningTold c (outcome z c m)
  unfolding outcome
  opening_right c = each_call z (lends z m) m.state OpeningTold opening_each c

-- no number at all is at most as many as places
none : (z : Size) → 0 ≤ order_numbers z
none z = omega arith

-- an order has at most as many numbers as places, and no other call gives one
pub order_few : (z : Size) (m : Machine) (c : Call) → length (outcome z c m).order ≤ order_numbers z
unfolding outcome refused open_rule begin_of write_of own_read_of granted_of show_of turned_back give_up_of post_of order_of close_of recorded
order_few z m c =
    each_call z (lends z m) m.state (λ c o. length o.order ≤ order_numbers z)
    (record {
      on_refused = λ c n k j. none z;
      on_open = none z;
      on_begin = λ asked. none z;
      on_write = λ h c value asked. none z;
      on_own_read = λ h c asked own. none z;
      on_judged = λ judged asked free. none z;
      on_turned_back = λ judged asked cycle. none z;
      on_show = λ given h c asked. none z;
      on_give_up = λ h asked. none z;
      on_post = λ c value asked. none z;
      on_order = λ h asked. order_length z m.state.books (place_of h);
      on_close = λ asked. none z;
    })
    c
