-- Every call keeps the books sound and keeps their shape. Rests on places that fit and on what is asked of each call. Assumes nothing.
use Prim.Native.Nat.{ℕ, ◌<◌}
use mathlib.Core.Path.{◌≡◌}
use Rattle.rules.specs.declared.Place.{Place}
use Rattle.rules.specs.Sizes.{Size, Within}
use Rattle.rules.specs.Books.{Books, Shaped, place_at, freed, with_place, lowest_free}
use Rattle.rules.specs.Sound.{SoundPlace, Sound}
use Rattle.rules.specs.Handles.{place_of}
use Rattle.rules.specs.State.{State, refused, recorded}
use Rattle.rules.specs.Judged.{Judged, books_granted, granted_of, turned_back}
use Rattle.rules.specs.Steps.{own_read_of, open_rule, begin_of, write_of, show_of, give_up_of, post_of, order_of, close_of}
use Rattle.rules.specs.Calls.{Call, Lending, issued}
use Rattle.rules.specs.Kept.{LiveCaller, SoundnessKept}
use Rattle.rules.proofs.Calls.Asked.{lowest_is_free}
use Rattle.rules.proofs.Calls.EachCall.{EachOutcome, each_call}
use Rattle.rules.proofs.Calls.JudgedStep.{wide_caller, JudgedStep, judged_step}
use Rattle.rules.proofs.Books.Shape.{wide_freed, wide_begun, wide_posted, wide_marked, shaped_opened, shaped_closed, shaped_with_record, shaped_with_place}
use Rattle.rules.proofs.Books.SoundnessSays.{sound_says}
use Rattle.rules.proofs.Books.SoundStep.{Fits}
use Rattle.rules.proofs.Books.SoundChanges.{fits_freed, fits_begun, fits_posted, fits_same, fits_marked, sound_with_place, sound_with_record}
use Rattle.rules.proofs.Books.SoundKept.{sound_opened, sound_closed}

module _ (z : Size) (l : Lending) (s : State) (shape : Shaped s.books) where
  abbrev b : Books
  b = s.books

  -- a judged call, were it granted, leaves the books in shape
  pub shape_judged : {h : ℕ} {j : Judged} → JudgedStep z s h j → Shaped (books_granted s.books (place_of h) j)
  unfolding books_granted
  shape_judged step = shaped_with_place _ (step.wide shape) shape

  -- so does every outcome
  pub shape_each : EachOutcome z l s (λ c o. Shaped o.after.books)
  unfolding refused open_rule begin_of write_of own_read_of granted_of show_of turned_back give_up_of post_of order_of close_of recorded
  shape_each =
      record {
        on_refused = λ c n k j. shape;
        on_open = shaped_opened;
        on_begin = λ asked. shaped_with_place _ (wide_begun _ _) shape;
        on_write = λ h c value asked. shaped_with_place _ (wide_marked c (wide_caller h shape)) shape;
        on_own_read = λ h c asked own. shaped_with_record shape;
        on_judged = λ judged asked free. shape_judged (judged_step z l s judged asked);
        on_turned_back = λ judged asked cycle. shaped_with_place _ (wide_freed _) shape;
        on_show = λ given h c asked. shape;
        on_give_up = λ h asked. shaped_with_place _ (wide_freed _) shape;
        on_post = λ c value asked. shaped_with_place _ (wide_posted _ c _) shape;
        on_order = λ h asked. shape;
        on_close = λ asked. shaped_closed shape;
      }

  -- and sound, where they were
  module _ (w : Within z) (good : Sound z s.books) where
    -- the changed place of a live caller, and of the lowest free one
    caller_changed : (h : ℕ) (p : Place) → LiveCaller z b h
        → (SoundPlace z b.records (place_at b (place_of h)) → Fits z b (place_at b (place_of h)) p) → Sound z (with_place b (place_of h) p)
    caller_changed h p caller f = sound_with_place z b (place_of h) good caller.place p w shape (f (good.each (place_of h) caller.place))

    lowest_changed : (p : Place) → lowest_free z b < z.places
        → ((place_at b (lowest_free z b)).status ≡ 0 → Fits z b (place_at b (lowest_free z b)) p) → Sound z (with_place b (lowest_free z b) p)
    lowest_changed p there f = sound_with_place z b (lowest_free z b) good there p w shape (f (lowest_is_free z b there))

    -- a live caller's place freed
    caller_freed : (h : ℕ) → LiveCaller z b h → Sound z (with_place b (place_of h) (freed (place_at b (place_of h))))
    caller_freed h caller = caller_changed h _ caller (λ p. fits_freed z b _ p caller.live good.room)

    -- a judged call, were it granted
    pub sound_judged : {h : ℕ} {j : Judged} → JudgedStep z s h j → Sound z (books_granted s.books (place_of h) j)
    unfolding books_granted
    sound_judged {h} {j} step = caller_changed h j.place step.caller (λ p. step.fits w shape)

    pub sound_each : EachOutcome z l s (λ c o. Sound z o.after.books)
    unfolding refused open_rule begin_of write_of own_read_of granted_of show_of turned_back give_up_of post_of order_of close_of recorded
    sound_each =
        record {
          on_refused = λ c n k j. good;
          on_open = (sound_says z _).0 (sound_opened z);
          on_begin = λ asked. lowest_changed _ asked.free (λ free. fits_begun z b _ free asked.room);
          on_write = λ h c value asked. caller_changed h _ asked.caller (λ p. fits_marked z b _ p asked.caller.live c asked.room);
          on_own_read = λ h c asked own.
              let there = asked.caller.place in
              sound_with_record z b (place_of h) good there (fits_same z b _ (good.each (place_of h) there) asked.caller.live asked.room);
          on_judged = λ judged asked free. sound_judged (judged_step z l s judged asked);
          on_turned_back = λ {c} {h} {j} judged asked cycle. caller_freed h (judged_step z l s judged asked).caller;
          on_show = λ given h c asked. good;
          on_give_up = λ h asked. caller_freed h asked.caller;
          on_post = λ c value asked. lowest_changed _ asked.free (λ free. fits_posted z b _ free c asked.room);
          on_order = λ h asked. good;
          on_close = λ asked. (sound_says z _).0 (sound_closed z b);
        }

pub shape_kept : (z : Size) (l : Lending) (c : Call) (s : State) → Shaped s.books → Shaped (issued z l c s).after.books
shape_kept z l c s shape = each_call z l s _ (shape_each z l s shape) c

pub sound_kept : (z : Size) (l : Lending) (c : Call) (s : State) → Within z → Shaped s.books → Sound z s.books
    → Sound z (issued z l c s).after.books
sound_kept z l c s w shape good = each_call z l s _ (sound_each z l s shape w good) c

pub soundness_kept : SoundnessKept
soundness_kept =
    record {
      shape = shape_kept;
      soundness = λ z l c s w shape e. (sound_says z _).1 (sound_kept z l c s w shape ((sound_says z s.books).0 e));
    }
