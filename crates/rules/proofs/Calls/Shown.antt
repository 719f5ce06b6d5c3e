-- What is shown after a granted read is the value recorded. Rests on what is asked of a show and on soundness after a read. Assumes nothing.
use Prim.Native.Nat.{ℕ}
use mathlib.Core.Path.{◌≡◌, refl, ◌∙◌, ap}
use mathlib.Core.Bool.{true, false, cond}
use lib.ListN.{length}
use lib.Dec.{leb, eqb}
use native.Mathlib.Omega.{arith}
use borrow.Author.Tests.{lt-leb, eq-eqb}
use Rattle.basics.proofs.Bools.{or_fails}
use Rattle.rules.specs.declared.Place.{Place}
use Rattle.rules.specs.Sizes.{Size, Within, table_bytes, drafts_bytes, handles}
use Rattle.rules.specs.Books.{Books, Shaped, place_at, wrote, read_marked, with_record, number_of}
use Rattle.rules.specs.declared.Caller.TheVariants.{Reads}
use Rattle.rules.specs.Handles.{place_of, out_of_range, turn_agrees, asks_live, is_stale, is_ended}
use Rattle.rules.specs.Sound.{Sound}
use Rattle.rules.specs.Cells.{cell_of, draft_of}
use Rattle.rules.specs.Numbers.{granted, first_reason}
use Rattle.rules.specs.State.{State, Outcome, shown_bytes, shown_draft, shown_cell, refused, recorded, unless_refused}
use Rattle.rules.specs.Judged.{books_granted, granted_of, turned_back}
use Rattle.rules.specs.Steps.{own_read_of, judged_read, read_of, read_rule, soundness_reason, handle_reasons, cell_reason, handle_cell_reasons, show_reasons, show_rule, show_of}
use Rattle.rules.specs.Calls.{Show, Lending, issued, read_judged}
use Rattle.rules.specs.Kept.{LiveCaller, ReadAsked, ShowAsked, ShowsRecorded, ShownIsRecorded}
use Rattle.rules.proofs.Calls.Asked.{read_asked}
use Rattle.rules.proofs.Calls.EachCall.{EachOutcome, refused_or, one_of}
use Rattle.rules.proofs.Books.HandleLaws.{place_of_below, ended_is_committed}
use Rattle.rules.proofs.Calls.JudgedStep.{judged_step}
use Rattle.rules.proofs.Calls.Reasons.{either_judged}
use Rattle.rules.proofs.Books.Shape.{place_at_same}
use Rattle.rules.proofs.Books.SoundnessSays.{sound_says}
use Rattle.rules.proofs.Calls.SoundCalls.{sound_judged, sound_each}

-- ---- no reason applies

-- the handle of a live transaction is neither stale nor ended
module _ (z : Size) (b : Books) (h : ℕ) (caller : LiveCaller z b h) where
  in_range : out_of_range z h ≡ false
  unfolding out_of_range
  in_range = or_fails (leb handles h) _ (lt-leb handles h caller.below) (lt-leb z.places (place_of h) caller.place)

  agrees : turn_agrees b h ≡ true
  unfolding turn_agrees
  agrees = eq-eqb _ _ caller.turn

  not_stale : is_stale z b h ≡ false
  unfolding is_stale
  not_stale = rw (in_range, agrees, caller.live)

  not_ended : is_ended z Reads b h ≡ false
  unfolding asks_live
  not_ended = ended_is_committed z Reads b h refl in_range agrees ∙ ap (λ (s : ℕ). eqb s 2) caller.live

-- a show of which all is right is not refused
show_goes_on : (z : Size) (table drafts : ℕ) (b : Books) (h c : ℕ) → ShowAsked z table drafts b granted h c
    → first_reason (show_reasons z table drafts b granted h c) ≡ granted
unfolding show_reasons handle_cell_reasons soundness_reason handle_reasons cell_reason first_reason
show_goes_on z table drafts b h c asked =
    let caller = asked.caller in
    let table_right = eq-eqb table (table_bytes z) asked.table_right in
    let drafts_right = eq-eqb drafts (drafts_bytes z) asked.drafts_right in
    rw (table_right, drafts_right, (sound_says z b).1 caller.books, not_stale z b h caller, not_ended z b h caller, lt-leb z.cells c asked.cell)

-- so it shows the draft or the table's cell
module _ (z : Size) (l : Lending) (h c : ℕ) (s : State) (asked : ShowAsked z (length s.table) (length s.drafts) s.books granted h c) where
  shows : (issued z l (Show granted h c) s).shown ≡ cond (wrote (place_at s.books (place_of h)) c) (shown_draft z (place_of h) c) (shown_cell c)
  unfolding issued show_rule show_of unless_refused
  shows = rw (show_goes_on z (length s.table) (length s.drafts) s.books h c asked)

-- ---- after a granted read

module _ (z : Size) (l : Lending) (h c : ℕ) (s : State) (w : Within z) (shape : Shaped s.books)
    (asked : ReadAsked z (length s.table) (length s.drafts) l.log s.books h c) where
  abbrev i : ℕ
  i = place_of h

  abbrev p : Place
  p = place_at s.books i

  -- with other books that are sound, and at the place of the handle the same turn and status, a show is not refused
  still_asked : (b : Books) → Sound z b → (place_at b i).status ≡ p.status → (place_at b i).turn ≡ p.turn
      → ShowAsked z (length s.table) (length s.drafts) b granted h c
  still_asked b good status turn =
      let caller = asked.caller in
      record {
        read_granted = refl;
        table_right = asked.table_right;
        drafts_right = asked.drafts_right;
        caller = record { books = good; below = caller.below; place = caller.place; live = status ∙ caller.live; turn = turn ∙ caller.turn };
        cell = asked.cell;
      }

  sound_then : EachOutcome z l s (λ c o. Sound z o.after.books)
  sound_then = sound_each z l s shape w asked.caller.books

  -- a written cell: the draft is recorded and shown
  own_shown : wrote p c ≡ true → ShowsRecorded z l h c (own_read_of z s i c)
  unfolding own_read_of recorded with_record shown_bytes draft_of cell_of
  own_shown own =
      let o = own_read_of z s i c in
      let first = shows z l h c o.after (still_asked o.after.books (sound_then.on_own_read h c asked own) refl refl) in
      record { recorded = _; added = refl; value = ap (shown_bytes s.drafts s.table) first ∙ rw own }

  -- any other cell: the table's value is recorded and shown
  judged_shown : wrote p c ≡ false → ShowsRecorded z l h c (granted_of s i (judged_read z s i c))
  unfolding granted_of books_granted recorded read_marked shown_bytes cell_of
  judged_shown other =
      let o = granted_of s i (judged_read z s i c) in
      let here = place_at_same i (read_marked p c (number_of s.books)) shape (place_of_below h) in
      let good = sound_judged z l s shape w asked.caller.books (judged_step z l s (read_judged h c other) asked) in
      let first = shows z l h c o.after (still_asked o.after.books good (ap (λ q. q.status) here) (ap (λ q. q.turn) here)) in
      record { recorded = _; added = refl; value = ap (shown_bytes s.drafts s.table) first ∙ rw (here, other) }

-- a read that is refused or turned back is not granted
abbrev IfGranted : Size → Lending → ℕ → ℕ → Outcome → Type 0
IfGranted z l h c o = o.number ≡ granted → ShowsRecorded z l h c o

read_shown : (z : Size) (l : Lending) (h c : ℕ) (s : State) → Within z → Shaped s.books
    → ReadAsked z (length s.table) (length s.drafts) l.log s.books h c → IfGranted z l h c (read_of z s (place_of h) c)
unfolding read_of turned_back recorded
read_shown z l h c s w shape asked =
    one_of (IfGranted z l h c) (wrote (place_at s.books (place_of h)) c) _ _ (λ own e. own_shown z l h c s w shape asked own) λ other.
    either_judged (IfGranted z l h c) z s (place_of h) _ (λ e. absurd (omega arith)) (λ e. judged_shown z l h c s w shape asked other)

pub shown_is_recorded : ShownIsRecorded
unfolding issued read_rule refused
shown_is_recorded z l h c s w shape =
    refused_or (IfGranted z l h c) _ s _ (λ n other e. absurd (other e))
    (λ g. read_shown z l h c s w shape (read_asked z (length s.table) (length s.drafts) l.log s.books h c g))
