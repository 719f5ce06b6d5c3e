-- The read-back half of runs: the day after a call is what a caller's view of the call tells, and the log as it stands reads back as the day.
-- Rests on the outcome of every call by cases, on handles, on what is shown behind a read and on the mirror of the books in the day. Assumes nothing.
use Prim.Native.Nat.{ℕ, ◌<◌}
use mathlib.Core.Path.{◌≡◌, refl, sym, ◌∙◌, ap, ap₂, subst}
use mathlib.Core.Logic.{◌≢◌}
use mathlib.Core.Bool.{true, cond}
use mathlib.Core.List.{List, [], ◌∷◌, ◌++◌}
use native.Mathlib.Omega.{arith}
use borrow.Author.Tests.{ne_eqb}
use Rattle.rules.specs.declared.Record.{Record}
use Rattle.rules.specs.Sizes.{Size, Within, handles_a_turn}
use Rattle.rules.specs.Books.{Books, place_at, wrote}
use Rattle.rules.specs.Handles.{handle_of, place_of}
use Rattle.rules.specs.Numbers.{granted, conflict}
use Rattle.rules.specs.Kinds.{begin_kind, judged_read_kind, own_read_kind, write_kind, commit_kind, give_up_kind, read_conflict_kind, commit_conflict_kind, post_kind}
use Rattle.rules.specs.Daylog.{AllProper, no_value, trailer, commit_total, day_bytes, standing, records_in, day_of, filled}
use Rattle.rules.specs.State.{State, Outcome, Entry, nothing, adds, closes, opens, entry_bytes, refused, recorded, record_at}
use Rattle.rules.specs.Judged.{Judged, granted_of, turned_back}
use Rattle.rules.specs.Steps.{own_read_of, judged_read, open_rule, begin_of, write_of, show_of, give_up_of, post_of, order_of, close_of, close_rule}
use Rattle.rules.specs.Calls.{Call, Open, Begin, Write, Read, Show, Commit, GiveUp, Post, Order, Close, issued, owns, IsJudged, read_judged, commit_judged}
use Rattle.rules.specs.Kept.{LiveCaller, ShowsRecorded}
use Rattle.rules.specs.Layout.{well_laid_out}
use Rattle.rules.specs.Run.{Machine, lends, outcome, new_day, moved_on, after_call, played}
use Rattle.rules.specs.Runs.{ran, record_of, read_kind, told, shown_on, shown_behind, told_call, told_run}
use Rattle.rules.proofs.Log.StandingLog.{records_in_standing, day_of_standing}
use Rattle.rules.proofs.Calls.EachCall.{handed_on, never_nine, AskedOf, EachOutcome, refused_or, each_call}
use Rattle.rules.proofs.Runs.Handled.{record_of_live, reads_own_is}
use Rattle.rules.proofs.Books.HandleLaws.{place_of_handle_of, turn_of_handle_of}
use Rattle.rules.proofs.Calls.Joined.{records_counted}
use Rattle.rules.proofs.Log.LaidOut.{standing_laid_out}
use Rattle.rules.proofs.Mirror.Mirrors.{Mirrored}
use Rattle.rules.proofs.Mirror.Mirrored.{mirrored_after}
use Rattle.rules.proofs.Calls.Shown.{shown_is_recorded}

-- ---- the log as it stands

-- the log as it stands is well laid out and reads back as the day
pub stands_right : (z : Size) (b : Books) (day : List Record) → Mirrored z b day → AllProper day
    → (well_laid_out z (standing day) ≡ true) × (day_of (standing day) (records_in (standing day)) ≡ day)
stands_right z b day mirror proper = (
  standing_laid_out z day mirror.walking (omega (arith, records_counted z b mirror.sound, mirror.counted)) proper,
  ap (day_of (standing day)) (records_in_standing day proper) ∙ day_of_standing day proper,
)

-- ---- what is told of one outcome

-- a record that names the transaction of the handle of a place and a turn
record_of_handle : (kind i t c : ℕ) (value : List ℕ) → i < handles_a_turn
    → record_of kind (handle_of i t) c value ≡ filled kind i c t value
record_of_handle kind i t c value near =
    ap₂ (λ place turn. filled kind place c turn value)
    (place_of_handle_of i t near) (turn_of_handle_of i t near)

-- the value of the record that an entry adds
unfoldable value_added : Entry → List ℕ
value_added nothing = []
value_added (adds r) = r.value
value_added (closes records total) = []
value_added opens = []

module _ (z : Size) (m : Machine) (w : Within z) (mirror : Mirrored z m.state.books m.day) where
  abbrev s : State
  s = m.state

  -- a caller's view of an outcome tells the day after it
  abbrev Tells : Call → Outcome → Type 0
  Tells c o = told m.day c o.number o.answer (shown_behind z c o.number (after_call m o)) ≡ (after_call m o).day

  -- .. if it is the outcome of that call
  abbrev TellsOwn : Call → Outcome → Type 0
  TellsOwn c o = o ≡ outcome z c m → Tells c o

  -- an opening is never refused
  open_granted : (n : ℕ) → refused n s ≡ outcome z Open m → n ≡ granted
  unfolding refused outcome issued open_rule
  open_granted n e = ap (λ (o : Outcome). o.number) e

  -- a refusal other than 9 tells nothing
  tells_refused : (c : Call) (n : ℕ) → n ≢ granted → (handed_on c ≢ conflict → n ≢ conflict) → TellsOwn c (refused n s)
  unfolding told after_call moved_on refused
  tells_refused Open n k j e = absurd (k (open_granted n e))
  tells_refused Begin n k j e = rw (ne_eqb n granted k)
  tells_refused (Write h c value) n k j e = rw (ne_eqb n granted k)
  tells_refused (Read h c) n k j e = rw (ne_eqb n granted k, ne_eqb n conflict (j never_nine))
  tells_refused (Show given h c) n k j e = refl
  tells_refused (Commit h) n k j e = rw (ne_eqb n granted k, ne_eqb n conflict (j never_nine))
  tells_refused (GiveUp h) n k j e = rw (ne_eqb n granted k)
  tells_refused (Post c value) n k j e = rw (ne_eqb n granted k)
  tells_refused (Order h) n k j e = refl
  tells_refused Close n k j e = rw (ne_eqb n granted k)

  -- what is told of a live transaction, and of one that begins at a place, is the record that the rules add
  live_told : (h : ℕ) → LiveCaller z s.books h → (kind c : ℕ) (value : List ℕ)
      → record_of kind h c value ∷ m.day ≡ record_at kind (place_of h) (place_at s.books (place_of h)) c value ∷ m.day
  live_told h caller kind c value = ap (λ (r : Record). r ∷ m.day) (record_of_live z s.books h caller kind c value)

  started_told : (kind i t c : ℕ) (value : List ℕ) → i < z.places
      → record_of kind (handle_of i t) c value ∷ m.day ≡ filled kind i c t value ∷ m.day
  started_told kind i t c value there = ap (λ (r : Record). r ∷ m.day) (record_of_handle kind i t c value (omega (arith, w.places)))

  -- ---- a granted read

  -- the outcome of a granted read shows what it records
  shows_own : (h c : ℕ) (o : Outcome) → o.number ≡ granted → o ≡ outcome z (Read h c) m → ShowsRecorded z (lends z m) h c o
  unfolding outcome
  shows_own h c o number e =
      let first : (outcome z (Read h c) m).number ≡ granted = sym (ap (λ (x : Outcome). x.number) e) ∙ number in
      subst (ShowsRecorded z (lends z m) h c) (sym e) (shown_is_recorded z (lends z m) h c s w mirror.shape first)

  -- so what is shown behind a read that adds this record is the record's value
  shown_of : (h c : ℕ) (o : Outcome) (r : Record) → o.number ≡ granted → o.entry ≡ adds r → o ≡ outcome z (Read h c) m
      → shown_on z (after_call m o) granted h c ≡ r.value
  unfolding shown_on outcome issued after_call moved_on value_added
  shown_of h c o r number entry e =
      let shows = shows_own h c o number e in
      let same : shows.recorded.value ≡ r.value = ap value_added (sym shows.added ∙ entry) in
      rw entry (shows.value ∙ same)

  -- and the record told of it is the one added
  read_told : (h c : ℕ) → LiveCaller z s.books h → c < z.cells → (kind : ℕ) (shown value : List ℕ)
      → cond (wrote (place_at s.books (place_of h)) c) own_read_kind judged_read_kind ≡ kind → shown ≡ value
      → record_of (read_kind m.day h c) h c shown ∷ m.day ≡ record_at kind (place_of h) (place_at s.books (place_of h)) c value ∷ m.day
  read_told h c caller cell kind shown value kinds e =
      rw (reads_own_is z m mirror h c caller cell, kinds, e) (live_told h caller kind c value)

  -- ---- a judged call

  granted_told : {c : Call} {h : ℕ} {j : Judged} → IsJudged z (owns s.books) s c h j → AskedOf z (lends z m) s c → TellsOwn c (granted_of s (place_of h) j)
  unfolding told after_call moved_on granted_of recorded
  granted_told (read_judged h c other) asked e =
      read_told h c asked.caller asked.cell judged_read_kind _ _ (rw other) (shown_of h c (granted_of s (place_of h) (judged_read z s (place_of h) c)) _ refl refl e)
  granted_told (commit_judged h) asked e = live_told h asked.caller commit_kind 0 no_value

  back_told : {c : Call} {h : ℕ} {j : Judged} → IsJudged z (owns s.books) s c h j → AskedOf z (lends z m) s c
      → Tells c (turned_back s j.back (place_of h) j.cell)
  unfolding told after_call moved_on turned_back recorded
  back_told (read_judged h c other) asked = live_told h asked.caller read_conflict_kind c no_value
  back_told (commit_judged h) asked = live_told h asked.caller commit_conflict_kind 0 no_value

  -- ---- every call

  -- each outcome of a call tells the day after it
  tells_each : EachOutcome z (lends z m) s TellsOwn
  unfolding told after_call moved_on new_day open_rule begin_of write_of own_read_of show_of give_up_of post_of order_of close_of recorded
  tells_each =
      record {
        on_refused = tells_refused;
        on_open = λ e. refl;
        on_begin = λ asked e. started_told begin_kind _ _ 0 no_value asked.free;
        on_write = λ h c value asked e. live_told h asked.caller write_kind c value;
        on_own_read = λ h c asked own e.
            read_told h c asked.caller asked.cell own_read_kind _ _ (rw own) (shown_of h c (own_read_of z s (place_of h) c) _ refl refl e);
        on_judged = λ judged asked free. granted_told judged asked;
        on_turned_back = λ judged asked cycle e. back_told judged asked;
        on_show = λ given h c asked e. refl;
        on_give_up = λ h asked e. live_told h asked.caller give_up_kind 0 no_value;
        on_post = λ c value asked e. started_told post_kind _ _ c value asked.free;
        on_order = λ h asked e. refl;
        on_close = λ asked e. refl;
      }

  -- what a caller sees of a call tells the day after it
  pub told_right : (c : Call) → told_call z c m m.day ≡ (after_call m (outcome z c m)).day
  unfolding told_call outcome
  told_right c = each_call z (lends z m) s TellsOwn tells_each c refl

  -- behind an outcome that is granted, the day's bytes and what it puts into the log stand
  abbrev Stands : Outcome → Type 0
  Stands o = o.number ≡ granted → day_bytes m.day ++ entry_bytes o.entry ≡ standing m.day

  -- a granted close writes the trailer that makes the log stand
  pub closes_right : let o = outcome z Close m in o.number ≡ granted → day_bytes m.day ++ entry_bytes o.entry ≡ standing m.day
  unfolding outcome issued close_rule close_of refused entry_bytes standing
  closes_right =
      refused_or Stands _ s _ (λ n other e. absurd (other e))
      (λ g e. ap (λ n. day_bytes m.day ++ trailer n (commit_total m.day)) mirror.counted)

-- ---- a run

-- the events of a run, told call by call, are its day
pub told_run_right : (z : Size) (calls : List Call) (m : Machine) → Within z → Mirrored z m.state.books m.day
    → told_run z calls m m.day ≡ (ran z calls m).day
unfolding told_run played
told_run_right z [] m w mirror = refl
told_run_right z (c ∷ calls) m w mirror =
    let next = after_call m (outcome z c m) in
    ap (told_run z calls next) (told_right z m w mirror c) ∙ told_run_right z calls next w (mirrored_after z m w mirror c)
