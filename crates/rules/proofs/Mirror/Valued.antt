-- Every call keeps table, drafts and day in step: a cell of the table has the value last committed to it, a live place's draft the value last
-- written, and every read of the day the value of its time. Rests on the mirror of the books in the day. Assumes nothing.
use Prim.Native.Nat.{ℕ, ◌<◌}
use mathlib.Core.Path.{◌≡◌, refl}
use mathlib.Core.Bool.{true}
use native.Mathlib.Omega.{arith}
use Rattle.basics.specs.Bytes.{AreBytes}
use Rattle.rules.specs.declared.Place.{Place}
use Rattle.rules.specs.Sizes.{Size, Within, width}
use Rattle.rules.specs.Books.{Books, place_at, freed, begun, with_place, opened, closed, lowest_free, number_of}
use Rattle.rules.specs.Handles.{place_of, named_place}
use Rattle.rules.specs.Kinds.{begin_kind, give_up_kind, kind_commits, kind_frees, kind_writes, kind_judged_read, kind_own_read}
use Rattle.rules.specs.Daylog.{no_value}
use Rattle.rules.specs.State.{State, Outcome, adds, refused, recorded, with_books, record_at}
use Rattle.rules.specs.Judged.{Judged, granted_of, turned_back}
use Rattle.rules.specs.Steps.{open_rule, begin_of, show_of, give_up_of, order_of, close_of}
use Rattle.rules.specs.Calls.{Call, Lending, owns, IsJudged, read_judged, commit_judged}
use Rattle.rules.specs.Kept.{LiveCaller, BeginAsked}
use Rattle.rules.specs.Run.{Machine, new_day, moved_on, after_call}
use Rattle.rules.specs.Runs.{Starts, value_taken}
use Rattle.rules.proofs.Calls.EachCall.{AskedOf, EachOutcome}
use Rattle.rules.proofs.Calls.JudgedStep.{judged_step}
use Rattle.rules.proofs.Log.KindLaws.{frees_only}
use Rattle.rules.proofs.Mirror.Mirrors.{Mirrored, Valued}
use Rattle.rules.proofs.Mirror.DayGrows.{NobodyLive, nobody_opened, nobody_closed, nobody_at_start, valued_new_day, reads_nothing, valued_quiet, stays_freed, stays_begun, changed_one, zeros_in_bytes, proper_at, begun_turn}
use Rattle.rules.proofs.Mirror.CellsRead.{valued_read, valued_own_read}
use Rattle.rules.proofs.Mirror.Callers.{caller_proper, caller_changed}
use Rattle.rules.proofs.Mirror.CellsWritten.{valued_write, valued_commit, valued_post}

-- a machine at the start of a day
pub valued_new : (z : Size) (m : Machine) → Starts z m → Valued z m
valued_new z m s =
    rw s.new
    (valued_new_day z m.state s.table.0 s.table.1 s.drafts.0 s.drafts.1 (nobody_at_start m.state.books s.books))

-- ---- every call

module _ (z : Size) (l : Lending) (m : Machine) (w : Within z) (mirror : Mirrored z m.state.books m.day) (valued : Valued z m) where
  -- what a call leaves, if the value that it takes is in bytes
  abbrev Then : Call → Outcome → Type 0
  Then c o = AreBytes (value_taken c) → Valued z (after_call m o)

  abbrev s : State
  s = m.state

  abbrev b : Books
  b = m.state.books

  -- a live caller's transaction ends: give up and both kinds of Conflict
  module _ (h : ℕ) (caller : LiveCaller z b h) where
    abbrev i : ℕ
    i = place_of h

    abbrev p : Place
    p = named_place b h

    valued_freed : (kind c : ℕ) → kind_frees kind ≡ true → c < width → Valued z (moved_on m (with_books s (with_place b i (freed p))) (adds (record_at kind i p c no_value)))
    valued_freed kind c k inside =
        let frees = frees_only kind k in
        valued_quiet z m valued (record_at kind i p c no_value) (with_place b i (freed p))
        (caller_proper z m mirror h caller w kind c no_value frees.small (omega arith) refl zeros_in_bytes)
        (reads_nothing m _ frees.judged_read frees.own_read) frees.commits frees.writes
        (caller_changed z m mirror h caller (freed p) (stays_freed p p))

  -- ---- a judged call, were it granted

  pub valued_judged : {c : Call} {h : ℕ} {j : Judged} → IsJudged z (owns m.state.books) m.state c h j → AskedOf z l m.state c
      → Valued z (after_call m (granted_of m.state (place_of h) j))
  valued_judged (read_judged h c other) asked = valued_read z l m w mirror valued h c asked
  valued_judged (commit_judged h) asked = valued_commit z l m w mirror valued h asked

  -- ---- a begin

  -- what it begins has written nothing
  valued_begin : BeginAsked z l.log b → Valued z (after_call m (begin_of z s))
  unfolding after_call begin_of recorded kind_commits kind_writes kind_judged_read kind_own_read
  valued_begin asked =
      let i = lowest_free z b in
      let p = begun (place_at b i) (number_of b) in
      valued_quiet z m valued (record_at begin_kind i p 0 no_value) (with_place b i p)
      (proper_at z begin_kind i p 0 no_value w (omega arith) asked.free (begun_turn (place_at b i) (number_of b)) (omega arith) refl zeros_in_bytes)
      (reads_nothing m _ refl refl) refl refl
      (changed_one z b i p mirror.shape (omega (arith, asked.free, w.places)) (stays_begun (place_at b i) (place_at b i) (number_of b)))

  -- ---- all of them

  -- an open and a close begin a new day on the table and the drafts as they are
  new_books : (after : Books) → NobodyLive after → Valued z (new_day (with_books s after))
  new_books after nobody =
      valued_new_day z (with_books s after) valued.table_length valued.table_in_bytes valued.drafts_length valued.drafts_in_bytes nobody

  -- every outcome of every call
  pub valued_each : EachOutcome z l m.state Then
  unfolding after_call moved_on refused open_rule show_of turned_back give_up_of order_of close_of recorded kind_frees
  valued_each =
      record {
        on_refused = λ c n k other bytes. valued;
        on_open = λ bytes. new_books opened nobody_opened;
        on_begin = λ asked bytes. valued_begin asked;
        on_write = λ h c value asked bytes. valued_write z l m w mirror valued h c value asked bytes;
        on_own_read = λ h c asked own bytes. valued_own_read z l m w mirror valued h c asked own;
        on_judged = λ judged asked free bytes. valued_judged judged asked;
        on_turned_back = λ {c} {h} {j} judged asked cycle bytes.
            let step = judged_step z l s judged asked in
            valued_freed h step.caller j.back j.cell step.frees (step.small w);
        on_show = λ given h c asked bytes. valued;
        on_give_up = λ h asked bytes. valued_freed h asked.caller give_up_kind 0 refl (omega arith);
        on_post = λ c value asked bytes. valued_post z l m w mirror valued c value asked bytes;
        on_order = λ h asked bytes. valued;
        on_close = λ asked bytes. new_books (closed b) (nobody_closed b);
      }
