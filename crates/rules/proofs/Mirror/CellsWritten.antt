-- The calls that change table or drafts keep them in step with the day: a write, a commit and a post. Rests on the mirror of the books in the
-- day and on the laws of cells. Assumes nothing.
use Prim.Native.Nat.{ℕ, suc, ◌<◌}
use mathlib.Core.Path.{◌≡◌, refl, sym, ◌∙◌, ap}
use mathlib.Core.Logic.{◌≢◌}
use mathlib.Core.Bool.{true, false, ◌&&◌}
use mathlib.Core.List.{List, ◌∷◌}
use lib.ListN.{length}
use lib.Dec.{eqb}
use lib.Seq.{get_or-set_other}
use native.Mathlib.Omega.{arith}
use borrow.Author.Tests.{eqb-true, eq-eqb}
use Rattle.basics.specs.Bytes.{AreBytes}
use Rattle.basics.proofs.Bools.{split, equal_or_not, cond_passes, cond_fails}
use Rattle.rules.specs.declared.Place.{Place}
use Rattle.rules.specs.declared.Record.{Record}
use Rattle.rules.specs.Sizes.{Size, Within, cell_bytes}
use Rattle.rules.specs.Books.{Books, place_at, is_live, wrote, posted, marked, sealed, with_place, lowest_free, number_of}
use Rattle.rules.specs.Handles.{place_of}
use Rattle.rules.specs.Cells.{draft_of, with_cell, with_draft, laid_over}
use Rattle.rules.specs.Kinds.{write_kind, commit_kind, post_kind, kind_starts, kind_commits, kind_writes, kind_judged_read, kind_own_read}
use Rattle.rules.specs.Daylog.{no_value}
use Rattle.rules.specs.State.{State, recorded, record_at}
use Rattle.rules.specs.Day.{Event, event, events, wrote_cell, written_value}
use Rattle.rules.specs.Judged.{books_granted, granted_of}
use Rattle.rules.specs.Steps.{judged_commit, write_of, post_of}
use Rattle.rules.specs.Calls.{Lending}
use Rattle.rules.specs.Kept.{WriteAsked, CommitAsked, PostAsked}
use Rattle.rules.specs.Run.{Machine, after_call}
use Rattle.rules.proofs.Books.HandleLaws.{place_of_below}
use Rattle.rules.proofs.Day.Events.{begin_bound, whose_starts}
use Rattle.rules.proofs.Day.Moments.{none_yet}
use Rattle.rules.proofs.Books.CellLaws.{with_cell_length, with_cell_in_bytes, cell_put, cell_elsewhere, draft_length, draft_in_bytes, with_draft_length, with_draft_in_bytes, draft_put, draft_of_other, draft_elsewhere, laid_over_bytes, laid_over_length, laid_over_at}
use Rattle.rules.proofs.Day.LastWrites.{wrote_past, value_past, wrote_elsewhere, value_elsewhere, value_of_other, wrote_here, value_here, last_elsewhere, last_here}
use Rattle.rules.proofs.Mirror.Mirrors.{Mirrored, Valued}
use Rattle.rules.proofs.Mirror.Callers.{live_holds, live_differ, caller_proper, caller_whose, caller_changed}
use Rattle.rules.proofs.Mirror.DayGrows.{DraftRight, DraftsRight, TableRight, reads_nothing, valued_adds, table_past, drafts_past, stays_sealed, stays_posted, changed_one, drafts_changed, zeros_in_bytes, proper_at, posted_turn}

-- ---- the three calls

module _ (z : Size) (l : Lending) (m : Machine) (w : Within z) (mirror : Mirrored z m.state.books m.day) (valued : Valued z m) where
  abbrev s : State
  s = m.state

  abbrev b : Books
  b = m.state.books

  abbrev es : List Event
  es = events m.day

  -- ---- a write

  module _ (h c : ℕ) (value : List ℕ) (asked : WriteAsked z (length value) (length s.drafts) l.log b h c) where
    abbrev writer : ℕ
    writer = place_of h

    abbrev writing : Place
    writing = place_at b writer

    abbrev write_record : Record
    write_record = record_at write_kind writer writing c value

    abbrev the_write : Event
    the_write = event m.day write_record

    -- the event is the caller's, and no other live place's
    writer_whose : the_write.who ≡ writing.begin
    unfolding event kind_starts
    writer_whose = caller_whose z m mirror h asked.caller write_kind c value refl

    not_others : (j : ℕ) → j < z.places → (place_at b j).status ≡ 1 → j ≢ writer → the_write.who ≢ (place_at b j).begin
    not_others j k live other e =
        other (sym (live_differ z m mirror writer j asked.caller.place k asked.caller.live live (sym writer_whose ∙ e)))

    -- a draft of the caller: the written cell has the value, another what it had
    own_draft : DraftRight z (with_draft z writer c value s.drafts) (the_write ∷ es) writer (marked writing c)
    unfolding marked event kind_writes
    own_draft live d k own =
        equal_or_not d c
        (λ e. rw e
        (draft_put z s.drafts asked.drafts_right writer c asked.caller.place asked.cell value asked.value_right
        ∙ sym (value_here the_write es writing.begin c writer_whose refl refl)))
        (λ other.
        draft_elsewhere z s.drafts asked.drafts_right writer c asked.caller.place asked.cell value asked.value_right d other
        ∙ valued.drafts writer asked.caller.place (eq-eqb writing.status 1 asked.caller.live) d k
        (sym (get_or-set_other writing.written c d true false other) ∙ own)
        ∙ sym (value_elsewhere the_write es writing.begin d (λ e. other (sym e))))

    -- a draft of another live place has what it had
    other_draft : (j : ℕ) → j < z.places → j ≢ writer → DraftRight z (with_draft z writer c value s.drafts) (the_write ∷ es) j (place_at b j)
    other_draft j k other live d kd own =
        draft_of_other z s.drafts asked.drafts_right writer c asked.caller.place asked.cell value asked.value_right j d kd other
        ∙ valued.drafts j k live d kd own
        ∙ sym (value_of_other the_write es (place_at b j).begin d (not_others j k (eqb-true _ 1 live) other))

    -- so all drafts are right
    drafts_written : DraftsRight z (with_place b writer (marked writing c)) (with_draft z writer c value s.drafts) (the_write ∷ es)
    drafts_written =
        drafts_changed z b writer (marked writing c) (with_draft z writer c value s.drafts) (the_write ∷ es) mirror.shape (place_of_below h)
        own_draft other_draft

    -- a write keeps all in step
    pub valued_write : AreBytes value → Valued z (after_call m (write_of z s (place_of h) c value))
    unfolding after_call write_of recorded kind_commits kind_judged_read kind_own_read
    valued_write bytes =
        valued_adds z m valued write_record _
        (caller_proper z m mirror h asked.caller w write_kind c value (omega arith) (omega (arith, asked.cell, w.cells)) asked.value_right bytes)
        (reads_nothing m write_record refl refl) (valued.table_length, valued.table_in_bytes) (
          with_draft_length z s.drafts asked.drafts_right writer c asked.caller.place asked.cell value asked.value_right,
          with_draft_in_bytes z writer c value s.drafts bytes valued.drafts_in_bytes,
        )
        (table_past z m valued write_record refl) drafts_written

  -- ---- a commit

  module _ (h : ℕ) (asked : CommitAsked z (length s.table) (length s.drafts) l.log b h) where
    abbrev at : ℕ
    at = place_of h

    abbrev committing : Place
    committing = place_at b at

    abbrev commit_record : Record
    commit_record = record_at commit_kind at committing 0 no_value

    abbrev the_commit : Event
    the_commit = event m.day commit_record

    -- the event is the caller's
    committer_whose : the_commit.who ≡ committing.begin
    unfolding event kind_starts
    committer_whose = caller_whose z m mirror h asked.caller commit_kind 0 no_value refl

    -- the caller's transaction wrote what its place has written
    committer_wrote : (c : ℕ) → c < z.cells → wrote_cell (the_commit ∷ es) the_commit.who c ≡ wrote committing c
    unfolding event kind_writes
    committer_wrote c k =
        wrote_past the_commit es the_commit.who c refl
        ∙ ap (λ (t : ℕ). wrote_cell es t c) committer_whose
        ∙ (live_holds z m mirror at asked.caller.place asked.caller.live).written c k

    -- each of its drafts has 8 bytes
    eight_each : (c : ℕ) → c < z.cells → length (draft_of z s.drafts at c) ≡ cell_bytes
    eight_each c k = draft_length z s.drafts valued.drafts_length at c asked.caller.place k

    -- a written cell has the caller's last value, another what it had
    table_committed : TableRight z m.opening (laid_over z (wrote committing) (draft_of z s.drafts at) s.table) (the_commit ∷ es)
    unfolding event kind_commits kind_writes
    table_committed c k =
        laid_over_at z (wrote committing) (draft_of z s.drafts at) s.table valued.table_length eight_each c k
        ∙ split (wrote committing c)
        (λ own.
        cond_passes _ _ own
        ∙ valued.drafts at asked.caller.place (eq-eqb committing.status 1 asked.caller.live) c k own
        ∙ sym (
        last_here the_commit es m.opening c refl (committer_wrote c k ∙ own)
        ∙ value_past the_commit es the_commit.who c refl
        ∙ ap (λ (t : ℕ). written_value es t c) committer_whose))
        (λ other.
        cond_fails _ _ other
        ∙ valued.table c k
        ∙ sym (last_elsewhere the_commit es m.opening c (committer_wrote c k ∙ other)))

    -- the drafts of those still live are as they were
    drafts_committed : DraftsRight z (with_place b at (sealed committing (number_of b))) s.drafts (the_commit ∷ es)
    unfolding event kind_writes
    drafts_committed =
        let q = sealed committing (number_of b) in
        drafts_past z m valued commit_record (with_place b at q)
        (caller_changed z m mirror h asked.caller q (stays_sealed committing committing (number_of b)))
        (λ i k live c. value_past the_commit es (place_at b i).begin c refl)

    -- a commit, were it granted, keeps all in step
    pub valued_commit : Valued z (after_call m (granted_of s at (judged_commit z s at)))
    unfolding after_call granted_of books_granted recorded kind_judged_read kind_own_read
    valued_commit =
        valued_adds z m valued commit_record _
        (caller_proper z m mirror h asked.caller w commit_kind 0 no_value (omega arith) (omega arith) refl zeros_in_bytes)
        (reads_nothing m commit_record refl refl) (
          laid_over_length z (wrote committing) (draft_of z s.drafts at) s.table valued.table_length eight_each,
          laid_over_bytes z (wrote committing) (draft_of z s.drafts at) s.table (λ c. draft_in_bytes z s.drafts at c valued.drafts_in_bytes)
              valued.table_in_bytes,
        ) (valued.drafts_length, valued.drafts_in_bytes) table_committed drafts_committed

  -- ---- a post

  module _ (c : ℕ) (value : List ℕ) (asked : PostAsked z (length value) (length s.table) l.log b c) where
    abbrev taken : ℕ
    taken = lowest_free z b

    abbrev posting : Place
    posting = posted (place_at b taken) c (number_of b)

    abbrev post_record : Record
    post_record = record_at post_kind taken posting c value

    abbrev the_post : Event
    the_post = event m.day post_record

    -- its transaction is new
    poster_whose : the_post.who ≡ suc (length m.day)
    unfolding event kind_starts
    poster_whose = whose_starts m.day post_record refl

    -- the posted cell has the value, another what it had
    table_posted : TableRight z m.opening (with_cell c value s.table) (the_post ∷ es)
    unfolding event kind_commits kind_writes wrote_cell
    table_posted d k =
        equal_or_not d c
        (λ e. rw e (
        cell_put z.cells s.table valued.table_length c asked.cell value asked.value_right
        ∙ sym (
        last_here the_post es m.opening c refl (wrote_here the_post es the_post.who c refl refl refl)
        ∙ value_here the_post es the_post.who c refl refl refl)))
        (λ other.
        cell_elsewhere z.cells s.table valued.table_length c asked.cell value asked.value_right d other
        ∙ valued.table d k
        ∙ sym (last_elsewhere the_post es m.opening d (
        wrote_elsewhere the_post es the_post.who d (λ e. other (sym e))
        ∙ ap (λ (t : ℕ). wrote_cell es t d) poster_whose
        ∙ none_yet (λ f. kind_writes f.kind && eqb f.cell d) m.day (suc (length m.day)) (omega arith))))

    -- no live place holds it
    not_posted : (i : ℕ) → i < z.places → is_live (place_at b i) ≡ true → the_post.who ≢ (place_at b i).begin
    not_posted i k live e = omega (arith, poster_whose, e, (live_holds z m mirror i k (eqb-true _ 1 live)).begin, begin_bound m.day i)

    -- so the drafts stay right
    drafts_posted : DraftsRight z (with_place b taken posting) s.drafts (the_post ∷ es)
    drafts_posted =
        drafts_past z m valued post_record (with_place b taken posting)
        (changed_one z b taken posting mirror.shape (omega (arith, asked.free, w.places))
        (stays_posted (place_at b taken) (place_at b taken) c (number_of b)))
        (λ i k live d. value_of_other the_post es (place_at b i).begin d (not_posted i k live))

    -- a post keeps all in step
    pub valued_post : AreBytes value → Valued z (after_call m (post_of z s c value))
    unfolding after_call post_of recorded kind_judged_read kind_own_read
    valued_post bytes =
        valued_adds z m valued post_record _
        (proper_at z post_kind taken posting c value w (omega arith) asked.free (posted_turn (place_at b taken) c (number_of b))
        (omega (arith, asked.cell, w.cells)) asked.value_right bytes)
        (reads_nothing m post_record refl refl) (
          with_cell_length z.cells s.table valued.table_length c asked.cell value asked.value_right,
          with_cell_in_bytes c value s.table bytes valued.table_in_bytes,
        ) (valued.drafts_length, valued.drafts_in_bytes) table_posted drafts_posted
