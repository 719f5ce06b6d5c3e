-- Every call keeps the books and the day's records mirroring each other. Rests on soundness and shape being kept, on what is asked of each call and on
-- the step of one record. Assumes nothing.
use Prim.Native.Nat.{ℕ, suc, ◌<◌}
use mathlib.Core.Path.{◌≡◌, refl, sym, ◌∙◌, ap, subst}
use mathlib.Core.Logic.Iff
use mathlib.Core.Bool.{true, false, cond, ◌&&◌}
use mathlib.Core.List.{List, ◌∷◌}
use lib.ListN.{length}
use lib.Dec.{ltb, eqb}
use native.Mathlib.Omega.{arith}
use borrow.Author.Tests.{eq-eqb, lt-ltb}
use Rattle.basics.specs.Lists.{member}
use Rattle.basics.specs.Bytes.{same}
use Rattle.basics.proofs.Bools.{and_both, never}
use Rattle.basics.proofs.Says.{not_says, if_says}
use Rattle.rules.specs.declared.Place.{Place}
use Rattle.rules.specs.declared.Record.{Record}
use Rattle.rules.specs.Sizes.{Size, Within, width}
use Rattle.rules.specs.Books.{Books, Shaped, place_at, wrote, freed, begun, posted, marked, with_place, with_record, lowest_free, number_of}
use Rattle.rules.specs.Handles.{place_of, named_place}
use Rattle.rules.specs.Sound.{Sound}
use Rattle.rules.specs.Cells.{draft_of}
use Rattle.rules.specs.Kinds.{kind_known, begin_kind, judged_read_kind, own_read_kind, write_kind, commit_kind, give_up_kind, read_conflict_kind, commit_conflict_kind, post_kind, kind_starts, kind_frees, kind_own_read, kind_table_read, kind_has_cell, kind_has_value}
use Rattle.rules.specs.Daylog.{no_value}
use Rattle.rules.specs.Layout.{seat, fits, fields_right}
use Rattle.rules.specs.State.{Outcome, refused, recorded, record_at}
use Rattle.rules.specs.Judged.{Judged, books_granted, granted_of, turned_back}
use Rattle.rules.specs.Steps.{own_read_of, open_rule, begin_of, write_of, show_of, give_up_of, post_of, order_of, close_of}
use Rattle.rules.specs.Calls.{Call, Lending, owns, IsJudged, read_judged, commit_judged}
use Rattle.rules.specs.Kept.{LiveCaller, BeginAsked, WriteAsked, ReadAsked, PostAsked}
use Rattle.rules.specs.Run.{Machine, lends, outcome, new_day, moved_on, after_call}
use Rattle.rules.proofs.Mirror.Mirrors.{Holds, Mirrors, Mirrored}
use Rattle.rules.proofs.Calls.Asked.{lowest_is_free}
use Rattle.rules.proofs.Calls.EachCall.{AskedOf, EachOutcome, each_call}
use Rattle.rules.proofs.Calls.JudgedStep.{allowed, wide_caller, judged_step}
use Rattle.rules.proofs.Log.KindLaws.{frees_only}
use Rattle.rules.proofs.Books.Shape.{wide_freed, place_at_same, place_at_other, shaped_with_place}
use Rattle.rules.proofs.Calls.SoundCalls.{shape_judged, shape_each, sound_judged, sound_each}
use Rattle.rules.proofs.Log.Seats.{LiveSeat}
use Rattle.rules.proofs.Mirror.Callers.{caller_mirrors, caller_holds}
use Rattle.rules.proofs.Mirror.MirrorNew.{mirrored_opened, mirrored_closed}
use Rattle.rules.proofs.Mirror.MirrorStep.{mirrored_more}
use Rattle.rules.proofs.Mirror.MirrorKinds.{mirrors_freed, mirrors_begun, mirrors_posted, mirrors_marked, mirrors_own_read, mirrors_read, mirrors_sealed}

-- ---- the record of a call

-- it is right by itself
right : (z : Size) (r : Record) → kind_known r.kind ≡ true → r.place < z.places
    → cond (kind_has_cell r.kind) (ltb r.cell z.cells) (eqb r.cell 0) ≡ true
    → (eqb r.spare 0 && eqb r.gap 0) && cond (kind_has_value r.kind) true (same r.value no_value) ≡ true → fields_right z r ≡ true
unfolding fields_right
right z r kind place cell unused = and_both _ _ kind (and_both _ _ (lt-ltb r.place z.places place) (and_both _ _ cell unused))

module _ (day : List Record) (r : Record) where
  -- begin and post fit at a free place
  fits_free : kind_starts r.kind ≡ true → (seat day r.place).status ≡ 0 → fits day r ≡ true
  unfolding fits
  fits_free k free = rw (k, free)

  -- the other kinds fit at a live one with its turn, if the cell is written or unwritten as they ask
  fits_caller : kind_starts r.kind ≡ false → LiveSeat r.turn (seat day r.place)
      → (kind_own_read r.kind ≡ true → member r.cell (seat day r.place).written ≡ true)
      → (kind_table_read r.kind ≡ true → member r.cell (seat day r.place).written ≡ false)
      → fits day r ≡ true
  unfolding fits
  fits_caller k live own unwritten =
      rw (k, live.0, eq-eqb _ _ live.1)
      (and_both _ _ ((if_says (kind_own_read r.kind) Iff.rfl).1 own)
      ((if_says (kind_table_read r.kind) (not_says _)).1 unwritten))

-- ---- every call

module _ (z : Size) (l : Lending) (m : Machine) (w : Within z) (mirror : Mirrored z m.state.books m.day) where
  abbrev b : Books
  b = m.state.books

  abbrev day : List Record
  day = m.day

  -- a record's number
  number : number_of b ≡ suc (length day)
  number = omega (arith, mirror.counted)

  -- one record, and its place changed
  changed : (r : Record) (q : Place) → r.place < z.places → fields_right z r ≡ true → fits day r ≡ true → Mirrors z (r ∷ day) r.place q
      → Shaped (with_place b r.place q) → Sound z (with_place b r.place q) → Mirrored z (with_place b r.place q) (r ∷ day)
  unfolding with_place
  changed r q there right fit here shape sound =
      let same = place_at_same r.place q mirror.shape (omega (arith, w.places)) in
      mirrored_more z b (with_place b r.place q) r day mirror there (λ j h other. place_at_other b r.place j q other) right fit
      (subst (Mirrors z (r ∷ day) r.place) (sym same) here) shape sound refl

  -- the place of a live caller
  module _ (h : ℕ) (caller : LiveCaller z b h) where
    abbrev i : ℕ
    i = place_of h

    abbrev p : Place
    p = named_place b h

    here : Mirrors z day i p
    here = caller_mirrors z m mirror h caller

    held : Holds z day i p
    held = caller_holds z m mirror h caller

    -- a record that starts nothing, and what it asks of its cell
    caller_fits : (kind c : ℕ) (value : List ℕ) → kind_starts kind ≡ false → (kind_own_read kind ≡ true → (c < z.cells) × (wrote p c ≡ true))
        → (kind_table_read kind ≡ true → (c < z.cells) × (wrote p c ≡ false))
        → fits day (record_at kind i p c value) ≡ true
    caller_fits kind c value k own unwritten =
        fits_caller day (record_at kind i p c value) k (here.status ∙ caller.live, held.turn)
        (λ e. let o = own e in held.cells c o.0 ∙ o.1) (λ e. let o = unwritten e in held.cells c o.0 ∙ o.1)

    -- a record that frees the place
    caller_freed : (kind c : ℕ) → let r = record_at kind i p c no_value in
        kind_frees kind ≡ true → cond (kind_has_cell kind) (ltb c z.cells) (eqb c 0) ≡ true → fits day r ≡ true → Sound z (with_place b i (freed p))
        → Mirrored z (with_place b i (freed p)) (r ∷ day)
    unfolding same
    caller_freed kind c k cell fit sound =
        let r = record_at kind i p c no_value in
        changed r (freed p) caller.place (right z r (frees_only kind k).known caller.place cell (allowed (kind_has_value kind) _ (λ e. refl))) fit
        (mirrors_freed z day i p r refl k) (shaped_with_place i (wide_freed p) mirror.shape) sound

  -- ---- a judged call

  -- what the records of a judged call are behind the day: that which it would add, with whatever value, and that of its Conflict
  record RecordsFit (h : ℕ) (j : Judged) : Type 0 where
    known : kind_known j.kind ≡ true
    fit : (value : List ℕ) → fits day (record_at j.kind (place_of h) (place_at b (place_of h)) j.cell value) ≡ true
    mirrors : (value : List ℕ) → Mirrors z (record_at j.kind (place_of h) (place_at b (place_of h)) j.cell value ∷ day) (place_of h) j.place
    back_fit : fits day (record_at j.back (place_of h) (place_at b (place_of h)) j.cell no_value) ≡ true

  -- each of the judged calls
  records_fit : {c : Call} {h : ℕ} {j : Judged} → IsJudged z (owns b) m.state c h j → AskedOf z l m.state c → RecordsFit h j
  unfolding kind_starts kind_own_read kind_table_read
  records_fit (read_judged h c other) asked =
      let caller = asked.caller in
      record {
        known = refl;
        fit = λ value. caller_fits h caller judged_read_kind c value refl never (λ e. (asked.cell, other));
        mirrors = λ value.
            mirrors_read z day (place_of h) _ (number_of b) number (here h caller) caller.live c value (omega (arith, w.cells, asked.cell)) (wide_caller h mirror.shape);
        back_fit = caller_fits h caller read_conflict_kind c no_value refl never (λ e. (asked.cell, other));
      }
  records_fit (commit_judged h) asked =
      let caller = asked.caller in
      record {
        known = refl;
        fit = λ value. caller_fits h caller commit_kind 0 value refl never never;
        mirrors = mirrors_sealed z day (place_of h) _ (number_of b) number (here h caller) caller.live;
        back_fit = caller_fits h caller commit_conflict_kind 0 no_value refl never never;
      }

  -- were it granted, with whatever value where its kind has one
  pub mirrored_judged : {c : Call} {h : ℕ} {j : Judged} → IsJudged z (owns m.state.books) m.state c h j → AskedOf z l m.state c → (value : List ℕ)
      → cond (kind_has_value j.kind) true (same value no_value) ≡ true
      → Mirrored z (books_granted m.state.books (place_of h) j) (record_at j.kind (place_of h) (place_at m.state.books (place_of h)) j.cell value ∷ m.day)
  unfolding books_granted
  mirrored_judged {c} {h} {j} judged asked value allowed =
      let step = judged_step z l m.state judged asked in
      let records = records_fit judged asked in
      let there = step.caller.place in
      changed _ j.place there (right z _ records.known there step.cell_right allowed) (records.fit value) (records.mirrors value)
      (shape_judged z l m.state mirror.shape step) (sound_judged z l m.state mirror.shape w mirror.sound step)

  -- the books and the day after an outcome mirror each other
  abbrev Keeps : Outcome → Type 0
  Keeps o = Mirrored z (after_call m o).state.books (after_call m o).day

  -- they stay in shape and sound
  shapes : EachOutcome z l m.state (λ c o. Shaped o.after.books)
  shapes = shape_each z l m.state mirror.shape

  sounds : EachOutcome z l m.state (λ c o. Sound z o.after.books)
  sounds = sound_each z l m.state mirror.shape w mirror.sound

  -- begin and post take the lowest free place
  lowest_fits : (r : Record) → r.place ≡ lowest_free z b → r.place < z.places → kind_starts r.kind ≡ true → fits day r ≡ true
  lowest_fits r lowest there k =
      fits_free day r k ((mirror.places r.place there).status ∙ ap (λ j. (place_at b j).status) lowest ∙ lowest_is_free z b (omega arith))

  keeps_begin : BeginAsked z l.log b → Keeps (begin_of z m.state)
  unfolding after_call moved_on begin_of recorded kind_starts kind_has_cell kind_has_value same
  keeps_begin asked =
      let i = lowest_free z b in
      let q = begun (place_at b i) (number_of b) in
      let r = record_at begin_kind i q 0 no_value in
      changed r q asked.free (right z r refl asked.free refl refl) (lowest_fits r refl asked.free refl)
      (mirrors_begun z day i (place_at b i) (number_of b) number) (shapes.on_begin asked) (sounds.on_begin asked)

  keeps_post : (c : ℕ) (value : List ℕ) → PostAsked z (length value) (length m.state.table) l.log b c → Keeps (post_of z m.state c value)
  unfolding after_call moved_on post_of recorded kind_starts kind_has_cell kind_has_value
  keeps_post c value asked =
      let i = lowest_free z b in
      let q = posted (place_at b i) c (number_of b) in
      let r = record_at post_kind i q c value in
      let inside : c < width = omega (arith, w.cells, asked.cell) in
      changed r q asked.free (right z r refl asked.free (lt-ltb c z.cells asked.cell) refl) (lowest_fits r refl asked.free refl)
      (mirrors_posted z day i (place_at b i) (number_of b) number c value inside) (shapes.on_post c value asked) (sounds.on_post c value asked)

  -- a write marks the cell at its caller's place
  keeps_write : (h c : ℕ) (value : List ℕ) → WriteAsked z (length value) (length m.state.drafts) l.log b h c
      → Keeps (write_of z m.state (place_of h) c value)
  unfolding after_call moved_on write_of recorded kind_starts kind_own_read kind_table_read kind_has_cell kind_has_value
  keeps_write h c value asked =
      let caller = asked.caller in
      let i = place_of h in
      let p = place_at b i in
      let r = record_at write_kind i p c value in
      let inside : c < length p.written = omega (arith, w.cells, asked.cell, (wide_caller h mirror.shape).written) in
      changed r (marked p c) caller.place (right z r refl caller.place (lt-ltb c z.cells asked.cell) refl)
      (caller_fits h caller write_kind c value refl never never)
      (mirrors_marked z day i p (number_of b) number (here h caller) caller.live c value inside) (shapes.on_write h c value asked)
      (sounds.on_write h c value asked)

  -- an own read changes no place
  keeps_own_read : (h c : ℕ) → ReadAsked z (length m.state.table) (length m.state.drafts) l.log b h c
      → wrote (place_at b (place_of h)) c ≡ true → Keeps (own_read_of z m.state (place_of h) c)
  unfolding after_call moved_on own_read_of recorded with_record kind_starts kind_own_read kind_table_read kind_has_cell kind_has_value
  keeps_own_read h c asked own =
      let caller = asked.caller in
      let i = place_of h in
      let p = place_at b i in
      let value = draft_of z m.state.drafts i c in
      let r = record_at own_read_kind i p c value in
      mirrored_more z b (with_record b) r day mirror caller.place (λ j k other. refl)
      (right z r refl caller.place (lt-ltb c z.cells asked.cell) refl)
      (caller_fits h caller own_read_kind c value refl (λ e. (asked.cell, own)) never)
      (mirrors_own_read z day i p (number_of b) number (here h caller) caller.live c value) (shapes.on_own_read h c asked own)
      (sounds.on_own_read h c asked own) refl

  -- so does every outcome
  pub mirrored_each : EachOutcome z l m.state (λ c o. Mirrored z (after_call m o).state.books (after_call m o).day)
  unfolding after_call moved_on new_day refused open_rule granted_of show_of turned_back give_up_of order_of close_of recorded kind_starts kind_own_read kind_table_read kind_frees kind_has_cell kind_has_value
  mirrored_each =
      record {
        on_refused = λ c n k j. mirror;
        on_open = mirrored_opened z w;
        on_begin = keeps_begin;
        on_write = keeps_write;
        on_own_read = keeps_own_read;
        on_judged = λ judged asked free. mirrored_judged judged asked _ (judged_step z l m.state judged asked).value_right;
        on_turned_back = λ {c} {h} {j} judged asked cycle.
            let step = judged_step z l m.state judged asked in
            caller_freed h step.caller j.back j.cell step.frees step.back_cell_right (records_fit judged asked).back_fit
            (sounds.on_turned_back judged asked cycle);
        on_show = λ given h c asked. mirror;
        on_give_up = λ h asked.
            let caller = asked.caller in
            caller_freed h caller give_up_kind 0 refl refl (caller_fits h caller give_up_kind 0 no_value refl never never) (sounds.on_give_up h asked);
        on_post = keeps_post;
        on_order = λ h asked. mirror;
        on_close = λ asked. mirrored_closed z w b mirror.shape;
      }

-- so does every call on a machine
pub mirrored_after : (z : Size) (m : Machine) → Within z → Mirrored z m.state.books m.day → (c : Call)
    → Mirrored z (after_call m (outcome z c m)).state.books (after_call m (outcome z c m)).day
unfolding outcome
mirrored_after z m w mirror c = each_call z (lends z m) m.state _ (mirrored_each z (lends z m) m w mirror) c
