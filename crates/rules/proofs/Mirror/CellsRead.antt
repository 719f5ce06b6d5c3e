-- A read, were it granted, and a read of a written cell, keep table, drafts and day in step: what is recorded is the value of its time. Rests on the
-- mirror of the books in the day. Assumes nothing.
use Prim.Native.Nat.{ℕ}
use mathlib.Core.Path.{◌≡◌, refl, sym, ◌∙◌, ap}
use mathlib.Core.Bool.{true}
use lib.ListN.{length}
use native.Mathlib.Omega.{arith}
use borrow.Author.Tests.{eq-eqb}
use Rattle.basics.proofs.Bools.{never}
use Rattle.rules.specs.Sizes.{Size, Within}
use Rattle.rules.specs.Books.{Books, place_at, wrote, read_marked, with_place, with_record, number_of}
use Rattle.rules.specs.Handles.{place_of}
use Rattle.rules.specs.Cells.{cell_of, draft_of}
use Rattle.rules.specs.Kinds.{judged_read_kind, own_read_kind, kind_starts, kind_commits, kind_writes, kind_judged_read, kind_own_read}
use Rattle.rules.specs.State.{State, recorded, record_at}
use Rattle.rules.specs.Day.{events, written_value}
use Rattle.rules.specs.Judged.{books_granted, granted_of}
use Rattle.rules.specs.Steps.{own_read_of, judged_read}
use Rattle.rules.specs.Calls.{Lending}
use Rattle.rules.specs.Kept.{ReadAsked}
use Rattle.rules.specs.Run.{Machine, after_call}
use Rattle.rules.proofs.Books.CellLaws.{cell_length, cell_in_bytes, draft_length, draft_in_bytes}
use Rattle.rules.proofs.Mirror.Mirrors.{Mirrored, Valued}
use Rattle.rules.proofs.Mirror.DayGrows.{valued_quiet, stays_same, stays_read_marked}
use Rattle.rules.proofs.Mirror.Callers.{caller_proper, caller_whose, caller_changed}

module _ (z : Size) (l : Lending) (m : Machine) (w : Within z) (mirror : Mirrored z m.state.books m.day) (valued : Valued z m) where
  abbrev s : State
  s = m.state

  abbrev b : Books
  b = m.state.books

  -- a read, were it granted
  pub valued_read : (h c : ℕ) → ReadAsked z (length m.state.table) (length m.state.drafts) l.log m.state.books h c
      → Valued z (after_call m (granted_of m.state (place_of h) (judged_read z m.state (place_of h) c)))
  unfolding after_call granted_of recorded books_granted kind_commits kind_writes kind_judged_read kind_own_read
  valued_read h c asked =
      let p = place_at b (place_of h) in
      let value = cell_of s.table c in
      let eight = cell_length z.cells s.table valued.table_length c asked.cell in
      valued_quiet z m valued (record_at judged_read_kind (place_of h) p c value) (with_place b (place_of h) (read_marked p c (number_of b)))
      (caller_proper z m mirror h asked.caller w judged_read_kind c value (omega arith) (omega (arith, asked.cell, w.cells)) eight
      (cell_in_bytes s.table c valued.table_in_bytes))
      (record { judged = λ t. valued.table c asked.cell; own = never }) refl refl
      (caller_changed z m mirror h asked.caller _ (stays_read_marked p c (number_of b)))

  -- a read of a cell that the caller has written
  pub valued_own_read : (h c : ℕ) → ReadAsked z (length s.table) (length s.drafts) l.log b h c → wrote (place_at b (place_of h)) c ≡ true
      → Valued z (after_call m (own_read_of z s (place_of h) c))
  unfolding after_call own_read_of recorded with_record kind_starts kind_commits kind_writes kind_judged_read kind_own_read
  valued_own_read h c asked own =
      let i = place_of h in
      let p = place_at b i in
      let value = draft_of z s.drafts i c in
      let caller = asked.caller in
      let eight = draft_length z s.drafts valued.drafts_length i c caller.place asked.cell in
      let right = valued.drafts i caller.place (eq-eqb p.status 1 caller.live) c asked.cell own in
      let whose_it_is = caller_whose z m mirror h caller own_read_kind c value refl in
      valued_quiet z m valued (record_at own_read_kind i p c value) (with_record b)
      (caller_proper z m mirror h caller w own_read_kind c value (omega arith) (omega (arith, asked.cell, w.cells)) eight
      (draft_in_bytes z s.drafts i c valued.drafts_in_bytes))
      (record { judged = never; own = λ t. right ∙ ap (λ (k : ℕ). written_value (events m.day) k c) (sym whose_it_is) }) refl refl
      (λ j k. stays_same (place_at b j))
