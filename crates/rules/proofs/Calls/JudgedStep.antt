-- What is known of any judged call that nothing refuses: the caller is live, the place that it would leave holds the same transaction and fits, and
-- its record and that of its Conflict are of the right kinds. Rests on what is asked of the calls that are judged. Assumes nothing.
use Prim.Native.Nat.{ℕ, ◌<◌}
use mathlib.Core.Path.{◌≡◌, refl, ap}
use mathlib.Core.Bool.{Bool, true, false, cond}
use lib.ListN.{length}
use lib.Dec.{ltb, eqb}
use native.Mathlib.Omega.{arith}
use borrow.Author.Tests.{lt-ltb}
use Rattle.basics.specs.Bytes.{same}
use Rattle.rules.specs.Sizes.{Size, Within, cell_bytes, width}
use Rattle.rules.specs.Books.{Books, Shaped, place_at, held_status, is_held, read_marked, sealed}
use Rattle.rules.specs.Handles.{place_of}
use Rattle.rules.specs.Kinds.{kind_starts, kind_conflict, kind_frees, kind_has_cell, kind_has_value, granted_kind}
use Rattle.rules.specs.Daylog.{no_value}
use Rattle.rules.specs.State.{State}
use Rattle.rules.specs.Judged.{Judged}
use Rattle.rules.specs.Calls.{Call, Lending, owns, IsJudged, read_judged, commit_judged}
use Rattle.rules.specs.Kept.{LiveCaller}
use Rattle.rules.proofs.Books.CellLaws.{cell_length}
use Rattle.rules.proofs.Calls.EachCall.{AskedOf}
use Rattle.rules.proofs.Books.HandleLaws.{place_of_below}
use Rattle.rules.proofs.Books.Shape.{Wide, wide_read_marked, wide_sealed, shaped_wide}
use Rattle.rules.proofs.Books.SoundStep.{Fits}
use Rattle.rules.proofs.Books.SoundChanges.{fits_read_marked, fits_sealed}

-- any value where a kind has one, zero where it has none
pub allowed : (has unused : Bool) → (has ≡ false → unused ≡ true) → cond has true unused ≡ true
allowed true unused h = refl
allowed false unused h = h refl

-- ---- one call

pub record JudgedStep (z : Size) (s : State) (h : ℕ) (j : Judged) : Type 0 where
  pub caller : LiveCaller z s.books h
  -- the place that it would leave: held by the same transaction, in the arrays, and it may stand where the caller's stood
  pub held : is_held j.place ≡ true
  pub begin : j.place.begin ≡ (place_at s.books (place_of h)).begin
  pub wide : Shaped s.books → Wide j.place
  pub fits : Within z → Shaped s.books → Fits z s.books (place_at s.books (place_of h)) j.place
  -- the record that it would add: it starts nothing and is no Conflict
  pub goes_on : kind_starts j.kind ≡ false
  pub no_conflict : kind_conflict j.kind ≡ false
  pub cell_right : cond (kind_has_cell j.kind) (ltb j.cell z.cells) (eqb j.cell 0) ≡ true
  pub value_right : cond (kind_has_value j.kind) true (same j.value no_value) ≡ true
  pub eight : length j.value ≡ cell_bytes
  -- that of its Conflict: it frees the place, and granted would have been the other
  pub frees : kind_frees j.back ≡ true
  pub as_granted : granted_kind j.back ≡ j.kind
  pub back_cell_right : cond (kind_has_cell j.back) (ltb j.cell z.cells) (eqb j.cell 0) ≡ true
  pub small : Within z → j.cell < width

-- the place of a handle is in the arrays
pub wide_caller : {b : Books} (h : ℕ) → Shaped b → Wide (place_at b (place_of h))
wide_caller h shape = shaped_wide (place_of h) shape (place_of_below h)

module _ (z : Size) (l : Lending) (s : State) where
  -- each of the judged calls
  pub judged_step : {c : Call} {h : ℕ} {j : Judged} → IsJudged z (owns s.books) s c h j → AskedOf z l s c → JudgedStep z s h j
  unfolding read_marked sealed kind_starts kind_frees kind_has_cell kind_has_value granted_kind same
  judged_step (read_judged h c other) asked =
      let caller = asked.caller in
      let inside = lt-ltb c z.cells asked.cell in
      record {
        caller = caller;
        held = ap held_status caller.live;
        begin = refl;
        wide = λ shape. wide_read_marked c _ (wide_caller h shape);
        fits = λ w shape.
            fits_read_marked z s.books _ (caller.books.each (place_of h) caller.place) caller.live c (wide_caller h shape)
            (omega (arith, w.cells, asked.cell)) asked.room;
        goes_on = refl;
        no_conflict = refl;
        cell_right = inside;
        value_right = refl;
        eight = cell_length z.cells s.table asked.table_right c asked.cell;
        frees = refl;
        as_granted = refl;
        back_cell_right = inside;
        small = λ w. omega (arith, w.cells, asked.cell);
      }
  judged_step (commit_judged h) asked =
      let caller = asked.caller in
      record {
        caller = caller;
        held = refl;
        begin = refl;
        wide = λ shape. wide_sealed _ (wide_caller h shape);
        fits = λ w shape. fits_sealed z s.books _ (caller.books.each (place_of h) caller.place) caller.live caller.books.room;
        goes_on = refl;
        no_conflict = refl;
        cell_right = refl;
        value_right = refl;
        eight = refl;
        frees = refl;
        as_granted = refl;
        back_cell_right = refl;
        small = λ w. omega arith;
      }
