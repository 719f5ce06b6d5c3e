-- A handle and what it names, by the books and by the day: whose place it is, which cells are its own, when a judged call of it was asked for
-- rightly, and when it meets Conflict. Rests on what is asked of each call and on Conflict by reasons and cycles. That books and day are
-- mirrored is a hypothesis. Assumes nothing else.
use Prim.Native.Nat.{ℕ, ◌<◌}
use mathlib.Core.Path.{◌≡◌, sym, ◌∙◌, ap}
use mathlib.Core.Logic.{◌↔◌, ◌≢◌, ⊎_elim}
use mathlib.Core.Bool.{true}
use mathlib.Core.List.{List}
use Rattle.rules.specs.Sizes.{Size}
use Rattle.rules.specs.Books.{Books, place_at, is_held, held_status, wrote}
use Rattle.rules.specs.Handles.{place_of}
use Rattle.rules.specs.Judging.{HasCycle}
use Rattle.rules.specs.Numbers.{granted, conflict, Reason, first_reason}
use Rattle.rules.specs.Daylog.{filled}
use Rattle.rules.specs.State.{State, Outcome, refused, unless_refused, record_at}
use Rattle.rules.specs.Judged.{Judged, books_granted}
use Rattle.rules.specs.Steps.{read_rule}
use Rattle.rules.specs.Calls.{Call, Read, issued, reasons_of, owns, IsJudged, read_judged, commit_judged}
use Rattle.rules.specs.Kept.{LiveCaller}
use Rattle.rules.specs.Run.{Machine, lends, outcome}
use Rattle.rules.specs.Runs.{record_of, reads_own, holder, MeetsNone}
use Rattle.rules.proofs.Calls.Conflict.{hands_nothing, judged_rule, conflicts}
use Rattle.rules.proofs.Calls.EachCall.{never_nine, no_nine, AskedOf, asked_of}
use Rattle.rules.proofs.Mirror.Mirrors.{Mirrored, Holds}
use Rattle.rules.proofs.Calls.Reasons.{refused_or_not}

-- nothing refuses a call that meets none of 1 to 8, if its reasons cannot give the number of Conflict
none_refuses : (reasons : List Reason) (s : State) (o : Outcome) → first_reason reasons ≢ conflict → MeetsNone (unless_refused reasons s o).number
    → first_reason reasons ≡ granted
unfolding refused
none_refuses reasons s o other meets =
    ⊎_elim (λ g. g.0) (λ g. absurd (⊎_elim g.0 other (rw g.1 at meets))) (refused_or_not reasons s o)

-- a record that names the transaction of a live handle has the turn of the handle's place
pub record_of_live : (z : Size) (b : Books) (h : ℕ) → LiveCaller z b h → (kind c : ℕ) (value : List ℕ)
    → record_of kind h c value ≡ record_at kind (place_of h) (place_at b (place_of h)) c value
record_of_live z b h caller kind c value =
    ap (λ t. filled kind (place_of h) c t value) (sym caller.turn)

module _ (z : Size) (m : Machine) where
  abbrev s : State
  s = m.state

  -- ---- a judged call that meets none of 1 to 8

  module _ {c : Call} {h : ℕ} {j : Judged} (judged : IsJudged z (owns m.state.books) m.state c h j) (meets : MeetsNone (outcome z c m).number) where
    -- nothing refuses it
    unrefused : first_reason (reasons_of z (lends z m) c s) ≡ granted
    unfolding outcome
    unrefused = none_refuses _ s _ (no_nine z (lends z m) s c (hands_nothing judged)) (rw (judged_rule z (lends z m) s judged) at meets)

    -- so all that is asked of it is known
    pub judged_met : AskedOf z (lends z m) m.state c
    judged_met = asked_of z (lends z m) s c unrefused

    -- and it meets Conflict exactly if the pairs contain a cycle in the books as they would then be
    pub judged_verdict : ((outcome z c m).number ≡ conflict) ↔ HasCycle z (books_granted m.state.books (place_of h) j) (place_of h)
    unfolding outcome
    judged_verdict =
        let exactly = (conflicts.at_judged z (lends z m) s c h j judged).exactly in
        (λ e. (exactly.0 e).1, λ cycle. exactly.1 (unrefused, cycle))

  -- of any read all that is asked is known
  read_met : (h c : ℕ) → MeetsNone (outcome z (Read h c) m).number → AskedOf z (lends z m) s (Read h c)
  unfolding outcome issued read_rule reasons_of
  read_met h c meets =
      asked_of z (lends z m) s (Read h c) (none_refuses _ s _ (no_nine z (lends z m) s (Read h c) never_nine) meets)

  -- ---- by the day

  module _ (mirror : Mirrored z m.state.books m.day) where
    -- whoever holds the handle's place holds it by the day too
    held_there : (h : ℕ) → place_of h < z.places → is_held (place_at s.books (place_of h)) ≡ true
        → Holds z m.day (place_of h) (place_at s.books (place_of h))
    held_there h there held = (mirror.places (place_of h) there).holds held

    -- the log's begin record of the holder is the books'
    pub holder_is : (h : ℕ) → place_of h < z.places → is_held (place_at m.state.books (place_of h)) ≡ true
        → holder m.day h ≡ (place_at m.state.books (place_of h)).begin
    unfolding holder
    holder_is h there held = (held_there h there held).begin

    -- a live handle's own cells, by the log and by the books
    pub reads_own_is : (h c : ℕ) → LiveCaller z m.state.books h → c < z.cells
        → reads_own m.day h c ≡ wrote (place_at m.state.books (place_of h)) c
    unfolding reads_own
    reads_own_is h c caller cell = (held_there h caller.place (ap held_status caller.live)).cells c cell

    -- a call that is judged by the log is judged by the books
    pub judged_told : {c : Call} {h : ℕ} {j : Judged} → IsJudged z (reads_own m.day) m.state c h j → MeetsNone (outcome z c m).number
        → IsJudged z (owns m.state.books) m.state c h j
    judged_told (read_judged h c other) meets =
        let asked = read_met h c meets in
        read_judged h c (sym (reads_own_is h c asked.caller asked.cell) ∙ other)
    judged_told (commit_judged h) meets = commit_judged h
