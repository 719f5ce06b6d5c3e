-- What one transaction's events tell among those of others, and the last write behind them: a transaction leaves what it committed over what was
-- there. It holds of any history where nobody has an event past its commit, and so of a day that walks. Rests on Settled and HistoryParts.
-- Assumes nothing.
use Prim.Native.Nat.{ℕ}
use mathlib.Core.Path.{◌≡◌, refl, sym, ◌∙◌, ap}
use mathlib.Core.Bool.{true, false, cond, ◌&&◌, or-false}
use mathlib.Core.List.{List, [], ◌∷◌, ◌++◌, Memᴰ}
use borrow.Author.Tests.{eq-eqb}
use Rattle.basics.specs.Lists.{any_in}
use Rattle.basics.proofs.Each.{each_cons}
use Rattle.basics.proofs.Bools.{and_fails_left, equal_or_not, cond_fails}
use Rattle.rules.specs.declared.Record.{Record}
use Rattle.rules.specs.Sizes.{Size}
use Rattle.rules.specs.Kinds.{kind_commits}
use Rattle.rules.specs.Layout.{walks}
use Rattle.rules.specs.Day.{Event, event, events, latest, commit_of, committed, wrote_cell, written_value}
use Rattle.rules.specs.History.{EachEvent, subhist, only, last_write}
use Rattle.rules.proofs.Log.LaidOut.{walks_before}
use Rattle.rules.proofs.Day.Moments.{uncommitted}
use Rattle.rules.proofs.Day.Settled.{each_event, Unchanged, unchanged, unchanged_back, unchanged_past}
use Rattle.rules.proofs.History.HistoryParts.{only_own, only_other}

-- ---- one transaction's events

-- none of these events is the transaction's
abbrev pub Absent : ℕ → List Event → Type 0
Absent k h = (e : Event) → Memᴰ e h → e.who ≡ k → ⊥

-- nobody has an event past its commit
abbrev pub CommitsEnd : List Event → Type 0
CommitsEnd h = EachEvent (λ earlier e. committed earlier e.who ≡ false) h

-- so in a day that walks
pub commits_end : (z : Size) (day : List Record) → walks z day ≡ true → CommitsEnd (events day)
unfolding event
commits_end z day w =
    (each_event (λ earlier e. committed earlier e.who ≡ false) day).1 λ later earlier r q.
    uncommitted z r earlier (walks_before z later (r ∷ earlier) (rw q at w))

module _ (k : ℕ) where
  -- with an own event more on both sides, and one of another's on the one side
  unchanged_with : (es es' : List Event) (e : Event) → Unchanged es es' k → Unchanged (e ∷ es) (e ∷ es') k
  unfolding committed commit_of latest wrote_cell written_value any_in
  unchanged_with es es' e u =
      record {
        same_committed = rw u.same_committed;
        same_commit = rw u.same_commit;
        same_wrote = λ c. rw (u.same_wrote c);
        same_value = λ c. rw (u.same_value c);
      }

  unchanged_behind : (es es' : List Event) (e : Event) → (e.who ≡ k → ⊥) → Unchanged es es' k → Unchanged (e ∷ es) es' k
  unchanged_behind es es' e other u = unchanged_back (unchanged_past es' es k e other (unchanged_back u))

  -- the events of others tell nothing of it
  unchanged_absent : (base : List Event) → Absent k base → Unchanged [] base k
  unchanged_absent [] a = unchanged [] k
  unchanged_absent (e ∷ base) a =
      unchanged_past [] base k e (a e (Memᴰ.head refl)) (unchanged_absent base (λ f m. a f (Memᴰ.tail m)))

  -- its own events with those of others behind them tell the same as all
  pub unchanged_only : (h base : List Event) → Absent k base → Unchanged h (only k h ++ base) k
  unfolding only subhist
  unchanged_only [] base a = unchanged_absent base a
  unchanged_only (e ∷ h) base a =
      let rest = unchanged_only h base a in
      equal_or_not e.who k
      (λ q. rw (only_own k e h q) (unchanged_with h (only k h ++ base) e rest))
      (λ other. rw (only_other k e h other) (unchanged_behind h (only k h ++ base) e other rest))

-- ---- the last write behind one transaction's events

module _ (opening : List ℕ) (c k : ℕ) where
  -- the value that the transaction leaves over another
  abbrev left_over : List Event → List ℕ → List ℕ
  left_over h v = cond (committed h k && wrote_cell h k c) (written_value h k c) v

  -- it is committed with its newest event exactly if that commits
  committed_newest : (e : Event) (earlier : List Event) → e.who ≡ k → committed earlier k ≡ false → committed (e ∷ earlier) k ≡ kind_commits e.kind
  unfolding committed any_in
  committed_newest e earlier q f = rw (eq-eqb e.who k q, f) (or-false (kind_commits e.kind))

  -- what it leaves with its newest event, and past one of another's
  left_newest : (e : Event) (earlier block base : List Event) → e.who ≡ k → committed earlier k ≡ false → Unchanged earlier block k
      → last_write opening block c ≡ last_write opening base c → last_write opening (e ∷ block) c ≡ left_over (e ∷ earlier) (last_write opening base c)
  unfolding last_write
  left_newest e earlier block base q f u older =
      let v = unchanged_with k earlier block e u in
      ap (λ j. cond (kind_commits e.kind && wrote_cell (e ∷ block) j c) (written_value (e ∷ block) j c) (last_write opening block c)) q
      ∙ rw (v.same_wrote c, v.same_value c, committed_newest e earlier q f, older)

  left_other : (e : Event) (earlier : List Event) (v : List ℕ) → (e.who ≡ k → ⊥) → left_over (e ∷ earlier) v ≡ left_over earlier v
  left_other e earlier v other =
      let u = unchanged_past earlier earlier k e other (unchanged earlier k) in
      rw (u.same_committed, u.same_wrote c, u.same_value c)

  -- its events leave what it committed over what was there
  pub left_by_block : (h base : List Event) → CommitsEnd h → Absent k base
      → last_write opening (only k h ++ base) c ≡ left_over h (last_write opening base c)
  unfolding only subhist committed any_in
  left_by_block [] base ends a = refl
  left_by_block (e ∷ h) base ends a =
      let s = (each_cons (λ earlier e. committed earlier e.who ≡ false) e h).0 ends in
      let rest = left_by_block h base s.1 a in
      equal_or_not e.who k
      (λ q.
      let going : committed h k ≡ false = ap (committed h) (sym q) ∙ s.0 in
      rw (only_own k e h q)
      (left_newest e h (only k h ++ base) base q going (unchanged_only k h base a)
      (rest ∙ cond_fails _ _ (and_fails_left (committed h k) (wrote_cell h k c) going))))
      (λ other. rw (only_other k e h other) (rest ∙ sym (left_other e h (last_write opening base c) other)))

  -- and while it has not committed, just that
  pub left_by_open : (h base : List Event) → CommitsEnd h → Absent k base → committed h k ≡ false
      → last_write opening (only k h ++ base) c ≡ last_write opening base c
  left_by_open h base ends a going =
      left_by_block h base ends a ∙ cond_fails _ _ (and_fails_left (committed h k) (wrote_cell h k c) going)
