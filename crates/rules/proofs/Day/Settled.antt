-- What a committed transaction did is settled: in a day that walks its commit is its last event, so its commit, its cells and their values stay
-- as they are past any later record; and the commits of two transactions differ. Before that, where the events of a day stand and which cells they use.
-- Assumes nothing.
use Prim.Native.Nat.{ℕ, ◌≤◌, ◌<◌}
use mathlib.Core.Path.{◌≡◌, refl, sym, ◌∙◌, ap, subst}
use mathlib.Core.Logic.Iff
use mathlib.Core.Logic.{◌↔◌, ⊎_elim}
use mathlib.Core.Bool.{true, ◌&&◌}
use mathlib.Core.List.Memᴰ
use mathlib.Core.List.{List, [], ◌∷◌, ◌++◌, Memᴰ}
use lib.ListN.{length, length-append}
use lib.Dec.{eqb}
use native.Mathlib.Omega.{arith}
use borrow.Author.Tests.{ne_eqb}
use Rattle.basics.specs.Lists.{any_in}
use Rattle.basics.proofs.Each.{each_none, each_cons}
use Rattle.basics.proofs.Lists.{any_in_at}
use Rattle.basics.proofs.Says.{eqb_says, and_says}
use Rattle.rules.specs.declared.Record.{Record}
use Rattle.rules.specs.Sizes.{Size}
use Rattle.rules.specs.Kinds.{kind_commits, kind_writes, kind_judged_read, kind_has_cell}
use Rattle.rules.specs.Layout.{walks, EachRecord}
use Rattle.rules.specs.Day.{Event, event, events, latest, commit_of, committed, wrote_cell, written_value}
use Rattle.rules.specs.History.{EachEvent}
use Rattle.rules.proofs.Log.KindLaws.{reads_have_cell, writes_have_cell}
use Rattle.rules.proofs.Log.Seats.{walks_earlier}
use Rattle.rules.proofs.Day.Events.{event_cases, event_in, number_bounds, event_unique}
use Rattle.rules.proofs.Day.Commits.{commits_last, commit_event, committed_by, committed_ends}
use Rattle.rules.proofs.Log.LaidOut.{walks_says}
use Rattle.rules.proofs.Replay.InTime.{committed_cell}

-- ---- where an event stands

-- each record of a day has its event, and each event is that of a record
pub event_there : (day later earlier : List Record) (r : Record) → day ≡ later ++ (r ∷ earlier) → Memᴰ (event earlier r) (events day)
event_there day later earlier r q = subst (λ (rs : List Record). Memᴰ (event earlier r) (events rs)) (sym q) (event_in later earlier r)

pub event_split : (day : List Record) {e : Event} → Memᴰ e (events day)
    → (later : List Record) × (r : Record) × (earlier : List Record) × (day ≡ later ++ (r ∷ earlier)) × (e ≡ event earlier r)
unfolding events
event_split [] m = absurd (Memᴰ.not-nil m)
event_split (r ∷ earlier) m =
    ⊎_elim (λ q. ([], r, earlier, refl, q))
    (λ k. let s = event_split earlier k in (r ∷ s.0, s.1, s.2, ap (λ rs. r ∷ rs) s.3, s.4)) (event_cases r earlier m)

-- an event with the number of an earlier record is an earlier event
pub event_earlier : (later earlier : List Record) {e : Event} → Memᴰ e (events (later ++ earlier)) → e.number ≤ length earlier
    → Memᴰ e (events earlier)
unfolding events event
event_earlier [] earlier m h = m
event_earlier (r ∷ later) earlier m h =
    ⊎_elim (λ q. let n = ap (λ f. f.number) q in absurd (omega (arith, length-append later earlier)))
    (λ k. event_earlier later earlier k h) (event_cases r (later ++ earlier) m)

-- a statement of each event of a day is one of each record
pub each_event : (P : List Event → Event → Type 0) (day : List Record)
    → EachEvent P (events day) ↔ EachRecord (λ earlier r. P (events earlier) (event earlier r)) day
unfolding events
each_event P [] = (λ f. each_none (λ earlier r. P (events earlier) (event earlier r)), λ f. each_none P)
each_event P (r ∷ earlier) =
    Iff.trans (each_cons P (event earlier r) (events earlier))
    (Iff.trans (Iff.and Iff.rfl (each_event P earlier)) (Iff.symm (each_cons (λ before s. P (events before) (event before s)) r earlier)))

-- ---- the cells of events

-- a cell that an event uses is a cell of the table
module _ (z : Size) (day : List Record) (w : walks z day ≡ true) where
  cell_known : {e : Event} → Memᴰ e (events day) → kind_has_cell e.kind ≡ true → e.cell < z.cells
  unfolding event
  cell_known {e} m =
      let s = event_split day m in
      subst (λ (f : Event). kind_has_cell f.kind ≡ true → f.cell < z.cells) (sym s.4) (((walks_says z day).0 w).0 s.0 s.2 s.1 s.3).cell_known

  pub read_known : {e : Event} → Memᴰ e (events day) → kind_judged_read e.kind ≡ true → e.cell < z.cells
  read_known {e} m j = cell_known m (reads_have_cell e.kind j)

pub written_known : (z : Size) (day : List Record) (k c : ℕ) → walks z day ≡ true → wrote_cell (events day) k c ≡ true → c < z.cells
unfolding wrote_cell
written_known z day k c w h =
    let x = any_in_at (λ e. eqb e.who k && (kind_writes e.kind && eqb e.cell c)) (events day) h in
    let says = (and_says (eqb_says x.0.who k) (and_says Iff.rfl (eqb_says x.0.cell c))).0 x.2 in
    subst (λ (d : ℕ). d < z.cells) says.1.1 (cell_known z day w x.1 (writes_have_cell x.0.kind says.1.0))

-- ---- the committing event

module _ (z : Size) where
  -- a transaction's commit is its last event
  pub commit_last : (day : List Record) {e f : Event} → walks z day ≡ true → Memᴰ e (events day) → Memᴰ f (events day)
      → kind_commits e.kind ≡ true → f.who ≡ e.who → f.number ≤ e.number
  unfolding events event
  commit_last [] w m n c q = absurd (Memᴰ.not-nil m)
  commit_last (r ∷ earlier) {e} {f} w m n c q =
      ⊎_elim
      (λ a. let top = ap (λ x. x.number) a in omega (arith, number_bounds (r ∷ earlier) n))
      (λ a.
      ⊎_elim (λ b. absurd (commits_last z r earlier w a c (sym q ∙ ap (λ x. x.who) b)))
      (λ b. commit_last earlier (walks_earlier z r earlier w).0 a b c q) (event_cases r earlier n))
      (event_cases r earlier m)

-- two committed transactions with one commit record are one
pub commit_shared : (day : List Record) (j k : ℕ) → committed (events day) j ≡ true → committed (events day) k ≡ true
    → commit_of (events day) j ≡ commit_of (events day) k → j ≡ k
commit_shared day j k h i q =
    let x = commit_event (events day) j h in
    let y = commit_event (events day) k i in
    sym x.2 ∙ ap (λ e. e.who) (event_unique day x.1 y.1 (sym x.4 ∙ q ∙ y.4)) ∙ y.2

-- ---- later records

-- a transaction did the same in the one list of events and in the other
pub record Unchanged (es es' : List Event) (k : ℕ) : Type 0 where
  pub same_committed : committed es' k ≡ committed es k
  pub same_commit : commit_of es' k ≡ commit_of es k
  pub same_wrote : (c : ℕ) → wrote_cell es' k c ≡ wrote_cell es k c
  pub same_value : (c : ℕ) → written_value es' k c ≡ written_value es k c

pub unchanged : (es : List Event) (k : ℕ) → Unchanged es es k
unchanged es k = record { same_committed = refl; same_commit = refl; same_wrote = λ c. refl; same_value = λ c. refl }

pub unchanged_back : {es es' : List Event} {k : ℕ} → Unchanged es es' k → Unchanged es' es k
unchanged_back u =
    record {
      same_committed = sym u.same_committed;
      same_commit = sym u.same_commit;
      same_wrote = λ c. sym (u.same_wrote c);
      same_value = λ c. sym (u.same_value c);
    }

-- so past an event of another
pub unchanged_past : (es es' : List Event) (k : ℕ) (e : Event) → (e.who ≡ k → ⊥) → Unchanged es es' k → Unchanged es (e ∷ es') k
unfolding committed commit_of latest wrote_cell written_value any_in
unchanged_past es es' k e other u =
    record {
      same_committed = rw (ne_eqb e.who k other) u.same_committed;
      same_commit = rw (ne_eqb e.who k other) u.same_commit;
      same_wrote = λ c. rw (ne_eqb e.who k other) (u.same_wrote c);
      same_value = λ c. rw (ne_eqb e.who k other) (u.same_value c);
    }

pub unchanged_cell : {es es' : List Event} {k : ℕ} (c : ℕ) → Unchanged es es' k → committed_cell es' k c ≡ committed_cell es k c
unfolding committed_cell
unchanged_cell c u = rw (u.same_committed, u.same_wrote c)

-- what a committed transaction did stays past any later records
pub settled : (z : Size) (later earlier : List Record) (k : ℕ) → walks z (later ++ earlier) ≡ true → committed (events earlier) k ≡ true
    → Unchanged (events earlier) (events (later ++ earlier)) k
unfolding events event
settled z [] earlier k w h = unchanged (events earlier) k
settled z (r ∷ later) earlier k w h =
    let u = settled z later earlier k (walks_earlier z r (later ++ earlier) w).0 h in
    unchanged_past (events earlier) (events (later ++ earlier)) k (event (later ++ earlier) r)
    (committed_ends z r (later ++ earlier) k w (u.same_committed ∙ h)) u

-- one whose commit has the number of an earlier record was committed then
pub committed_then : (later earlier : List Record) (k : ℕ) → committed (events (later ++ earlier)) k ≡ true
    → commit_of (events (later ++ earlier)) k ≤ length earlier → committed (events earlier) k ≡ true
committed_then later earlier k h b =
    let x = commit_event (events (later ++ earlier)) k h in
    committed_by (events earlier) k (event_earlier later earlier x.1 (omega (arith, x.4))) x.2 x.3
