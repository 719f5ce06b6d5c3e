-- The pairs of a day are the two orders of source document 000: of two of a transaction's company, one stands before the other exactly if it
-- precedes it in the real-time order or in the conflict order of the local sub-history. Rests on EventOrder and on the laws of commits and moments.
-- Assumes nothing.
use Prim.Native.Nat.{ℕ, ◌<◌}
use mathlib.Core.Path.{◌≡◌, refl, sym, ◌∙◌, ap, subst}
use mathlib.Core.Logic.Iff
use mathlib.Core.Logic.{◌↔◌, ◌⊎◌, ⊎_elim, ◌≢◌}
use mathlib.Core.Bool.{Bool, true, false, not, ◌&&◌, ◌||◌}
use mathlib.Core.List.{List, Memᴰ}
use lib.Dec.{eqb, ltb}
use native.Mathlib.Omega.{arith}
use Rattle.basics.specs.Lists.{any_in}
use Rattle.basics.proofs.Bools.{split, clash, and_left, and_right, and_both, or_left}
use Rattle.basics.proofs.Says.{eqb_says, ltb_says, not_says_not, and_says, or_says, any_says, any_in_says}
use Rattle.rules.specs.declared.Record.{Record}
use Rattle.rules.specs.Sizes.{Size}
use Rattle.rules.specs.Kinds.{kind_writes, kind_judged_read, kind_sets_moment}
use Rattle.rules.specs.Layout.{walks}
use Rattle.rules.specs.Day.{Event, event, events, whose, is_transaction, commit_of, committed, moment_of, wrote_cell, company_of, day_real_time, day_write_write, day_write_read, day_read_write, day_before}
use Rattle.rules.specs.History.{Before, Of, Commits, Writes, Wholly, RealTime, local, WriteWrite, WriteRead, ReadWrite, ConflictOrder}
use Rattle.rules.proofs.Day.Events.{who_bound, started}
use Rattle.rules.proofs.Day.Commits.{commit_event, committed_by, commit_of_event}
use Rattle.rules.proofs.Day.Settled.{written_known, commit_last}
use Rattle.rules.proofs.Day.Moments.{at_moment}
use Rattle.rules.proofs.Day.CompanyListed.{company_says}
use Rattle.rules.proofs.History.EventOrder.{before_in}
use Rattle.rules.proofs.History.HistoryParts.{subhist_says}

-- ---- events of a transaction

module _ (z : Size) where
  -- the commit record is the number of the commit
  commit_number : (day : List Record) (k : ℕ) {e : Event} → walks z day ≡ true → Commits (events day) k e → commit_of (events day) k ≡ e.number
  commit_number day k w c = ap (commit_of (events day)) (sym c.0.1) ∙ commit_of_event z day w c.0.0 c.1

  -- some event of a transaction has the moment as its number
  moment_event : (day : List Record) (t : ℕ) → walks z day ≡ true → is_transaction (events day) t ≡ true
      → (e : Event) × Of (events day) t e × (e.number ≡ moment_of (events day) t)
  unfolding events event
  moment_event day t =
      at_moment z t (λ rs. (e : Event) × Of (events rs) t e × (e.number ≡ moment_of (events rs) t))
      (record {
        on_set = λ r earlier w s q.
            (event earlier r, (Memᴰ.head refl, (eqb_says (whose earlier r) t).0 (and_left (eqb (whose earlier r) t) (kind_sets_moment r.kind) s)), sym q);
        on_other = λ r earlier w s q b x. (x.0, (Memᴰ.tail x.1.0, x.1.1), x.2 ∙ sym q);
      })
      day

-- ---- the local sub-history

module _ (z : Size) (day : List Record) (t : ℕ) (w : walks z day ≡ true) (known : is_transaction (events day) t ≡ true) where
  -- the day's events, and those of the local sub-history
  abbrev es : List Event
  es = events day

  abbrev h : List Event
  h = local es t

  -- its events are those of the company
  in_local : {e : Event} → Memᴰ e h ↔ (Memᴰ e es × (company_of es t e.who ≡ true))
  unfolding local
  in_local = subhist_says (company_of es t) es

  -- of two of its events the one with the lower number comes before
  before_local : {k m : ℕ} (e f : Event) → Of h k e → Of h m f → Before h e f ↔ (e.number < f.number)
  unfolding local
  before_local e f a b = before_in (company_of es t) day e f a.0 b.0

  -- one of the company does there what it does in the day
  module _ (k : ℕ) (own : company_of es t k ≡ true) where
    -- it has the same events
    of_local : (e : Event) → Of h k e ↔ Of es k e
    of_local e = (λ x. ((in_local.0 x.0).0, x.1), λ x. (in_local.1 (x.0, ap (company_of es t) x.1 ∙ own), x.1))

    -- a test of its events in the day says what they are there
    own_local : (test : Event → Bool) {P : Event → Type 0} → ((e : Event) → (test e ≡ true) ↔ P e)
        → (any_in (λ e. eqb e.who k && test e) es ≡ true) ↔ ((e : Event) × Of h k e × P e)
    own_local test s =
        let says = any_in_says (λ e. eqb e.who k && test e) es (λ e. and_says (eqb_says e.who k) (s e)) in (
          λ q. let x = says.0 q in (x.0, (of_local x.0).1 (x.1, x.2.0), x.2.1),
          λ x. let o = (of_local x.0).0 x.1 in says.1 (x.0, o.0, (o.1, x.2)),
        )

    -- it writes the same cells
    wrote_local : (c : ℕ) → (wrote_cell es k c ≡ true) ↔ Writes h k c
    unfolding wrote_cell
    wrote_local c =
        let says = own_local (λ e. kind_writes e.kind && eqb e.cell c) (λ e. and_says Iff.rfl (eqb_says e.cell c)) in (
          λ q. let x = says.0 q in (x.0, x.1, x.2.0, x.2.1),
          λ x. says.1 (x.0, x.1, (x.2, x.3)),
        )

    -- it commits with the same event
    commit_local : committed es k ≡ true → (e : Event) × Commits h k e × (commit_of es k ≡ e.number)
    commit_local q = let x = commit_event es k q in (x.0, ((of_local x.0).1 (x.1, x.2), x.3), x.4)

    -- and what commits it there is its commit
    local_commit : (e : Event) → Commits h k e → (committed es k ≡ true) × (commit_of es k ≡ e.number)
    local_commit e c =
        let o = (of_local e).0 c.0 in
        (committed_by es k o.0 o.1 c.1, commit_number z day k w (o, c.1))

    -- its starting event has its name as number
    start_local : (e : Event) × Of h k e × (e.number ≡ k)
    start_local = let x = started day k ((company_says es t k).0 own).0 in (x.0, (of_local x.0).1 (x.1, x.4), x.3)

  module _ (k m : ℕ) (own_k : company_of es t k ≡ true) (own_m : company_of es t m ≡ true) where
    -- real time
    real_time_tests : (day_real_time es k m ≡ true) ↔ ((committed es k ≡ true) × (commit_of es k < m))
    unfolding day_real_time
    real_time_tests = and_says Iff.rfl (ltb_says (commit_of es k) m)

    -- one whose commit is below another's begin is complete and wholly before it
    real_time_of : committed es k ≡ true → commit_of es k < m → RealTime h k m
    real_time_of q l =
        let c = commit_local k own_k q in
        let s = start_local m own_m in
        let own_commit = (of_local k own_k c.0).0 c.1.0 in (
          (s.0, s.1),
          (c.0, c.1.0, or_left _ _ c.1.1),
          λ e f a b.
              let i = (of_local k own_k e).0 a in
              let j = (of_local m own_m f).0 b in
              let last = commit_last z day w own_commit.0 i.0 c.1.1 (a.1 ∙ sym c.1.0.1) in
              (before_local e f a b).1 (omega (arith, c.2, last, who_bound day j.0, b.1)),
        )

    -- one that is not committed is wholly before nobody else of the company
    unfinished : k ≢ m → committed es k ≡ false → Wholly h k m → ⊥
    unfinished d n wholly =
        ⊎_elim (λ a. ⊎_elim (λ b. d (a ∙ sym b)) (λ b. late a b.0 b.1) ((company_says es t m).0 own_m).1) (λ a. clash a.0 n) ((company_says es t k).0 own_k).1
      where
        late : k ≡ t → committed es m ≡ true → commit_of es m < moment_of es t → ⊥
        late a q l =
            let x = moment_event z day t w known in
            let c = commit_local m own_m q in
            let i = (of_local k own_k x.0).1 (x.1.0, x.1.1 ∙ sym a) in
            omega (arith, (before_local x.0 c.0 i c.1.0).0 (wholly x.0 c.0 i c.1.0), x.2, c.2)

    real_time_says : k ≢ m → (day_real_time es k m ≡ true) ↔ RealTime h k m
    real_time_says d = (
      λ q. let x = real_time_tests.0 q in real_time_of x.0 x.1,
      λ r.
          split (committed es k)
          (λ q.
          let c = commit_local k own_k q in
          let s = start_local m own_m in
          let b = (before_local c.0 s.0 c.1.0 s.1).0 (r.2 c.0 s.0 c.1.0 s.1) in
          real_time_tests.1 (q, omega (arith, c.2, s.2)))
          (λ q. absurd (unfinished d q r.2)),
    )

    -- write then write
    write_write_tests : (day_write_write z es k m ≡ true)
        ↔ ((committed es k ≡ true) × ((committed es m ≡ true) × ((commit_of es k < commit_of es m) × ((c : ℕ) × (c < z.cells) × (Writes h k c × Writes h m c)))))
    unfolding day_write_write
    write_write_tests =
        and_says Iff.rfl
        (and_says Iff.rfl
        (and_says (ltb_says (commit_of es k) (commit_of es m))
        (any_says (λ c. wrote_cell es k c && wrote_cell es m c) z.cells (λ c. and_says (wrote_local k own_k c) (wrote_local m own_m c)))))

    write_write_says : (day_write_write z es k m ≡ true) ↔ WriteWrite h k m
    write_write_says = (
      λ q.
          let x = write_write_tests.0 q in
          let e = commit_local k own_k x.0 in
          let f = commit_local m own_m x.1.0 in
          let c = x.1.1.1 in
          let b = (before_local e.0 f.0 e.1.0 f.1.0).1 (omega (arith, e.2, f.2, x.1.1.0)) in
          (c.0, e.0, f.0, e.1, f.1, b, c.2.0, c.2.1),
      λ x.
          let e = local_commit k own_k x.1 x.3 in
          let f = local_commit m own_m x.2 x.4 in
          let b = (before_local x.1 x.2 x.3.0 x.4.0).0 x.5 in
          let c = written_known z day k x.0 w ((wrote_local k own_k x.0).1 x.6) in
          write_write_tests.1 (e.0, (f.0, (omega (arith, b, e.1, f.1), (x.0, c, (x.6, x.7))))),
    )

    -- write then read
    write_read_tests : (day_write_read es k m ≡ true)
        ↔ ((committed es k ≡ true)
        × ((f : Event) × Of h m f × ((kind_judged_read f.kind ≡ true) × ((commit_of es k < f.number) × Writes h k f.cell))))
    unfolding day_write_read
    write_read_tests =
        and_says Iff.rfl
        (own_local m own_m (λ f. kind_judged_read f.kind && (ltb (commit_of es k) f.number && wrote_cell es k f.cell))
        (λ f. and_says Iff.rfl (and_says (ltb_says (commit_of es k) f.number) (wrote_local k own_k f.cell))))

    write_read_says : (day_write_read es k m ≡ true) ↔ WriteRead h k m
    write_read_says = (
      λ q.
          let x = write_read_tests.0 q in
          let e = commit_local k own_k x.0 in
          let f = x.1 in
          let b = (before_local e.0 f.0 e.1.0 f.1).1 (omega (arith, e.2, f.2.1.0)) in
          (f.0.cell, e.0, f.0, e.1, (f.1, f.2.0, refl), b, f.2.1.1),
      λ x.
          let e = local_commit k own_k x.1 x.3 in
          let b = (before_local x.1 x.2 x.3.0 x.4.0).0 x.5 in
          let c = subst (λ (c : ℕ). Writes h k c) (sym x.4.2) x.6 in
          write_read_tests.1 (e.0, (x.2, x.4.0, (x.4.1, (omega (arith, b, e.1), c)))),
    )

    -- read then write
    read_write_tests : (day_read_write es k m ≡ true)
        ↔ ((committed es m ≡ true)
        × ((e : Event) × Of h k e × ((kind_judged_read e.kind ≡ true) × ((e.number < commit_of es m) × Writes h m e.cell))))
    unfolding day_read_write
    read_write_tests =
        and_says Iff.rfl
        (own_local k own_k (λ e. kind_judged_read e.kind && (ltb e.number (commit_of es m) && wrote_cell es m e.cell))
        (λ e. and_says Iff.rfl (and_says (ltb_says e.number (commit_of es m)) (wrote_local m own_m e.cell))))

    read_write_says : (day_read_write es k m ≡ true) ↔ ReadWrite h k m
    read_write_says = (
      λ q.
          let x = read_write_tests.0 q in
          let e = x.1 in
          let f = commit_local m own_m x.0 in
          let b = (before_local e.0 f.0 e.1 f.1.0).1 (omega (arith, f.2, e.2.1.0)) in
          (e.0.cell, e.0, f.0, (e.1, e.2.0, refl), f.1, b, e.2.1.1),
      λ x.
          let f = local_commit m own_m x.2 x.4 in
          let b = (before_local x.1 x.2 x.3.0 x.4.0).0 x.5 in
          let c = subst (λ (c : ℕ). Writes h m c) (sym x.3.2) x.6 in
          read_write_tests.1 (f.0, (x.1, x.3.0, (x.3.1, (omega (arith, b, f.1), c)))),
    )

    -- one of the four
    four_say : k ≢ m → (day_real_time es k m || (day_write_write z es k m || (day_write_read es k m || day_read_write es k m)) ≡ true)
        ↔ (RealTime h k m ⊎ ConflictOrder h k m)
    four_say d =
        let conflict = or_says write_write_says (or_says write_read_says read_write_says) in
        or_says (real_time_says d) (λ q. (d, conflict.0 q), λ x. conflict.1 x.1)

  -- of two of the company one stands before the other exactly if it precedes it in one of the two orders
  pub pair_says : (k m : ℕ) → company_of (events day) t k ≡ true → company_of (events day) t m ≡ true
      → (day_before z (events day) k m ≡ true) ↔ ((k ≢ m) × (RealTime (local (events day) t) k m ⊎ ConflictOrder (local (events day) t) k m))
  unfolding day_before
  pair_says k m own_k own_m =
      let apart = not_says_not (eqb k m) (eqb_says k m) in
      let four = four_say k m own_k own_m in (
        λ q. let d = apart.0 (and_left _ _ q) in (d, (four d).0 (and_right (not (eqb k m)) _ q)),
        λ x. and_both _ _ (apart.1 x.0) ((four x.0).1 x.1),
      )
