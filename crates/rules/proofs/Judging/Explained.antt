-- The transactions of a day stay explained as records are added: a record that sets no moment of a transaction moves neither its company nor
-- their pairs, and one that starts it puts it behind everybody. So only the judged kinds have to be without a cycle themselves.
-- Rests on the pairs that arise with one record and on the laws of commits and moments. Assumes nothing.
use Prim.Native.Nat.{ℕ, suc, ◌<◌}
use mathlib.Core.Path.{◌≡◌, refl, sym, ◌∙◌, ap, subst}
use mathlib.Core.Logic.{◌⊎◌, inl, inr, ⊎_elim}
use mathlib.Core.Bool.{true, false, not, ◌&&◌, false≢true}
use mathlib.Core.List.{List, [], ◌∷◌}
use lib.ListN.{length}
use lib.Dec.{eqb, ltb}
use native.Mathlib.Omega.{arith}
use borrow.Author.Tests.{eqb-true, eq-eqb}
use Rattle.basics.specs.Lists.{any_in}
use Rattle.basics.specs.Walk.{Cycle}
use Rattle.basics.proofs.Bools.{split, clash, false_of_not, and_left, and_right, and_both, and_fails_right, or_true, or_right, cond_passes, cond_fails}
use Rattle.basics.proofs.Walk.{first_step, map_cycle, cycle_followed}
use Rattle.rules.specs.declared.Record.{Record}
use Rattle.rules.specs.Sizes.{Size}
use Rattle.rules.specs.Kinds.{kind_starts, kind_commits, kind_judged_read, kind_judged, kind_sets_moment}
use Rattle.rules.specs.Layout.{walks}
use Rattle.rules.specs.Day.{Event, whose, event, events, is_transaction, commit_of, committed, moment_of, wrote_cell, company_of, day_real_time, day_write_write, day_write_read, day_read_write, day_before}
use Rattle.rules.specs.Runs.{DayPair}
use Rattle.rules.proofs.Replay.InTime.{arises}
use Rattle.rules.proofs.Log.Seats.{walks_earlier}
use Rattle.rules.proofs.Day.Events.{event_in, whose_starts, who_transaction}
use Rattle.rules.proofs.Day.Commits.{commit_at_most, committed_cases, committed_begun, committed_ends}
use Rattle.rules.proofs.Day.Settled.{settled, committed_then}
use Rattle.rules.proofs.Day.CompanyListed.{company_says}
use Rattle.rules.proofs.Log.KindLaws.{sets_commits, sets_nothing, sets_judged}
use Rattle.rules.proofs.Day.Moments.{begun_earlier, none_yet, moment_more, moment_counted}
use Rattle.rules.proofs.Day.PairsArise.{begun_before, one_more}
use Rattle.rules.proofs.Replay.PairsInTime.{newest}
use Rattle.rules.proofs.Judging.Explaining.{before_differs}

-- both committed, and K stands before M
abbrev CommittedPair : Size → List Event → ℕ → ℕ → Type 0
CommittedPair z es k m = (committed es k ≡ true) × (committed es m ≡ true) × (day_before z es k m ≡ true)

-- the pairs of every transaction's company are without a cycle, and so are those of all who committed
pub record Explained (z : Size) (day : List Record) : Type 0 where
  pub each : (t : ℕ) → is_transaction (events day) t ≡ true → Cycle (DayPair z (events day) t) → ⊥
  pub all : Cycle (CommittedPair z (events day)) → ⊥

-- a day without records has nobody to explain
pub explained_new : (z : Size) → Explained z []
unfolding events is_transaction committed any_in
explained_new z = record { each = λ t i. absurd (false≢true i); all = λ c. false≢true (first_step c.1).1.0 }

-- ---- one who has not begun

-- stands before nobody
nobody_behind : (z : Size) (day : List Record) (k m : ℕ) → length day < k → day_before z (events day) k m ≡ false
unfolding day_before day_real_time day_write_write day_write_read day_read_write committed
nobody_behind z day k m h =
    let es = events day in
    let uncommitted : committed es k ≡ false = none_yet (λ e. kind_commits e.kind) day k h in
    rw (
      uncommitted,
      none_yet (λ e. kind_judged_read e.kind && (ltb e.number (commit_of es m) && wrote_cell es m e.cell)) day k h,
      and_fails_right (committed es m) false refl,
    )
    (and_fails_right (not (eqb k m)) false refl)

-- ---- one record more

-- with a record that sets no moment no pair arises
arises_nothing : (z : Size) (r : Record) (day : List Record) (k : ℕ) → kind_sets_moment r.kind ≡ false → arises z (events day) (event day r) k ≡ false
unfolding arises event
arises_nothing z r day k e = let n = (sets_nothing r.kind).0 e in rw (n.0, n.1, n.2)

module _ (z : Size) (r : Record) (day : List Record) (w : walks z (r ∷ day) ≡ true) where
  -- whose it is, and the events with it and without it
  abbrev u : ℕ
  u = whose day r

  abbrev es : List Event
  es = events day

  abbrev more : List Event
  more = events (r ∷ day)

  -- who had begun still has
  begun_still : (t : ℕ) → is_transaction es t ≡ true → is_transaction more t ≡ true
  unfolding is_transaction any_in events
  begun_still t i = or_right (eqb (event day r).number t && kind_starts (event day r).kind) _ i

  -- the commit of one who had committed is as before
  commit_still : (k : ℕ) → committed es k ≡ true → commit_of more k ≡ commit_of es k
  commit_still k c = (settled z (r ∷ []) day k w c).same_commit

  -- a pair with one who has begun is as before, if it does not arise with the record
  pair_before : (k m : ℕ) → is_transaction es m ≡ true → (u ≡ m → arises z es (event day r) k ≡ false) → day_before z more k m ≡ true
      → day_before z es k m ≡ true
  unfolding begun_before events event
  pair_before k m i none b =
      let begun = is_transaction es m in
      let arisen = arises z es (event day r) k in
      let now : begun_before z more k m ≡ true = and_both (is_transaction more m) (day_before z more k m) (begun_still m i) b in
      ⊎_elim (and_right begun (day_before z es k m))
      (λ a. absurd (clash (and_right (eqb u m) arisen a) (none (eqb-true u m (and_left (eqb u m) arisen a)))))
      (or_true (begun_before z es k m) (eqb u m && arisen) (sym (one_more (newest z r day w) k m (before_differs z more k m b)) ∙ now))

  -- so with one who had committed
  pair_committed : (k m : ℕ) → committed es m ≡ true → day_before z more k m ≡ true → day_before z es k m ≡ true
  pair_committed k m c =
      pair_before k m (committed_begun z day (walks_earlier z r day w).0 m c) (λ q. absurd (committed_ends z r day m w c q))

  -- ---- a record that sets no moment of t

  module _ (t : ℕ) (still : eqb u t && kind_sets_moment r.kind ≡ false) (i : is_transaction more t ≡ true) where
    -- t had begun, and its moment is as before
    begun_before_it : is_transaction es t ≡ true
    begun_before_it = begun_earlier r day t i still

    moment_still : moment_of more t ≡ moment_of es t
    moment_still = moment_more z t r day w ∙ cond_fails _ _ still

    -- the company of t is t and some who had committed
    company_cases_before : (k : ℕ) → company_of more t k ≡ true
        → (k ≡ t) ⊎ ((committed es k ≡ true) × (commit_of es k < moment_of es t))
    company_cases_before k c =
        ⊎_elim inl
        (λ a.
        let first = moment_counted day t begun_before_it in
        let was = committed_then (r ∷ []) day k a.0 (omega (arith, a.1, moment_still, first)) in
        inr (was, omega (arith, a.1, moment_still, commit_still k was)))
        ((company_says more t k).0 c).1

    -- so it is as before
    company_still : (k : ℕ) → company_of more t k ≡ true → company_of es t k ≡ true
    company_still k c =
        let x = company_cases_before k c in
        let begun = ⊎_elim (λ q. ap (is_transaction es) q ∙ begun_before_it) (λ a. committed_begun z day (walks_earlier z r day w).0 k a.0) x in
        (company_says es t k).1 (begun, x)

    -- and so are their pairs
    pair_still : (k m : ℕ) → DayPair z more t k m → DayPair z es t k m
    pair_still k m s =
        let here = company_still m s.1 in
        let none : u ≡ m → arises z es (event day r) k ≡ false =
        λ q.
        ⊎_elim (λ o. arises_nothing z r day k (false_of_not _ (λ e. clash (and_both (eqb u t) (kind_sets_moment r.kind) (eq-eqb u t (q ∙ o)) e) still)))
        (λ a. absurd (committed_ends z r day m w a.0 q)) (company_cases_before m s.1) in
        (company_still k s.0, here, pair_before k m ((company_says es t m).0 here).0 none s.2)

  -- ---- a record that starts its transaction

  module _ (s : kind_starts r.kind ≡ true) where
    -- the company of the new one: itself, and some who had committed
    company_new : (k : ℕ) → company_of more u k ≡ true → (k ≡ u) ⊎ (committed es k ≡ true)
    company_new k c = ⊎_elim inl (λ a. ⊎_elim (λ q. inl (sym q.0)) inr (committed_cases r day k a.0)) ((company_says more u k).0 c).1

    -- whoever stands before another had committed
    front_committed : (k m : ℕ) → DayPair z more u k m → committed es k ≡ true
    front_committed k m p = ⊎_elim (λ q. absurd (last_one q)) (λ c. c) (company_new k p.0)
      where
        last_one : k ≡ u → ⊥
        last_one q =
            ⊎_elim (λ o. before_differs z more k m p.2 (q ∙ sym o))
            (λ c. clash (pair_committed k m c p.2) (nobody_behind z day k m (omega (arith, q, whose_starts day r s)))) (company_new m p.1)

    -- so a cycle is one of those who had committed
    cycle_new : Cycle (DayPair z more u) → Cycle (CommittedPair z es)
    cycle_new =
        cycle_followed λ k m j p q.
        let c = front_committed m j q in
        (front_committed k m p, c, pair_committed k m c p.2)

  -- ---- a record that commits

  -- everybody who committed is of the company of its transaction
  company_all : kind_commits r.kind ≡ true → (k : ℕ) → committed more k ≡ true → company_of more u k ≡ true
  company_all c k h =
      let moment : moment_of more u ≡ suc (length day) =
      moment_more z u r day w ∙ cond_passes _ _ (and_both (eqb u u) (kind_sets_moment r.kind) (eq-eqb u u refl) (sets_commits r.kind c)) in
      (company_says more u k).1 (
        committed_begun z (r ∷ day) w k h,
        ⊎_elim (λ q. inl (sym q.0)) (λ was. inr (h, omega (arith, commit_at_most day k, moment, commit_still k was))) (committed_cases r day k h),
      )

  -- ---- all of it

  module _ (known : Explained z day) (judged : kind_judged r.kind ≡ true → Cycle (DayPair z more u) → ⊥) where
    -- the record sets the moment of its own transaction, as a start or as judged, or all is as before
    each_more : (t : ℕ) → is_transaction more t ≡ true → Cycle (DayPair z more t) → ⊥
    each_more t i c =
        let sets = kind_sets_moment r.kind in
        split (eqb u t && sets)
        (λ e.
        let own : Cycle (DayPair z more u) = subst (λ (x : ℕ). Cycle (DayPair z more x)) (sym (eqb-true u t (and_left (eqb u t) sets e))) c in
        split (kind_starts r.kind) (λ s. known.all (cycle_new s own)) (λ s. judged (sets_judged r.kind (and_right (eqb u t) sets e) s) own))
        (λ e. known.each t (begun_before_it t e i) (map_cycle (pair_still t e i) c))

    -- those who committed are of one company if the record commits, and are as before if not
    all_more : Cycle (CommittedPair z more) → ⊥
    unfolding event
    all_more c =
        split (kind_commits r.kind)
        (λ e. each_more u (who_transaction z (r ∷ day) w (event_in [] day r)) (map_cycle (λ k m p. (company_all e k p.0, company_all e m p.1, p.2)) c))
        (λ e.
        let was : (k : ℕ) → committed more k ≡ true → committed es k ≡ true =
        λ k h. ⊎_elim (λ q. absurd (clash q.1 e)) (λ a. a) (committed_cases r day k h) in
        known.all (map_cycle (λ k m p. (was k p.0, was m p.1, pair_committed k m (was m p.1) p.2)) c))

-- one record more: only those of the judged kinds have to be without a cycle themselves
pub explained_more : (z : Size) (r : Record) (day : List Record) → walks z (r ∷ day) ≡ true → Explained z day
    → (kind_judged r.kind ≡ true → Cycle (DayPair z (events (r ∷ day)) (whose day r)) → ⊥)
    → Explained z (r ∷ day)
explained_more z r day w known judged = record { each = each_more z r day w known judged; all = all_more z r day w known judged }
