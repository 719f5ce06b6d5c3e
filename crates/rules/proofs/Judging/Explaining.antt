-- Which lists explain a transaction of a day that walks: where every read has the value of its time, each list of the company that keeps the
-- pairs; there is none where the pairs have a cycle, and else one by elimination. Rests on the laws of company, reads and elimination.
-- Assumes nothing.
use Prim.Native.Nat.{ℕ, suc, ◌≤◌, ◌<◌}
use mathlib.Core.Path.{◌≡◌, refl, sym, ◌∙◌, ap, subst}
use mathlib.Core.Logic.{⊎_elim}
use mathlib.Core.Bool.{true, false, not}
use mathlib.Core.List.{List, [], ◌∷◌, Memᴰ}
use lib.ListN.{length}
use lib.Dec.{eqb}
use native.Mathlib.Omega.{arith}
use borrow.Author.Tests.{eqb-false, eq-eqb, not-true}
use Rattle.basics.specs.Lists.{all_in, member, distinct, keeps}
use Rattle.basics.specs.Walk.{Cycle}
use Rattle.basics.specs.Elimination.{LeftPair, eliminated}
use Rattle.basics.specs.Bytes.{same}
use Rattle.basics.proofs.Bools.{split, clash, false_of_not, and_left, and_right, and_both, and_fails_right}
use Rattle.basics.proofs.Lists.{all_in_at, member_at}
use Rattle.basics.proofs.Bytes.{same_refl}
use Rattle.basics.proofs.Walk.{map_cycle}
use Rattle.basics.proofs.Eliminated.{eliminated_members, eliminated_distinct, eliminated_keeps, eliminated_exactly, keeps_no_cycle}
use Rattle.rules.specs.declared.Record.{Record}
use Rattle.rules.specs.Sizes.{Size}
use Rattle.rules.specs.Kinds.{kind_commits, kind_judged_read, kind_sets_moment}
use Rattle.rules.specs.Layout.{walks}
use Rattle.rules.specs.Day.{Event, whose, event, events, is_transaction, moment_of, company_of, day_before}
use Rattle.rules.specs.Checker.{lists_company, reads_carried, accepted}
use Rattle.rules.specs.Runs.{DayPair}
use Rattle.rules.specs.History.{last_write, Legal}
use Rattle.rules.proofs.Replay.InTime.{table_by, reads_in_time, no_stranger, in_company}
use Rattle.rules.proofs.Day.Events.{event_cases, event_later, number_bounds}
use Rattle.rules.proofs.Day.Settled.{event_there, each_event, commit_last}
use Rattle.rules.proofs.Day.CompanyListed.{company_says, company_listed}
use Rattle.rules.proofs.History.LegalInTurn.{owns_say}
use Rattle.rules.proofs.Log.KindLaws.{sets_moves}
use Rattle.rules.proofs.Day.Moments.{transaction_bound, at_moment}
use Rattle.rules.proofs.Replay.CompanyInTime.{ListedBefore, no_stranger_says, company_cases, company_told}
use Rattle.rules.proofs.Replay.ReadsInTime.{reads_told, in_time_says}

-- nobody stands before itself
pub before_differs : (z : Size) (es : List Event) (k m : ℕ) → day_before z es k m ≡ true → k ≡ m → ⊥
unfolding day_before
before_differs z es k m b = eqb-false k m (not-true (eqb k m) (and_left (not (eqb k m)) _ b))

-- ---- values

-- where everybody who commits is listed, the table as the listed leave it has the last write
table_last : (opening order : List ℕ) (es : List Event)
    → ((e : Event) → Memᴰ e es → kind_commits e.kind ≡ true → member e.who order ≡ true)
    → (c : ℕ) → table_by opening order es c ≡ last_write opening es c
unfolding table_by last_write
table_last opening order [] h c = refl
table_last opening order (e ∷ earlier) h c =
    rw (table_last opening order earlier (λ f i. h f (Memᴰ.tail i)) c)
    (split (kind_commits e.kind) (λ k. rw (h e (Memᴰ.head refl) k))
    (λ k. rw (k, and_fails_right (member e.who order) false refl)))

-- ---- the moment

-- no event that sets the moment is later than it
moment_late : (z : Size) (t : ℕ) (day : List Record) → walks z day ≡ true → is_transaction (events day) t ≡ true
    → (e : Event) → Memᴰ e (events day) → e.who ≡ t → kind_sets_moment e.kind ≡ true → e.number ≤ moment_of (events day) t
unfolding event
moment_late z t =
    at_moment z t (λ day. (e : Event) → Memᴰ e (events day) → e.who ≡ t → kind_sets_moment e.kind ≡ true → e.number ≤ moment_of (events day) t)
    (record {
      on_set = λ r earlier w s q e i o k. omega (arith, number_bounds (r ∷ earlier) i, q);
      on_other = λ r earlier w s q b known e i o k.
          ⊎_elim
          (λ n.
          let own : whose earlier r ≡ t = sym (ap (λ f. f.who) n) ∙ o in
          let sets : kind_sets_moment r.kind ≡ true = sym (ap (λ f. kind_sets_moment f.kind) n) ∙ k in
          absurd (clash (and_both (eqb (whose earlier r) t) (kind_sets_moment r.kind) (eq-eqb (whose earlier r) t own) sets) s))
          (λ j. omega (arith, known e j o k, q)) (event_cases r earlier i);
    })

-- no judged read of one of the company is later than the moment
read_early : (z : Size) (t : ℕ) (day : List Record) → walks z day ≡ true → is_transaction (events day) t ≡ true
    → (e : Event) → Memᴰ e (events day) → in_company (events day) t e.who ≡ true → kind_judged_read e.kind ≡ true
    → e.number ≤ moment_of (events day) t
read_early z t day w known e i c k =
    ⊎_elim (λ q. moment_late z t day w known e i q (sets_moves e.kind k))
    (λ x. omega (arith, commit_last z day w x.1 i x.2 (sym x.3), x.4))
    (company_cases t day e.who c)

-- what a list of the company has: those of the company, and everybody who committed before the moment
listed_says : (z : Size) (t : ℕ) (order : List ℕ) (day : List Record) → walks z day ≡ true → is_transaction (events day) t ≡ true
    → lists_company (events day) t order ≡ true
    → ((k : ℕ) → member k order ≡ true → in_company (events day) t k ≡ true) × ListedBefore (moment_of (events day) t) order (events day)
listed_says z t order day w known l =
    let all = all_in (in_company (events day) t) order in
    let none = no_stranger t order (events day) in
    let told = and_right (member t order) _ (and_right (distinct order) _ (sym (company_told z t order day w known) ∙ l)) in (
      λ k i. all_in_at (in_company (events day) t) order (and_left all none told) (member_at k order i),
      (no_stranger_says order t z day w known).0 (and_right all none told),
    )

module _ (z : Size) (opening : List ℕ) (day : List Record) (t : ℕ) (w : walks z day ≡ true) where
  -- where every read has the value of its time, the reads of a list of the company are in time
  reads_right : is_transaction (events day) t ≡ true → Legal opening (events day) → (order : List ℕ) → lists_company (events day) t order ≡ true
      → reads_in_time opening order (events day) ≡ true
  unfolding event events
  reads_right known legal order lists =
      (in_time_says opening order day).1 λ newer earlier r q listed reads.
      let says = listed_says z t order day w known lists in
      let early = read_early z t day w known (event earlier r) (event_there day newer earlier r q) (says.0 (whose earlier r) listed) reads in
      let in_day : (e : Event) → Memᴰ e (events earlier) → Memᴰ e (events day) =
      λ e i. subst (λ (rs : List Record). Memᴰ e (events rs)) (sym q) (event_later newer (r ∷ earlier) (Memᴰ.tail i)) in
      let last = table_last opening order (events earlier) (λ e i c. says.1 e (in_day e i) c (omega (arith, number_bounds earlier i, early))) r.cell in
      ap (same r.value) (last ∙ sym (((each_event _ day).0 legal newer earlier r q).0 reads)) ∙ same_refl r.value

  -- where every read has the value of its time, a list of the company that keeps the pairs is accepted
  pub accepted_of : is_transaction (events day) t ≡ true → Legal opening (events day) → (order : List ℕ) → lists_company (events day) t order ≡ true
      → keeps (day_before z (events day)) order ≡ true → accepted z opening (events day) t order ≡ true
  unfolding accepted
  accepted_of known legal order lists kept =
      and_both (lists_company (events day) t order) _ lists
      (and_both (keeps (day_before z (events day)) order) _ kept
      (and_both (reads_carried opening (events day) [] order) _
      (reads_told z opening t order day w known lists kept ∙ reads_right known legal order lists)
      ((owns_say order (events day)).1 (λ newer earlier e q i. (legal newer earlier e q).1))))

module _ (z : Size) (day : List Record) (t : ℕ) where
  abbrev es : List Event
  es = events day

  -- a cycle among the pairs of the company leaves no list
  pub cycle_no_list : Cycle (DayPair z (events day) t) → (opening order : List ℕ) → accepted z opening (events day) t order ≡ false
  unfolding accepted
  cycle_no_list c opening order =
      let lists = lists_company es t order in
      let kept = keeps (day_before z es) order in
      false_of_not _ λ a.
      let has = ((company_listed day t order).0 (and_left lists _ a)).1 in
      keeps_no_cycle (day_before z es) order (and_left kept _ (and_right lists _ a)) (λ k m s. ((has k).1 s.0, (has m).1 s.1, s.2))
      (λ k s. before_differs z es k k s.2 refl) c

  -- and without a cycle there is one that lists the company and keeps the pairs
  pub list_found : (Cycle (DayPair z (events day) t) → ⊥)
      → (order : List ℕ) × (lists_company (events day) t order ≡ true) × (keeps (day_before z (events day)) order ≡ true)
  list_found none =
      let n = suc (length day) in
      let before = day_before z es in
      let key : ℕ → ℕ = λ k. k in
      let left = company_of es t in
      let free : Cycle (LeftPair n before left) → ⊥ = λ c. none (map_cycle (λ a b s. (s.2, s.3, s.4)) c) in
      let below : (k : ℕ) → left k ≡ true → k < n = λ k c. omega (arith, transaction_bound day k ((company_says es t k).0 c).0) in (
        eliminated n before key left,
        (company_listed day t (eliminated n before key left)).1 (
          eliminated_distinct n before key left,
          λ k. (λ i. (eliminated_members n before key left k i).1, λ c. (eliminated_exactly n before key left free k).1 (below k c, c)),
        ),
        eliminated_keeps n before key left,
      )
