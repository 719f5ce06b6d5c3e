-- The company of a transaction is no larger than the number of places: at the moment of the transaction each of its company holds a place.
-- Assumes nothing.
use Prim.Native.Nat.{ℕ, suc, ◌≤◌, ◌<◌}
use mathlib.Core.Path.{◌≡◌, refl, sym, ◌∙◌, ap}
use mathlib.Core.Logic.{⊎_elim}
use mathlib.Core.Bool.{true, false, ◌&&◌}
use mathlib.Core.List.Memᴰ
use mathlib.Core.List.{List, [], ◌∷◌, Memᴰ}
use lib.ListN.{length}
use lib.Dec.{eqb}
use native.Mathlib.Omega.{arith}
use borrow.Author.Tests.{eqb-true, eq-eqb}
use Rattle.basics.specs.Lists.{all_in, member, distinct}
use Rattle.basics.proofs.Bools.{and_left, and_right, or_left}
use Rattle.basics.proofs.Lists.{all_in_at, all_in_of, member_at, distinct_few}
use Rattle.rules.specs.declared.Record.{Record}
use Rattle.rules.specs.Sizes.{Size}
use Rattle.rules.specs.Kinds.{kind_commits, kind_frees, kind_sets_moment}
use Rattle.rules.specs.Layout.{Seat, seat, fields_right, fits, walks}
use Rattle.rules.specs.Day.{Event, whose, event, events, is_transaction, moment_of}
use Rattle.rules.specs.Checker.{lists_company}
use Rattle.rules.proofs.Replay.InTime.{in_company}
use Rattle.rules.proofs.Log.KindLaws.{commits_hold, sets_hold}
use Rattle.rules.proofs.Log.Seats.{moved_commits, seat_here, seat_other, walks_earlier, fits_uncommitted}
use Rattle.rules.proofs.Day.Events.{event_cases, whose_holds}
use Rattle.rules.proofs.Log.LaidOut.{fields_says}
use Rattle.rules.proofs.Day.Moments.{at_moment}
use Rattle.rules.proofs.Replay.CompanyInTime.{company_early, company_cases, company_told}

-- ---- seats

-- a seat is committed with the transaction
abbrev CommittedSeat : ℕ → Seat → Type 0
CommittedSeat k s = (s.status ≡ 2) × (s.begin ≡ k)

-- after a record that frees nothing its transaction holds the place, and after a commit it is committed there
holds_here : (r : Record) (earlier : List Record) → kind_frees r.kind ≡ false → (seat (r ∷ earlier) r.place).begin ≡ whose earlier r
holds_here r earlier f = ap (λ s. s.begin) (seat_here r earlier r.place refl) ∙ whose_holds earlier r f

committed_here : (r : Record) (earlier : List Record) → kind_commits r.kind ≡ true → (seat (r ∷ earlier) r.place).status ≡ 2
committed_here r earlier c =
    ap (λ s. s.status) (seat_here r earlier r.place refl) ∙ moved_commits (suc (length earlier)) r (seat earlier r.place) c

module _ (z : Size) where
  -- a transaction that has committed holds its place from then on
  committed_seat : (day : List Record) {e : Event} → walks z day ≡ true → Memᴰ e (events day) → kind_commits e.kind ≡ true
      → CommittedSeat e.who (seat day e.place)
  unfolding events event
  committed_seat [] w m c = absurd (Memᴰ.not-nil m)
  committed_seat (r ∷ earlier) {e} w m c = ⊎_elim newest (λ k. stays (committed_seat earlier v.0 k c)) (event_cases r earlier m)
    where
      v : (walks z earlier ≡ true) × (fits earlier r ≡ true)
      v = walks_earlier z r earlier w

      newest : e ≡ event earlier r → CommittedSeat e.who (seat (r ∷ earlier) e.place)
      newest q =
          let c' : kind_commits r.kind ≡ true = rw q at c in
          rw q (committed_here r earlier c', holds_here r earlier (commits_hold r.kind c'))

      stays : CommittedSeat e.who (seat earlier e.place) → CommittedSeat e.who (seat (r ∷ earlier) e.place)
      stays s =
          rw (seat_other r earlier e.place (λ q. fits_uncommitted earlier r v.1 (ap (λ p. (seat earlier p).status) q ∙ s.0))) s

  -- each event has a place of the day
  place_bound : (day : List Record) {e : Event} → walks z day ≡ true → Memᴰ e (events day) → e.place < z.places
  unfolding events event walks
  place_bound [] w m = absurd (Memᴰ.not-nil m)
  place_bound (r ∷ earlier) w m =
      ⊎_elim (λ q. rw q ((fields_says z r).0 (and_left (fields_right z r) _ (and_right (walks z earlier) _ w))).place_known)
      (place_bound earlier (and_left (walks z earlier) _ w)) (event_cases r earlier m)

-- ---- the company

module _ (z : Size) (t : ℕ) where
  -- who is in the company holds a place as a record sets the moment
  company_holds : (r : Record) (earlier : List Record) → walks z (r ∷ earlier) ≡ true → eqb (whose earlier r) t && kind_sets_moment r.kind ≡ true
      → (k : ℕ) → in_company (events (r ∷ earlier)) t k ≡ true → (p : ℕ) × (p < z.places) × ((seat (r ∷ earlier) p).begin ≡ k)
  unfolding events event
  company_holds r earlier w s k h =
      let mine = eqb-true (whose earlier r) t (and_left (eqb (whose earlier r) t) (kind_sets_moment r.kind) s) in
      let sets = and_right (eqb (whose earlier r) t) (kind_sets_moment r.kind) s in
      ⊎_elim
      (λ q. (r.place, place_bound z (r ∷ earlier) w (Memᴰ.head refl), holds_here r earlier (sets_hold r.kind sets) ∙ mine ∙ sym q))
      (λ x. (x.0.place, place_bound z (r ∷ earlier) w x.1, (committed_seat z (r ∷ earlier) w x.1 x.2).1 ∙ x.3))
      (company_cases t (r ∷ earlier) k h)

  -- past the moment nobody joins
  company_stays : (r : Record) (earlier : List Record) → walks z (r ∷ earlier) ≡ true
      → moment_of (events (r ∷ earlier)) t ≡ moment_of (events earlier) t → moment_of (events earlier) t ≤ length earlier
      → (k : ℕ) → in_company (events (r ∷ earlier)) t k ≡ true → in_company (events earlier) t k ≡ true
  unfolding in_company event
  company_stays r earlier w q b k h =
      ⊎_elim (λ e. or_left (eqb k t) _ (eq-eqb k t e))
      (λ x.
      ⊎_elim (λ n. absurd (newest x.0 n x.4))
      (λ m. ap (in_company (events earlier) t) (sym x.3) ∙ company_early z t earlier (walks_earlier z r earlier w).0 m x.2 (omega arith))
      (event_cases r earlier x.1))
      (company_cases t (r ∷ earlier) k h)
    where
      newest : (e : Event) → e ≡ event earlier r → e.number < moment_of (events (r ∷ earlier)) t → ⊥
      newest e n h = let number = ap (λ x. x.number) n in omega arith

  -- a list without repeats of the company is no longer than the number of places
  abbrev FewIn : List Record → Type 0
  FewIn day = (order : List ℕ) → distinct order ≡ true → all_in (in_company (events day) t) order ≡ true → length order ≤ z.places

  few : (day : List Record) → walks z day ≡ true → is_transaction (events day) t ≡ true → FewIn day
  few =
      at_moment z t FewIn
      (record {
        on_set = λ r earlier w s q order d a.
            distinct_few (λ p. (seat (r ∷ earlier) p).begin) z.places order d
            (λ k m. company_holds r earlier w s k (all_in_at (in_company (events (r ∷ earlier)) t) order a (member_at k order m)));
        on_other = λ r earlier w s q b known order d a.
            known order d
            (all_in_of (in_company (events earlier) t) order
            (λ k m. company_stays r earlier w q b k (all_in_at (in_company (events (r ∷ earlier)) t) order a m)));
      })

-- a list of the company is no longer than the number of places
pub company_few : (z : Size) (t : ℕ) (order : List ℕ) (day : List Record) → walks z day ≡ true → is_transaction (events day) t ≡ true
    → lists_company (events day) t order ≡ true → length order ≤ z.places
company_few z t order day w known l =
    let told = sym (company_told z t order day w known) ∙ l in
    let rest = and_right (member t order) _ (and_right (distinct order) _ told) in
    few z t day w known order (and_left (distinct order) _ told) (and_left (all_in (in_company (events day) t) order) _ rest)
