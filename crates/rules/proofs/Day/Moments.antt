-- The moment of a transaction moves with its records, one after the other: who has begun by a record, and what holds at a
-- moment. Rests on the laws of kinds, events and commits. Assumes nothing.
use Prim.Native.Nat.{ℕ, suc, ◌≤◌, ◌<◌}
use mathlib.Core.Path.{◌≡◌, refl, sym, ◌∙◌, ap}
use mathlib.Core.Logic.{◌⊎◌, inl, inr, ⊎_elim}
use mathlib.Core.Bool.{Bool, true, false, cond, ◌&&◌, false≢true}
use mathlib.Core.List.{List, [], ◌∷◌}
use lib.ListN.{length}
use lib.Dec.{eqb}
use native.Mathlib.Omega.{arith}
use borrow.Author.Tests.{eqb-true, eq-eqb, ne_eqb}
use Rattle.basics.specs.Lists.{any_in}
use Rattle.basics.proofs.Bools.{split, clash, false_of_not, and_left, and_right, and_both, and_fails_left, or_true, cond_passes, cond_fails, equal_or_not}
use Rattle.basics.proofs.Lists.{any_in_fails}
use Rattle.rules.specs.declared.Record.{Record}
use Rattle.rules.specs.Sizes.{Size}
use Rattle.rules.specs.Kinds.{kind_starts, kind_commits, kind_moves_moment, kind_sets_moment}
use Rattle.rules.specs.Layout.{walks}
use Rattle.rules.specs.Day.{Event, whose, event, events, latest, is_transaction, commit_of, committed, moment_of}
use Rattle.rules.proofs.Log.KindLaws.{sets_starts, sets_moves, sets_commits, sets_nothing}
use Rattle.rules.proofs.Log.Seats.{walks_earlier}
use Rattle.rules.proofs.Day.Events.{number_bounds, whose_starts, who_bound, started}
use Rattle.rules.proofs.Day.Commits.{committed_ends, latest_none, moment_at_most}

-- ---- who has begun

-- a transaction that has begun did so with one of the records
pub transaction_bound : (day : List Record) (t : ℕ) → is_transaction (events day) t ≡ true → t ≤ length day
transaction_bound day t q = let x = started day t q in omega (arith, number_bounds day x.1, x.3)

module _ (r : Record) (earlier : List Record) (t : ℕ) (begun : is_transaction (events (r ∷ earlier)) t ≡ true) where
  -- it began with the newest record, which is its own, or before
  begun_cases : ((whose earlier r ≡ t) × (kind_starts r.kind ≡ true)) ⊎ (is_transaction (events earlier) t ≡ true)
  unfolding is_transaction any_in events event
  begun_cases =
      let number = eqb (suc (length earlier)) t in
      let starts = kind_starts r.kind in
      ⊎_elim
      (λ p.
      let s = and_right number starts p in
      inl (whose_starts earlier r s ∙ eqb-true (suc (length earlier)) t (and_left number starts p), s))
      inr (or_true (number && starts) (is_transaction (events earlier) t) begun)

  -- and before if the record does not set its moment
  pub begun_earlier : eqb (whose earlier r) t && kind_sets_moment r.kind ≡ false → is_transaction (events earlier) t ≡ true
  begun_earlier still =
      ⊎_elim
      (λ x.
      let own = eq-eqb (whose earlier r) t x.0 in
      absurd (clash (and_both (eqb (whose earlier r) t) (kind_sets_moment r.kind) own (sets_starts r.kind x.1)) still))
      (λ i. i) begun_cases

-- a transaction has no events before it starts
pub none_yet : (test : Event → Bool) (earlier : List Record) (t : ℕ) → length earlier < t
    → any_in (λ e. eqb e.who t && test e) (events earlier) ≡ false
none_yet test earlier t h =
    any_in_fails (λ e. eqb e.who t && test e) (events earlier) λ e m.
    and_fails_left (eqb e.who t) (test e) (ne_eqb e.who t (λ q. omega (arith, who_bound earlier m, number_bounds earlier m)))

-- a record's transaction has not committed before it
pub uncommitted : (z : Size) (r : Record) (earlier : List Record) → walks z (r ∷ earlier) ≡ true → committed (events earlier) (whose earlier r) ≡ false
uncommitted z r earlier w = false_of_not _ (λ c. committed_ends z r earlier (whose earlier r) w c refl)

-- ---- the moment

-- the moment after one more record
pub moment_more : (z : Size) (t : ℕ) (r : Record) (earlier : List Record) → walks z (r ∷ earlier) ≡ true
    → moment_of (events (r ∷ earlier)) t
    ≡ cond (eqb (whose earlier r) t && kind_sets_moment r.kind) (suc (length earlier)) (moment_of (events earlier) t)
unfolding moment_of committed commit_of latest any_in events event
moment_more z t r earlier w = equal_or_not (whose earlier r) t mine (λ q. rw (ne_eqb (whose earlier r) t q))
  where
    mine : whose earlier r ≡ t → moment_of (events (r ∷ earlier)) t
        ≡ cond (eqb (whose earlier r) t && kind_sets_moment r.kind) (suc (length earlier)) (moment_of (events earlier) t)
    mine q =
        let same = eq-eqb (whose earlier r) t q in
        let before : committed (events earlier) t ≡ false = ap (committed (events earlier)) (sym q) ∙ uncommitted z r earlier w in
        split (kind_commits r.kind) (λ c. rw (same, sets_commits r.kind c, c)) λ c.
        split (kind_moves_moment r.kind) (λ m. rw (same, sets_moves r.kind m, c, m, before, ne_eqb (suc (length earlier)) 0 (λ z. omega arith))) λ m.
        split (kind_starts r.kind)
        (λ s.
        let number = sym q ∙ whose_starts earlier r s in
        rw (same, sets_starts r.kind s, c, m, before, latest_none (λ e. eqb e.who t && kind_moves_moment e.kind) (events earlier) (none_yet (λ e. kind_moves_moment e.kind) earlier t (omega arith))) number)
        (λ s. rw (same, (sets_nothing r.kind).1 (s, m, c), c, m))

-- it is a number of the day
pub moment_counted : (day : List Record) (t : ℕ) → is_transaction (events day) t ≡ true → moment_of (events day) t ≤ length day
moment_counted day t begun = moment_at_most day t (transaction_bound day t begun)

module _ (z : Size) (t : ℕ) where
  -- what holds with each record that sets the moment, and stays so past another, holds of the day
  pub record AtMoment (P : List Record → Type 0) : Type 0 where
    pub on_set : (r : Record) (earlier : List Record) → walks z (r ∷ earlier) ≡ true → eqb (whose earlier r) t && kind_sets_moment r.kind ≡ true
        → moment_of (events (r ∷ earlier)) t ≡ suc (length earlier) → P (r ∷ earlier)
    pub on_other : (r : Record) (earlier : List Record) → walks z (r ∷ earlier) ≡ true → eqb (whose earlier r) t && kind_sets_moment r.kind ≡ false
        → moment_of (events (r ∷ earlier)) t ≡ moment_of (events earlier) t → moment_of (events earlier) t ≤ length earlier
        → P earlier → P (r ∷ earlier)

  pub at_moment : (P : List Record → Type 0) → AtMoment P → (day : List Record) → walks z day ≡ true → is_transaction (events day) t ≡ true → P day
  unfolding is_transaction any_in events
  at_moment P a [] w i = absurd (false≢true i)
  at_moment P a (r ∷ earlier) w i =
      let sets = eqb (whose earlier r) t && kind_sets_moment r.kind in
      let moment = moment_more z t r earlier w in
      split sets (λ s. a.on_set r earlier w s (moment ∙ cond_passes _ _ s)) λ s.
      let begun = begun_earlier r earlier t i s in
      a.on_other r earlier w s (moment ∙ cond_fails _ _ s) (moment_counted earlier t begun) (at_moment P a earlier (walks_earlier z r earlier w).0 begun)
