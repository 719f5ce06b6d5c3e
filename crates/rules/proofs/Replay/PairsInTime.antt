-- A list of transactions keeps the pairs of a day exactly if, record by record, nobody listed comes to stand before one that is listed earlier.
-- Rests on the pairs that arise with one event, and on the laws of events and commits. Assumes nothing.
use Prim.Native.Nat.{ℕ, suc}
use mathlib.Core.Path.{◌≡◌, refl, ◌∙◌, ap}
use mathlib.Core.Bool.{true, false, ◌&&◌}
use mathlib.Core.List.Memᴰ
use mathlib.Core.List.{List, [], ◌∷◌}
use lib.ListN.{length}
use lib.Dec.{eqb}
use native.Mathlib.Omega.{arith}
use Rattle.basics.specs.Lists.{all_in, any_in, distinct, keeps}
use Rattle.basics.proofs.Bools.{and_fails_right}
use Rattle.basics.proofs.Lists.{all_in_at, member_at, keeps_cong, keeps_or, keeps_nobody, distinct_keeps_cong}
use Rattle.rules.specs.declared.Record.{Record}
use Rattle.rules.specs.Sizes.{Size}
use Rattle.rules.specs.Kinds.{kind_starts}
use Rattle.rules.specs.Layout.{walks}
use Rattle.rules.specs.Day.{whose, event, events, is_transaction, day_before}
use Rattle.rules.proofs.Log.Seats.{walks_earlier}
use Rattle.rules.proofs.Day.Moments.{transaction_bound, uncommitted}
use Rattle.rules.proofs.Day.Settled.{read_known}
use Rattle.rules.proofs.Day.Events.{number_bounds, whose_starts, who_transaction}
use Rattle.rules.proofs.Day.Commits.{commit_at_most}
use Rattle.rules.proofs.Replay.InTime.{arises, pairs_in_time}
use Rattle.rules.proofs.Day.PairsArise.{Newest, begun_before, one_more}

module _ (z : Size) where
  -- what is known of the newest event of a day that walks
  pub newest : (r : Record) (earlier : List Record) → walks z (r ∷ earlier) ≡ true → Newest z (events earlier) (event earlier r)
  unfolding event events is_transaction any_in
  newest r earlier w =
      record {
        newer = λ i. omega (arith, number_bounds earlier i);
        newer_than_commit = λ t. omega (arith, commit_at_most earlier t);
        newer_than_begin = λ t q. omega (arith, transaction_bound earlier t q);
        unsealed = uncommitted z r earlier w;
        started = whose_starts earlier r;
        begun = begun_there;
        cells_known = read_known z earlier (walks_earlier z r earlier w).0;
      }
    where
      begun_there : kind_starts r.kind ≡ false → is_transaction (events earlier) (whose earlier r) ≡ true
      begun_there s =
          let told = who_transaction z (r ∷ earlier) w (Memᴰ.head refl) in
          rw (s, and_fails_right (eqb (suc (length earlier)) (whose earlier r)) false refl) at told

  -- the list keeps the pairs with those who have begun exactly if it keeps those that arise with each event
  begun_told : (order : List ℕ) (day : List Record) → walks z day ≡ true → distinct order ≡ true
      → keeps (begun_before z (events day)) order ≡ pairs_in_time z order (events day)
  unfolding pairs_in_time events begun_before is_transaction any_in
  begun_told order [] w d = keeps_nobody (begun_before z []) order (λ k m. refl)
  begun_told order (r ∷ earlier) w d =
      let e = event earlier r in
      let es = events earlier in
      distinct_keeps_cong (begun_before z (e ∷ es)) _ order d (one_more (newest r earlier w))
      ∙ keeps_or (begun_before z es) (λ k m. eqb e.who m && arises z es e k) order
      ∙ ap (λ b. b && keeps (λ k m. eqb e.who m && arises z es e k) order) (begun_told order earlier (walks_earlier z r earlier w).0 d)

  -- a list of transactions keeps the pairs of the day exactly if they are kept in time
  pub pairs_told : (order : List ℕ) (day : List Record) → walks z day ≡ true → distinct order ≡ true
      → all_in (is_transaction (events day)) order ≡ true → keeps (day_before z (events day)) order ≡ pairs_in_time z order (events day)
  unfolding begun_before
  pairs_told order day w d a =
      keeps_cong (day_before z (events day)) (begun_before z (events day)) order
      (λ k m i j. rw (all_in_at (is_transaction (events day)) order a (member_at m order j)))
      ∙ begun_told order day w d
