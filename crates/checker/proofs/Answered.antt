-- The checker's numbers, one after the other: each is the answer where no earlier one is. Assumes nothing.
use Prim.Native.Nat.{ℕ, ◌≤◌}
use mathlib.Core.Path.{◌≡◌}
use mathlib.Core.Bool.{true, false}
use mathlib.Core.List.{List}
use lib.ListN.{length}
use native.Mathlib.Omega.{arith}
use borrow.Author.Tests.{eq-eqb, ne_eqb}
use Rattle.rules.specs.declared.Size.{Size}
use Rattle.rules.specs.Sizes.{table_bytes, most_records}
use Rattle.rules.specs.Numbers.{granted, lent, bad_log, unknown, no_order, first_reason}
use Rattle.rules.specs.Daylog.{records_in, day_of}
use Rattle.rules.specs.Layout.{well_laid_out}
use Rattle.rules.specs.Day.{is_transaction}
use Rattle.rules.specs.Checker.{accepted, log_events, checked}
use Rattle.rules.proofs.Log.StandingLog.{length_day_of}
use Rattle.rules.proofs.Log.LaidOut.{laid_out_has}
use Rattle.rules.proofs.Day.Moments.{transaction_bound}

module _ (z : Size) (opening log : List ℕ) (t : ℕ) (order : List ℕ) where
  -- the opening table has a wrong length
  pub answered_lent : (length opening ≡ table_bytes z → ⊥) → lent ≡ checked z opening log t order
  unfolding checked first_reason
  answered_lent d = rw (ne_eqb (length opening) (table_bytes z) d)

  module _ (l : length opening ≡ table_bytes z) where
    -- the log is badly laid out
    pub answered_badly : well_laid_out z log ≡ false → bad_log ≡ checked z opening log t order
    unfolding checked first_reason
    answered_badly w = rw (eq-eqb (length opening) (table_bytes z) l, w)

    module _ (w : well_laid_out z log ≡ true) where
      -- the record is no begin or post
      pub answered_unknown : is_transaction (log_events log) t ≡ false → unknown ≡ checked z opening log t order
      unfolding checked first_reason
      answered_unknown k = rw (eq-eqb (length opening) (table_bytes z) l, w, k)

      module _ (k : is_transaction (log_events log) t ≡ true) where
        -- the list is not accepted, or it is
        pub answered_not : accepted z opening (log_events log) t order ≡ false → no_order ≡ checked z opening log t order
        unfolding checked first_reason
        answered_not a = rw (eq-eqb (length opening) (table_bytes z) l, w, k, a)

        pub answered_accepted : accepted z opening (log_events log) t order ≡ true → granted ≡ checked z opening log t order
        unfolding checked first_reason
        answered_accepted a = rw (eq-eqb (length opening) (table_bytes z) l, w, k, a)

-- a begin record of a well laid out log is one of at most 4,000 records
pub begin_small : (z : Size) (log : List ℕ) (t : ℕ) → well_laid_out z log ≡ true → is_transaction (log_events log) t ≡ true → t ≤ most_records
unfolding log_events
begin_small z log t right known =
    let has = laid_out_has z log right in
    omega (arith, has.1, transaction_bound (day_of log (records_in log)) t known, length_day_of log (records_in log))
