-- Lists that are refused at once: one with more numbers than places, one with repeats, one without the named transaction; and the checker
-- answers all that are too long alike. Assumes nothing.
use Prim.Native.Nat.{ℕ, ◌<◌}
use mathlib.Core.Path.{◌≡◌, ◌∙◌}
use mathlib.Core.Bool.{true, false}
use mathlib.Core.List.{List}
use lib.ListN.{length}
use native.Mathlib.Omega.{arith}
use Rattle.basics.specs.Lists.{member, distinct}
use Rattle.basics.proofs.Bools.{split, false_of_not, and_left, and_fails_left, and_fails_right}
use Rattle.rules.specs.declared.Size.{Size}
use Rattle.rules.specs.Daylog.{records_in, day_of}
use Rattle.rules.specs.Layout.{well_laid_out}
use Rattle.rules.specs.Day.{is_transaction}
use Rattle.rules.specs.Checker.{lists_company, accepted, log_events, checked}
use Rattle.rules.specs.Numbers.{first_reason}
use Rattle.rules.proofs.Log.LaidOut.{laid_out_has}
use Rattle.rules.proofs.Replay.CompanyInTime.{company_told}
use Rattle.rules.proofs.Replay.FewInCompany.{company_few}

module _ (z : Size) (opening log : List ℕ) (t : ℕ) where
  -- it is not accepted
  pub long_refused : (order : List ℕ) → z.places < length order → well_laid_out z log ≡ true → is_transaction (log_events log) t ≡ true
      → accepted z opening (log_events log) t order ≡ false
  unfolding accepted log_events
  long_refused order h right known =
      false_of_not _ λ e.
      let few = company_few z t order (day_of log (records_in log)) (laid_out_has z log right).2 known (and_left (lists_company (log_events log) t order) _ e) in
      omega arith

  -- nor is one with repeats, nor one without t
  pub repeats_refused : (order : List ℕ) → distinct order ≡ false → accepted z opening (log_events log) t order ≡ false
  unfolding accepted lists_company
  repeats_refused order e = and_fails_left (lists_company (log_events log) t order) _ (and_fails_left (distinct order) _ e)

  pub unlisted_refused : (order : List ℕ) → member t order ≡ false → well_laid_out z log ≡ true → is_transaction (log_events log) t ≡ true
      → accepted z opening (log_events log) t order ≡ false
  unfolding accepted log_events
  unlisted_refused order out right known =
      and_fails_left (lists_company (log_events log) t order) _
      (company_told z t order (day_of log (records_in log)) (laid_out_has z log right).2 known
      ∙ and_fails_right (distinct order) _ (and_fails_left (member t order) _ out))

  -- so two lists that are too long have one answer
  pub long_alike : (order order' : List ℕ) → z.places < length order → z.places < length order'
      → checked z opening log t order ≡ checked z opening log t order'
  unfolding checked first_reason
  long_alike order order' h h' =
      split (well_laid_out z log)
      (λ right. split (is_transaction (log_events log) t)
      (λ known. rw (right, known, long_refused order h right known, long_refused order' h' right known))
      (λ known. rw (right, known)))
      (λ right. rw right)
