-- A replay record by record: what holds of the records of a log so far holds of fewer, what fails at one fails for good, and the end
-- of the replay is acceptance. Assumes nothing.
use Prim.Native.Nat.{ℕ, zero, suc, ◌≤◌}
use mathlib.Core.Path.{◌≡◌, sym, ◌∙◌, subst}
use mathlib.Core.Bool.{true, false, ◌&&◌}
use mathlib.Core.List.{List}
use native.Mathlib.Omega.{arith}
use Rattle.basics.specs.Lists.{all_in, member, distinct}
use Rattle.basics.proofs.Bools.{clash, same_tests, false_of_not, and_left, and_right, and_both, and_fails_right, equal_or_not}
use Rattle.rules.specs.declared.Size.{Size}
use Rattle.rules.specs.Daylog.{decode, bytes_at, day_of}
use Rattle.rules.specs.Layout.{walks}
use Rattle.rules.specs.Day.{event, events, is_transaction}
use Rattle.rules.specs.Checker.{accepted}
use Rattle.rules.proofs.Replay.InTime.{in_company, step_right, replays, accepted_in_time}
use Rattle.rules.proofs.Replay.Replayed.{accepted_told}

-- what passes from each number to the one below holds of all lower ones
down : (P : ℕ → Type 0) → ((m : ℕ) → P (suc m) → P m) → (n m : ℕ) → n ≤ m → P m → P n
down P step n zero h p = let e : 0 ≡ n = omega arith in subst P e p
down P step n (suc m) h p = equal_or_not n (suc m) (λ e. subst P (sym e) p) (λ d. down P step n m (omega arith) (step m p))

module _ (z : Size) (opening : List ℕ) (t : ℕ) (order log : List ℕ) where
  -- a replay that goes through does so over fewer records
  replays_first : (n m : ℕ) → n ≤ m → replays z opening t order (events (day_of log m)) ≡ true → replays z opening t order (events (day_of log n)) ≡ true
  unfolding day_of events replays
  replays_first =
      down (λ i. replays z opening t order (events (day_of log i)) ≡ true) (λ m w. and_left (replays z opening t order (events (day_of log m))) _ w)

  -- a replay goes on with a record that breaks nothing
  pub replays_on : (n : ℕ) → replays z opening t order (events (day_of log n)) ≡ true
      → step_right z opening t order (events (day_of log n)) (event (day_of log n) (decode (bytes_at log n))) ≡ true
      → replays z opening t order (events (day_of log (suc n))) ≡ true
  unfolding day_of events replays
  replays_on n w s = and_both (replays z opening t order (events (day_of log n))) _ w s

  -- and never again after one that does
  pub replays_fails : (n m : ℕ) → suc n ≤ m
      → step_right z opening t order (events (day_of log n)) (event (day_of log n) (decode (bytes_at log n))) ≡ false
      → replays z opening t order (events (day_of log m)) ≡ false
  unfolding day_of events replays
  replays_fails n m h s =
      false_of_not _ λ w. clash (and_right (replays z opening t order (events (day_of log n))) _ (replays_first (suc n) m h w)) s

  -- ---- the end

  module _ (m : ℕ) (walk : walks z (day_of log m) ≡ true) (known : is_transaction (events (day_of log m)) t ≡ true)
      (once : distinct order ≡ true) (listed : member t order ≡ true) where
    -- acceptance of a list without repeats that has t in it
    told : accepted z opening (events (day_of log m)) t order ≡ all_in (in_company (events (day_of log m)) t) order && replays z opening t order (events (day_of log m))
    unfolding accepted_in_time
    told = accepted_told z opening t order (day_of log m) walk known ∙ rw (once, listed)

    -- a record that is not explained: the list is not accepted
    pub accepted_not : (n : ℕ) → suc n ≤ m → step_right z opening t order (events (day_of log n)) (event (day_of log n) (decode (bytes_at log n))) ≡ false
        → accepted z opening (events (day_of log m)) t order ≡ false
    accepted_not n h s = told ∙ and_fails_right (all_in (in_company (events (day_of log m)) t) order) _ (replays_fails n m h s)

    -- all are: it is accepted exactly if everybody listed is in the company
    pub accepted_end : replays z opening t order (events (day_of log m)) ≡ true
        → accepted z opening (events (day_of log m)) t order ≡ all_in (in_company (events (day_of log m)) t) order
    accepted_end w =
        let all = all_in (in_company (events (day_of log m)) t) order in
        told ∙ same_tests (all && replays z opening t order (events (day_of log m))) all (and_left all _) (λ a. and_both all _ a w)
