-- Laws of a report's lines: one record more, how long they are, and that they are the lines of the rules. Assumes nothing.
use Prim.Native.Nat.{ℕ, zero, suc, ◌+◌, ◌-◌, ◌*◌, ◌≤◌}
use mathlib.Core.Path.{◌≡◌, refl, sym, ◌∙◌, ap, ap₂}
use mathlib.Core.Bool.{true, false, cond}
use mathlib.Core.List.{List, [], ◌++◌, append-nil}
use native.Mathlib.Numerals.{add-one}
use native.Mathlib.Omega.{arith}
use lib.ListN.{length, length-append}
use Rattle.basics.specs.Text.{text}
use Rattle.basics.proofs.Bools.{split}
use Rattle.rules.specs.Kinds.{kind_starts}
use Rattle.rules.specs.Daylog.{decode, bytes_at, records_in, day_of}
use Rattle.rules.specs.Day.{event, events, is_transaction, Standing as Stands, stands_live, stands_committed, stands_gaveup, stands_conflict, stands_post}
use Rattle.rules.specs.Checker.{log_events}
use Rattle.rules.specs.Report.{standing_word, first_line, transaction_line, transaction_lines}
use Rattle.rules.proofs.Log.StandingLog.{length_day_of}
use Rattle.texts.specs.declared.buffer.Text.{Text}
use Rattle.texts.specs.Said.{placed, joined, Puts}
use Rattle.texts.proofs.Fitting.{joined_append, decimal_few}
use Rattle.texts.proofs.Saying.{placed_append}
use Rattle.log_back.specs.declared.course.Standing.{Standing}
use Rattle.log_back.specs.declared.course.Standing.TheVariants.{Live, Committed, GaveUp, Conflict, Post}
use Rattle.log_back.specs.declared.transaction.Transaction.{Transaction}
use Rattle.log_back.specs.Course.{standing_of, transaction_of}
use Rattle.log_back.proofs.Starts.{starts_told}
use Rattle.report.specs.Reported.{word_told, labelled, first_told, told, all_told}

-- ---- one record more

-- pieces put behind pieces
pub puts_more : (before between after : Text) (first rest : List (List ℕ)) → Puts before between first → Puts between after rest
    → Puts before after (first ++ rest)
puts_more before between after first rest p q = (
  q.0 ∙ p.0,
  q.1 ∙ ap (λ (x : List ℕ × ℕ). placed x.0 x.1 rest) p.1 ∙ sym (placed_append before.out.now before.at first rest),
)

module _ (log : List ℕ) where
  pub told_none : all_told log 0 ≡ []
  unfolding all_told
  told_none = refl

  -- it starts a transaction, whose line is put
  pub told_more : (n : ℕ) (its : Transaction) → is_transaction (log_events log) (n + 1) ≡ true → its ≡ transaction_of log (n + 1)
      → all_told log (n + 1) ≡ all_told log n ++ told its
  unfolding all_told
  told_more n its starts same =
      let here = rw add-one at starts in
      let its_is = rw add-one at same in
      rw (add-one, here, its_is)

  -- it starts none
  pub told_skips : (n : ℕ) → is_transaction (log_events log) (n + 1) ≡ false → all_told log (n + 1) ≡ all_told log n
  unfolding all_told
  told_skips n other = let here = rw add-one at other in rw (add-one, here, append-nil)

-- ---- how long the lines are

-- the first line
pub first_short : (records total : ℕ) → length (joined (first_told records total)) ≤ 64
unfolding joined first_told labelled text
first_short records total = simp length-append (omega (arith, decimal_few records, decimal_few total))

-- how a transaction stands
word_short : (its : Standing) → length (word_told its) ≤ 9
unfolding word_told text
word_short Live = omega arith
word_short Committed = omega arith
word_short GaveUp = omega arith
word_short Conflict = omega arith
word_short Post = omega arith

-- a transaction's line
told_short : (its : Transaction) → length (joined (told its)) ≤ 41
unfolding joined told labelled text
told_short its =
    simp length-append
    (omega (arith, decimal_few its.begin, decimal_few its.place, word_short its.standing, decimal_few its.moment))

-- the lines of all
pub all_short : (log : List ℕ) (n : ℕ) → length (joined (all_told log n)) ≤ 41 * n
unfolding all_told joined
all_short log zero = omega arith
all_short log (suc n) =
    let rest = all_short log n in
    split (is_transaction (log_events log) (suc n))
    (λ t. rw (t, joined_append, length-append) (omega (arith, told_short (transaction_of log (suc n)))))
    (λ f. rw (f, append-nil) (omega arith))

-- ---- that they are the lines of the rules

-- the first line
pub first_is : (records total : ℕ) → joined (first_told records total) ≡ first_line records total
unfolding joined first_told labelled text first_line
first_is records total = refl

-- how a transaction stands
word_is : (s : Stands) → word_told (standing_of s) ≡ standing_word s
unfolding word_told standing_of standing_word
word_is stands_live = refl
word_is stands_committed = refl
word_is stands_gaveup = refl
word_is stands_conflict = refl
word_is stands_post = refl

module _ (log : List ℕ) where
  -- a transaction's line, from its first record
  told_is : (n : ℕ) → joined (told (transaction_of log (suc n))) ≡ transaction_line (log_events log) (event (day_of log n) (decode (bytes_at log n)))
  unfolding joined told labelled text transaction_of transaction_line event
  told_is n = let same : suc n - 1 ≡ n = omega arith in rw (length_day_of log n, word_is, same)

  -- a record starts a transaction exactly if its kind does
  starts_there : (n : ℕ) → suc n ≤ records_in log → is_transaction (log_events log) (suc n) ≡ kind_starts (decode (bytes_at log n)).kind
  unfolding log_events
  starts_there n h = starts_told log (records_in log) n h

  -- what it adds to the lines
  more_is : (n : ℕ) → suc n ≤ records_in log → joined (cond (is_transaction (log_events log) (suc n)) (told (transaction_of log (suc n))) [])
      ≡ cond (kind_starts (decode (bytes_at log n)).kind) (transaction_line (log_events log) (event (day_of log n) (decode (bytes_at log n)))) []
  unfolding joined
  more_is n h =
      rw (starts_there n h) (split (kind_starts (decode (bytes_at log n)).kind) (λ t. rw t (told_is n)) (λ f. rw f))

  -- the lines of all
  pub all_are : (n : ℕ) → n ≤ records_in log → joined (all_told log n) ≡ transaction_lines (log_events log) (events (day_of log n))
  unfolding joined all_told events day_of transaction_lines event
  all_are zero h = refl
  all_are (suc n) h =
      joined_append (all_told log n) (cond (is_transaction (log_events log) (suc n)) (told (transaction_of log (suc n))) [])
      ∙ ap₂ ◌++◌ (all_are n (omega arith)) (more_is n h)
