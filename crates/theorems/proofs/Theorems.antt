-- The theorems over every run of the machine's calls, each under the statement that `specs/` gives it. Rests on the theorems of the rules and on a run
-- that follows them (Following). Assumes nothing.
use Prim.Native.Nat.{ℕ, zero, suc, ◌+◌, ◌*◌, ◌-◌, ◌%◌}
use mathlib.Core.Path.{◌≡◌, refl, sym, ◌∙◌, ap, ap₂, subst}
use mathlib.Core.Logic.Iff
use mathlib.Core.Bool.{true}
use mathlib.Core.List.{List, [], ◌∷◌, ◌++◌}
use lib.ListN.{length, take, length-append}
use lib.Dec.{leb}
use native.Mathlib.Omega.{arith}
use borrow.Author.Tests.{le-leb, eq-eqb}
use Rattle.std.specs.Prelude.{Ok, Err}
use Rattle.basics.specs.Bytes.{part}
use Rattle.basics.proofs.Bools.{cond_passes}
use Rattle.basics.proofs.Bytes.{zeros_are_bytes}
use Rattle.rules.specs.declared.Record.{Record}
use Rattle.rules.specs.Sizes.{yard, order_numbers, record_bytes}
use Rattle.rules.specs.declared.refusal.Refusal.TheVariants.{NoOrder}
use Rattle.rules.specs.Numbers.{granted, lent}
use Rattle.rules.specs.Refusals.{said}
use Rattle.rules.specs.Daylog.{decode, commit_total, trailer, standing, records_in, bytes_at, day_of}
use Rattle.rules.specs.State.{Outcome, log_after, buffer_after}
use Rattle.rules.specs.Calls.{Order, Close}
use Rattle.rules.specs.Run.{Machine, outcome, after_call}
use Rattle.rules.specs.Checker.{checked}
use Rattle.rules.specs.Runs.{DayStarts, holder, ConflictExactly as RuleExactly}
use Rattle.rules.proofs.Answered.{number_settles}
use Rattle.rules.proofs.Books.Shape.{yard_within}
use Rattle.rules.proofs.Books.SoundnessSays.{sound_says}
use Rattle.rules.proofs.Calls.Joined.{log_joins_day}
use Rattle.rules.proofs.Log.StandingLog.{length_day_of, records_in_standing}
use Rattle.rules.proofs.Runs.Holders.{handle_names}
use Rattle.rules.proofs.Runs.NewDays.{close_starts}
use Rattle.rules.proofs.Runs.Told.{stands_right}
use Rattle.rules.proofs.Runs.OfRuns.{orders_given, conflict_met}
use Rattle.rules.proofs.History.LocalOpacity.{permissive_kept}
use Rattle.log_layout.specs.Walked.{layout_number}
use Rattle.log_back.specs.Course.{entry_read, is_there}
use Rattle.machine.specs.declared.books.Answer.{Answer}
use Rattle.machine.specs.View.{view, in_numbers}
use Rattle.machine.specs.Promises.{order_outcome, close_outcome, LeavesLog, LeavesBuffer}
use Rattle.checker.specs.Desk.{checked_pairs}
use Rattle.checker.proofs.Results.{answer_there}
use Rattle.theorems.specs.Calling.{as_it_stands, with_log, close_called, Known, Lends}
use Rattle.theorems.specs.Statements.{log_with, ReadsBack, GivesOrders, ConflictExactly, MeetsConflict, OfEveryRun}
use Rattle.theorems.proofs.AfterCall.{moved_state}
use Rattle.theorems.proofs.Following.{machine_known, Follows, called_then, answer_left, log_left, numbers_left, order_all, close_all, adds_no_show, called_number, run_follows}

-- a record of the day that a log's bytes hold is the one in its 16 bytes
record_back : (log : List ℕ) (n : ℕ) (newer earlier : List Record) (e : Record) → day_of log n ≡ newer ++ (e ∷ earlier) → decode (bytes_at log (length earlier)) ≡ e
unfolding day_of
record_back log zero newer earlier e q =
    let n = ap length q ∙ length-append newer (e ∷ earlier) in
    absurd (omega arith)
record_back log (suc n) [] earlier e q =
    let first : decode (bytes_at log n) ≡ e = cc in
    let rest : day_of log n ≡ earlier = cc in
    subst (λ (i : ℕ). decode (bytes_at log i) ≡ e) (sym (length_day_of log n) ∙ ap length rest) first
record_back log (suc n) (x ∷ newer) earlier e q = record_back log n newer earlier e cc

module _ (k : Known) (follows : Follows k) where
  abbrev m : Machine
  m = machine_known k

  -- the log as it stands is that of the day
  stands_for : as_it_stands k.held ≡ standing k.day
  unfolding as_it_stands standing
  stands_for =
      let j = follows.joined in
      let records = k.held.books.records in
      ap (λ total. part 0 (record_bytes * records) k.held.log ++ trailer records total) (log_joins_day.total m k.held.log j)
      ∙ ap (λ n. part 0 (record_bytes * n) k.held.log ++ trailer n (commit_total k.day)) j.counted
      ∙ ap (λ front. front ++ trailer (length k.day) (commit_total k.day)) j.in_use

  -- a granted close leaves it so in the lent log
  closed_stands : (outcome yard Close m).number ≡ granted
      → part 0 (record_bytes * k.held.books.records + record_bytes) (log_after k.held.books.records (outcome yard Close m).entry k.held.log) ≡ standing k.day
  closed_stands =
      let j = follows.joined in
      subst (λ (n : ℕ). (outcome yard Close m).number ≡ granted
      → part 0 (record_bytes * n + record_bytes) (log_after k.held.books.records (outcome yard Close m).entry k.held.log) ≡ standing k.day) (sym j.counted)
      (subst (λ (o : Outcome). o.number ≡ granted
      → part 0 (record_bytes * length k.day + record_bytes) (log_after k.held.books.records o.entry k.held.log) ≡ standing k.day)
      (log_joins_day.own_outcome yard Close m k.held.log j) (log_joins_day.closed yard (order_numbers yard) m k.held.log j))

  -- what the reader gives of one of its records
  read_back : (newer earlier : List Record) (e : Record) → k.day ≡ newer ++ (e ∷ earlier)
      → entry_read yard (as_it_stands k.held) (length earlier + 1) ≡ Ok e
  unfolding entry_read is_there
  read_back newer earlier e q =
      let back = stands_right yard _ _ follows.kept.mirror follows.kept.valued.proper in
      let log = standing k.day in
      let many : records_in log ≡ length newer + suc (length earlier) =
      records_in_standing k.day follows.kept.valued.proper ∙ ap length q ∙ length-append newer (e ∷ earlier) in
      let first : leb 1 (length earlier + 1) ≡ true = le-leb 1 (length earlier + 1) (omega arith) in
      let last : leb (length earlier + 1) (records_in log) ≡ true = le-leb (length earlier + 1) (records_in log) (omega (arith, many)) in
      let at : (length earlier + 1) - 1 ≡ length earlier = omega arith in
      rw (stands_for, back.0, first, last, at, record_back log (records_in log) newer earlier e (back.1 ∙ q)) refl

  reads_back : ReadsBack k
  unfolding layout_number
  reads_back =
      let back = stands_right yard _ _ follows.kept.mirror follows.kept.valued.proper in
      record {
        laid_out = λ r q. number_settles r (Ok tt) (q ∙ rw (stands_for, back.0) refl);
        laid_out_number = λ r q. q ∙ rw (stands_for, back.0) refl;
        events_back = rw stands_for back.1;
        counted = follows.kept.mirror.counted;
        read_one = λ newer earlier e q r p. p ∙ read_back newer earlier e q;
        closes = λ r log left on.
            let o = outcome yard Close m in
            let all = close_all k follows r left in
            let granted_close : o.number ≡ granted = sym (ap (λ a. a.number) (answer_left k follows Close (in_numbers r) _ _ _ _ all)) ∙ on in
            rw (log_left k follows Close (in_numbers r) _ _ _ _ all, stands_for) (closed_stands granted_close);
      }

  -- a run may start with what a granted close leaves
  close_starts_again : (r : Answer) (log : List ℕ)
      → LeavesLog k.held.books.records k.held.log (close_outcome k.held.books k.held.log) r log → (in_numbers r).number ≡ granted
      → DayStarts (view r.books) × Lends (with_log k.held r.books log)
  unfolding after_call
  close_starts_again r log left on =
      let o = outcome yard Close m in
      let answers = answer_left k follows Close (in_numbers r) _ _ _ _ (close_all k follows r left) in
      let starts = close_starts yard m follows.kept (sym (ap (λ a. a.number) answers) ∙ on) in
      let v = follows.kept.valued in
      let books : (after_call m o).state.books ≡ view r.books = ap (λ s. s.books) (moved_state m o.after o.entry) ∙ ap (λ a. view a.books) (sym answers) in
      let log_right = (called_then k follows (close_called r left) [] (zeros_are_bytes 0) refl).joined.whole in (
        subst DayStarts books starts.books,
        record {
          table = (v.table_length, v.table_in_bytes);
          drafts = (v.drafts_length, v.drafts_in_bytes);
          log = log_right;
          numbers = follows.numbers;
        },
      )

  -- what an order call leaves in the front of the lent numbers is accepted
  order_accepted : (h : ℕ) (r : Answer) (numbers : List ℕ) → LeavesBuffer k.held.numbers (order_outcome k.held.books h k.held.numbers) r numbers
      → (in_numbers r).number ≡ granted → checked yard k.opening (as_it_stands k.held) (holder k.day h) (take (in_numbers r).answer numbers) ≡ granted
  order_accepted h r numbers left on =
      let all = order_all k follows h r left in
      let answers = answer_left k follows (Order h) (in_numbers r) _ _ _ _ all in
      let o = outcome yard (Order h) m in
      let taken : take (in_numbers r).answer numbers ≡ take o.answer (buffer_after o.order k.held.numbers) =
      ap₂ take (ap (λ a. a.answer) answers) (numbers_left k follows (Order h) (in_numbers r) _ _ _ _ all) in
      ap (λ log. checked yard k.opening log (holder k.day h) (take (in_numbers r).answer numbers)) stands_for
      ∙ ap (checked yard k.opening (standing k.day) (holder k.day h)) taken
      ∙ (orders_given yard m yard_within follows.kept).accepted h k.held.numbers follows.numbers (sym (ap (λ a. a.number) answers) ∙ on)

  gives_orders : GivesOrders k
  unfolding checked_pairs
  gives_orders =
      record {
        accepted = λ h r numbers left on x q. number_settles x (Ok tt) (q ∙ order_accepted h r numbers left on);
        accepted_number = λ h r numbers left on x q. q ∙ order_accepted h r numbers left on;
        accepted_in_pairs = λ h r numbers bytes left on even pairs x q.
            q
            ∙ cond_passes _ lent (eq-eqb (length bytes % 2) 0 even)
            ∙ ap (checked yard k.opening (as_it_stands k.held) (holder k.day h)) pairs
            ∙ order_accepted h r numbers left on;
        given = λ h r numbers left here.
            ap (λ a. a.number) (answer_left k follows (Order h) (in_numbers r) _ _ _ _ (order_all k follows h r left))
            ∙ (orders_given yard m yard_within follows.kept).given h here;
      }

  -- Conflict by the rules is Conflict by the answers
  exactly : (h : ℕ) (r : Record) (o : Outcome) (number : ℕ) → number ≡ o.number → RuleExactly yard m h r o → ConflictExactly k h r number
  exactly h r o number q e =
      record {
        by_cycle = rw q e.by_cycle;
        by_lists =
            rw q
            (Iff.trans e.by_lists (
              λ all list x p. number_settles x (Err NoOrder) (p ∙ all list),
              λ all list.
                  let there = answer_there k.opening (log_with k r) list (holder k.day h) in
                  sym there.1 ∙ ap said (all list there.0 there.1),
            ));
        by_numbers = rw q (Iff.trans e.by_lists (λ all list x p. p ∙ all list, λ all list. all list _ refl));
      }

  meets_conflict : MeetsConflict k
  meets_conflict c h r adds number answer after called meets =
      let told = called_number k follows called (adds_no_show adds) in
      exactly h _ _ number told (conflict_met yard m yard_within follows.kept c h r adds (rw told at meets))

pub of_every_run : OfEveryRun
of_every_run =
    record {
      closes = λ k run. close_starts_again k (run_follows run);
      reads_back = λ k run. reads_back k (run_follows run);
      books_sound = λ k run. (sound_says yard _).1 (run_follows run).kept.mirror.sound;
      handles = λ k run. handle_names yard (machine_known k) (run_follows run).kept.mirror;
      orders = λ k run. gives_orders k (run_follows run);
      conflicts = λ k run. meets_conflict k (run_follows run);
      permissive = λ k run. permissive_kept yard (machine_known k) (run_follows run).kept;
    }
