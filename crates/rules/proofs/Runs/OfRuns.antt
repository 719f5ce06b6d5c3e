-- The theorems over runs: the log reads back, every order that is given is accepted, and a judged call meets Conflict exactly when, were it granted, no
-- list would be accepted. Rests on what every call keeps (Running) and on what a verdict says (Verdicts, Explaining). Assumes nothing.
use Prim.Native.Nat.{ℕ, ◌<◌}
use mathlib.Core.Path.{◌≡◌, refl, sym, ◌∙◌, ap, subst}
use mathlib.Core.Logic.Iff
use mathlib.Core.Logic.{◌↔◌, ⊎_elim}
use mathlib.Core.Bool.{true, false, cond}
use mathlib.Core.List.{List, [], ◌∷◌}
use lib.ListN.{length, take}
use native.Mathlib.Omega.{arith}
use borrow.Author.Tests.{eq-eqb}
use Rattle.basics.specs.Bytes.{part}
use Rattle.basics.specs.Walk.{Cycle}
use Rattle.basics.proofs.Bools.{false_of_not, cond_passes, cond_fails, cond_not}
use Rattle.basics.proofs.Bytes.{part_splice}
use Rattle.rules.specs.declared.Record.{Record}
use Rattle.rules.specs.Sizes.{Size, Within, table_bytes, order_numbers}
use Rattle.rules.specs.Books.{Books, place_at, held_status, is_held}
use Rattle.rules.specs.Handles.{place_of, good_handle}
use Rattle.rules.specs.Judging.{HasCycle, has_cycle, given_order}
use Rattle.rules.specs.Numbers.{granted, conflict, no_order, first_reason}
use Rattle.rules.specs.State.{Outcome, buffer_after, recorded, refused, unless_refused}
use Rattle.rules.specs.Calls.{Call, Read, Commit, Order, issued, IsJudged, read_judged, commit_judged}
use Rattle.rules.specs.Judged.{Judged, granted_of}
use Rattle.rules.specs.Steps.{soundness_reason, order_reasons, order_of, order_rule, judged_read, judged_commit}
use Rattle.rules.specs.Kept.{LiveCaller}
use Rattle.rules.specs.Run.{Machine, lends, outcome, new_day, moved_on, after_call}
use Rattle.rules.specs.Day.{events, is_transaction}
use Rattle.rules.specs.Checker.{accepted, log_events, checked}
use Rattle.rules.specs.Runs.{ran, told_run, RunsReadBack, holder, checked_on, GivesOrders, OrdersAccepted, DayPair, record_of, reads_own, WouldAdd, adds_read, adds_commit, MeetsNone, ConflictExactly, MeetsConflict, ConflictsMet}
use Rattle.rules.proofs.Calls.Asked.{held_asked, order_goes_on, order_asked}
use Rattle.rules.proofs.Calls.EachCall.{refused_or}
use Rattle.rules.proofs.Judging.Explaining.{accepted_of, cycle_no_list}
use Rattle.rules.proofs.Runs.Handled.{record_of_live, judged_met, judged_verdict, judged_told, holder_is}
use Rattle.rules.proofs.Calls.JudgedStep.{judged_step}
use Rattle.rules.proofs.Judging.GivenOrders.{given_orders}
use Rattle.rules.proofs.Mirror.Mirrors.{Mirrored, Valued}
use Rattle.rules.proofs.Mirror.Mirrored.{mirrored_judged}
use Rattle.rules.proofs.Runs.Running.{Kept, kept_new, kept_ran, reached_kept, held_then, begin_then}
use Rattle.rules.proofs.Books.SoundnessSays.{sound_says}
use Rattle.rules.proofs.Runs.Told.{told_run_right, closes_right, stands_right}
use Rattle.rules.proofs.Mirror.Valued.{valued_judged}
use Rattle.rules.proofs.Judging.PairsMirrored.{transaction_mirrored}
use Rattle.rules.proofs.Judging.Verdicts.{cycle_mirrored, order_lists, order_keeps}

-- ---- the checker on the log as it stands

-- a machine with mirrored books, right bytes and a held place: the checker answers for its transaction by the day's events
module _ (z : Size) (m : Machine) (mirror : Mirrored z m.state.books m.day) (valued : Valued z m) (i : ℕ) (there : i < z.places)
    (held : is_held (place_at m.state.books i) ≡ true) where
  abbrev b : Books
  b = m.state.books

  -- the transaction, which is one of the day
  abbrev t : ℕ
  t = (place_at b i).begin

  known : is_transaction (events m.day) t ≡ true
  known = transaction_mirrored z b m.day mirror i there held

  -- the number is 0 or 12, as the list is accepted
  checked_says : (order : List ℕ) → checked_on z m m.day t order ≡ cond (accepted z m.opening (events m.day) t order) granted no_order
  unfolding checked first_reason log_events
  checked_says order =
      let back = stands_right z b m.day mirror valued.proper in
      rw (eq-eqb (length m.opening) (table_bytes z) valued.opening_length, back.0, back.1, known)
      (cond_not (accepted z m.opening (events m.day) t order) granted no_order)

  -- with a cycle it is 12 for every list
  cyclic_refused : Cycle (DayPair z (events m.day) t) → (order : List ℕ) → checked_on z m m.day t order ≡ no_order
  cyclic_refused cycle order = checked_says order ∙ cond_fails granted no_order (cycle_no_list z m.day t cycle m.opening order)

  -- without one it is 0 for the given order
  order_granted : has_cycle z b i ≡ false → checked_on z m m.day t (given_order z b i) ≡ granted
  order_granted free =
      checked_says (given_order z b i)
      ∙ cond_passes granted no_order
      (accepted_of z m.opening m.day t mirror.walking known valued.legal (given_order z b i) (order_lists z b m.day mirror i there held free)
      (order_keeps z b m.day mirror i there held))

-- ---- read-back

pub runs_read_back : RunsReadBack
unfolding new_day
runs_read_back z calls start w starts bytes =
    let new = kept_new z start w starts in
    let kept = kept_ran z calls start w bytes new in
    let none : start.day ≡ [] = ap (λ n. n.day) starts.new in
    let back = stands_right z _ _ kept.mirror kept.valued.proper in
    let told : told_run z calls start [] ≡ (ran z calls start).day =
    subst (λ (day : List Record). told_run z calls start day ≡ (ran z calls start).day) none (told_run_right z calls start w new.mirror) in
    record {
      laid_out = back.0;
      events_back = back.1 ∙ sym told;
      counted = kept.mirror.counted ∙ ap length (sym told);
      closes = closes_right z (ran z calls start) w kept.mirror;
    }

-- ---- orders

module _ (z : Size) (m : Machine) (w : Within z) (kept : Kept z m) where
  abbrev books : Books
  books = m.state.books

  abbrev mirror : Mirrored z m.state.books m.day
  mirror = kept.mirror

  -- an order of a held handle without a cycle is accepted
  order_accepted : (h : ℕ) → place_of h < z.places → is_held (place_at books (place_of h)) ≡ true → has_cycle z books (place_of h) ≡ false
      → checked_on z m m.day (holder m.day h) (given_order z books (place_of h)) ≡ granted
  order_accepted h there held free =
      rw (holder_is z m mirror h there held) (order_granted z m mirror kept.valued (place_of h) there held free)

  -- what an order call leaves in the front of the buffer is the order
  order_in_front : (i : ℕ) (buffer : List ℕ) → let order = given_order z books i in take (length order) (buffer_after order buffer) ≡ order
  unfolding buffer_after part
  order_in_front i buffer = part_splice 0 (given_order z books i) buffer (omega arith) (length (given_order z books i)) refl

  order_right : (h : ℕ) (buffer : List ℕ) → let o = outcome z (Order h) m in
      o.number ≡ granted → checked_on z m m.day (holder m.day h) (take o.answer (buffer_after o.order buffer)) ≡ granted
  unfolding outcome issued order_rule order_of refused
  order_right h buffer =
      refused_or
      (λ o. o.number ≡ granted → checked_on z m m.day (holder m.day h) (take o.answer (buffer_after o.order buffer)) ≡ granted) _ m.state _
      (λ n other e. absurd (other e)) λ g e.
      let asked = order_asked z (order_numbers z) books h g in
      ap (checked_on z m m.day (holder m.day h)) (order_in_front (place_of h) buffer)
      ∙ order_accepted h asked.caller.place asked.caller.held asked.no_cycle

  -- nobody who holds a place has a cycle
  nobody_cyclic : (i : ℕ) → i < z.places → is_held (place_at books i) ≡ true → has_cycle z books i ≡ false
  nobody_cyclic i there held =
      false_of_not _ λ t.
      kept.explained.each (place_at books i).begin (transaction_mirrored z books m.day mirror i there held)
      ((cycle_mirrored z books m.day mirror i there held).0 ((given_orders z books i).cycle_told.0 t))

  order_given : (h : ℕ) → good_handle z books h ≡ true → (outcome z (Order h) m).number ≡ granted
  unfolding outcome issued order_rule order_of order_reasons soundness_reason first_reason unless_refused
  order_given h good =
      let caller = held_asked z books h mirror.sound good in
      rw (eq-eqb (order_numbers z) (order_numbers z) refl, (sound_says z books).1 mirror.sound, order_goes_on z books h mirror.sound good, nobody_cyclic (place_of h) caller.place caller.held) refl

  pub orders_given : GivesOrders z m
  orders_given = record { accepted = λ h buffer right. order_right h buffer; given = order_given }

-- ---- Conflict

-- a judged call weighed with the record that it would add: the machine n is the one that it would leave
module _ (z : Size) (i : ℕ) (o : Outcome) (n : Machine) (mirror : Mirrored z n.state.books n.day) (valued : Valued z n) (there : i < z.places)
    (held : is_held (place_at n.state.books i) ≡ true) (meets : MeetsNone o.number) (verdict : (o.number ≡ conflict) ↔ HasCycle z n.state.books i) where
  -- the transaction
  abbrev who : ℕ
  who = (place_at n.state.books i).begin

  weighed_cycle : (o.number ≡ conflict) ↔ Cycle (DayPair z (events n.day) who)
  weighed_cycle = Iff.trans verdict (cycle_mirrored z n.state.books n.day mirror i there held)

  -- a granted call has no cycle, and so its order is accepted
  granted_some : o.number ≡ granted → ((order : List ℕ) → checked_on z n n.day who order ≡ no_order) → ⊥
  granted_some on none =
      let order = given_order z n.state.books i in
      let free = false_of_not _ (λ c. let met = verdict.1 ((given_orders z n.state.books i).cycle_told.0 c) in omega arith) in
      let zero = order_granted z n mirror valued i there held free in
      let twelve = none order in
      omega arith

  weighed_lists : (o.number ≡ conflict) ↔ ((order : List ℕ) → checked_on z n n.day who order ≡ no_order)
  weighed_lists = (
    λ met. cyclic_refused z n mirror valued i there held (weighed_cycle.0 met),
    λ none. ⊎_elim (λ on. absurd (granted_some on none)) (λ met. met) meets,
  )

module _ (z : Size) (m : Machine) (w : Within z) (kept : Kept z m) where
  -- told of the log with the record: the record is that of a granted call, and the transaction the one at the handle's place
  exactly : (h : ℕ) (r : Record) (o : Outcome) (n : Machine) → n.day ≡ r ∷ m.day → n.opening ≡ m.opening → Mirrored z n.state.books n.day → Valued z n
      → place_of h < z.places → is_held (place_at n.state.books (place_of h)) ≡ true → holder m.day h ≡ (place_at n.state.books (place_of h)).begin
      → MeetsNone o.number → (o.number ≡ conflict) ↔ HasCycle z n.state.books (place_of h) → ConflictExactly z m h r o
  exactly h r o n day opening mirror valued there held named meets verdict =
      record {
        by_cycle = rw (← day, named) (weighed_cycle z (place_of h) o n mirror valued there held meets verdict);
        by_lists = rw (← day, ← opening, named) (weighed_lists z (place_of h) o n mirror valued there held meets verdict);
      }

  -- the transaction of a live caller, by the log
  caller_is : (h : ℕ) → LiveCaller z m.state.books h → holder m.day h ≡ (place_at m.state.books (place_of h)).begin
  caller_is h caller = holder_is z m kept.mirror h caller.place (ap held_status caller.live)

  weighed_met : (c : Call) (h : ℕ) (j : Judged) → IsJudged z (reads_own m.day) m.state c h j → let o = outcome z c m in
      MeetsNone o.number → ConflictExactly z m h (record_of j.kind h j.cell j.value) o
  unfolding after_call moved_on granted_of recorded
  weighed_met c h j told meets =
      let mirror = kept.mirror in
      let l = lends z m in
      let judged = judged_told z m mirror told meets in
      let asked = judged_met z m judged meets in
      let step = judged_step z l m.state judged asked in
      let caller = step.caller in
      exactly h (record_of j.kind h j.cell j.value) _ (after_call m (granted_of m.state (place_of h) j))
      (ap (λ r. r ∷ m.day) (sym (record_of_live z m.state.books h caller j.kind j.cell j.value))) refl
      (mirrored_judged z l m w mirror judged asked j.value step.value_right) (valued_judged z l m w mirror kept.valued judged asked) caller.place
      (held_then z m mirror step) (caller_is h caller ∙ sym (begin_then z m mirror step)) meets (judged_verdict z m judged meets)

  -- what is weighed of each judged call is the record that it would add
  added_met : {c : Call} {h : ℕ} {r : Record} → WouldAdd m.day m.state.table c h r → MeetsNone (outcome z c m).number → ConflictExactly z m h r (outcome z c m)
  added_met (adds_read h c other) = weighed_met (Read h c) h (judged_read z m.state (place_of h) c) (read_judged h c other)
  added_met (adds_commit h) = weighed_met (Commit h) h (judged_commit z m.state (place_of h)) (commit_judged h)

  pub conflict_met : MeetsConflict z m
  conflict_met c h r = added_met

-- ---- every machine that a run has come to

pub orders_accepted : OrdersAccepted
orders_accepted z m w r = orders_given z m w (reached_kept z m w r)

pub conflicts_met : ConflictsMet
conflicts_met z m w r = conflict_met z m w (reached_kept z m w r)
