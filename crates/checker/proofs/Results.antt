-- Two results that meet a promise of the checker are equal, and its answer says whether the list is accepted. Rests on `layout_says` of the rules.
use Prim.Native.Nat.{ℕ}
use mathlib.Core.Path.{◌≡◌, sym, ◌∙◌, ap}
use mathlib.Core.Logic.{◌↔◌}
use mathlib.Core.List.{List}
use native.Mathlib.Omega.{arith}
use lib.ListN.{length}
use Rattle.std.specs.Prelude.{Result, Ok, Err}
use Rattle.basics.proofs.Bools.{split, equal_or_not}
use Rattle.rules.specs.Sizes.{yard, table_bytes}
use Rattle.rules.specs.declared.refusal.Refusal.{Refusal}
use Rattle.rules.specs.declared.refusal.Refusal.TheVariants.{Lent, BadLog, Unknown, NoOrder}
use Rattle.rules.specs.Numbers.{granted}
use Rattle.rules.specs.Refusals.{said}
use Rattle.rules.specs.Layout.{well_laid_out}
use Rattle.rules.specs.Day.{is_transaction}
use Rattle.rules.proofs.Answered.{number_settles}
use Rattle.rules.specs.Checker.{accepted, log_events, checked}
use Rattle.rules.proofs.Log.LaidOut.{layout_says}
use Rattle.checker.specs.Statements.{ResultsUnique, Accepts, AnswerSaysAccepted}
use Rattle.checker.proofs.Answered.{answered_lent, answered_badly, answered_unknown, answered_not, answered_accepted}

pub results_unique : ResultsUnique
results_unique =
    record {
      of_checked = λ opening log list begin r r' p q. number_settles r r' (p ∙ sym q);
      of_nogturshan_check = λ opening log list begin r r' p q. p ∙ sym q;
    }

module _ (opening log list : List ℕ) (begin : ℕ) where
  -- the answer 0 leaves none of the other numbers
  accepts_of : checked yard opening log begin list ≡ granted → Accepts opening log begin list
  accepts_of e =
      equal_or_not (length opening) (table_bytes yard)
      (λ l.
      split (well_laid_out yard log)
      (λ w.
      split (is_transaction (log_events log) begin)
      (λ k.
      split (accepted yard opening (log_events log) begin list)
      (λ a. record { opening_right = l; laid_out = (layout_says yard log).0 w; begins = k; accepts = a })
      (λ a. absurd (omega (arith, answered_not yard opening log begin list l w k a))))
      (λ k. absurd (omega (arith, answered_unknown yard opening log begin list l w k))))
      (λ w. absurd (omega (arith, answered_badly yard opening log begin list l w))))
      (λ l. absurd (omega (arith, answered_lent yard opening log begin list l)))

  of_accepts : Accepts opening log begin list → checked yard opening log begin list ≡ granted
  of_accepts x = sym (answered_accepted yard opening log begin list x.opening_right ((layout_says yard log).1 x.laid_out) x.begins x.accepts)

  -- of the checker's numbers each is given back by an answer
  pub answer_there : (r : Result (Unit {0}) Refusal) × (said r ≡ checked yard opening log begin list)
  answer_there =
      equal_or_not (length opening) (table_bytes yard)
      (λ l.
      split (well_laid_out yard log)
      (λ w.
      split (is_transaction (log_events log) begin)
      (λ k.
      split (accepted yard opening (log_events log) begin list)
      (λ a. (Ok tt, answered_accepted yard opening log begin list l w k a))
      (λ a. (Err NoOrder, answered_not yard opening log begin list l w k a)))
      (λ k. (Err Unknown, answered_unknown yard opening log begin list l w k)))
      (λ w. (Err BadLog, answered_badly yard opening log begin list l w)))
      (λ l. (Err Lent, answered_lent yard opening log begin list l))

-- its number is 0 exactly if the list is accepted
number_says : (opening log list : List ℕ) (begin r : ℕ) → r ≡ checked yard opening log begin list → (r ≡ granted) ↔ Accepts opening log begin list
number_says opening log list begin r p = (λ e. accepts_of opening log list begin (sym p ∙ e), λ x. p ∙ of_accepts opening log list begin x)

pub answer_says_accepted : AnswerSaysAccepted
answer_says_accepted =
    record {
      of_answer = λ opening log list begin r p.
          let says = number_says opening log list begin (said r) p in
          (λ e. says.0 (ap said e), λ x. number_settles r (Ok tt) (says.1 x));
      of_number = number_says;
    }
