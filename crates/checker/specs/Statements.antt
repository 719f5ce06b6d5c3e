-- What is proved of the checker's answers: the types of the theorems, to be read without their proofs.
use Rattle.std.specs.Prelude.{ℕ, Result, Ok, ◌≡◌, ◌↔◌, true, List, length}
use Rattle.rules.specs.Sizes.{yard, table_bytes}
use Rattle.rules.specs.declared.refusal.Refusal.{Refusal}
use Rattle.rules.specs.Numbers.{granted}
use Rattle.rules.specs.Refusals.{said}
use Rattle.rules.specs.Layout.{WellLaidOut}
use Rattle.rules.specs.Day.{is_transaction}
use Rattle.rules.specs.Checker.{accepted, log_events, checked}
use Rattle.checker.specs.Desk.{checked_pairs}

-- any two results that meet a promise of the checker are equal
pub record ResultsUnique : Type 0 where
  pub of_checked : (opening log list : List ℕ) (begin : ℕ) (r r' : Result (Unit {0}) Refusal) → said r ≡ checked yard opening log begin list
      → said r' ≡ checked yard opening log begin list → r ≡ r'
  pub of_nogturshan_check : (opening log list : List ℕ) (begin r r' : ℕ) → r ≡ checked_pairs yard opening log begin list
      → r' ≡ checked_pairs yard opening log begin list → r ≡ r'

-- the opening table has its length, every layout rule holds, the record is a begin or post, and the list is accepted
pub record Accepts (opening log : List ℕ) (begin : ℕ) (list : List ℕ) : Type 0 where
  pub opening_right : length opening ≡ table_bytes yard
  pub laid_out : WellLaidOut yard log
  pub begins : is_transaction (log_events log) begin ≡ true
  pub accepts : accepted yard opening (log_events log) begin list ≡ true

-- what `checked` promises of its answer, of whatever it is given
pub record AnswerSaysAccepted : Type 0 where
  -- of the answer as it is given: nothing refuses exactly if the list is accepted
  pub of_answer : (opening log list : List ℕ) (begin : ℕ) (r : Result (Unit {0}) Refusal) → said r ≡ checked yard opening log begin list
      → (r ≡ Ok tt) ↔ Accepts opening log begin list
  -- of its number r: it is 0 exactly if the list is accepted
  pub of_number : (opening log list : List ℕ) (begin r : ℕ) → r ≡ checked yard opening log begin list → (r ≡ granted) ↔ Accepts opening log begin list
