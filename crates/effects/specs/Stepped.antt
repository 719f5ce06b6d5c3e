-- What a call comes to, as the code hands it over, and in document 01's numbers.
use Rattle.std.specs.Prelude.{ℕ, ◌+◌, List, set, Result, Ok, Err}
use Rattle.rules.specs.declared.Place.{Place}
use Rattle.rules.specs.declared.refusal.Refusal.{Refusal}
use Rattle.rules.specs.Books.{Books, books_of}
use Rattle.rules.specs.Refusals.{said}
use Rattle.rules.specs.State.{Outcome}
use Rattle.effects.specs.declared.StepOf.{StepOf}

-- a step in document 01's numbers: the number, the handle or count (else 0), and the books after the call
pub record InNumbers : Type 0 where
  pub number : ℕ
  pub answer : ℕ
  pub books : Books

-- the handle or count; 0 where the call is refused
abbrev pub answer_in : Result ℕ Refusal → ℕ
answer_in (Ok answer) = answer
answer_in (Err _) = 0

-- what a call of document 01 comes to
abbrev pub Step : Type 0
Step = StepOf (Result ℕ Refusal)

abbrev pub in_numbers : Step → InNumbers
in_numbers s = record { number = said s.given; answer = answer_in s.given; books = books_of s.records s.places }

-- by the outcome of its rule
abbrev pub step_of : Outcome → InNumbers
step_of o = record { number = o.number; answer = o.answer; books = o.after.books }

-- one record more, and place i changed to p, whatever is given
abbrev pub changed_step : {G : Type 0} → G → List Place → ℕ → ℕ → Place → StepOf G
changed_step given places records i p = record { given = given; records = records + 1; places = set places i p }

-- a refusal: which it is and nothing else
abbrev pub refused_step : {E : Type 0} → E → List Place → ℕ → StepOf (Result ℕ E)
refused_step refusal places records = record { given = Err refusal; records = records; places = places }
