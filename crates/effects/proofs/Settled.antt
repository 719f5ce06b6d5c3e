-- A step is settled by what it is in document 01's numbers: no two that differ are one there. Rests on these numbers telling refusals apart.
use Prim.Native.Nat.{ℕ}
use mathlib.Core.Path.{◌≡◌, ◌∙◌, ap}
use native.Mathlib.Omega.{arith}
use Rattle.std.specs.Prelude.{Result, Ok, Err}
use Rattle.rules.specs.declared.refusal.Refusal.{Refusal}
use Rattle.rules.specs.Refusals.{said}
use Rattle.rules.proofs.Answered.{refusal_settled, refuses}
use Rattle.effects.specs.Stepped.{Step, answer_in, in_numbers}

-- what is given is settled by its number and by its handle or count
pub given_settled : (x y : Result ℕ Refusal) → said x ≡ said y → answer_in x ≡ answer_in y → x ≡ y
given_settled (Ok a) (Ok b) number answer = ap Ok answer
given_settled (Ok a) (Err r) number answer = absurd (omega (arith, refuses r))
given_settled (Err r) (Ok b) number answer = absurd (omega (arith, refuses r))
given_settled (Err r) (Err r') number answer = ap Err (refusal_settled r r' number)

-- so steps that are one in document 01's numbers are one
pub step_settled : (s s' : Step) → in_numbers s ≡ in_numbers s' → s ≡ s'
step_settled s s' same =
    ap (λ g. record { given = g; records = s.records; places = s.places }) (given_settled s.given s'.given (ap (λ n. n.number) same) (ap (λ n. n.answer) same))
    ∙ ap (λ r. record { given = s'.given; records = r; places = s.places }) (ap (λ n. n.books.records) same)
    ∙ ap (λ p. record { given = s'.given; records = s'.records; places = p }) (ap (λ n. n.books.places) same)
