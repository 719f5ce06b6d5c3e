-- The verdict says that the pairs of the company contain a cycle, a walk from one of them back to itself. Rests on the theorem `given_orders` of the
-- rules.
use mathlib.Core.Path.{sym, ◌∙◌, ap}
use mathlib.Core.List.{List}
use Rattle.rules.specs.declared.Place.{Place}
use Rattle.rules.specs.Books.{of_places}
use Rattle.rules.specs.Judging.{has_cycle}
use Rattle.rules.proofs.Judging.GivenOrders.{cycle_by_places, given_orders}
use Rattle.judge.specs.Statements.{AnswerSaysCycle}

pub answer_says_cycle : AnswerSaysCycle
answer_says_cycle z b places i r same e =
    let told = (given_orders z b i).cycle_told in
    let here = e ∙ ap (λ (ps : List Place). has_cycle z (of_places ps) i) (sym same) ∙ cycle_by_places z b i in
    (λ t. told.0 (sym here ∙ t), λ c. here ∙ told.1 c)
