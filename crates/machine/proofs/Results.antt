-- Two results that meet a call's promise are equal, for every public call. Rests on document 01's numbers telling answers apart; a promise settles each
-- part of a result by an equation. Assumes nothing.
use mathlib.Core.Path.{◌≡◌, sym, ◌∙◌, ap}
use Rattle.effects.proofs.Settled.{given_settled}
use Rattle.machine.specs.declared.books.Answer.{Answer}
use Rattle.machine.specs.declared.books.Told.{Told}
use Rattle.machine.specs.View.{in_numbers}
use Rattle.machine.specs.Statements.{SameTwo, SameThree, ResultsUnique}

-- answers that are one in document 01's numbers are one
pub told_settles : (r r' : Answer) → in_numbers r ≡ in_numbers r' → r ≡ r'
told_settles r r' same =
    ap (λ g. record { given = g; books = r.books }) (given_settled r.given r'.given (ap (λ t. t.number) same) (ap (λ t. t.answer) same))
    ∙ ap (λ b. record { given = r'.given; books = b }) (ap (λ t. t.books) same)

-- what equals the same is equal: one part, two, three
one : {A : Type 0} {x y z : A} → x ≡ z → y ≡ z → x ≡ y
one p q = p ∙ sym q

two : {B : Type 0} {r r' : Answer} {t : Told} {x x' b : B} → (in_numbers r ≡ t) × (x ≡ b) → (in_numbers r' ≡ t) × (x' ≡ b) → SameTwo r x r' x'
two {r = r} {r' = r'} p q = (told_settles r r' (one p.0 q.0), one p.1 q.1)

three : {B C : Type 0} {r r' : Answer} {t : Told} {x x' b : B} {y y' c : C} → (in_numbers r ≡ t) × ((x ≡ b) × (y ≡ c)) → (in_numbers r' ≡ t) × ((x' ≡ b) × (y' ≡ c))
    → SameThree r x y r' x' y'
three {r = r} {r' = r'} p q = (told_settles r r' (one p.0 q.0), (one p.1.0 q.1.0, one p.1.1 q.1.1))

pub results_unique : ResultsUnique
results_unique =
    record {
      of_yard_size = λ r r'. one;
      of_is_sound = λ b r r'. one;
      of_open = λ r r'. one;
      of_begin = λ b log r r' after after'. two;
      of_write = λ b handle cell value drafts log r r' put put' after after'. three;
      of_read = λ b handle cell table drafts log r r' after after'. two;
      of_show = λ b given handle cell drafts table drafts_at table_at bytes bytes' at at' p q. (one p.0 q.0, one p.1 q.1);
      of_commit = λ b handle table drafts log r r' laid laid' after after'. three;
      of_give_up = λ b handle log r r' after after'. two;
      of_post = λ b cell value table log r r' laid laid' after after'. three;
      of_order = λ b handle numbers r r' filled filled'. two;
      of_close = λ b log r r' after after'. two;
      of_stepped =
          λ b call value table drafts log numbers r r' laid laid' put put' after after' filled filled' p q.
          (one p.0 q.0, (one p.1.0 q.1.0, (one p.1.1.0 q.1.1.0, (one p.1.1.1.0 q.1.1.1.0, one p.1.1.1.1 q.1.1.1.1))));
    }
