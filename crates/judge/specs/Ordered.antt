-- The given order, by the square of pairs, the begin records and who is present.
use Rattle.std.specs.Prelude.{ℕ, Bool, List, get_or}
use Rattle.basics.specs.Elimination.{eliminated}
use Rattle.pairs.specs.Square.{is_in, said_before}

-- the begin record of the one at that place
abbrev pub begin_of : List ℕ → ℕ → ℕ
begin_of begins k = get_or begins k 0

-- those present in their order, as places: each time the lowest begin record among those with nobody left before them
abbrev pub ordered : List (List Bool) → List ℕ → List Bool → ℕ → List ℕ
ordered rows begins present places = eliminated places (said_before rows) (begin_of begins) (is_in present)
