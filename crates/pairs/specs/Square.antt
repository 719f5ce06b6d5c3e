-- The square of pairs as an array of rows: row m says who stands before m, among those present.
use Rattle.std.specs.Prelude.{ℕ, Bool, false, cond, ◌&&◌, List, [], get_or, replicate}
use Rattle.basics.specs.Below.{filled_below}
use Rattle.rules.specs.declared.Size.{Size}
use Rattle.rules.specs.Sizes.{width}
use Rattle.rules.specs.Books.{Books}
use Rattle.rules.specs.Judging.{stands_before}

-- the one at that place is present
abbrev pub is_in : List Bool → ℕ → Bool
is_in present k = get_or present k false

-- by row and column: k stands before m
abbrev pub said_before : List (List Bool) → ℕ → ℕ → Bool
said_before rows k m = get_or (get_or rows m []) k false

-- who of those present stands before m
unfoldable pub row_of : Size → Books → List Bool → ℕ → List Bool
row_of z b present m = filled_below (λ k. is_in present k && stands_before z b k m) false z.places width

-- all rows of those present; the row of one that is not present is empty of marks
unfoldable pub square_of : Size → Books → List Bool → List (List Bool)
square_of z b present = filled_below (λ m. cond (is_in present m) (row_of z b present m) (replicate width false)) (replicate width false) z.places width
