-- A pass over the cells of two places.
use Rattle.std.specs.Prelude.{ℕ, Bool, false, ◌&&◌, ◌||◌, List, get_or, leb, ltb}
use Rattle.basics.specs.Below.{any_below}
use Rattle.rules.specs.declared.Place.{Place}

-- some number below the limit is marked in both arrays
abbrev pub overlap_of : List Bool → List Bool → ℕ → Bool
overlap_of a b limit = any_below (λ k. get_or a k false && get_or b k false) limit

-- some written cell was last read after the commit
abbrev pub read_after_of : List Bool → ℕ → List ℕ → ℕ → Bool
read_after_of written commit last cells = any_below (λ c. get_or written c false && ltb commit (get_or last c 0)) cells

-- some written cell was first read before the commit
abbrev pub read_before_of : List ℕ → List Bool → ℕ → ℕ → Bool
read_before_of first written commit cells = any_below (λ c. get_or written c false && (leb 1 (get_or first c 0) && ltb (get_or first c 0) commit)) cells

-- K comes first in some cell, by the commit record of each: a cell that both wrote, K's commit first; one that K wrote and M last read after K's commit;
-- or one that M wrote and K first read before M's commit
abbrev pub comes_first : Place → ℕ → Place → ℕ → ℕ → Bool
comes_first k commit m sealed cells =
    (ltb commit sealed && overlap_of k.written m.written cells) || (read_after_of k.written commit m.last cells || read_before_of k.first m.written sealed cells)
