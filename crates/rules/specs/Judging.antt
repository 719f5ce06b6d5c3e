-- Document 01, "What is judged": moment, company, the four kinds of pair, Conflict, and the given order.
use Rattle.std.specs.Prelude.{ℕ, Bool, not, cond, ◌&&◌, ◌||◌, List, map, ltb, leb, eqb}
use Rattle.basics.specs.Below.{any_below, greatest_below}
use Rattle.basics.specs.Walk.{Cycle}
use Rattle.basics.specs.Elimination.{eliminated, gives_all, LeftPair}
use Rattle.rules.specs.declared.Place.{Place}
use Rattle.rules.specs.Sizes.{Size}
use Rattle.rules.specs.Books.{Books, place_at, is_committed, wrote, first_read, last_read}

-- the record of the last judged read that was granted, 0 for none
unfoldable pub latest_read : Size → Place → ℕ
latest_read z p = greatest_below (last_read p) z.cells

-- the moment: the record of its commit or post; else of its last judged read that was granted; else of its begin
unfoldable pub moment : Size → Place → ℕ
moment z p = cond (is_committed p) p.commit (let r = latest_read z p in cond (eqb r 0) p.begin r)

-- the company of the transaction at place i: itself and every transaction committed before its moment
unfoldable pub company : Size → Books → ℕ → ℕ → Bool
company z b i k = eqb k i || (is_committed (place_at b k) && ltb (place_at b k).commit (moment z (place_at b i)))

-- ---- K stands before M

-- real time: K is committed and its commit record is below M's begin record
unfoldable pub real_time : Place → Place → Bool
real_time k m = is_committed k && ltb k.commit m.begin

-- write then write: both committed, a cell in common, K's commit first
unfoldable pub write_write : Size → Place → Place → Bool
write_write z k m =
    is_committed k && (is_committed m && (ltb k.commit m.commit && any_below (λ c. wrote k c && wrote m c) z.cells))

-- write then read: K committed a cell before a judged read of it by M, which is so of some read exactly if it is of the last
unfoldable pub write_read : Size → Place → Place → Bool
write_read z k m = is_committed k && any_below (λ c. wrote k c && ltb k.commit (last_read m c)) z.cells

-- read then write: K made a judged read of a cell before M committed that cell, which is so of some read exactly if it is of the first
unfoldable pub read_write : Size → Place → Place → Bool
read_write z k m =
    is_committed m && any_below (λ c. wrote m c && (leb 1 (first_read k c) && ltb (first_read k c) m.commit)) z.cells

-- one of the four holds
unfoldable pub precedes : Size → Place → Place → Bool
precedes z k m = real_time k m || (write_write z k m || (write_read z k m || read_write z k m))

-- K and M differ, and one of the four holds
unfoldable pub stands_before : Size → Books → ℕ → ℕ → Bool
stands_before z b k m = not (eqb k m) && precedes z (place_at b k) (place_at b m)

-- ---- the verdict and the order

-- the pairs of the company of the transaction at place i
abbrev pub Pair : Size → Books → ℕ → ℕ → ℕ → Type 0
Pair z b i = LeftPair z.places (stands_before z b) (company z b i)

-- these pairs contain a cycle
abbrev pub HasCycle : Size → Books → ℕ → Type 0
HasCycle z b i = Cycle (Pair z b i)

-- the same as a test: elimination does not give everybody; that this says "cycle" is the theorem `given_orders` (`cycle_told`)
unfoldable pub has_cycle : Size → Books → ℕ → Bool
has_cycle z b i = not (gives_all z.places (stands_before z b) (λ k. (place_at b k).begin) (company z b i))

-- the given order, as places: again and again, among those with nobody left before them, the one with the lowest begin record
unfoldable pub given_places : Size → Books → ℕ → List ℕ
given_places z b i = eliminated z.places (stands_before z b) (λ k. (place_at b k).begin) (company z b i)

-- the given order, as begin records
unfoldable pub given_order : Size → Books → ℕ → List ℕ
given_order z b i = map (λ k. (place_at b k).begin) (given_places z b i)
