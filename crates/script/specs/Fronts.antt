-- Bytes put in at the front of a buffer, as far as it has room.
use Rattle.std.specs.Prelude.{ℕ, ◌≤◌, ◌≡◌, cond, List, ◌++◌, length, take, drop, leb}

-- a number, or the room that there is where that is less
unfoldable pub at_most : ℕ → ℕ → ℕ
at_most room n = cond (leb n room) n room

-- n elements stand at the front of a list (the second follows from the first; both are stated for those who take that part)
abbrev pub Front : ℕ → List ℕ → Type 0
Front n xs = (n ≤ length xs) × (n ≡ length (take n xs))

-- the first n elements of other bytes in the stead of a list's own
unfoldable pub with_front : List ℕ → ℕ → List ℕ → List ℕ
with_front xs n bytes = take n bytes ++ drop n xs
