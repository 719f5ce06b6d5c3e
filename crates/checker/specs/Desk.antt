-- Document 01, "Order checker": the checker as the duty desk's program in C calls it, the list as little-endian pairs of bytes.
use Rattle.std.specs.Prelude.{ℕ, ◌%◌, cond, List, [], ◌∷◌, length, eqb}
use Rattle.basics.specs.Bytes.{number}
use Rattle.rules.specs.declared.Size.{Size}
use Rattle.rules.specs.Numbers.{lent}
use Rattle.rules.specs.Checker.{checked}

-- the numbers that pairs of bytes stand for, the lowest byte first
unfoldable pub pairs_of : List ℕ → List ℕ
pairs_of [] = []
pairs_of (low ∷ []) = []
pairs_of (low ∷ high ∷ rest) = number (low ∷ high ∷ []) ∷ pairs_of rest

-- 1 if the bytes are odd, else the checker's number
unfoldable pub checked_pairs : Size → List ℕ → List ℕ → ℕ → List ℕ → ℕ
checked_pairs z opening log t bytes = cond (eqb (length bytes % 2) 0) (checked z opening log t (pairs_of bytes)) lent
