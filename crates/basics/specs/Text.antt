-- Text as bytes.
use Rattle.std.specs.Prelude.{ℕ, zero, suc, ◌+◌, ◌/◌, ◌%◌, cond, List, [], ◌∷◌, ◌++◌, ltb}
use Prim.Native.Char.{code}
use Prim.Native.String.{String}

-- the bytes of a text of plain letters
unfoldable pub text : String → List ℕ
text String.[] = []
text (String.◌∷◌ c rest) = code c ∷ text rest

-- a number in decimal, for numbers of at most so many digits
unfoldable pub digits : ℕ → ℕ → List ℕ
digits zero n = []
digits (suc more) n = let front = digits more (n / 10) in cond (ltb n 10) ((48 + n) ∷ []) (front ++ ((48 + n % 10) ∷ []))

-- a number of at most five digits in decimal
unfoldable pub decimal : ℕ → List ℕ
decimal n = digits 5 n
