-- Values as hexadecimal digits: two digits a byte, in the order of the bytes.
use Rattle.std.specs.Prelude.{ℕ, ◌+◌, ◌-◌, ◌*◌, ◌%◌, Bool, true, false, cond, ◌&&◌, List, [], ◌∷◌, length, eqb, ltb, Option, Some, None}
use Rattle.std.specs.List.{list_all}

-- the value of a digit, 0 to 9, A to F or a to f; none for a byte that is no digit
unfoldable pub hex_value : ℕ → Option ℕ
hex_value b =
    cond (ltb b 48) None
    (cond (ltb b 58) (Some (b - 48)) (cond (ltb b 65) None (cond (ltb b 71) (Some (b - 55)) (cond (ltb b 97) None (cond (ltb b 103) (Some (b - 87)) None)))))

-- there is a value
abbrev pub is_one : Option ℕ → Bool
is_one (Some d) = true
is_one None = false

-- which it is; none counts 0
abbrev pub counted : Option ℕ → ℕ
counted (Some d) = d
counted None = 0

-- a byte is a digit
unfoldable pub is_digit : ℕ → Bool
is_digit b = is_one (hex_value b)

-- a value: an even number of digits
unfoldable pub is_hex : List ℕ → Bool
is_hex word = eqb (length word % 2) 0 && list_all is_digit word

-- the byte that two digits stand for; what is no digit counts 0
unfoldable pub byte_of : ℕ → ℕ → ℕ
byte_of high low = 16 * counted (hex_value high) + counted (hex_value low)

-- the bytes that a word's digits stand for; an odd one at the end is left out
unfoldable pub value_bytes : List ℕ → List ℕ
value_bytes [] = []
value_bytes (high ∷ []) = []
value_bytes (high ∷ (low ∷ rest)) = byte_of high low ∷ value_bytes rest
