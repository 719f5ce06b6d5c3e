-- Bytes as hexadecimal digits: two digits a byte, in the order of the bytes.
use Rattle.std.specs.Prelude.{ℕ, ◌+◌, ◌/◌, ◌%◌, cond, List, [], ◌∷◌, ltb}

-- the digit of a number below 16, in lower case
unfoldable pub hex_letter : ℕ → ℕ
hex_letter d = cond (ltb d 10) (48 + d) (87 + d)

-- the digits of bytes
unfoldable pub hex_text : List ℕ → List ℕ
hex_text [] = []
hex_text (b ∷ bytes) = hex_letter (b / 16) ∷ (hex_letter (b % 16) ∷ hex_text bytes)
