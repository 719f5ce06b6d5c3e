-- The lines that answers are printed as: pieces put one behind the other.
use Rattle.std.specs.Prelude.{ℕ, zero, suc, ◌*◌, ◌/◌, ◌≡◌, List, [], ◌∷◌, ◌++◌, length, get_or, Result, Ok, Err}
use Rattle.std.specs.Borrow.{Bor}
use Rattle.basics.specs.Bytes.{part}
use Rattle.basics.specs.Text.{text, digits, decimal}
use Rattle.rules.specs.Numbers.{granted}
use Rattle.texts.specs.declared.buffer.Text.{Text}
use Rattle.texts.specs.Letters.{hex_text}
use Rattle.texts.specs.Placed.{with_text, after_text}

-- pieces put into a buffer from a place on, each behind the one before: the buffer, and the place after them
unfoldable pub placed : List ℕ → ℕ → List (List ℕ) → List ℕ × ℕ
placed out at [] = (out, at)
placed out at (piece ∷ pieces) = placed (with_text out at piece) (after_text (length out) at (length piece)) pieces

-- pieces are put behind what a text has already, in the same buffer
abbrev pub Puts : Text → Text → List (List ℕ) → Type 0
Puts before after pieces = (after.out.ghost_name ≡ before.out.ghost_name) × ((after.out.now, after.at) ≡ placed before.out.now before.at pieces)

-- the bytes of pieces, one behind the other
unfoldable pub joined : List (List ℕ) → List ℕ
joined [] = []
joined (piece ∷ pieces) = piece ++ joined pieces

-- a number and a value, each after a space
unfoldable pub then_number : ℕ → List (List ℕ)
then_number n = text " " ∷ (digits 20 n ∷ [])

unfoldable pub then_value : List ℕ → List (List ℕ)
then_value bytes = text " " ∷ (hex_text bytes ∷ [])

-- a call and the number that it gave back
unfoldable pub number_line : List ℕ → ℕ → List (List ℕ)
number_line name number = name ∷ then_number number

-- with the handle, if it is granted
unfoldable pub handle_line : List ℕ → Result ℕ ℕ → List (List ℕ)
handle_line name (Ok handle) = number_line name granted ++ then_number handle
handle_line name (Err number) = number_line name number

-- with what is shown, if it is granted
unfoldable pub value_line : List ℕ → Result (Bor (List ℕ)) ℕ → List (List ℕ)
value_line name (Ok shown) = number_line name granted ++ then_value shown.now
value_line name (Err number) = number_line name number

-- the first numbers of a list
unfoldable pub listed : List ℕ → ℕ → List (List ℕ)
listed numbers zero = []
listed numbers (suc n) = listed numbers n ++ then_number (get_or numbers n 0)

-- with an order
unfoldable pub order_line : List ℕ → ℕ → List ℕ → List (List ℕ)
order_line name number numbers = number_line name number ++ listed numbers (length numbers)

-- the values of the first cells of a table
unfoldable pub celled : List ℕ → ℕ → List (List ℕ)
celled table zero = []
celled table (suc n) = celled table n ++ then_value (part (8 * n) 8 table)

-- a table
unfoldable pub table_line : List ℕ → List (List ℕ)
table_line table = text "table" ∷ celled table (length table / 8)

-- a line of a script that is none of the calls, by its number
unfoldable pub unknown_line : ℕ → List (List ℕ)
unknown_line line = text "line" ∷ (then_number line ++ (text " ?" ∷ []))

-- a refusal's number, and the end of the line
unfoldable pub refused_told : ℕ → List (List ℕ)
refused_told number = text "refused " ∷ (decimal number ∷ (text "\n" ∷ []))
