-- What is proved of writing and reading together, by what each of them promises: what is printed reads back as it was.
use Rattle.std.specs.Prelude.{ℕ, ◌<◌, ◌≡◌, true, List}
use Rattle.basics.specs.Bytes.{AreBytes}
use Rattle.basics.specs.Text.{digits}
use Rattle.texts.specs.Letters.{hex_text}
use Rattle.script.specs.Hex.{is_hex, value_bytes}
use Rattle.script.specs.Numeral.{no_number, number_of}

-- a number of 32 bits, from its digits
abbrev pub NumbersReadBack : Type 0
NumbersReadBack = (n : ℕ) → n < no_number → number_of (digits 20 n) ≡ n

-- bytes, from theirs; and those digits are a value
abbrev pub ValuesReadBack : Type 0
ValuesReadBack = (bytes : List ℕ) → AreBytes bytes → (is_hex (hex_text bytes) ≡ true) × (value_bytes (hex_text bytes) ≡ bytes)
