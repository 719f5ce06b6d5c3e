-- Numbers of 32 bits in decimal.
use Rattle.std.specs.Prelude.{ℕ, ◌+◌, ◌-◌, ◌*◌, cond, List, length, get_or, ltb, Option, Some, None}
use Rattle.basics.specs.Below.{run_below}

-- what stands for no number: one past the largest of 32 bits
abbrev pub no_number : ℕ
no_number = 4294967296

-- a number, or what stands for none
abbrev pub named : Option ℕ → ℕ
named (Some n) = n
named None = no_number

-- a number with one digit more behind it; no number where that is no digit, or where the number passes 32 bits
unfoldable pub with_digit : ℕ → ℕ → ℕ
with_digit n b =
    let more = 10 * n + (b - 48) in
    cond (ltb b 48) no_number (cond (ltb 57 b) no_number (cond (ltb more no_number) more no_number))

-- the number that a word names: its digits, one after the other
unfoldable pub number_of : List ℕ → ℕ
number_of word = run_below (λ i n. with_digit n (get_or word i 0)) (length word) 0
