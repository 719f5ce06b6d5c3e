-- The words that the program `accept` is given as numbers, and the line that it answers.
use Rattle.std.specs.Prelude.{ℕ, ◌+◌, cond, List, [], ◌∷◌, ◌++◌, eqb, leb, ltb, length, take, replicate, set, Option, Some, None, Result, Ok, Err}
use Rattle.std.specs.Borrow.{Bor}
use Rattle.basics.specs.Text.{text}
use Rattle.rules.specs.Numbers.{granted}
use Rattle.rules.specs.Report.{refused_line}
use Rattle.script.specs.Numeral.{no_number, number_of}

-- the number that a word names, if it is at most the greatest asked for; an empty word names none
unfoldable pub word_number : List ℕ → ℕ → ℕ
word_number word most = cond (eqb (length word) 0) no_number (cond (leb (number_of word) most) (number_of word) no_number)

-- the number of 16 bits that a word names; a larger number is none
unfoldable pub small_number : List ℕ → ℕ
small_number word = word_number word 65535

-- how many numbers are kept: one more than an order can have
abbrev pub most_kept : ℕ
most_kept = 33

-- no number yet: the room for the numbers, and how many of them stand in it
abbrev pub none_listed : List ℕ × ℕ
none_listed = (replicate most_kept 0, 0)

-- one number more, put behind those that stand in the room; a full room stays as it is
unfoldable pub with_number : ℕ → List ℕ × ℕ → List ℕ × ℕ
with_number n (kept, count) = cond (ltb count most_kept) (set kept count n, count + 1) (kept, count)

-- the numbers that are kept, with one more if there is room
unfoldable pub with_last : ℕ → List ℕ → List ℕ
with_last n numbers = take most_kept (numbers ++ (n ∷ []))

-- one word more: a number of 16 bits is kept while there is room; there are none any more from the first word on that is missing or no such number
unfoldable pub with_word : Option (Bor (List ℕ)) → Option (List ℕ × ℕ) → Option (List ℕ × ℕ)
with_word (Some word) (Some numbers) = let n = small_number word.now in cond (leb n 65535) (Some (with_number n numbers)) None
with_word (Some word) None = None
with_word None numbers = None

-- `accepted`, or `refused` and the number
unfoldable pub answer_line : ℕ → List ℕ
answer_line number = cond (eqb number 0) (text "accepted\n") (refused_line number)

-- the number of an answer: 0 where it accepts
abbrev pub number_in : {A : Type 0} → Result A ℕ → ℕ
number_in (Ok _) = granted
number_in (Err number) = number
