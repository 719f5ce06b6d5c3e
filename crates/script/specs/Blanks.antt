-- The words of a line: what stands between blanks. Words are counted from 0.
use Rattle.std.specs.Prelude.{ℕ, ◌-◌, Bool, cond, ◌&&◌, ◌||◌, List, length, get_or, take, eqb, leb, ltb, Option, Some, None}
use Rattle.basics.specs.Below.{least_below, run_below}
use Rattle.basics.specs.Bytes.{part}
use Rattle.script.specs.declared.words.Class.{Class}
use Rattle.script.specs.declared.words.Class.TheVariants.{Blank, Solid, Comment, LineEnd, NoByte}

-- a tab, a carriage return and a space are blanks
abbrev pub is_blank : ℕ → Bool
is_blank b = eqb b 9 || (eqb b 13 || eqb b 32)

-- the class of a byte: a blank, the end of a line, the start of a comment, or a byte of a word
unfoldable pub class_of : ℕ → Class
class_of b = cond (is_blank b) Blank (cond (eqb b 10) LineEnd (cond (eqb b 35) Comment Solid))

-- the classes by number, in the order in which they are declared
abbrev pub number : Class → ℕ
number Blank = 0
number Solid = 1
number Comment = 2
number LineEnd = 3
number NoByte = 4

-- a byte is of a class
abbrev pub is_of : Class → ℕ → Bool
is_of class b = eqb (number (class_of b)) (number class)

-- a byte from a place on is of a class
abbrev pub of_class : List ℕ → ℕ → Class → ℕ → Bool
of_class line at class i = leb at i && is_of class (get_or line i 0)

-- from a place on, the first byte of a class; the line's length where there is none
unfoldable pub first_of : List ℕ → ℕ → Class → ℕ
first_of line at class = least_below (of_class line at class) (length line)

-- a place in a line of such a length; none past its last byte
abbrev pub place_in : ℕ → ℕ → Option ℕ
place_in size at = cond (ltb at size) (Some at) None

-- where the next word starts, from the start of a word
unfoldable pub next_start : List ℕ → ℕ → ℕ
next_start line at = first_of line (first_of line at Blank) Solid

-- where a word starts; the line's length where it has no such word
unfoldable pub word_start : List ℕ → ℕ → ℕ
word_start line n = run_below (λ i at. next_start line at) n (first_of line 0 Solid)

-- a word; empty where the line has no such word
unfoldable pub word_of : List ℕ → ℕ → List ℕ
word_of line n = let from = word_start line n in part from (first_of line from Blank - from) line

-- a line up to its comment, which a `#` starts
unfoldable pub content_of : List ℕ → List ℕ
content_of line = take (first_of line 0 Comment) line
