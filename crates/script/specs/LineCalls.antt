-- The call that a line of a script names.
use Rattle.std.specs.Prelude.{ℕ, ◌-◌, Bool, true, false, not, cond, ◌&&◌, List, [], ◌∷◌, length, eqb, ltb, Option, Some, None}
use Rattle.std.specs.List.{find}
use Rattle.std.specs.Str.{bytes_eq}
use Rattle.basics.specs.Text.{text}
use Rattle.script.specs.declared.lines.Form.{Form}
use Rattle.script.specs.declared.lines.Line.{Line}
use Rattle.script.specs.declared.lines.LineKind.{LineKind}
use Rattle.script.specs.declared.lines.LineKind.TheVariants.{Begin, Write, Read, Commit, GiveUp, Post, Order, Close, Open, Table, Log, Save}
use Rattle.script.specs.declared.lines.Said.{Said}
use Rattle.script.specs.declared.lines.Said.TheVariants.{Nothing, Unknown, Call}
use Rattle.script.specs.Blanks.{word_start, word_of}
use Rattle.script.specs.Hex.{is_hex, value_bytes}
use Rattle.script.specs.Numeral.{no_number, number_of}

-- the name of a call
abbrev pub name : LineKind → List ℕ
name Begin = text "begin"
name Write = text "write"
name Read = text "read"
name Commit = text "commit"
name GiveUp = text "giveup"
name Post = text "post"
name Order = text "order"
name Close = text "close"
name Open = text "open"
name Table = text "table"
name Log = text "log"
name Save = text "save"

-- all calls
abbrev pub kinds : List LineKind
kinds = Begin ∷ Write ∷ Read ∷ Commit ∷ GiveUp ∷ Post ∷ Order ∷ Close ∷ Open ∷ Table ∷ Log ∷ Save ∷ []

-- the call of that name; none where there is none
unfoldable pub kind_of : List ℕ → Option LineKind
kind_of word = find (λ kind. bytes_eq (name kind) word) kinds

-- how a call is written: how many words it has, how many of them are numbers, behind its name, and which of them is its value
unfoldable pub form_of : LineKind → Form
form_of Begin = record { words = 1; numbers = 0; value = None }
form_of Write = record { words = 4; numbers = 2; value = Some 3 }
form_of Read = record { words = 3; numbers = 2; value = None }
form_of Commit = record { words = 2; numbers = 1; value = None }
form_of GiveUp = record { words = 2; numbers = 1; value = None }
form_of Post = record { words = 3; numbers = 1; value = Some 2 }
form_of Order = record { words = 2; numbers = 1; value = None }
form_of Close = record { words = 1; numbers = 0; value = None }
form_of Open = record { words = 1; numbers = 0; value = None }
form_of Table = record { words = 1; numbers = 0; value = None }
form_of Log = record { words = 1; numbers = 0; value = None }
form_of Save = record { words = 2; numbers = 0; value = None }

-- a line that only looks: the table's, the log's and the one that saves
abbrev pub only_looks : LineKind → Bool
only_looks Table = true
only_looks Log = true
only_looks Save = true
only_looks _ = false

-- there is nothing on a line from a word on
unfoldable pub ends_before : List ℕ → ℕ → Bool
ends_before line n = eqb (word_start line n) (length line)

-- the line has just as many words as the call
unfoldable pub has_words : List ℕ → LineKind → Bool
has_words line kind = let count = (form_of kind).words in not (ends_before line (count - 1)) && ends_before line count

-- the word that stands for a value is one, if there is such a word
unfoldable pub is_value : List ℕ → Option ℕ → Bool
is_value line None = true
is_value line (Some n) = is_hex (word_of line n)

-- a call's value is one
unfoldable pub has_value : List ℕ → LineKind → Bool
has_value line kind = is_value line (form_of kind).value

-- the bytes of the word that is a value; no bytes where there is none
unfoldable pub value_at : List ℕ → Option ℕ → List ℕ
value_at line None = []
value_at line (Some n) = value_bytes (word_of line n)

-- the bytes of a call's value; none where it has no value
unfoldable pub value_on : List ℕ → LineKind → List ℕ
value_on line kind = value_at line (form_of kind).value

-- a call's first or second number; 0 where it has none
unfoldable pub argument : List ℕ → LineKind → ℕ → ℕ
argument line kind n = cond (ltb (form_of kind).numbers n) 0 (number_of (word_of line n))

-- the line is the call
unfoldable pub is_call : List ℕ → LineKind → Bool
is_call line kind =
    has_words line kind && (has_value line kind && (not (eqb (argument line kind 1) no_number) && not (eqb (argument line kind 2) no_number)))

-- a line with a call: its kind, and its numbers
unfoldable pub with_call : List ℕ → LineKind → Line
with_call line kind = record { kind = kind; first = argument line kind 1; second = argument line kind 2 }

-- the call on a line whose first word names that call
unfoldable pub call_named : List ℕ → Option LineKind → Option Line
call_named line None = None
call_named line (Some kind) = cond (is_call line kind) (Some (with_call line kind)) None

-- a line with something on it: a call, or none of them
abbrev pub said : Option Line → Said
said (Some line) = Call line
said None = Unknown

-- what a line says, its comment left out
unfoldable pub call_of : List ℕ → Said
call_of line = cond (ends_before line 0) Nothing (said (call_named line (kind_of (word_of line 0))))
