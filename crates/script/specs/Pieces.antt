-- Lines out of a stream that comes in pieces.
use Rattle.std.specs.Prelude.{ℕ, ◌+◌, ◌-◌, true, false, cond, List, length, leb, ltb, Option, Some, None}
use Rattle.basics.specs.Bytes.{part}
use Rattle.texts.specs.Placed.{with_text}
use Rattle.script.specs.Blanks.{first_of}
use Rattle.script.specs.declared.input.Taken.{Taken}
use Rattle.script.specs.declared.words.Class.TheVariants.{LineEnd}

-- how many bytes of a line are held with n more; none once there is no room for the line
unfoldable pub held_then : ℕ → Option ℕ → ℕ → Option ℕ
held_then room (Some held) n = cond (leb (held + n) room) (Some (held + n)) None
held_then room None n = None

-- the line's buffer with more bytes behind those that are held; as it is, once the line is too long
unfoldable pub held_text : List ℕ → Option ℕ → List ℕ → List ℕ
held_text line (Some held) more = with_text line held more
held_text line None more = line

-- where the line goes to from a place on: its end, or the end of the piece
unfoldable pub line_end : List ℕ → ℕ → ℕ
line_end piece at = first_of piece at LineEnd

-- the line's bytes from a place on
unfoldable pub line_rest : List ℕ → ℕ → List ℕ
line_rest piece at = part at (line_end piece at - at) piece

-- what is taken of a piece from a place on: up to and with the end of the line, or all that is left
unfoldable pub taken : List ℕ → ℕ → ℕ → Option ℕ → Taken
taken piece at room held =
    let end = line_end piece at in
    let then = held_then room held (end - at) in
    cond (ltb end (length piece)) (record { at = end + 1; held = then; whole = true }) (record { at = end; held = then; whole = false })
