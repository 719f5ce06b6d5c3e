-- What playing a line of a script leaves.
use Rattle.std.specs.Prelude.{◌≡◌, ℕ, Bool, true, false, cond, ◌&&◌, List, take, replicate, ◌==◌, Option, Some, None, Result, Ok, Err}
use Rattle.rules.specs.Numbers.{granted}
use Rattle.rules.specs.State.{Outcome, log_after}
use Rattle.texts.specs.Placed.{with_text}
use Rattle.script.specs.Blanks.{content_of}
use Rattle.script.specs.LineCalls.{value_on, only_looks, call_of}
use Rattle.machine.specs.declared.books.Books.{Books}
use Rattle.machine.specs.View.{answer_of}
use Rattle.machine.specs.Promises.{call_outcome}
use Rattle.making.specs.Made.{call_for}
use Rattle.script.specs.declared.lines.Line.{Line}
use Rattle.script.specs.declared.lines.LineKind.{LineKind}
use Rattle.script.specs.declared.lines.LineKind.TheVariants.{Close, Open}
use Rattle.script.specs.declared.lines.Said.{Said}
use Rattle.script.specs.declared.lines.Said.TheVariants.{Nothing, Unknown, Call}
use Rattle.play.specs.declared.Room.{Room}

-- what a call gives by its number and its answer: the answer where it is granted, else the number of its refusal
abbrev pub given_of : ℕ → ℕ → Result ℕ ℕ
given_of number answer = cond (number == granted) (Ok answer) (Err number)

-- the outcome of the machine's call for a line, with the value that stands on the line and an order buffer of zeros
unfoldable pub line_outcome : Books → Line → List ℕ → List ℕ → List ℕ → List ℕ → Outcome
line_outcome books line content table drafts log =
    call_outcome books (call_for line) (take 128 (value_on content line.kind)) table drafts log (replicate 32 0)

-- the calls that begin a new day where they are granted: an open and a close
abbrev pub begins_day : LineKind → Bool
begins_day Open = true
begins_day Close = true
begins_day _ = false

-- the opening table of the new day is the table as it is
unfoldable pub opening_after : LineKind → ℕ → List ℕ → List ℕ → List ℕ
opening_after kind number table opening = cond (begins_day kind && number == 0) (with_text opening 0 table) opening

-- what playing a line leaves of the books, the opening table and all that is lent to the machine: where it only looks, all as it was; else what
-- the machine's call leaves
pub record Played (books : Books) (line : Line) (content opening table drafts log : List ℕ) (after : Books) (opening' table' drafts' log' : List ℕ) : Type 0 where
  pub looks : only_looks line.kind ≡ true → (after ≡ books) × (opening' ≡ opening) × (table' ≡ table) × (drafts' ≡ drafts) × (log' ≡ log)
  pub calls : only_looks line.kind ≡ false → let o = line_outcome books line content table drafts log in
      (after ≡ (answer_of o).books) × (opening' ≡ opening_after line.kind o.number o.after.table opening) × (table' ≡ o.after.table) × (drafts' ≡ o.after.drafts) × (log' ≡ log_after books.records o.entry log)

-- what playing what a line says leaves of the books, the opening table and all that is lent to the machine: a call is played; where it says
-- nothing, or none of the calls, all is as it was
abbrev pub PlayedLent : Said → Books → List ℕ → List ℕ → List ℕ → List ℕ → List ℕ → Books → List ℕ → List ℕ → List ℕ → List ℕ → Type 0
PlayedLent (Call line) books content opening table drafts log after opening' table' drafts' log' =
    Played books line content opening table drafts log after opening' table' drafts' log'
PlayedLent Nothing books content opening table drafts log after opening' table' drafts' log' =
    (after ≡ books) × (opening' ≡ opening) × (table' ≡ table) × (drafts' ≡ drafts) × (log' ≡ log)
PlayedLent Unknown books content opening table drafts log after opening' table' drafts' log' =
    (after ≡ books) × (opening' ≡ opening) × (table' ≡ table) × (drafts' ≡ drafts) × (log' ≡ log)

-- what playing what a line says leaves of the books and the room: a call is played; where it says nothing, or none of the calls, all is as it was
abbrev pub PlayedSaid : Said → Books → List ℕ → Room → Books → Room → Type 0
PlayedSaid (Call line) books content room after room' =
    Played books line content room.opening room.table room.drafts room.log after room'.opening room'.table room'.drafts room'.log
PlayedSaid Nothing books content room after room' = (after ≡ books) × (room' ≡ room)
PlayedSaid Unknown books content room after room' = (after ≡ books) × (room' ≡ room)

-- what playing the line that is held leaves, by what its content says; where it was too long to be held, all is as it was
abbrev pub PlayedHeld : Option ℕ → Books → Room → Books → Room → Type 0
PlayedHeld (Some held) books room after room' = let content = content_of (take held room.line) in PlayedSaid (call_of content) books content room after room'
PlayedHeld None books room after room' = (after ≡ books) × (room' ≡ room)
