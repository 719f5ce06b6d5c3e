-- The machine's call for a line of a script.
use Rattle.std.specs.Prelude.{ℕ}
use Rattle.machine.specs.declared.call.Call.{Call}
use Rattle.machine.specs.declared.call.Call.TheVariants as machine
use Rattle.script.specs.declared.lines.Line.{Line}
use Rattle.script.specs.declared.lines.LineKind.{LineKind}
use Rattle.script.specs.declared.lines.LineKind.TheVariants.{Begin, Write, Read, Commit, GiveUp, Post, Order, Close, Open, Table, Log, Save}
use Rattle.script.specs.declared.lines.Said.{Said}
use Rattle.script.specs.declared.lines.Said.TheVariants as said

-- the machine's call, by the kind of the line and its numbers: a post names a cell; every other call that has a number names a handle first,
-- and then a cell; a line that only looks counts as an open
unfoldable pub call_named : LineKind → ℕ → ℕ → Call
call_named Begin first second = machine.Begin
call_named Write first second = machine.Write first second
call_named Read first second = machine.Read first second
call_named Commit first second = machine.Commit first
call_named GiveUp first second = machine.GiveUp first
call_named Post first second = machine.Post first
call_named Order first second = machine.Order first
call_named Close first second = machine.Close
call_named Open first second = machine.Open
call_named Table first second = machine.Open
call_named Log first second = machine.Open
call_named Save first second = machine.Open

-- the machine's call for a line
unfoldable pub call_for : Line → Call
call_for line = call_named line.kind line.first line.second

-- the machine's call for what a line says; the open where it says nothing, or none of the calls
abbrev pub call_said : Said → Call
call_said (said.Call line) = call_for line
call_said said.Nothing = machine.Open
call_said said.Unknown = machine.Open
