-- `texts::hex::spell` meets its contract. The loop's invariant: the first i bytes are spelled out. Assumes nothing.
use Rattle.std.proofs.Common.{◌≡◌, ◌*◌, take}
use Rattle.texts.specs.Letters.{hex_text}
use Rattle.texts.proofs.hex.spell.Given as goal

abbrev pub invariant-loop-i : goal.invariant-loop-i
invariant-loop-i l = take (2 * l.i) l.out ≡ hex_text (take l.i l.bytes)
