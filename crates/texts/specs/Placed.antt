-- Bytes put into a buffer.
use Rattle.std.specs.Prelude.{ℕ, ◌+◌, cond, List, length, leb}
use Rattle.basics.specs.Bytes.{splice}

-- bytes put in from a place on, as a whole; left out where there is no room for them
unfoldable pub with_text : List ℕ → ℕ → List ℕ → List ℕ
with_text out at bytes = cond (leb (at + length bytes) (length out)) (splice at bytes out) out

-- the place after n bytes that are put in at a place, in a buffer with so much room; the same place where they are left out
unfoldable pub after_text : ℕ → ℕ → ℕ → ℕ
after_text room at n = cond (leb (at + n) room) (at + n) at
