-- Where nothing is added the log and the order buffer stay. Assumes nothing.
use Prim.Native.Nat.{ℕ}
use mathlib.Core.Path.{◌≡◌, sym}
use mathlib.Core.List.{List, []}
use Rattle.basics.proofs.Bytes.{splice_nothing}
use Rattle.rules.specs.State.{nothing, entry_bytes, log_after, buffer_after}

pub log_stays : (records : ℕ) (log : List ℕ) → log ≡ log_after records nothing log
unfolding log_after entry_bytes
log_stays records log = sym (splice_nothing _ log)

pub buffer_stays : (buffer : List ℕ) → buffer ≡ buffer_after [] buffer
unfolding buffer_after
buffer_stays buffer = sym (splice_nothing 0 buffer)
