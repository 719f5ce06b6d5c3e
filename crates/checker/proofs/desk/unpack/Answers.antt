-- `checker::desk::unpack` meets its contract. The loop's invariant: the first i numbers are those of the pairs. Assumes nothing.
use Prim.Native.Nat.{ℕ, ◌+◌, ◌*◌, ◌-◌}
use mathlib.Core.Path.{◌≡◌, sym, ◌∙◌, ap}
use native.Mathlib.Omega.{arith}
use lib.ListN.{get_or, take, drop, set}
use Rattle.basics.specs.Bytes.{number}
use Rattle.basics.proofs.Copied.{copied_more}
use Rattle.checker.specs.Desk.{pairs_of}
use Rattle.checker.proofs.Unpacked.{pairs_length, pair_at}
use Rattle.checker.proofs.desk.unpack.Goals as goal

pub loop-i-preserved : goal.loop-i-preserved
loop-i-preserved c =
    let turn = c.loop-i in
    let pairs = c.args.pairs.now in
    let i = turn.i in
    let room = c.requires in
    let size : (2 * i + 2) - 2 * i ≡ 2 = omega arith in
    let element : c.u16_of.result ≡ get_or (pairs_of pairs) i 0 =
    c.u16_of.ensures ∙ ap (λ (k : ℕ). number (take k (drop (2 * i) pairs))) size ∙ sym (pair_at i pairs (omega arith)) in
    ap (λ (w : ℕ). take (i + 1) (set turn.into i w)) element
    ∙ copied_more turn.into (pairs_of pairs) i turn.invariant (omega arith) (omega (arith, pairs_length pairs))
