-- `judge::order::next_of` meets its contract: those that are clear are filtered from the places, and the lowest of them is found.
-- Rests on `picked` and `found_in_range`, and on the contract of `overlap`.
use Prim.Native.Nat.{ℕ}
use mathlib.Core.Path.{◌≡◌, refl}
use mathlib.Core.Bool.{Bool, not, ◌&&◌}
use Rattle.std.specs.List.{filter, range_with_len}
use Rattle.basics.specs.Below.{any_below}
use native.Mathlib.Omega.{arith}
use borrow.Author.Rules.{rules}
use borrow.Author.Tests.{tests}
use Rattle.std.proofs.lemmas.Grind.{common_steps}
use Rattle.std.proofs.lemmas.Iterator.{YieldsList-from_range}
use Rattle.std.proofs.lemmas.Iterator.Consumers.{YieldsList-at, YieldsList-from_filter}
use Rattle.basics.specs.Elimination.{next, clear}
use Rattle.pairs.specs.Square.{is_in, said_before}
use Rattle.judge.specs.Ordered.{begin_of}
use Rattle.judge.proofs.Lowest.{best_of, picked, found_in_range}
use Rattle.judge.proofs.order.next_of.Goals as goal

pub returns : goal.returns
unfolding next clear
returns c =
    let a = c.args in
    let free : ℕ → Bool = λ m. is_in a.left m && not (any_below (λ k. is_in a.left k && said_before a.rows k m) a.places) in
    let chain = YieldsList-from_filter _ free (YieldsList-at c.filter.ensures.source (YieldsList-from_range 0 a.places a.places refl (omega arith))) c.filter.ensures.closure (λ x b q k. let w = k.called.met in grind (arith, common_steps, w)) in
    let lowest : c.min_by_key.result ≡ best_of (begin_of a.begins) (filter free (range_with_len 0 a.places)) =
    picked (begin_of a.begins) _ _ c.min_by_key.result c.min_by_key.ensures.ran chain (λ x k q h. search (rules, tests)) in
    rw lowest (found_in_range (begin_of a.begins) free a.places)
