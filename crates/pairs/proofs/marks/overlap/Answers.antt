-- `pairs::marks::overlap` meets its contract: a number of the range is marked in both. Rests on `any_in_range`.
use mathlib.Core.Path.{refl, ◌∙◌}
use mathlib.Core.Bool.{false, ◌&&◌}
use Prim.Native.Nat.{ℕ}
use lib.ListN.{get_or}
use native.Mathlib.Omega.{arith}
use borrow.Author.Rules.{rules}
use borrow.Author.Tests.{tests}
use Rattle.std.proofs.lemmas.Iterator.{YieldsList-from_range}
use Rattle.std.proofs.lemmas.Iterator.Search.{any_from_yields_List}
use Rattle.pairs.proofs.Ranges.{any_in_range}
use Rattle.pairs.proofs.marks.overlap.Goals as goal

pub returns : goal.returns
returns c =
    let s = c.args in
    let both = λ (k : ℕ). get_or s.a k false && get_or s.b k false in
    any_from_yields_List both _ _ c.any.result c.any.ensures.ran (YieldsList-from_range 0 s.limit s.limit refl (omega arith)) (λ x b q k. search (rules, tests))
    ∙ any_in_range both s.limit
