-- `check_later::later::is_used_later` meets its contract: the one at each position is tested. Assumes nothing.
use mathlib.Core.Path.{◌∙◌}
use Rattle.std.proofs.Common.{ℕ, Bool, ◌&&◌, ltb, take, rules, tests}
use Rattle.std.proofs.lemmas.Iterator.{YieldsList-from_slice}
use Rattle.std.proofs.lemmas.Iterator.Consumers.{YieldsList-from_enumerate}
use Rattle.std.proofs.lemmas.Iterator.Search.{any_from_yields_List}
use Rattle.check_replay.specs.declared.state.Listed.{Listed}
use Rattle.check_replay.specs.Kept.{nobody}
use Rattle.check_later.specs.Later.{used_later, used}
use Rattle.check_later.proofs.Numbered.{numbered_pass}
use Rattle.check_later.proofs.later.is_used_later.Goals as goal

pub returns : goal.returns
unfolding used_later
returns c =
    let listed = c.args.listed.now in
    let count = c.args.count in
    let test : ℕ × Listed → Bool = λ p. ltb c.args.at p.0 && used c.args.uses c.args.cell p.1 in
    any_from_yields_List test c.any.new.self _ _ c.any.ensures.ran (YieldsList-from_enumerate (YieldsList-from_slice (take count listed) cc) cc)
    (λ x b q k. search (rules, tests))
    ∙ numbered_pass test nobody listed count (search rules)
