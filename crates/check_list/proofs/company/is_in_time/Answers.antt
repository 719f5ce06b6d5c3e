-- `check_list::company::is_in_time` meets its contract: each pair of a listed transaction and what is kept of it passes. Assumes nothing.
use mathlib.Core.Path.{◌∙◌}
use Rattle.std.proofs.Common.{ℕ, Bool, ◌||◌, rules, tests, eqb}
use Rattle.std.proofs.lemmas.Iterator.{YieldsList-from_slice, YieldsList-from_zip}
use Rattle.std.proofs.lemmas.Iterator.Search.{all_from_yields_List}
use Rattle.check_replay.specs.declared.state.Listed.{Listed}
use Rattle.check_replay.specs.Kept.{nobody}
use Rattle.check_list.specs.Listed.{before, all_in_time}
use Rattle.check_list.proofs.Zipped.{zip_pass}
use Rattle.check_list.proofs.company.is_in_time.Goals as goal

pub returns : goal.returns
unfolding all_in_time
returns c =
    let list = c.args.list.now in
    let listed = c.args.from.now.listed in
    let test : ℕ × Listed → Bool = λ p. eqb p.0 c.args.t || before c.args.from.now.moment p.1.commit in
    all_from_yields_List test c.all.new.self _ _ c.all.ensures.ran (YieldsList-from_zip (YieldsList-from_slice list cc) (YieldsList-from_slice listed cc))
    (λ x b q k. search (rules, tests))
    ∙ zip_pass test 0 nobody list listed (search rules)
