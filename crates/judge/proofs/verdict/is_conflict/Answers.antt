-- `judge::verdict::is_conflict` meets its contract, by what company, square and the search for a cycle ensure. Assumes nothing.
use Rattle.rules.specs.Books.{of_places}
use Rattle.judge.proofs.Given.{verdict_right}
use Rattle.judge.proofs.verdict.is_conflict.Goals as goal

pub returns : goal.returns
returns c = verdict_right c.args.z.size c.args.z.within (of_places c.args.places.now) c.args.i c.company_of-present.result c.square-rows.result c.company_of-present.ensures c.square-rows.ensures c.contains_cycle.result c.contains_cycle.ensures
