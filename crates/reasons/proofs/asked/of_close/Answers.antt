-- `reasons::asked::of_close` asks for the log's length, the books and live transactions. Rests on the contracts of `are_sound` and `live_count_of`.
use Rattle.std.proofs.Common.{arith}
use Rattle.std.proofs.lemmas.Grind.{common_steps}
use Rattle.rules.specs.Numbers.{first_reason}
use Rattle.rules.specs.Steps.{soundness_reason, close_reasons}
use Rattle.reasons.proofs.Parts.{some_live}
use Rattle.reasons.proofs.asked.of_close.Goals as goal

pub returns : goal.returns
unfolding first_reason soundness_reason close_reasons
returns c = let at = c.args.at in grind (arith, common_steps, some_live at.limits.size at.records at.places.now)
