-- `reasons::asked::of_order` asks for the buffer's length, for books and handle, and for a cycle. Rests on the contracts of `of_handle`, `place_of` and `is_conflict`.
use Rattle.std.proofs.Common.{arith}
use Rattle.std.proofs.lemmas.Grind.{common_steps}
use Rattle.rules.specs.declared.Caller.TheVariants.{Orders}
use Rattle.rules.specs.Books.{books_at}
use Rattle.rules.specs.Numbers.{first_reason}
use Rattle.rules.specs.Steps.{soundness_reason, handle_reasons, order_reasons}
use Rattle.rules.proofs.Judging.GivenOrders.{cycle_by_places}
use Rattle.reasons.proofs.Parts.{handle_named}
use Rattle.reasons.proofs.asked.of_order.Goals as goal

pub is_conflict-cycle-requires : goal.is_conflict-cycle-requires
is_conflict-cycle-requires c = let a = c.args in record { i_lt_places = handle_named a.at.limits.size (books_at a.at) a.handle Orders c.in_ok-of_handle.ensures c.place_of.ensures }

pub returns : goal.returns
unfolding first_reason soundness_reason handle_reasons order_reasons
returns c = let at = c.args.at in grind (arith, common_steps, cycle_by_places at.limits.size (books_at at) c.place_of.result)
