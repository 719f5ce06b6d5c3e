-- `reasons::shared::of_access` asks for the log's room where books, handle and cell do not refuse. Rests on the contracts of `of_handle_and_cell`, `live_count_of` and `of_room`.
use Rattle.std.proofs.Common.{refl}
use Rattle.basics.specs.Lists.{all_in}
use Rattle.rules.specs.Books.{live_count}
use Rattle.rules.specs.Steps.{soundness_reason, handle_reasons, cell_reason, handle_cell_reasons}
use Rattle.reasons.proofs.Parts.{passed_over}
use Rattle.reasons.proofs.shared.of_access.Goals as goal

pub returns : goal.returns
unfolding all_in live_count soundness_reason handle_reasons cell_reason handle_cell_reasons
returns c = passed_over _ _ refl c.in_ok-of_handle_and_cell.ensures (rw c.live_count_of.ensures at c.of_room.ensures)
