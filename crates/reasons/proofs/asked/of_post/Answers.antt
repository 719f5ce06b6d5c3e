-- `reasons::asked::of_post` asks for a free place and the log's room where lengths, books and cell do not refuse.
-- Rests on the contracts of `of_lengths`, `of_books`, `of_cell`, `live_count_of` and `of_free`.
use Rattle.std.proofs.Common.{refl, [], ◌∷◌}
use Rattle.basics.specs.Lists.{all_in}
use Rattle.rules.specs.Books.{live_count}
use Rattle.rules.specs.Steps.{soundness_reason, cell_reason, post_reasons}
use Rattle.reasons.proofs.Parts.{passed_over, three_lengths}
use Rattle.reasons.proofs.asked.of_post.Goals as goal

pub returns : goal.returns
unfolding all_in live_count soundness_reason cell_reason post_reasons
returns c =
    passed_over (_ ∷ []) _ refl (rw (three_lengths _ _ _ _ _ _, c.table_bytes.ensures) at c.in_ok-of_lengths.ensures)
    (passed_over (_ ∷ []) _ refl c.in_ok-of_books.ensures (passed_over (_ ∷ []) _ refl c.in_ok-of_cell.ensures (rw c.live_count_of.ensures at c.of_free.ensures)))
