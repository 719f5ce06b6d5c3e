-- `survey::search::live_count_of` meets its contract: the live ones of the slice are counted. Rests on `count_slice`.
use mathlib.Core.Path.{◌≡◌, ◌∙◌}
use native.Mathlib.Omega.{arith}
use borrow.Author.Rules.{rules}
use lib.ListN.{take, length}
use Rattle.std.specs.List.{count_by}
use Rattle.rules.specs.Sizes.{width}
use Rattle.rules.specs.Books.{live_count, is_live, no_place}
use Rattle.survey.proofs.Slices.{count_slice}
use Rattle.survey.proofs.search.live_count_of.Goals as goal

pub returns : goal.returns
unfolding live_count
returns c =
    let s = c.args in
    let wide : length s.places.now ≡ width = search rules in
    let counted : c.count.result ≡ count_by is_live (take s.z.size.places s.places.now) = search rules in
    counted ∙ count_slice is_live s.places.now no_place s.z.size.places (omega arith)
