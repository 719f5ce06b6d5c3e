-- `check_later::later::is_any_used_later` meets its contract. The loop's invariant: no cell below c was written and used later. Assumes nothing.
use mathlib.Core.Path.{sym, ◌∙◌, ap}
use Rattle.std.proofs.Common.{is_some}
use Rattle.basics.proofs.Bools.{and_both}
use Rattle.basics.proofs.Tested.{any_found}
use Rattle.check_later.specs.Later.{any_used_later}
use Rattle.check_later.proofs.later.is_any_used_later.Goals as goal

pub returns-then-is_used_later : goal.returns-then-is_used_later
unfolding any_used_later
returns-then-is_used_later c =
    any_found _ _ _ c.loop-c-test.true
    (and_both _ _ (sym (c.is_some-wrote.ensures ∙ ap is_some c.wrote_in.ensures) ∙ c.if-wrote.true) (sym c.is_used_later.ensures ∙ c.if-is_used_later.true))
