-- `survey::columns::columns_of` fills in all columns, place by place. The loop's invariant: they are those of the places passed.
-- Rests on the contract of `is_held`.
use Rattle.rules.specs.Books.{of_places}
use Rattle.survey.specs.Columned.{Columned}
use Rattle.survey.proofs.columns.columns_of.Given as goal

abbrev pub invariant-loop-i : goal.invariant-loop-i
invariant-loop-i l = Columned (record { places = l.i; cells = l.fn.z.size.cells }) (of_places l.places) (record { live = l.live; held = l.held; committed = l.committed; begins = l.begins; commits = l.commits })
