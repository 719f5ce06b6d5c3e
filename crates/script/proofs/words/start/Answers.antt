-- `script::words::start` meets its contract. The loop's invariant: the word of number i starts at the place. Assumes nothing.
use Rattle.std.proofs.Common.{◌∙◌, sym, ap, ◌+◌, arith}
use Rattle.script.specs.Blanks.{next_start}
use Rattle.script.proofs.Scanning.{place_none, first_most, next_within, start_first, start_next, start_missing}
use Rattle.script.proofs.words.start.Goals as goal

pub returns-in_err-at-clause-found : goal.returns-in_err-at-clause-found
returns-in_err-at-clause-found c =
    let first = c.first_of.ensures in
    c.from_residual.ensures
    ∙ sym (start_missing _ 0 _ (omega arith) (start_first _ ∙ place_none _ _ (first_most _ 0 _) (sym first.found ∙ c.in_err-at.was)))

pub returns-in_err-at-2-clause-found : goal.returns-in_err-at-2-clause-found
returns-in_err-at-2-clause-found c =
    let next = c.next.ensures in
    let here = ap (next_start c.args.line.now) (sym c.loop.invariant.0) in
    c.from_residual-in_err-at-2.ensures
    ∙ sym (start_missing _ (c.loop.counter + 1) _ (omega arith) (start_next _ _ ∙ here ∙ place_none _ _ (next_within _ _) (sym next.found ∙ c.in_err-at-2.was)))
