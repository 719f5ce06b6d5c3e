-- `script::words::first_of` meets its contract: the first of what is left from the place on. Assumes nothing.
use Rattle.std.proofs.Common.{◌∙◌, sym, refl}
use Rattle.script.proofs.Scanning.{first_found, first_missing, no_byte_found}
use Rattle.script.proofs.words.first_of.Goals as goal

pub returns-in_err-first-clause-found : goal.returns-in_err-first-clause-found
returns-in_err-first-clause-found c =
    c.from_residual.ensures ∙ sym (first_missing _ _ _ c.requires _ refl (sym c.first.ensures ∙ c.in_err-first.was))

pub returns-clause-found : goal.returns-clause-found
returns-clause-found c = first_found _ _ _ c.requires _ refl _ (sym c.first.ensures ∙ c.in_ok-first.was)

pub returns-clause-no_byte : goal.returns-clause-no_byte
returns-clause-no_byte c =
    λ e. first_found _ _ _ c.requires _ refl _ (sym c.first.ensures ∙ c.in_ok-first.was) ∙ no_byte_found c.args.line.now c.args.at c.args.class e
