-- Lengths of what is lent, beside those that a call asks for.
use Rattle.std.specs.Prelude.{ℕ, Bool, not, List, eqb}
use lib.Pointwise.{pointwise}

-- one of them is not the one asked for
abbrev pub any_wrong : List ℕ → List ℕ → Bool
any_wrong lent_lengths wanted = not (pointwise eqb lent_lengths wanted)
