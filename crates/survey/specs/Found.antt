-- What a search below a limit says as an Option.
use Rattle.std.specs.Prelude.{ℕ, ◌<◌, ◌≡◌, Option, Some, None}

-- what `least_below` and `lowest_below` find below the limit: a number below it, or none where they answer the limit itself
abbrev pub FoundBelow : ℕ → ℕ → Option ℕ → Type 0
FoundBelow limit found (Some i) = (found ≡ i) × (i < limit)
FoundBelow limit found None = found ≡ limit
