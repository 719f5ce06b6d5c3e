-- Keys that differ among those that pass, both in arrays that reach further than the places.
use Rattle.std.specs.Prelude.{ℕ, ◌+◌, Bool, false, not, ◌&&◌, List, get_or, eqb}
use Rattle.basics.specs.Below.{all_below}
use Rattle.rules.specs.Sizes.{width}

-- of the 32 behind i, none that passes has the key of i, if that passes
unfoldable pub apart : List Bool → List ℕ → ℕ → Bool
apart passes keys i = all_below (λ k. not (get_or passes i false && (get_or passes (i + 1 + k) false && eqb (get_or keys i 0) (get_or keys (i + 1 + k) 0)))) width
