-- A list of begin records: where one stands in it, and who in it is in time.
use Rattle.std.specs.Prelude.{ℕ, Bool, false, ◌||◌, Option, Some, None, List, length, get_or, ltb, eqb}
use Rattle.std.specs.List.{position as first_index}
use Rattle.basics.specs.Below.{all_below, least_below}
use Rattle.check_replay.specs.declared.state.Listed.{Listed}
use Rattle.check_replay.specs.Kept.{nobody}

-- where a transaction first stands in a list; the list's length if it does not
unfoldable pub position : List ℕ → ℕ → ℕ
position list who = least_below (λ i. eqb (get_or list i 0) who) (length list)

-- where it first stands, if it does
abbrev pub found : List ℕ → ℕ → Option ℕ
found list who = first_index (λ listed. eqb listed who) list

-- one who committed, by the commit record that is kept, did so before a moment
abbrev pub before : ℕ → Option ℕ → Bool
before moment None = false
before moment (Some n) = ltb n moment

-- each listed transaction is t, or committed before a moment, by what is kept of the positions
unfoldable pub all_in_time : List Listed → ℕ → List ℕ → ℕ → Bool
all_in_time listed moment list t =
    all_below (λ i. eqb (get_or list i 0) t || before moment (get_or listed i nobody).commit) (length list)
