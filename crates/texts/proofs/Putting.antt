-- Laws of a part that goes up to the end. Assumes nothing.
use mathlib.Core.Path.{◌≡◌}
use mathlib.Core.List.{List}
use Prim.Native.Nat.{ℕ, ◌-◌}
use native.Mathlib.Omega.{arith}
use lib.ListN.{length, take, drop, length-drop}
use lib.Seq.{take_all}

-- all that is left of a list from a place on
pub tail_is : (xs : List ℕ) (from n : ℕ) → length xs ≡ n → take (n - from) (drop from xs) ≡ drop from xs
tail_is xs from n l = take_all (n - from) (drop from xs) (simp length-drop (omega arith))
