-- Laws of the lines that answers are printed as: a piece more, and the pieces of one list behind those of another. Assumes nothing.
use mathlib.Core.Path.{◌≡◌, refl}
use mathlib.Core.List.{List, [], ◌∷◌, ◌++◌}
use Prim.Native.Nat.{ℕ, ◌+◌, ◌*◌}
use native.Mathlib.Numerals.{add-one}
use lib.ListN.{length, get_or}
use Rattle.basics.specs.Bytes.{part}
use Rattle.texts.specs.Placed.{with_text, after_text}
use Rattle.texts.specs.Said.{placed, then_number, then_value, listed, celled}

-- what follows a list of pieces
pub placed_append : (out : List ℕ) (at : ℕ) (first rest : List (List ℕ)) → placed out at (first ++ rest) ≡ placed (placed out at first).0 (placed out at first).1 rest
unfolding placed
placed_append out at [] rest = refl
placed_append out at (piece ∷ first) rest = placed_append (with_text out at piece) (after_text (length out) at (length piece)) first rest

-- a number more, and a cell more
module _ (xs : List ℕ) where
  pub listed_none : listed xs 0 ≡ []
  unfolding listed
  listed_none = refl

  pub listed_more : (i : ℕ) → listed xs (i + 1) ≡ listed xs i ++ then_number (get_or xs i 0)
  unfolding listed
  listed_more i = rw add-one refl

  pub celled_none : celled xs 0 ≡ []
  unfolding celled
  celled_none = refl

  pub celled_more : (i : ℕ) → celled xs (i + 1) ≡ celled xs i ++ then_value (part (8 * i) 8 xs)
  unfolding celled
  celled_more i = rw add-one refl
