-- Two byte lists are the same as the comparison of slices says. Assumes nothing.
use Prim.Native.Nat.{ℕ}
use mathlib.Core.Path.{◌≡◌, refl, ap}
use mathlib.Core.Bool.{◌&&◌}
use mathlib.Core.List.{List, [], ◌∷◌}
use lib.Pointwise.{pointwise}
use lib.Dec.{eqb}
use Rattle.std.proofs.Common.{nat_eq}
use Rattle.basics.specs.Bytes.{same}

pub same_compared : (xs ys : List ℕ) → pointwise nat_eq xs ys ≡ same xs ys
unfolding same
same_compared [] [] = refl
same_compared [] (y ∷ ys) = refl
same_compared (x ∷ xs) [] = refl
same_compared (x ∷ xs) (y ∷ ys) = ap (λ b. eqb x y && b) (same_compared xs ys)
