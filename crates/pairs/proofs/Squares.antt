-- What the square of pairs says: who stands before m as a row marks it, and each mark of a row and of the whole square. Assumes nothing.
use mathlib.Core.Path.{◌≡◌, refl, ◌∙◌, ap}
use mathlib.Core.Bool.{Bool, true, false, not, cond, ◌&&◌}
use mathlib.Core.List.{List, []}
use Prim.Native.Nat.{ℕ, ◌<◌}
use native.Mathlib.Omega.{arith}
use lib.Dec.{eqb}
use lib.ListN.{get_or, replicate}
use Rattle.basics.specs.Below.{filled_below}
use Rattle.basics.proofs.Bools.{split, and_fails_left, and_second}
use Rattle.basics.proofs.Elements.{get_or_replicate_same}
use Rattle.basics.proofs.Filled.{filled_at}
use Rattle.rules.specs.declared.Size.{Size}
use Rattle.rules.specs.Sizes.{Within, width}
use Rattle.rules.specs.Books.{Books, place_at}
use Rattle.rules.specs.Judging.{precedes, stands_before}
use Rattle.pairs.specs.Square.{is_in, said_before, row_of, square_of}

module _ (z : Size) (b : Books) (k m : ℕ) where
  -- another than m stands before it if one of the four kinds holds
  pub stands_other : not (eqb k m) ≡ true → stands_before z b k m ≡ precedes z (place_at b k) (place_at b m)
  unfolding stands_before
  stands_other h = and_second h refl

  -- nobody stands before itself
  pub stands_itself : not (eqb k m) ≡ false → stands_before z b k m ≡ false
  unfolding stands_before
  stands_itself h = and_fails_left (not (eqb k m)) (precedes z (place_at b k) (place_at b m)) h

module _ (z : Size) (within : Within z) where
  -- an array filled in by a test says what the test says
  pub present_says : (present : List Bool) (f : ℕ → Bool) → present ≡ filled_below f false z.places width → (k : ℕ) → k < z.places → is_in present k ≡ f k
  present_says present f e k h =
      ap (λ (xs : List Bool). is_in xs k) e ∙ filled_at f false z.places width k false (omega (arith, within.places)) h

module _ (z : Size) (within : Within z) (b : Books) (present : List Bool) where
  -- k is marked in m's row if it is present and stands before m
  pub row_says : (k m : ℕ) → k < z.places → get_or (row_of z b present m) k false ≡ is_in present k && stands_before z b k m
  unfolding row_of
  row_says k m h = filled_at (λ i. is_in present i && stands_before z b i m) false z.places width k false (omega (arith, within.places)) h

  -- in the square, if m is present too
  pub square_says : (k m : ℕ) → k < z.places → m < z.places
      → said_before (square_of z b present) k m ≡ is_in present m && (is_in present k && stands_before z b k m)
  unfolding square_of
  square_says k m h g =
      ap (λ (row : List Bool). get_or row k false)
      (filled_at (λ i. cond (is_in present i) (row_of z b present i) (replicate width false)) (replicate width false) z.places width m [] (omega (arith, within.places)) g)
      ∙ split (is_in present m) (λ t. rw t (row_says k m h)) (λ t. rw t (get_or_replicate_same width k false))
