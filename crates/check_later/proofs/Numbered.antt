-- A test of each of the first elements of a list, with its index, is one of each index. Assumes nothing.
use Prim.Native.Nat.{ℕ, zero, suc, ◌+◌, ◌≤◌}
use mathlib.Core.Path.{◌≡◌, refl, sym, ◌∙◌, ap}
use mathlib.Core.Bool.{Bool, ◌||◌}
use mathlib.Core.List.{List}
use native.Mathlib.Numerals.{add-one}
use native.Mathlib.Omega.{arith}
use lib.ListN.{length, get_or, take}
use lib.Seq.{take_all, length-take-le}
use Rattle.std.proofs.Common.{zero-add}
use Rattle.std.specs.List.{list_any, enumerate_from}
use Rattle.std.proofs.lemmas.List.{get_or-take}
use Rattle.std.proofs.lemmas.List.Folds.{list_any_more}
use Rattle.std.proofs.lemmas.List.FromFn.{length-enumerate_from, get_or-enumerate_from}
use Rattle.basics.specs.Below.{any_below}
use Rattle.basics.proofs.Below.{any_cong}

module _ {A : Type 0} (p : A → Bool) (d : A) (xs : List A) where
  -- a test of the first n
  first_passes : (n : ℕ) → n ≤ length xs → list_any p (take n xs) ≡ any_below (λ i. p (get_or xs i d)) n
  unfolding any_below
  first_passes zero h = refl
  first_passes (suc n) h = rw (← add-one n) (list_any_more p xs n d (omega arith)) ∙ ap (λ b. b || p (get_or xs n d)) (first_passes n (omega arith))

  passes : list_any p xs ≡ any_below (λ i. p (get_or xs i d)) (length xs)
  passes = sym (ap (list_any p) (take_all (length xs) xs (omega arith))) ∙ first_passes (length xs) (omega arith)

pub numbered_pass : {A : Type 0} (p : ℕ × A → Bool) (d : A) (xs : List A) (n : ℕ) → n ≤ length xs
    → list_any p (enumerate_from 0 (take n xs)) ≡ any_below (λ i. p (i, get_or xs i d)) n
numbered_pass p d xs n h =
    let front = take n xs in
    let size : length (enumerate_from 0 front) ≡ n = length-enumerate_from 0 front ∙ length-take-le n xs h in
    passes p (0, d) (enumerate_from 0 front)
    ∙ ap (any_below (λ i. p (get_or (enumerate_from 0 front) i (0, d)))) size
    ∙ any_cong _ (λ i. p (i, get_or xs i d)) n
    (λ i k. ap p (get_or-enumerate_from 0 front i (0, d) (omega (arith, length-take-le n xs h)) ∙ ap (λ x. (0 + i, x)) (get_or-take n xs i d k) ∙ ap (λ (j : ℕ). (j, get_or xs i d)) (zero-add i)))
