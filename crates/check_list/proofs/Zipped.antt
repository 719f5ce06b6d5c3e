-- A test of each pair of two lists is one of each index of the shorter. Assumes nothing.
use Prim.Native.Nat.{ℕ, zero, suc, ◌≤◌}
use mathlib.Core.Path.{◌≡◌, refl, sym, ◌∙◌, ap}
use mathlib.Core.Bool.{Bool, ◌&&◌}
use mathlib.Core.List.{List}
use native.Mathlib.Numerals.{add-one}
use native.Mathlib.Omega.{arith}
use lib.ListN.{length, get_or, take}
use lib.Seq.{take_all}
use Rattle.std.specs.List.{list_all, zip}
use Rattle.std.proofs.lemmas.List.Folds.{list_all_more}
use Rattle.std.proofs.lemmas.Slice.Zip.{length-zip, get_or-zip}
use Rattle.basics.specs.Below.{all_below}
use Rattle.basics.proofs.Below.{all_cong}

module _ {A : Type 0} (p : A → Bool) (d : A) (xs : List A) where
  -- a test of the first n
  first_pass : (n : ℕ) → n ≤ length xs → list_all p (take n xs) ≡ all_below (λ i. p (get_or xs i d)) n
  unfolding all_below
  first_pass zero h = refl
  first_pass (suc n) h = rw (← add-one n) (list_all_more p xs n d (omega arith)) ∙ ap (λ b. b && p (get_or xs n d)) (first_pass n (omega arith))

  all_pass : list_all p xs ≡ all_below (λ i. p (get_or xs i d)) (length xs)
  all_pass = sym (ap (list_all p) (take_all (length xs) xs (omega arith))) ∙ first_pass (length xs) (omega arith)

pub zip_pass : {A B : Type 0} (p : A × B → Bool) (d : A) (e : B) (xs : List A) (ys : List B) → length xs ≤ length ys
    → list_all p (zip xs ys) ≡ all_below (λ i. p (get_or xs i d, get_or ys i e)) (length xs)
zip_pass p d e xs ys h =
    let size : length (zip xs ys) ≡ length xs = omega (arith, length-zip xs ys) in
    all_pass p (d, e) (zip xs ys)
    ∙ ap (all_below (λ i. p (get_or (zip xs ys) i (d, e)))) size
    ∙ all_cong _ (λ i. p (get_or xs i d, get_or ys i e)) (length xs) (λ i k. ap p (get_or-zip xs ys i (d, e) k (omega arith)))
