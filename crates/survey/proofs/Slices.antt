-- What a search by `find` over a range finds, and what `filter` and `count` over the first elements of a list count, as searches and counts below
-- a limit. Rests on the laws of those (`basics`).
use mathlib.Core.Path.{◌≡◌, sym, ◌∙◌, ap, subst}
use mathlib.Core.Bool.{Bool, true, false}
use mathlib.Core.List.{List}
use Prim.Native.Nat.{ℕ, zero, suc, ◌+◌, ◌<◌, ◌≤◌}
use native.Mathlib.Numerals.{add-one}
use native.Mathlib.Omega.{arith}
use lib.ListN.{length, get_or, take}
use Rattle.std.specs.Prelude.{Option, Some, None, MatchOption}
use Rattle.std.specs.List.{count_by}
use Rattle.std.proofs.lemmas.List.Sums.{count_by_more_yes, count_by_more_no}
use Rattle.basics.specs.Below.{least_below, count_below}
use Rattle.basics.proofs.Bools.{split}
use Rattle.basics.proofs.Below.{count_none, count_passes, count_skips}
use Rattle.basics.proofs.Search.{least_found, least_none}
use Rattle.survey.specs.Found.{FoundBelow}

-- the first number of the range that passes is the least below its end
pub first_found : (p : ℕ → Bool) (n : ℕ) (r : Option ℕ)
    → MatchOption r ((k : ℕ) → 0 ≤ k → k < n → p k ≡ false) (λ i. (0 ≤ i) × (i < n) × (p i ≡ true) × ((k : ℕ) → 0 ≤ k → k < i → p k ≡ false))
    → FoundBelow n (least_below p n) r
first_found p n None nobody = least_none p n (λ k h. nobody k (omega arith) h)
first_found p n (Some i) found = (least_found p n i found.1 found.2 (λ k h. found.3 k (omega arith) h), found.1)

-- as many of the first n elements pass as numbers below n whose elements do
module _ {A : Type 0} (p : A → Bool) (xs : List A) (d : A) where
  count_next : (n : ℕ) → n < length xs → count_by p (take n xs) ≡ count_below (λ i. p (get_or xs i d)) n
      → count_by p (take (n + 1) xs) ≡ count_below (λ i. p (get_or xs i d)) (n + 1)
  count_next n h rest =
      split (p (get_or xs n d))
      (λ t. count_by_more_yes p xs n d h t ∙ ap (λ (k : ℕ). k + 1) rest ∙ sym (count_passes (λ i. p (get_or xs i d)) n t))
      (λ f. count_by_more_no p xs n d h f ∙ rest ∙ sym (count_skips (λ i. p (get_or xs i d)) n f))

  pub count_slice : (n : ℕ) → n ≤ length xs → count_by p (take n xs) ≡ count_below (λ i. p (get_or xs i d)) n
  count_slice zero h = sym (count_none (λ i. p (get_or xs i d)))
  count_slice (suc n) h =
      subst (λ (k : ℕ). count_by p (take k xs) ≡ count_below (λ i. p (get_or xs i d)) k) (add-one n) (count_next n (omega arith) (count_slice n (omega arith)))
