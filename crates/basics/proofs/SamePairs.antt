-- Elimination looks at no pairs but those of the ones left: where two relations agree on these, it takes the same ones in the same order. Assumes nothing.
use Prim.Native.Nat.{ℕ, zero, suc, ◌<◌}
use mathlib.Core.Path.{◌≡◌, refl, ◌∙◌, ap, ap₂}
use mathlib.Core.Bool.{Bool, true, not, cond, ◌&&◌}
use mathlib.Core.List.{[], ◌∷◌}
use lib.Dec.{ltb, eqb}
use Rattle.basics.specs.Lists.{member}
use Rattle.basics.specs.Elimination.{clear, without, next, taken, eliminated, gives_all}
use Rattle.basics.proofs.Bools.{split, and_left}
use Rattle.basics.proofs.Below.{Agree, any_cong, all_cong}
use Rattle.basics.proofs.Search.{lowest_cong}

module _ (n : ℕ) (before before' : ℕ → ℕ → Bool) where
  -- the relations agree on those left
  abbrev pub SameLeft : (ℕ → Bool) → Type 0
  SameLeft left = (k m : ℕ) → k < n → m < n → left k ≡ true → left m ≡ true → before k m ≡ before' k m

  -- one who is left has the same ones left before him
  before_same : (left : ℕ → Bool) → SameLeft left → (m : ℕ) → m < n → left m ≡ true → Agree n (λ k. left k && before k m) (λ k. left k && before' k m)
  before_same left same m h l k j = split (left k) (λ e. rw e (same k m j h e l)) (λ e. rw e)

  pub clear_same : (left : ℕ → Bool) → SameLeft left → Agree n (clear n before left) (clear n before' left)
  unfolding clear
  clear_same left same m h =
      split (left m) (λ e. rw e (ap not (any_cong _ _ n (before_same left same m h e)))) (λ e. rw e)

  -- those left once one is taken were left before
  pub without_same : (left : ℕ → Bool) (m : ℕ) → SameLeft left → SameLeft (without n before left m)
  unfolding without
  without_same left m same k j hk hj ek ej = same k j hk hj (and_left (left k) (not (eqb k m)) ek) (and_left (left j) (not (eqb j m)) ej)

  module _ (key : ℕ → ℕ) where
    pub next_same : (left : ℕ → Bool) → SameLeft left → next n before key left ≡ next n before' key left
    unfolding next
    next_same left same = lowest_cong (clear n before left) (clear n before' left) key key n (clear_same left same) (λ k h. refl)

    pub taken_same : (rounds : ℕ) (left : ℕ → Bool) → SameLeft left → taken n before key rounds left ≡ taken n before' key rounds left
    unfolding taken without
    taken_same zero left same = refl
    taken_same (suc rounds) left same =
        let m = next n before key left in
        ap₂ (λ j xs. cond (ltb j n) (j ∷ xs) []) (next_same left same)
        (taken_same rounds (without n before left m) (without_same left m same)
        ∙ ap (λ j. taken n before' key rounds (without n before' left j)) (next_same left same))

    pub eliminated_same : (left : ℕ → Bool) → SameLeft left → eliminated n before key left ≡ eliminated n before' key left
    unfolding eliminated
    eliminated_same = taken_same n

    pub gives_all_same : (left : ℕ → Bool) → SameLeft left → gives_all n before key left ≡ gives_all n before' key left
    unfolding gives_all
    gives_all_same left same = all_cong _ _ n (λ k l. ap (λ xs. cond (left k) (member k xs) true) (eliminated_same left same))
