-- Laws of an array that is filled from the front: its length, its elements, and one more number below the limit. Assumes nothing.
use Prim.Native.Nat.{ℕ, zero, suc, ◌+◌, ◌<◌, ◌≤◌}
use mathlib.Core.Path.{◌≡◌, refl, ◌∙◌, ap, sym, subst}
use mathlib.Core.Logic.{◌≢◌}
use mathlib.Core.Bool.{cond}
use mathlib.Core.List.{List, [], map}
use native.Mathlib.Nat.{not-suc-le-zero, le_antisymm}
use native.Mathlib.Omega.{arith}
use lib.Dec.{ltb}
use lib.ListN.{length, get_or, set, replicate, length-append, length-map, length-set, length-replicate, get_or-replicate, get_or-append}
use lib.Seq.{get_or_at, ext_get_or, get_or-set_same, get_or-set_other}
use borrow.Author.Tests.{lt-ltb, le-ltb, ltb-true, ltb-false}
use Rattle.basics.specs.Below.{filled_below}
use Rattle.basics.proofs.Elements.{get_or_map_within}
use Rattle.basics.proofs.Bools.{split, below_more, equal_or_not}

-- the test "below n + 1" away from n
ltb_more : (i n : ℕ) → i ≢ n → ltb i (n + 1) ≡ ltb i n
ltb_more i n other = elim_lt (λ h. lt-ltb i (n + 1) (omega arith) ∙ sym (lt-ltb i n h)) (λ h. le-ltb i (n + 1) (apart h) ∙ sym (le-ltb i n h))
  where
    apart : n ≤ i → n + 1 ≤ i
    apart h = lt_of (λ e. other (sym e)) h
      where
        lt_of : (n ≡ i → ⊥) → n ≤ i → n + 1 ≤ i
        lt_of k h = omega arith

    elim_lt : (i < n → ltb i (n + 1) ≡ ltb i n) → (n ≤ i → ltb i (n + 1) ≡ ltb i n) → ltb i (n + 1) ≡ ltb i n
    elim_lt a b = split (ltb i n) (λ e. a (ltb-true i n e)) (λ e. b (ltb-false i n e))

module _ {ℓ} {A : Type ℓ} (f : ℕ → A) (d : A) where
  pub filled_length : (n w : ℕ) → length (filled_below f d n w) ≡ w
  unfolding filled_below
  filled_length n zero = refl
  filled_length n (suc w) = length-append (filled_below f d n w) _ ∙ ap (λ (k : ℕ). k + 1) (filled_length n w) ∙ omega arith

  -- what stands at each number
  pub filled_get : (n w i : ℕ) (e : A) → i < w → get_or (filled_below f d n w) i e ≡ cond (ltb i n) (f i) d
  unfolding filled_below
  filled_get n zero i e h = absurd (not-suc-le-zero h)
  filled_get n (suc w) i e h =
      below_more h
      (λ k. get_or-append (filled_below f d n w) _ e i (subst (λ (m : ℕ). i < m) (sym (filled_length n w)) k) ∙ filled_get n w i e k)
      (λ q.
      subst (λ (j : ℕ). get_or (filled_below f d n (suc w)) j e ≡ cond (ltb j n) (f j) d) (sym q)
      (get_or_at (filled_below f d n w) _ [] e w (filled_length n w)))

  pub filled_at : (n w i : ℕ) (e : A) → i < w → i < n → get_or (filled_below f d n w) i e ≡ f i
  filled_at n w i e h k = filled_get n w i e h ∙ rw (lt-ltb i n k)

  pub filled_past : (n w i : ℕ) (e : A) → i < w → n ≤ i → get_or (filled_below f d n w) i e ≡ d
  filled_past n w i e h k = filled_get n w i e h ∙ rw (le-ltb i n k)

  -- an array with those elements is that array
  pub filled_is : (n w : ℕ) (xs : List A) → length xs ≡ w → ((i : ℕ) → i < w → get_or xs i d ≡ cond (ltb i n) (f i) d) → xs ≡ filled_below f d n w
  filled_is n w xs e h =
      ext_get_or d xs (filled_below f d n w) (e ∙ sym (filled_length n w))
      (λ i k. let b : i < w = subst (λ (m : ℕ). i < m) e k in h i b ∙ sym (filled_get n w i d b))

  -- nothing filled in
  pub filled_none : (w : ℕ) → replicate w d ≡ filled_below f d 0 w
  filled_none w =
      filled_is 0 w (replicate w d) (length-replicate w d) (λ i h. get_or-replicate w i d d h ∙ rw (le-ltb i 0 (omega arith)))

  -- the next one filled in
  pub filled_more : (n w : ℕ) → n < w → set (filled_below f d n w) n (f n) ≡ filled_below f d (n + 1) w
  filled_more n w h =
      filled_is (n + 1) w (set (filled_below f d n w) n (f n)) (length-set (filled_below f d n w) n (f n) ∙ filled_length n w)
      (λ i k.
      equal_or_not i n
      (λ q.
      subst (λ (j : ℕ). get_or (set (filled_below f d n w) n (f n)) j d ≡ cond (ltb j (n + 1)) (f j) d) (sym q)
      (get_or-set_same (filled_below f d n w) n (f n) d (subst (λ (m : ℕ). n < m) (sym (filled_length n w)) h) ∙ rw (lt-ltb n (n + 1) (omega arith))))
      (λ other. get_or-set_other (filled_below f d n w) n i (f n) d other ∙ filled_get n w i d k ∙ rw (ltb_more i n other)))

  -- the next one passed over
  pub filled_skips : (n w : ℕ) → f n ≡ d → filled_below f d n w ≡ filled_below f d (n + 1) w
  filled_skips n w e =
      filled_is (n + 1) w (filled_below f d n w) (filled_length n w)
      (λ i k.
      filled_get n w i d k
      ∙ equal_or_not i n
      (λ q. subst (λ (j : ℕ). cond (ltb j n) (f j) d ≡ cond (ltb j (n + 1)) (f j) d) (sym q) (rw (le-ltb n n (omega arith), lt-ltb n (n + 1) (omega arith), e)))
      (λ other. rw (ltb_more i n other)))

-- a loop that fills an array from the front, one element a turn
module _ {ℓ} {A : Type ℓ} (f : ℕ → A) (d : A) (n w : ℕ) {xs : List A} (so_far : xs ≡ filled_below f d n w) where
  -- the next one is set
  pub filled_set : {ys : List A} {a : A} → n < w → a ≡ f n → ys ≡ set xs n a → ys ≡ filled_below f d (n + 1) w
  filled_set h e q = q ∙ rw (so_far, e) (filled_more f d n w h)

  -- the next one is passed over
  pub filled_passed : {ys : List A} → f n ≡ d → ys ≡ xs → ys ≡ filled_below f d (n + 1) w
  filled_passed e q = q ∙ so_far ∙ filled_skips f d n w e

  -- the limit is reached
  pub filled_whole : (limit : ℕ) → n ≤ limit → limit ≤ n → xs ≡ filled_below f d limit w
  filled_whole limit h k = subst (λ (m : ℕ). xs ≡ filled_below f d m w) (le_antisymm h k) so_far

-- an array filled from another one, element by element, is its image
pub filled_map {ℓ κ} : {A : Type ℓ} {B : Type κ} (f : A → B) (xs : List A) (a : A) (d : B) (w : ℕ) → length xs ≡ w → filled_below (λ i. f (get_or xs i a)) d w w ≡ map f xs
filled_map f xs a d w e =
    sym (filled_is (λ i. f (get_or xs i a)) d w w (map f xs) (length-map xs f ∙ e) λ i h.
    get_or_map_within f xs i a d (subst (λ (k : ℕ). i < k) (sym e) h) ∙ rw (lt-ltb i w h))
