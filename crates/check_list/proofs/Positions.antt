-- The position of a number in a list: who stands there, that he stands nowhere else, and what it means there to keep a relation. Assumes nothing.
use Prim.Native.Nat.{ℕ, ◌<◌}
use mathlib.Core.Path.{◌≡◌, sym, ◌∙◌, ap, subst}
use mathlib.Core.Bool.{Bool, true, not, cond, ◌&&◌}
use mathlib.Core.List.{List}
use native.Mathlib.Omega.{arith}
use lib.ListN.{length, get_or}
use lib.Dec.{ltb, eqb}
use borrow.Author.Tests.{eqb-true, eq-eqb, ltb-true, lt-ltb, not-true}
use Rattle.std.proofs.Common.{Option, Some, None}
use Rattle.std.proofs.lemmas.List.Sums.{position_or_len_is}
use Rattle.basics.specs.Below.{any_below}
use Rattle.basics.specs.Lists.{member, distinct, keeps}
use Rattle.basics.proofs.Bools.{split, clash, false_of_not, same_tests, and_left, and_right, and_both}
use Rattle.basics.proofs.Below.{any_fails, any_false}
use Rattle.basics.proofs.Search.{least_at_most, least_passes, least_fails, least_is_below}
use Rattle.basics.proofs.Indexed.{member_there, member_index, distinct_there, keeps_there, keeps_by}
use Rattle.check_list.specs.Listed.{position, found}

module _ (xs : List ℕ) (k : ℕ) where
  -- it is one of the list's exactly if the number is a member
  pub position_found : position xs k < length xs → get_or xs (position xs k) 0 ≡ k
  unfolding position
  position_found h = eqb-true (get_or xs (position xs k) 0) k (least_passes (λ i. eqb (get_or xs i 0) k) (length xs) h)

  pub position_below : member k xs ≡ true → position xs k < length xs
  unfolding position
  position_below m =
      let r = member_index xs k m in
      least_is_below (λ i. eqb (get_or xs i 0) k) (length xs) r.0 r.1 (eq-eqb (get_or xs r.0 0) k r.2)

  pub position_member : ltb (position xs k) (length xs) ≡ member k xs
  position_member =
      same_tests (ltb (position xs k) (length xs)) (member k xs)
      (λ t.
      let h = ltb-true (position xs k) (length xs) t in
      subst (λ (n : ℕ). member n xs ≡ true) (position_found h) (member_there xs (position xs k) h))
      (λ m. lt-ltb (position xs k) (length xs) (position_below m))

  -- the search that may find nothing finds the same
  pub found_told : found xs k ≡ cond (ltb (position xs k) (length xs)) (Some (position xs k)) None
  unfolding position
  found_told =
      let is_it : ℕ → Bool = λ i. eqb (get_or xs i 0) k in
      ap (λ i. cond (ltb i (length xs)) (Some i) None)
      (position_or_len_is (λ x. eqb x k) xs (position xs k) 0 (least_at_most is_it (length xs)) (least_fails is_it (length xs)) (least_passes is_it (length xs)))

  pub found_some : (i : ℕ) → found xs k ≡ Some i → (position xs k ≡ i) × (i < length xs)
  found_some i e =
      let at = position xs k in
      split (ltb at (length xs))
      (λ t.
      let h = ltb-true at (length xs) t in
      let q : at ≡ i = some_same at i (sym (found_told ∙ rw t) ∙ e) in
      (q, omega arith))
      (λ f. absurd (none_some i (sym (found_told ∙ rw f) ∙ e)))
    where
      some_same : (m i : ℕ) → Some m ≡ Some i → m ≡ i
      some_same m i e = cc

      none_some : (i : ℕ) → ◌≡◌ {A = Option ℕ} None (Some i) → ⊥
      none_some i e = cc

  -- in a list without repeats the number stands nowhere else
  pub position_only : (i : ℕ) → distinct xs ≡ true → i < length xs → eqb k (get_or xs i 0) ≡ eqb i (position xs k)
  position_only i d h =
      same_tests (eqb k (get_or xs i 0)) (eqb i (position xs k))
      (λ t.
      let q = eqb-true k (get_or xs i 0) t in
      let b = position_below (subst (λ (n : ℕ). member n xs ≡ true) (sym q) (member_there xs i h)) in
      eq-eqb i (position xs k) (distinct_there xs d i (position xs k) h b (sym q ∙ sym (position_found b))))
      (λ t.
      let q = eqb-true i (position xs k) t in
      eq-eqb k (get_or xs i 0) (sym (ap (λ j. get_or xs j 0) q ∙ position_found (subst (λ (j : ℕ). j < length xs) q h))))

-- where all that stand before somebody stand before k, nobody behind k's position does
pub keeps_position : (k : ℕ) (stands : ℕ → Bool) (xs : List ℕ) → distinct xs ≡ true
    → keeps (λ j m. eqb k m && stands j) xs ≡ not (any_below (λ i. ltb (position xs k) i && stands (get_or xs i 0)) (length xs))
keeps_position k stands xs d = same_tests (keeps before xs) (not (any_below behind (length xs))) none_behind kept
  where
    before : ℕ → ℕ → Bool
    before j m = eqb k m && stands j

    behind : ℕ → Bool
    behind i = ltb (position xs k) i && stands (get_or xs i 0)

    none_behind : keeps before xs ≡ true → not (any_below behind (length xs)) ≡ true
    none_behind e =
        ap not
        (any_fails behind (length xs) (λ i h. false_of_not (behind i) (λ t.
        let at = position xs k in
        let later = ltb-true at i (and_left (ltb at i) (stands (get_or xs i 0)) t) in
        let here = position_found xs k (omega arith) in
        clash (and_both (eqb k (get_or xs at 0)) (stands (get_or xs i 0)) (eq-eqb k (get_or xs at 0) (sym here)) (and_right (ltb at i) (stands (get_or xs i 0)) t))
        (keeps_there before xs e at i later h))))

    kept : not (any_below behind (length xs)) ≡ true → keeps before xs ≡ true
    kept e =
        let at = position xs k in
        keeps_by before xs (λ i j a b. false_of_not (before (get_or xs j 0) (get_or xs i 0)) (λ t.
        let here = eqb-true i at (sym (position_only xs k i d (omega arith)) ∙ and_left (eqb k (get_or xs i 0)) (stands (get_or xs j 0)) t) in
        clash (and_both (ltb at j) (stands (get_or xs j 0)) (lt-ltb at j (omega arith)) (and_right (eqb k (get_or xs i 0)) (stands (get_or xs j 0)) t))
        (any_false behind (length xs) (not-true (any_below behind (length xs)) e) j b)))
