-- Laws of the two searches below a limit: what each finds is settled by a record, and that record fits one number only.
-- Assumes nothing.
use mathlib.Core.Path.{◌≡◌, sym, ◌∙◌, subst}
use mathlib.Core.Logic.{◌⊎◌, inl, inr}
use mathlib.Core.Bool.{Bool, true, false, ◌&&◌}
use Prim.Native.Nat.{ℕ, zero, suc, ◌+◌, ◌<◌, ◌≤◌}
use native.Mathlib.Nat.{not-suc-le-zero, le_refl}
use native.Mathlib.Decide.{dec_lt}
use native.Mathlib.Numerals.{add-one}
use native.Mathlib.Omega.{arith}
use lib.Dec.{ltb}
use borrow.Author.Tests.{ltb-true, ltb-false, lt-ltb, le-ltb}
use Rattle.basics.specs.Below.{least_below, lowest_below}
use Rattle.basics.proofs.Below.{Agree}
use Rattle.basics.proofs.Bools.{split, clash, and_left, and_right, and_false, below_more}

-- i is the least number below n that passes, or n where nobody does
pub record IsLeast (p : ℕ → Bool) (n i : ℕ) : Type 0 where
  pub most : i ≤ n
  pub passes : i < n → p i ≡ true
  pub fails : (j : ℕ) → j < i → p j ≡ false

-- i is the number below n that passes and has the lowest key, the least of equal ones, or n where nobody passes
pub record IsLowest (p : ℕ → Bool) (key : ℕ → ℕ) (n i : ℕ) : Type 0 where
  pub most : i ≤ n
  pub passes : i < n → p i ≡ true
  pub lowest : i < n → (j : ℕ) → j < n → p j ≡ true → key i ≤ key j
  pub first : i < n → (j : ℕ) → j < i → p j ≡ true → key i < key j
  pub fails : i ≡ n → (j : ℕ) → j < n → p j ≡ false

-- neither number is less than the other
one_number : {i j : ℕ} → (i < j → ⊥) → (j < i → ⊥) → i ≡ j
one_number a b = omega arith

module _ (p : ℕ → Bool) where
  -- what the search finds is the least, and there is one least
  not_less : {n i j : ℕ} → IsLeast p n i → IsLeast p n j → i < j → ⊥
  not_less {n} {i} {j} a b h = let k = b.most in clash (a.passes (omega arith)) (b.fails i h)

  pub least_unique : {n i j : ℕ} → IsLeast p n i → IsLeast p n j → i ≡ j
  least_unique a b = one_number (not_less a b) (not_less b a)

  pub least_is : (n : ℕ) → IsLeast p n (least_below p n)
  unfolding least_below
  least_is zero = record { most = le_refl 0; passes = λ h. absurd (not-suc-le-zero h); fails = λ j h. absurd (not-suc-le-zero h) }
  least_is (suc n) =
      let r = least_is n in
      let i = least_below p n in
      split (ltb i n) (λ e. rw e (found r (ltb-true i n e)))
      (λ e. rw e (split (p n) (λ t. rw t (last r (ltb-false i n e) t)) (λ f. rw f (nobody r (ltb-false i n e) f))))
    where
      found : {i : ℕ} → IsLeast p n i → i < n → IsLeast p (suc n) i
      found r h = record { most = omega arith; passes = λ k. r.passes h; fails = r.fails }

      last : {i : ℕ} → IsLeast p n i → n ≤ i → p n ≡ true → IsLeast p (suc n) n
      last r h t = record { most = omega arith; passes = λ k. t; fails = λ j k. r.fails j (omega arith) }

      nobody : {i : ℕ} → IsLeast p n i → n ≤ i → p n ≡ false → IsLeast p (suc n) (suc n)
      nobody r h f =
          record {
            most = omega arith;
            passes = λ k. absurd (omega arith);
            fails = λ j k. below_more k (λ m. r.fails j (omega arith)) (λ e. subst (λ (m : ℕ). p m ≡ false) (sym e) f);
          }

  -- the least that passes is found; where nobody passes, the limit
  pub least_found : (n i : ℕ) → i < n → p i ≡ true → ((j : ℕ) → j < i → p j ≡ false) → least_below p n ≡ i
  least_found n i h t f = least_unique (least_is n) (record { most = omega arith; passes = λ k. t; fails = f })

  pub least_none : (n : ℕ) → ((j : ℕ) → j < n → p j ≡ false) → least_below p n ≡ n
  least_none n f = least_unique (least_is n) (record { most = le_refl n; passes = λ k. absurd (omega arith); fails = f })

  -- the fields of the least, one by one
  pub least_at_most : (n : ℕ) → least_below p n ≤ n
  least_at_most n = (least_is n).most

  pub least_passes : (n : ℕ) → least_below p n < n → p (least_below p n) ≡ true
  least_passes n h = (least_is n).passes h

  pub least_fails : (n j : ℕ) → j < least_below p n → p j ≡ false
  least_fails n j h = (least_is n).fails j h

  -- one that passes bounds what is found
  pub least_le : (n i : ℕ) → p i ≡ true → least_below p n ≤ i
  least_le n i t = le_of (λ h. clash t (least_fails n i h))
    where
      le_of : (i < least_below p n → ⊥) → least_below p n ≤ i
      le_of h = omega arith

  pub least_is_below : (n i : ℕ) → i < n → p i ≡ true → least_below p n < n
  least_is_below n i h t = let k = least_le n i t in omega arith

  module _ (key : ℕ → ℕ) where
    -- what the search finds is the lowest, and there is one lowest
    not_lower : {n i j : ℕ} → IsLowest p key n i → IsLowest p key n j → i < j → ⊥
    not_lower {n} {i} {j} a b h =
        let k = b.most in
        let t = a.passes (omega arith) in
        elim (dec_lt j n) [
          | yes m ↦ (let x = b.first m i h t in let y = a.lowest (omega arith) j m (b.passes m) in omega arith)
          | no m ↦ clash t (b.fails (omega arith) i (omega arith))
        ]

    pub lowest_unique : {n i j : ℕ} → IsLowest p key n i → IsLowest p key n j → i ≡ j
    lowest_unique a b = one_number (not_lower a b) (not_lower b a)

    pub lowest_is : (n : ℕ) → IsLowest p key n (lowest_below p key n)
    unfolding lowest_below
    lowest_is zero =
        record {
          most = le_refl 0;
          passes = λ h. absurd (not-suc-le-zero h);
          lowest = λ h. absurd (not-suc-le-zero h);
          first = λ h. absurd (not-suc-le-zero h);
          fails = λ e j h. absurd (not-suc-le-zero h);
        }
    lowest_is (suc n) =
        let r = lowest_is n in
        let i = lowest_below p key n in
        split (ltb i n)
        (λ e. rw e (split (p n && ltb (key n) (key i)) (λ t. rw t (lower r (ltb-true i n e) (and_left (p n) _ t) (ltb-true (key n) (key i) (and_right (p n) _ t)))) (λ t. rw t (kept r (ltb-true i n e) (not_both i (and_false (p n) _ t))))))
        (λ e. rw e (split (p n) (λ t. rw t (last r (ltb-false i n e) t)) (λ f. rw f (nobody r (ltb-false i n e) f))))
      where
        not_both : (i : ℕ) → (p n ≡ false) ⊎ (ltb (key n) (key i) ≡ false) → p n ≡ true → key i ≤ key n
        not_both i (inl f) t = absurd (clash t f)
        not_both i (inr f) t = ltb-false (key n) (key i) f

        -- where the search found nobody
        empty : {i : ℕ} → IsLowest p key n i → n ≤ i → (j : ℕ) → j < n → p j ≡ false
        empty r h = let m = r.most in r.fails (omega arith)

        lower : {i : ℕ} → IsLowest p key n i → i < n → p n ≡ true → key n < key i → IsLowest p key (suc n) n
        lower r h t k =
            record {
              most = omega arith;
              passes = λ _. t;
              lowest = λ _ j hj tj. below_more hj (λ m. let x = r.lowest h j m tj in omega arith) (λ e. rw e (le_refl (key n)));
              first = λ _ j hj tj. let x = r.lowest h j hj tj in omega arith;
              fails = λ e. absurd (omega arith);
            }

        kept : {i : ℕ} → IsLowest p key n i → i < n → (p n ≡ true → key i ≤ key n) → IsLowest p key (suc n) i
        kept r h k =
            record {
              most = omega arith;
              passes = λ _. r.passes h;
              lowest = λ _ j hj tj. below_more hj (λ m. r.lowest h j m tj) (λ e. rw e (k (subst (λ (m : ℕ). p m ≡ true) e tj)));
              first = λ _. r.first h;
              fails = λ e. absurd (omega arith);
            }

        last : {i : ℕ} → IsLowest p key n i → n ≤ i → p n ≡ true → IsLowest p key (suc n) n
        last r h t =
            record {
              most = omega arith;
              passes = λ _. t;
              lowest = λ _ j hj tj. below_more hj (λ m. absurd (clash tj (empty r h j m))) (λ e. rw e (le_refl (key n)));
              first = λ _ j hj tj. absurd (clash tj (empty r h j hj));
              fails = λ e. absurd (omega arith);
            }

        nobody : {i : ℕ} → IsLowest p key n i → n ≤ i → p n ≡ false → IsLowest p key (suc n) (suc n)
        nobody r h f =
            record {
              most = le_refl (suc n);
              passes = λ k. absurd (omega arith);
              lowest = λ k. absurd (omega arith);
              first = λ k. absurd (omega arith);
              fails = λ _ j hj. below_more hj (empty r h j) (λ e. subst (λ (m : ℕ). p m ≡ false) (sym e) f);
            }

    -- one more: with nobody found before, and with somebody
    pub lowest_skips : (n : ℕ) → lowest_below p key n ≡ n → p n ≡ false → lowest_below p key (n + 1) ≡ n + 1
    unfolding lowest_below
    lowest_skips n e f = rw (add-one, le-ltb (lowest_below p key n) n (omega arith), f)

    pub lowest_starts : (n : ℕ) → lowest_below p key n ≡ n → p n ≡ true → lowest_below p key (n + 1) ≡ n
    unfolding lowest_below
    lowest_starts n e t = rw (add-one, le-ltb (lowest_below p key n) n (omega arith), t)

    pub lowest_lower : (n : ℕ) → lowest_below p key n < n → p n ≡ true → key n < key (lowest_below p key n) → lowest_below p key (n + 1) ≡ n
    unfolding lowest_below
    lowest_lower n h t k = rw (add-one, lt-ltb (lowest_below p key n) n h, t, lt-ltb (key n) (key (lowest_below p key n)) k)

    pub lowest_kept : (n : ℕ) → lowest_below p key n < n → (p n ≡ true → key (lowest_below p key n) ≤ key n)
        → lowest_below p key (n + 1) ≡ lowest_below p key n
    unfolding lowest_below
    lowest_kept n h k =
        rw (add-one, lt-ltb (lowest_below p key n) n h)
        (split (p n) (λ t. rw (t, le-ltb (key n) (key (lowest_below p key n)) (k t))) (λ f. rw f))

    -- the fields of the lowest, one by one
    pub lowest_at_most : (n : ℕ) → lowest_below p key n ≤ n
    lowest_at_most n = (lowest_is n).most

    pub lowest_passes : (n : ℕ) → lowest_below p key n < n → p (lowest_below p key n) ≡ true
    lowest_passes n h = (lowest_is n).passes h

    pub lowest_key : (n : ℕ) → lowest_below p key n < n → (j : ℕ) → j < n → p j ≡ true → key (lowest_below p key n) ≤ key j
    lowest_key n h = (lowest_is n).lowest h

    -- the limit is answered exactly where nobody passes
    pub lowest_none : (n : ℕ) → lowest_below p key n ≡ n → (j : ℕ) → j < n → p j ≡ false
    lowest_none n e = (lowest_is n).fails e

    pub lowest_nobody : (n : ℕ) → ((j : ℕ) → j < n → p j ≡ false) → lowest_below p key n ≡ n
    lowest_nobody n f = equal (λ h. clash (lowest_passes n h) (f (lowest_below p key n) h)) (lowest_at_most n)
      where
        equal : (lowest_below p key n < n → ⊥) → lowest_below p key n ≤ n → lowest_below p key n ≡ n
        equal h k = omega arith

module _ (p q : ℕ → Bool) (key other : ℕ → ℕ) where
  -- tests and keys that agree give one answer
  pub lowest_cong : (n : ℕ) → Agree n p q → Agree n key other → lowest_below p key n ≡ lowest_below q other n
  lowest_cong n h k = lowest_unique q other (moved (lowest_is p key n)) (lowest_is q other n)
    where
      passing : {j : ℕ} → j < n → q j ≡ true → p j ≡ true
      passing {j} m t = h j m ∙ t

      moved : {i : ℕ} → IsLowest p key n i → IsLowest q other n i
      moved {i} r =
          record {
            most = r.most;
            passes = λ m. sym (h i m) ∙ r.passes m;
            lowest = λ m j l t. let x = r.lowest m j l (passing l t) in omega (arith, k i m, k j l);
            first = λ m j l t. let x = r.first m j l (passing (omega arith) t) in omega (arith, k i m, k j (omega arith));
            fails = λ e j m. sym (h j m) ∙ r.fails e j m;
          }
