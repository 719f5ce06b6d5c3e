-- Laws of the tests, counts and runs over the numbers below a limit. Assumes nothing.
use mathlib.Core.Path.{◌≡◌, refl, sym, ◌∙◌, ap, ap₂, subst}
use mathlib.Core.Logic.{⊎_elim}
use mathlib.Core.Bool.{Bool, true, false, cond, ◌&&◌, ◌||◌, true≢false, false≢true}
use Prim.Native.Nat.{ℕ, zero, suc, ◌+◌, ◌<◌, ◌≤◌, max}
use native.Mathlib.Nat.{not-suc-le-zero, le_refl}
use native.Mathlib.Numerals.{add-one}
use native.Mathlib.Omega.{arith}
use lib.Dec.{eqb}
use borrow.Author.Tests.{eqb-true, eq-eqb}
use Rattle.basics.specs.Below.{all_below, any_below, count_below, greatest_below, run_below}
use Rattle.basics.proofs.Bools.{split, clash, false_of_not, true_of_not, same_tests, and_left, and_right, and_both, and_false, or_true, or_left, or_right, or_fails, below_more}

-- two functions agree below a limit
abbrev pub Agree {ℓ} : {A : Type ℓ} → ℕ → (ℕ → A) → (ℕ → A) → Type ℓ
Agree n f g = (i : ℕ) → i < n → f i ≡ g i

-- what agrees below one more agrees below
pub agree_below {ℓ} : {A : Type ℓ} {n : ℕ} {f g : ℕ → A} → Agree (suc n) f g → Agree n f g
agree_below h i k = h i (omega arith)

module _ (p : ℕ → Bool) where
  -- each passes
  pub all_none : all_below p 0 ≡ true
  unfolding all_below
  all_none = refl

  pub all_more : (n : ℕ) → all_below p (n + 1) ≡ all_below p n && p n
  unfolding all_below
  all_more n = rw add-one

  pub all_passes : (n : ℕ) → all_below p n ≡ true → p n ≡ true → all_below p (n + 1) ≡ true
  all_passes n e t = all_more n ∙ and_both (all_below p n) (p n) e t

  pub all_at : (n : ℕ) → all_below p n ≡ true → (i : ℕ) → i < n → p i ≡ true
  unfolding all_below
  all_at zero e i h = absurd (not-suc-le-zero h)
  all_at (suc n) e i h =
      below_more h (all_at n (and_left (all_below p n) (p n) e) i) (λ q. subst (λ (j : ℕ). p j ≡ true) (sym q) (and_right (all_below p n) (p n) e))

  pub all_of : (n : ℕ) → ((i : ℕ) → i < n → p i ≡ true) → all_below p n ≡ true
  unfolding all_below
  all_of zero h = refl
  all_of (suc n) h = and_both (all_below p n) (p n) (all_of n (λ i k. h i (omega arith))) (h n (le_refl (suc n)))

  -- one that fails, and the test that fails
  pub all_fails : (n i : ℕ) → i < n → p i ≡ false → all_below p n ≡ false
  all_fails n i h e = false_of_not (all_below p n) (λ a. clash (all_at n a i h) e)

  pub all_false : (n : ℕ) → all_below p n ≡ false → (i : ℕ) × (i < n) × (p i ≡ false)
  unfolding all_below
  all_false zero e = absurd (true≢false e)
  all_false (suc n) e =
      ⊎_elim (λ a. let r = all_false n a in (r.0, omega arith, r.2)) (λ b. (n, le_refl (suc n), b)) (and_false (all_below p n) (p n) e)

  -- some passes
  pub any_none : any_below p 0 ≡ false
  unfolding any_below
  any_none = refl

  pub any_more : (n : ℕ) → any_below p (n + 1) ≡ any_below p n || p n
  unfolding any_below
  any_more n = rw add-one

  pub any_skips : (n : ℕ) → any_below p n ≡ false → p n ≡ false → any_below p (n + 1) ≡ false
  any_skips n e f = any_more n ∙ or_fails (any_below p n) (p n) e f

  pub any_at : (n : ℕ) → any_below p n ≡ true → (i : ℕ) × (i < n) × (p i ≡ true)
  unfolding any_below
  any_at zero e = absurd (false≢true e)
  any_at (suc n) e =
      ⊎_elim (λ a. let r = any_at n a in (r.0, omega arith, r.2)) (λ b. (n, le_refl (suc n), b)) (or_true (any_below p n) (p n) e)

  pub any_of : (n i : ℕ) → i < n → p i ≡ true → any_below p n ≡ true
  unfolding any_below
  any_of zero i h e = absurd (not-suc-le-zero h)
  any_of (suc n) i h e =
      below_more h (λ k. or_left (any_below p n) (p n) (any_of n i k e))
      (λ q. or_right (any_below p n) (p n) (subst (λ (j : ℕ). p j ≡ true) q e))

  -- nobody passes, and the test that fails
  pub any_fails : (n : ℕ) → ((i : ℕ) → i < n → p i ≡ false) → any_below p n ≡ false
  any_fails n h = false_of_not (any_below p n) (λ e. let r = any_at n e in clash r.2 (h r.0 r.1))

  pub any_false : (n : ℕ) → any_below p n ≡ false → (i : ℕ) → i < n → p i ≡ false
  any_false n e i h = false_of_not (p i) (λ t. clash (any_of n i h t) e)

  -- how many pass
  pub count_none : count_below p 0 ≡ 0
  unfolding count_below
  count_none = refl

  pub count_more : (n : ℕ) → count_below p (n + 1) ≡ count_below p n + cond (p n) 1 0
  unfolding count_below
  count_more n = rw add-one

  pub count_passes : (n : ℕ) → p n ≡ true → count_below p (n + 1) ≡ count_below p n + 1
  count_passes n e = count_more n ∙ ap (λ (b : Bool). count_below p n + cond b 1 0) e

  pub count_skips : (n : ℕ) → p n ≡ false → count_below p (n + 1) ≡ count_below p n
  count_skips n e = count_more n ∙ ap (λ (b : Bool). count_below p n + cond b 1 0) e ∙ omega arith

  pub count_at_most : (n : ℕ) → count_below p n ≤ n
  unfolding count_below
  count_at_most zero = le_refl 0
  count_at_most (suc n) = let h = count_at_most n in split (p n) (λ e. rw e (omega arith)) (λ e. rw e (omega arith))

  -- nobody passes exactly if the count is 0
  pub count_zero : (n : ℕ) → count_below p n ≡ 0 → (i : ℕ) → i < n → p i ≡ false
  unfolding count_below
  count_zero zero e i h = absurd (not-suc-le-zero h)
  count_zero (suc n) e i h =
      below_more h (count_zero n (omega arith) i)
      (λ q. subst (λ (j : ℕ). p j ≡ false) (sym q) (false_of_not (p n) (λ t. let z = rw t at e in omega arith)))

  pub count_nobody : (n : ℕ) → ((i : ℕ) → i < n → p i ≡ false) → count_below p n ≡ 0
  unfolding count_below
  count_nobody zero h = refl
  count_nobody (suc n) h = rw (h n (le_refl (suc n)), count_nobody n (λ i k. h i (omega arith)))

  -- some passes exactly if the count is not 0
  pub any_counted : (n : ℕ) → (count_below p n ≡ 0 → ⊥) → any_below p n ≡ true
  any_counted n counted = true_of_not (any_below p n) (λ e. counted (count_nobody n (any_false n e)))

  pub none_counted : (n : ℕ) → count_below p n ≡ 0 → any_below p n ≡ false
  none_counted n e = any_fails n (count_zero n e)

-- a test that passes where another does counts at least as much
one_if_le : (a b : Bool) → (a ≡ true → b ≡ true) → cond a 1 0 ≤ cond b 1 0
one_if_le false b h = omega arith
one_if_le true b h = rw (h refl) (le_refl 1)

module _ (p q : ℕ → Bool) where
  -- a count is at most that of a test that passes more
  pub count_le : (n : ℕ) → ((i : ℕ) → i < n → p i ≡ true → q i ≡ true) → count_below p n ≤ count_below q n
  unfolding count_below
  count_le zero h = le_refl 0
  count_le (suc n) h =
      let rest = count_le n (λ i k. h i (omega arith)) in
      let here = one_if_le (p n) (q n) (h n (le_refl (suc n))) in
      omega arith

  -- and strictly, where one passes the second alone
  pub count_lt : (n : ℕ) → ((i : ℕ) → i < n → p i ≡ true → q i ≡ true) → (i : ℕ) → i < n → p i ≡ false → q i ≡ true
      → count_below p n < count_below q n
  unfolding count_below
  count_lt zero h i k e f = absurd (not-suc-le-zero k)
  count_lt (suc n) h i k e f =
      let rest = count_le n (λ j m. h j (omega arith)) in
      let here = one_if_le (p n) (q n) (h n (le_refl (suc n))) in
      below_more k (λ m. let strict = count_lt n (λ j l. h j (omega arith)) i m e f in omega arith)
      (λ last. rw (rw last at e, rw last at f) (omega arith))

  -- tests that agree give one answer
  pub all_cong : (n : ℕ) → Agree n p q → all_below p n ≡ all_below q n
  unfolding all_below
  all_cong zero h = refl
  all_cong (suc n) h = ap₂ ◌&&◌ (all_cong n (agree_below h)) (h n (le_refl (suc n)))

  pub any_cong : (n : ℕ) → Agree n p q → any_below p n ≡ any_below q n
  unfolding any_below
  any_cong zero h = refl
  any_cong (suc n) h = ap₂ ◌||◌ (any_cong n (agree_below h)) (h n (le_refl (suc n)))

  pub count_cong : (n : ℕ) → Agree n p q → count_below p n ≡ count_below q n
  unfolding count_below
  count_cong zero h = refl
  count_cong (suc n) h = ap₂ (λ c b. c + cond b 1 0) (count_cong n (agree_below h)) (h n (le_refl (suc n)))

  -- tests that agree but at one number give counts that differ as they do there
  pub count_changed : (n i : ℕ) → i < n → ((j : ℕ) → j < n → (j ≡ i → ⊥) → p j ≡ q j)
      → count_below p n + cond (q i) 1 0 ≡ count_below q n + cond (p i) 1 0
  unfolding count_below
  count_changed zero i h same = absurd (not-suc-le-zero h)
  count_changed (suc n) i h same =
      below_more h
      (λ k. let rest = count_changed n i k (λ j m. same j (omega arith)) in let here = same n (le_refl (suc n)) (λ e. omega arith) in rw here (omega arith))
      (λ last. let rest = count_cong n (λ j m. same j (omega arith) (λ e. omega arith)) in rw (rest, last) (omega arith))

  -- some number passes one of two tests
  pub any_or : (n : ℕ) → any_below (λ i. p i || q i) n ≡ any_below p n || any_below q n
  any_or n =
      same_tests (any_below (λ i. p i || q i) n) (any_below p n || any_below q n)
      (λ t.
      let x = any_at (λ i. p i || q i) n t in
      ⊎_elim (λ a. or_left (any_below p n) (any_below q n) (any_of p n x.0 x.1 a)) (λ b. or_right (any_below p n) (any_below q n) (any_of q n x.0 x.1 b))
      (or_true (p x.0) (q x.0) x.2))
      (λ t.
      ⊎_elim (λ a. let x = any_at p n a in any_of (λ i. p i || q i) n x.0 x.1 (or_left (p x.0) (q x.0) x.2))
      (λ b. let x = any_at q n b in any_of (λ i. p i || q i) n x.0 x.1 (or_right (p x.0) (q x.0) x.2))
      (or_true (any_below p n) (any_below q n) t))

-- the one number that is asked for passes
pub any_only : (p : ℕ → Bool) (n c : ℕ) → c < n → any_below (λ d. eqb c d && p d) n ≡ p c
any_only p n c h =
    same_tests (any_below (λ d. eqb c d && p d) n) (p c)
    (λ t.
    let x = any_at (λ d. eqb c d && p d) n t in
    let d = x.0 in
    subst (λ (k : ℕ). p k ≡ true) (sym (eqb-true c d (and_left (eqb c d) (p d) x.2))) (and_right (eqb c d) (p d) x.2))
    (λ t. any_of (λ d. eqb c d && p d) n c h (and_both (eqb c c) (p c) (eq-eqb c c refl) t))

-- a search made only where b passes is a search for a test that nobody passes where b fails
pub any_where : (b : Bool) (p : Bool → ℕ → Bool) (n : ℕ) → ((i : ℕ) → p false i ≡ false) → any_below (p b) n ≡ b && any_below (p true) n
any_where true p n none = refl
any_where false p n none = any_fails (p false) n (λ i h. none i)

-- two searches may be made in either order
exchange_of : (a b : ℕ → Bool) (p : ℕ → ℕ → Bool) (m n : ℕ) → any_below (λ i. a i && any_below (λ c. b c && p i c) n) m ≡ true
    → any_below (λ c. b c && any_below (λ i. a i && p i c) m) n ≡ true
exchange_of a b p m n t =
    let x = any_at (λ i. a i && any_below (λ c. b c && p i c) n) m t in
    let i = x.0 in
    let y = any_at (λ c. b c && p i c) n (and_right (a i) (any_below (λ c. b c && p i c) n) x.2) in
    let c = y.0 in
    any_of (λ d. b d && any_below (λ j. a j && p j d) m) n c y.1
    (and_both (b c) (any_below (λ j. a j && p j c) m) (and_left (b c) (p i c) y.2)
    (any_of (λ j. a j && p j c) m i x.1
    (and_both (a i) (p i c) (and_left (a i) (any_below (λ d. b d && p i d) n) x.2) (and_right (b c) (p i c) y.2))))

pub any_exchange : (a b : ℕ → Bool) (p : ℕ → ℕ → Bool) (m n : ℕ)
    → any_below (λ i. a i && any_below (λ c. b c && p i c) n) m ≡ any_below (λ c. b c && any_below (λ i. a i && p i c) m) n
any_exchange a b p m n =
    same_tests (any_below (λ i. a i && any_below (λ c. b c && p i c) n) m) (any_below (λ c. b c && any_below (λ i. a i && p i c) m) n)
    (exchange_of a b p m n) (exchange_of b a (λ c i. p i c) n m)

module _ (f : ℕ → ℕ) where
  -- the greatest value of none, and with one more: it is taken, or the greatest so far is kept
  pub greatest_none : greatest_below f 0 ≡ 0
  unfolding greatest_below
  greatest_none = refl

  pub greatest_more : (n : ℕ) → greatest_below f (n + 1) ≡ max (greatest_below f n) (f n)
  unfolding greatest_below
  greatest_more n = rw add-one

  -- it is at least each, and no more than a bound of all
  pub greatest_at : (n i : ℕ) → i < n → f i ≤ greatest_below f n
  unfolding greatest_below
  greatest_at zero i h = absurd (not-suc-le-zero h)
  greatest_at (suc n) i h = below_more h (λ k. let r = greatest_at n i k in omega arith) (λ e. rw e (omega arith))

  pub greatest_bounded : (n b : ℕ) → ((i : ℕ) → i < n → f i ≤ b) → greatest_below f n ≤ b
  unfolding greatest_below
  greatest_bounded zero b h = omega arith
  greatest_bounded (suc n) b h =
      let rest = greatest_bounded n b (λ i k. h i (omega arith)) in
      let here = h n (le_refl (suc n)) in
      omega arith

pub greatest_cong : (f g : ℕ → ℕ) (n : ℕ) → Agree n f g → greatest_below f n ≡ greatest_below g n
unfolding greatest_below
greatest_cong f g zero h = refl
greatest_cong f g (suc n) h = ap₂ max (greatest_cong f g n (agree_below h)) (h n (le_refl (suc n)))

module _ {ℓ} {A : Type ℓ} where
  -- a run of no step, of one more, and of steps that agree
  pub run_none : (f : ℕ → A → A) (a : A) → run_below f 0 a ≡ a
  unfolding run_below
  run_none f a = refl

  pub run_more : (f : ℕ → A → A) (n : ℕ) (a : A) → run_below f (n + 1) a ≡ f n (run_below f n a)
  unfolding run_below
  run_more f n a = rw add-one

  pub run_cong : (f g : ℕ → A → A) (n : ℕ) (a : A) → ((i : ℕ) → i < n → (b : A) → f i b ≡ g i b) → run_below f n a ≡ run_below g n a
  unfolding run_below
  run_cong f g zero a h = refl
  run_cong f g (suc n) a h =
      ap (f n) (run_cong f g n a (λ i k. h i (omega arith))) ∙ h n (le_refl (suc n)) (run_below g n a)
