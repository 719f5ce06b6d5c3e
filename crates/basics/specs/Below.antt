-- Tests, counts and searches over the numbers below a limit.
-- A limit of n means the numbers 0, 1, .., n - 1. A search that finds nothing answers the limit itself.
use Rattle.std.specs.Prelude.{ℕ, zero, suc, ◌+◌, max, Bool, true, false, cond, ◌&&◌, ◌||◌, List, [], ◌∷◌, ◌++◌, ltb}

-- each number below the limit passes
unfoldable pub all_below : (ℕ → Bool) → ℕ → Bool
all_below p zero = true
all_below p (suc n) = all_below p n && p n

-- some number below the limit passes
unfoldable pub any_below : (ℕ → Bool) → ℕ → Bool
any_below p zero = false
any_below p (suc n) = any_below p n || p n

-- how many numbers below the limit pass
unfoldable pub count_below : (ℕ → Bool) → ℕ → ℕ
count_below p zero = 0
count_below p (suc n) = count_below p n + cond (p n) 1 0

-- the least number below the limit that passes
unfoldable pub least_below : (ℕ → Bool) → ℕ → ℕ
least_below p zero = 0
least_below p (suc n) = let found = least_below p n in cond (ltb found n) found (cond (p n) n (suc n))

-- the number below the limit that passes and has the lowest key; of equal keys, the least number
unfoldable pub lowest_below : (ℕ → Bool) → (ℕ → ℕ) → ℕ → ℕ
lowest_below p key zero = 0
lowest_below p key (suc n) =
    let found = lowest_below p key n in
    cond (ltb found n) (cond (p n && ltb (key n) (key found)) n found) (cond (p n) n (suc n))

-- the greatest value at a number below the limit; 0 where there is none
unfoldable pub greatest_below : (ℕ → ℕ) → ℕ → ℕ
greatest_below f zero = 0
greatest_below f (suc n) = max (greatest_below f n) (f n)

-- a step made once for each number below the limit, in their order
unfoldable pub run_below {ℓ} : {A : Type ℓ} → (ℕ → A → A) → ℕ → A → A
run_below f zero a = a
run_below f (suc n) a = f n (run_below f n a)

-- w values: at the numbers below the limit n those of f, from there on d
unfoldable pub filled_below {ℓ} : {A : Type ℓ} → (ℕ → A) → A → ℕ → ℕ → List A
filled_below f d n zero = []
filled_below f d n (suc w) = filled_below f d n w ++ (cond (ltb w n) (f w) d ∷ [])
