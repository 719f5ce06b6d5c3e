-- Elimination: from those present take, again and again, among those with nobody left before them, the one with the lowest key.
-- Those present are the numbers below the limit `n` that pass `left`; `before k m` says that k stands before m.
use Rattle.std.specs.Prelude.{◌≡◌, ℕ, zero, suc, ◌<◌, ◌≤◌, Bool, true, false, not, cond, ◌&&◌, List, [], ◌∷◌, ltb, eqb}
use Rattle.basics.specs.Below.{all_below, any_below, lowest_below}
use Rattle.basics.specs.Lists.{member}

module _ (n : ℕ) (before : ℕ → ℕ → Bool) where
  -- m is left, and nobody left stands before it
  unfoldable pub clear : (ℕ → Bool) → ℕ → Bool
  clear left m = left m && not (any_below (λ k. left k && before k m) n)

  -- those left once m is taken
  unfoldable pub without : (ℕ → Bool) → ℕ → ℕ → Bool
  without left m k = left k && not (eqb k m)

  -- both are left, and k stands before m
  abbrev pub LeftPair : (ℕ → Bool) → ℕ → ℕ → Type 0
  LeftPair left k m = (k < n) × (m < n) × (left k ≡ true) × (left m ≡ true) × (before k m ≡ true)

  module _ (key : ℕ → ℕ) where
    -- the one to take next; n if nobody is clear
    unfoldable pub next : (ℕ → Bool) → ℕ
    next left = lowest_below (clear left) key n

    -- those taken in at most so many rounds, in the order of their taking
    unfoldable pub taken : ℕ → (ℕ → Bool) → List ℕ
    taken zero left = []
    taken (suc rounds) left =
        let m = next left in
        let rest = m ∷ taken rounds (without left m) in
        cond (ltb m n) rest []

    -- the order by elimination: n rounds take everybody who can be taken
    unfoldable pub eliminated : (ℕ → Bool) → List ℕ
    eliminated left = taken n left

    -- elimination gives everybody
    unfoldable pub gives_all : (ℕ → Bool) → Bool
    gives_all left = let order = eliminated left in all_below (λ k. cond (left k) (member k order) true) n

    -- the list takes each time one that is clear and has the lowest key, until nobody is clear
    pub data TakesLowest : (ℕ → Bool) → List ℕ → Type 0 where
      stop : {left : ℕ → Bool} → ((m : ℕ) → m < n → clear left m ≡ false) → TakesLowest left []
      take : {left : ℕ → Bool} {rest : List ℕ} (m : ℕ) → m < n → clear left m ≡ true → ((k : ℕ) → k < n → clear left k ≡ true → key m ≤ key k) → TakesLowest (without left m) rest → TakesLowest left (m ∷ rest)
