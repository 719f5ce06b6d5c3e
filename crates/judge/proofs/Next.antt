-- The search for the one to take next, place by place: what is found so far is the lowest of the places passed that pass the test, none while none does.
-- Assumes nothing.
use mathlib.Core.Path.{◌≡◌, ◌∙◌}
use mathlib.Core.Bool.{Bool, true, false}
use Prim.Native.Nat.{ℕ, ◌+◌, ◌<◌, ◌≤◌}
use native.Mathlib.Omega.{arith}
use Rattle.std.specs.Prelude.{Option, Some, None}
use Rattle.basics.specs.Below.{lowest_below}
use Rattle.basics.proofs.Search.{lowest_skips, lowest_starts, lowest_lower, lowest_kept, lowest_at_most}
use Rattle.basics.proofs.Bools.{clash}
use Rattle.survey.specs.Found.{FoundBelow}

module _ (p : ℕ → Bool) (key : ℕ → ℕ) where
  -- of m places
  abbrev pub FoundSoFar : ℕ → Option ℕ → Type 0
  FoundSoFar m found = FoundBelow m (lowest_below p key m) found

  pub found_none : FoundSoFar 0 None
  found_none = let h = lowest_at_most p key 0 in omega arith

  module _ (m : ℕ) where
    -- one more place: it does not pass
    pub found_skips : (found : Option ℕ) → FoundSoFar m found → p m ≡ false → FoundSoFar (m + 1) found
    found_skips None e f = lowest_skips p key m e f
    found_skips (Some k) e f = (lowest_kept p key m (omega (arith, e.0, e.1)) (λ t. absurd (clash t f)) ∙ e.0, omega (arith, e.1))

    -- it passes, and nobody was found
    pub found_first : FoundSoFar m None → p m ≡ true → FoundSoFar (m + 1) (Some m)
    found_first e t = (lowest_starts p key m e t, omega arith)

    -- it passes, and one that is not as low was found
    pub found_lower : (k : ℕ) → FoundSoFar m (Some k) → p m ≡ true → key m < key k → FoundSoFar (m + 1) (Some m)
    found_lower k e t low = (lowest_lower p key m (omega (arith, e.0, e.1)) t (rw (e.0) low), omega arith)

    -- one as low was found
    pub found_stays : (k : ℕ) → FoundSoFar m (Some k) → key k ≤ key m → FoundSoFar (m + 1) (Some k)
    found_stays k e low = (lowest_kept p key m (omega (arith, e.0, e.1)) (λ t. rw (e.0) low) ∙ e.0, omega (arith, e.1))
