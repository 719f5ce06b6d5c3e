-- A loop that tests one number after another below a limit: it is left at one that fails; or it looks for one that passes, and finds one or comes to the
-- limit. Assumes nothing.
use Prim.Native.Nat.{ℕ, ◌<◌, ◌≤◌}
use mathlib.Core.Path.{◌≡◌, sym, ◌∙◌, ap}
use mathlib.Core.Bool.{Bool, true, false, not}
use native.Mathlib.Omega.{arith}
use borrow.Author.Tests.{not-true}
use Rattle.basics.specs.Below.{all_below, any_below}
use Rattle.basics.proofs.Below.{all_fails, any_of}

module _ (p : ℕ → Bool) (n i : ℕ) where
  -- where a call gives the answer r, and the loop is left if not r
  pub answer_fails : i < n → (r : Bool) → r ≡ p i → not r ≡ true → false ≡ all_below p n
  answer_fails h r e t = sym (all_fails p n i h (sym e ∙ not-true r t))

module _ (passes : ℕ → Bool) (n i : ℕ) where
  -- one that passes is found
  pub any_found : i < n → passes i ≡ true → true ≡ any_below passes n
  any_found h e = sym (any_of passes n i h e)

  -- none passed below i, and there is none from i on
  pub none_found : i ≤ n → n ≤ i → any_below passes i ≡ false → false ≡ any_below passes n
  none_found h k e = let same : i ≡ n = omega arith in sym e ∙ ap (any_below passes) same
