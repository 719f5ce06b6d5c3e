-- What `any` asks over a range, as a test of the numbers below its end. Assumes nothing.
use mathlib.Core.Path.{◌≡◌, refl, ◌∙◌, ap, ap₂}
use mathlib.Core.Bool.{Bool, false, ◌||◌}
use mathlib.Core.List.{List, [], ◌∷◌, ◌++◌}
use Prim.Native.Nat.{ℕ, zero, suc, ◌+◌}
use native.Mathlib.Nat.{zero-add}
use native.Mathlib.Omega.{arith}
use Rattle.std.specs.List.{list_any, range_with_len}
use Rattle.std.proofs.lemmas.List.Folds.{list_any-append}
use Rattle.basics.specs.Below.{any_below}

-- a range with one number more
pub range_more : (a n : ℕ) → range_with_len a (suc n) ≡ range_with_len a n ++ ((a + n) ∷ [])
range_more a zero = ap (λ (k : ℕ). k ∷ []) (omega arith)
range_more a (suc n) = ap (λ (ks : List ℕ). a ∷ ks) (range_more (a + 1) n ∙ ap (λ (k : ℕ). range_with_len (a + 1) n ++ (k ∷ [])) (omega arith))

-- one test of two, the second asked alone
or_alone : (a b : Bool) → a || (b || false) ≡ a || b
or_alone a b = grind arith

-- some number of the range passes exactly if some number below its end does
pub any_in_range : (p : ℕ → Bool) (n : ℕ) → list_any p (range_with_len 0 n) ≡ any_below p n
unfolding any_below
any_in_range p zero = refl
any_in_range p (suc n) =
    ap (list_any p) (range_more 0 n)
    ∙ list_any-append p (range_with_len 0 n) ((0 + n) ∷ [])
    ∙ or_alone (list_any p (range_with_len 0 n)) (p (0 + n))
    ∙ ap₂ ◌||◌ (any_in_range p n) (ap p (zero-add n))
