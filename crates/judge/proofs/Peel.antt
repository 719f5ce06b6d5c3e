-- A pass over those left in search of one that is clear: whether somebody was met so far, and that nobody met was clear.
-- A pass that ends so has the verdict. Assumes nothing.
use mathlib.Core.Path.{◌≡◌, sym, ◌∙◌, ap}
use mathlib.Core.Bool.{Bool, true, false, not, ◌&&◌, ◌||◌, or-false}
use Prim.Native.Nat.{ℕ, ◌+◌, ◌<◌}
use native.Mathlib.Omega.{arith}
use borrow.Author.Count.{below_none, below_more}
use Rattle.basics.specs.Below.{any_below}
use Rattle.basics.specs.Elimination.{clear, gives_all}
use Rattle.basics.proofs.Below.{any_none, any_more, any_of}
use Rattle.basics.proofs.Eliminated.{clear_blocked, clear_gone, gives_all_left}

-- of m places: whether somebody there is left, and that nobody there is clear
pub record Passed (n : ℕ) (before : ℕ → ℕ → Bool) (left : ℕ → Bool) (m : ℕ) (any : Bool) : Type 0 where
  pub met : any ≡ any_below left m
  pub none_clear : (j : ℕ) → j < m → clear n before left j ≡ false

pub passed_none : (n : ℕ) (before : ℕ → ℕ → Bool) (left : ℕ → Bool) → Passed n before left 0 false
passed_none n before left = record { met = sym (any_none left); none_clear = below_none (λ j. clear n before left j ≡ false) }

module _ {n : ℕ} {before : ℕ → ℕ → Bool} {left : ℕ → Bool} {m : ℕ} {any : Bool} (passed : Passed n before left m any) where
  -- one more place: there is one left who has one left before him, or nobody
  pub passed_blocked : left m ≡ true → (k : ℕ) → k < n → left k && before k m ≡ true → Passed n before left (m + 1) true
  passed_blocked l k h e =
      record {
        met = sym (any_of left (m + 1) m (omega arith) l);
        none_clear = below_more (λ j. clear n before left j ≡ false) m passed.none_clear (clear_blocked n before left m (any_of (λ j. left j && before j m) n k h e));
      }

  pub passed_gone : left m ≡ false → Passed n before left (m + 1) any
  passed_gone l =
      record {
        met = passed.met ∙ sym (any_more left m ∙ ap (λ (b : Bool). any_below left m || b) l ∙ or-false (any_below left m));
        none_clear = below_more (λ j. clear n before left j ≡ false) m passed.none_clear (clear_gone n before left m l);
      }

-- after all places
pub passed_all : {n : ℕ} {before : ℕ → ℕ → Bool} {left : ℕ → Bool} {any : Bool} → Passed n before left n any → (key : ℕ → ℕ)
    → any ≡ not (gives_all n before key left)
passed_all {n} {before} {left} passed key = passed.met ∙ gives_all_left n before key left passed.none_clear
