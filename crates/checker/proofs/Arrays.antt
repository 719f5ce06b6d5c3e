-- The table with one transaction's writes laid over it, and arrays in which one element is set, or none. Assumes nothing.
use Prim.Native.Nat.{ℕ, zero, suc, ◌≤◌, ◌<◌}
use mathlib.Core.Path.{◌≡◌, refl, ◌∙◌}
use mathlib.Core.Bool.{Bool, true, false, cond, ◌&&◌}
use mathlib.Core.List.{List}
use native.Mathlib.Nat.{not-suc-le-zero, le_refl}
use native.Mathlib.Omega.{arith}
use lib.ListN.{length, get_or, set, length-set}
use lib.Seq.{get_or-set_same, get_or-set_other}
use lib.Dec.{eqb}
use Rattle.std.proofs.Common.{Option, None, is_some}
use Rattle.basics.specs.Below.{run_below}
use Rattle.basics.proofs.Bools.{split, below_more}
use Rattle.basics.proofs.Elements.{get_or_set, set_each}
use Rattle.rules.specs.declared.Size.{Size}
use Rattle.check_replay.specs.declared.state.Listed.{Listed}
use Rattle.check_replay.specs.Kept.{wrote_in, laid_cell, laid}

-- ---- one element is set, or none

pub get_or_set_if {ℓ} : {A : Type ℓ} (b : Bool) (xs : List A) (i j : ℕ) (x d : A) → j < length xs
    → get_or (cond b (set xs i x) xs) j d ≡ cond (b && eqb j i) x (get_or xs j d)
get_or_set_if true xs i j x d h = get_or_set xs i j x d h
get_or_set_if false xs i j x d h = refl

pub length_set_if {ℓ} : {A : Type ℓ} (b : Bool) (xs : List A) (i : ℕ) (x : A) → length (cond b (set xs i x) xs) ≡ length xs
length_set_if true xs i x = length-set xs i x
length_set_if false xs i x = refl

pub set_each_if : {A : Type 0} (P : A → Type 0) (b : Bool) (xs : List A) (i : ℕ) (x d : A) → P x → ((j : ℕ) → P (get_or xs j d)) → (j : ℕ)
    → P (get_or (cond b (set xs i x) xs) j d)
set_each_if P true xs i x d h k = set_each P xs i x d h k
set_each_if P false xs i x d h k = k

-- ---- the table

module _ (own : Listed) where
  laid_below_length : (n : ℕ) (table : List (Option ℕ)) → length (run_below (laid_cell own) n table) ≡ length table
  unfolding run_below
  laid_below_length zero table = refl
  laid_below_length (suc n) table =
      let below = run_below (laid_cell own) n table in
      let w = wrote_in own n in
      split (is_some w) (λ t. rw t (length-set below n w ∙ laid_below_length n table)) (λ f. rw f (laid_below_length n table))

  laid_below_each : (P : Option ℕ → Type 0) (n : ℕ) (table : List (Option ℕ)) → ((j : ℕ) → P (wrote_in own j)) → ((j : ℕ) → P (get_or table j None))
      → (j : ℕ) → P (get_or (run_below (laid_cell own) n table) j None)
  unfolding run_below
  laid_below_each P zero table h k = k
  laid_below_each P (suc n) table h k =
      let below = run_below (laid_cell own) n table in
      let w = wrote_in own n in
      let older = laid_below_each P n table h k in
      split (is_some w) (λ t. rw t (set_each P below n w None (h n) older)) (λ f. rw f older)

  -- a cell from n on is as it was
  laid_below_later : (n : ℕ) (table : List (Option ℕ)) (c : ℕ) → n ≤ c → get_or (run_below (laid_cell own) n table) c None ≡ get_or table c None
  unfolding run_below
  laid_below_later zero table c h = refl
  laid_below_later (suc n) table c h =
      let below = run_below (laid_cell own) n table in
      let w = wrote_in own n in
      let older = laid_below_later n table c (omega arith) in
      split (is_some w) (λ t. rw t (get_or-set_other below n c w None (λ q. omega arith) ∙ older)) (λ f. rw f older)

  -- one below n has the write's record
  laid_below_at : (n : ℕ) (table : List (Option ℕ)) (c : ℕ) → c < n → n ≤ length table
      → get_or (run_below (laid_cell own) n table) c None ≡ cond (is_some (wrote_in own c)) (wrote_in own c) (get_or table c None)
  unfolding run_below
  laid_below_at zero table c h l = absurd (not-suc-le-zero h)
  laid_below_at (suc n) table c h l =
      let below = run_below (laid_cell own) n table in
      let w = wrote_in own n in
      below_more h
      (λ b.
      let older = laid_below_at n table c b (omega arith) in
      split (is_some w) (λ t. rw t (get_or-set_other below n c w None (λ q. omega arith) ∙ older)) (λ f. rw f older))
      (λ q.
      rw q
      (split (is_some w) (λ t. rw t (get_or-set_same below n w None (omega (arith, laid_below_length n table))))
      (λ f. rw f (laid_below_later n table n (le_refl n)))))

  module _ (z : Size) (table : List (Option ℕ)) where
    -- the length and what holds of each stay
    pub laid_length : length (laid z own table) ≡ length table
    unfolding laid
    laid_length = laid_below_length z.cells table

    pub laid_each : (P : Option ℕ → Type 0) → ((j : ℕ) → P (wrote_in own j)) → ((j : ℕ) → P (get_or table j None)) → (j : ℕ)
        → P (get_or (laid z own table) j None)
    unfolding laid
    laid_each P = laid_below_each P z.cells table

    -- a written cell has the write's record, another is as it was
    pub laid_at : (c : ℕ) → c < z.cells → z.cells ≤ length table
        → get_or (laid z own table) c None ≡ cond (is_some (wrote_in own c)) (wrote_in own c) (get_or table c None)
    unfolding laid
    laid_at = laid_below_at z.cells table
