-- The marks of places. Of a row's marks among those left, one more place; and a mark taken away: those marked then are those left without the place,
-- so they are fewer, and elimination goes on with them. Assumes nothing.
use mathlib.Core.Path.{◌≡◌, refl, sym, ◌∙◌, subst}
use mathlib.Core.Logic.{◌⊎◌, ⊎_elim}
use mathlib.Core.Bool.{Bool, true, false, ◌&&◌}
use mathlib.Core.List.{List, [], ◌∷◌}
use Prim.Native.Nat.{ℕ, zero, suc, ◌+◌, ◌<◌}
use native.Mathlib.Omega.{arith}
use lib.ListN.{set}
use lib.Seq.{get_or-set_other}
use Rattle.basics.specs.Below.{any_below, count_below}
use Rattle.basics.specs.Elimination.{clear, without, eliminated, gives_all}
use Rattle.basics.proofs.Bools.{equal_or_not, same_tests, and_fails_left, and_fails_right}
use Rattle.basics.proofs.Below.{Agree, any_skips, count_cong}
use Rattle.basics.proofs.Elimination.{without_left, without_of, without_itself, without_fewer}
use Rattle.basics.proofs.Eliminated.{gives_all_without, gives_all_cong, eliminated_cong}
use Rattle.pairs.specs.Square.{is_in}

-- the one at that place is left, and the row marks him
abbrev pub left_in_row : List Bool → List Bool → ℕ → Bool
left_in_row left row k = is_in left k && is_in row k

pub row_skips : (left row : List Bool) (k : ℕ) → any_below (left_in_row left row) k ≡ false → (is_in left k ≡ false) ⊎ (is_in row k ≡ false)
    → any_below (left_in_row left row) (k + 1) ≡ false
row_skips left row k none fails =
    any_skips (left_in_row left row) k none
    (⊎_elim (and_fails_left (is_in left k) (is_in row k)) (and_fails_right (is_in left k) (is_in row k)) fails)

-- a mark taken away is gone, also past the end
unmarked : (left : List Bool) (m : ℕ) → is_in (set left m false) m ≡ false
unmarked [] m = refl
unmarked (x ∷ left) zero = refl
unmarked (x ∷ left) (suc m) = unmarked left m

module _ (n : ℕ) (before : ℕ → ℕ → Bool) (left : List Bool) (m : ℕ) where
  pub unmarked_without : Agree n (is_in (set left m false)) (without n before (is_in left) m)
  unmarked_without k h =
      equal_or_not k m
      (λ e. subst (λ (j : ℕ). is_in (set left m false) j ≡ without n before (is_in left) m j) (sym e) (unmarked left m ∙ sym (without_itself n before (is_in left) m)))
      (λ d. get_or-set_other left m k false false d
      ∙ same_tests (is_in left k) (without n before (is_in left) m k) (λ l. without_of n before (is_in left) m k l d) (without_left n before (is_in left) m k))

  pub unmarked_fewer : m < n → is_in left m ≡ true → count_below (is_in (set left m false)) n < count_below (is_in left) n
  unmarked_fewer h l =
      let e = count_cong (is_in (set left m false)) (without n before (is_in left) m) n unmarked_without in
      let fewer = without_fewer n before (is_in left) m h l in
      omega arith

  pub unmarked_gives_all : (key : ℕ → ℕ) → clear n before (is_in left) m ≡ true
      → gives_all n before key (is_in left) ≡ gives_all n before key (is_in (set left m false))
  unmarked_gives_all key c =
      gives_all_without n before key (is_in left) m c
      ∙ sym (gives_all_cong n before before (λ _ _ _ _. refl) key key (λ _ _. refl) (is_in (set left m false)) (without n before (is_in left) m) unmarked_without)

  pub unmarked_eliminated : (key : ℕ → ℕ) → eliminated n before key (without n before (is_in left) m) ≡ eliminated n before key (is_in (set left m false))
  unmarked_eliminated key =
      sym (eliminated_cong n before before (λ _ _ _ _. refl) key key (λ _ _. refl) (is_in (set left m false)) (without n before (is_in left) m) unmarked_without)
