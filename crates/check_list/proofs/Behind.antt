-- A list without repeats, told number by number: none stands behind itself again. Assumes nothing.
use Prim.Native.Nat.{ℕ, ◌+◌, ◌-◌, ◌<◌, ◌≤◌}
use mathlib.Core.Path.{◌≡◌, refl, sym, ◌∙◌, ap, ap₂}
use mathlib.Core.Bool.{Bool, true, false, not, ◌&&◌, ◌||◌}
use mathlib.Core.List.{List, [], ◌∷◌}
use native.Mathlib.Numerals.{add-one}
use native.Mathlib.Omega.{arith}
use lib.ListN.{length, get_or, take, drop, length-drop}
use lib.Seq.{take_all, drop-cons}
use lib.Dec.{eqb}
use Rattle.std.specs.List.{list_any}
use Rattle.std.proofs.lemmas.List.{drop_all}
use Rattle.basics.specs.Lists.{any_in, member, distinct}
use Rattle.basics.proofs.Bools.{eqb_swap}

-- the number stands in a list, as `contains` says it
pub contained : (n : ℕ) (xs : List ℕ) → list_any (λ x. eqb x n) xs ≡ member n xs
unfolding member any_in
contained n [] = refl
contained n (x ∷ xs) = ap₂ ◌||◌ (eqb_swap x n) (contained n xs)

-- the numbers behind the first i, by the next of them and those behind it
behind : (xs : List ℕ) (i : ℕ) → i < length xs → distinct (drop i xs) ≡ not (member (get_or xs i 0) (drop (i + 1) xs)) && distinct (drop (i + 1) xs)
unfolding distinct
behind xs i h = rw (add-one, drop-cons xs i 0 h)

module _ (xs : List ℕ) (i : ℕ) (h : i < length xs) {again : Bool}
    (e : again ≡ list_any (λ x. eqb x (get_or xs i 0)) (take (length xs - (i + 1)) (drop (i + 1) xs))) (all : distinct (drop i xs) ≡ distinct xs) where
  told : distinct xs ≡ not again && distinct (drop (i + 1) xs)
  told =
      let rest = drop (i + 1) xs in
      let said : again ≡ member (get_or xs i 0) rest =
      e ∙ ap (list_any (λ x. eqb x (get_or xs i 0))) (take_all (length xs - (i + 1)) rest (omega (arith, length-drop (i + 1) xs))) ∙ contained (get_or xs i 0) rest in
      sym all ∙ behind xs i h ∙ ap (λ b. not b && distinct rest) (sym said)

  -- the next stands there again, or not
  pub again_there : again ≡ true → false ≡ distinct xs
  again_there t = sym (rw t at told)

  pub not_again : again ≡ false → distinct (drop (i + 1) xs) ≡ distinct xs
  not_again f = sym (rw f at told)

-- at the end nothing is left
pub none_left : (xs : List ℕ) (i : ℕ) → length xs ≤ i → distinct (drop i xs) ≡ distinct xs → true ≡ distinct xs
unfolding distinct
none_left xs i h all = sym (ap distinct (drop_all i xs h)) ∙ all
