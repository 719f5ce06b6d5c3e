-- What `filter` and `min_by_key` find over a range: the lowest below its end. Rests on the laws of the search so far (`Next`).
use Prim.Native.Nat.{ℕ, zero, suc, ◌+◌}
use mathlib.Core.Path.{◌≡◌, refl, sym, ◌∙◌, ap, ap₂, subst}
use mathlib.Core.Bool.{Bool, true, cond}
use mathlib.Core.List.{List, [], ◌∷◌, ◌++◌, map-id, append-nil}
use native.Mathlib.Numerals.{add-one}
use native.Mathlib.Omega.{arith}
use lib.Dec.{ltb}
use borrow.Author.Tests.{ltb-true, ltb-false}
use denote.Param.Members.{Mut}
use denote.Ref.{Bor}
use Rattle.std.specs.Prelude.{Option, Some, None}
use Rattle.std.specs.declared.cmp.Ordering.{Ordering}
use Rattle.std.specs.declared.cmp.Ordering.TheVariants.{Less, Equal, Greater}
use Rattle.std.specs.Ordering.{nat_cmp, min_by_ordering}
use Rattle.std.specs.Fn.{CalledAt}
use Rattle.std.specs.Iterator.{PicksMinByKey, KeyTurn}
use Rattle.std.specs.List.{FoldsTo, filter, range_with_len}
use Rattle.std.proofs.lemmas.Bool.Decides.{nat_tests}
use Rattle.std.proofs.lemmas.Iterator.{YieldsList, items_from_drains}
use Rattle.std.proofs.lemmas.List.Elements.{filter-append}
use Rattle.basics.specs.Below.{lowest_below}
use Rattle.basics.proofs.Bools.{split}
use Rattle.survey.specs.Found.{FoundBelow}
use Rattle.pairs.proofs.Ranges.{range_more}
use Rattle.judge.proofs.Next.{FoundSoFar, found_none, found_skips, found_first, found_lower, found_stays}

module _ (key : ℕ → ℕ) where
  -- of a list, the first of those with the lowest key
  abbrev best : ℕ → List ℕ → ℕ
  best x [] = x
  best x (z ∷ zs) = best (cond (ltb (key z) (key x)) z x) zs

  abbrev pub best_of : List ℕ → Option ℕ
  best_of [] = None
  best_of (x ∷ xs) = Some (best x xs)

  -- one more at the end
  abbrev with_last : Option ℕ → ℕ → Option ℕ
  with_last None n = Some n
  with_last (Some x) n = Some (cond (ltb (key n) (key x)) n x)

  best_last : (x : ℕ) (xs : List ℕ) (n : ℕ) → best x (xs ++ (n ∷ [])) ≡ cond (ltb (key n) (key (best x xs))) n (best x xs)
  best_last x [] n = refl
  best_last x (z ∷ zs) n = best_last (cond (ltb (key z) (key x)) z x) zs n

  best_of_last : (xs : List ℕ) (n : ℕ) → best_of (xs ++ (n ∷ [])) ≡ with_last (best_of xs) n
  best_of_last [] n = refl
  best_of_last (x ∷ xs) n = ap Some (best_last x xs n)

  -- a range with one number more
  module _ (p : ℕ → Bool) where
    last_passes : (n : ℕ) (found : Option ℕ) → FoundSoFar p key n found → p n ≡ true → FoundSoFar p key (n + 1) (with_last found n)
    last_passes n None e t = found_first p key n e t
    last_passes n (Some k) e t =
        split (ltb (key n) (key k))
        (λ low. rw low (found_lower p key n k e t (ltb-true (key n) (key k) low)))
        (λ high. rw high (found_stays p key n k e (ltb-false (key n) (key k) high)))

    filter_more : (n : ℕ) → filter p (range_with_len 0 (suc n)) ≡ filter p (range_with_len 0 n) ++ filter p (n ∷ [])
    filter_more n = ap (filter p) (range_more 0 n ∙ ap (λ (k : ℕ). range_with_len 0 n ++ (k ∷ [])) (omega arith)) ∙ filter-append p (range_with_len 0 n) (n ∷ [])

    found_next : (n : ℕ) → FoundSoFar p key n (best_of (filter p (range_with_len 0 n))) → FoundSoFar p key (n + 1) (best_of (filter p (range_with_len 0 (suc n))))
    found_next n e =
        let xs = filter p (range_with_len 0 n) in
        rw (filter_more n)
        (split (p n)
        (λ t. rw t (rw (best_of_last xs n) (last_passes n (best_of xs) e t)))
        (λ f. rw f (rw (append-nil xs) (found_skips p key n (best_of xs) e f))))

    -- the lowest of those of the range that pass
    pub found_in_range : (n : ℕ) → FoundBelow n (lowest_below p key n) (best_of (filter p (range_with_len 0 n)))
    found_in_range zero = found_none p key
    found_in_range (suc n) =
        subst (λ (m : ℕ). FoundBelow m (lowest_below p key m) (best_of (filter p (range_with_len 0 (suc n))))) (add-one n) (found_next n (found_in_range n))

  -- what comes of a turn: the key of what is kept is kept with it
  keyed : (x z : ℕ) (o : Ordering) → min_by_ordering o (key x) (key z) ≡ key (min_by_ordering o x z)
  keyed x z Less = refl
  keyed x z Equal = refl
  keyed x z Greater = refl

  -- it is the lower of two, the first of equal ones
  by_tests : (a b x z : ℕ) → min_by_ordering (nat_cmp a b) x z ≡ cond (ltb b a) z x
  by_tests a b x z = grind (arith, nat_tests)

  turned : (x z : ℕ) (o : Ordering) → nat_cmp (key x) (key z) ≡ o → min_by_ordering o x z ≡ cond (ltb (key z) (key x)) z x
  turned x z o e = rw (← e) (by_tests (key x) (key z) x z)

  module _ {F : Type 0} (g : Mut F (Bor ℕ × Unit {0}) ℕ) where
    -- the closure gives the key and stays as it is
    abbrev Keyed : F → Type 0
    Keyed f = (x k : ℕ) (q : F) → CalledAt g f x k q → (q ≡ f) × (k ≡ key x)

    -- the turns over a list
    folded : (xs : List ℕ) (f : F) (k x : ℕ) (q : F × ℕ) (y : ℕ) → Keyed f → k ≡ key x
        → FoldsTo (KeyTurn min_by_ordering min_by_ordering g nat_cmp) ((f, k), x) xs (q, y) → y ≡ best x xs
    folded [] f k x q y law e h = sym (ap (λ (w : (F × ℕ) × ℕ). w.1) h)
    folded (z ∷ zs) f k x q y law e h =
        let j = h.0 in
        let turn = h.1 in
        let call = law z turn.0 j.0.0 turn.2 in
        let order : nat_cmp (key x) (key z) ≡ turn.1 = ap₂ nat_cmp (sym e) (sym call.1) ∙ turn.3 in
        let item : j.1 ≡ cond (ltb (key z) (key x)) z x = turn.5 ∙ turned x z turn.1 order in
        let key_is : j.0.1 ≡ key j.1 = turn.4 ∙ ap₂ (min_by_ordering turn.1) e call.1 ∙ keyed x z turn.1 ∙ ap key (sym turn.5) in
        folded zs j.0.0 j.0.1 j.1 q y (subst Keyed (sym call.0) law) key_is h.2 ∙ ap (λ (w : ℕ). best w zs) item

    -- what is picked of those that a chain gives
    pub picked : {S : Type 0} {steps : S → Option ℕ → S → Type 0} {s : S} {all : List ℕ} (f : F) (r : Option ℕ)
        → PicksMinByKey steps g nat_cmp s f r → YieldsList steps (λ x. x) s all → Keyed f → r ≡ best_of all
    picked f None d chain law = ap best_of (items_from_drains [] (d.1.0, d.1.1, λ _. (d.0, d.1.2)) chain)
    picked f (Some y) h chain law =
        let d = h.5 in
        let items = items_from_drains (h.0 ∷ h.1) (d.1.0, d.1.1, λ _. (d.0, d.1.2)) chain in
        let first = law h.0 h.2 h.3 h.6 in
        ap Some (folded h.1 h.3 h.2 h.0 h.4 y (subst Keyed (sym first.0) law) first.1 h.7) ∙ ap best_of (ap (λ (xs : List ℕ). h.0 ∷ xs) (sym (map-id h.1)) ∙ items)
