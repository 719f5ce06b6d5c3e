-- A statement of each element of a list and those behind it, taken apart: of the head and the tail, of two parts, of a test of all elements; and a
-- statement of the elements alone. Assumes nothing.
use mathlib.Core.Path.{◌≡◌, refl, ap, subst}
use mathlib.Core.Logic.Iff
use mathlib.Core.Logic.{◌↔◌, ⊎_elim}
use mathlib.Core.Bool.{Bool, true}
use mathlib.Core.List.Memᴰ
use mathlib.Core.List.{List, [], ◌∷◌, ◌++◌, Memᴰ, nil≢cons, head-eq_of_cons-eq, tail-eq_of_cons-eq}
use Rattle.basics.specs.Lists.{all_in}
use Rattle.basics.proofs.Says.{and_says}

-- it holds of each element, whatever stands before it
abbrev Each : {A : Type 0} → (List A → A → Type 0) → List A → Type 0
Each {A} P xs = (front behind : List A) (x : A) → xs ≡ front ++ (x ∷ behind) → P behind x

module _ {A : Type 0} (P : List A → A → Type 0) where
  -- it holds where there is none
  pub each_none : Each P []
  each_none [] behind x q = absurd (nil≢cons q)
  each_none (y ∷ front) behind x q = absurd (nil≢cons q)

  -- of the head and of the tail
  pub each_cons : (y : A) (ys : List A) → Each P (y ∷ ys) ↔ (P ys y × Each P ys)
  each_cons y ys = (λ f. (f [] ys y refl, λ front behind x q. f (y ∷ front) behind x (ap (λ xs. y ∷ xs) q)), λ s. whole s.0 s.1)
    where
      whole : P ys y → Each P ys → Each P (y ∷ ys)
      whole p f [] behind x q = subst (λ (z : A). P behind z) (head-eq_of_cons-eq q) (subst (λ (xs : List A). P xs y) (tail-eq_of_cons-eq q) p)
      whole p f (z ∷ front) behind x q = f front behind x (tail-eq_of_cons-eq q)

module _ {A : Type 0} where
  -- of two statements that say the same of the elements of a list
  pub each_alike : (P Q : List A → A → Type 0) (xs : List A)
      → ((front behind : List A) (x : A) → xs ≡ front ++ (x ∷ behind) → P behind x ↔ Q behind x) → Each P xs ↔ Each Q xs
  each_alike P Q xs alike = (
    λ f front behind x q. (alike front behind x q).0 (f front behind x q),
    λ f front behind x q. (alike front behind x q).1 (f front behind x q),
  )

  -- of two parts, the first with the second behind it
  pub each_append : (P : List A → A → Type 0) (xs ys : List A) → Each P (xs ++ ys) ↔ (Each (λ behind x. P (behind ++ ys) x) xs × Each P ys)
  each_append P [] ys = (λ f. (each_none (λ behind x. P (behind ++ ys) x), f), λ s. s.1)
  each_append P (x ∷ xs) ys =
      let first = each_cons P x (xs ++ ys) in
      let rest = each_append P xs ys in
      let part = each_cons (λ behind y. P (behind ++ ys) y) x xs in (
        λ f. let s = first.0 f in let r = rest.0 s.1 in (part.1 (s.0, r.0), r.1),
        λ s. let r = part.0 s.0 in first.1 (r.0, rest.1 (r.1, s.1)),
      )

  -- a test of all elements
  pub each_test : (p : A → Bool) (Q : A → Type 0) → ((x : A) → (p x ≡ true) ↔ Q x) → (xs : List A) → (all_in p xs ≡ true) ↔ Each (λ behind x. Q x) xs
  unfolding all_in
  each_test p Q says [] = (λ t. each_none (λ behind x. Q x), λ f. refl)
  each_test p Q says (y ∷ ys) = Iff.trans (and_says (says y) (each_test p Q says ys)) (Iff.symm (each_cons (λ behind x. Q x) y ys))

-- ---- a statement of the elements alone

module _ {A : Type 0} (P : A → Type 0) where
  -- it holds where there is none, and with one more of which it holds
  pub every_none : (x : A) → Memᴰ x [] → P x
  every_none x m = absurd (Memᴰ.not-nil m)

  pub every_more : (y : A) (ys : List A) → P y → ((x : A) → Memᴰ x ys → P x) → (x : A) → Memᴰ x (y ∷ ys) → P x
  every_more y ys here rest x m = ⊎_elim (λ e. rw e here) (rest x) (Memᴰ.cases_cons m)
