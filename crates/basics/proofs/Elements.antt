-- Elements of lists that are made by repeating, changing one or mapping. Assumes nothing.
use mathlib.Core.Path.{◌≡◌, refl, sym, ◌∙◌, ap, subst}
use mathlib.Core.Bool.{cond}
use mathlib.Core.List.{List, [], ◌∷◌, map}
use Prim.Native.Nat.{ℕ, zero, suc, ◌<◌}
use native.Mathlib.Nat.{not-suc-le-zero, le_of_suc-le-suc}
use lib.ListN.{length, get_or, set, replicate}
use lib.Seq.{get_or-set_same, get_or-set_other}
use lib.Dec.{eqb}
use borrow.Author.Tests.{eq-eqb, ne_eqb}
use Rattle.basics.proofs.Bools.{equal_or_not}

-- what holds of the element that is repeated, and of what stands past the end, holds of each element
pub get_or_replicate_all {ℓ κ} : {A : Type ℓ} (P : A → Type κ) (n i : ℕ) (a d : A) → P d → P a → P (get_or (replicate n a) i d)
get_or_replicate_all P zero i a d h k = h
get_or_replicate_all P (suc n) zero a d h k = k
get_or_replicate_all P (suc n) (suc i) a d h k = get_or_replicate_all P n i a d h k

-- so an element of n times a is a, and so is what stands past the end
pub get_or_replicate_same {ℓ} : {A : Type ℓ} (n i : ℕ) (a : A) → get_or (replicate n a) i a ≡ a
get_or_replicate_same n i a = get_or_replicate_all (λ x. x ≡ a) n i a a refl refl

-- what holds of the new element at its place, and of the old ones elsewhere, holds of each element of a list with one changed
pub get_or_set_all : {A : Type 0} (P : A → Type 0) (xs : List A) (c k : ℕ) (a d : A) → c < length xs → (c ≡ k → P a) → ((c ≡ k → ⊥) → P (get_or xs k d))
    → P (get_or (set xs c a) k d)
get_or_set_all P xs c k a d inside here other =
    equal_or_not c k
    (λ e. subst (λ (j : ℕ). P (get_or (set xs c a) j d)) e (subst P (sym (get_or-set_same xs c a d inside)) (here e)))
    (λ o. subst P (sym (get_or-set_other xs c k a d (λ e. o (sym e)))) (other o))

-- so what holds of each element stays so with one changed, if it holds of the new one
pub set_each {ℓ κ} : {A : Type ℓ} (P : A → Type κ) (xs : List A) (c : ℕ) (a d : A) → P a → ((k : ℕ) → P (get_or xs k d)) → (k : ℕ) → P (get_or (set xs c a) k d)
set_each P [] c a d here each k = each k
set_each P (x ∷ xs) zero a d here each zero = here
set_each P (x ∷ xs) zero a d here each (suc k) = each (suc k)
set_each P (x ∷ xs) (suc c) a d here each zero = each zero
set_each P (x ∷ xs) (suc c) a d here each (suc k) = set_each P xs c a d here (λ i. each (suc i)) k

-- an element of a list with one changed is the new one at its place, and the old one elsewhere
pub get_or_set {ℓ} : {A : Type ℓ} (xs : List A) (c k : ℕ) (a d : A) → k < length xs → get_or (set xs c a) k d ≡ cond (eqb k c) a (get_or xs k d)
get_or_set xs c k a d h =
    equal_or_not k c
    (λ q. rw (eq-eqb k c q) (ap (λ n. get_or (set xs n a) k d) (sym q) ∙ get_or-set_same xs k a d h))
    (λ q. rw (ne_eqb k c q) (get_or-set_other xs c k a d q))

-- what holds of each image, and of what stands past the end, holds of each element of a mapped list
pub get_or_map_all {ℓ} : {A B : Type ℓ} (P : B → Type 0) (f : A → B) (l : List A) (i : ℕ) (d : B) → P d → ((a : A) → P (f a)) → P (get_or (map f l) i d)
get_or_map_all P f [] i d p q = p
get_or_map_all P f (x ∷ xs) zero d p q = q x
get_or_map_all P f (x ∷ xs) (suc i) d p q = get_or_map_all P f xs i d p q

-- an element of a mapped list, whatever stands for the elements past the end
pub get_or_map_within {ℓ κ} : {A : Type ℓ} {B : Type κ} (f : A → B) (l : List A) (i : ℕ) (a : A) (b : B) → i < length l → get_or (map f l) i b ≡ f (get_or l i a)
get_or_map_within f [] i a b h = absurd (not-suc-le-zero h)
get_or_map_within f (x ∷ xs) zero a b h = refl
get_or_map_within f (x ∷ xs) (suc i) a b h = get_or_map_within f xs i a b (le_of_suc-le-suc h)
