-- Tests on lists.
use Rattle.std.specs.Prelude.{ℕ, Bool, true, false, not, ◌&&◌, ◌||◌, List, [], ◌∷◌, eqb}

-- each element passes
unfoldable pub all_in {ℓ} : {A : Type ℓ} → (A → Bool) → List A → Bool
all_in p [] = true
all_in p (x ∷ xs) = p x && all_in p xs

-- some element passes
unfoldable pub any_in {ℓ} : {A : Type ℓ} → (A → Bool) → List A → Bool
any_in p [] = false
any_in p (x ∷ xs) = p x || any_in p xs

-- the number stands in the list
unfoldable pub member : ℕ → List ℕ → Bool
member n xs = any_in (eqb n) xs

-- no number stands in the list twice
unfoldable pub distinct : List ℕ → Bool
distinct [] = true
distinct (x ∷ xs) = not (member x xs) && distinct xs

-- the list keeps a relation: nobody in it stands before one that is listed earlier
unfoldable pub keeps : (ℕ → ℕ → Bool) → List ℕ → Bool
keeps before [] = true
keeps before (m ∷ later) = not (any_in (λ k. before k m) later) && keeps before later
