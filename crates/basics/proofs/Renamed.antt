-- Lists under other names: what holds of the numbers of a list holds of their names, where each is named by a function. Assumes nothing.
use Prim.Native.Nat.{ℕ}
use mathlib.Core.Path.{◌≡◌, refl, sym, ap, subst}
use mathlib.Core.Logic.{⊎_elim}
use mathlib.Core.Bool.{Bool, true, false}
use mathlib.Core.List.{List, [], ◌∷◌, map}
use Rattle.basics.specs.Lists.{member, distinct, keeps}
use Rattle.basics.proofs.Bools.{clash, false_of_not}
use Rattle.basics.proofs.Lists.{member_nil, member_head, member_tail, member_cases, keeps_nil, keeps_cons, keeps_head, keeps_tail, distinct_nil, distinct_cons, distinct_head, distinct_tail}

module _ (name : ℕ → ℕ) where
  -- the name of a member stands among the names, and what stands there is the name of a member
  pub names_of : (xs : List ℕ) (x : ℕ) → member x xs ≡ true → member (name x) (map name xs) ≡ true
  names_of [] x i = absurd (clash i (member_nil x))
  names_of (y ∷ xs) x i =
      ⊎_elim (λ q. member_head (name x) (name y) (map name xs) (ap name q)) (λ k. member_tail (name x) (name y) (map name xs) (names_of xs x k))
      (member_cases x y xs i)

  pub names_at : (xs : List ℕ) (n : ℕ) → member n (map name xs) ≡ true → (x : ℕ) × (member x xs ≡ true) × (name x ≡ n)
  names_at [] n i = absurd (clash i (member_nil n))
  names_at (y ∷ xs) n i =
      ⊎_elim (λ q. (y, member_head y y xs refl, sym q)) (λ k. let x = names_at xs n k in (x.0, member_tail x.0 y xs x.1, x.2))
      (member_cases n (name y) (map name xs) i)

  -- names of members without repeats are without repeats, if members with one name are one
  pub names_distinct : (xs : List ℕ) → distinct xs ≡ true → ((j k : ℕ) → member j xs ≡ true → member k xs ≡ true → name j ≡ name k → j ≡ k)
      → distinct (map name xs) ≡ true
  names_distinct [] d h = distinct_nil
  names_distinct (y ∷ xs) d h =
      distinct_cons (name y) (map name xs)
      (false_of_not _ (λ i.
      let x = names_at xs (name y) i in
      let same : x.0 ≡ y = h x.0 y (member_tail x.0 y xs x.1) (member_head y y xs refl) x.2 in
      clash (subst (λ (k : ℕ). member k xs ≡ true) same x.1) (distinct_head y xs d)))
      (names_distinct xs (distinct_tail y xs d) (λ j k m n. h j k (member_tail j y xs m) (member_tail k y xs n)))

  -- names keep a relation that members keep by their names
  pub names_keep : (before : ℕ → ℕ → Bool) (xs : List ℕ) → keeps (λ k m. before (name k) (name m)) xs ≡ true → keeps before (map name xs) ≡ true
  names_keep before [] h = keeps_nil before
  names_keep before (y ∷ xs) h =
      keeps_cons before (name y) (map name xs)
      (λ n i.
      let x = names_at xs n i in
      subst (λ (k : ℕ). before k (name y) ≡ false) x.2 (keeps_head (λ k m. before (name k) (name m)) y xs h x.0 x.1))
      (names_keep before xs (keeps_tail (λ k m. before (name k) (name m)) y xs h))
