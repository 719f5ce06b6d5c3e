-- Which of two numbers a list has earlier, and what a list that keeps a relation says of them. Assumes nothing.
use Prim.Native.Nat.{ℕ}
use mathlib.Core.Path.{◌≡◌, refl, sym, ◌∙◌, ap, subst}
use mathlib.Core.Logic.{◌⊎◌, ◌≢◌, inl, inr, ⊎_map}
use mathlib.Core.Bool.{Bool, true, false}
use mathlib.Core.List.{List, [], ◌∷◌, ◌++◌}
use Rattle.basics.specs.Lists.{member, keeps}
use Rattle.basics.proofs.Bools.{clash, or_left, or_right, equal_or_not}
use Rattle.basics.proofs.Lists.{member_nil, member_append, member_head, member_rest, member_tail, keeps_nil, keeps_cons, keeps_across}

-- the list has k earlier than m
pub record Earlier (order : List ℕ) (k m : ℕ) : Type 0 where
  pub before : List ℕ
  pub later : List ℕ
  pub split : order ≡ before ++ later
  pub first : member k before ≡ true
  pub second : member m later ≡ true

module _ (x : ℕ) (order : List ℕ) where
  -- the first one is earlier than the others, and the others stand as before
  earlier_first : (k m : ℕ) → k ≡ x → member m order ≡ true → Earlier (x ∷ order) k m
  earlier_first k m e h = record { before = x ∷ []; later = order; split = refl; first = member_head k x [] e; second = h }

  earlier_more : (k m : ℕ) → Earlier order k m → Earlier (x ∷ order) k m
  earlier_more k m e =
      record {
        before = x ∷ e.before;
        later = e.later;
        split = ap (λ xs. x ∷ xs) e.split;
        first = member_tail k x e.before e.first;
        second = e.second;
      }

-- both are listed
pub earlier_listed : (order : List ℕ) (k m : ℕ) → Earlier order k m → (member k order ≡ true) × (member m order ≡ true)
earlier_listed order k m e = (
  ap (member k) e.split ∙ member_append k e.before e.later ∙ or_left (member k e.before) (member k e.later) e.first,
  ap (member m) e.split ∙ member_append m e.before e.later ∙ or_right (member m e.before) (member m e.later) e.second,
)

-- of two that are listed, one is earlier
pub listed_apart : (order : List ℕ) (k m : ℕ) → k ≢ m → member k order ≡ true → member m order ≡ true → Earlier order k m ⊎ Earlier order m k
listed_apart [] k m other h i = absurd (clash h (member_nil k))
listed_apart (x ∷ order) k m other h i =
    equal_or_not k x (λ e. inl (earlier_first x order k m e (member_rest m x order (λ q. other (e ∙ sym q)) i))) λ nk.
    equal_or_not m x (λ e. inr (earlier_first x order m k e (member_rest k x order nk h))) λ nm.
    ⊎_map (earlier_more x order k m) (earlier_more x order m k)
    (listed_apart order k m other (member_rest k x order nk h) (member_rest m x order nm i))

module _ (stands : ℕ → ℕ → Bool) where
  -- a list keeps a relation exactly if nobody in it stands before one that is listed earlier
  pub keeps_of : (order : List ℕ) → ((k m : ℕ) → Earlier order m k → stands k m ≡ false) → keeps stands order ≡ true
  keeps_of [] f = keeps_nil stands
  keeps_of (x ∷ order) f =
      keeps_cons stands x order (λ k h. f k x (earlier_first x order x k refl h)) (keeps_of order (λ k m e. f k m (earlier_more x order m k e)))

  pub keeps_at : (order : List ℕ) (k m : ℕ) → keeps stands order ≡ true → Earlier order m k → stands k m ≡ false
  keeps_at order k m h e =
      keeps_across stands e.before e.later (subst (λ (xs : List ℕ). keeps stands xs ≡ true) e.split h) k m e.first e.second
