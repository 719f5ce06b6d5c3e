-- Laws of the tests on lists: what each says of the members, how it goes over an append, what a list that keeps a relation orders,
-- and how long a list without repeats can be. Assumes nothing.
use mathlib.Core.Path.{◌≡◌, refl, sym, ◌∙◌, ap, ap₂, subst}
use mathlib.Core.Logic.{◌⊎◌, inl, inr, ⊎_elim}
use mathlib.Core.Bool.{Bool, true, false, not, cond, ◌&&◌, ◌||◌, false≢true, or_assoc}
use mathlib.Core.List.{List, [], ◌∷◌, ◌++◌, map, Memᴰ}
use Prim.Native.Nat.{ℕ, suc, ◌+◌, ◌<◌, ◌≤◌, suc-le-suc}
use lib.ListN.{length, drop, length-append}
use lib.Seq.{drop_at}
use native.Mathlib.Omega.{arith}
use lib.Dec.{eqb}
use borrow.Author.Tests.{eqb-true, eq-eqb, ne_eqb, not-true}
use Rattle.basics.specs.Below.{count_below}
use Rattle.basics.specs.Lists.{all_in, any_in, member, distinct, keeps}
use Rattle.basics.proofs.Bools.{clash, false_of_not, and_left, and_right, and_both, or_true, or_left, or_right, or_fails, equal_or_not}
use Rattle.basics.proofs.Below.{count_at_most, count_lt}

-- four tests of which one passes, in two orders
or_pairs : (a b c d : Bool) → (a || b) || (c || d) ≡ (a || c) || (b || d)
or_pairs true b c d = refl
or_pairs false true true d = refl
or_pairs false true false d = refl
or_pairs false false c d = refl

module _ {ℓ} {A : Type ℓ} (p : A → Bool) where
  -- each member passes
  pub all_in_at : (xs : List A) → all_in p xs ≡ true → {x : A} → Memᴰ x xs → p x ≡ true
  unfolding all_in
  all_in_at [] e m = elim m [ ]
  all_in_at (y ∷ ys) e (Memᴰ.head q) = ap p q ∙ and_left (p y) (all_in p ys) e
  all_in_at (y ∷ ys) e (Memᴰ.tail m) = all_in_at ys (and_right (p y) (all_in p ys) e) m

  pub all_in_of : (xs : List A) → ((x : A) → Memᴰ x xs → p x ≡ true) → all_in p xs ≡ true
  unfolding all_in
  all_in_of [] h = refl
  all_in_of (y ∷ ys) h = and_both (p y) (all_in p ys) (h y (Memᴰ.head refl)) (all_in_of ys (λ x m. h x (Memᴰ.tail m)))

  -- some member passes
  pub any_in_of : (xs : List A) {x : A} → Memᴰ x xs → p x ≡ true → any_in p xs ≡ true
  unfolding any_in
  any_in_of [] m e = elim m [ ]
  any_in_of (y ∷ ys) (Memᴰ.head q) e = or_left (p y) (any_in p ys) (sym (ap p q) ∙ e)
  any_in_of (y ∷ ys) (Memᴰ.tail m) e = or_right (p y) (any_in p ys) (any_in_of ys m e)

  pub any_in_at : (xs : List A) → any_in p xs ≡ true → (x : A) × Memᴰ x xs × (p x ≡ true)
  unfolding any_in
  any_in_at [] e = absurd (false≢true e)
  any_in_at (y ∷ ys) e =
      ⊎_elim (λ t. (y, Memᴰ.head refl, t)) (λ t. let r = any_in_at ys t in (r.0, Memᴰ.tail r.1, r.2))
      (or_true (p y) (any_in p ys) e)

  pub any_in_fails : (xs : List A) → ((x : A) → Memᴰ x xs → p x ≡ false) → any_in p xs ≡ false
  any_in_fails xs h = false_of_not (any_in p xs) (λ e. let r = any_in_at xs e in clash r.2 (h r.0 r.1))

  pub any_in_false : (xs : List A) → any_in p xs ≡ false → {x : A} → Memᴰ x xs → p x ≡ false
  any_in_false xs e {x} m = false_of_not (p x) (λ t. clash (any_in_of xs m t) e)

  pub any_in_append : (xs ys : List A) → any_in p (xs ++ ys) ≡ any_in p xs || any_in p ys
  unfolding any_in
  any_in_append [] ys = refl
  any_in_append (x ∷ xs) ys = ap (λ b. p x || b) (any_in_append xs ys) ∙ sym (or_assoc (p x) (any_in p xs) (any_in p ys))

-- tests that agree on the members give one answer
module _ {ℓ} {A : Type ℓ} (p q : A → Bool) where
  pub all_in_cong : (xs : List A) → ((x : A) → Memᴰ x xs → p x ≡ q x) → all_in p xs ≡ all_in q xs
  unfolding all_in
  all_in_cong [] h = refl
  all_in_cong (x ∷ xs) h = ap₂ ◌&&◌ (h x (Memᴰ.head refl)) (all_in_cong xs (λ y m. h y (Memᴰ.tail m)))

  pub any_in_cong : (xs : List A) → ((x : A) → Memᴰ x xs → p x ≡ q x) → any_in p xs ≡ any_in q xs
  unfolding any_in
  any_in_cong [] h = refl
  any_in_cong (x ∷ xs) h = ap₂ ◌||◌ (h x (Memᴰ.head refl)) (any_in_cong xs (λ y m. h y (Memᴰ.tail m)))

  -- some member passes one of two tests
  pub any_in_or : (xs : List A) → any_in (λ x. p x || q x) xs ≡ any_in p xs || any_in q xs
  unfolding any_in
  any_in_or [] = refl
  any_in_or (x ∷ xs) = rw (any_in_or xs) (or_pairs (p x) (q x) (any_in p xs) (any_in q xs))

module _ (k : ℕ) where
  -- to stand in a list is to be a member
  pub member_of : (xs : List ℕ) → Memᴰ k xs → member k xs ≡ true
  unfolding member any_in
  member_of xs m = any_in_of (eqb k) xs m (eq-eqb k k refl)

  pub member_at : (xs : List ℕ) → member k xs ≡ true → Memᴰ k xs
  unfolding member any_in
  member_at (x ∷ xs) e = ⊎_elim (λ t. Memᴰ.head (eqb-true k x t)) (λ t. Memᴰ.tail (member_at xs t)) (or_true (eqb k x) (member k xs) e)
  member_at [] e = absurd (false≢true e)

  pub member_append : (xs ys : List ℕ) → member k (xs ++ ys) ≡ member k xs || member k ys
  unfolding member any_in
  member_append = any_in_append (eqb k)

  -- in a list with a head
  pub member_nil : member k [] ≡ false
  unfolding member any_in
  member_nil = refl

  pub member_cons : (x : ℕ) (xs : List ℕ) → member k (x ∷ xs) ≡ eqb k x || member k xs
  unfolding member any_in
  member_cons x xs = refl

  pub member_head : (x : ℕ) (xs : List ℕ) → k ≡ x → member k (x ∷ xs) ≡ true
  member_head x xs q = member_cons x xs ∙ or_left (eqb k x) (member k xs) (eq-eqb k x q)

  pub member_tail : (x : ℕ) (xs : List ℕ) → member k xs ≡ true → member k (x ∷ xs) ≡ true
  member_tail x xs e = member_cons x xs ∙ or_right (eqb k x) (member k xs) e

  pub member_cases : (x : ℕ) (xs : List ℕ) → member k (x ∷ xs) ≡ true → (k ≡ x) ⊎ (member k xs ≡ true)
  member_cases x xs e = ⊎_elim (λ t. inl (eqb-true k x t)) inr (or_true (eqb k x) (member k xs) (sym (member_cons x xs) ∙ e))

  pub member_rest : (x : ℕ) (xs : List ℕ) → (k ≡ x → ⊥) → member k (x ∷ xs) ≡ true → member k xs ≡ true
  member_rest x xs d e = ⊎_elim (λ q. absurd (d q)) (λ i. i) (member_cases x xs e)

  pub member_neither : (x : ℕ) (xs : List ℕ) → (k ≡ x → ⊥) → member k xs ≡ false → member k (x ∷ xs) ≡ false
  member_neither x xs q e = member_cons x xs ∙ or_fails (eqb k x) (member k xs) (ne_eqb k x q) e

-- the place where a number first stands in a list
unfoldable pub place : ℕ → List ℕ → ℕ
place k [] = 0
place k (x ∷ xs) = cond (eqb k x) 0 (suc (place k xs))

pub place_head : (k x : ℕ) (xs : List ℕ) → k ≡ x → place k (x ∷ xs) ≡ 0
unfolding place
place_head k x xs q = rw (eq-eqb k x q)

pub place_tail : (k x : ℕ) (xs : List ℕ) → (k ≡ x → ⊥) → place k (x ∷ xs) ≡ suc (place k xs)
unfolding place
place_tail k x xs q = rw (ne_eqb k x q)

module _ (before : ℕ → ℕ → Bool) where
  -- a list keeps a relation if its tail does, and nobody in the tail stands before the head
  pub keeps_nil : keeps before [] ≡ true
  unfolding keeps
  keeps_nil = refl

  pub keeps_cons : (m : ℕ) (xs : List ℕ) → ((k : ℕ) → member k xs ≡ true → before k m ≡ false) → keeps before xs ≡ true
      → keeps before (m ∷ xs) ≡ true
  unfolding keeps
  keeps_cons m xs h e = rw (any_in_fails (λ k. before k m) xs (λ k i. h k (member_of k xs i))) e

  pub keeps_head : (m : ℕ) (xs : List ℕ) → keeps before (m ∷ xs) ≡ true → (k : ℕ) → member k xs ≡ true → before k m ≡ false
  unfolding keeps
  keeps_head m xs e k i =
      any_in_false (λ j. before j m) xs (not-true (any_in (λ j. before j m) xs) (and_left (not (any_in (λ j. before j m) xs)) (keeps before xs) e)) (member_at k xs i)

  pub keeps_tail : (m : ℕ) (xs : List ℕ) → keeps before (m ∷ xs) ≡ true → keeps before xs ≡ true
  unfolding keeps
  keeps_tail m xs e = and_right (not (any_in (λ k. before k m) xs)) (keeps before xs) e

  -- of two parts: nobody in the second stands before one in the first, and where it is so two parts that keep it keep it together
  pub keeps_across : (xs ys : List ℕ) → keeps before (xs ++ ys) ≡ true → (k m : ℕ) → member m xs ≡ true → member k ys ≡ true → before k m ≡ false
  keeps_across [] ys e k m i j = absurd (clash i (member_nil m))
  keeps_across (x ∷ xs) ys e k m i j =
      ⊎_elim
      (λ q. ap (before k) q ∙ keeps_head x (xs ++ ys) e k (member_append k xs ys ∙ or_right (member k xs) (member k ys) j))
      (λ i'. keeps_across xs ys (keeps_tail x (xs ++ ys) e) k m i' j)
      (member_cases m x xs i)

  pub keeps_append : (xs ys : List ℕ) → keeps before xs ≡ true → keeps before ys ≡ true
      → ((k m : ℕ) → member m xs ≡ true → member k ys ≡ true → before k m ≡ false) → keeps before (xs ++ ys) ≡ true
  keeps_append [] ys a b h = b
  keeps_append (x ∷ xs) ys a b h =
      keeps_cons x (xs ++ ys)
      (λ k i. ⊎_elim (keeps_head x xs a k) (h k x (member_head x x xs refl)) (or_true (member k xs) (member k ys) (sym (member_append k xs ys) ∙ i)))
      (keeps_append xs ys (keeps_tail x xs a) b (λ k m i. h k m (member_tail m x xs i)))

  -- of two that are listed, the one that stands before the other comes first
  pub keeps_places : (xs : List ℕ) → keeps before xs ≡ true → (k m : ℕ) → member k xs ≡ true → member m xs ≡ true → before k m ≡ true
      → (k ≡ m → ⊥) → place k xs < place m xs
  keeps_places [] e k m i j b d = absurd (clash i (member_nil k))
  keeps_places (x ∷ xs) e k m i j b d =
      equal_or_not k x
      (λ q. rw (place_head k x xs q, place_tail m x xs (λ r. d (q ∙ sym r))) (omega arith))
      (λ q.
      let i' = member_rest k x xs q i in
      equal_or_not m x (λ r. absurd (clash b (ap (before k) r ∙ keeps_head x xs e k i')))
      (λ r. rw (place_tail k x xs q, place_tail m x xs r) (suc-le-suc (keeps_places xs (keeps_tail x xs e) k m i' (member_rest m x xs r j) b d))))

-- relations that agree on the members are kept alike
pub keeps_cong : (before before' : ℕ → ℕ → Bool) (xs : List ℕ)
    → ((k m : ℕ) → member k xs ≡ true → member m xs ≡ true → before k m ≡ before' k m) → keeps before xs ≡ keeps before' xs
unfolding keeps
keeps_cong before before' [] h = refl
keeps_cong before before' (x ∷ xs) h =
    ap₂ (λ a b. not a && b)
    (any_in_cong (λ k. before k x) (λ k. before' k x) xs (λ k i. h k x (member_tail k x xs (member_of k xs i)) (member_head x x xs refl)))
    (keeps_cong before before' xs (λ k m i j. h k m (member_tail k x xs i) (member_tail m x xs j)))

-- a relation that holds of nobody is kept
pub keeps_nobody : (before : ℕ → ℕ → Bool) (xs : List ℕ) → ((k m : ℕ) → before k m ≡ false) → keeps before xs ≡ true
keeps_nobody before [] h = keeps_nil before
keeps_nobody before (x ∷ xs) h = keeps_cons before x xs (λ k i. h k x) (keeps_nobody before xs h)

-- one of two relations is kept exactly if both are
and_pairs : (a b c d : Bool) → not (a || b) && (c && d) ≡ (not a && c) && (not b && d)
and_pairs true b c d = refl
and_pairs false true true d = refl
and_pairs false true false d = refl
and_pairs false false c d = refl

pub keeps_or : (p q : ℕ → ℕ → Bool) (xs : List ℕ) → keeps (λ k m. p k m || q k m) xs ≡ keeps p xs && keeps q xs
unfolding keeps
keeps_or p q [] = refl
keeps_or p q (x ∷ xs) =
    rw (any_in_or (λ k. p k x) (λ k. q k x) xs, keeps_or p q xs)
    (and_pairs (any_in (λ k. p k x) xs) (any_in (λ k. q k x) xs) (keeps p xs) (keeps q xs))

-- no number stands in the list twice: the list keeps equality
distinct_is_keeps : (xs : List ℕ) → distinct xs ≡ keeps (λ k m. eqb m k) xs
unfolding distinct keeps member
distinct_is_keeps [] = refl
distinct_is_keeps (x ∷ xs) = ap (λ b. not (member x xs) && b) (distinct_is_keeps xs)

-- the head does not stand in the tail
pub distinct_nil : distinct [] ≡ true
unfolding distinct
distinct_nil = refl

pub distinct_cons : (x : ℕ) (xs : List ℕ) → member x xs ≡ false → distinct xs ≡ true → distinct (x ∷ xs) ≡ true
unfolding distinct
distinct_cons x xs h e = rw h e

pub distinct_head : (x : ℕ) (xs : List ℕ) → distinct (x ∷ xs) ≡ true → member x xs ≡ false
unfolding distinct
distinct_head x xs e = not-true (member x xs) (and_left (not (member x xs)) (distinct xs) e)

pub distinct_tail : (x : ℕ) (xs : List ℕ) → distinct (x ∷ xs) ≡ true → distinct xs ≡ true
unfolding distinct
distinct_tail x xs e = and_right (not (member x xs)) (distinct xs) e

-- relations that agree on numbers that differ are kept alike by such a list
pub distinct_keeps_cong : (before before' : ℕ → ℕ → Bool) (xs : List ℕ) → distinct xs ≡ true
    → ((k m : ℕ) → (k ≡ m → ⊥) → before k m ≡ before' k m) → keeps before xs ≡ keeps before' xs
unfolding keeps
distinct_keeps_cong before before' [] d h = refl
distinct_keeps_cong before before' (x ∷ xs) d h =
    ap₂ (λ a b. not a && b) (any_in_cong (λ k. before k x) (λ k. before' k x) xs (λ k i. h k x (differs k i)))
    (distinct_keeps_cong before before' xs (distinct_tail x xs d) h)
  where
    differs : (k : ℕ) → Memᴰ k xs → k ≡ x → ⊥
    differs k i q = clash (subst (λ (j : ℕ). member j xs ≡ true) q (member_of k xs i)) (distinct_head x xs d)

-- two parts that are distinct, and share nobody
pub distinct_append : (xs ys : List ℕ) → distinct xs ≡ true → distinct ys ≡ true → ((k : ℕ) → member k xs ≡ true → member k ys ≡ false) → distinct (xs ++ ys) ≡ true
distinct_append xs ys a b h =
    distinct_is_keeps (xs ++ ys)
    ∙ keeps_append (λ k m. eqb m k) xs ys (sym (distinct_is_keeps xs) ∙ a) (sym (distinct_is_keeps ys) ∙ b)
    (λ k m i j. ne_eqb m k (λ q. clash j (h k (subst (λ (n : ℕ). member n xs ≡ true) q i))))

-- numbers without repeats that are all taken by a function below a limit are no more than the limit
module _ (f : ℕ → ℕ) (n : ℕ) where
  abbrev Reached : List ℕ → Type 0
  Reached xs = (x : ℕ) → member x xs ≡ true → (i : ℕ) × (i < n) × (f i ≡ x)

  distinct_counted : (xs : List ℕ) → distinct xs ≡ true → Reached xs → length xs ≤ count_below (λ i. member (f i) xs) n
  distinct_counted [] e h = omega arith
  distinct_counted (x ∷ xs) e h =
      let rest = distinct_counted xs (distinct_tail x xs e) (λ y m. h y (member_tail y x xs m)) in
      let at = h x (member_head x x xs refl) in
      let more = count_lt (λ i. member (f i) xs) (λ i. member (f i) (x ∷ xs)) n (λ i k m. member_tail (f i) x xs m) at.0 at.1
      (ap (λ y. member y xs) at.2 ∙ distinct_head x xs e) (member_head (f at.0) x xs at.2) in
      omega arith

  pub distinct_few : (xs : List ℕ) → distinct xs ≡ true → Reached xs → length xs ≤ n
  distinct_few xs e h = omega (arith, distinct_counted xs e h, count_at_most (λ i. member (f i) xs) n)

-- of one list, two ends of the same length are the same
pub same_end {ℓ} : {A : Type ℓ} (xs us ys vs : List A) → length us ≡ length vs → xs ++ us ≡ ys ++ vs → us ≡ vs
same_end xs us ys vs l e =
    let whole : length xs + length us ≡ length ys + length vs = sym (length-append xs us) ∙ ap length e ∙ length-append ys vs in
    sym (drop_at xs us (length xs) (omega arith)) ∙ ap (drop (length xs)) e ∙ drop_at ys vs (length xs) (omega arith)

-- two functions that agree on the numbers of a list map it to the same
pub map_agrees : (f g : ℕ → ℕ) (xs : List ℕ) → ((k : ℕ) → member k xs ≡ true → f k ≡ g k) → map f xs ≡ map g xs
map_agrees f g [] h = refl
map_agrees f g (x ∷ xs) h = ap₂ (λ (y : ℕ) (ys : List ℕ). y ∷ ys) (h x (member_head x x xs refl)) (map_agrees f g xs (λ k m. h k (member_tail k x xs m)))
