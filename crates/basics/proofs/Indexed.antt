-- A list by its positions: who stands in it, what it means there that none stands twice, and what it means there to keep a relation.
-- Assumes nothing.
use Prim.Native.Nat.{ℕ, zero, suc, ◌<◌, suc-le-suc}
use mathlib.Core.Path.{◌≡◌, refl, sym, ◌∙◌, ap, subst}
use mathlib.Core.Logic.{⊎_elim}
use mathlib.Core.Bool.{Bool, true, false}
use mathlib.Core.List.{List, [], ◌∷◌}
use native.Mathlib.Nat.{not-suc-le-zero, le_of_suc-le-suc, zero-lt-suc}
use native.Mathlib.Omega.{arith}
use lib.ListN.{length, get_or}
use lib.Dec.{eqb}
use borrow.Author.Tests.{eqb-true, eq-eqb, ne_eqb}
use Rattle.basics.specs.Below.{all_below, least_below}
use Rattle.basics.specs.Lists.{all_in, member, distinct, keeps}
use Rattle.basics.proofs.Bools.{clash, false_of_not, same_tests}
use Rattle.basics.proofs.Below.{all_at, all_of}
use Rattle.basics.proofs.Search.{least_found}
use Rattle.basics.proofs.Lists.{all_in_at, all_in_of, member_of, member_at, member_nil, member_head, member_tail, member_cases, keeps_nil, keeps_cons, keeps_head, keeps_tail, distinct_nil, distinct_cons, distinct_head, distinct_tail}

-- who stands at a position is a member, and each member stands at one
pub member_there : (xs : List ℕ) (i : ℕ) → i < length xs → member (get_or xs i 0) xs ≡ true
member_there [] i h = absurd (not-suc-le-zero h)
member_there (x ∷ xs) zero h = member_head x x xs refl
member_there (x ∷ xs) (suc i) h = member_tail (get_or xs i 0) x xs (member_there xs i (le_of_suc-le-suc h))

pub member_index : (xs : List ℕ) (k : ℕ) → member k xs ≡ true → (i : ℕ) × (i < length xs) × (get_or xs i 0 ≡ k)
member_index [] k m = absurd (clash m (member_nil k))
member_index (x ∷ xs) k m =
    ⊎_elim (λ q. (0, zero-lt-suc (length xs), sym q)) (λ j. let r = member_index xs k j in (suc r.0, suc-le-suc r.1, r.2))
    (member_cases k x xs m)

-- in a list without repeats two positions have two numbers
pub distinct_there : (xs : List ℕ) → distinct xs ≡ true → (i j : ℕ) → i < length xs → j < length xs → get_or xs i 0 ≡ get_or xs j 0 → i ≡ j
distinct_there [] d i j h k q = absurd (not-suc-le-zero h)
distinct_there (x ∷ xs) d zero zero h k q = refl
distinct_there (x ∷ xs) d zero (suc j) h k q =
    absurd (clash (subst (λ (n : ℕ). member n xs ≡ true) (sym q) (member_there xs j (le_of_suc-le-suc k))) (distinct_head x xs d))
distinct_there (x ∷ xs) d (suc i) zero h k q =
    absurd (clash (subst (λ (n : ℕ). member n xs ≡ true) q (member_there xs i (le_of_suc-le-suc h))) (distinct_head x xs d))
distinct_there (x ∷ xs) d (suc i) (suc j) h k q =
    ap suc (distinct_there xs (distinct_tail x xs d) i j (le_of_suc-le-suc h) (le_of_suc-le-suc k) q)

-- numbers at two positions differ
abbrev Differ : List ℕ → Type 0
Differ xs = (i j : ℕ) → i < j → j < length xs → get_or xs i 0 ≡ get_or xs j 0 → ⊥

-- a list is without repeats exactly if its numbers differ
distinct_differ : (xs : List ℕ) → distinct xs ≡ true → Differ xs
distinct_differ xs e i j h k q = omega (arith, distinct_there xs e i j (omega arith) k q)

differ_distinct : (xs : List ℕ) → Differ xs → distinct xs ≡ true
differ_distinct [] d = distinct_nil
differ_distinct (x ∷ xs) d =
    distinct_cons x xs
    (false_of_not (member x xs) (λ m. let r = member_index xs x m in d 0 (suc r.0) (omega arith) (omega arith) (sym r.2)))
    (differ_distinct xs (λ i j h k. d (suc i) (suc j) (omega arith) (omega arith)))

-- where a number first stands in a list; the list's length if it does not
abbrev first_place : List ℕ → ℕ → ℕ
first_place xs k = least_below (λ j. eqb (get_or xs j 0) k) (length xs)

-- each is first where it stands
abbrev pub is_first : List ℕ → ℕ → Bool
is_first xs i = eqb (first_place xs (get_or xs i 0)) i

-- each is first exactly if they differ
differ_first : (xs : List ℕ) → Differ xs → (i : ℕ) → i < length xs → first_place xs (get_or xs i 0) ≡ i
differ_first xs d i h =
    least_found (λ j. eqb (get_or xs j 0) (get_or xs i 0)) (length xs) i h (eq-eqb (get_or xs i 0) (get_or xs i 0) refl)
    (λ j k. ne_eqb (get_or xs j 0) (get_or xs i 0) (d j i k h))

first_differ : (xs : List ℕ) → ((i : ℕ) → i < length xs → first_place xs (get_or xs i 0) ≡ i) → Differ xs
first_differ xs f i j h k q =
    let same : i ≡ j = sym (f i (omega arith)) ∙ ap (first_place xs) q ∙ f j k in
    omega arith

-- so the list is without repeats exactly if each is first
pub distinct_firsts : (xs : List ℕ) → distinct xs ≡ all_below (is_first xs) (length xs)
distinct_firsts xs =
    same_tests (distinct xs) (all_below (is_first xs) (length xs))
    (λ e. all_of (is_first xs) (length xs) (λ i h. eq-eqb (first_place xs (get_or xs i 0)) i (differ_first xs (distinct_differ xs e) i h)))
    (λ e. differ_distinct xs (first_differ xs (λ i h. eqb-true (first_place xs (get_or xs i 0)) i (all_at (is_first xs) (length xs) e i h))))

-- each member passes exactly if each does by position
pub all_in_below : (p : ℕ → Bool) (xs : List ℕ) → all_in p xs ≡ all_below (λ i. p (get_or xs i 0)) (length xs)
all_in_below p xs =
    same_tests (all_in p xs) (all_below (λ i. p (get_or xs i 0)) (length xs))
    (λ a. all_of (λ i. p (get_or xs i 0)) (length xs) (λ i h. all_in_at p xs a (member_at (get_or xs i 0) xs (member_there xs i h))))
    (λ b. all_in_of p xs (λ k m.
    let r = member_index xs k (member_of k xs m) in
    subst (λ (n : ℕ). p n ≡ true) r.2 (all_at (λ i. p (get_or xs i 0)) (length xs) b r.0 r.1)))

-- a list keeps a relation exactly if nobody stands before one at an earlier position
pub keeps_there : (before : ℕ → ℕ → Bool) (xs : List ℕ) → keeps before xs ≡ true → (i j : ℕ) → i < j → j < length xs
    → before (get_or xs j 0) (get_or xs i 0) ≡ false
keeps_there before [] e i j h k = absurd (not-suc-le-zero k)
keeps_there before (x ∷ xs) e i zero h k = absurd (not-suc-le-zero h)
keeps_there before (x ∷ xs) e zero (suc j) h k = keeps_head before x xs e (get_or xs j 0) (member_there xs j (le_of_suc-le-suc k))
keeps_there before (x ∷ xs) e (suc i) (suc j) h k =
    keeps_there before xs (keeps_tail before x xs e) i j (le_of_suc-le-suc h) (le_of_suc-le-suc k)

pub keeps_by : (before : ℕ → ℕ → Bool) (xs : List ℕ) → ((i j : ℕ) → i < j → j < length xs → before (get_or xs j 0) (get_or xs i 0) ≡ false)
    → keeps before xs ≡ true
keeps_by before [] h = keeps_nil before
keeps_by before (x ∷ xs) h =
    keeps_cons before x xs
    (λ k m.
    let r = member_index xs k m in
    subst (λ (n : ℕ). before n x ≡ false) r.2 (h 0 (suc r.0) (zero-lt-suc r.0) (suc-le-suc r.1)))
    (keeps_by before xs (λ i j a b. h (suc i) (suc j) (suc-le-suc a) (suc-le-suc b)))
