-- Tests: how a Boolean is taken apart and made, and the two cases of a place below one more. Assumes nothing.
use mathlib.Core.Path.{◌≡◌, refl, sym, ◌∙◌}
use mathlib.Core.Logic.{◌⊎◌, inl, inr}
use mathlib.Core.Bool.{Bool, true, false, not, cond, ◌&&◌, ◌||◌, true≢false, false≢true}
use Prim.Native.Nat.{ℕ, suc, ◌<◌}
use native.Mathlib.Decide.{dec_lt, ℕ_discrete}
use native.Mathlib.Omega.{arith}
use lib.Dec.{eqb}
use borrow.Author.Tests.{eq-eqb, ne_eqb}

-- a test passes or fails
pub split {ℓ} : {X : Type ℓ} (b : Bool) → (b ≡ true → X) → (b ≡ false → X) → X
split true yes_case no_case = yes_case refl
split false yes_case no_case = no_case refl

-- no test both passes and fails
pub clash : {b : Bool} → b ≡ true → b ≡ false → ⊥
clash p q = true≢false (sym p ∙ q)

-- nothing that fails passes
pub never {ℓ} : {X : Type ℓ} → false ≡ true → X
never e = absurd (false≢true e)

-- what does not pass fails, and what does not fail passes
pub false_of_not : (b : Bool) → (b ≡ true → ⊥) → b ≡ false
false_of_not b h = split b (λ e. absurd (h e)) (λ e. e)

pub true_of_not : (b : Bool) → (b ≡ false → ⊥) → b ≡ true
true_of_not b h = split b (λ e. e) (λ e. absurd (h e))

-- two tests that pass together are one
pub same_tests : (a b : Bool) → (a ≡ true → b ≡ true) → (b ≡ true → a ≡ true) → a ≡ b
same_tests true b f g = sym (f refl)
same_tests false true f g = g refl
same_tests false false f g = refl

-- both of two tests
pub and_left : (a b : Bool) → a && b ≡ true → a ≡ true
and_left true b e = refl
and_left false b e = e

pub and_right : (a b : Bool) → a && b ≡ true → b ≡ true
and_right true b e = e
and_right false b e = absurd (false≢true e)

pub and_both : (a b : Bool) → a ≡ true → b ≡ true → a && b ≡ true
and_both true b p q = q
and_both false b p q = p

pub and_fails_left : (a b : Bool) → a ≡ false → a && b ≡ false
and_fails_left true b e = absurd (true≢false e)
and_fails_left false b e = refl

pub and_fails_right : (a b : Bool) → b ≡ false → a && b ≡ false
and_fails_right true b e = e
and_fails_right false b e = refl

-- tests that are asked together may be asked in another order
pub and_swap : (a b c : Bool) → a && (b && c) ≡ b && (a && c)
and_swap true b c = refl
and_swap false true c = refl
and_swap false false c = refl

pub and_across : (a b c d : Bool) → (a && b) && (c && d) ≡ (a && c) && (b && d)
and_across true b c d = and_swap b c d
and_across false b c d = refl

-- the second matters only where the first passes
pub and_when : (a : Bool) {b c : Bool} → (a ≡ true → b ≡ c) → a && b ≡ a && c
and_when true h = h refl
and_when false h = refl

-- a test asked with one of two others
pub and_or : (a b c : Bool) → a && (b || c) ≡ (a && b) || (a && c)
and_or true b c = refl
and_or false b c = refl

-- of two tests that do not both pass, one fails
pub and_false : (a b : Bool) → a && b ≡ false → (a ≡ false) ⊎ (b ≡ false)
and_false true b e = inr e
and_false false b e = inl refl

-- one of two tests
pub or_true : (a b : Bool) → a || b ≡ true → (a ≡ true) ⊎ (b ≡ true)
or_true true b e = inl refl
or_true false b e = inr e

pub or_left : (a b : Bool) → a ≡ true → a || b ≡ true
or_left true b e = refl
or_left false b e = absurd (false≢true e)

pub or_right : (a b : Bool) → b ≡ true → a || b ≡ true
or_right true b e = refl
or_right false b e = e

pub or_fails : (a b : Bool) → a ≡ false → b ≡ false → a || b ≡ false
or_fails true b p q = p
or_fails false b p q = q

pub or_false_left : (a b : Bool) → a || b ≡ false → a ≡ false
or_false_left true b e = e
or_false_left false b e = refl

pub or_false_right : (a b : Bool) → a || b ≡ false → b ≡ false
or_false_right true b e = absurd (true≢false e)
or_false_right false b e = e

-- a number below one more is below, or it is the last
pub below_more {ℓ} : {X : Type ℓ} {i n : ℕ} → i < suc n → (i < n → X) → (i ≡ n → X) → X
below_more {i} {n} h below last = elim (dec_lt i n) [ yes k ↦ below k | no k ↦ last (omega arith) ]

-- two numbers are one or they differ
pub equal_or_not {ℓ} : {X : Type ℓ} (a b : ℕ) → (a ≡ b → X) → ((a ≡ b → ⊥) → X) → X
equal_or_not a b same other = elim (ℕ_discrete a b) [ yes e ↦ same e | no e ↦ other e ]

-- two numbers are compared either way round
pub eqb_swap : (m n : ℕ) → eqb m n ≡ eqb n m
eqb_swap m n = equal_or_not m n (λ e. eq-eqb m n e ∙ sym (eq-eqb n m (sym e))) (λ d. ne_eqb m n d ∙ sym (ne_eqb n m (λ e. d (sym e))))

-- the first test passes, and the answer is as the second says
pub and_second : {a b x : Bool} → a ≡ true → b ≡ x → a && b ≡ x
and_second p q = rw p q

-- the first test fails, and the answer is as the second says
pub or_second : {a b x : Bool} → a ≡ false → b ≡ x → a || b ≡ x
or_second p q = rw p q

-- a choice once its test is known
pub cond_passes {ℓ} : {A : Type ℓ} {b : Bool} (x y : A) → b ≡ true → cond b x y ≡ x
cond_passes x y e = rw e

pub cond_fails {ℓ} : {A : Type ℓ} {b : Bool} (x y : A) → b ≡ false → cond b x y ≡ y
cond_fails x y e = rw e

-- a choice whose first answer is that it passes
pub cond_or : (a b : Bool) → cond a true b ≡ a || b
cond_or true b = refl
cond_or false b = refl

-- a choice by the contrary of a test
pub cond_not {ℓ} : {A : Type ℓ} (b : Bool) (x y : A) → cond (not b) y x ≡ cond b x y
cond_not true x y = refl
cond_not false x y = refl
