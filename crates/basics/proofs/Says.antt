-- What a test says: a passing test on one side, the statement that it tests on the other. Assumes nothing.
use Prim.Native.Nat.{ℕ, ◌≤◌, ◌<◌}
use mathlib.Core.Path.{◌≡◌, refl}
use mathlib.Core.Logic.Iff
use mathlib.Core.Logic.{◌↔◌, ◌⊎◌, inl, inr, ⊎_elim}
use mathlib.Core.Bool.{Bool, true, false, not, cond, ◌&&◌, ◌||◌, true≢false, false≢true}
use mathlib.Core.List.{List, Memᴰ}
use lib.Dec.{leb, ltb, eqb}
use borrow.Author.Tests.{eqb-true, eq-eqb, leb-true, le-leb, ltb-true, lt-ltb}
use Rattle.basics.specs.Below.{all_below, any_below}
use Rattle.basics.specs.Lists.{any_in}
use Rattle.basics.proofs.Bools.{clash, and_left, and_right, and_both, or_true, or_left, or_right, never}
use Rattle.basics.proofs.Below.{all_at, all_of, any_at, any_of}
use Rattle.basics.proofs.Lists.{any_in_at, any_in_of}

-- comparisons of numbers
pub eqb_says : (a b : ℕ) → (eqb a b ≡ true) ↔ (a ≡ b)
eqb_says a b = (eqb-true a b, eq-eqb a b)

pub leb_says : (a b : ℕ) → (leb a b ≡ true) ↔ (a ≤ b)
leb_says a b = (leb-true a b, le-leb a b)

pub ltb_says : (a b : ℕ) → (ltb a b ≡ true) ↔ (a < b)
ltb_says a b = (ltb-true a b, lt-ltb a b)

-- a negated test, plainly and by what the test says
pub not_says : (t : Bool) → (not t ≡ true) ↔ (t ≡ false)
not_says true = (never, λ e. absurd (true≢false e))
not_says false = (λ e. refl, λ e. refl)

pub not_says_not : (t : Bool) {P : Type 0} → (t ≡ true) ↔ P → (not t ≡ true) ↔ (P → ⊥)
not_says_not true s = (never, λ f. absurd (f (s.0 refl)))
not_says_not false s = (λ e x. false≢true (s.1 x), λ f. refl)

-- both of two tests, and one of two
pub and_says : {s t : Bool} {P Q : Type 0} → (s ≡ true) ↔ P → (t ≡ true) ↔ Q → (s && t ≡ true) ↔ (P × Q)
and_says {s} {t} p q = (λ e. (p.0 (and_left s t e), q.0 (and_right s t e)), λ x. and_both s t (p.1 x.0) (q.1 x.1))

pub or_says : {s t : Bool} {P Q : Type 0} → (s ≡ true) ↔ P → (t ≡ true) ↔ Q → (s || t ≡ true) ↔ (P ⊎ Q)
or_says {s} {t} p q =
    (λ e. ⊎_elim (λ x. inl (p.0 x)) (λ y. inr (q.0 y)) (or_true s t e), ⊎_elim (λ x. or_left s t (p.1 x)) (λ y. or_right s t (q.1 y)))

-- one test or another, by a first
pub cond_says : (t : Bool) {u v : Bool} {P : Type 0} → (t ≡ true → (u ≡ true) ↔ P) → (t ≡ false → (v ≡ true) ↔ P) → (cond t u v ≡ true) ↔ P
cond_says true passes fails = passes refl
cond_says false passes fails = fails refl

-- a test that is asked only where another passes
pub if_says : (t : Bool) {u : Bool} {P : Type 0} → (u ≡ true) ↔ P → (cond t u true ≡ true) ↔ (t ≡ true → P)
if_says true s = (λ e q. s.0 e, λ f. s.1 (f refl))
if_says false s = (λ e q. absurd (clash q refl), λ f. refl)

-- .. or where two others pass
pub both_says : (s t : Bool) {u : Bool} {P Q : Type 0} → (s ≡ true) ↔ P → (u ≡ true) ↔ Q → (cond (s && t) u true ≡ true) ↔ (P → t ≡ true → Q)
both_says s t p q =
    Iff.trans (if_says (s && t) q) (λ f i j. f (and_both s t (p.1 i) j), λ f e. f (p.0 (and_left s t e)) (and_right s t e))

-- a test that is asked only where another fails
pub unless_says : (t : Bool) {u : Bool} {P : Type 0} → (u ≡ true) ↔ P → (cond t true u ≡ true) ↔ (t ≡ false → P)
unless_says true s = (λ e q. absurd (clash refl q), λ f. refl)
unless_says false s = (λ e q. s.0 e, λ f. s.1 (f refl))

-- one test where another passes, and a second where it fails
pub either_says : (t : Bool) {u v : Bool} {P Q : Type 0} → (u ≡ true) ↔ P → (v ≡ true) ↔ Q → (cond t u v ≡ true) ↔ ((t ≡ true → P) × (t ≡ false → Q))
either_says true s o = (λ e. (λ q. s.0 e, λ q. absurd (clash refl q)), λ f. s.1 (f.0 refl))
either_says false s o = (λ e. (λ q. absurd (clash q refl), λ q. o.0 e), λ f. o.1 (f.1 refl))

-- a test of all numbers below a limit
pub all_says : (p : ℕ → Bool) (n : ℕ) {P : ℕ → Type 0} → ((i : ℕ) → i < n → (p i ≡ true) ↔ P i) → (all_below p n ≡ true) ↔ ((i : ℕ) → i < n → P i)
all_says p n s = (λ e i h. (s i h).0 (all_at p n e i h), λ f. all_of p n (λ i h. (s i h).1 (f i h)))

-- a test of some number below a limit, and of some member of a list
pub any_says : (p : ℕ → Bool) (n : ℕ) {P : ℕ → Type 0} → ((i : ℕ) → (p i ≡ true) ↔ P i) → (any_below p n ≡ true) ↔ ((i : ℕ) × (i < n) × P i)
any_says p n s = (λ e. let x = any_at p n e in (x.0, x.1, (s x.0).0 x.2), λ x. any_of p n x.0 x.1 ((s x.0).1 x.2))

pub any_in_says : {A : Type 0} (p : A → Bool) (xs : List A) {P : A → Type 0} → ((x : A) → (p x ≡ true) ↔ P x)
    → (any_in p xs ≡ true) ↔ ((x : A) × Memᴰ x xs × P x)
any_in_says p xs s = (λ e. let x = any_in_at p xs e in (x.0, x.1, (s x.0).0 x.2), λ x. any_in_of p xs x.1 ((s x.0).1 x.2))
