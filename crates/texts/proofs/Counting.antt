-- The digits of a number in decimal are those that the library writes, and at most twenty. Assumes nothing.
use Rattle.std.proofs.Common.{◌≡◌, refl, sym, ◌∙◌, ℕ, zero, suc, ◌+◌, ◌/◌, ◌%◌, ◌^◌, ◌<◌, ◌≤◌, List, [], ◌∷◌, ◌++◌, append_assoc, append-nil, arith, length, false}
use native.Mathlib.Nat.{pow-suc, div-lt_iff_lt-mul, zero-lt-suc}
use native.Mathlib.Decide.{dec_lt}
use borrow.Author.Tests.{lt-ltb, le-ltb, eq-eqb, ne_eqb}
use Rattle.std.proofs.lemmas.Fmt.{length-decimal-le}
use Rattle.std.specs.Fmt.{digits_onto, decimal, digit_glyph, digits as digits_written}
use Rattle.basics.specs.Text.{digits}

-- the glyph of a digit
glyph : (d : ℕ) → d < 10 → digit_glyph false d ≡ 48 + d
glyph d h = rw (lt-ltb d 10 h) refl

-- one digit, and one with more before it
one_digit : (k m n : ℕ) (rest : List ℕ) → n < 10 → digits_onto (suc m) 10 false n rest ≡ digits (suc k) n ++ rest
unfolding digits
one_digit k m n rest h =
    let none : n / 10 ≡ 0 = omega arith in
    let all : n % 10 ≡ n = omega arith in
    rw (lt-ltb n 10 h, eq-eqb (n / 10) 0 none, all, glyph n h) refl

more_digits : (k m n : ℕ) (rest : List ℕ) → 10 ≤ n → digits_onto m 10 false (n / 10) ((48 + n % 10) ∷ rest) ≡ digits k (n / 10) ++ ((48 + n % 10) ∷ rest)
    → digits_onto (suc m) 10 false n rest ≡ digits (suc k) n ++ rest
unfolding digits
more_digits k m n rest h e =
    let some : n / 10 ≡ 0 → ⊥ = λ q. absurd (omega arith) in
    rw (le-ltb n 10 h, ne_eqb (n / 10) 0 some, glyph (n % 10) (omega arith)) (e ∙ sym (append_assoc (digits k (n / 10)) ((48 + n % 10) ∷ []) rest))

-- the digits of a number of few digits, in front of others
digits_before : (k m n : ℕ) (rest : List ℕ) → k ≤ m → n < 10 ^ suc k → digits_onto (suc m) 10 false n rest ≡ digits (suc k) n ++ rest
digits_before zero m n rest h small = one_digit zero m n rest (omega arith)
digits_before (suc k) zero n rest h small = absurd (omega arith)
digits_before (suc k) (suc m) n rest h small =
    elim (dec_lt n 10) [
      | yes one ↦ one_digit (suc k) (suc m) n rest one
      | no more ↦
          more_digits (suc k) (suc m) n rest (omega arith)
          (digits_before k m (n / 10) ((48 + n % 10) ∷ rest) (omega arith) ((div-lt_iff_lt-mul (zero-lt-suc 9)).1 (rw pow-suc at small)))
    ]

pub digits_are : (n : ℕ) → n < 2 ^ 64 → decimal n ≡ digits 20 n
unfolding digits_written
digits_are n h = digits_before 19 63 n [] (omega arith) (omega arith) ∙ append-nil (digits 20 n)

-- a number of 64 bits has at most twenty
pub digits_fit : (n : ℕ) → n < 2 ^ 64 → length (decimal n) ≤ 20
digits_fit n h = length-decimal-le 20 n (omega arith) (omega arith) h
