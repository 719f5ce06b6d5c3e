-- Numbers as pairs of bytes: how many there are, each by itself, and that the first 33 tell the checker as much as all. Assumes nothing.
use Prim.Native.Nat.{ℕ, zero, suc, ◌+◌, ◌*◌, ◌/◌, ◌%◌, ◌≤◌, min}
use mathlib.Core.Path.{◌≡◌, refl, sym, ◌∙◌, ap}
use mathlib.Core.List.{List, [], ◌∷◌, ◌++◌}
use lib.ListN.{length, get_or, take, drop}
use lib.Seq.{length-take-le, take_all, take_at}
use native.Mathlib.Decide.{dec_lt}
use native.Mathlib.Omega.{arith}
use borrow.Author.Tests.{eq-eqb, ne_eqb}
use Rattle.basics.specs.Bytes.{number}
use Rattle.rules.specs.Sizes.{yard}
use Rattle.rules.specs.Numbers.{lent}
use Rattle.rules.specs.Checker.{checked}
use Rattle.checker.specs.Desk.{pairs_of, checked_pairs}
use Rattle.checker.proofs.Refused.{long_alike}

-- half as many numbers as bytes
pub pairs_length : (bytes : List ℕ) → length (pairs_of bytes) ≡ length bytes / 2
unfolding pairs_of
pairs_length [] = omega arith
pairs_length (low ∷ []) = omega arith
pairs_length (low ∷ high ∷ rest) = omega (arith, pairs_length rest)

-- number i is that of two bytes from 2 × i on
pub pair_at : (i : ℕ) (bytes : List ℕ) → 2 * i + 2 ≤ length bytes → get_or (pairs_of bytes) i 0 ≡ number (take 2 (drop (2 * i) bytes))
unfolding pairs_of
pair_at i [] h = absurd (omega arith)
pair_at i (low ∷ []) h = absurd (omega arith)
pair_at zero (low ∷ high ∷ rest) h = refl
pair_at (suc i) (low ∷ high ∷ rest) h =
    let twice : 2 * suc i ≡ suc (suc (2 * i)) = omega arith in
    pair_at i rest (omega arith) ∙ ap (λ (k : ℕ). number (take 2 (drop k (low ∷ high ∷ rest)))) (sym twice)

-- ---- the first 33

-- what is unpacked into the front of a longer list, and the front read again
module _ (bytes zeros got : List ℕ) (count : ℕ) (h : count ≤ length zeros) (k : count ≤ length bytes / 2)
    (e : got ≡ take (length (take count zeros)) (pairs_of bytes)) where
  front_unpacked : got ≡ take count (pairs_of bytes)
  front_unpacked = e ∙ ap (λ (n : ℕ). take n (pairs_of bytes)) (length-take-le count zeros h)

  front_length : length got ≡ count
  front_length = ap length front_unpacked ∙ length-take-le count (pairs_of bytes) (omega (arith, pairs_length bytes))

  pub front_read : take count (got ++ drop count zeros) ≡ take count (pairs_of bytes)
  front_read = take_at got (drop count zeros) count front_length ∙ front_unpacked

-- with 33 numbers, or all where they are fewer, the checker answers as with all
pub counted_alike : (opening log bytes : List ℕ) (t count : ℕ) → length bytes % 2 ≡ 0 → count ≡ min 33 (length bytes / 2)
    → checked yard opening log t (take count (pairs_of bytes)) ≡ checked_pairs yard opening log t bytes
unfolding checked_pairs
counted_alike opening log bytes t count even least =
    let all = pairs_length bytes in
    let size = length-take-le count (pairs_of bytes) (omega arith) in
    rw (eq-eqb (length bytes % 2) 0 even)
    (elim (dec_lt 33 (length bytes / 2)) [
      | yes h ↦ long_alike yard opening log t (take count (pairs_of bytes)) (pairs_of bytes) (omega arith) (omega arith)
      | no h ↦ ap (checked yard opening log t) (take_all count (pairs_of bytes) (omega arith))
    ])

-- and 1 where the bytes are odd
pub odd_refused : (opening log bytes : List ℕ) (t : ℕ) → (length bytes % 2 ≡ 0 → ⊥) → lent ≡ checked_pairs yard opening log t bytes
unfolding checked_pairs
odd_refused opening log bytes t odd = rw (ne_eqb (length bytes % 2) 0 odd)
