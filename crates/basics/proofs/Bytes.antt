-- Laws of byte lists: parts and splices, numbers as bytes and back, and the test for equality. Assumes nothing.
use mathlib.Core.Path.{◌≡◌, refl, sym, ◌∙◌, ap, ap₂}
use mathlib.Core.Logic.{◌↔◌}
use mathlib.Core.Bool.{Bool, true, ◌&&◌, false≢true, and_assoc}
use mathlib.Core.List.{List, [], ◌∷◌, ◌++◌}
use Prim.Native.Nat.{ℕ, zero, suc, ◌+◌, ◌-◌, ◌*◌, ◌/◌, ◌%◌, ◌^◌, ◌<◌, ◌≤◌}
use native.Mathlib.Nat.{pow-suc, div-lt_iff_lt-mul, zero-lt-suc}
use native.Mathlib.Omega.{arith}
use lib.Dec.{eqb}
use lib.ListN.{length, take, drop, replicate, length-append, length-take, length-drop, take-append-drop}
use lib.Seq.{length-take-le, take-append-le, drop-append-le, take_at, drop_at, drop-drop}
use borrow.Author.Tests.{eqb-true, eq-eqb}
use Rattle.basics.specs.Bytes.{AreBytes, part, splice, little, number, same}
use Rattle.basics.proofs.Bools.{same_tests, and_left, and_right, and_both}

-- lists of bytes, made and taken apart
pub bytes_nil : AreBytes []
bytes_nil i = omega arith

pub bytes_cons : (b : ℕ) (bs : List ℕ) → b < 256 → AreBytes bs → AreBytes (b ∷ bs)
bytes_cons b bs h k zero = h
bytes_cons b bs h k (suc i) = k i

pub zeros_are_bytes : (n : ℕ) → AreBytes (replicate n 0)
zeros_are_bytes zero = bytes_nil
zeros_are_bytes (suc n) = bytes_cons 0 (replicate n 0) (omega arith) (zeros_are_bytes n)

pub bytes_tail : (b : ℕ) (bs : List ℕ) → AreBytes (b ∷ bs) → AreBytes bs
bytes_tail b bs h i = h (suc i)

pub bytes_append : (xs ys : List ℕ) → AreBytes xs → AreBytes ys → AreBytes (xs ++ ys)
bytes_append [] ys h k = k
bytes_append (x ∷ xs) ys h k = bytes_cons x (xs ++ ys) (h 0) (bytes_append xs ys (bytes_tail x xs h) k)

pub bytes_take : (n : ℕ) (xs : List ℕ) → AreBytes xs → AreBytes (take n xs)
bytes_take zero xs h = bytes_nil
bytes_take (suc n) [] h = bytes_nil
bytes_take (suc n) (x ∷ xs) h = bytes_cons x (take n xs) (h 0) (bytes_take n xs (bytes_tail x xs h))

pub bytes_drop : (n : ℕ) (xs : List ℕ) → AreBytes xs → AreBytes (drop n xs)
bytes_drop zero xs h = h
bytes_drop (suc n) [] h = bytes_nil
bytes_drop (suc n) (x ∷ xs) h = bytes_drop n xs (bytes_tail x xs h)

pub bytes_part : (at n : ℕ) (xs : List ℕ) → AreBytes xs → AreBytes (part at n xs)
unfolding part
bytes_part at n xs h = bytes_take n (drop at xs) (bytes_drop at xs h)

pub bytes_splice : (at : ℕ) (new xs : List ℕ) → AreBytes new → AreBytes xs → AreBytes (splice at new xs)
unfolding splice
bytes_splice at new xs h k =
    bytes_append (take at xs) (new ++ drop (at + length new) xs) (bytes_take at xs k)
    (bytes_append new (drop (at + length new) xs) h (bytes_drop (at + length new) xs k))

-- a number as k bytes
pub little_length : (k n : ℕ) → length (little k n) ≡ k
unfolding little
little_length zero n = refl
little_length (suc k) n = ap suc (little_length k (n / 256))

pub little_bytes : (k n : ℕ) → AreBytes (little k n)
unfolding little
little_bytes zero n = bytes_nil
little_bytes (suc k) n = bytes_cons (n % 256) (little k (n / 256)) (omega arith) (little_bytes k (n / 256))

-- what stands for a number gives it back, and the number gives the bytes back
pub number_little : (k n : ℕ) → n < 256 ^ k → number (little k n) ≡ n
unfolding little number
number_little zero n h = omega arith
number_little (suc k) n h =
    let rest = number_little k (n / 256) ((div-lt_iff_lt-mul (zero-lt-suc 255)).1 (rw pow-suc at h)) in
    rw rest (omega arith)

pub little_number : (bs : List ℕ) → AreBytes bs → little (length bs) (number bs) ≡ bs
unfolding little number
little_number [] h = refl
little_number (b ∷ bs) h =
    let small = h 0 in
    let low : (b + 256 * number bs) % 256 ≡ b = omega arith in
    let high : (b + 256 * number bs) / 256 ≡ number bs = omega arith in
    ap₂ ◌∷◌ low (ap (little (length bs)) high ∙ little_number bs (bytes_tail b bs h))

-- one number has one form of k bytes
pub number_unique : (xs ys : List ℕ) → AreBytes xs → AreBytes ys → length xs ≡ length ys → number xs ≡ number ys → xs ≡ ys
number_unique xs ys h k l e = sym (little_number xs h) ∙ ap₂ little l e ∙ little_number ys k

-- a part
pub part_length : (at n : ℕ) (xs : List ℕ) → at + n ≤ length xs → length (part at n xs) ≡ n
unfolding part
part_length at n xs h = simp (length-take, length-drop) (omega arith)

-- the part from a place to another
pub part_between : (from to n : ℕ) (xs : List ℕ) → to - from ≡ n → take (to - from) (drop from xs) ≡ part from n xs
unfolding part
part_between from to n xs e = ap (λ (k : ℕ). take k (drop from xs)) e

-- a part that ends before the seam is a part of the first list
pub part_first : (i n : ℕ) (xs ys : List ℕ) → i + n ≤ length xs → part i n (xs ++ ys) ≡ part i n xs
unfolding part
part_first i n xs ys h =
    ap (take n) (drop-append-le i xs ys (omega arith)) ∙ take-append-le n (drop i xs) ys (simp length-drop (omega arith))

-- what is left from a later place is left from there of what is left from an earlier one
drop_from : (e i : ℕ) (ys : List ℕ) → e ≤ i → drop i ys ≡ drop (i - e) (drop e ys)
drop_from e i ys h = let q : i ≡ e + (i - e) = omega arith in ap (λ (k : ℕ). drop k ys) q ∙ sym (drop-drop (i - e) e ys)

-- a splice of nothing
pub splice_nothing : (at : ℕ) (xs : List ℕ) → splice at [] xs ≡ xs
unfolding splice
splice_nothing at xs = let e : at + 0 ≡ at = omega arith in ap (λ (k : ℕ). take at xs ++ drop k xs) e ∙ take-append-drop at xs

-- a splice
module _ (at : ℕ) (new xs : List ℕ) where
  pub splice_length : at + length new ≤ length xs → length (splice at new xs) ≡ length xs
  unfolding splice
  splice_length h = simp (length-append, length-take, length-drop) (omega arith)

  -- as the loan of a part gives it back
  pub splice_lent : (e : ℕ) → e ≡ at + length new → splice at new xs ≡ take at xs ++ (new ++ drop (e - at) (drop at xs))
  unfolding splice
  splice_lent e q =
      let r : at + length new ≡ at + (e - at) = omega arith in
      ap (λ (k : ℕ). take at xs ++ (new ++ drop k xs)) r ∙ ap (λ (ys : List ℕ). take at xs ++ (new ++ ys)) (sym (drop-drop (e - at) at xs))

  module _ (fits : at ≤ length xs) where
    front : length (take at xs) ≡ at
    front = length-take-le at xs fits

    -- what stands before it, in it and after it
    pub take_splice : take at (splice at new xs) ≡ take at xs
    unfolding splice
    take_splice = take_at (take at xs) _ at front

    pub part_splice : (n : ℕ) → length new ≡ n → part at n (splice at new xs) ≡ new
    unfolding part splice
    part_splice n q = ap (take n) (drop_at (take at xs) _ at front) ∙ take_at new _ n q

    pub drop_splice : drop (at + length new) (splice at new xs) ≡ drop (at + length new) xs
    unfolding splice
    drop_splice =
        sym (drop-drop (length new) at (splice at new xs))
        ∙ ap (drop (length new)) (drop_at (take at xs) _ at front)
        ∙ drop_at new _ (length new) refl

    -- a part wholly before or wholly after it is as it was
    pub part_before : (i n : ℕ) → i + n ≤ at → part i n (splice at new xs) ≡ part i n xs
    unfolding splice
    part_before i n h =
        let k = front in
        part_first i n (take at xs) _ (omega arith)
        ∙ sym (part_first i n (take at xs) (drop at xs) (omega arith))
        ∙ ap (part i n) (take-append-drop at xs)

    pub part_after : (i n : ℕ) → at + length new ≤ i → part i n (splice at new xs) ≡ part i n xs
    unfolding part
    part_after i n h =
        let e = at + length new in
        ap (take n) (drop_from e i (splice at new xs) h ∙ ap (drop (i - e)) drop_splice ∙ sym (drop_from e i xs h))

-- the test for equality
pub same_refl : (xs : List ℕ) → same xs xs ≡ true
unfolding same
same_refl [] = refl
same_refl (x ∷ xs) = and_both (eqb x x) (same xs xs) (eq-eqb x x refl) (same_refl xs)

pub same_equal : (xs ys : List ℕ) → same xs ys ≡ true → xs ≡ ys
unfolding same
same_equal [] [] e = refl
same_equal [] (y ∷ ys) e = absurd (false≢true e)
same_equal (x ∷ xs) [] e = absurd (false≢true e)
same_equal (x ∷ xs) (y ∷ ys) e =
    ap₂ ◌∷◌ (eqb-true x y (and_left (eqb x y) (same xs ys) e)) (same_equal xs ys (and_right (eqb x y) (same xs ys) e))

pub same_iff : (xs ys : List ℕ) → (same xs ys ≡ true) ↔ (xs ≡ ys)
same_iff xs ys = (same_equal xs ys, λ q. ap (same xs) (sym q) ∙ same_refl xs)

-- two lists of two parts each, the first parts of one length
pub same_append : (xs us ys vs : List ℕ) → length xs ≡ length us → same (xs ++ ys) (us ++ vs) ≡ same xs us && same ys vs
unfolding same
same_append [] [] ys vs l = refl
same_append [] (u ∷ us) ys vs l = absurd (omega arith)
same_append (x ∷ xs) [] ys vs l = absurd (omega arith)
same_append (x ∷ xs) (u ∷ us) ys vs l =
    ap (λ (b : Bool). eqb x u && b) (same_append xs us ys vs (omega arith)) ∙ sym (and_assoc (eqb x u) (same xs us) (same ys vs))

-- k bytes are a number's exactly if their number is it
pub same_number : (k n : ℕ) (bs : List ℕ) → AreBytes bs → length bs ≡ k → n < 256 ^ k → same bs (little k n) ≡ eqb (number bs) n
same_number k n bs h l small =
    same_tests (same bs (little k n)) (eqb (number bs) n)
    (λ e. eq-eqb (number bs) n (ap number ((same_iff bs (little k n)).0 e) ∙ number_little k n small))
    (λ e.
    (same_iff bs (little k n)).1
    (number_unique bs (little k n) h (little_bytes k n) (l ∙ sym (little_length k n)) (eqb-true (number bs) n e ∙ sym (number_little k n small))))
