-- Laws of pieces that fit into a buffer: what stands there is the pieces, one behind the other; and of numbers in decimal
-- as pieces. Assumes nothing.
use mathlib.Core.Path.{◌≡◌, refl, sym, ◌∙◌, ap}
use mathlib.Core.Bool.{cond}
use mathlib.Core.List.{List, [], ◌∷◌, ◌++◌, append-nil, append_assoc}
use Prim.Native.Nat.{ℕ, zero, suc, ◌+◌, ◌/◌, ◌%◌, ◌^◌, ◌<◌, ◌≤◌}
use native.Mathlib.Nat.{pow-suc, div-lt_iff_lt-mul, zero-lt-suc}
use native.Mathlib.Decide.{dec_lt}
use native.Mathlib.Omega.{arith}
use lib.Dec.{ltb}
use lib.ListN.{length, take, drop, length-append}
use lib.Seq.{take_at, length-take-le}
use borrow.Author.Tests.{le-leb, lt-ltb, le-ltb}
use Rattle.basics.specs.Bytes.{splice}
use Rattle.basics.specs.Text.{text, digits, decimal}
use Rattle.basics.proofs.Bytes.{splice_length}
use Rattle.texts.specs.Placed.{with_text, after_text}
use Rattle.rules.specs.Report.{refused_line}
use Rattle.texts.specs.Said.{placed, joined, refused_told}

-- the pieces of two lists
pub joined_append : (first rest : List (List ℕ)) → joined (first ++ rest) ≡ joined first ++ joined rest
unfolding joined
joined_append [] rest = refl
joined_append (piece ∷ first) rest =
    ap (λ (l : List ℕ). piece ++ l) (joined_append first rest) ∙ sym (append_assoc piece (joined first) (joined rest))

-- ---- what stands in the buffer

-- a piece that fits stands behind what stood before it
piece_fits : (out : List ℕ) (at : ℕ) (piece : List ℕ) → at + length piece ≤ length out → take (at + length piece) (splice at piece out) ≡ take at out ++ piece
unfolding splice
piece_fits out at piece h =
    let front = length-take-le at out (omega arith) in
    ap (take (at + length piece)) (sym (append_assoc (take at out) piece (drop (at + length piece) out)))
    ∙ take_at (take at out ++ piece) (drop (at + length piece) out) (at + length piece) (rw (length-append, front))

-- the others are put behind it
piece_placed : (out : List ℕ) (at : ℕ) (piece : List ℕ) (pieces : List (List ℕ)) → at + length piece ≤ length out
    → placed out at (piece ∷ pieces) ≡ placed (splice at piece out) (at + length piece) pieces
unfolding placed with_text after_text
piece_placed out at piece pieces h = rw (le-leb (at + length piece) (length out) h)

-- and so all stand there
pieces_fit : (out : List ℕ) (at : ℕ) (pieces : List (List ℕ)) → at + length (joined pieces) ≤ length out
    → take (placed out at pieces).1 (placed out at pieces).0 ≡ take at out ++ joined pieces
unfolding placed joined
pieces_fit out at [] h = sym (append-nil (take at out))
pieces_fit out at (piece ∷ pieces) h =
    let whole = length-append piece (joined pieces) in
    let room : at + length piece ≤ length out = omega arith in
    let same = splice_length at piece out room in
    ap (λ (p : List ℕ × ℕ). take p.1 p.0) (piece_placed out at piece pieces room)
    ∙ pieces_fit (splice at piece out) (at + length piece) pieces (omega arith)
    ∙ ap (λ (l : List ℕ). l ++ joined pieces) (piece_fits out at piece room)
    ∙ append_assoc (take at out) piece (joined pieces)

-- pieces put from the front on
pub all_fit : (out : List ℕ) (pieces : List (List ℕ)) {last : List ℕ} {end : ℕ} → (last, end) ≡ placed out 0 pieces → length (joined pieces) ≤ length out
    → take end last ≡ joined pieces
all_fit out pieces e h = ap (λ (p : List ℕ × ℕ). take p.1 p.0) e ∙ pieces_fit out 0 pieces (omega arith)

-- ---- numbers in decimal

-- they have no more digits than there is room for
digits_few : (k n : ℕ) → length (digits k n) ≤ k
unfolding digits
digits_few zero n = omega arith
digits_few (suc k) n =
    elim (dec_lt n 10) [
      | yes small ↦ rw (lt-ltb n 10 small) (omega arith)
      | no large ↦ rw (le-ltb n 10 (omega arith), length-append) (omega (arith, digits_few k (n / 10)))
    ]

pub decimal_few : (n : ℕ) → length (decimal n) ≤ 5
unfolding decimal
decimal_few n = digits_few 5 n

-- a number has one form, whatever more digits there is room for
same_digits : (k m n : ℕ) → n < 10 ^ suc k → n < 10 ^ suc m → digits (suc k) n ≡ digits (suc m) n
unfolding digits
same_digits zero zero n h j = refl
same_digits zero (suc m) n h j = rw (lt-ltb n 10 (omega arith))
same_digits (suc k) zero n h j = rw (lt-ltb n 10 (omega arith))
same_digits (suc k) (suc m) n h j =
    ap (λ (front : List ℕ). cond (ltb n 10) ((48 + n) ∷ []) (front ++ ((48 + n % 10) ∷ [])))
    (same_digits k m (n / 10) ((div-lt_iff_lt-mul (zero-lt-suc 9)).1 (rw pow-suc at h)) ((div-lt_iff_lt-mul (zero-lt-suc 9)).1 (rw pow-suc at j)))

pub decimal_is : (n : ℕ) → n < 100000 → digits 20 n ≡ decimal n
unfolding decimal
decimal_is n h = same_digits 19 4 n (omega arith) (omega arith)

-- ---- the line of a refusal

refused_is : (number : ℕ) → joined (refused_told number) ≡ refused_line number
unfolding joined refused_told refused_line text
refused_is number = refl

refused_short : (number : ℕ) → length (refused_line number) ≤ 16
unfolding refused_line text
refused_short number = simp length-append (omega (arith, decimal_few number))

pub refused_fits : (out : List ℕ) (number : ℕ) (last : List ℕ) (end : ℕ) → (last, end) ≡ placed out 0 (refused_told number) → 16 ≤ length out → take end last ≡ refused_line number
refused_fits out number last end e room =
    let same = refused_is number in
    all_fit out (refused_told number) e (rw same (omega (arith, refused_short number))) ∙ same
