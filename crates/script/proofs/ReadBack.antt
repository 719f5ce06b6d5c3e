-- What is printed reads back as it was: numbers of 32 bits, and bytes. Assumes nothing.
use mathlib.Core.Path.{◌≡◌, refl, sym, ◌∙◌, ap, ap₂}
use mathlib.Core.Bool.{true}
use mathlib.Core.List.{List, [], ◌∷◌, ◌++◌}
use Prim.Native.Nat.{ℕ, zero, suc, ◌+◌, ◌-◌, ◌*◌, ◌/◌, ◌%◌, ◌^◌, ◌<◌}
use native.Mathlib.Nat.{pow-suc, div-lt_iff_lt-mul, zero-lt-suc}
use native.Mathlib.Decide.{dec_lt}
use native.Mathlib.Omega.{arith}
use Rattle.std.proofs.Common.{Some}
use Rattle.std.specs.List.{list_all}
use Rattle.std.proofs.lemmas.Bool.Decides.{nat_tests}
use lib.ListN.{length, get_or, length-append, get_or-append}
use lib.Seq.{get_or-append_seam}
use borrow.Author.Tests.{lt-ltb, le-ltb, eq-eqb}
use Rattle.basics.specs.Below.{run_below}
use Rattle.basics.specs.Bytes.{AreBytes}
use Rattle.basics.specs.Text.{digits}
use Rattle.basics.proofs.Below.{run_more, run_cong}
use Rattle.basics.proofs.Bools.{and_both}
use Rattle.basics.proofs.Bytes.{bytes_tail}
use Rattle.texts.specs.Letters.{hex_letter, hex_text}
use Rattle.texts.proofs.Spelling.{hex_text_length}
use Rattle.script.specs.Hex.{hex_value, is_digit, is_hex, byte_of, value_bytes}
use Rattle.script.specs.Numeral.{no_number, with_digit, number_of}
use Rattle.script.specs.ReadBack.{NumbersReadBack, ValuesReadBack}
use Rattle.script.proofs.Naming.{named_by, digit_more}

-- ---- numbers

-- a digit behind a word
number_snoc : (word : List ℕ) (d : ℕ) → number_of (word ++ (d ∷ [])) ≡ with_digit (number_of word) d
unfolding number_of
number_snoc word d =
    let longer = word ++ (d ∷ []) in
    ap (named_by longer) (length-append word (d ∷ []))
    ∙ run_more (λ j n. with_digit n (get_or longer j 0)) (length word) 0
    ∙ ap₂ with_digit
    (run_cong (λ j n. with_digit n (get_or longer j 0)) (λ j n. with_digit n (get_or word j 0)) (length word) 0
    (λ j h n. ap (with_digit n) (get_or-append word (d ∷ []) 0 j h)))
    (get_or-append_seam word d [] 0)

-- a digit behind a number, and taken for what it stands for
digit_back : (n d : ℕ) → d < 10 → 10 * n + d < no_number → with_digit n (48 + d) ≡ 10 * n + d
digit_back n d h k = let same : 10 * n + (48 + d - 48) ≡ 10 * n + d = omega arith in sym (digit_more n (48 + d) (omega arith) (omega arith) (omega arith)) ∙ same

digits_back : (k n : ℕ) → n < 10 ^ k → n < no_number → number_of (digits k n) ≡ n
unfolding digits number_of run_below
digits_back zero n h m = omega arith
digits_back (suc k) n h m =
    elim (dec_lt n 10) [
      | yes small ↦ rw (lt-ltb n 10 small) (digit_back 0 n small (omega arith) ∙ omega arith)
      | no large ↦
          rw (le-ltb n 10 (omega arith))
          (number_snoc (digits k (n / 10)) (48 + n % 10)
          ∙ ap (λ (r : ℕ). with_digit r (48 + n % 10)) (digits_back k (n / 10) ((div-lt_iff_lt-mul (zero-lt-suc 9)).1 (rw pow-suc at h)) (omega arith))
          ∙ digit_back (n / 10) (n % 10) (omega arith) (omega arith)
          ∙ omega arith)
    ]

pub numbers_read_back : NumbersReadBack
numbers_read_back n h = digits_back 20 n (omega arith) h

-- ---- values

-- a digit's value
letter_back : (d : ℕ) → d < 16 → hex_value (hex_letter d) ≡ Some d
unfolding hex_letter hex_value
letter_back d h = grind (arith, nat_tests)

byte_back : (b : ℕ) → b < 256 → byte_of (hex_letter (b / 16)) (hex_letter (b % 16)) ≡ b
unfolding byte_of
byte_back b h = rw (letter_back (b / 16) (omega arith), letter_back (b % 16) (omega arith)) (omega arith)

bytes_back : (bytes : List ℕ) → AreBytes bytes → value_bytes (hex_text bytes) ≡ bytes
unfolding value_bytes hex_text
bytes_back [] h = refl
bytes_back (b ∷ bytes) h = ap₂ ◌∷◌ (byte_back b (h 0)) (bytes_back bytes (bytes_tail b bytes h))

letter_is_digit : (d : ℕ) → d < 16 → is_digit (hex_letter d) ≡ true
unfolding is_digit
letter_is_digit d h = rw (letter_back d h) refl

all_digits : (bytes : List ℕ) → AreBytes bytes → list_all is_digit (hex_text bytes) ≡ true
unfolding hex_text
all_digits [] h = refl
all_digits (b ∷ bytes) h =
    let small = h 0 in
    rw (letter_is_digit (b / 16) (omega arith), letter_is_digit (b % 16) (omega arith)) (all_digits bytes (bytes_tail b bytes h))

pub values_read_back : ValuesReadBack
unfolding is_hex
values_read_back bytes h =
    let even : length (hex_text bytes) % 2 ≡ 0 = omega (arith, hex_text_length bytes) in (
      and_both _ _ (eq-eqb (length (hex_text bytes) % 2) 0 even) (all_digits bytes h),
      bytes_back bytes h,
    )
