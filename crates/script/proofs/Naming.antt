-- Laws of the number that a word names: its first bytes, a digit more, and that what is no number stays none. Assumes nothing.
use mathlib.Core.Path.{◌≡◌, refl, sym, ◌∙◌, ap}
use mathlib.Core.List.{List}
use Prim.Native.Nat.{ℕ, zero, suc, ◌+◌, ◌-◌, ◌*◌, ◌<◌, ◌≤◌}
use native.Mathlib.Numerals.{add-one}
use native.Mathlib.Decide.{dec_lt}
use native.Mathlib.Omega.{arith}
use lib.ListN.{length, get_or}
use borrow.Author.Tests.{lt-ltb, le-ltb}
use Rattle.basics.specs.Below.{run_below}
use Rattle.script.specs.Numeral.{no_number, with_digit, number_of}

-- ---- a digit more

pub digit_more : (n b : ℕ) → 48 ≤ b → b ≤ 57 → 10 * n + (b - 48) < no_number → 10 * n + (b - 48) ≡ with_digit n b
unfolding with_digit
digit_more n b h k small = rw (le-ltb b 48 h, le-ltb 57 b k, lt-ltb (10 * n + (b - 48)) no_number small)

-- no number, with a digit more
none_more : (b : ℕ) → with_digit no_number b ≡ no_number
unfolding with_digit
none_more b = grind (arith, lt-ltb, le-ltb)

-- ---- the number that a word's first bytes name

abbrev pub named_by : List ℕ → ℕ → ℕ
named_by word i = run_below (λ j n. with_digit n (get_or word j 0)) i 0

pub named_none : (word : List ℕ) → 0 ≡ named_by word 0
unfolding run_below
named_none word = refl

pub named_more : (word : List ℕ) (i n : ℕ) → n ≡ named_by word i → with_digit n (get_or word i 0) ≡ named_by word (i + 1)
unfolding run_below
named_more word i n e = rw (add-one, e)

pub named_all : (word : List ℕ) (i : ℕ) → i ≡ length word → named_by word i ≡ number_of word
unfolding number_of
named_all word i e = ap (named_by word) e

none_stays : (word : List ℕ) (i n : ℕ) → i ≤ n → named_by word i ≡ no_number → named_by word n ≡ no_number
unfolding run_below
none_stays word i zero h e = let same : 0 ≡ i = omega arith in ap (named_by word) same ∙ e
none_stays word i (suc n) h e =
    elim (dec_lt n i) [
      | yes k ↦ let same : suc n ≡ i = omega arith in ap (named_by word) same ∙ e
      | no k ↦
          let so_far = none_stays word i n (omega arith) e in
          ap (λ (m : ℕ). with_digit m (get_or word n 0)) so_far ∙ none_more (get_or word n 0)
    ]

-- where the first bytes name none, the word names none
pub none_named : (word : List ℕ) (i : ℕ) → i ≤ length word → no_number ≡ named_by word i → no_number ≡ number_of word
none_named word i h e = sym (none_stays word i (length word) h (sym e)) ∙ named_all word (length word) refl
