-- Laws of the words of a line: the first byte of a class from a place on, the start of a word, and the parts that are words.
-- Assumes nothing.
use Rattle.std.proofs.Common.{◌≡◌, sym, ◌∙◌, ap, refl, List, [], ℕ, zero, suc, ◌+◌, ◌-◌, ◌≤◌, arith, length, get_or, take, drop, length-drop, Some, None, add-one, false}
use lib.Dec.{leb, eqb}
use native.Mathlib.Decide.{dec_lt}
use lib.ListN.{drop_of_length-le}
use lib.Seq.{take-nil}
use borrow.Author.Tests.{le-leb, leb-true}
use Rattle.std.specs.List.{position_or_len, position}
use Rattle.std.proofs.lemmas.Bool.Decides.{nat_tests}
use Rattle.std.proofs.lemmas.List.{get_or-drop}
use Rattle.std.proofs.lemmas.List.Sums.{position_or_len_is}
use Rattle.texts.proofs.Putting.{tail_is}
use Rattle.basics.specs.Below.{least_below, run_below}
use Rattle.basics.proofs.Bools.{split, and_left, and_right}
use Rattle.basics.proofs.Search.{least_at_most, least_passes, least_fails, least_none}
use Rattle.basics.specs.Bytes.{part}
use Rattle.script.specs.declared.words.Class.{Class}
use Rattle.script.specs.declared.words.Class.TheVariants.{Blank, Solid, NoByte}
use Rattle.script.specs.Blanks.{is_blank, class_of, is_of, of_class, place_in, first_of, next_start, word_start, word_of}

-- ---- the first byte of a class from a place on

module _ (line : List ℕ) (at : ℕ) (class : Class) (within : at ≤ length line) where
  -- it lies within the line, from the place on
  pub first_within : (at ≤ first_of line at class) × (first_of line at class ≤ length line)
  unfolding first_of
  first_within =
      let p = of_class line at class in
      let n = length line in
      let most = least_at_most p n in (
        elim (dec_lt (least_below p n) at) [
          | yes h ↦ (let k = leb-true at (least_below p n) (and_left (leb at (least_below p n)) _ (least_passes p n (omega arith))) in absurd (omega arith))
          | no h ↦ omega arith
        ],
        most,
      )

  -- and is the first of what is left from there on
  pub first_is : position_or_len (is_of class) (drop at line) ≡ first_of line at class - at
  unfolding first_of
  first_is =
      let p = of_class line at class in
      let n = length line in
      let found = least_below p n in
      let size = length-drop at line in
      let bounds = first_within in
      position_or_len_is (is_of class) (drop at line) (found - at) 0 (omega arith)
      (λ k h. let f = least_fails p n (at + k) (omega arith) in let g = le-leb at (at + k) (omega arith) in rw (get_or-drop at line k 0) (rw g at f))
      (λ h. let here : at + (found - at) ≡ found = omega arith in rw (get_or-drop at line (found - at) 0, here) (and_right (leb at found) _ (least_passes p n (omega arith))))

  -- what is left, as a part of the line
  module _ (rest : List ℕ) (left : rest ≡ take (length line - at) (drop at line)) where
    pub first_found : (n : ℕ) → position (is_of class) rest ≡ Some n → Some (at + n) ≡ place_in (length line) (first_of line at class)
    first_found n e =
        let same = first_is in
        let bounds = first_within in
        let size = length-drop at line in
        let found = rw (left, tail_is line at (length line) refl) at e in
        grind (arith, nat_tests)

    pub first_missing : position (is_of class) rest ≡ None → place_in (length line) (first_of line at class) ≡ None
    first_missing e =
        let same = first_is in
        let bounds = first_within in
        let size = length-drop at line in
        let found = rw (left, tail_is line at (length line) refl) at e in
        grind (arith, nat_tests)

-- no byte is of the class of no byte, so none is found
no_byte_is : (b : ℕ) → is_of NoByte b ≡ false
unfolding class_of
no_byte_is b = split (is_blank b) (λ e. rw e refl) (λ e. rw e (split (eqb b 10) (λ f. rw f refl) (λ f. rw f (split (eqb b 35) (λ g. rw g refl) (λ g. rw g refl)))))

pub no_byte_found : (line : List ℕ) (at : ℕ) (class : Class) → class ≡ NoByte → place_in (length line) (first_of line at class) ≡ None
unfolding first_of
no_byte_found line at class e =
    let end : least_below (of_class line at NoByte) (length line) ≡ length line =
    least_none (of_class line at NoByte) (length line) (λ j h. rw (no_byte_is (get_or line j 0)) (split (leb at j) (λ k. rw k refl) (λ k. rw k refl))) in
    rw (e, end) (grind (arith, nat_tests))

pub first_most : (line : List ℕ) (at : ℕ) (class : Class) → first_of line at class ≤ length line
unfolding first_of
first_most line at class = least_at_most (of_class line at class) (length line)

-- ---- a place in a line

pub place_none : (size at : ℕ) → at ≤ size → place_in size at ≡ None → at ≡ size
place_none size at h e = grind (arith, nat_tests)

-- ---- where the next word starts

module _ (line : List ℕ) (at : ℕ) where
  pub next_within : next_start line at ≤ length line
  unfolding next_start
  next_within = first_most line (first_of line at Blank) Solid

  pub next_is : (end : ℕ) → end ≡ first_of line at Blank → first_of line end Solid ≡ next_start line at
  unfolding next_start
  next_is end e = rw e refl

  -- behind the end of a line nothing is found
  pub none_behind : (class : Class) → at ≡ length line → first_of line at class ≡ length line
  none_behind class e = let k = first_within line at class (omega arith) in omega arith

pub next_missing : (line : List ℕ) (at : ℕ) → first_of line at Blank ≡ length line → next_start line at ≡ length line
next_missing line at e = sym (next_is line at (first_of line at Blank) refl) ∙ none_behind line (first_of line at Blank) Solid e

-- ---- where words start

pub start_first : (line : List ℕ) → word_start line 0 ≡ first_of line 0 Solid
unfolding word_start run_below
start_first line = refl

pub start_next : (line : List ℕ) (n : ℕ) → word_start line (n + 1) ≡ next_start line (word_start line n)
unfolding word_start run_below
start_next line n = rw add-one refl

pub start_within : (line : List ℕ) (n : ℕ) → word_start line n ≤ length line
unfolding word_start run_below
start_within line zero = first_most line 0 Solid
start_within line (suc n) = next_within line (word_start line n)

-- no word starts once one starts at the end
ended : (line : List ℕ) (i n : ℕ) → i ≤ n → word_start line i ≡ length line → word_start line n ≡ length line
ended line i zero h e = let same : 0 ≡ i = omega arith in ap (word_start line) same ∙ e
ended line i (suc n) h e =
    elim (dec_lt n i) [
      | yes k ↦ let same : suc n ≡ i = omega arith in ap (word_start line) same ∙ e
      | no k ↦
          let so_far = ended line i n (omega arith) e in
          rw (← add-one, start_next line n) (next_missing line (word_start line n) (none_behind line (word_start line n) Blank so_far))
    ]

pub start_missing : (line : List ℕ) (i n : ℕ) → i ≤ n → word_start line i ≡ length line → place_in (length line) (word_start line n) ≡ None
start_missing line i n h e = let last = ended line i n h e in grind (arith, nat_tests)

-- ---- the parts that are words

pub word_is : (line : List ℕ) (n from to : ℕ) → from ≡ word_start line n → to ≡ first_of line from Blank → take (to - from) (drop from line) ≡ word_of line n
unfolding word_of part
word_is line n from to a b = rw (← a, ← b)

pub no_word : (line : List ℕ) (n : ℕ) → place_in (length line) (word_start line n) ≡ None → [] ≡ word_of line n
unfolding word_of part
no_word line n e =
    let last = place_none (length line) (word_start line n) (start_within line n) e in
    rw (last, drop_of_length-le line {i = length line} (omega arith)) (sym (take-nil _))
