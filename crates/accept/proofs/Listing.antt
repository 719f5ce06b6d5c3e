-- Laws of the numbers that are kept, of a day that is cut short, and of the line that is answered. Assumes nothing.
use Prim.Native.Nat.{ℕ, ◌+◌, ◌≤◌, ◌<◌}
use mathlib.Core.Path.{◌≡◌, sym, ◌∙◌, ap}
use mathlib.Core.List.{List, [], ◌∷◌, ◌++◌}
use native.Mathlib.Numerals.{add-one}
use native.Mathlib.Omega.{arith}
use lib.ListN.{length, take, set, length-append}
use lib.Seq.{take_all, length-take-le, take-suc-set}
use borrow.Author.Tests.{ne_eqb}
use Rattle.std.proofs.lemmas.List.{take-append-le}
use Rattle.basics.specs.Text.{text}
use Rattle.rules.specs.Sizes.{yard}
use Rattle.rules.specs.Numbers.{lent, first_reason}
use Rattle.rules.specs.Checker.{checked}
use Rattle.rules.specs.Report.{refused_line}
use Rattle.texts.specs.Said.{placed, joined}
use Rattle.texts.proofs.Fitting.{all_fit}
use Rattle.accept.specs.Words.{most_kept, with_last, answer_line}

-- ---- the numbers that are kept

module _ (n : ℕ) (kept : List ℕ) (count : ℕ) (whole : length kept ≡ most_kept) where
  pub one_kept : count < most_kept → take (count + 1) (set kept count n) ≡ with_last n (take count kept)
  unfolding with_last
  one_kept h =
      let all = take count kept ++ (n ∷ []) in
      let size = length-append (take count kept) (n ∷ []) in
      let front = length-take-le count kept (omega arith) in
      rw add-one (take-suc-set kept count n (omega arith)) ∙ sym (take_all most_kept all (omega arith))

  pub none_kept : count ≡ most_kept → take count kept ≡ with_last n (take count kept)
  unfolding with_last
  none_kept e =
      let all : take count kept ≡ kept = take_all count kept (omega arith) in
      rw all (sym (take-append-le most_kept kept (n ∷ []) (omega arith) ∙ take_all most_kept kept (omega arith)))

-- ---- a day that is cut short

pub day_short : (input log : List ℕ) (begin : ℕ) (order : List ℕ) → length input < 256 → lent ≡ checked yard (take 256 input) log begin order
unfolding checked first_reason
day_short input log begin order h =
    let all = take_all 256 input (omega arith) in
    rw (ne_eqb (length (take 256 input)) 256 (λ e. absurd (omega (arith, e, ap length all))))

-- ---- the line

-- `accepted` is put into a buffer that has room for it
pub accepted_line : (out : List ℕ) {last : List ℕ} {end : ℕ} → (last, end) ≡ placed out 0 (text "accepted\n" ∷ []) → 16 ≤ length out → take end last ≡ answer_line 0
unfolding text answer_line joined
accepted_line out e h = all_fit out (text "accepted\n" ∷ []) e (omega arith)

-- a number that is not 0 is printed behind `refused`
pub refused_answer : (number : ℕ) → (number ≡ 0 → ⊥) → refused_line number ≡ answer_line number
unfolding answer_line
refused_answer number h = rw (ne_eqb number 0 h)
