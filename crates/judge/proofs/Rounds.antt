-- The order put into a buffer, one number a round: after each round the numbers put and the order of those left are the order of those present.
-- Assumes nothing.
use mathlib.Core.Path.{◌≡◌, refl, sym, ◌∙◌, ap}
use mathlib.Core.Bool.{Bool, false}
use mathlib.Core.List.{List, [], ◌∷◌, ◌++◌, map, append-nil, map-append}
use Prim.Native.Nat.{ℕ, suc, ◌+◌, ◌<◌, ◌≤◌}
use native.Mathlib.Omega.{arith}
use lib.ListN.{length, get_or, set, drop, length-append, length-map}
use lib.Seq.{append_snoc, drop-cons, set_at}
use Rattle.basics.specs.Below.{count_below}
use Rattle.basics.specs.Bytes.{splice}
use Rattle.basics.specs.Elimination.{without, next, eliminated}
use Rattle.basics.proofs.Below.{count_zero, count_at_most}
use Rattle.basics.proofs.Elimination.{clear_left}
use Rattle.basics.proofs.Eliminated.{next_clear, next_empty, eliminated_more, eliminated_end}
use Rattle.rules.specs.State.{buffer_after}
use Rattle.pairs.specs.Square.{is_in}
use Rattle.judge.proofs.Unmarked.{unmarked_fewer, unmarked_eliminated}

-- the numbers, and from their end on the buffer as it was
buffer_is : (order buffer : List ℕ) → buffer_after order buffer ≡ order ++ drop (length order) buffer
unfolding buffer_after splice
buffer_is order buffer = let e : 0 + length order ≡ length order = omega arith in ap (λ (k : ℕ). order ++ drop k buffer) e

-- one number more, put behind the others
buffer_more : (order buffer : List ℕ) (x count : ℕ) → length order ≡ count → count < length buffer
    → set (buffer_after order buffer) count x ≡ buffer_after (order ++ (x ∷ [])) buffer
buffer_more order buffer x count e h =
    let more : length (order ++ (x ∷ [])) ≡ suc (length order) = simp length-append (omega arith) in
    ap (λ (b : List ℕ). set b count x) (buffer_is order buffer ∙ ap (λ (b : List ℕ). order ++ b) (drop-cons buffer (length order) 0 (omega arith)))
    ∙ set_at order (get_or buffer (length order) 0) (drop (suc (length order)) buffer) x count e
    ∙ sym (append_snoc order x (drop (suc (length order)) buffer))
    ∙ ap (λ (k : ℕ). order ++ (x ∷ []) ++ drop k buffer) (sym more)
    ∙ sym (buffer_is (order ++ (x ∷ [])) buffer)

-- after so many rounds: who was taken first, that their numbers stand in the buffer, and that each round took one of those left
pub record PutSoFar (n : ℕ) (before : ℕ → ℕ → Bool) (key : ℕ → ℕ) (present left : List Bool) (count : ℕ) (buffer₀ buffer : List ℕ) : Type 0 where
  pub first : List ℕ
  pub many : length first ≡ count
  pub rest : eliminated n before key (is_in present) ≡ first ++ eliminated n before key (is_in left)
  pub numbers : buffer ≡ buffer_after (map key first) buffer₀
  pub few : count_below (is_in left) n + count ≤ n

pub put_none : (n : ℕ) (before : ℕ → ℕ → Bool) (key : ℕ → ℕ) (present : List Bool) (buffer : List ℕ)
    → PutSoFar n before key present present 0 buffer buffer
put_none n before key present buffer =
    let most = count_at_most (is_in present) n in
    record { first = []; many = refl; rest = refl; numbers = sym (buffer_is [] buffer); few = omega arith }

module _ {n : ℕ} {before : ℕ → ℕ → Bool} {key : ℕ → ℕ} {present left : List Bool} {count : ℕ} {buffer₀ buffer : List ℕ}
    (sofar : PutSoFar n before key present left count buffer₀ buffer) where
  -- a round takes the next one
  pub put_more : n ≤ length buffer₀ → (m : ℕ) → next n before key (is_in left) ≡ m → m < n
      → PutSoFar n before key present (set left m false) (count + 1) buffer₀ (set buffer count (key m))
  put_more fits m e below =
      let marked = clear_left n before (is_in left) (next n before key (is_in left)) (next_clear n before key (is_in left) (omega arith)) in
      let fewer = unmarked_fewer n before left m (omega arith) (ap (is_in left) (sym e) ∙ marked) in
      let few = sofar.few in
      let many = sofar.many in
      record {
        first = sofar.first ++ (m ∷ []);
        many = simp length-append (omega arith);
        rest =
            sofar.rest
            ∙ ap (λ (xs : List ℕ). sofar.first ++ xs) (eliminated_more n before key (is_in left) (omega arith))
            ∙ ap (λ (k : ℕ). sofar.first ++ (k ∷ eliminated n before key (without n before (is_in left) k))) e
            ∙ ap (λ (xs : List ℕ). sofar.first ++ (m ∷ xs)) (unmarked_eliminated n before left m key)
            ∙ sym (append_snoc sofar.first m (eliminated n before key (is_in (set left m false))));
        numbers =
            ap (λ (b : List ℕ). set b count (key m)) sofar.numbers
            ∙ buffer_more (map key sofar.first) buffer₀ (key m) count (simp length-map many) (omega arith)
            ∙ ap (λ (o : List ℕ). buffer_after o buffer₀) (sym (map-append key sofar.first (m ∷ [])));
        few = omega arith;
      }

  -- where nobody can be taken the order is put
  pub put_all : next n before key (is_in left) ≡ n
      → (count ≡ length (eliminated n before key (is_in present)))
      × (buffer ≡ buffer_after (map key (eliminated n before key (is_in present))) buffer₀)
  put_all end =
      let e = sofar.rest ∙ ap (λ (xs : List ℕ). sofar.first ++ xs) (eliminated_end n before key (is_in left) end) ∙ append-nil sofar.first in
      (sym sofar.many ∙ ap length (sym e), sofar.numbers ∙ ap (λ (o : List ℕ). buffer_after (map key o) buffer₀) (sym e))

  -- after n rounds nobody is left
  pub put_full : n ≤ count → next n before key (is_in left) ≡ n
  put_full h = let few = sofar.few in next_empty n before key (is_in left) (count_zero (is_in left) n (omega arith))
