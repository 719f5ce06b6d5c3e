-- Laws of bytes put in at the front of a buffer, one by one. Assumes nothing.
use mathlib.Core.Path.{◌≡◌, refl, sym, ◌∙◌}
use mathlib.Core.List.{List, [], ◌∷◌, append_assoc}
use Prim.Native.Nat.{ℕ, suc, ◌+◌, ◌<◌, ◌≤◌}
use native.Mathlib.Nat.{le_refl}
use native.Mathlib.Decide.{dec_le}
use native.Mathlib.Numerals.{add-one}
use native.Mathlib.Omega.{arith}
use lib.ListN.{length, get_or, take, drop, set}
use lib.Seq.{drop_at, drop-cons, length-take-le, set_at, take_all, take_at, take-length, take-suc}
use borrow.Author.Tests.{le-leb, lt-leb}
use Rattle.script.specs.Fronts.{at_most, with_front}

pub front_none : (xs bytes : List ℕ) → xs ≡ with_front xs 0 bytes
unfolding with_front
front_none xs bytes = refl

module _ (xs bytes : List ℕ) (n : ℕ) (within : n ≤ length bytes) where
  pub front_more : {ys : List ℕ} {v : ℕ} → n < length xs → n < length bytes → ys ≡ with_front xs n bytes → v ≡ get_or bytes n 0 → set ys n v ≡ with_front xs (n + 1) bytes
  unfolding with_front
  front_more h k e q =
      rw (e, q, drop-cons xs n 0 h, set_at (take n bytes) (get_or xs n 0) (drop (suc n) xs) (get_or bytes n 0) n (length-take-le n bytes within), add-one, take-suc bytes n 0 k)
      (sym (append_assoc (take n bytes) (get_or bytes n 0 ∷ []) (drop (suc n) xs)))

-- what stands at the front, and behind it
module _ (xs bytes : List ℕ) (n : ℕ) (within : n ≤ length bytes) where
  pub front_taken : take n (with_front xs n bytes) ≡ take n bytes
  unfolding with_front
  front_taken = take_at (take n bytes) (drop n xs) n (length-take-le n bytes within)

  pub front_rest : drop n (with_front xs n bytes) ≡ drop n xs
  unfolding with_front
  front_rest = drop_at (take n bytes) (drop n xs) n (length-take-le n bytes within)

-- as many bytes as there are, or as there is room for: as many as there is room for
pub at_most_taken : (room : ℕ) (bytes : List ℕ) {n : ℕ} → n ≡ at_most room (length bytes) → take n bytes ≡ take room bytes
unfolding at_most
at_most_taken room bytes e =
    elim (dec_le (length bytes) room) [
      | yes h ↦ rw (e, le-leb (length bytes) room h) (take-length bytes ∙ sym (take_all room bytes h))
      | no h ↦ rw (e, lt-leb (length bytes) room (omega arith))
    ]

pub at_most_within : (room n : ℕ) {i : ℕ} → i ≡ at_most room n → i ≤ n
unfolding at_most
at_most_within room n e = elim (dec_le n room) [ yes h ↦ rw (e, le-leb n room h) (le_refl n) | no h ↦ rw (e, lt-leb n room (omega arith)) (omega arith) ]
