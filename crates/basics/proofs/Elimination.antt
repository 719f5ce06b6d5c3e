-- Laws of elimination: who is clear, what taking one leaves, cycles of those left, and lists that take the lowest each time.
-- Such a list lacks one left exactly if there is a cycle, keeps every pair, and is the only one where keys differ.
-- Assumes nothing.
use mathlib.Core.Path.{◌≡◌, refl, sym, ◌∙◌, ap, ap₂, subst}
use mathlib.Core.Logic.{⊎_elim, ◌↔◌}
use mathlib.Core.Bool.{Bool, true, false, not, ◌&&◌}
use mathlib.Core.List.{List, ◌∷◌}
use Prim.Native.Nat.{ℕ, ◌<◌, ◌≤◌}
use native.Mathlib.Omega.{arith}
use lib.Dec.{eqb}
use lib.ListN.{length}
use borrow.Author.Tests.{ne_eqb, eqb-false, not-true, not-false}
use Rattle.basics.specs.Below.{count_below}
use Rattle.basics.specs.Lists.{member, distinct, keeps}
use Rattle.basics.specs.Walk.{Walk, last, then, Cycle}
use Rattle.basics.specs.Elimination.{clear, without, LeftPair, TakesLowest, stop, take}
use Rattle.basics.proofs.Bools.{clash, false_of_not, and_left, and_right, and_both}
use Rattle.basics.proofs.Below.{any_at, any_false, count_lt}
use Rattle.basics.proofs.Lists.{member_nil, member_cases, member_head, member_tail, member_neither, keeps_nil, keeps_cons, distinct_nil, distinct_cons}
use Rattle.basics.proofs.Walk.{join, map_cycle, last_step, stuck_loop}

module _ (n : ℕ) (before : ℕ → ℕ → Bool) where
  -- who is clear is left, and nobody left stands before him
  pub clear_left : (left : ℕ → Bool) (m : ℕ) → clear n before left m ≡ true → left m ≡ true
  unfolding clear
  clear_left left m e = and_left (left m) _ e

  pub clear_nobody : (left : ℕ → Bool) (m : ℕ) → clear n before left m ≡ true → (k : ℕ) → k < n → left k ≡ true → before k m ≡ false
  unfolding clear
  clear_nobody left m e k h l =
      let none = any_false (λ j. left j && before j m) n (not-true _ (and_right (left m) _ e)) k h in
      false_of_not (before k m) (λ b. clash (and_both (left k) (before k m) l b) none)

  -- who has one left before him is not clear
  pub pair_not_clear : (left : ℕ → Bool) (k m : ℕ) → LeftPair n before left k m → clear n before left m ≡ false
  pair_not_clear left k m s = false_of_not (clear n before left m) (λ e. clash s.4 (clear_nobody left m e k s.0 s.2))

  -- who is left and not clear has one left before him
  pub not_clear_pair : (left : ℕ → Bool) (m : ℕ) → m < n → left m ≡ true → clear n before left m ≡ false → (k : ℕ) × LeftPair n before left k m
  unfolding clear
  not_clear_pair left m h l e =
      let r = any_at (λ j. left j && before j m) n (not-false _ (rw l at e)) in
      let k = r.0 in
      (k, (r.1, h, and_left (left k) (before k m) r.2, l, and_right (left k) (before k m) r.2))

  -- once m is taken, those left are the others that were left
  pub without_left : (left : ℕ → Bool) (m k : ℕ) → without n before left m k ≡ true → left k ≡ true
  unfolding without
  without_left left m k e = and_left (left k) (not (eqb k m)) e

  pub without_other : (left : ℕ → Bool) (m k : ℕ) → without n before left m k ≡ true → k ≡ m → ⊥
  unfolding without
  without_other left m k e = eqb-false k m (not-true (eqb k m) (and_right (left k) (not (eqb k m)) e))

  pub without_of : (left : ℕ → Bool) (m k : ℕ) → left k ≡ true → (k ≡ m → ⊥) → without n before left m k ≡ true
  unfolding without
  without_of left m k l d = and_both (left k) (not (eqb k m)) l (ap not (ne_eqb k m d))

  pub without_itself : (left : ℕ → Bool) (m : ℕ) → without n before left m m ≡ false
  without_itself left m = false_of_not (without n before left m m) (λ e. without_other left m m e refl)

  -- taking one leaves fewer
  pub without_fewer : (left : ℕ → Bool) (m : ℕ) → m < n → left m ≡ true → count_below (without n before left m) n < count_below left n
  without_fewer left m h l = count_lt (without n before left m) left n (λ i k. without_left left m i) m h (without_itself left m) l

  -- a pair of those left later was one before
  pub pair_before : (left : ℕ → Bool) (m j k : ℕ) → LeftPair n before (without n before left m) j k → LeftPair n before left j k
  pair_before left m j k s = (s.0, s.1, without_left left m j s.2, without_left left m k s.3, s.4)

  -- where somebody is left and nobody is clear there is a cycle
  pub stuck_cycle : (left : ℕ → Bool) → ((m : ℕ) → m < n → clear n before left m ≡ false) → (m : ℕ) → m < n → left m ≡ true
      → Cycle (LeftPair n before left)
  stuck_cycle left none m h l =
      stuck_loop left (Walk (LeftPair n before left)) (λ a b c. join) n
      ((λ k i t. let r = not_clear_pair left k i t (none k i) in (r.0, r.1.0, r.1.2, last r.1)), (m, h, l))

  -- nobody on a cycle is clear
  pub cycle_not_clear : (left : ℕ → Bool) {a b : ℕ} → Walk (LeftPair n before left) b a → clear n before left a ≡ false
  cycle_not_clear left {a} w = let r = last_step w in pair_not_clear left r.0 a r.1

  -- whoever a walk leads to is not the one that is clear
  not_taken : (left : ℕ → Bool) (m : ℕ) → clear n before left m ≡ true → {a b : ℕ} → Walk (LeftPair n before left) b a → a ≡ m → ⊥
  not_taken left m c w q = clash c (ap (clear n before left) (sym q) ∙ cycle_not_clear left w)

  pair_kept : (left : ℕ → Bool) (m : ℕ) → clear n before left m ≡ true → (a b : ℕ) → (a ≡ m → ⊥) → LeftPair n before left a b
      → LeftPair n before (without n before left m) a b
  pair_kept left m c a b d s = (s.0, s.1, without_of left m a s.2 d, without_of left m b s.3 (not_taken left m c (last s)), s.4)

  -- taking one that is clear keeps a walk from any other
  walk_kept : (left : ℕ → Bool) (m : ℕ) → clear n before left m ≡ true → {a b : ℕ} → (a ≡ m → ⊥) → Walk (LeftPair n before left) a b
      → Walk (LeftPair n before (without n before left m)) a b
  walk_kept left m c {a} {b} d (last s) = last (pair_kept left m c a b d s)
  walk_kept left m c {a} d (then {b = b} s w) = then (pair_kept left m c a b d s) (walk_kept left m c (not_taken left m c (last s)) w)

  -- and so every cycle
  pub cycle_kept : (left : ℕ → Bool) (m : ℕ) → clear n before left m ≡ true → {a : ℕ} → Walk (LeftPair n before left) a a
      → Walk (LeftPair n before (without n before left m)) a a
  cycle_kept left m c w = walk_kept left m c (not_taken left m c w) w

  -- taking one that is clear neither makes nor ends a cycle
  pub cycle_without : (left : ℕ → Bool) (m : ℕ) → clear n before left m ≡ true
      → Cycle (LeftPair n before left) ↔ Cycle (LeftPair n before (without n before left m))
  cycle_without left m c = (λ d. (d.0, cycle_kept left m c d.1), map_cycle (pair_before left m))

  module _ (key : ℕ → ℕ) where
    -- a list that takes the lowest each time: its members are left
    pub takes_members : {left : ℕ → Bool} {xs : List ℕ} → TakesLowest n before key left xs → (k : ℕ) → member k xs ≡ true → (k < n) × (left k ≡ true)
    takes_members (stop none) k i = absurd (clash i (member_nil k))
    takes_members (take {left = left} {rest = rest} m h c low t) k i =
        ⊎_elim (λ q. (rw q h, ap left q ∙ clear_left left m c))
        (λ j. let r = takes_members t k j in (r.0, without_left left m k r.1))
        (member_cases k m rest i)

    -- none stands in it twice
    pub takes_distinct : {left : ℕ → Bool} {xs : List ℕ} → TakesLowest n before key left xs → distinct xs ≡ true
    takes_distinct (stop none) = distinct_nil
    takes_distinct (take {left = left} {rest = rest} m h c low t) =
        distinct_cons m rest (false_of_not (member m rest) (λ i. without_other left m m (takes_members t m i).1 refl)) (takes_distinct t)

    -- it is no longer than those left are many
    pub takes_length : {left : ℕ → Bool} {xs : List ℕ} → TakesLowest n before key left xs → length xs ≤ count_below left n
    takes_length (stop none) = omega arith
    takes_length (take {left = left} m h c low t) =
        let rest = takes_length t in
        let fewer = without_fewer left m h (clear_left left m c) in
        omega arith

    -- it keeps every pair
    pub takes_keeps : {left : ℕ → Bool} {xs : List ℕ} → TakesLowest n before key left xs → keeps before xs ≡ true
    takes_keeps (stop none) = keeps_nil before
    takes_keeps (take {left = left} {rest = rest} m h c low t) =
        keeps_cons before m rest (λ k i. let r = takes_members t k i in clear_nobody left m c k r.0 (without_left left m k r.1)) (takes_keeps t)

    -- nobody on a cycle stands in it
    pub takes_no_cycle : {left : ℕ → Bool} {xs : List ℕ} → TakesLowest n before key left xs → {a : ℕ} → Walk (LeftPair n before left) a a → member a xs ≡ false
    takes_no_cycle (stop none) {a} w = member_nil a
    takes_no_cycle (take {left = left} {rest = rest} m h c low t) {a} w =
        member_neither a m rest (not_taken left m c w) (takes_no_cycle t (cycle_kept left m c w))

    -- where one left is missing from it there is a cycle
    pub takes_missing : {left : ℕ → Bool} {xs : List ℕ} → TakesLowest n before key left xs → (k : ℕ) → k < n → left k ≡ true → member k xs ≡ false
        → Cycle (LeftPair n before left)
    takes_missing {left = left} (stop none) k h l i = stuck_cycle left none k h l
    takes_missing (take {left = left} {rest = rest} m h c low t) k i l f =
        map_cycle (pair_before left m)
        (takes_missing t k i (without_of left m k l (λ q. clash (member_head k m rest q) f))
        (false_of_not (member k rest) (λ j. clash (member_tail k m rest j) f)))

    -- the keys of those left differ
    abbrev pub Differ : (ℕ → Bool) → Type 0
    Differ left = (i j : ℕ) → i < n → j < n → left i ≡ true → left j ≡ true → key i ≡ key j → i ≡ j

    -- where they do, there is one such list
    pub takes_unique : {left : ℕ → Bool} {xs ys : List ℕ} → Differ left → TakesLowest n before key left xs → TakesLowest n before key left ys → xs ≡ ys
    takes_unique d (stop none) (stop none') = refl
    takes_unique d (stop none) (take m h c low t) = absurd (clash c (none m h))
    takes_unique d (take m h c low t) (stop none) = absurd (clash c (none m h))
    takes_unique {left} d (take {rest = xs} m h c low t) (take {rest = ys} k i e below u) =
        let x = low k i e in
        let y = below m h c in
        let q = d k m i h (clear_left left k e) (clear_left left m c) (omega arith) in
        ap₂ ◌∷◌ (sym q)
        (takes_unique (λ a b ha hb la lb. d a b ha hb (without_left left m a la) (without_left left m b lb)) t
        (subst (λ (j : ℕ). TakesLowest n before key (without n before left j) ys) q u))
