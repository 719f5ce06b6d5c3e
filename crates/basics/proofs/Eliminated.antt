-- The order by elimination: it takes the lowest each time, it gives everybody exactly if there is no cycle, and it looks only below the limit.
-- Assumes nothing.
use mathlib.Core.Path.{◌≡◌, refl, sym, ◌∙◌, ap, ap₂, subst}
use mathlib.Core.Logic.{◌↔◌}
use mathlib.Core.Bool.{Bool, true, false, not, cond, ◌&&◌}
use mathlib.Core.List.{List, [], ◌∷◌}
use Prim.Native.Nat.{ℕ, zero, suc, ◌<◌, ◌≤◌}
use native.Mathlib.Omega.{arith}
use lib.Dec.{ltb, eqb}
use lib.ListN.{length}
use borrow.Author.Tests.{ltb-true, ltb-false, lt-ltb, le-ltb}
use Rattle.basics.specs.Below.{any_below, count_below}
use Rattle.basics.specs.Lists.{member, distinct, keeps}
use Rattle.basics.specs.Walk.{Walk, Cycle}
use Rattle.basics.specs.Elimination.{clear, without, LeftPair, next, taken, eliminated, gives_all, TakesLowest, stop, take}
use Rattle.basics.proofs.Bools.{split, clash, false_of_not, true_of_not, same_tests, and_both, and_fails_left, and_fails_right}
use Rattle.basics.proofs.Below.{Agree, all_at, all_false, any_at, any_false, any_cong, all_cong, count_zero, count_at_most}
use Rattle.basics.proofs.Search.{lowest_passes, lowest_key, lowest_none, lowest_cong, lowest_at_most, lowest_nobody}
use Rattle.basics.proofs.Lists.{keeps_places, place}
use Rattle.basics.proofs.Walk.{last_step, ranked_no_cycle}
use Rattle.basics.proofs.Elimination.{clear_left, without_fewer, takes_members, takes_distinct, takes_keeps, takes_no_cycle, takes_missing, takes_unique, takes_length, Differ, cycle_without, stuck_cycle}

module _ (n : ℕ) (before : ℕ → ℕ → Bool) where
  -- by a pass over those left: who is left is clear if the pass finds nobody before him, and is not if it finds one; who is not left is not clear
  pub clear_open : (left : ℕ → Bool) (m : ℕ) → left m ≡ true → any_below (λ k. left k && before k m) n ≡ false → clear n before left m ≡ true
  unfolding clear
  clear_open left m l none = and_both (left m) _ l (ap not none)

  pub clear_blocked : (left : ℕ → Bool) (m : ℕ) → any_below (λ k. left k && before k m) n ≡ true → clear n before left m ≡ false
  unfolding clear
  clear_blocked left m some = and_fails_right (left m) _ (ap not some)

  pub clear_gone : (left : ℕ → Bool) (m : ℕ) → left m ≡ false → clear n before left m ≡ false
  unfolding clear
  clear_gone left m l = and_fails_left (left m) _ l

module _ (n : ℕ) (before : ℕ → ℕ → Bool) (key : ℕ → ℕ) where
  -- the next one is clear and has the lowest key; where there is none, nobody is clear
  pub next_at_most : (left : ℕ → Bool) → next n before key left ≤ n
  unfolding next
  next_at_most left = lowest_at_most (clear n before left) key n

  pub next_clear : (left : ℕ → Bool) → next n before key left < n → clear n before left (next n before key left) ≡ true
  unfolding next
  next_clear left = lowest_passes (clear n before left) key n

  pub next_lowest : (left : ℕ → Bool) → next n before key left < n
      → (k : ℕ) → k < n → clear n before left k ≡ true → key (next n before key left) ≤ key k
  unfolding next
  next_lowest left = lowest_key (clear n before left) key n

  pub next_none : (left : ℕ → Bool) → next n before key left ≡ n → (m : ℕ) → m < n → clear n before left m ≡ false
  unfolding next
  next_none left = lowest_none (clear n before left) key n

  -- one more round takes the next one, or ends
  pub taken_more : (rounds : ℕ) (left : ℕ → Bool) → next n before key left < n
      → taken n before key (suc rounds) left ≡ next n before key left ∷ taken n before key rounds (without n before left (next n before key left))
  unfolding taken
  taken_more rounds left h = rw (lt-ltb (next n before key left) n h)

  pub taken_end : (rounds : ℕ) (left : ℕ → Bool) → next n before key left ≡ n → taken n before key rounds left ≡ []
  unfolding taken
  taken_end zero left e = refl
  taken_end (suc rounds) left e = rw (le-ltb (next n before key left) n (omega arith))

  -- as many rounds as there are left take the lowest each time
  pub taken_takes : (rounds : ℕ) (left : ℕ → Bool) → count_below left n ≤ rounds → TakesLowest n before key left (taken n before key rounds left)
  unfolding taken
  taken_takes zero left h =
      stop (λ m k. false_of_not (clear n before left m) (λ c. clash (clear_left n before left m c) (count_zero left n (omega arith) m k)))
  taken_takes (suc rounds) left h =
      let m = next n before key left in
      split (ltb m n)
      (λ e.
      let k = ltb-true m n e in
      let c = next_clear left k in
      let fewer = without_fewer n before left m k (clear_left n before left m c) in
      rw e (take m k c (next_lowest left k) (taken_takes rounds (without n before left m) (omega arith))))
      (λ e. let k = ltb-false m n e in let l = next_at_most left in rw e (stop (next_none left (omega arith))))

  -- where nobody is left, or as soon as nobody is clear, there is no next one
  pub next_nobody : (left : ℕ → Bool) → ((m : ℕ) → m < n → clear n before left m ≡ false) → next n before key left ≡ n
  unfolding next
  next_nobody left = lowest_nobody (clear n before left) key n

  pub next_empty : (left : ℕ → Bool) → ((m : ℕ) → m < n → left m ≡ false) → next n before key left ≡ n
  next_empty left none =
      next_nobody left (λ m h. false_of_not (clear n before left m) (λ c. clash (clear_left n before left m c) (none m h)))

  -- any number of rounds that is large enough gives the same
  taken_enough : (r s : ℕ) (left : ℕ → Bool) → count_below left n ≤ r → count_below left n ≤ s → taken n before key r left ≡ taken n before key s left
  taken_enough zero s left h k = let e = next_empty left (count_zero left n (omega arith)) in taken_end 0 left e ∙ sym (taken_end s left e)
  taken_enough (suc r) zero left h k = let e = next_empty left (count_zero left n (omega arith)) in taken_end (suc r) left e ∙ sym (taken_end 0 left e)
  taken_enough (suc r) (suc s) left h k =
      let m = next n before key left in
      split (ltb m n)
      (λ e.
      let l = ltb-true m n e in
      let fewer = without_fewer n before left m l (clear_left n before left m (next_clear left l)) in
      taken_more r left l
      ∙ ap (λ xs. m ∷ xs) (taken_enough r s (without n before left m) (omega arith) (omega arith))
      ∙ sym (taken_more s left l))
      (λ e.
      let l = next_at_most left in
      let g = ltb-false m n e in
      let end : m ≡ n = omega arith in
      taken_end (suc r) left end ∙ sym (taken_end (suc s) left end))

  -- the order is the next one and then the order of those left without it; it is empty where there is no next one
  pub eliminated_more : (left : ℕ → Bool) → next n before key left < n
      → eliminated n before key left ≡ next n before key left ∷ eliminated n before key (without n before left (next n before key left))
  unfolding eliminated
  eliminated_more left h =
      let m = next n before key left in
      let most = count_at_most left n in
      let fewer = without_fewer n before left m h (clear_left n before left m (next_clear left h)) in
      taken_enough n (suc n) left most (omega arith) ∙ taken_more n left h

  pub eliminated_end : (left : ℕ → Bool) → next n before key left ≡ n → eliminated n before key left ≡ []
  unfolding eliminated
  eliminated_end = taken_end n

  module _ (left : ℕ → Bool) where
    -- the order takes the lowest each time
    pub eliminated_takes : TakesLowest n before key left (eliminated n before key left)
    unfolding eliminated
    eliminated_takes = taken_takes n left (count_at_most left n)

    -- where the keys of those left differ, nothing else does
    pub eliminated_unique : Differ n before key left → (xs : List ℕ) → TakesLowest n before key left xs → eliminated n before key left ≡ xs
    eliminated_unique d xs = takes_unique n before key d eliminated_takes

    -- each member is left, none stands in it twice, it is no longer than those left are many, and it keeps every pair
    pub eliminated_members : (k : ℕ) → member k (eliminated n before key left) ≡ true → (k < n) × (left k ≡ true)
    eliminated_members = takes_members n before key eliminated_takes

    pub eliminated_distinct : distinct (eliminated n before key left) ≡ true
    eliminated_distinct = takes_distinct n before key eliminated_takes

    pub eliminated_length : length (eliminated n before key left) ≤ count_below left n
    eliminated_length = takes_length n before key eliminated_takes

    pub eliminated_keeps : keeps before (eliminated n before key left) ≡ true
    eliminated_keeps = takes_keeps n before key eliminated_takes

    -- one left that it lacks shows a cycle, and it lacks everybody on a cycle
    pub eliminated_missing : (k : ℕ) → k < n → left k ≡ true → member k (eliminated n before key left) ≡ false → Cycle (LeftPair n before left)
    eliminated_missing = takes_missing n before key eliminated_takes

    pub eliminated_no_cycle : {a : ℕ} → Walk (LeftPair n before left) a a → member a (eliminated n before key left) ≡ false
    eliminated_no_cycle = takes_no_cycle n before key eliminated_takes

    -- without a cycle its members are exactly those left
    pub eliminated_exactly : ¬ Cycle (LeftPair n before left) → (k : ℕ)
        → (member k (eliminated n before key left) ≡ true) ↔ ((k < n) × (left k ≡ true))
    eliminated_exactly none k =
        (eliminated_members k, λ h. true_of_not (member k (eliminated n before key left)) (λ f. none (eliminated_missing k h.0 h.1 f)))

    -- elimination gives everybody exactly if there is no cycle
    pub gives_all_member : gives_all n before key left ≡ true → (k : ℕ) → k < n → left k ≡ true → member k (eliminated n before key left) ≡ true
    unfolding gives_all
    gives_all_member e k h l = rw l at (all_at (λ j. cond (left j) (member j (eliminated n before key left)) true) n e k h)

    pub not_all_cycle : gives_all n before key left ≡ false → Cycle (LeftPair n before left)
    unfolding gives_all
    not_all_cycle e =
        let r = all_false (λ j. cond (left j) (member j (eliminated n before key left)) true) n e in
        let k = r.0 in
        split (left k) (λ l. eliminated_missing k r.1 l (rw l at r.2)) (λ l. absurd (clash refl (rw l at r.2)))

    pub cycle_not_all : Cycle (LeftPair n before left) → gives_all n before key left ≡ false
    cycle_not_all c =
        let s = (last_step c.1).1 in
        false_of_not (gives_all n before key left) (λ e. clash (gives_all_member e c.0 s.1 s.3) (eliminated_no_cycle c.1))

    pub gives_all_iff : (gives_all n before key left ≡ true) ↔ (¬ Cycle (LeftPair n before left))
    gives_all_iff = (λ e c. clash e (cycle_not_all c), λ none. true_of_not (gives_all n before key left) (λ e. none (not_all_cycle e)))

  -- taking one that is clear changes nothing; where nobody is left all are given, and where somebody is left and nobody clear, not
  pub gives_all_without : (left : ℕ → Bool) (m : ℕ) → clear n before left m ≡ true
      → gives_all n before key left ≡ gives_all n before key (without n before left m)
  gives_all_without left m c =
      let rest = without n before left m in
      let one = cycle_without n before left m c in
      same_tests (gives_all n before key left) (gives_all n before key rest)
      (λ e. (gives_all_iff rest).1 (λ d. (gives_all_iff left).0 e (one.1 d)))
      (λ e. (gives_all_iff left).1 (λ d. (gives_all_iff rest).0 e (one.0 d)))

  pub gives_all_empty : (left : ℕ → Bool) → ((m : ℕ) → m < n → left m ≡ false) → gives_all n before key left ≡ true
  gives_all_empty left none = (gives_all_iff left).1 (λ c. let s = (last_step c.1).1 in clash s.3 (none c.0 s.1))

  pub gives_all_stuck : (left : ℕ → Bool) → ((m : ℕ) → m < n → clear n before left m ≡ false) → (m : ℕ) → m < n → left m ≡ true
      → gives_all n before key left ≡ false
  gives_all_stuck left none m h l = cycle_not_all left (stuck_cycle n before left none m h l)

  -- where nobody is clear, somebody is left exactly if not all are given
  pub gives_all_left : (left : ℕ → Bool) → ((m : ℕ) → m < n → clear n before left m ≡ false) → any_below left n ≡ not (gives_all n before key left)
  gives_all_left left none =
      split (any_below left n)
      (λ e. let r = any_at left n e in e ∙ sym (ap not (gives_all_stuck left none r.0 r.1 r.2)))
      (λ e. e ∙ sym (ap not (gives_all_empty left (any_false left n e))))

-- where a list keeps a relation and holds both ends of each step, and no step leads from one to itself, there is no cycle
pub keeps_no_cycle : {Step : ℕ → ℕ → Type 0} (before : ℕ → ℕ → Bool) (xs : List ℕ) → keeps before xs ≡ true
    → ((k m : ℕ) → Step k m → (member k xs ≡ true) × (member m xs ≡ true) × (before k m ≡ true))
    → ((k : ℕ) → ¬ Step k k) → ¬ Cycle Step
keeps_no_cycle {Step} before xs e holds alone =
    ranked_no_cycle (λ k. place k xs)
    (λ k m s.
    let h = holds k m s in
    keeps_places before xs e k m h.0 h.1 h.2 (λ q. alone m (subst (λ (j : ℕ). Step j m) q s)))

module _ (n : ℕ) (before before' : ℕ → ℕ → Bool) (same : (k m : ℕ) → k < n → m < n → before k m ≡ before' k m) where
  -- what agrees below the limit gives the same
  pub clear_cong : (left left' : ℕ → Bool) → Agree n left left' → Agree n (clear n before left) (clear n before' left')
  unfolding clear
  clear_cong left left' h m k = ap₂ (λ a b. a && not b) (h m k) (any_cong _ _ n (λ i l. ap₂ ◌&&◌ (h i l) (same i m l k)))

  pub without_cong : (left left' : ℕ → Bool) (m : ℕ) → Agree n left left' → Agree n (without n before left m) (without n before' left' m)
  unfolding without
  without_cong left left' m h k l = ap (λ a. a && not (eqb k m)) (h k l)

  module _ (key key' : ℕ → ℕ) (alike : Agree n key key') where
    pub next_cong : (left left' : ℕ → Bool) → Agree n left left' → next n before key left ≡ next n before' key' left'
    unfolding next
    next_cong left left' h = lowest_cong (clear n before left) (clear n before' left') key key' n (clear_cong left left' h) alike

    pub taken_cong : (rounds : ℕ) (left left' : ℕ → Bool) → Agree n left left' → taken n before key rounds left ≡ taken n before' key' rounds left'
    unfolding taken
    taken_cong zero left left' h = refl
    taken_cong (suc rounds) left left' h =
        let m = next n before key left in
        let m' = next n before' key' left' in
        ap₂ (λ j xs. cond (ltb j n) (j ∷ xs) []) (next_cong left left' h)
        (taken_cong rounds (without n before left m) (without n before' left' m) (without_cong left left' m h)
        ∙ ap (λ j. taken n before' key' rounds (without n before' left' j)) (next_cong left left' h))

    pub eliminated_cong : (left left' : ℕ → Bool) → Agree n left left' → eliminated n before key left ≡ eliminated n before' key' left'
    unfolding eliminated
    eliminated_cong = taken_cong n

    pub gives_all_cong : (left left' : ℕ → Bool) → Agree n left left' → gives_all n before key left ≡ gives_all n before' key' left'
    unfolding gives_all
    gives_all_cong left left' h =
        all_cong _ _ n (λ k l. ap₂ (λ a xs. cond a (member k xs) true) (h k l) (eliminated_cong left left' h))
