-- A t-sequential history in which no event comes twice is that of a list of its transactions, one after the other: the newest event's
-- transaction has all its events in front, and the others are again such a history. Rests on HistoryParts, EventOrder and InTurn.
-- Assumes nothing.
use Prim.Native.Nat.{ℕ, zero, suc, ◌≤◌}
use mathlib.Core.Path.{◌≡◌, refl, sym, ◌∙◌, ap}
use mathlib.Core.Logic.{⊎_elim, ⊎_map}
use mathlib.Core.Bool.{Bool, true, false, not}
use mathlib.Core.List.Memᴰ
use mathlib.Core.List.{List, [], ◌∷◌, ◌++◌, Memᴰ}
use lib.ListN.{length}
use lib.Dec.{eqb}
use native.Mathlib.Omega.{arith}
use borrow.Author.Tests.{eqb-true, eqb-false, eq-eqb, ne_eqb, not-true}
use Rattle.basics.specs.Lists.{member, distinct}
use Rattle.basics.proofs.Bools.{split, clash, false_of_not, or_true, or_left, or_right, equal_or_not}
use Rattle.basics.proofs.Lists.{member_append, member_nil, member_head, member_cases, member_neither, distinct_nil, distinct_cons, distinct_append}
use Rattle.rules.specs.Day.{Event}
use Rattle.rules.specs.History.{Before, Txn, Wholly, TSequential, subhist, only, Equivalent, ListsAll, in_turn}
use Rattle.rules.proofs.History.EventOrder.{Single, single_head, single_tail, single_before, single_subhist, before_newest, before_cases, before_subhist}
use Rattle.rules.proofs.History.HistoryParts.{sub_nothing, sub_passes, sub_fails, sub_all, sub_none, subhist_says, only_within, turn_agrees}
use Rattle.rules.proofs.History.InTurn.{single_equivalent, equivalent_events, turn_append}

-- ---- the events of some in front

-- if all events of those among come after all others, the history is their events in front of the others
in_front : (among : ℕ → Bool) (s : List Event) → Single s
    → ((e f : Event) → Memᴰ e s → Memᴰ f s → among e.who ≡ true → among f.who ≡ false → Before s f e)
    → s ≡ subhist among s ++ subhist (λ k. not (among k)) s
in_front among [] single after = rw (sub_nothing among, sub_nothing (λ k. not (among k)))
in_front among (x ∷ t) single after =
    split (among x.who)
    (λ a.
    rw (sub_passes among x t a, sub_fails (λ k. not (among k)) x t (ap not a))
    (ap (λ (ys : List Event). x ∷ ys) (in_front among t (single_tail x t single) (λ e f m n y z. behind m (after e f (Memᴰ.tail m) (Memᴰ.tail n) y z)))))
    (λ a. rw (sub_none among (x ∷ t) (none a), sub_all (λ k. not (among k)) (x ∷ t) (λ e m. ap not (none a e m))))
  where
    behind : {e f : Event} → Memᴰ e t → Before (x ∷ t) f e → Before t f e
    behind m b = ⊎_elim (λ p. absurd (single_head x t single p.0 m)) (λ c. c) (before_cases x t b)

    none : among x.who ≡ false → (e : Event) → Memᴰ e (x ∷ t) → among e.who ≡ false
    none a e m =
        ⊎_elim (λ q. ap (λ (f : Event). among f.who) q ∙ a)
        (λ n. false_of_not (among e.who) (λ y. single_before (x ∷ t) single x e (after e x m (Memᴰ.head refl) y a) (before_newest x t n refl)))
        (Memᴰ.cases_cons m)

-- the others than one
abbrev others : ℕ → ℕ → Bool
others w k = not (eqb k w)

-- of a t-sequential history the transaction of the newest event stands in front
newest_in_front : (e : Event) (rest : List Event) → let s = e ∷ rest in Single s → TSequential s → s ≡ only e.who s ++ subhist (others e.who) s
unfolding only
newest_in_front e rest single seq =
    let s = e ∷ rest in
    in_front (λ k. eqb k e.who) s single λ f g m n y z.
    let other = eqb-false g.who e.who z in
    ⊎_elim (λ whole. whole g f (n, refl) (m, eqb-true f.who e.who y))
    (λ whole.
    absurd
    (⊎_elim (λ q. other (ap (λ (x : Event). x.who) q))
    (λ i. single_before s single e g (whole e g (Memᴰ.head refl, refl) (n, refl)) (before_newest e rest i refl)) (Memᴰ.cases_cons n)))
    (seq g.who e.who (g, (n, refl)) (e, (Memᴰ.head refl, refl)) other)

-- ---- the others

-- a sub-history of a t-sequential history is one
sequential_subhist : (among : ℕ → Bool) (s : List Event) → TSequential s → TSequential (subhist among s)
sequential_subhist among s seq k m x y d = ⊎_map (part k m) (part m k) (seq k m (txn k x) (txn m y) d)
  where
    whole : {e : Event} → Memᴰ e (subhist among s) → Memᴰ e s
    whole i = ((subhist_says among s).0 i).0

    txn : (j : ℕ) → Txn (subhist among s) j → Txn s j
    txn j z = (z.0, (whole z.1.0, z.1.1))

    part : (a b : ℕ) → Wholly s a b → Wholly (subhist among s) a b
    part a b w e f o p = (before_subhist among s e f o.0 p.0).1 (w e f (whole o.0, o.1) (whole p.0, p.1))

-- a sub-history is no longer than the whole
sub_length : (among : ℕ → Bool) (s : List Event) → length (subhist among s) ≤ length s
sub_length among [] = rw (sub_nothing among) (omega arith)
sub_length among (x ∷ t) =
    let rest = sub_length among t in
    split (among x.who) (λ a. rw (sub_passes among x t a) (omega (arith, rest))) (λ a. rw (sub_fails among x t a) (omega (arith, rest)))

-- without one transaction, the others have the events that they had
only_others : (w k : ℕ) (s : List Event) → (k ≡ w → ⊥) → only k (subhist (others w) s) ≡ only k s
only_others w k s d = only_within k (others w) s (ap not (ne_eqb k w d))

-- ---- one after the other

-- one who is listed last stands in front
turn_last : (s : List Event) (order : List ℕ) (w : ℕ) → in_turn s (order ++ (w ∷ [])) ≡ only w s ++ in_turn s order
unfolding in_turn
turn_last s order w = turn_append s order (w ∷ [])

-- a list of its transactions whose events, one after the other, are the history
abbrev Listed : List Event → Type 0
Listed s = (order : List ℕ) × ListsAll s order × (s ≡ in_turn s order)

-- without events there is nobody to list
listed_nobody : Listed []
unfolding in_turn
listed_nobody =
    ([], record { once = distinct_nil; all = λ k. (λ i. absurd (clash i (member_nil k)), λ x. absurd (Memᴰ.not-nil x.1.0)) }, refl)

-- a list of the others, and then one of the transactions
module _ (w : ℕ) (s : List Event) (mine : Txn s w) (order : List ℕ) (lists : ListsAll (subhist (others w) s) order) where
  -- nobody on the list of the others is that one
  other : (k : ℕ) → member k order ≡ true → k ≡ w → ⊥
  other k i q =
      let x = (lists.all k).0 i in
      eqb-false x.0.who w (not-true (eqb x.0.who w) ((subhist_says (others w) s).0 x.1.0).1) (x.1.1 ∙ q)

  -- the longer list has no repeats
  last_once : distinct (order ++ (w ∷ [])) ≡ true
  last_once =
      distinct_append order (w ∷ []) lists.once (distinct_cons w [] (member_nil w) distinct_nil)
      (λ k i. member_neither k w [] (other k i) (member_nil k))

  -- those on the longer list are the transactions of the whole
  last_txn : (k : ℕ) → member k (order ++ (w ∷ [])) ≡ true → Txn s k
  last_txn k i =
      ⊎_elim (λ j. let x = (lists.all k).0 j in (x.0, (((subhist_says (others w) s).0 x.1.0).0, x.1.1)))
      (λ j. ⊎_elim (λ q. (mine.0, (mine.1.0, mine.1.1 ∙ sym q))) (λ n. absurd (clash n (member_nil k))) (member_cases k w [] j))
      (or_true (member k order) (member k (w ∷ [])) (sym (member_append k order (w ∷ [])) ∙ i))

  txn_last : (k : ℕ) → Txn s k → member k (order ++ (w ∷ [])) ≡ true
  txn_last k x =
      member_append k order (w ∷ [])
      ∙ equal_or_not k w (λ q. or_right (member k order) (member k (w ∷ [])) (member_head k w [] q))
      (λ d.
      or_left (member k order) (member k (w ∷ []))
      ((lists.all k).1 (x.0, ((subhist_says (others w) s).1 (x.1.0, ap not (ne_eqb x.0.who w (λ q. d (sym x.1.1 ∙ q)))), x.1.1))))

  -- if its events stand in front, the whole is that of the longer list
  listed_last : s ≡ only w s ++ subhist (others w) s → subhist (others w) s ≡ in_turn (subhist (others w) s) order → Listed s
  listed_last front behind = (
    order ++ (w ∷ []),
    record { once = last_once; all = λ k. (last_txn k, txn_last k) },
    front
        ∙ ap (λ (ys : List Event). only w s ++ ys) (behind ∙ turn_agrees (subhist (others w) s) s order (λ k i. only_others w k s (other k i)))
        ∙ sym (turn_last s order w),
  )

-- a t-sequential history is that of a list, by recursion on a bound of its length
listed : (n : ℕ) (s : List Event) → length s ≤ n → Single s → TSequential s → Listed s
listed zero [] b single seq = listed_nobody
listed zero (e ∷ rest) b single seq = absurd (omega (arith, b))
listed (suc n) [] b single seq = listed_nobody
listed (suc n) (e ∷ rest) b single seq =
    let w = e.who in
    let out = ap not (eq-eqb w w refl) in
    let bound : length (subhist (others w) (e ∷ rest)) ≤ n = rw (sub_fails (others w) e rest out) (omega (arith, b, sub_length (others w) rest)) in
    let l = listed n (subhist (others w) (e ∷ rest)) bound (single_subhist (others w) (e ∷ rest) single) (sequential_subhist (others w) (e ∷ rest) seq) in
    listed_last w (e ∷ rest) (e, (Memᴰ.head refl, refl)) l.0 l.1 (newest_in_front e rest single seq) l.2

-- a t-sequential history that is equivalent to H is that of a list of H's transactions
pub taken_apart : (h s : List Event) → Single h → TSequential s → Equivalent s h → (order : List ℕ) × ListsAll h order × (s ≡ in_turn h order)
taken_apart h s single seq same =
    let l = listed (length s) s (omega arith) (single_equivalent s h same single) seq in
    (l.0, record { once = l.1.once; all = λ k. (λ i. here k ((l.1.all k).0 i), λ x. (l.1.all k).1 (there k x)) }, l.2 ∙ turn_agrees s h l.0 (λ k i. same k))
  where
    here : (k : ℕ) → Txn s k → Txn h k
    here k x = (x.0, ((equivalent_events s h same).0 x.1.0, x.1.1))

    there : (k : ℕ) → Txn h k → Txn s k
    there k x = (x.0, ((equivalent_events s h same).1 x.1.0, x.1.1))
