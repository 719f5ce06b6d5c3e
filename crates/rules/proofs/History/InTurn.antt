-- The transactions of a list one after the other: a t-sequential history that is equivalent to the whole if the list has all of them once. And what
-- equivalent histories share. Rests on HistoryParts and EventOrder. Assumes nothing.
use Prim.Native.Nat.{ℕ}
use mathlib.Core.Path.{◌≡◌, refl, sym, ◌∙◌, ap, ap₂, subst}
use mathlib.Core.Logic.{◌↔◌, ⊎_elim, ⊎_map}
use mathlib.Core.Bool.{true, false}
use mathlib.Core.List.Memᴰ
use mathlib.Core.List.{List, [], ◌∷◌, ◌++◌, Memᴰ, append-nil, append_assoc}
use lib.Dec.{eqb}
use borrow.Author.Tests.{eq-eqb}
use Rattle.basics.specs.Lists.{member, distinct}
use Rattle.basics.proofs.Bools.{split, clash, equal_or_not}
use Rattle.basics.proofs.Earlier.{Earlier, listed_apart}
use Rattle.basics.proofs.Lists.{member_nil, member_head, member_tail, member_cases, member_rest, distinct_head, distinct_tail}
use Rattle.rules.specs.Day.{Event}
use Rattle.rules.specs.History.{Before, Txn, Wholly, TSequential, only, Equivalent, ListsAll, in_turn}
use Rattle.rules.proofs.History.EventOrder.{Single, before_whole, before_part}
use Rattle.rules.proofs.History.HistoryParts.{sub_all, only_of, only_append, only_nobody}

-- ---- equivalent histories

-- they have the same events
pub equivalent_events : (s h : List Event) → Equivalent s h → {e : Event} → Memᴰ e s ↔ Memᴰ e h
equivalent_events s h same {e} = (moved s h (same e.who), moved h s (sym (same e.who)))
  where
    moved : (a b : List Event) → only e.who a ≡ only e.who b → Memᴰ e a → Memᴰ e b
    moved a b q m = ((only_of e.who b).0 (subst (Memᴰ e) q ((only_of e.who a).1 (m, refl)))).0

-- if no event comes twice in the one, none does in the other
pub single_equivalent : (s h : List Event) → Equivalent s h → Single h → Single s
unfolding only
single_equivalent s h same single e b =
    let mine = eq-eqb e.who e.who refl in
    let own = before_part (λ k. eqb k e.who) e e mine mine s b in
    single e (before_whole (λ k. eqb k e.who) e e h (subst (λ (ys : List Event). Before ys e e) (same e.who) own))

-- ---- one transaction

-- a transaction's own events are all its own, and none is another's
only_again : (k : ℕ) (h : List Event) → only k (only k h) ≡ only k h
unfolding only
only_again k h = sub_all (λ m. eqb m k) (only k h) (λ e m. eq-eqb e.who k ((only_of k h).0 m).1)

only_apart : (k m : ℕ) (h : List Event) → (k ≡ m → ⊥) → only k (only m h) ≡ []
only_apart k m h d = only_nobody k (only m h) (λ x. d (sym x.1.1 ∙ ((only_of m h).0 x.1.0).1))

-- ---- one after the other

module _ (h : List Event) where
  -- nobody, and one more listed first
  turn_nobody : in_turn h [] ≡ []
  unfolding in_turn
  turn_nobody = refl

  turn_more : (k : ℕ) (later : List ℕ) → in_turn h (k ∷ later) ≡ in_turn h later ++ only k h
  unfolding in_turn
  turn_more k later = refl

  -- those listed first are older
  pub turn_append : (before later : List ℕ) → in_turn h (before ++ later) ≡ in_turn h later ++ in_turn h before
  turn_append [] later = rw turn_nobody (sym (append-nil (in_turn h later)))
  turn_append (k ∷ before) later =
      turn_more k (before ++ later) ∙ ap (λ (ys : List Event). ys ++ only k h) (turn_append before later)
      ∙ append_assoc (in_turn h later) (in_turn h before) (only k h) ∙ ap (λ (ys : List Event). in_turn h later ++ ys) (sym (turn_more k before))

  -- its events are those of the listed
  of_turn : (order : List ℕ) {e : Event} → Memᴰ e (in_turn h order) → Memᴰ e h × (member e.who order ≡ true)
  of_turn [] {e} m = absurd (Memᴰ.not-nil (subst (Memᴰ e) turn_nobody m))
  of_turn (k ∷ later) {e} m =
      ⊎_elim (λ i. let r = of_turn later i in (r.0, member_tail e.who k later r.1))
      (λ i. let r = (only_of k h).0 i in (r.0, member_head e.who k later r.1))
      (Memᴰ.append_cases (in_turn h later) (subst (Memᴰ e) (turn_more k later) m))

  in_turn_of : (order : List ℕ) {e : Event} → Memᴰ e h → member e.who order ≡ true → Memᴰ e (in_turn h order)
  in_turn_of [] {e} m i = absurd (clash i (member_nil e.who))
  in_turn_of (k ∷ later) {e} m i =
      rw (turn_more k later)
      (⊎_elim (λ q. Memᴰ.append_right (in_turn h later) ((only_of k h).1 (m, q))) (λ j. Memᴰ.append_left (only k h) (in_turn_of later m j))
      (member_cases e.who k later i))

  -- one who is listed once has just its own events, and one who is not listed has none
  only_unlisted : (k : ℕ) (order : List ℕ) → member k order ≡ false → only k (in_turn h order) ≡ []
  only_unlisted k order n =
      only_nobody k (in_turn h order) (λ x. clash (subst (λ (j : ℕ). member j order ≡ true) x.1.1 (of_turn order x.1.0).1) n)

  only_listed : (k : ℕ) (order : List ℕ) → distinct order ≡ true → member k order ≡ true → only k (in_turn h order) ≡ only k h
  only_listed k [] d i = absurd (clash i (member_nil k))
  only_listed k (m ∷ later) d i =
      let parts = ap (only k) (turn_more m later) ∙ only_append k (in_turn h later) (only m h) in
      equal_or_not k m
      (λ q.
      let unlisted = only_unlisted k later (ap (λ j. member j later) q ∙ distinct_head m later d) in
      parts ∙ ap₂ (λ (xs ys : List Event). xs ++ ys) unlisted (ap (λ j. only k (only j h)) (sym q) ∙ only_again k h))
      (λ q.
      let listed = only_listed k later (distinct_tail m later d) (member_rest k m later q i) in
      parts ∙ ap₂ (λ (xs ys : List Event). xs ++ ys) listed (only_apart k m h q) ∙ append-nil (only k h))

-- the transactions of a list of all one after the other have the events of the whole
pub in_turn_equivalent : (h : List Event) (order : List ℕ) → ListsAll h order → Equivalent (in_turn h order) h
in_turn_equivalent h order lists k =
    split (member k order) (only_listed h k order lists.once)
    (λ n. only_unlisted h k order n ∙ sym (only_nobody k h (λ x. clash ((lists.all k).1 x) n)))

module _ (h : List Event) (order : List ℕ) where
  -- one that is listed earlier is wholly before one that is listed later
  pub in_turn_wholly : (k m : ℕ) → Earlier order k m → Wholly (in_turn h order) k m
  in_turn_wholly k m a e f o p =
      record {
        newer = in_turn h a.later;
        older = in_turn h a.before;
        split = ap (in_turn h) a.split ∙ turn_append h a.before a.later;
        first = in_turn_of h a.before (of_turn h order o.0).0 (ap (λ n. member n a.before) o.1 ∙ a.first);
        second = in_turn_of h a.later (of_turn h order p.0).0 (ap (λ n. member n a.later) p.1 ∙ a.second);
      }

  -- no two of them overlap
  pub in_turn_sequential : TSequential (in_turn h order)
  in_turn_sequential k m x y d = ⊎_map (in_turn_wholly k m) (in_turn_wholly m k) (listed_apart order k m d (listed k x) (listed m y))
    where
      listed : (n : ℕ) → Txn (in_turn h order) n → member n order ≡ true
      listed n z = subst (λ (j : ℕ). member j order ≡ true) z.1.1 (of_turn h order z.1.0).1
