-- A list is accepted exactly if its transactions one after the other are a t-sequential legal history as definition 5 of source document 000 asks for
-- it, and some list is accepted exactly if the local sub-history is conflict opaque. Rests on InTurn, TakenApart, LegalInTurn, ValidReads and OrdersSay.
-- Assumes nothing.
use Prim.Native.Nat.{ℕ}
use mathlib.Core.Path.{◌≡◌, ◌∙◌, subst}
use mathlib.Core.Logic.Iff
use mathlib.Core.Logic.{◌↔◌, ◌⊎◌, ◌≢◌, inl, inr, ⊎_elim}
use mathlib.Core.Bool.{true}
use mathlib.Core.List.{List}
use Rattle.basics.specs.Lists.{keeps}
use Rattle.basics.proofs.Bools.{clash, false_of_not}
use Rattle.basics.proofs.Earlier.{earlier_listed, listed_apart, keeps_of, keeps_at}
use Rattle.basics.proofs.Says.{and_says}
use Rattle.rules.specs.declared.Record.{Record}
use Rattle.rules.specs.Sizes.{Size}
use Rattle.rules.specs.Layout.{walks}
use Rattle.rules.specs.Day.{Event, events, is_transaction, company_of, day_before}
use Rattle.rules.specs.Checker.{accepted}
use Rattle.rules.specs.History.{Before, Of, Txn, Commits, Reads, Writes, Wholly, RealTime, WriteWrite, WriteRead, ReadWrite, ConflictOrder, Equivalent, Serializes, CoOpaque, ListsAll, local, in_turn, AcceptedSays}
use Rattle.rules.proofs.History.EventOrder.{Single, single_before, single_subhist, events_single}
use Rattle.rules.proofs.History.HistoryParts.{subhist_says}
use Rattle.rules.proofs.History.InTurn.{equivalent_events, single_equivalent, in_turn_equivalent, in_turn_sequential, in_turn_wholly}
use Rattle.rules.proofs.History.LegalInTurn.{legal_says, lists_says}
use Rattle.rules.proofs.History.OrdersSay.{pair_says}
use Rattle.rules.proofs.History.TakenApart.{taken_apart}
use Rattle.rules.proofs.History.ValidReads.{valid_of}

-- ---- orders of equivalent histories

-- in a history with the same events, where T_k is wholly before T_m, the orders hold as in the other
module _ (s h : List Event) (same : Equivalent s h) where
  of_same : {k : ℕ} {e : Event} → Of h k e → Of s k e
  of_same o = ((equivalent_events s h same).1 o.0, o.1)

  module _ (k m : ℕ) (wholly : Wholly s k m) where
    real_time_same : RealTime h k m → RealTime s k m
    real_time_same r =
        let f = r.0 in
        let c = r.1 in
        ((f.0, of_same f.1), (c.0, of_same c.1, c.2), wholly)

    conflict_same : ConflictOrder h k m → ConflictOrder s k m
    conflict_same c = (c.0, ⊎_elim (λ x. inl (write_write x)) (⊎_elim (λ x. inr (inl (write_read x))) (λ x. inr (inr (read_write x)))) c.1)
      where
        writes : {j x : ℕ} → Writes h j x → Writes s j x
        writes w = (w.0, of_same w.1, w.2, w.3)

        commits : {j : ℕ} {e : Event} → Commits h j e → Commits s j e
        commits x = (of_same x.0, x.1)

        reads : {j x : ℕ} {e : Event} → Reads h j x e → Reads s j x e
        reads x = (of_same x.0, x.1, x.2)

        write_write : WriteWrite h k m → WriteWrite s k m
        write_write x =
            (x.0, x.1, x.2, commits x.3, commits x.4, wholly x.1 x.2 (of_same x.3.0) (of_same x.4.0), writes x.6, writes x.7)

        write_read : WriteRead h k m → WriteRead s k m
        write_read x = (x.0, x.1, x.2, commits x.3, reads x.4, wholly x.1 x.2 (of_same x.3.0) (of_same x.4.0), writes x.6)

        read_write : ReadWrite h k m → ReadWrite s k m
        read_write x = (x.0, x.1, x.2, reads x.3, commits x.4, wholly x.1 x.2 (of_same x.3.0) (of_same x.4.0), writes x.6)

-- two transactions in order have an event of the first before one of the second
conflict_events : (h : List Event) (k m : ℕ) → RealTime h k m ⊎ ConflictOrder h k m → (e f : Event) × Of h k e × Of h m f × Before h e f
conflict_events h k m =
    ⊎_elim (λ r. let f = r.0 in let c = r.1 in (c.0, f.0, c.1, f.1, r.2 c.0 f.0 c.1 f.1)) λ c.
    ⊎_elim (λ x. (x.1, x.2, x.3.0, x.4.0, x.5))
    (⊎_elim (λ x. (x.1, x.2, x.3.0, x.4.0, x.5)) (λ x. (x.1, x.2, x.3.0, x.4.0, x.5))) c.1

-- ---- a day

module _ (z : Size) (opening : List ℕ) (day : List Record) (t : ℕ) (w : walks z day ≡ true) (known : is_transaction (events day) t ≡ true) where
  -- the local sub-history, and the history of a list
  abbrev es : List Event
  es = events day

  abbrev h : List Event
  h = local es t

  local_single : Single h
  unfolding local
  local_single = single_subhist (company_of es t) es (events_single day)

  -- whoever has an event in the local sub-history is of the company
  of_company : (k : ℕ) → Txn h k → company_of es t k ≡ true
  unfolding local
  of_company k x = subst (λ (j : ℕ). company_of es t j ≡ true) x.1.1 ((subhist_says (company_of es t) es).0 x.1.0).1

  -- nobody precedes itself
  real_time_other : (k m : ℕ) → RealTime h k m → k ≢ m
  real_time_other k m r q =
      let c = r.1 in
      let e = c.0 in
      local_single e (r.2 e e c.1 (c.1.0, c.1.1 ∙ q))

  module _ (order : List ℕ) (lists : ListsAll h order) where
    abbrev s : List Event
    s = in_turn h order

    abbrev same : Equivalent s h
    same = in_turn_equivalent h order lists

    -- of two of the list, one that stands before the other is wholly before it, if the list keeps the pairs
    kept_wholly : keeps (day_before z es) order ≡ true → (k m : ℕ) → Txn h k → Txn h m → k ≢ m → RealTime h k m ⊎ ConflictOrder h k m → Wholly s k m
    kept_wholly kept k m a b other pair =
        let stands = (pair_says z day t w known k m (of_company k a) (of_company m b)).1 (other, pair) in
        ⊎_elim (in_turn_wholly h order k m)
        (λ e. absurd (clash stands (keeps_at (day_before z es) order k m kept e)))
        (listed_apart order k m other ((lists.all k).1 a) ((lists.all m).1 b))

    -- the list keeps the pairs exactly if its history respects the two orders
    respects : keeps (day_before z es) order ≡ true → ((k m : ℕ) → RealTime h k m → RealTime s k m) × ((k m : ℕ) → ConflictOrder h k m → ConflictOrder s k m)
    respects kept = (
      λ k m r.
          let c = r.1 in
          real_time_same s h same k m (kept_wholly kept k m (c.0, c.1) r.0 (real_time_other k m r) (inl r)) r,
      λ k m c.
          let x = conflict_events h k m (inr c) in
          conflict_same s h same k m (kept_wholly kept k m (x.0, x.2) (x.1, x.3) c.0 (inr c)) c,
    )

    kept_of : Serializes opening h s → keeps (day_before z es) order ≡ true
    kept_of ser =
        keeps_of (day_before z es) order λ k m e.
        false_of_not _ λ stands.
        let both = earlier_listed order m k e in
        let a = (lists.all k).0 both.1 in
        let b = (lists.all m).0 both.0 in
        let pair = (pair_says z day t w known k m (of_company k a) (of_company m b)).0 stands in
        let x = conflict_events s k m (⊎_elim (λ r. inl (ser.real_time k m r)) (λ c. inr (ser.conflict_order k m c)) pair.1) in
        let back = in_turn_wholly h order m k e x.1 x.0 x.3 x.2 in
        single_before s (single_equivalent s h same local_single) x.0 x.1 x.4 back

  -- a list
  list_says : (order : List ℕ) → (accepted z opening es t order ≡ true) ↔ (ListsAll h order × Serializes opening h (in_turn h order))
  unfolding accepted
  list_says order =
      let legal = legal_says day t z opening w order in
      Iff.trans (and_says (lists_says day t order) (and_says Iff.rfl (and_says Iff.rfl Iff.rfl))) (
        λ a. let lists = a.0 in let respected = respects order lists a.1.0 in (
          lists,
          record {
            t_sequential = in_turn_sequential h order;
            legal = (legal lists).1 a.1.1;
            equivalent = in_turn_equivalent h order lists;
            real_time = respected.0;
            conflict_order = respected.1;
          },
        ),
        λ x. (x.0, (kept_of order x.0 x.1, (legal x.0).0 x.1.legal)),
      )

  -- a history
  history_says : CoOpaque opening h ↔ ((order : List ℕ) × (accepted z opening es t order ≡ true))
  history_says = (
    λ c.
        let s = c.1.0 in
        let ser = c.1.1 in
        let x = taken_apart h s local_single ser.t_sequential ser.equivalent in
        (x.0, (list_says x.0).1 (x.1, subst (Serializes opening h) x.2 ser)),
    λ x. (valid_of z opening day t w known x.0 x.1, (in_turn h x.0, ((list_says x.0).0 x.1).1)),
  )

pub accepted_says : AcceptedSays
accepted_says =
    record {
      of_list = λ z opening day t order w known. list_says z opening day t w known order;
      of_history = λ z opening day t w known. history_says z opening day t w known;
    }
