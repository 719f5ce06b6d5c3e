-- The reads of a list's transactions, one after the other, are legal exactly if every judged read has the value carried to it and every own
-- read the transaction's latest earlier written value; and a list is the company exactly if it has just the transactions of the local
-- sub-history. It holds of any day that walks. Rests on Blocks and HistoryParts. Assumes nothing.
use Prim.Native.Nat.{ℕ}
use mathlib.Core.Path.{◌≡◌, refl, sym, ◌∙◌, ap, subst}
use mathlib.Core.Logic.Iff
use mathlib.Core.Logic.{◌↔◌, ⊎_elim}
use mathlib.Core.Bool.{Bool, true, cond, ◌&&◌}
use mathlib.Core.List.Memᴰ
use mathlib.Core.List.{List, [], ◌∷◌, ◌++◌, append-nil, append_assoc}
use lib.Dec.{eqb}
use borrow.Author.Tests.{eqb-true, eq-eqb}
use Rattle.basics.specs.Lists.{all_in, member, distinct}
use Rattle.basics.specs.Bytes.{same}
use Rattle.basics.proofs.Bools.{clash, and_left, and_right, and_both}
use Rattle.basics.proofs.Bytes.{same_iff}
use Rattle.basics.proofs.Each.{each_none, each_cons, each_alike, each_append, each_test}
use Rattle.basics.proofs.Lists.{member_nil, member_head, member_tail, member_cases, distinct_head, distinct_tail}
use Rattle.basics.proofs.Says.{eqb_says, and_says, both_says}
use Rattle.rules.specs.declared.Record.{Record}
use Rattle.rules.specs.Sizes.{Size}
use Rattle.rules.specs.Kinds.{kind_judged_read, kind_own_read}
use Rattle.rules.specs.Layout.{walks}
use Rattle.rules.specs.Day.{Event, events, committed, wrote_cell, written_value, company_of}
use Rattle.rules.specs.Checker.{lists_company, carried, reads_carried, own_reads_right}
use Rattle.rules.specs.History.{EachEvent, only, local, last_write, Legal, ListsAll, in_turn, Txn}
use Rattle.rules.proofs.Day.Events.{started}
use Rattle.rules.proofs.Day.CompanyListed.{company_says, company_listed}
use Rattle.rules.proofs.History.HistoryParts.{subhist_says, each_subhist, only_of, in_turn_within}
use Rattle.rules.proofs.History.Blocks.{Absent, CommitsEnd, commits_end, unchanged_only, left_by_block, left_by_open}

-- ---- own reads

-- an own read has the transaction's latest earlier written value
abbrev OwnRight : List Event → Event → Type 0
OwnRight earlier e = kind_own_read e.kind ≡ true → e.value ≡ written_value earlier e.who e.cell

-- each own read of a listed transaction does
abbrev OwnsRight : List ℕ → List Event → Type 0
OwnsRight order = EachEvent (λ earlier e. member e.who order ≡ true → OwnRight earlier e)

-- the test of the own reads says that
pub owns_say : (order : List ℕ) (h : List Event) → (own_reads_right order h ≡ true) ↔ OwnsRight order h
unfolding own_reads_right
owns_say order [] = (λ t. each_none (λ earlier e. member e.who order ≡ true → OwnRight earlier e), λ f. refl)
owns_say order (e ∷ earlier) =
    let newest = both_says (member e.who order) (kind_own_read e.kind) Iff.rfl (same_iff e.value (written_value earlier e.who e.cell)) in
    let whole = each_cons (λ earlier e. member e.who order ≡ true → OwnRight earlier e) e earlier in
    Iff.trans (and_says (owns_say order earlier) newest) (λ s. whole.1 (s.1, s.0), λ f. let s = whole.0 f in (s.1, s.0))

-- ---- transactions one after the other

module _ (opening : List ℕ) (es : List Event) (ends : CommitsEnd es) where
  -- what is legal at an event
  abbrev LegalAt : List Event → Event → Type 0
  LegalAt earlier e = (kind_judged_read e.kind ≡ true → e.value ≡ last_write opening earlier e.cell) × OwnRight earlier e

  -- a judged read has the value carried to it
  abbrev CarriedTo : List ℕ → Event → Type 0
  CarriedTo before e = kind_judged_read e.kind ≡ true → e.value ≡ carried opening es before e.cell

  -- the test of that for one transaction
  abbrev carries : List ℕ → ℕ → Event → Bool
  carries before m e = cond (eqb e.who m && kind_judged_read e.kind) (same e.value (carried opening es before e.cell)) true

  carries_say : (before : List ℕ) (m : ℕ) → (all_in (carries before m) es ≡ true) ↔ EachEvent (λ earlier e. e.who ≡ m → CarriedTo before e) es
  carries_say before m =
      each_test (carries before m) (λ e. e.who ≡ m → CarriedTo before e)
      (λ e. both_says (eqb e.who m) (kind_judged_read e.kind) (eqb_says e.who m) (same_iff e.value (carried opening es before e.cell))) es

  -- older events of those listed earlier: they leave what those carry, and none is of one that is still to come
  record Behind (before order : List ℕ) (base : List Event) : Type 0 where
    leaves : (c : ℕ) → last_write opening base c ≡ carried opening es before c
    others : (k : ℕ) → member k order ≡ true → Absent k base

  -- at first there are none
  behind_none : (order : List ℕ) → Behind [] order []
  unfolding last_write carried
  behind_none order = record { leaves = λ c. refl; others = λ k i e m. absurd (Memᴰ.not-nil m) }

  -- then come those of the next one listed
  behind_next : (before : List ℕ) (m : ℕ) (later : List ℕ) (base : List Event) → distinct (m ∷ later) ≡ true → Behind before (m ∷ later) base
      → Behind (m ∷ before) later (only m es ++ base)
  unfolding carried
  behind_next before m later base d b =
      record {
        leaves = λ c.
            left_by_block opening c m es base ends (b.others m (member_head m m later refl))
            ∙ ap (λ v. cond (committed es m && wrote_cell es m c) (written_value es m c) v) (b.leaves c);
        others = λ k i e n q. ⊎_elim
            (λ o.
            let its = ((only_of m es).0 o).1 in
            clash (subst (λ (j : ℕ). member j later ≡ true) (sym q ∙ its) i) (distinct_head m later d))
            (λ o. b.others k (member_tail k m later i) e o q) (Memᴰ.append_cases (only m es) n);
      }

  -- an event of one transaction, with those of the ones listed earlier behind it
  module _ (before : List ℕ) (m : ℕ) (later : List ℕ) (base : List Event) (b : Behind before (m ∷ later) base) where
    -- none of those is its own
    absent : Absent m base
    absent = b.others m (member_head m m later refl)

    -- what is told of it by the whole day
    abbrev RightAt : List Event → Event → Type 0
    RightAt earlier e = (e.who ≡ m → CarriedTo before e) × (e.who ≡ m → OwnRight earlier e)

    -- it is legal exactly if that is right
    one_right : (newer earlier : List Event) (e : Event) → es ≡ newer ++ (e ∷ earlier)
        → (eqb e.who m ≡ true → LegalAt (only m earlier ++ base) e) ↔ RightAt earlier e
    one_right newer earlier e q = (
      λ f. (λ o j. (f (eq-eqb e.who m o)).0 j ∙ last o, λ o j. (f (eq-eqb e.who m o)).1 j ∙ own o),
      λ s t. let o = eqb-true e.who m t in (λ j. s.0 o j ∙ sym (last o), λ j. s.1 o j ∙ sym (own o)),
    )
      where
        older : CommitsEnd earlier
        older = ((each_cons _ e earlier).0 ((each_append _ newer (e ∷ earlier)).0 (rw q at ends)).1).1

        last : e.who ≡ m → last_write opening (only m earlier ++ base) e.cell ≡ carried opening es before e.cell
        last o =
            left_by_open opening e.cell m earlier base older absent (ap (committed earlier) (sym o) ∙ ends newer earlier e q)
            ∙ b.leaves e.cell

        own : e.who ≡ m → written_value (only m earlier ++ base) e.who e.cell ≡ written_value earlier e.who e.cell
        own o = rw o ((unchanged_only m earlier base absent).same_value e.cell)

    -- so with all its events
    one_legal : EachEvent (λ earlier e. LegalAt (earlier ++ base) e) (only m es) ↔ EachEvent RightAt es
    unfolding only
    one_legal =
        Iff.trans (each_subhist (λ j. eqb j m) (λ earlier e. LegalAt (earlier ++ base) e) es)
        (each_alike (λ earlier e. eqb e.who m ≡ true → LegalAt (only m earlier ++ base) e) RightAt es one_right)

    -- and as the test of the list asks it
    one_says : EachEvent (λ earlier e. LegalAt (earlier ++ base) e) (only m es)
        ↔ ((all_in (carries before m) es ≡ true) × EachEvent (λ earlier e. e.who ≡ m → OwnRight earlier e) es)
    one_says =
        let tested = carries_say before m in
        Iff.trans one_legal (
          λ f. (tested.1 (λ n a e q. (f n a e q).0), λ n a e q. (f n a e q).1),
          λ s n a e q. (tested.0 s.0 n a e q, s.1 n a e q),
        )

  -- all of them, one after the other
  all_legal : (before order : List ℕ) (base : List Event) → distinct order ≡ true → Behind before order base
      → EachEvent (λ earlier e. LegalAt (earlier ++ base) e) (in_turn es order)
      ↔ ((reads_carried opening es before order ≡ true) × OwnsRight order es)
  unfolding in_turn reads_carried
  all_legal before [] base d b =
      (λ f. (refl, λ n a e q i. absurd (clash i (member_nil e.who))), λ s. each_none (λ earlier e. LegalAt (earlier ++ base) e))
  all_legal before (m ∷ later) base d b =
      let parts = each_append (λ earlier e. LegalAt (earlier ++ base) e) (in_turn es later) (only m es) in
      let moved =
      each_alike (λ earlier e. LegalAt ((earlier ++ only m es) ++ base) e) (λ earlier e. LegalAt (earlier ++ (only m es ++ base)) e) (in_turn es later)
      (λ n a e q. rw (append_assoc a (only m es) base) Iff.rfl) in
      let rest = all_legal (m ∷ before) later (only m es ++ base) (distinct_tail m later d) (behind_next before m later base d b) in
      let first = one_says before m later base b in
      let here = all_in (carries before m) es in
      let there = reads_carried opening es (m ∷ before) later in
      Iff.trans parts (Iff.trans (Iff.and (Iff.trans moved rest) first) (
        λ s. (
          and_both here there s.1.0 s.0.0,
          λ n a e q i. ⊎_elim (s.1.1 n a e q) (s.0.1 n a e q) (member_cases e.who m later i),
        ),
        λ s. (
          (and_right here there s.0, λ n a e q i. s.1 n a e q (member_tail e.who m later i)),
          (and_left here there s.0, λ n a e q o. s.1 n a e q (member_head e.who m later o)),
        ),
      ))

-- ---- the local sub-history

module _ (day : List Record) (t : ℕ) where
  -- the events of the day
  abbrev es : List Event
  es = events day

  -- the transactions of the local sub-history are the company
  pub txn_says : (k : ℕ) → Txn (local (events day) t) k ↔ (company_of (events day) t k ≡ true)
  unfolding local
  txn_says k = (
    λ x. ap (company_of es t) (sym x.1.1) ∙ ((subhist_says (company_of es t) es).0 x.1.0).1,
    λ c.
        let x = started day k ((company_says es t k).0 c).0 in
        (x.0, ((subhist_says (company_of es t) es).1 (x.1, ap (company_of es t) x.4 ∙ c), x.4)),
  )

  -- a list is the company exactly if it has just the transactions of the local sub-history
  pub lists_says : (order : List ℕ) → (lists_company (events day) t order ≡ true) ↔ ListsAll (local (events day) t) order
  lists_says order =
      Iff.trans (company_listed day t order) (
        λ s. record { once = s.0; all = λ k. Iff.trans (s.1 k) (Iff.symm (txn_says k)) },
        λ l. (l.once, λ k. Iff.trans (l.all k) (txn_says k)),
      )

  -- the transactions of the local sub-history, one after the other, are legal exactly if their reads have the right values
  pub legal_says : (z : Size) (opening : List ℕ) → walks z day ≡ true → (order : List ℕ) → ListsAll (local (events day) t) order
      → Legal opening (in_turn (local (events day) t) order) ↔ ((reads_carried opening (events day) [] order ≡ true) × (own_reads_right order (events day) ≡ true))
  unfolding local
  legal_says z opening w order l =
      let ends = commits_end z day w in
      let at = LegalAt opening es ends in
      rw (in_turn_within (company_of es t) es order (λ k i. (txn_says k).0 ((l.all k).0 i)))
      (Iff.trans (each_alike at (λ earlier e. at (earlier ++ []) e) (in_turn es order) (λ n a e q. rw (append-nil a) Iff.rfl))
      (Iff.trans (all_legal opening es ends [] order [] l.once (behind_none opening es ends order)) (Iff.and Iff.rfl (Iff.symm (owns_say order es)))))
