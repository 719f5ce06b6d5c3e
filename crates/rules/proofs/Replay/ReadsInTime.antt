-- What a list that keeps the pairs carries to a judged read is the table, as the listed transactions leave it, at that read's time: so a
-- list carries right values exactly if its reads are in time. It holds of any day that walks. Assumes nothing.
use Prim.Native.Nat.{ℕ, suc, ◌≤◌, ◌<◌}
use mathlib.Core.Path.{◌≡◌, refl, sym, ◌∙◌, ap, subst}
use mathlib.Core.Logic.Iff
use mathlib.Core.Logic.{◌↔◌, inl, inr, ⊎_elim}
use mathlib.Core.Bool.{Bool, true, false, cond, ◌&&◌, ◌||◌}
use mathlib.Core.List.{List, [], ◌∷◌, ◌++◌, Memᴰ, append_assoc}
use lib.ListN.{length}
use lib.Dec.{eqb, ltb}
use native.Mathlib.Nat.{le_refl}
use native.Mathlib.Omega.{arith}
use borrow.Author.Tests.{eq-eqb, ne_eqb, ltb-true, ltb-false, lt-ltb}
use Rattle.basics.specs.Lists.{all_in, member, distinct, keeps}
use Rattle.basics.specs.Bytes.{same}
use Rattle.basics.proofs.Below.{any_of}
use Rattle.basics.proofs.Bools.{split, clash, same_tests, and_left, and_both, or_left, or_right, equal_or_not, cond_passes, cond_fails}
use Rattle.basics.proofs.Lists.{all_in_at, all_in_of, any_in_of, member_nil, member_head, member_tail, member_cases, member_rest, keeps_head, keeps_tail}
use Rattle.basics.proofs.Parted.{Parted, parted_first, parted_next}
use Rattle.basics.proofs.Each.{each_none, each_cons}
use Rattle.basics.proofs.Says.{eqb_says, and_says, both_says}
use Rattle.rules.specs.declared.Record.{Record}
use Rattle.rules.specs.Sizes.{Size}
use Rattle.rules.specs.Kinds.{kind_commits, kind_judged_read}
use Rattle.rules.specs.Layout.{walks, EachRecord}
use Rattle.rules.specs.Day.{Event, whose, event, events, is_transaction, commit_of, wrote_cell, day_real_time, day_write_write, day_write_read, day_read_write, day_before}
use Rattle.rules.specs.Checker.{lists_company, carried, reads_carried}
use Rattle.rules.proofs.Log.KindLaws.{reads_commit_nothing}
use Rattle.rules.proofs.Day.Events.{event_unique}
use Rattle.rules.proofs.Replay.InTime.{committed_cell, table_by, reads_in_time}
use Rattle.rules.proofs.Day.Commits.{commit_event}
use Rattle.rules.proofs.Day.Settled.{event_there, event_split, written_known, commit_last, unchanged}
use Rattle.rules.proofs.Day.CellValues.{cell_committed, LeftBy, Listed, ListedBy, left_elsewhere, left_once, table_left_then}

-- ---- the three pairs of a cell

module _ (z : Size) (es : List Event) (k m c : ℕ) (other : k ≡ m → ⊥) where
  -- of two that committed the cell, the one with the earlier commit stands before the other
  pub before_by_writes : c < z.cells → committed_cell es k c ≡ true → committed_cell es m c ≡ true → commit_of es k < commit_of es m
      → day_before z es k m ≡ true
  unfolding day_before day_write_write
  before_by_writes known h i first =
      let a = cell_committed es k c h in
      let b = cell_committed es m c i in
      let both = and_both (wrote_cell es k c) (wrote_cell es m c) a.1 b.1 in
      let common = any_of (λ d. wrote_cell es k d && wrote_cell es m d) z.cells c known both in
      rw (ne_eqb k m other)
      (or_right (day_real_time es k m) _ (or_left (day_write_write z es k m) (day_write_read es k m || day_read_write es k m)
      (rw (a.0, b.0, lt-ltb (commit_of es k) (commit_of es m) first) common)))

  -- who committed the cell before a judged read of it stands before the reader
  pub before_by_read : {e : Event} → committed_cell es k c ≡ true → Memᴰ e es → e.who ≡ m → kind_judged_read e.kind ≡ true → e.cell ≡ c
      → commit_of es k < e.number → day_before z es k m ≡ true
  unfolding day_before day_write_read
  before_by_read {e} h i whose_it_is reads cell first =
      let a = cell_committed es k c h in
      let read_after : Event → Bool =
      λ f. eqb f.who m && (kind_judged_read f.kind && (ltb (commit_of es k) f.number && wrote_cell es k f.cell)) in
      let right : read_after e ≡ true = rw (eq-eqb e.who m whose_it_is, reads, lt-ltb (commit_of es k) e.number first, cell) a.1 in
      rw (ne_eqb k m other)
      (or_right (day_real_time es k m) _ (or_right (day_write_write z es k m) _ (or_left (day_write_read es k m) (day_read_write es k m)
      (rw a.0 (any_in_of read_after es i right)))))

  -- and who read it before somebody committed it stands before that one
  pub before_by_later_write : {e : Event} → committed_cell es m c ≡ true → Memᴰ e es → e.who ≡ k → kind_judged_read e.kind ≡ true → e.cell ≡ c
      → e.number < commit_of es m → day_before z es k m ≡ true
  unfolding day_before day_read_write
  before_by_later_write {e} h i whose_it_is reads cell first =
      let a = cell_committed es m c h in
      let read_before : Event → Bool =
      λ f. eqb f.who k && (kind_judged_read f.kind && (ltb f.number (commit_of es m) && wrote_cell es m f.cell)) in
      let right : read_before e ≡ true = rw (eq-eqb e.who k whose_it_is, reads, lt-ltb e.number (commit_of es m) first, cell) a.1 in
      rw (ne_eqb k m other)
      (or_right (day_real_time es k m) _ (or_right (day_write_write z es k m) _ (or_right (day_write_read es k m) (day_read_write es k m)
      (rw a.0 (any_in_of read_before es i right)))))

-- ---- what a list carries

module _ (z : Size) (opening : List ℕ) (day : List Record) (w : walks z day ≡ true) where
  -- the pairs of the day
  abbrev pairs : ℕ → ℕ → Bool
  pairs = day_before z (events day)

  -- those listed earlier carry to a cell what they leave in it
  pub carried_left : (c : ℕ) (before : List ℕ) → keeps (λ j k. pairs k j) before ≡ true
      → LeftBy opening (events day) (Listed before) c (carried opening (events day) before c)
  unfolding carried committed_cell
  carried_left c [] h = inl ((λ j i. absurd (clash i (member_nil j))), refl)
  carried_left c (k ∷ before) h = split (committed_cell (events day) k c) first (others (carried_left c before (keeps_tail (λ a b. pairs b a) k before h)))
    where
      es : List Event
      es = events day

      first : committed_cell es k c ≡ true → LeftBy opening es (Listed (k ∷ before)) c (carried opening es (k ∷ before) c)
      first t = inr (k, record { among = member_head k k before refl; commits = t; newest = newest_one }, cond_passes _ _ t)
        where
          newest_one : (j : ℕ) → Listed (k ∷ before) j → committed_cell es j c ≡ true → commit_of es j ≤ commit_of es k
          newest_one j i u =
              equal_or_not k j (λ q. rw q (le_refl (commit_of es j))) λ other.
              let kept = keeps_head (λ a b. pairs b a) k before h j (member_rest j k before (λ q. other (sym q)) i) in
              let known = written_known z day k c w (cell_committed es k c t).1 in
              split (ltb (commit_of es k) (commit_of es j))
              (λ l. absurd (clash (before_by_writes z es k j c other known t u (ltb-true (commit_of es k) (commit_of es j) l)) kept))
              (ltb-false (commit_of es k) (commit_of es j))

      others : LeftBy opening es (Listed before) c (carried opening es before c) → committed_cell es k c ≡ false
          → LeftBy opening es (Listed (k ∷ before)) c (carried opening es (k ∷ before) c)
      others left f =
          left_elsewhere opening c es es (Listed before) (Listed (k ∷ before)) (carried opening es (k ∷ before) c)
          (λ j i t. (member_tail j k before i, unchanged es j))
          (λ j i t. (member_rest j k before (λ q. clash t (ap (λ a. committed_cell es a c) q ∙ f)) i, t))
          (subst (LeftBy opening es (Listed before) c) (sym (cond_fails _ _ f)) left)

  -- and at a judged read that is the table of its time
  pub carried_in_time : (order before later : List ℕ) (newer earlier : List Record) (r : Record) → Parted pairs order before (whose earlier r ∷ later)
      → day ≡ newer ++ (r ∷ earlier) → kind_judged_read r.kind ≡ true
      → carried opening (events day) before r.cell ≡ table_by opening order (events earlier) r.cell
  unfolding event
  carried_in_time order before later newer earlier r p q reads =
      left_once opening c day (Listed before) (ListedBy order es (length earlier))
      (carried opening es before c) (table_by opening order (events earlier) c) (λ k t. (committed_then_too k t, listed_earlier k t))
      (carried_left c before p.before_kept)
      (table_left_then z opening order c day (newer ++ (r ∷ [])) earlier (q ∙ sym (append_assoc newer (r ∷ []) earlier)) w)
    where
      es : List Event
      es = events day

      m : ℕ
      m = whose earlier r

      c : ℕ
      c = r.cell

      here : Memᴰ (event earlier r) es
      here = event_there day newer earlier r q

      -- who is listed earlier committed before the read
      committed_then_too : (k : ℕ) → committed_cell es k c ≡ true → Listed before k → ListedBy order es (length earlier) k
      committed_then_too k t i =
          let x = commit_event es k (cell_committed es k c t).0 in
          let apart = p.across k m i (member_head m m later refl) in
          let event_of = event_unique day x.1 here in
          let now : commit_of es k ≡ suc (length earlier) → ⊥ =
          λ n. clash (sym (ap (λ f. kind_commits f.kind) (event_of (sym x.4 ∙ n))) ∙ x.3) (reads_commit_nothing r.kind reads) in
          let pair = before_by_later_write z es m k c apart.1 t here refl reads refl in
          let after : suc (length earlier) < commit_of es k → ⊥ = λ l. clash (pair l) apart.0 in
          ((p.listed k).1 (inl i), omega (arith, now, after))

      -- and who committed before the read is listed earlier
      listed_earlier : (k : ℕ) → committed_cell es k c ≡ true → ListedBy order es (length earlier) k → Listed before k
      listed_earlier k t h =
          let x = commit_event es k (cell_committed es k c t).0 in
          let other : k ≡ m → ⊥ = λ o. let last = commit_last z day w x.1 here x.3 (sym o ∙ sym x.2) in omega (arith, last, x.4, h.1) in
          let stands = before_by_read z es k m c other t here refl reads refl (omega (arith, h.1)) in
          ⊎_elim (λ b. b) (λ l. absurd (clash stands (keeps_head pairs m later p.later_kept k (member_rest k m later other l)))) ((p.listed k).0 h.0)

-- ---- the reads of a list

module _ (opening : List ℕ) (order : List ℕ) where
  -- a judged read has the value of the table at its time
  abbrev pub ReadRight : List Record → Record → Type 0
  ReadRight earlier r = kind_judged_read r.kind ≡ true → same r.value (table_by opening order (events earlier) r.cell) ≡ true

  -- each judged read of some transactions does
  abbrev pub ReadsRight : List ℕ → List Record → Type 0
  ReadsRight those = EachRecord (λ earlier r. member (whose earlier r) those ≡ true → ReadRight earlier r)

  -- what the test in time says of the newest record, and of all
  newest_in_time : (r : Record) (earlier : List Record)
      → (reads_in_time opening order (events (r ∷ earlier)) ≡ true)
      ↔ ((reads_in_time opening order (events earlier) ≡ true) × (member (whose earlier r) order ≡ true → ReadRight earlier r))
  unfolding reads_in_time events event
  newest_in_time r earlier =
      and_says Iff.rfl (both_says (member (whose earlier r) order) (kind_judged_read r.kind) Iff.rfl Iff.rfl)

  pub in_time_says : (day : List Record) → (reads_in_time opening order (events day) ≡ true) ↔ ReadsRight order day
  unfolding reads_in_time events
  in_time_says [] = (λ e. each_none (λ earlier r. member (whose earlier r) order ≡ true → ReadRight earlier r), λ f. refl)
  in_time_says (r ∷ earlier) =
      let rest = in_time_says earlier in
      let whole = each_cons (λ earlier r. member (whose earlier r) order ≡ true → ReadRight earlier r) r earlier in
      Iff.trans (newest_in_time r earlier) (λ s. whole.1 (s.1, rest.0 s.0), λ f. let s = whole.0 f in (rest.1 s.1, s.0))

module _ (z : Size) (opening : List ℕ) (order : List ℕ) (day : List Record) (w : walks z day ≡ true) where
  -- what the test of a list says of one event
  abbrev carries : List ℕ → ℕ → Event → Bool
  carries before m e = cond (eqb e.who m && kind_judged_read e.kind) (same e.value (carried opening (events day) before e.cell)) true

  carries_say : (before : List ℕ) (m : ℕ) (later : List ℕ) → Parted (day_before z (events day)) order before (m ∷ later)
      → (newer earlier : List Record) (r : Record) → day ≡ newer ++ (r ∷ earlier)
      → (carries before m (event earlier r) ≡ true) ↔ (whose earlier r ≡ m → ReadRight opening order earlier r)
  unfolding event
  carries_say before m later p newer earlier r q =
      Iff.trans (both_says (eqb (whose earlier r) m) (kind_judged_read r.kind) (eqb_says (whose earlier r) m) Iff.rfl) (
        λ f o j. sym (ap (same r.value) (there o j)) ∙ f o j,
        λ f o j. ap (same r.value) (there o j) ∙ f o j,
      )
    where
      there : whose earlier r ≡ m → kind_judged_read r.kind ≡ true
          → carried opening (events day) before r.cell ≡ table_by opening order (events earlier) r.cell
      there o =
          carried_in_time z opening day w order before later newer earlier r
          (subst (λ (k : ℕ). Parted (day_before z (events day)) order before (k ∷ later)) (sym o) p) q

  -- and of all, from one that is listed on
  pub carried_says : (before later : List ℕ) → Parted (day_before z (events day)) order before later
      → (reads_carried opening (events day) before later ≡ true) ↔ ReadsRight opening order later day
  unfolding reads_carried
  carried_says before [] p = (λ e later earlier r q i. absurd (clash i (member_nil (whose earlier r))), λ f. refl)
  carried_says before (m ∷ later) p =
      Iff.trans (and_says (all_say m later p) (carried_says (m ∷ before) later (parted_next (day_before z (events day)) order before m later p))) (
        λ x newer earlier r q i. ⊎_elim (x.0 newer earlier r q) (x.1 newer earlier r q) (member_cases (whose earlier r) m later i),
        λ f. (
          λ newer earlier r q o. f newer earlier r q (member_head (whose earlier r) m later o),
          λ newer earlier r q i. f newer earlier r q (member_tail (whose earlier r) m later i),
        ),
      )
    where
      all_say : (m : ℕ) (later : List ℕ) → Parted (day_before z (events day)) order before (m ∷ later)
          → (all_in (carries before m) (events day) ≡ true) ↔ EachRecord (λ earlier r. whose earlier r ≡ m → ReadRight opening order earlier r) day
      all_say m later p = (
        λ e newer earlier r q.
            (carries_say before m later p newer earlier r q).0
            (all_in_at (carries before m) (events day) e (event_there day newer earlier r q)),
        λ f. all_in_of (carries before m) (events day) λ e i.
            let s = event_split day i in
            ap (carries before m) s.4 ∙ (carries_say before m later p s.0 s.2 s.1 s.3).1 (f s.0 s.2 s.1 s.3),
      )

  -- a list without repeats that keeps the pairs carries right values exactly if its reads are in time
  pub reads_carried_in_time : distinct order ≡ true → keeps (day_before z (events day)) order ≡ true
      → reads_carried opening (events day) [] order ≡ reads_in_time opening order (events day)
  reads_carried_in_time d k =
      let says = Iff.trans (carried_says [] order (parted_first (day_before z (events day)) order d k)) (Iff.symm (in_time_says opening order day)) in
      same_tests (reads_carried opening (events day) [] order) (reads_in_time opening order (events day)) says.0 says.1

-- what a list of the company that keeps the pairs carries is right exactly if its reads are in time
pub reads_told : (z : Size) (opening : List ℕ) (t : ℕ) (order : List ℕ) (day : List Record) → walks z day ≡ true
    → is_transaction (events day) t ≡ true → lists_company (events day) t order ≡ true → keeps (day_before z (events day)) order ≡ true
    → reads_carried opening (events day) [] order ≡ reads_in_time opening order (events day)
unfolding lists_company
reads_told z opening t order day w it company kept = reads_carried_in_time z opening order day w (and_left (distinct order) _ company) kept
