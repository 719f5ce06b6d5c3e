-- The local sub-history of a transaction with an accepted list is valid: each judged read has the opening value or one that somebody wrote who
-- committed before the read. It holds of any day that walks. Rests on ReadsInTime, LegalInTurn and HistoryParts. Assumes nothing.
use Prim.Native.Nat.{ℕ}
use mathlib.Core.Path.{◌≡◌, refl, sym, ◌∙◌, ap, subst}
use mathlib.Core.Logic.Iff
use mathlib.Core.Logic.{◌⊎◌, inl, inr, ⊎_elim}
use mathlib.Core.Bool.{Bool, true, ◌&&◌, false≢true}
use mathlib.Core.List.Memᴰ
use mathlib.Core.List.{List, [], ◌∷◌, Memᴰ}
use lib.Dec.{eqb}
use Rattle.basics.specs.Bytes.{same}
use Rattle.basics.specs.Lists.{any_in, member}
use Rattle.basics.proofs.Bools.{split, cond_passes, cond_fails}
use Rattle.basics.proofs.Bytes.{same_iff}
use Rattle.basics.proofs.Says.{eqb_says, and_says}
use Rattle.rules.specs.declared.Record.{Record}
use Rattle.rules.specs.Sizes.{Size}
use Rattle.rules.specs.Cells.{cell_of}
use Rattle.rules.specs.Kinds.{kind_commits, kind_writes, kind_judged_read}
use Rattle.rules.specs.Layout.{walks}
use Rattle.rules.specs.Day.{Event, event, events, is_transaction, wrote_cell, written_value, company_of}
use Rattle.rules.specs.Checker.{accepted}
use Rattle.rules.specs.History.{Of, Commits, Valid, subhist, local}
use Rattle.rules.proofs.Replay.InTime.{table_by}
use Rattle.rules.proofs.Replay.ReadsInTime.{reads_told, in_time_says}
use Rattle.rules.proofs.Day.Settled.{each_event}
use Rattle.rules.proofs.History.HistoryParts.{each_subhist, subhist_says}
use Rattle.rules.proofs.History.LegalInTurn.{txn_says, lists_says}

-- ---- where a value comes from

-- an event of these by which the transaction wrote the value
abbrev WrittenBy : List Event → ℕ → ℕ → List ℕ → Type 0
WrittenBy h k c v = (e : Event) × Memᴰ e h × (e.who ≡ k) × (kind_writes e.kind ≡ true) × (e.cell ≡ c) × (e.value ≡ v)

-- the written value is that of some write
written_by : (h : List Event) (k c : ℕ) → wrote_cell h k c ≡ true → WrittenBy h k c (written_value h k c)
unfolding wrote_cell written_value any_in
written_by [] k c t = absurd (false≢true t)
written_by (e ∷ earlier) k c t =
    split (eqb e.who k && (kind_writes e.kind && eqb e.cell c))
    (λ p.
    let s = (and_says (eqb_says e.who k) (and_says Iff.rfl (eqb_says e.cell c))).0 p in
    (e, Memᴰ.head refl, s.0, s.1.0, s.1.1, sym (cond_passes _ _ p)))
    (λ f.
    let x = written_by earlier k c (rw f at t) in
    (x.0, Memᴰ.tail x.1, x.2, x.3, x.4, x.5 ∙ sym (cond_fails _ _ f)))

-- a listed transaction with a commit among these events wrote the value
abbrev LeftIn : List ℕ → List Event → ℕ → List ℕ → Type 0
LeftIn order h c v = (k : ℕ) × (member k order ≡ true) × ((f : Event) × Commits h k f) × WrittenBy h k c v

module _ (opening order : List ℕ) where
  -- the value is the opening one or was left so, and that stays with one event more
  abbrev FromTable : List Event → ℕ → List ℕ → Type 0
  FromTable h c v = (v ≡ cell_of opening c) ⊎ LeftIn order h c v

  from_earlier : (e : Event) (earlier : List Event) (c : ℕ) (v : List ℕ) → FromTable earlier c v → FromTable (e ∷ earlier) c v
  from_earlier e earlier c v =
      ⊎_elim inl λ x.
      let f = x.2 in
      let m = x.3 in
      inr (x.0, x.1, (f.0, ((Memᴰ.tail f.1.0.0, f.1.0.1), f.1.1)), (m.0, Memᴰ.tail m.1, m.2, m.3, m.4, m.5))

  -- so is each value of the table
  table_from : (c : ℕ) (h : List Event) → FromTable h c (table_by opening order h c)
  unfolding table_by
  table_from c [] = inl refl
  table_from c (e ∷ earlier) =
      split (member e.who order && (kind_commits e.kind && wrote_cell (e ∷ earlier) e.who c))
      (λ t.
      let s = (and_says Iff.rfl (and_says Iff.rfl Iff.rfl)).0 t in
      rw t (inr (e.who, s.0, (e, ((Memᴰ.head refl, refl), s.1.0)), written_by (e ∷ earlier) e.who c s.1.1)))
      (λ f. rw f (from_earlier e earlier c (table_by opening order earlier c) (table_from c earlier)))

-- ---- the local sub-history

-- a listed judged read has the value of the table at its time
abbrev InTime : List ℕ → List ℕ → List Event → Event → Type 0
InTime opening order earlier e =
    member e.who order ≡ true → kind_judged_read e.kind ≡ true → same e.value (table_by opening order earlier e.cell) ≡ true

-- where a value comes from in a valid history: somebody wrote it who commits among the earlier events
abbrev WrittenIn : List Event → List Event → ℕ → List ℕ → Type 0
WrittenIn h earlier x v =
    (e c : Event) × Commits earlier e.who c × Of h e.who e × (kind_writes e.kind ≡ true) × (e.cell ≡ x) × (e.value ≡ v)

-- a listed transaction with all its events in a sub-history does so there
left_within : (order : List ℕ) (among : ℕ → Bool) → ((k : ℕ) → member k order ≡ true → among k ≡ true)
    → (h earlier : List Event) → ((e : Event) → Memᴰ e earlier → Memᴰ e h)
    → (x : ℕ) (v : List ℕ) → LeftIn order earlier x v → WrittenIn (subhist among h) (subhist among earlier) x v
left_within order among within h earlier older x v left =
    let here = within left.0 left.1 in
    let c = left.2 in
    let e = left.3 in (
      e.0,
      c.0,
      (((subhist_says among earlier).1 (c.1.0.0, ap among c.1.0.1 ∙ here), c.1.0.1 ∙ sym e.2), c.1.1),
      ((subhist_says among h).1 (older e.0 e.1, ap among e.2 ∙ here), refl),
      e.3,
      e.4,
      e.5,
    )

module _ (z : Size) (opening : List ℕ) (day : List Record) (t : ℕ) (w : walks z day ≡ true) (known : is_transaction (events day) t ≡ true) where
  -- an accepted list makes the local sub-history valid
  pub valid_of : (order : List ℕ) → accepted z opening (events day) t order ≡ true → Valid opening (local (events day) t)
  unfolding accepted local event
  valid_of order a =
      let es = events day in
      let parts = (and_says Iff.rfl (and_says Iff.rfl (and_says Iff.rfl Iff.rfl))).0 a in
      let all = ((lists_says day t order).0 parts.0).all in
      let company = txn_says day t in
      let timely = sym (reads_told z opening t order day w known parts.0 parts.1.0) ∙ parts.1.1.0 in
      (each_subhist (company_of es t) _ es).1 (λ newer earlier e q c reads.
      let right = (each_event (InTime opening order) day).1 ((in_time_says opening order day).0 timely) newer earlier e q ((all e.who).1 ((company e.who).1 c)) reads in
      let value = (same_iff e.value (table_by opening order earlier e.cell)).0 right in
      let from = subst (FromTable opening order earlier e.cell) (sym value) (table_from opening order e.cell earlier) in
      let older : (f : Event) → Memᴰ f earlier → Memᴰ f es =
      λ f m. subst (λ (h : List Event). Memᴰ f h) (sym q) (Memᴰ.append_right newer (Memᴰ.tail m)) in
      ⊎_elim inl (λ x. inr (left_within order (company_of es t) (λ k i. (company k).0 ((all k).0 i)) es earlier older e.cell e.value x)) from)
