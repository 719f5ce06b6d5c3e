-- One event more adds to the pairs of a day just those that arise with it: real time as it starts its transaction, write then read as it
-- reads, write then write and read then write as it commits. Stated of any events of which the newest stands as in a day that walks.
-- Assumes nothing.
use Prim.Native.Nat.{ℕ, ◌<◌}
use mathlib.Core.Path.{◌≡◌, refl, sym, ◌∙◌, ap, ap₂, subst, fun_ext}
use mathlib.Core.Logic.Iff
use mathlib.Core.Logic.{◌↔◌, ◌⊎◌, inl, inr, ⊎_elim}
use mathlib.Core.Bool.{Bool, true, false, ◌&&◌, ◌||◌, and-true, or-false}
use mathlib.Core.List.{List, ◌∷◌, Memᴰ}
use lib.Dec.{ltb, eqb}
use native.Mathlib.Omega.{arith}
use borrow.Author.Tests.{eq-eqb, ne_eqb, lt-ltb, le-ltb}
use Rattle.basics.specs.Below.{any_below}
use Rattle.basics.specs.Lists.{any_in}
use Rattle.basics.proofs.Bools.{split, false_of_not, same_tests, and_fails_left, and_fails_right, or_right, equal_or_not}
use Rattle.basics.proofs.Regrouped.{and_over_or, absorbed, or_five}
use Rattle.basics.proofs.Lists.{any_in_fails}
use Rattle.basics.proofs.Says.{eqb_says, ltb_says, and_says, or_says, any_says, any_in_says}
use Rattle.rules.specs.Sizes.{Size}
use Rattle.rules.specs.Kinds.{kind_starts, kind_commits, kind_writes, kind_judged_read}
use Rattle.rules.specs.Day.{Event, latest, is_transaction, commit_of, committed, wrote_cell, day_real_time, day_write_write, day_write_read, day_read_write, day_before}
use Rattle.rules.proofs.Replay.InTime.{read_cell, committed_cell, arises}

-- ---- one event more, seen from a transaction

module _ (e : Event) (es : List Event) (t : ℕ) where
  -- what is asked of a transaction's events, past an event of another and past one of its own
  pub any_other : (f : Event → Bool) → (e.who ≡ t → ⊥) → any_in (λ x. eqb x.who t && f x) (e ∷ es) ≡ any_in (λ x. eqb x.who t && f x) es
  unfolding any_in
  any_other f o = rw (ne_eqb e.who t o)

  pub any_own : (f : Event → Bool) → e.who ≡ t → any_in (λ x. eqb x.who t && f x) (e ∷ es) ≡ f e || any_in (λ x. eqb x.who t && f x) es
  unfolding any_in
  any_own f o = rw (eq-eqb e.who t o)

  pub committed_other : (e.who ≡ t → ⊥) → committed (e ∷ es) t ≡ committed es t
  unfolding committed
  committed_other = any_other (λ x. kind_commits x.kind)

  pub committed_own : e.who ≡ t → committed (e ∷ es) t ≡ kind_commits e.kind || committed es t
  unfolding committed
  committed_own = any_own (λ x. kind_commits x.kind)

  pub commit_of_other : (e.who ≡ t → ⊥) → commit_of (e ∷ es) t ≡ commit_of es t
  unfolding commit_of latest
  commit_of_other o = rw (ne_eqb e.who t o)

  pub commit_of_own : e.who ≡ t → kind_commits e.kind ≡ true → commit_of (e ∷ es) t ≡ e.number
  unfolding commit_of latest
  commit_of_own o c = rw (eq-eqb e.who t o, c)

  pub wrote_other : (e.who ≡ t → ⊥) → wrote_cell (e ∷ es) t ≡ wrote_cell es t
  unfolding wrote_cell
  wrote_other o = fun_ext (λ c. any_other (λ x. kind_writes x.kind && eqb x.cell c) o)

-- ---- pairs with those who have begun

-- one of the four relations holds
abbrev four : Size → List Event → ℕ → ℕ → Bool
four z es k m = day_real_time es k m || (day_write_write z es k m || (day_write_read es k m || day_read_write es k m))

-- M has begun, and K stands before it
unfoldable pub begun_before : Size → List Event → ℕ → ℕ → Bool
begun_before z es k m = is_transaction es m && day_before z es k m

-- ---- the newest event of a day that walks

-- what is known of it
pub record Newest (z : Size) (es : List Event) (e : Event) : Type 0 where
  -- it is newer than the others, each commit and each begin
  pub newer : {f : Event} → Memᴰ f es → f.number < e.number
  pub newer_than_commit : (t : ℕ) → commit_of es t < e.number
  pub newer_than_begin : (t : ℕ) → is_transaction es t ≡ true → t < e.number
  -- its transaction has not committed before, and is new exactly if the event starts it
  pub unsealed : committed es e.who ≡ false
  pub started : kind_starts e.kind ≡ true → e.who ≡ e.number
  pub begun : kind_starts e.kind ≡ false → is_transaction es e.who ≡ true
  -- cells of judged reads are cells of the table
  pub cells_known : {f : Event} → Memᴰ f es → kind_judged_read f.kind ≡ true → f.cell < z.cells

module _ {z : Size} {es : List Event} {e : Event} (h : Newest z es e) where
  -- a transaction that the event starts is not among the earlier ones
  not_begun : kind_starts e.kind ≡ true → is_transaction es e.who ≡ false
  not_begun s = false_of_not _ (λ t. omega (arith, h.newer_than_begin e.who t, h.started s))

  -- the event starts no other transaction, and with it its own has begun
  transaction_other : (m : ℕ) → (e.who ≡ m → ⊥) → is_transaction (e ∷ es) m ≡ is_transaction es m
  unfolding is_transaction any_in
  transaction_other m o =
      split (kind_starts e.kind) (λ s. rw (ne_eqb e.number m (λ q. o (h.started s ∙ q))))
      (λ s. rw (s, and_fails_right (eqb e.number m) false refl))

  transaction_own : is_transaction (e ∷ es) e.who ≡ true
  unfolding is_transaction any_in
  transaction_own =
      split (kind_starts e.kind) (λ s. rw (eq-eqb e.number e.who (sym (h.started s)), s))
      (λ s. or_right (eqb e.number e.who && kind_starts e.kind) _ (h.begun s))

  -- ---- an event that is not M's adds no pair

  module _ (k m : ℕ) (o : e.who ≡ m → ⊥) (has_begun : is_transaction es m ≡ true) where
    -- what is asked of K once it is committed: asked as before if the event is another's, and failing if K commits with it
    past : {b b' : Bool} → (commit_of (e ∷ es) k ≡ e.number → b ≡ false) → ((e.who ≡ k → ⊥) → b ≡ b')
        → committed (e ∷ es) k && b ≡ committed es k && b'
    past {b} {b'} late same =
        equal_or_not e.who k (λ q. committed_late q ∙ sym (unsealed_before q b'))
        (λ q. ap₂ ◌&&◌ (committed_other e es k q) (same q))
      where
        unsealed_before : e.who ≡ k → (x : Bool) → committed es k && x ≡ false
        unsealed_before q x = and_fails_left (committed es k) x (rw q at h.unsealed)

        committed_late : e.who ≡ k → committed (e ∷ es) k && b ≡ false
        committed_late q =
            split (kind_commits e.kind) (λ c. and_fails_right (committed (e ∷ es) k) b (late (commit_of_own e es k q c)))
            (λ c. rw (committed_own e es k q, c) (unsealed_before q b))

    -- so each of the four is as before
    real_time_other : day_real_time (e ∷ es) k m ≡ day_real_time es k m
    unfolding day_real_time
    real_time_other =
        past (λ n. rw n (le-ltb e.number m (omega (arith, h.newer_than_begin m has_begun)))) (λ q. rw (commit_of_other e es k q))

    write_write_other : day_write_write z (e ∷ es) k m ≡ day_write_write z es k m
    unfolding day_write_write
    write_write_other =
        rw (committed_other e es m o, commit_of_other e es m o, wrote_other e es m o)
        (past
        (λ n. and_fails_right (committed es m) _ (rw (n, le-ltb e.number (commit_of es m) (omega (arith, h.newer_than_commit m)))))
        (λ q. rw (commit_of_other e es k q, wrote_other e es k q)))

    write_read_other : day_write_read (e ∷ es) k m ≡ day_write_read es k m
    unfolding day_write_read
    write_read_other =
        past
        (λ n.
        any_other e es m _ o
        ∙ any_in_fails _ es (λ x i.
        and_fails_right (eqb x.who m) _
        (and_fails_right (kind_judged_read x.kind) _ (rw (n, le-ltb e.number x.number (omega (arith, h.newer i)))))))
        (λ q. rw (commit_of_other e es k q, wrote_other e es k q) (any_other e es m _ o))

    read_write_other : day_read_write (e ∷ es) k m ≡ day_read_write es k m
    unfolding day_read_write
    read_write_other =
        rw (committed_other e es m o, commit_of_other e es m o, wrote_other e es m o)
        (ap (λ b. committed es m && b) (equal_or_not e.who k own (any_other e es k reads)))
      where
        reads : Event → Bool
        reads x = kind_judged_read x.kind && (ltb x.number (commit_of es m) && wrote_cell es m x.cell)

        own : e.who ≡ k → any_in (λ x. eqb x.who k && reads x) (e ∷ es) ≡ any_in (λ x. eqb x.who k && reads x) es
        own q =
            any_own e es k reads q
            ∙ rw (le-ltb e.number (commit_of es m) (omega (arith, h.newer_than_commit m)), and_fails_right (kind_judged_read e.kind) false refl)

  -- ---- an event of M adds those that arise with it

  module _ (k : ℕ) (o : e.who ≡ k → ⊥) where
    -- M has not committed before, so no pair rests on its commit
    write_write_none : day_write_write z es k e.who ≡ false
    unfolding day_write_write
    write_write_none = rw h.unsealed (and_fails_right (committed es k) false refl)

    read_write_none : day_read_write es k e.who ≡ false
    unfolding day_read_write
    read_write_none = rw h.unsealed

    -- real time: as before, and all who have committed if the event starts M
    real_time_own : day_real_time (e ∷ es) k e.who ≡ day_real_time es k e.who
    unfolding day_real_time
    real_time_own = rw (committed_other e es k o, commit_of_other e es k o)

    real_time_starts : kind_starts e.kind ≡ true → day_real_time es k e.who ≡ committed es k
    unfolding day_real_time
    real_time_starts s =
        rw (lt-ltb (commit_of es k) e.who (omega (arith, h.newer_than_commit k, h.started s))) (and-true (committed es k))

    -- write then read: one more if the event is a judged read
    write_read_own : day_write_read (e ∷ es) k e.who ≡ (kind_judged_read e.kind && committed_cell es k e.cell) || day_write_read es k e.who
    unfolding day_write_read committed_cell
    write_read_own =
        rw (committed_other e es k o, commit_of_other e es k o, wrote_other e es k o)
        (ap (λ b. committed es k && b) (any_own e es e.who _ refl)
        ∙ rw (lt-ltb (commit_of es k) e.number (h.newer_than_commit k))
        (and_over_or (committed es k) (kind_judged_read e.kind) (wrote_cell es k e.cell) _))

    -- K committed or read a cell of some set
    module _ (cells : ℕ → Bool) where
      abbrev committed_one : ℕ → Bool
      committed_one c = wrote_cell es k c && cells c

      abbrev read_one : Event → Bool
      read_one x = eqb x.who k && (kind_judged_read x.kind && (ltb x.number e.number && cells x.cell))

      abbrev shared : ℕ → Bool
      shared c = cells c && (committed_cell es k c || read_cell es k c)

      -- what the tests say
      abbrev CommittedOne : Type 0
      CommittedOne = (committed es k ≡ true) × ((c : ℕ) × (c < z.cells) × ((wrote_cell es k c ≡ true) × (cells c ≡ true)))

      abbrev ReadOne : Type 0
      ReadOne =
          (x : Event) × Memᴰ x es
          × ((x.who ≡ k) × ((kind_judged_read x.kind ≡ true) × ((x.number < e.number) × (cells x.cell ≡ true))))

      abbrev Shared : Type 0
      Shared =
          (c : ℕ) × (c < z.cells)
          × ((cells c ≡ true)
          × (((committed es k ≡ true) × (wrote_cell es k c ≡ true))
          ⊎ ((x : Event) × Memᴰ x es × ((x.who ≡ k) × ((kind_judged_read x.kind ≡ true) × (x.cell ≡ c))))))

      -- to commit or read one of them is to share it
      either_says_shared : (CommittedOne ⊎ ReadOne) ↔ Shared
      either_says_shared = (
        ⊎_elim (λ a. let x = a.1 in (x.0, x.1, (x.2.1, inl (a.0, x.2.0))))
            (λ x. let p = x.2 in (x.0.cell, h.cells_known x.1 p.1.0, (p.1.1.1, inr (x.0, x.1, (p.0, (p.1.0, refl)))))),
        λ x.
            ⊎_elim (λ a. inl (a.0, (x.0, x.1, (a.1, x.2.0))))
            (λ y. let p = y.2 in inr (y.0, y.1, (p.0, (p.1.0, (h.newer y.1, ap cells p.1.1 ∙ x.2.0))))) x.2.1,
      )

      either_shared : (committed es k && any_below committed_one z.cells) || any_in read_one (e ∷ es) ≡ any_below shared z.cells
      unfolding committed_cell read_cell
      either_shared =
          ap (λ b. (committed es k && any_below committed_one z.cells) || b)
          (any_other e es k (λ x. kind_judged_read x.kind && (ltb x.number e.number && cells x.cell)) o)
          ∙ same_tests _ _ (λ t. right.1 (either_says_shared.0 (left.0 t))) (λ t. left.1 (either_says_shared.1 (right.0 t)))
        where
          left : ((committed es k && any_below committed_one z.cells) || any_in read_one es ≡ true) ↔ (CommittedOne ⊎ ReadOne)
          left =
              or_says (and_says Iff.rfl (any_says committed_one z.cells λ c. and_says Iff.rfl Iff.rfl))
              (any_in_says read_one es λ x. and_says (eqb_says x.who k) (and_says Iff.rfl (and_says (ltb_says x.number e.number) Iff.rfl)))

          right : (any_below shared z.cells ≡ true) ↔ Shared
          right =
              any_says shared z.cells λ c.
              and_says Iff.rfl
              (or_says (and_says Iff.rfl Iff.rfl)
              (any_in_says (λ x. eqb x.who k && (kind_judged_read x.kind && eqb x.cell c)) es λ x.
              and_says (eqb_says x.who k) (and_says Iff.rfl (eqb_says x.cell c))))

    -- write then write and read then write: those that arise as M commits
    commit_own : day_write_write z (e ∷ es) k e.who || day_read_write (e ∷ es) k e.who
        ≡ kind_commits e.kind && any_below (shared (wrote_cell (e ∷ es) e.who)) z.cells
    unfolding day_write_write day_read_write
    commit_own =
        rw (committed_own e es e.who refl, h.unsealed, committed_other e es k o, commit_of_other e es k o, wrote_other e es k o)
        (split (kind_commits e.kind)
        (λ c.
        rw (c, commit_of_own e es e.who refl c, lt-ltb (commit_of es k) e.number (h.newer_than_commit k))
        (either_shared (wrote_cell (e ∷ es) e.who)))
        (λ c. rw (c, and_fails_right (committed es k) false refl)))

    -- who has committed stands before M already if the event starts it
    absorbed_by_start : committed es k || (day_write_read es k e.who || false) ≡ committed es k
    unfolding day_write_read
    absorbed_by_start = absorbed (committed es k) _

    -- the four together
    four_own : four z (e ∷ es) k e.who ≡ (is_transaction es e.who && four z es k e.who) || arises z es e k
    unfolding arises
    four_own =
        let read = kind_judged_read e.kind && committed_cell es k e.cell in
        let written = day_write_write z (e ∷ es) k e.who in
        let read_before = day_read_write (e ∷ es) k e.who in
        rw (real_time_own, write_read_own, write_write_none, read_write_none, ← commit_own)
        (sym (or_five (day_real_time es k e.who) (day_write_read es k e.who) read written read_before)
        ∙ split (kind_starts e.kind) (λ s. rw (s, not_begun s, real_time_starts s, absorbed_by_start)) (λ s. rw (s, h.begun s)))

    -- and with that M has begun
    own_more : begun_before z (e ∷ es) k e.who ≡ begun_before z es k e.who || arises z es e k
    unfolding begun_before day_before
    own_more = rw (ne_eqb k e.who (λ q. o (sym q)), transaction_own) four_own

  -- one event more adds just the pairs that arise with it
  pub one_more : (k m : ℕ) → (k ≡ m → ⊥) → begun_before z (e ∷ es) k m ≡ begun_before z es k m || (eqb e.who m && arises z es e k)
  unfolding begun_before day_before
  one_more k m d =
      equal_or_not e.who m
      (λ q.
      rw (eq-eqb e.who m q)
      (subst (λ (x : ℕ). begun_before z (e ∷ es) k x ≡ begun_before z es k x || arises z es e k) q (own_more k (λ p. d (sym p ∙ q)))))
      (λ o.
      rw (ne_eqb e.who m o, transaction_other m o)
      (split (is_transaction es m)
      (λ t. rw (t, real_time_other k m o t, write_write_other k m o t, write_read_other k m o t, read_write_other k m o t) (sym (or-false _)))
      (λ t. rw t)))
