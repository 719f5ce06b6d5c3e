-- Laws of commits and moments in a day that walks: held places have different begin records, a transaction has at most one committing
-- event, and commit and moment are numbers of the day. Assumes nothing.
use Prim.Native.Nat.{ℕ, suc, ◌≤◌}
use mathlib.Core.Path.{◌≡◌, refl, sym, ◌∙◌, ap}
use mathlib.Core.Logic.{◌↔◌, ◌⊎◌, inl, inr, ⊎_elim}
use mathlib.Core.Bool.{Bool, true, false, ◌&&◌, false≢true}
use mathlib.Core.List.Memᴰ
use mathlib.Core.List.{List, [], ◌∷◌, Memᴰ}
use lib.ListN.{length}
use lib.Dec.{eqb}
use native.Mathlib.Omega.{arith}
use borrow.Author.Tests.{eqb-true, eq-eqb}
use Rattle.basics.specs.Lists.{any_in}
use Rattle.basics.proofs.Bools.{split, and_left, and_right, and_both, false_of_not, true_of_not, or_false_left, or_false_right, equal_or_not}
use Rattle.basics.proofs.Lists.{any_in_of, same_end}
use Rattle.rules.specs.declared.Record.{Record}
use Rattle.rules.specs.Sizes.{Size}
use Rattle.rules.specs.Kinds.{kind_starts, kind_commits, kind_moves_moment}
use Rattle.rules.specs.Layout.{seat, fits, walks, Held}
use Rattle.rules.specs.Day.{Event, whose, event, events, latest, is_transaction, commit_of, committed, moment_of}
use Rattle.rules.proofs.Log.Seats.{walks_earlier, used_live, seat_by, moved_commits, seat_here, seat_other, fits_live, held_of_seat, seat_of_held}
use Rattle.rules.proofs.Day.Events.{event_cases, number_bounds, begin_bound, whose_starts, whose_others, who_bound, who_transaction}

-- ---- held places

-- two held places with one begin record are one place
held_once : {p q : ℕ} {earlier : List Record} (a : Held p earlier) (b : Held q earlier) → length a.before ≡ length b.before → p ≡ q
held_once a b l =
    let ends : (a.start ∷ a.before) ≡ (b.start ∷ b.before) = same_end a.since _ b.since _ (ap suc l) (sym a.split ∙ b.split) in
    let one : a.start ≡ b.start = cc in
    sym a.there ∙ ap (λ r. r.place) one ∙ b.there

pub begins_differ : (z : Size) (earlier : List Record) → walks z earlier ≡ true → (p q : ℕ) → 1 ≤ (seat earlier p).status → 1 ≤ (seat earlier q).status
    → (seat earlier p).begin ≡ (seat earlier q).begin → p ≡ q
begins_differ z earlier w p q hp hq e =
    let a = held_of_seat p z earlier w hp in
    let b = held_of_seat q z earlier w hq in
    held_once a b (omega (arith, seat_of_held p earlier a, seat_of_held q earlier b))

-- ---- one committing event

-- no place is live with the transaction
abbrev pub Sealed : ℕ → List Record → Type 0
Sealed t earlier = (p : ℕ) → (seat earlier p).status ≡ 1 → (seat earlier p).begin ≡ t → ⊥

-- what no place is live with stays so, past any record
pub sealed_more : (t : ℕ) (r : Record) (earlier : List Record) → t ≤ length earlier → Sealed t earlier → Sealed t (r ∷ earlier)
sealed_more t r earlier h known p =
    seat_by r earlier p (λ s. s.status ≡ 1 → s.begin ≡ t → ⊥) (λ other. known p) λ here.
    record {
      on_free = λ f live begun. omega arith;
      on_start = λ k live begun. omega arith;
      on_other = λ k f live. known p (used_live r (seat earlier p) live).1;
    }

module _ (z : Size) where
  -- once a record commits, no place is live with its transaction
  sealed_here : (r : Record) (earlier : List Record) → walks z (r ∷ earlier) ≡ true → kind_commits r.kind ≡ true
      → Sealed (whose earlier r) (r ∷ earlier)
  sealed_here r earlier w c p live begun =
      equal_or_not r.place p at_place (λ other. split (kind_starts r.kind) (started_elsewhere other) (committed_elsewhere other))
    where
      at_place : r.place ≡ p → ⊥
      at_place here =
          let seated = ap (λ s. s.status) (seat_here r earlier p here) in
          omega (arith, moved_commits (suc (length earlier)) r (seat earlier p) c)

      started_elsewhere : (r.place ≡ p → ⊥) → kind_starts r.kind ≡ true → ⊥
      started_elsewhere other k =
          omega (arith, rw (seat_other r earlier p other) at begun, whose_starts earlier r k, begin_bound earlier p)

      committed_elsewhere : (r.place ≡ p → ⊥) → kind_starts r.kind ≡ false → ⊥
      committed_elsewhere other k =
          let v = walks_earlier z r earlier w in
          let there = fits_live earlier r k v.1 in
          let here : (seat earlier p).status ≡ 1 = rw (seat_other r earlier p other) at live in
          let whose_it_is : (seat earlier p).begin ≡ whose earlier r = rw (seat_other r earlier p other) at begun in
          other (sym (begins_differ z earlier v.0 p r.place (omega arith) (omega arith) (whose_it_is ∙ whose_others earlier r k)))

  -- and that stays so
  sealed_after : (day : List Record) {e : Event} → walks z day ≡ true → Memᴰ e (events day) → kind_commits e.kind ≡ true → Sealed e.who day
  unfolding events event
  sealed_after [] w m c = absurd (Memᴰ.not-nil m)
  sealed_after (r ∷ earlier) {e} w m c =
      ⊎_elim (λ q. rw q (sealed_here r earlier w (rw q at c)))
      (λ k.
      let below : e.who ≤ length earlier = omega (arith, who_bound earlier k, number_bounds earlier k) in
      sealed_more e.who r earlier below (sealed_after earlier (walks_earlier z r earlier w).0 k c))
      (event_cases r earlier m)

  -- no record is of a transaction that has committed before
  pub commits_last : (r : Record) (earlier : List Record) {e : Event} → walks z (r ∷ earlier) ≡ true → Memᴰ e (events earlier)
      → kind_commits e.kind ≡ true → e.who ≡ whose earlier r → ⊥
  commits_last r earlier {e} w m ce q =
      split (kind_starts r.kind)
      (λ k. omega (arith, whose_starts earlier r k, who_bound earlier m, number_bounds earlier m))
      (λ k. sealed_after earlier v.0 m ce r.place (fits_live earlier r k v.1).0 (sym (whose_others earlier r k) ∙ sym q))
    where
      v : (walks z earlier ≡ true) × (fits earlier r ≡ true)
      v = walks_earlier z r earlier w

  -- a transaction has at most one committing event
  pub commits_unique : (day : List Record) {e f : Event} → walks z day ≡ true → Memᴰ e (events day) → Memᴰ f (events day)
      → kind_commits e.kind ≡ true → kind_commits f.kind ≡ true → e.who ≡ f.who → e ≡ f
  unfolding events event
  commits_unique [] w m n ce cf q = absurd (Memᴰ.not-nil m)
  commits_unique (r ∷ earlier) {e} {f} w m n ce cf q =
      ⊎_elim
      (λ a. ⊎_elim (λ b. a ∙ sym b) (λ b. absurd (newer a b cf (sym q))) (event_cases r earlier n))
      (λ a. ⊎_elim (λ b. absurd (newer b a ce q)) (λ b. commits_unique earlier (walks_earlier z r earlier w).0 a b ce cf q) (event_cases r earlier n))
      (event_cases r earlier m)
    where
      newer : {x y : Event} → x ≡ event earlier r → Memᴰ y (events earlier) → kind_commits y.kind ≡ true → y.who ≡ x.who → ⊥
      newer a b c o = commits_last r earlier w b c (rw a at o)

-- ---- the newest event that passes

module _ (passes : Event → Bool) where
  -- it is the number of an event that passes, or 0 where none does
  pub latest_none : (es : List Event) → any_in passes es ≡ false → latest passes es ≡ 0
  unfolding latest any_in
  latest_none [] q = refl
  latest_none (e ∷ earlier) q =
      rw (or_false_left (passes e) (any_in passes earlier) q) (latest_none earlier (or_false_right (passes e) (any_in passes earlier) q))

  pub latest_found : (es : List Event) → any_in passes es ≡ true → (e : Event) × Memᴰ e es × (passes e ≡ true) × (latest passes es ≡ e.number)
  unfolding latest any_in
  latest_found [] q = absurd (false≢true q)
  latest_found (e ∷ earlier) q =
      split (passes e) (λ t. (e, Memᴰ.head refl, t, rw t))
      (λ f. let x = latest_found earlier (rw f at q) in (x.0, Memᴰ.tail x.1, x.2, rw f x.3))

  -- in a day it is 0 exactly where none does
  pub latest_zero : (day : List Record) → (latest passes (events day) ≡ 0) ↔ (any_in passes (events day) ≡ false)
  latest_zero day = (
    λ q. false_of_not (any_in passes (events day)) (λ t. let x = latest_found (events day) t in omega (arith, number_bounds day x.1, x.3)),
    latest_none (events day),
  )

  pub latest_some : (day : List Record) → (latest passes (events day) ≡ 0 → ⊥) → any_in passes (events day) ≡ true
  latest_some day h = true_of_not (any_in passes (events day)) (λ f. h (latest_none (events day) f))

  -- it is at most the last number
  pub latest_at_most : (day : List Record) → latest passes (events day) ≤ length day
  latest_at_most day =
      split (any_in passes (events day))
      (λ t. let x = latest_found (events day) t in omega (arith, number_bounds day x.1, x.3))
      (λ f. omega (arith, latest_none (events day) f))

-- ---- commit and moment

module _ (day : List Record) (t : ℕ) where
  -- its events that commit, and those that move the moment before
  abbrev commits_it : Event → Bool
  commits_it e = eqb e.who t && kind_commits e.kind

  abbrev reads_it : Event → Bool
  reads_it e = eqb e.who t && kind_moves_moment e.kind

  -- the commit record is a number of the day
  pub commit_at_most : commit_of (events day) t ≤ length day
  unfolding commit_of
  commit_at_most = latest_at_most commits_it day

  -- so is the moment, if the transaction's begin is
  pub moment_at_most : t ≤ length day → moment_of (events day) t ≤ length day
  unfolding moment_of commit_of
  moment_at_most h =
      let read = latest reads_it (events day) in
      split (committed (events day) t) (λ c. rw c (latest_at_most commits_it day))
      (λ c. rw c (split (eqb read 0) (λ q. rw q h) (λ q. rw q (latest_at_most reads_it day))))

-- ---- the committing event

-- a committed transaction has its event, with the number of the commit; and an event that commits makes its transaction committed
abbrev pub CommitEvent : List Event → ℕ → Type 0
CommitEvent es k = (e : Event) × Memᴰ e es × (e.who ≡ k) × (kind_commits e.kind ≡ true) × (commit_of es k ≡ e.number)

module _ (es : List Event) (k : ℕ) where
  pub commit_event : committed es k ≡ true → CommitEvent es k
  unfolding committed commit_of
  commit_event h =
      let x = latest_found (λ e. eqb e.who k && kind_commits e.kind) es h in
      let e = x.0 in (
        e,
        x.1,
        eqb-true e.who k (and_left (eqb e.who k) (kind_commits e.kind) x.2),
        and_right (eqb e.who k) (kind_commits e.kind) x.2,
        x.3,
      )

  pub committed_by : {e : Event} → Memᴰ e es → e.who ≡ k → kind_commits e.kind ≡ true → committed es k ≡ true
  unfolding committed
  committed_by {e} m q c =
      any_in_of (λ f. eqb f.who k && kind_commits f.kind) es m
      (and_both (eqb e.who k) (kind_commits e.kind) (eq-eqb e.who k q) c)

-- who has committed did so with the newest record, which is its own, or before
pub committed_cases : (r : Record) (earlier : List Record) (k : ℕ) → committed (events (r ∷ earlier)) k ≡ true
    → ((whose earlier r ≡ k) × (kind_commits r.kind ≡ true)) ⊎ (committed (events earlier) k ≡ true)
unfolding event
committed_cases r earlier k c =
    let x = commit_event (events (r ∷ earlier)) k c in
    ⊎_elim (λ q. inl (sym (ap (λ e. e.who) q) ∙ x.2, sym (ap (λ e. kind_commits e.kind) q) ∙ x.3))
    (λ i. inr (committed_by (events earlier) k i x.2 x.3)) (event_cases r earlier x.1)

-- who has committed has begun
pub committed_begun : (z : Size) (day : List Record) → walks z day ≡ true → (k : ℕ) → committed (events day) k ≡ true → is_transaction (events day) k ≡ true
committed_begun z day w k c =
    let x = commit_event (events day) k c in
    ap (is_transaction (events day)) (sym x.2) ∙ who_transaction z day w x.1

-- no record is of a transaction that has committed before it
pub committed_ends : (z : Size) (r : Record) (earlier : List Record) (k : ℕ) → walks z (r ∷ earlier) ≡ true → committed (events earlier) k ≡ true
    → whose earlier r ≡ k → ⊥
committed_ends z r earlier k w h q =
    let x = commit_event (events earlier) k h in
    commits_last z r earlier w x.1 x.3 (x.2 ∙ sym q)

-- the commit record is the number of the committing event
pub commit_of_event : (z : Size) (day : List Record) {e : Event} → walks z day ≡ true → Memᴰ e (events day) → kind_commits e.kind ≡ true
    → commit_of (events day) e.who ≡ e.number
commit_of_event z day {e} w m c =
    let x = commit_event (events day) e.who (committed_by (events day) e.who m refl c) in
    x.4 ∙ ap (λ f. f.number) (commits_unique z day w x.1 m x.3 c x.2)
