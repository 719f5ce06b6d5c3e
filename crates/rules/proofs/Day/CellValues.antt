-- The value of a cell as some transactions leave it, told by the last commit of the cell among them; the table in time is as the listed
-- transactions leave it. It holds of any day that walks. Assumes nothing.
use Prim.Native.Nat.{ℕ, suc, ◌≤◌}
use mathlib.Core.Path.{◌≡◌, refl, sym, ◌∙◌, ap, subst}
use mathlib.Core.Logic.{◌↔◌, ◌⊎◌, inl, inr, ⊎_elim}
use mathlib.Core.Bool.{Bool, true, false, ◌&&◌, false≢true}
use mathlib.Core.List.Memᴰ
use mathlib.Core.List.{List, [], ◌∷◌, ◌++◌}
use lib.ListN.{length}
use native.Mathlib.Omega.{arith}
use Rattle.basics.specs.Lists.{any_in, member}
use Rattle.basics.proofs.Bools.{split, clash, and_left, and_right, and_both, cond_passes, cond_fails}
use Rattle.rules.specs.declared.Record.{Record}
use Rattle.rules.specs.Sizes.{Size}
use Rattle.rules.specs.Cells.{cell_of}
use Rattle.rules.specs.Kinds.{kind_commits}
use Rattle.rules.specs.Layout.{walks}
use Rattle.rules.specs.Day.{Event, event, events, commit_of, committed, wrote_cell, written_value}
use Rattle.rules.proofs.Log.Seats.{walks_earlier}
use Rattle.rules.proofs.Day.Commits.{commit_at_most, commit_event, committed_by, committed_ends, commit_of_event}
use Rattle.rules.proofs.Log.LaidOut.{walks_before}
use Rattle.rules.proofs.Replay.InTime.{committed_cell, table_by}
use Rattle.rules.proofs.Day.Settled.{commit_shared, Unchanged, unchanged, unchanged_past, unchanged_cell, settled, committed_then}

-- ---- the value of a cell as some transactions leave it

-- who committed the cell is committed and wrote it
pub cell_committed : (es : List Event) (k c : ℕ) → (committed_cell es k c ≡ true) → (committed es k ≡ true) × (wrote_cell es k c ≡ true)
unfolding committed_cell
cell_committed es k c h = (and_left (committed es k) (wrote_cell es k c) h, and_right (committed es k) (wrote_cell es k c) h)

-- of those in P, k has the last commit of the cell
pub record LastCommit (es : List Event) (P : ℕ → Type 0) (c k : ℕ) : Type 0 where
  pub among : P k
  pub commits : committed_cell es k c ≡ true
  pub newest : (j : ℕ) → P j → committed_cell es j c ≡ true → commit_of es j ≤ commit_of es k

-- the opening value if none of P committed the cell; else the value of the last commit
abbrev pub LeftBy : List ℕ → List Event → (ℕ → Type 0) → ℕ → List ℕ → Type 0
LeftBy opening es P c v =
    (((j : ℕ) → P j → committed_cell es j c ≡ true → ⊥) × (v ≡ cell_of opening c))
    ⊎ ((k : ℕ) × LastCommit es P c k × (v ≡ written_value es k c))

module _ (opening : List ℕ) (c : ℕ) where
  -- the same value, with those that committed the cell the same in other events
  pub left_elsewhere : (es es' : List Event) (P Q : ℕ → Type 0) (v : List ℕ)
      → ((k : ℕ) → P k → committed_cell es k c ≡ true → Q k × Unchanged es es' k)
      → ((k : ℕ) → Q k → committed_cell es' k c ≡ true → P k × (committed_cell es k c ≡ true))
      → LeftBy opening es P c v → LeftBy opening es' Q c v
  left_elsewhere es es' P Q v there back =
      ⊎_elim (λ n. inl ((λ j h t. let b = back j h t in n.0 j b.0 b.1), n.1)) λ x.
      let k = x.0 in
      let last = x.1 in
      let u = there k last.among last.commits in
      inr (
        k,
        record {
          among = u.0;
          commits = unchanged_cell c u.1 ∙ last.commits;
          newest = λ j h t.
              let b = back j h t in
              let i = there j b.0 b.1 in
              omega (arith, last.newest j b.0 b.1, u.1.same_commit, i.1.same_commit);
        },
        x.2 ∙ sym (u.1.same_value c),
      )

  -- two values that are left by the same transactions are one
  pub left_once : (day : List Record) (P Q : ℕ → Type 0) (v u : List ℕ) → ((k : ℕ) → committed_cell (events day) k c ≡ true → P k ↔ Q k)
      → LeftBy opening (events day) P c v → LeftBy opening (events day) Q c u → v ≡ u
  left_once day P Q v u alike =
      ⊎_elim
      (λ n. ⊎_elim (λ o. n.1 ∙ sym o.1) (λ y. absurd (n.0 y.0 ((alike y.0 y.1.commits).1 y.1.among) y.1.commits)))
      (λ x. ⊎_elim (λ o. absurd (o.0 x.0 ((alike x.0 x.1.commits).0 x.1.among) x.1.commits)) (both x))
    where
      es : List Event
      es = events day

      both : (k : ℕ) × LastCommit es P c k × (v ≡ written_value es k c) → (k : ℕ) × LastCommit es Q c k × (u ≡ written_value es k c) → v ≡ u
      both x y =
          let k = x.0 in
          let j = y.0 in
          let a = x.1.newest j ((alike j y.1.commits).1 y.1.among) y.1.commits in
          let b = y.1.newest k ((alike k x.1.commits).0 x.1.among) x.1.commits in
          let one = commit_shared day k j (cell_committed es k c x.1.commits).0 (cell_committed es j c y.1.commits).0 (omega arith) in
          x.2 ∙ ap (λ i. written_value es i c) one ∙ sym y.2

-- ---- the table in time

-- a listed transaction, and one whose commit has a number up to n
abbrev pub Listed : List ℕ → ℕ → Type 0
Listed order k = member k order ≡ true

abbrev pub ListedBy : List ℕ → List Event → ℕ → ℕ → Type 0
ListedBy order es n k = Listed order k × (commit_of es k ≤ n)

module _ (z : Size) (opening : List ℕ) (order : List ℕ) (c : ℕ) where
  -- the table of a day is as its listed transactions leave it
  abbrev TableLeft : List Record → Type 0
  TableLeft day = LeftBy opening (events day) (Listed order) c (table_by opening order (events day) c)

  -- so with one record more, whether or not it commits the cell for a listed one
  module _ (r : Record) (earlier : List Record) (w : walks z (r ∷ earlier) ≡ true) where
    -- the record's event, the events with it, and whether it sets the cell
    abbrev e : Event
    e = event earlier r

    abbrev es : List Event
    es = e ∷ events earlier

    abbrev sets : Bool
    sets = member e.who order && (kind_commits e.kind && wrote_cell es e.who c)

    table_set : sets ≡ true → TableLeft (r ∷ earlier)
    unfolding table_by committed_cell events event
    table_set t =
        let listed = and_left (member e.who order) _ t in
        let rest = and_right (member e.who order) (kind_commits e.kind && wrote_cell es e.who c) t in
        let commits = and_left (kind_commits e.kind) _ rest in
        let done = committed_by es e.who (Memᴰ.head refl) refl commits in
        let top : commit_of es e.who ≡ suc (length earlier) = commit_of_event z (r ∷ earlier) w (Memᴰ.head refl) commits in
        inr (
          e.who,
          record {
            among = listed;
            commits = and_both (committed es e.who) (wrote_cell es e.who c) done (and_right (kind_commits e.kind) _ rest);
            newest = λ j h u. omega (arith, commit_at_most (r ∷ earlier) j, top);
          },
          cond_passes _ _ t,
        )

    table_kept : sets ≡ false → TableLeft earlier → TableLeft (r ∷ earlier)
    unfolding table_by events event
    table_kept f left =
        left_elsewhere opening c (events earlier) es (Listed order) (Listed order) (table_by opening order es c)
        (λ k h t. (h, stays k (cell_committed (events earlier) k c t).0)) back
        (subst (LeftBy opening (events earlier) (Listed order) c) (sym (cond_fails _ _ f)) left)
      where
        stays : (k : ℕ) → committed (events earlier) k ≡ true → Unchanged (events earlier) es k
        stays k h = unchanged_past (events earlier) (events earlier) k e (committed_ends z r earlier k w h) (unchanged (events earlier) k)

        back : (k : ℕ) → Listed order k → committed_cell es k c ≡ true → Listed order k × (committed_cell (events earlier) k c ≡ true)
        back k h t =
            let a = cell_committed es k c t in
            let x = commit_event es k a.0 in
            ⊎_elim
            (λ q.
            let own : e.who ≡ k = sym (ap (λ f. f.who) q) ∙ x.2 in
            let commits : kind_commits e.kind ≡ true = sym (ap (λ f. kind_commits f.kind) q) ∙ x.3 in
            let wrote : wrote_cell es e.who c ≡ true = ap (λ i. wrote_cell es i c) own ∙ a.1 in
            absurd (clash (and_both (member e.who order) _ (rw own h) (and_both (kind_commits e.kind) _ commits wrote)) f))
            (λ m. (h, sym (unchanged_cell c (stays k (committed_by (events earlier) k m x.2 x.3))) ∙ t))
            (Memᴰ.cases_cons x.1)

  -- the table is as the listed transactions leave it
  pub table_left : (day : List Record) → walks z day ≡ true → TableLeft day
  unfolding table_by committed_cell committed any_in events
  table_left [] w = inl ((λ j h t. false≢true t), refl)
  table_left (r ∷ earlier) w =
      split (sets r earlier w) (table_set r earlier w) (λ f. table_kept r earlier w f (table_left earlier (walks_earlier z r earlier w).0))

  -- the table after the earlier records, told of the whole day: as the listed ones leave it that committed by then
  pub table_left_then : (day later earlier : List Record) → day ≡ later ++ earlier → walks z day ≡ true
      → LeftBy opening (events day) (ListedBy order (events day) (length earlier)) c (table_by opening order (events earlier) c)
  table_left_then day later earlier q w =
      subst
      (λ (rs : List Record). LeftBy opening (events rs) (ListedBy order (events rs) (length earlier)) c (table_by opening order (events earlier) c))
      (sym q)
      (left_elsewhere opening c (events earlier) es (Listed order) (ListedBy order es (length earlier)) (table_by opening order (events earlier) c) there back
      (table_left earlier (walks_before z later earlier walk)))
    where
      es : List Event
      es = events (later ++ earlier)

      walk : walks z (later ++ earlier) ≡ true
      walk = rw q at w

      there : (k : ℕ) → Listed order k → committed_cell (events earlier) k c ≡ true → ListedBy order es (length earlier) k × Unchanged (events earlier) es k
      there k h t =
          let u = settled z later earlier k walk (cell_committed (events earlier) k c t).0 in
          ((h, omega (arith, u.same_commit, commit_at_most earlier k)), u)

      back : (k : ℕ) → ListedBy order es (length earlier) k → committed_cell es k c ≡ true → Listed order k × (committed_cell (events earlier) k c ≡ true)
      back k h t =
          let done = committed_then later earlier k (cell_committed es k c t).0 h.1 in
          (h.0, sym (unchanged_cell c (settled z later earlier k walk done)) ∙ t)
