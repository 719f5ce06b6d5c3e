-- Who, listed later, comes to stand before a record's transaction: what is kept says what the day says, kind by kind. Assumes nothing.
use Prim.Native.Nat.{ℕ, ◌<◌}
use mathlib.Core.Path.{◌≡◌, refl, sym, ◌∙◌, ap, ap₂}
use mathlib.Core.Bool.{Bool, true, false, ◌&&◌, ◌||◌, or-false}
use mathlib.Core.List.{List, ◌∷◌}
use native.Mathlib.Omega.{arith}
use lib.ListN.{length, get_or}
use lib.Dec.{ltb, eqb}
use borrow.Author.Tests.{eq-eqb, ne_eqb}
use Rattle.std.proofs.Common.{is_some}
use Rattle.basics.specs.Below.{any_below}
use Rattle.basics.specs.Lists.{any_in}
use Rattle.basics.proofs.Bools.{split, and_or, and_fails_left, and_fails_right}
use Rattle.basics.proofs.Below.{any_fails, any_cong, any_or, any_only, any_exchange}
use Rattle.basics.proofs.Lists.{any_in_fails}
use Rattle.rules.specs.declared.Record.{Record}
use Rattle.rules.specs.declared.Size.{Size}
use Rattle.rules.specs.Kinds.{kind_posts, kind_starts, kind_commits, kind_writes, kind_judged_read}
use Rattle.rules.specs.Layout.{walks}
use Rattle.rules.specs.Day.{Event, whose, event, events, committed, wrote_cell}
use Rattle.rules.proofs.Log.KindLaws.{posts_starts, posts_writes, posts_commits, posts_read_nothing, starts_commit_posts, commits_write_nothing, reads_start_nothing, reads_commit_nothing, writes_have_cell}
use Rattle.rules.proofs.Replay.InTime.{read_cell, committed_cell, arises}
use Rattle.rules.proofs.Day.Events.{number_bounds, who_bound, whose_starts}
use Rattle.check_list.specs.Listed.{position}
use Rattle.check_replay.specs.declared.state.Replay.{Replay}
use Rattle.check_replay.specs.Kept.{nobody, wrote_in}
use Rattle.check_later.specs.declared.later.Uses.{Uses}
use Rattle.check_later.specs.declared.later.Uses.TheVariants.{Commits, CommitsAndReads}
use Rattle.check_later.specs.Later.{reads_count, written_used, committed_later, used_later, any_used_later, overtaken}
use Rattle.check_list.proofs.Positions.{position_found}
use Rattle.checker.proofs.KeptMirrored.{Mirrors, walks_fields, some_record, committed_told, wrote_told}

-- ---- kinds

-- what a kind does: start, read and be judged, commit
abbrev Does : ℕ → Bool → Bool → Bool → Type 0
Does k starts reads commits = (kind_starts k ≡ starts) × (kind_judged_read k ≡ reads) × (kind_commits k ≡ commits)

posts_do : (k : ℕ) → kind_posts k ≡ true → Does k true false true
posts_do k p = (posts_starts k p, posts_read_nothing k p, posts_commits k p)

-- ---- what is kept, and what the day says

module _ (z : Size) (t : ℕ) (order : List ℕ) (day : List Record) (s : Replay) (r : Record) (m : Mirrors z t order day s) (w : walks z (r ∷ day) ≡ true) where
  -- the events, the record's event and its transaction, and where that stands
  abbrev es : List Event
  es = events day

  abbrev who : ℕ
  who = whose day r

  abbrev at : ℕ
  at = position order who

  -- somebody listed later passes
  abbrev any_later : (ℕ → Bool) → Bool
  any_later p = any_below (λ i. ltb at i && p (get_or order i 0)) (length order)

  later_cong : (p q : ℕ → Bool) → ((k : ℕ) → p k ≡ q k) → any_later p ≡ any_later q
  later_cong p q h =
      any_cong (λ i. ltb at i && p (get_or order i 0)) (λ i. ltb at i && q (get_or order i 0)) (length order) (λ i b. ap (λ x. ltb at i && x) (h (get_or order i 0)))

  -- who has committed, and who has used a cell
  committed_kept : (i : ℕ) → i < length order → is_some (get_or s.listed i nobody).commit ≡ committed es (get_or order i 0)
  committed_kept i h = ap is_some (m.commits i h) ∙ some_record _ ∙ sym (committed_told day (get_or order i 0))

  wrote_kept : (i c : ℕ) → i < length order → c < z.cells → is_some (wrote_in (get_or s.listed i nobody) c) ≡ wrote_cell es (get_or order i 0) c
  wrote_kept i c h k = ap is_some (m.writes i c h k) ∙ some_record _ ∙ sym (wrote_told day (get_or order i 0) c)

  committed_later_told : committed_later s.listed at (length order) ≡ any_later (committed es)
  unfolding committed_later
  committed_later_told =
      any_cong (λ i. ltb at i && is_some (get_or s.listed i nobody).commit) (λ i. ltb at i && committed es (get_or order i 0)) (length order)
      (λ i h. ap (λ b. ltb at i && b) (committed_kept i h))

  -- somebody used the cell
  abbrev used : ℕ → ℕ → Bool
  used c k = committed_cell es k c || read_cell es k c

  module _ (c : ℕ) (k : c < z.cells) where
    used_kept : (uses : Uses) → used_later s.listed c uses at (length order) ≡ any_later (λ j. committed_cell es j c || (reads_count uses && read_cell es j c))
    unfolding used_later committed_cell
    used_kept uses =
        any_cong _ (λ i. ltb at i && (committed_cell es (get_or order i 0) c || (reads_count uses && read_cell es (get_or order i 0) c))) (length order)
        (λ i h. rw (committed_kept i h, wrote_kept i c h k, m.reads i c h k))

    pub written_later_told : used_later s.listed c Commits at (length order) ≡ any_later (λ j. committed_cell es j c)
    written_later_told = used_kept Commits ∙ later_cong (λ j. committed_cell es j c || false) (λ j. committed_cell es j c) (λ j. or-false (committed_cell es j c))

    used_later_told : used_later s.listed c CommitsAndReads at (length order) ≡ any_later (used c)
    used_later_told = used_kept CommitsAndReads

  -- ---- who comes to stand before the record's transaction

  -- the one that arises with it, by what its kind does
  arises_as : {a b c : Bool} → Does r.kind a b c → (k : ℕ)
      → arises z es (event day r) k
      ≡ (a && committed es k) || ((b && committed_cell es k r.cell) || (c && any_below (λ d. wrote_cell (events (r ∷ day)) who d && used d k) z.cells))
  unfolding arises event events
  arises_as f k = rw (f.0, f.1, f.2)

  -- the cells that its transaction has written with it
  wrote_own : (c : ℕ) → wrote_cell (events (r ∷ day)) who c ≡ (kind_writes r.kind && eqb r.cell c) || wrote_cell es who c
  unfolding wrote_cell any_in events event
  wrote_own c = rw (eq-eqb who who refl)

  wrote_none : kind_starts r.kind ≡ true → (c : ℕ) → wrote_cell es who c ≡ false
  unfolding wrote_cell
  wrote_none k c =
      any_in_fails (λ e. eqb e.who who && (kind_writes e.kind && eqb e.cell c)) es
      (λ e i. and_fails_left (eqb e.who who) _ (ne_eqb e.who who (λ q. omega (arith, who_bound day i, number_bounds day i, whose_starts day r k))))

  wrote_before : kind_writes r.kind ≡ false → (c : ℕ) → wrote_cell (events (r ∷ day)) who c ≡ wrote_cell es who c
  wrote_before n c = rw (wrote_own c, n)

  wrote_post : kind_posts r.kind ≡ true → (c : ℕ) → wrote_cell (events (r ∷ day)) who c ≡ eqb r.cell c
  wrote_post q c = rw (wrote_own c, posts_writes r.kind q, wrote_none (posts_starts r.kind q) c) (or-false (eqb r.cell c))

  -- a judged read, and a kind that neither starts, reads nor commits
  pub read_arises : kind_judged_read r.kind ≡ true → any_later (arises z es (event day r)) ≡ any_later (λ k. committed_cell es k r.cell)
  read_arises q =
      later_cong (arises z es (event day r)) (λ k. committed_cell es k r.cell)
      (λ k. arises_as (reads_start_nothing r.kind q, q, reads_commit_nothing r.kind q) k ∙ or-false (committed_cell es k r.cell))

  pub none_arises : Does r.kind false false false → any_later (arises z es (event day r)) ≡ false
  none_arises f =
      any_fails (λ i. ltb at i && arises z es (event day r) (get_or order i 0)) (length order)
      (λ i h. ap (λ b. ltb at i && b) (arises_as f (get_or order i 0)) ∙ and_fails_right (ltb at i) false refl)

  -- one that starts and does not commit
  begin_told : Does r.kind true false false → committed_later s.listed at (length order) ≡ any_later (arises z es (event day r))
  begin_told q =
      committed_later_told
      ∙ sym (later_cong (arises z es (event day r)) (committed es) (λ k. arises_as q k ∙ or-false (committed es k)))

  -- one that commits and does not start
  commit_told : at < length order → Does r.kind false false true → any_used_later z s.listed at (length order) ≡ any_later (arises z es (event day r))
  unfolding any_used_later
  commit_told l q =
      any_cong (written_used s.listed at (length order)) (λ c. wrote_cell es who c && any_later (used c)) z.cells
      (λ c h. ap₂ ◌&&◌ (wrote_kept at c l h ∙ ap (λ k. wrote_cell es k c) (position_found order who l)) (used_later_told c h))
      ∙ sym (any_exchange (ltb at) (wrote_cell es who) (λ i c. used c (get_or order i 0)) (length order) z.cells)
      ∙ sym
      (later_cong (arises z es (event day r)) (λ k. any_below (λ c. wrote_cell es who c && used c k) z.cells) (λ k.
      arises_as q k
      ∙ any_cong (λ c. wrote_cell (events (r ∷ day)) who c && used c k) (λ c. wrote_cell es who c && used c k) z.cells
      (λ c h. ap (λ b. b && used c k) (wrote_before (commits_write_nothing r.kind q.0 q.2) c))))

  -- one that does both
  post_told : kind_posts r.kind ≡ true
      → committed_later s.listed at (length order) || used_later s.listed r.cell CommitsAndReads at (length order) ≡ any_later (arises z es (event day r))
  post_told q =
      let c = r.cell in
      let known = (walks_fields z r day w).cell_known (writes_have_cell r.kind (posts_writes r.kind q)) in
      ap₂ ◌||◌ committed_later_told (used_later_told c known)
      ∙ sym (any_or (λ i. ltb at i && committed es (get_or order i 0)) (λ i. ltb at i && used c (get_or order i 0)) (length order))
      ∙ any_cong _ (λ i. ltb at i && (committed es (get_or order i 0) || used c (get_or order i 0))) (length order)
      (λ i h. sym (and_or (ltb at i) (committed es (get_or order i 0)) (used c (get_or order i 0))))
      ∙ sym
      (later_cong (arises z es (event day r)) (λ k. committed es k || used c k) (λ k.
      arises_as (posts_do r.kind q) k
      ∙ ap (λ b. committed es k || b)
      (any_cong (λ d. wrote_cell (events (r ∷ day)) who d && used d k) (λ d. eqb c d && used d k) z.cells
      (λ d h. ap (λ b. b && used d k) (wrote_post q d))
      ∙ any_only (λ d. used d k) z.cells c known)))

  -- any kind but a judged read
  pub overtaken_told : at < length order → kind_judged_read r.kind ≡ false
      → overtaken z s.listed r.kind r.cell at (length order) ≡ any_later (arises z es (event day r))
  unfolding overtaken
  overtaken_told l n =
      let k = r.kind in
      split (kind_posts k) (λ p. rw p (post_told p)) λ p.
      split (kind_starts k) (λ a. rw (p, a) (begin_told (a, n, starts_commit_posts k a ∙ p))) λ a.
      split (kind_commits k) (λ c. rw (p, a, c) (commit_told l (a, n, c))) (λ c. rw (p, a, c) (sym (none_arises (a, n, c))))
