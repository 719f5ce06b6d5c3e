-- Each kind of record at its place: the place, changed as the kind asks, mirrors the day with the record. Rests on the step of one record.
-- Assumes nothing.
use Prim.Native.Nat.{ℕ, suc, ◌<◌}
use mathlib.Core.Path.{◌≡◌, refl, sym, ◌∙◌, ap, subst}
use mathlib.Core.Bool.{Bool, true, false, cond, ◌||◌}
use mathlib.Core.List.{List, [], ◌∷◌}
use lib.ListN.{length, get_or, set}
use lib.Dec.{eqb}
use native.Mathlib.Omega.{arith}
use borrow.Author.Tests.{eq-eqb, ne_eqb}
use Rattle.basics.proofs.Bools.{never}
use Rattle.basics.specs.Lists.{member}
use Rattle.basics.proofs.Elements.{get_or_replicate_same, get_or_set_all}
use Rattle.basics.proofs.Lists.{member_nil, member_head, member_cons}
use Rattle.rules.specs.declared.Place.{Place}
use Rattle.rules.specs.declared.Record.{Record}
use Rattle.rules.specs.Sizes.{Size, width}
use Rattle.rules.specs.Books.{wrote, first_read, last_read, no_cells, no_reads, freed, begun, posted, marked, read_marked, sealed}
use Rattle.rules.specs.Kinds.{begin_kind, judged_read_kind, own_read_kind, write_kind, commit_kind, post_kind, kind_starts, kind_commits, kind_writes, kind_frees, kind_judged_read}
use Rattle.rules.specs.Daylog.{no_value}
use Rattle.rules.specs.State.{record_at}
use Rattle.rules.specs.Layout.{moved, seat}
use Rattle.rules.specs.Day.{events}
use Rattle.rules.proofs.Mirror.Mirrors.{Mirrors, Holds}
use Rattle.rules.proofs.Books.Shape.{Wide}
use Rattle.rules.proofs.Books.SoundKept.{blank_freed}
use Rattle.rules.proofs.Log.Seats.{moved_frees, seat_here}
use Rattle.rules.proofs.Day.Events.{whose_starts, whose_others}
use Rattle.rules.proofs.Mirror.MirrorStep.{Sits, Acts, sits, acts, zero_or, Changes, acts_new, mirrors_here}

-- ---- how the kinds change what is held

module _ (z : Size) (n : ℕ) (p : Place) where
  -- begin and post take a freed place
  changes_begun : Changes z begin_kind 0 n (freed p) (begun p n)
  unfolding freed begun kind_writes kind_commits kind_judged_read
  changes_begun =
      record { written = λ c h. refl; sealed = refl; commit = refl; first = λ c h. zero_or (get_or no_reads c 0); last = λ c h. refl }

  changes_posted : (c : ℕ) → c < width → Changes z post_kind c n (freed p) (posted p c n)
  unfolding freed posted kind_writes kind_commits kind_judged_read
  changes_posted c inside =
      record {
        written = λ k h.
            get_or_set_all (λ x. eqb c k || get_or no_cells k false ≡ x) no_cells c k true false inside (λ e. rw (eq-eqb c k e)) (λ o. rw (ne_eqb c k o));
        sealed = refl;
        commit = refl;
        first = λ k h. zero_or (get_or no_reads k 0);
        last = λ k h. refl;
      }

  -- a write marks a cell, an own read changes nothing, a commit seals the place
  changes_marked : (c : ℕ) → c < length p.written → Changes z write_kind c n p (marked p c)
  unfolding marked kind_writes kind_commits kind_judged_read
  changes_marked c inside =
      record {
        written = λ k h.
            get_or_set_all (λ x. eqb c k || wrote p k ≡ x) p.written c k true false inside (λ e. rw (eq-eqb c k e)) (λ o. rw (ne_eqb c k o));
        sealed = refl;
        commit = refl;
        first = λ k h. zero_or (first_read p k);
        last = λ k h. refl;
      }

  changes_own_read : (c : ℕ) → Changes z own_read_kind c n p p
  unfolding kind_writes kind_commits kind_judged_read
  changes_own_read c = record { written = λ k h. refl; sealed = refl; commit = refl; first = λ k h. zero_or (first_read p k); last = λ k h. refl }

  changes_sealed : Changes z commit_kind 0 n p (sealed p n)
  unfolding sealed kind_writes kind_commits kind_judged_read
  changes_sealed = record { written = λ k h. refl; sealed = refl; commit = refl; first = λ k h. zero_or (first_read p k); last = λ k h. refl }

  -- a judged read keeps the first read of the cell and moves the last
  changes_read : (c : ℕ) → c < width → Wide p → Changes z judged_read_kind c n p (read_marked p c n)
  unfolding read_marked kind_writes kind_commits kind_judged_read
  changes_read c inside w =
      record {
        written = λ k h. refl;
        sealed = refl;
        commit = refl;
        first = λ k h.
            get_or_set_all (λ x. cond (eqb (first_read p k) 0) (cond (eqb c k) n 0) (first_read p k) ≡ x) p.first c k _ 0 (omega (arith, w.first))
            (λ e. rw (eq-eqb c k e, e)) (λ o. rw (ne_eqb c k o) (zero_or (first_read p k)));
        last = λ k h.
            get_or_set_all (λ x. cond (eqb c k) n (last_read p k) ≡ x) p.last c k n 0 (omega (arith, w.last)) (λ e. rw (eq-eqb c k e))
            (λ o. rw (ne_eqb c k o));
      }

-- ---- the changed place

-- one cell more, in a seat and at a place
cells_more : (cells : List ℕ) (marks : List Bool) (c k : ℕ) → c < length marks → member k cells ≡ get_or marks k false
    → member k (c ∷ cells) ≡ get_or (set marks c true) k false
cells_more cells marks c k inside same =
    get_or_set_all (λ x. member k (c ∷ cells) ≡ x) marks c k true false inside (λ e. member_head k c cells (sym e))
    (λ o. member_cons k c cells ∙ rw (ne_eqb k c (λ e. o (sym e))) same)

module _ (z : Size) (day : List Record) (i : ℕ) (p : Place) where
  -- a record that frees the place
  pub mirrors_freed : (r : Record) → r.place ≡ i → kind_frees r.kind ≡ true → Mirrors z (r ∷ day) i (freed p)
  unfolding freed
  mirrors_freed r here k =
      let moves = seat_here r day i here ∙ moved_frees (suc (length day)) r (seat day i) k in
      record { status = ap (λ s. s.status) moves; holds = never }

  -- a record of number n
  module _ (n : ℕ) (number : n ≡ suc (length day)) where
    -- a record that starts a transaction: it is new
    starts : (r : Record) (q : Place) → let s = moved n r (seat day r.place) in
        kind_starts r.kind ≡ true → q.begin ≡ n → s.status ≡ q.status → Sits z s q → Changes z r.kind r.cell n (freed p) q
        → Mirrors z (r ∷ day) r.place q
    starts r q k begins status sitting change =
        let blank = blank_freed z p in
        mirrors_here z r day n number (freed p) q status sitting (whose_starts day r k ∙ sym number ∙ sym begins)
        (acts_new z day q.begin (omega arith) (freed p) blank.0 blank.1) change

    -- begin and post
    pub mirrors_begun : Mirrors z (record_at begin_kind i (begun p n) 0 no_value ∷ day) i (begun p n)
    unfolding begun moved kind_starts kind_commits kind_writes kind_frees
    mirrors_begun =
        starts (record_at begin_kind i (begun p n) 0 no_value) (begun p n) refl refl refl
        (record { begin = refl; turn = refl; cells = λ k h. member_nil k ∙ sym (get_or_replicate_same width k false) }) (changes_begun z n p)

    pub mirrors_posted : (c : ℕ) (value : List ℕ) → c < width → Mirrors z (record_at post_kind i (posted p c n) c value ∷ day) i (posted p c n)
    unfolding posted moved kind_starts kind_commits kind_writes kind_frees
    mirrors_posted c value inside =
        starts (record_at post_kind i (posted p c n) c value) (posted p c n) refl refl refl
        (record {
          begin = refl;
          turn = refl;
          cells = λ k h. cells_more [] no_cells c k inside (member_nil k ∙ sym (get_or_replicate_same width k false));
        })
        (changes_posted z n p c inside)

    -- the kinds of a live place: its transaction goes on
    module _ (m : Mirrors z day i p) (live : p.status ≡ 1) where
      -- what the place holds
      here : Holds z day i p
      here = m.holds (rw live)

      -- a record that starts nothing
      goes_on : (r : Record) (q : Place) → let s = moved n r (seat day r.place) in
          kind_starts r.kind ≡ false → r.place ≡ i → p.begin ≡ q.begin → s.status ≡ q.status → Sits z s q
          → Changes z r.kind r.cell n p q → Mirrors z (r ∷ day) r.place q
      goes_on r q k at begins status sitting change =
          mirrors_here z r day n number p q status sitting (whose_others day r k ∙ ap (λ j. (seat day j).begin) at ∙ here.begin ∙ begins)
          (subst (λ (t : ℕ). Acts z (events day) t p) begins (acts z day i p here)) change

      -- write, own read, judged read and commit
      pub mirrors_marked : (c : ℕ) (value : List ℕ) → c < length p.written → Mirrors z (record_at write_kind i p c value ∷ day) i (marked p c)
      unfolding marked moved kind_starts kind_commits kind_writes kind_frees
      mirrors_marked c value inside =
          goes_on (record_at write_kind i p c value) (marked p c) refl refl refl m.status
          (record { begin = here.begin; turn = here.turn; cells = λ k h. cells_more (seat day i).written p.written c k inside (here.cells k h) })
          (changes_marked z n p c inside)

      pub mirrors_own_read : (c : ℕ) (value : List ℕ) → Mirrors z (record_at own_read_kind i p c value ∷ day) i p
      unfolding moved kind_starts kind_commits kind_writes kind_frees
      mirrors_own_read c value =
          goes_on (record_at own_read_kind i p c value) p refl refl refl m.status (sits z day i p here) (changes_own_read z n p c)

      pub mirrors_read : (c : ℕ) (value : List ℕ) → c < width → Wide p → Mirrors z (record_at judged_read_kind i p c value ∷ day) i (read_marked p c n)
      unfolding read_marked moved kind_starts kind_commits kind_writes kind_frees
      mirrors_read c value inside w =
          goes_on (record_at judged_read_kind i p c value) (read_marked p c n) refl refl refl m.status
          (record { begin = here.begin; turn = here.turn; cells = here.cells }) (changes_read z n p c inside w)

      pub mirrors_sealed : (value : List ℕ) → Mirrors z (record_at commit_kind i p 0 value ∷ day) i (sealed p n)
      unfolding sealed moved kind_starts kind_commits kind_writes kind_frees
      mirrors_sealed value =
          goes_on (record_at commit_kind i p 0 value) (sealed p n) refl refl refl refl
          (record { begin = here.begin; turn = here.turn; cells = here.cells }) (changes_sealed z n p)
