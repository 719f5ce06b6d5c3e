-- A replay tells what acceptance asks of each record: one of a listed transaction is explained exactly if it breaks nothing, one of a transaction
-- that is not listed breaks nothing, and the list is in time exactly if all of it is in the company. Assumes nothing.
use Prim.Native.Nat.{ℕ, zero, suc, ◌<◌}
use mathlib.Core.Path.{◌≡◌, refl, sym, ◌∙◌, ap, ap₂, subst}
use mathlib.Core.Bool.{Bool, true, false, not, cond, ◌&&◌, and-true}
use mathlib.Core.List.{List, ◌∷◌}
use native.Mathlib.Omega.{arith}
use lib.ListN.{length, get_or}
use lib.Dec.{ltb, eqb}
use borrow.Author.Tests.{ne_eqb, lt-ltb}
use Rattle.basics.specs.Below.{any_below}
use Rattle.basics.specs.Lists.{all_in, member, distinct, keeps}
use Rattle.basics.specs.Bytes.{same}
use Rattle.basics.proofs.Bools.{split, clash, and_fails_left}
use Rattle.basics.proofs.Below.{all_cong}
use Rattle.basics.proofs.Indexed.{all_in_below}
use Rattle.basics.proofs.Lists.{keeps_cong, keeps_nobody}
use Rattle.rules.specs.declared.Record.{Record}
use Rattle.rules.specs.declared.Size.{Size}
use Rattle.rules.specs.Sizes.{Within, width}
use Rattle.rules.specs.Kinds.{kind_judged_read, kind_own_read, kind_sets_moment}
use Rattle.rules.specs.Daylog.{decode, bytes_at, day_of}
use Rattle.rules.specs.Layout.{walks}
use Rattle.rules.specs.Day.{Event, whose, event, events, commit_of, moment_of, written_value}
use Rattle.rules.proofs.Log.KindLaws.{own_reads_start_nothing, own_reads_no_judged, reads_no_own, own_reads_commit_nothing, reads_have_cell, own_reads_have_cell}
use Rattle.rules.proofs.Replay.InTime.{arises, table_by, in_company, step_right}
use Rattle.check_replay.specs.declared.state.Replay.{Replay}
use Rattle.check_replay.specs.Kept.{nobody}
use Rattle.check_list.specs.Listed.{position, before, all_in_time}
use Rattle.check_later.specs.Later.{overtaken}
use Rattle.check_explain.specs.Explained.{CellRight, value_at, source, read_explained, own_explained, explained}
use Rattle.check_list.proofs.Positions.{position_found, position_member, keeps_position}
use Rattle.checker.proofs.KeptMirrored.{latest_write, record_of, Mirrors, walks_fields, committed_told}
use Rattle.checker.proofs.Followed.{cell_within}
use Rattle.checker.proofs.Valued.{value_of_bytes, valued, write_valued, table_valued, own_read_wrote}
use Rattle.checker.proofs.Overtaken.{written_later_told, read_arises, none_arises, overtaken_told}

-- ---- the fields of a record

module _ (z : Size) (r : Record) (day : List Record) (within : Within z) (w : walks z (r ∷ day) ≡ true) where
  -- the cell and the place are within the arrays
  pub cell_right : CellRight z r
  cell_right =
      let fields = walks_fields z r day w in
      record {
        within = cell_within z r day within w;
        judged_read = λ q. fields.cell_known (reads_have_cell r.kind q);
        own_read = λ q. fields.cell_known (own_reads_have_cell r.kind q);
      }

  pub place_within : r.place < width
  place_within = omega (arith, (walks_fields z r day w).place_known, within.places)

-- ---- a record of a listed transaction

-- not both, told by the first
not_and : (a b : Bool) → not (a && b) ≡ cond a (not b) true
not_and true b = refl
not_and false b = refl

module _ (z : Size) (t : ℕ) (order : List ℕ) (once : distinct order ≡ true) (opening log : List ℕ) (day : List Record) (s : Replay) (r : Record)
    (m : Mirrors z t order day s) (w : walks z (r ∷ day) ≡ true) (of_log : day ≡ day_of log (length day)) (next : r ≡ decode (bytes_at log (length day)))
    (l : position order (whose day r) < length order) where
  -- the events, the record's transaction, its cell, where it stands, and who comes to stand before it
  abbrev es : List Event
  es = events day

  abbrev who : ℕ
  who = whose day r

  abbrev c : ℕ
  c = r.cell

  abbrev at : ℕ
  at = position order who

  abbrev overtakes : Bool
  overtakes = any_below (λ i. ltb at i && arises z es (event day r) (get_or order i 0)) (length order)

  -- what a judged read and an own read are asked
  abbrev from_table : Bool
  from_table = same r.value (table_by opening order es c)

  abbrev from_own : Bool
  from_own = same r.value (written_value es who c)

  value_here : value_at log (suc (length day)) ≡ r.value
  value_here = sym (ap (λ q. q.value) next ∙ value_of_bytes log (length day))

  read_says : kind_judged_read r.kind ≡ true → read_explained opening log s c (suc (length day)) at (length order) ≡ not overtakes && from_table
  unfolding read_explained
  read_says q =
      let known = (walks_fields z r day w).cell_known (reads_have_cell r.kind q) in
      ap₂ ◌&&◌ (ap not (written_later_told z t order day s r m w c known ∙ sym (read_arises z t order day s r m w q)))
      (ap₂ same value_here (ap (λ n. source opening log n c) (m.tables c known) ∙ table_valued log opening order day c (valued log day of_log)))

  own_says : kind_own_read r.kind ≡ true → own_explained opening log (get_or s.listed at nobody) c (suc (length day)) ≡ not overtakes && from_own
  unfolding own_explained
  own_says q =
      let known = (walks_fields z r day w).cell_known (own_reads_have_cell r.kind q) in
      let source_is = m.writes at c l known ∙ ap (λ k. record_of (latest_write es k c)) (position_found order who l) in
      ap₂ same value_here
      (ap (λ n. source opening log n c) source_is ∙ write_valued log opening day who c (valued log day of_log) (own_read_wrote z r day w q))
      ∙ ap (λ b. not b && from_own) (sym (none_arises z t order day s r m w (own_reads_start_nothing r.kind q, own_reads_no_judged r.kind q, own_reads_commit_nothing r.kind q)))

  -- all but the question who is a stranger
  rest_says : cond (kind_judged_read r.kind) (read_explained opening log s c (suc (length day)) at (length order))
      (cond (kind_own_read r.kind) (own_explained opening log (get_or s.listed at nobody) c (suc (length day))) (not (overtaken z s.listed r.kind c at (length order))))
      ≡ not overtakes && (cond (kind_judged_read r.kind) from_table true && cond (kind_own_read r.kind) from_own true)
  rest_says =
      let k = r.kind in
      split (kind_judged_read k) (λ e. rw (e, reads_no_own k e, and-true from_table) (read_says e)) λ a.
      split (kind_own_read k) (λ e. rw (a, e) (own_says e)) λ b.
      rw (a, b, and-true (not overtakes)) (ap not (overtaken_told z t order day s r m w l a))

  -- a record of a listed transaction is explained exactly if it breaks nothing
  pub explained_says : explained z opening log s r (suc (length day)) at (length order) (eqb who t) ≡ step_right z opening t order es (event day r)
  unfolding explained step_right event
  explained_says =
      let listed : member who order ≡ true = sym (position_member order who) ∙ lt-ltb at (length order) l in
      let sets = eqb who t && kind_sets_moment r.kind in
      rw (keeps_position who (arises z es (event day r)) order once, listed)
      (ap₂ ◌&&◌ (not_and sets s.stranger ∙ ap (λ b. cond sets (not b) true) m.strangers) rest_says)

-- ---- a record of a transaction that is not listed

-- it breaks nothing
pub unlisted_right : (z : Size) (opening : List ℕ) (t : ℕ) (order : List ℕ) (day : List Record) (r : Record) → member (whose day r) order ≡ false
    → member t order ≡ true → step_right z opening t order (events day) (event day r) ≡ true
unfolding step_right event
unlisted_right z opening t order day r n i =
    let who = whose day r in
    let es = events day in
    let other : eqb who t ≡ false = ne_eqb who t (λ q. clash i (subst (λ (k : ℕ). member k order ≡ false) q n)) in
    let kept : keeps (λ k m. eqb who m && arises z es (event day r) k) order ≡ true =
    keeps_cong (λ k m. eqb who m && arises z es (event day r) k) (λ k m. false) order
    (λ k m a b. and_fails_left (eqb who m) _ (ne_eqb who m (λ q. clash b (subst (λ (j : ℕ). member j order ≡ false) q n))))
    ∙ keeps_nobody (λ k m. false) order (λ k m. refl) in
    rw (other, kept, n)

-- ---- the company

before_told : (moment n : ℕ) → before moment (record_of n) ≡ not (eqb n 0) && ltb n moment
before_told moment zero = refl
before_told moment (suc n) = rw (ne_eqb (suc n) 0 (λ e. omega arith))

-- the list is in time exactly if all of it is in the company
pub in_time_says : (z : Size) (t : ℕ) (order : List ℕ) (day : List Record) (s : Replay) → Mirrors z t order day s
    → all_in_time s.listed s.moment order t ≡ all_in (in_company (events day) t) order
unfolding all_in_time in_company
in_time_says z t order day s m =
    all_cong _ (λ i. in_company (events day) t (get_or order i 0)) (length order)
    (λ i h. rw (m.commits i h, m.at_moment, committed_told day (get_or order i 0), before_told (moment_of (events day) t) (commit_of (events day) (get_or order i 0))))
    ∙ sym (all_in_below (in_company (events day) t) order)
