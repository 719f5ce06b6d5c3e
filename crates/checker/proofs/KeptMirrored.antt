-- What a replay keeps mirrors the day that it has gone through; before the first record it does. Whose a record is, is told by what is kept.
-- Assumes nothing.
use Prim.Native.Nat.{ℕ, zero, suc, ◌≤◌, ◌<◌}
use mathlib.Core.Path.{◌≡◌, refl, sym, ◌∙◌, ap}
use mathlib.Core.Bool.{Bool, true, false, not, cond, ◌&&◌}
use mathlib.Core.List.{List, [], ◌∷◌}
use native.Mathlib.Nat.{not-suc-le-zero}
use native.Mathlib.Omega.{arith}
use lib.ListN.{length, get_or, replicate, length-replicate}
use lib.Dec.{eqb}
use borrow.Author.Tests.{eqb-true, eqb-false, ne_eqb, not-true}
use Rattle.std.proofs.Common.{Option, Some, None, is_some}
use Rattle.std.proofs.lemmas.List.{get_or-replicate}
use Rattle.basics.specs.Lists.{any_in, member}
use Rattle.basics.proofs.Bools.{split, clash, false_of_not, same_tests, and_left, and_right}
use Rattle.basics.proofs.Elements.{get_or_replicate_all, get_or_replicate_same}
use Rattle.rules.specs.declared.Record.{Record}
use Rattle.rules.specs.declared.Size.{Size}
use Rattle.rules.specs.Sizes.{width}
use Rattle.rules.specs.Kinds.{kind_starts, kind_commits, kind_writes}
use Rattle.rules.specs.Layout.{seat, fields_right, walks, FieldsRight}
use Rattle.rules.specs.Day.{Event, whose, events, latest, commit_of, committed, moment_of, wrote_cell}
use Rattle.rules.proofs.Replay.InTime.{read_cell, has_stranger}
use Rattle.rules.proofs.Log.Seats.{walks_earlier, fits_live}
use Rattle.rules.proofs.Log.LaidOut.{fields_says}
use Rattle.rules.proofs.Day.Commits.{latest_zero, latest_some}
use Rattle.check_replay.specs.declared.state.Listed.{Listed}
use Rattle.check_replay.specs.declared.state.Replay.{Replay}
use Rattle.check_replay.specs.Kept.{nothing, nobody, wrote_in, fresh, whose_kept}
use Rattle.check_replay.proofs.Writes.{nothing_wrote}
use Rattle.check_explain.specs.Explained.{Past, PastRecord, PastWrites, PastOnly}

-- the record of k's latest write of the cell, 0 for none
unfoldable pub latest_write : List Event → ℕ → ℕ → ℕ
latest_write es k c = latest (λ e. eqb e.who k && (kind_writes e.kind && eqb e.cell c)) es

-- the record of the value last committed to the cell by a listed transaction, 0 for the opening value
unfoldable pub table_record : List ℕ → List Event → ℕ → ℕ
table_record order [] c = 0
table_record order (e ∷ earlier) c =
    let older = table_record order earlier c in
    cond (member e.who order && (kind_commits e.kind && wrote_cell (e ∷ earlier) e.who c)) (latest_write (e ∷ earlier) e.who c) older

-- the record with a number, none for 0
abbrev pub record_of : ℕ → Option ℕ
record_of zero = None
record_of (suc n) = Some (suc n)

-- what is kept is what the records of the day say of the listed transactions and of t
pub record Mirrors (z : Size) (t : ℕ) (order : List ℕ) (day : List Record) (s : Replay) : Type 0 where
  -- by place: the begin record of the transaction that holds it
  pub holders : (p : ℕ) → p < z.places → 1 ≤ (seat day p).status → get_or s.holder p 0 ≡ (seat day p).begin
  -- by position: commits, writes and judged reads
  pub commits : (i : ℕ) → i < length order → (get_or s.listed i nobody).commit ≡ record_of (commit_of (events day) (get_or order i 0))
  pub writes : (i c : ℕ) → i < length order → c < z.cells
      → wrote_in (get_or s.listed i nobody) c ≡ record_of (latest_write (events day) (get_or order i 0) c)
  pub reads : (i c : ℕ) → i < length order → c < z.cells → get_or (get_or s.listed i nobody).read c false ≡ read_cell (events day) (get_or order i 0) c
  -- by cell: the record that has its value
  pub tables : (c : ℕ) → c < z.cells → get_or s.table c None ≡ record_of (table_record order (events day) c)
  -- the moment of t, and whether somebody unlisted has committed
  pub at_moment : s.moment ≡ moment_of (events day) t
  pub strangers : s.stranger ≡ has_stranger order (events day)
  -- the records that are named are of the day
  pub past : PastOnly (length day) s
  -- the arrays are whole
  pub holder_length : length s.holder ≡ width
  pub listed_length : length s.listed ≡ width
  pub wrote_length : (i : ℕ) → i < width → length (get_or s.listed i nobody).wrote ≡ width
  pub read_length : (i : ℕ) → i < width → length (get_or s.listed i nobody).read ≡ width
  pub table_length : length s.table ≡ width

-- before the first record: nothing is kept of anybody, within the list or past its end
fresh_each : (P : Listed → Type 0) → P nobody → P nothing → (i : ℕ) → P (get_or (replicate width nothing) i nobody)
fresh_each P past within i = get_or_replicate_all P width i nothing nobody past within

fresh_within : (i : ℕ) → i < width → get_or (replicate width nothing) i nobody ≡ nothing
fresh_within i h = get_or-replicate width i nothing nobody h

pub mirrors_fresh : (z : Size) (t : ℕ) (order : List ℕ) → Mirrors z t order [] (fresh t)
unfolding latest_write table_record seat events latest commit_of committed moment_of read_cell has_stranger any_in
mirrors_fresh z t order =
    record {
      holders = λ p h k. absurd (not-suc-le-zero k);
      commits = λ i h. fresh_each (λ own. own.commit ≡ None) refl refl i;
      writes = λ i c h k. fresh_each (λ own. wrote_in own c ≡ None) refl (nothing_wrote c) i;
      reads = λ i c h k. fresh_each (λ own. get_or own.read c false ≡ false) refl (get_or_replicate_same width c false) i;
      tables = λ c h. get_or_replicate_same width c None;
      at_moment = refl;
      strangers = refl;
      past = (none_past, λ i. fresh_each (PastWrites 0) (λ c. tt) no_writes_past i);
      holder_length = length-replicate {A = ℕ} width 0;
      listed_length = length-replicate {A = Listed} width nothing;
      wrote_length = λ i h. ap (λ own. length own.wrote) (fresh_within i h) ∙ length-replicate {A = ℕ} width 0;
      read_length = λ i h. ap (λ own. length own.read) (fresh_within i h) ∙ length-replicate {A = Bool} width false;
      table_length = length-replicate {A = Option ℕ} width None;
    }
  where
    none_past : Past 0 (replicate width None)
    none_past c = get_or_replicate_all (PastRecord 0) width c None None tt tt

    no_writes_past : PastWrites 0 nothing
    no_writes_past c = rw (nothing_wrote c) tt

-- the fields of the newest record of a day that walks are right
pub walks_fields : (z : Size) (r : Record) (day : List Record) → walks z (r ∷ day) ≡ true → FieldsRight z r
unfolding walks
walks_fields z r day w = (fields_says z r).0 (and_left (fields_right z r) _ (and_right (walks z day) _ w))

-- whose the next record is
pub whose_mirrored : (z : Size) (t : ℕ) (order : List ℕ) (day : List Record) (s : Replay) (r : Record) → Mirrors z t order day s
    → walks z (r ∷ day) ≡ true → whose_kept s.holder r (suc (length day)) ≡ whose day r
unfolding whose
whose_mirrored z t order day s r m w =
    split (kind_starts r.kind) (λ k. rw k)
    (λ k.
    let live = fits_live day r k (walks_earlier z r day w).1 in
    rw k (m.holders r.place (walks_fields z r day w).place_known (omega arith)))

-- ---- a record number that is not 0

-- there is such a record
pub some_record : (n : ℕ) → is_some (record_of n) ≡ not (eqb n 0)
some_record zero = refl
some_record (suc n) = ap not (sym (ne_eqb (suc n) 0 (λ e. omega arith)))

-- some event of a day passes exactly if the newest that does has a number
found_told : (passes : Event → Bool) (day : List Record) → any_in passes (events day) ≡ not (eqb (latest passes (events day)) 0)
found_told passes day =
    let n = latest passes (events day) in
    same_tests (any_in passes (events day)) (not (eqb n 0))
    (λ t. ap not (false_of_not (eqb n 0) (λ q. clash t ((latest_zero passes day).0 (eqb-true n 0 q)))))
    (λ t. latest_some passes day (eqb-false n 0 (not-true (eqb n 0) t)))

-- so with commits and with writes
pub committed_told : (day : List Record) (k : ℕ) → committed (events day) k ≡ not (eqb (commit_of (events day) k) 0)
unfolding committed commit_of
committed_told day k = found_told (λ e. eqb e.who k && kind_commits e.kind) day

pub wrote_told : (day : List Record) (k c : ℕ) → wrote_cell (events day) k c ≡ not (eqb (latest_write (events day) k c) 0)
unfolding wrote_cell latest_write
wrote_told day k c = found_told (λ e. eqb e.who k && (kind_writes e.kind && eqb e.cell c)) day
