-- Document 01, "Order checker": which lists are accepted, and the checker's numbers.
use Rattle.std.specs.Prelude.{ℕ, Bool, true, not, cond, ◌&&◌, List, [], ◌∷◌, length, eqb}
use Rattle.basics.specs.Lists.{all_in, member, distinct, keeps}
use Rattle.basics.specs.Bytes.{same}
use Rattle.rules.specs.Sizes.{Size, table_bytes}
use Rattle.rules.specs.Numbers.{lent, bad_log, unknown, no_order, ◌if◌, first_reason, wrong}
use Rattle.rules.specs.Cells.{cell_of}
use Rattle.rules.specs.Kinds.{kind_starts, kind_judged_read, kind_own_read}
use Rattle.rules.specs.Daylog.{records_in, day_of}
use Rattle.rules.specs.Layout.{well_laid_out}
use Rattle.rules.specs.Day.{Event, events, is_transaction, committed, wrote_cell, written_value, company_of, day_before}

-- the list is the company of t without repeats
unfoldable pub lists_company : List Event → ℕ → List ℕ → Bool
lists_company es t order =
    distinct order
    && (all_in (company_of es t) order
    && all_in (λ e. cond (kind_starts e.kind && company_of es t e.number) (member e.number order) true) es)

-- the value last committed to a cell by one of these, the last listed first; else the opening value
unfoldable pub carried : List ℕ → List Event → List ℕ → ℕ → List ℕ
carried opening es [] c = cell_of opening c
carried opening es (k ∷ before) c =
    let older = carried opening es before c in
    cond (committed es k && wrote_cell es k c) (written_value es k c) older

-- every judged read of a listed transaction has the value carried to it by those earlier in the list
unfoldable pub reads_carried : List ℕ → List Event → List ℕ → List ℕ → Bool
reads_carried opening es before [] = true
reads_carried opening es before (m ∷ later) =
    all_in (λ e. cond (eqb e.who m && kind_judged_read e.kind) (same e.value (carried opening es before e.cell)) true) es
    && reads_carried opening es (m ∷ before) later

-- every own read of a listed transaction has that transaction's latest earlier written value
unfoldable pub own_reads_right : List ℕ → List Event → Bool
own_reads_right order [] = true
own_reads_right order (e ∷ earlier) =
    own_reads_right order earlier
    && cond (member e.who order && kind_own_read e.kind) (same e.value (written_value earlier e.who e.cell)) true

-- the list is accepted for transaction t
unfoldable pub accepted : Size → List ℕ → List Event → ℕ → List ℕ → Bool
accepted z opening es t order =
    lists_company es t order
    && (keeps (day_before z es) order && (reads_carried opening es [] order && own_reads_right order es))

-- the events of a log
unfoldable pub log_events : List ℕ → List Event
log_events log = events (day_of log (records_in log))

-- the number that the checker gives back: 1, 10, 11, 12 or 0
unfoldable pub checked : Size → List ℕ → List ℕ → ℕ → List ℕ → ℕ
checked z opening log t order =
    first_reason (
    (lent if wrong (length opening) (table_bytes z))
    ∷ (bad_log if not (well_laid_out z log))
    ∷ (unknown if not (is_transaction (log_events log) t))
    ∷ (no_order if not (accepted z opening (log_events log) t order))
    ∷ []
    )
