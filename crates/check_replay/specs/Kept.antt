-- What a replay keeps of a log, and how a record changes it. It is told by positions in the list and by record numbers; no value is copied.
use Rattle.std.specs.Prelude.{ℕ, Bool, true, false, not, cond, ◌&&◌, ◌||◌, Option, Some, None, is_some, List, [], get_or, replicate, set, eqb}
use Rattle.basics.specs.Below.{run_below}
use Rattle.rules.specs.declared.Record.{Record}
use Rattle.rules.specs.declared.Size.{Size}
use Rattle.rules.specs.Sizes.{width}
use Rattle.rules.specs.Kinds.{kind_starts, kind_commits, kind_writes, kind_judged_read, kind_sets_moment}
use Rattle.check_replay.specs.declared.state.Listed.{Listed}
use Rattle.check_replay.specs.declared.state.Replay.{Replay}

-- of a transaction before its first record
abbrev pub nothing : Listed
nothing = record { commit = None; wrote = replicate width 0; read = replicate width false }

-- of a position past the end of the list
abbrev pub nobody : Listed
nobody = record { commit = None; wrote = []; read = [] }

-- before the first record
abbrev pub fresh : ℕ → Replay
fresh t =
    record {
      holder = replicate width 0;
      listed = replicate width nothing;
      table = replicate width None;
      moment = t;
      stranger = false;
    }

-- whose record number n, r, is: of the transaction that it starts, else of the one that holds its place
abbrev pub whose_kept : List ℕ → Record → ℕ → ℕ
whose_kept holder r n = cond (kind_starts r.kind) n (get_or holder r.place 0)

-- a record that starts a transaction gives it the place
abbrev pub holder_after : ℕ → Record → List ℕ → List ℕ
holder_after n r holder = cond (kind_starts r.kind) (set holder r.place n) holder

-- a record by its number: 0 is none
abbrev pub record_or_none : ℕ → Option ℕ
record_or_none n = cond (eqb n 0) None (Some n)

-- the record of a listed transaction's latest write of the cell
abbrev pub wrote_in : Listed → ℕ → Option ℕ
wrote_in own c = record_or_none (get_or own.wrote c 0)

-- record number n, r, of a listed transaction is noted
unfoldable pub noted : ℕ → Record → Listed → Listed
noted n r own =
    record {
      commit = cond (kind_commits r.kind) (record_or_none n) own.commit;
      wrote = cond (kind_writes r.kind) (set own.wrote r.cell n) own.wrote;
      read = cond (kind_judged_read r.kind) (set own.read r.cell true) own.read;
    }

-- the listed ones after it: its transaction stands at a position, or is not listed
abbrev pub listed_after : ℕ → Record → Option ℕ → List Listed → List Listed
listed_after n r None listed = listed
listed_after n r (Some at) listed = set listed at (noted n r (get_or listed at nobody))

-- a cell that a transaction wrote has its value in the table from now on
abbrev pub laid_cell : Listed → ℕ → List (Option ℕ) → List (Option ℕ)
laid_cell own c table = let w = wrote_in own c in cond (is_some w) (set table c w) table

-- and so each of its cells
unfoldable pub laid : Size → Listed → List (Option ℕ) → List (Option ℕ)
laid z own table = run_below (laid_cell own) z.cells table

-- the table after a record: where a listed transaction commits, what it wrote is laid over it
abbrev pub table_after : Size → Record → Option ℕ → List Listed → List (Option ℕ) → List (Option ℕ)
table_after z r None listed table = table
table_after z r (Some at) listed table = cond (kind_commits r.kind) (laid z (get_or listed at nobody) table) table

-- what record number n, r, leaves: its transaction stands at a position or is not listed, and is the named one or not
unfoldable pub followed : Size → ℕ → Record → Option ℕ → Bool → Replay → Replay
followed z n r at named s =
    let listed = listed_after n r at s.listed in
    record {
      holder = holder_after n r s.holder;
      listed = listed;
      table = table_after z r at listed s.table;
      moment = cond (named && kind_sets_moment r.kind) n s.moment;
      stranger = (kind_commits r.kind && not (is_some at)) || s.stranger;
    }
