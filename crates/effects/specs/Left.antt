-- What a call answers and leaves in what it is lent, by the outcome of its rule.
use Rattle.std.specs.Prelude.{◌≡◌, ℕ, List}
use Rattle.rules.specs.State.{Outcome, log_after, buffer_after, shown_bytes, shown_at}

-- the log after the call
abbrev pub LogIs : ℕ → List ℕ → List ℕ → Outcome → Type 0
LogIs records log after o = after ≡ log_after records o.entry log

-- the order buffer after the call
abbrev pub BufferIs : List ℕ → List ℕ → Outcome → Type 0
BufferIs buffer filled o = filled ≡ buffer_after o.order buffer

-- the table, or the drafts, and the log
abbrev pub TableAndLog : ℕ → List ℕ → List ℕ → List ℕ → Outcome → Type 0
TableAndLog records table log after o = (table ≡ o.after.table) × LogIs records log after o

abbrev pub DraftsAndLog : ℕ → List ℕ → List ℕ → List ℕ → Outcome → Type 0
DraftsAndLog records drafts log after o = (drafts ≡ o.after.drafts) × LogIs records log after o

-- the part that is shown: its bytes, and where they lie
abbrev pub Shows : List ℕ → List ℕ → (ℕ × ℕ) → (ℕ × ℕ) → List ℕ → (ℕ × ℕ) → Outcome → Type 0
Shows drafts table drafts_at table_at bytes at o = (bytes ≡ shown_bytes drafts table o.shown) × (at ≡ shown_at drafts_at table_at o.shown)

-- the answer, in whichever form it is handed over, and what else the call leaves
abbrev pub Leaves : {A : Type 0} → (Outcome → A) → A → (Outcome → Type 0) → Outcome → Type 0
Leaves answered r left o = (r ≡ answered o) × left o
