-- Case A from its log alone: document 01's report of it, and which orders the checker accepts.
use Rattle.std.specs.Prelude.{◌≡◌, ℕ, List, [], ◌∷◌, ◌++◌, replicate}
use Rattle.basics.specs.Text.{text}
use Rattle.rules.specs.Sizes.{yard, table_bytes}
use Rattle.rules.specs.Daylog.{standing}
use Rattle.rules.specs.Checker.{checked}
use Rattle.rules.specs.Report.{report}
use Rattle.rules.specs.Trials.{case_a_day}

-- an opening table of zeros, and the log as it stands after the trial's calls
abbrev pub opening : List ℕ
opening = replicate (table_bytes yard) 0

abbrev pub log : List ℕ
log = standing case_a_day

pub record CaseALog : Type 0 where
  -- the report of document 01
  pub reported : report yard (opening ++ log) ≡ text "records 11 commits 2\n1 place 0 committed moment 10\n3 place 1 conflict moment 8\n4 place 2 committed moment 6\n"
  -- P's order 1, 4 is accepted, commit order is not
  pub p_order : checked yard opening log 1 (1 ∷ 4 ∷ []) ≡ 0
  pub p_commit_order : checked yard opening log 1 (4 ∷ 1 ∷ []) ≡ 12
  -- Q's order 4, 3 is accepted, and neither another order nor a list with one left out, repeated or added
  pub q_order : checked yard opening log 3 (4 ∷ 3 ∷ []) ≡ 0
  pub q_turned : checked yard opening log 3 (3 ∷ 4 ∷ []) ≡ 12
  pub q_short : checked yard opening log 3 (3 ∷ []) ≡ 12
  pub q_repeated : checked yard opening log 3 (4 ∷ 3 ∷ 3 ∷ []) ≡ 12
  pub q_added : checked yard opening log 3 (1 ∷ 4 ∷ 3 ∷ []) ≡ 12
  -- record 2 is no begin or post, a log of wrong length is badly laid out, a short table is Lent
  pub no_begin : checked yard opening log 2 (4 ∷ 3 ∷ []) ≡ 11
  pub wrong_length : checked yard opening (0 ∷ log) 1 (1 ∷ 4 ∷ []) ≡ 10
  pub short_table : checked yard [] log 1 (1 ∷ 4 ∷ []) ≡ 1
