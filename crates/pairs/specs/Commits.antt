-- Record numbers of which 0 means none, and the commit record of one that may not be committed.
use Rattle.std.specs.Prelude.{ℕ, cond, eqb, Option, Some, None}
use Rattle.rules.specs.declared.Place.{Place}
use Rattle.rules.specs.Books.{is_committed}

-- a record by its number, 0 for none
abbrev pub record_or_none : ℕ → Option ℕ
record_or_none n = cond (eqb n 0) None (Some n)

-- the commit record of a committed one
abbrev pub commit_of : Place → Option ℕ
commit_of p = cond (is_committed p) (Some p.commit) None

-- the commit record of a committed one, and the number given for any other
abbrev pub commit_or : Place → ℕ → ℕ
commit_or p other = cond (is_committed p) p.commit other
