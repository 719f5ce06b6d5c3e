-- Document 01, "Numbers given back": each number by its name, and reasons tested in the order in which they are listed.
use Rattle.std.specs.Prelude.{ℕ, Bool, not, cond, List, [], ◌∷◌, eqb}

abbrev pub granted : ℕ
granted = 0

-- a lent buffer, or the 8 bytes of a write or post, has a wrong length
abbrev pub lent : ℕ
lent = 1

-- books not sound; for order also if the company has a cycle
abbrev pub unsound : ℕ
unsound = 2

-- handle 2,097,152 or more, place free, or turn differs
abbrev pub stale : ℕ
stale = 3

-- turn agrees, place committed, call not order
abbrev pub ended : ℕ
ended = 4

-- cell 32 or more
abbrev pub no_cell : ℕ
no_cell = 5

-- begin or post, no place free
abbrev pub full : ℕ
full = 6

-- records after the call plus live ones after it would pass 4,000
abbrev pub log_full : ℕ
log_full = 7

-- close with a live transaction
abbrev pub busy : ℕ
busy = 8

-- the pairs contain a cycle
abbrev pub conflict : ℕ
conflict = 9

-- a layout rule fails
abbrev pub bad_log : ℕ
bad_log = 10

-- the named record is no begin or post
abbrev pub unknown : ℕ
unknown = 11

-- the list is not accepted
abbrev pub no_order : ℕ
no_order = 12

-- ---- reasons

-- a number, and whether it applies
pub record Reason : Type 0 where
  pub number : ℕ
  pub applies : Bool

infix 20 ◌if◌
abbrev pub ◌if◌ : ℕ → Bool → Reason
n if b = record { number = n; applies = b }

-- the number of the first reason that applies; 0 if none does
unfoldable pub first_reason : List Reason → ℕ
first_reason [] = granted
first_reason (r ∷ later) = cond r.applies r.number (first_reason later)

-- a length is not the one asked for
abbrev pub wrong : ℕ → ℕ → Bool
wrong lent_length wanted = not (eqb lent_length wanted)
