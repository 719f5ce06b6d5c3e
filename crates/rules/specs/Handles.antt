-- Document 01, "Sizes" and "Step rules": a handle is place + 32 × turn, and a call on a handle is looked up by place status.
use Rattle.std.specs.Prelude.{ℕ, ◌+◌, ◌*◌, ◌/◌, ◌%◌, Bool, true, false, not, cond, ◌&&◌, ◌||◌, leb, eqb}
use Rattle.rules.specs.declared.Place.{Place}
pub use Rattle.rules.specs.declared.Caller.{Caller}
use Rattle.rules.specs.declared.Caller.TheVariants.{Reads, Writes, Commits, GivesUp, Orders}
use Rattle.rules.specs.Sizes.{Size, handles, handles_a_turn}
use Rattle.rules.specs.Numbers.{granted, stale, ended}
use Rattle.rules.specs.Books.{free_status, live_status, Books, place_at, is_free, is_committed, is_held}

-- a handle is place + 32 × turn
abbrev pub handle_of : ℕ → ℕ → ℕ
handle_of i turn = i + handles_a_turn * turn

-- the place that a handle names
abbrev pub place_of : ℕ → ℕ
place_of h = h % handles_a_turn

-- and what the books hold there
abbrev pub named_place : Books → ℕ → Place
named_place b h = place_at b (place_of h)

-- the turn that a handle names
abbrev pub turn_of : ℕ → ℕ
turn_of h = h / handles_a_turn

-- no handle at all: 2,097,152 or more, or of a place that the controller lacks
unfoldable pub out_of_range : Size → ℕ → Bool
out_of_range z h = leb handles h || leb z.places (place_of h)

-- the turn agrees with the place's
unfoldable pub turn_agrees : Books → ℕ → Bool
turn_agrees b h = eqb (named_place b h).turn (turn_of h)

-- a good handle: in range, its place held, the turn agrees (of sound books it is one that is not stale: `good_or_stale`, in proofs/Books/HandleLaws.antt)
unfoldable pub good_handle : Size → Books → ℕ → Bool
good_handle z b h = not (out_of_range z h) && (is_held (named_place b h) && turn_agrees b h)

-- every call but order asks for a live transaction
unfoldable pub asks_live : Caller → Bool
asks_live Reads = true
asks_live Writes = true
asks_live Commits = true
asks_live GivesUp = true
asks_live Orders = false

-- 3: handle out of range, place free, or turn differs
unfoldable pub is_stale : Size → Books → ℕ → Bool
is_stale z b h = out_of_range z h || (is_free (named_place b h) || not (turn_agrees b h))

-- 4: turn agrees, place committed, call not order
unfoldable pub is_ended : Size → Caller → Books → ℕ → Bool
is_ended z who b h = asks_live who && (not (out_of_range z h) && (turn_agrees b h && is_committed (named_place b h)))

-- ---- looked up by place status: in sound books the first of the reasons 3 and 4 (`looked_up_reasons`, in proofs/Books/HandleLaws.antt)

-- free, always 3; live, goes on; committed, 4 for read, write, commit and give up, while order goes on
unfoldable pub gate : Caller → ℕ → ℕ
gate who status = cond (eqb status free_status) stale (cond (eqb status live_status) granted (cond (asks_live who) ended granted))

-- 3, 4 or 0: what a call on a handle meets at the place that the handle names
unfoldable pub looked_up : Size → Caller → Place → ℕ → ℕ
looked_up z who p h = cond (out_of_range z h || not (eqb p.turn (turn_of h))) stale (gate who p.status)
