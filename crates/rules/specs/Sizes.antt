-- Document 01, "Sizes": the numbers of places and cells, and the lengths and limits that follow from them.
use Rattle.std.specs.Prelude.{ℕ, ◌+◌, ◌*◌, ◌≤◌}
-- how many places for transactions, and how many cells, a controller has
pub use Rattle.rules.specs.declared.Size.{Size}

-- the controller of document 01: 32 places, 32 cells
abbrev pub yard : Size
yard = record { places = 32; cells = 32 }

-- a cell has 8 bytes
abbrev pub cell_bytes : ℕ
cell_bytes = 8

-- the table: 256 bytes
abbrev pub table_bytes : Size → ℕ
table_bytes z = cell_bytes * z.cells

-- the drafts: 8,192 bytes, every place's draft of every cell
abbrev pub drafts_bytes : Size → ℕ
drafts_bytes z = cell_bytes * (z.places * z.cells)

-- the order buffer: 32 numbers of 16 bits
abbrev pub order_numbers : Size → ℕ
order_numbers z = z.places

-- at most 4,000 records a day
abbrev pub most_records : ℕ
most_records = 4000

-- a record has 16 bytes, and so has the trailer
abbrev pub record_bytes : ℕ
record_bytes = 16

-- the log: 64,016 bytes, for 4,000 records and the trailer
abbrev pub log_bytes : ℕ
log_bytes = record_bytes * most_records + record_bytes

-- a turn has 16 bits
abbrev pub turns : ℕ
turns = 65536

-- handles count 32 to a turn
abbrev pub handles_a_turn : ℕ
handles_a_turn = 32

-- a handle is below 2,097,152
abbrev pub handles : ℕ
handles = handles_a_turn * turns

-- the books' arrays are 32 wide, whatever the size
abbrev pub width : ℕ
width = 32

-- the arrays are wide enough for the places and the cells
pub record Within (z : Size) : Type 0 where
  pub places : z.places ≤ width
  pub cells : z.cells ≤ width
