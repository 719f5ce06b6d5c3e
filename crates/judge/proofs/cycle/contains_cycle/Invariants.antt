-- `judge::cycle::contains_cycle` meets its contract. Around 'peel elimination of those left gives everybody exactly if that of those present does;
-- 'pass has met nobody clear so far; the loop inside has met nobody before the one at m. Each round takes one mark away. Assumes nothing.
use Prim.Native.Nat.{ℕ}
use mathlib.Core.Path.{◌≡◌}
use mathlib.Core.Bool.{Bool, false}
use mathlib.Core.List.{List, []}
use lib.ListN.{get_or}
use Rattle.basics.specs.Below.{any_below, count_below}
use Rattle.basics.specs.Elimination.{gives_all}
use Rattle.pairs.specs.Square.{is_in, said_before}
use Rattle.judge.proofs.Unmarked.{left_in_row}
use Rattle.judge.proofs.Peel.{Passed}
use Rattle.judge.proofs.cycle.contains_cycle.Given as goal

-- the row of the one at m
abbrev pub row : List (List Bool) → ℕ → List Bool
row rows m = get_or rows m []

abbrev pub invariant-loop-k : goal.invariant-loop-k
invariant-loop-k l = any_below (left_in_row l.left (row l.rows l.m)) l.k ≡ false

abbrev pub invariant-pass : goal.invariant-pass
invariant-pass l = (l.left ≡ l.initial.left) × Passed l.places (said_before l.rows) (is_in l.left) l.m l.any

abbrev pub invariant-peel : goal.invariant-peel
invariant-peel l = (key : ℕ → ℕ) → gives_all l.places (said_before l.rows) key (is_in l.initial.left) ≡ gives_all l.places (said_before l.rows) key (is_in l.left)

abbrev pub decreases-peel : goal.decreases-peel
decreases-peel l = count_below (is_in l.left) l.places
