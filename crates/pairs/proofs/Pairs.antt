-- The three kinds of pair that a cell makes, seen in one pass over the cells. One that is not committed is given a commit record all the same: as K
-- 65,535, after which no record of 16 bits comes, and as M 0, before which none does; so what it wrote counts for nothing. Assumes nothing.
use Prim.Native.Nat.{ℕ, ◌≤◌}
use mathlib.Core.Path.{◌≡◌, refl, ap₂}
use mathlib.Core.Bool.{Bool, true, false, cond, ◌&&◌, ◌||◌}
use native.Mathlib.Omega.{arith}
use lib.Dec.{leb, ltb}
use borrow.Author.Tests.{le-ltb}
use Rattle.basics.proofs.Bools.{and_fails_left, and_fails_right}
use Rattle.basics.proofs.Below.{any_where}
use Rattle.rules.specs.declared.Place.{Place}
use Rattle.rules.specs.declared.Size.{Size}
use Rattle.rules.specs.Books.{is_committed, wrote, first_read, last_read}
use Rattle.rules.specs.Judging.{write_write, write_read, read_write}
use Rattle.pairs.specs.CellPass.{overlap_of, read_after_of, read_before_of, comes_first}
use Rattle.pairs.specs.Commits.{commit_or}

module _ (z : Size) (k m : Place) where
  -- the commit records that the pass is given
  abbrev commit : ℕ
  commit = commit_or k 65535

  abbrev sealed : ℕ
  sealed = commit_or m 0

  -- what the pass sees of each of the three kinds
  write_write_seen : m.commit ≤ 65535 → ltb commit sealed && overlap_of k.written m.written z.cells ≡ write_write z k m
  unfolding write_write
  write_write_seen fits = by_status (is_committed k) (is_committed m) (overlap_of k.written m.written z.cells)
    where
      by_status : (a b x : Bool) → ltb (cond a k.commit 65535) (cond b m.commit 0) && x ≡ a && (b && (ltb k.commit m.commit && x))
      by_status true true x = refl
      by_status true false x = and_fails_left (ltb k.commit 0) x (le-ltb k.commit 0 (omega arith))
      by_status false true x = and_fails_left (ltb 65535 m.commit) x (le-ltb 65535 m.commit fits)
      by_status false false x = refl

  write_read_seen : ((c : ℕ) → last_read m c ≤ 65535) → read_after_of k.written commit m.last z.cells ≡ write_read z k m
  unfolding write_read
  write_read_seen fit =
      any_where (is_committed k) (λ b c. wrote k c && ltb (cond b k.commit 65535) (last_read m c)) z.cells λ c.
      and_fails_right (wrote k c) _ (le-ltb 65535 (last_read m c) (fit c))

  read_write_seen : read_before_of k.first m.written sealed z.cells ≡ read_write z k m
  unfolding read_write
  read_write_seen =
      any_where (is_committed m) (λ b c. wrote m c && (leb 1 (first_read k c) && ltb (first_read k c) (cond b m.commit 0))) z.cells λ c.
      and_fails_right (wrote m c) _ (and_fails_right (leb 1 (first_read k c)) _ (le-ltb (first_read k c) 0 (omega arith)))

  -- K comes first in some cell exactly if one of the three holds
  pub comes_first_says : m.commit ≤ 65535 → ((c : ℕ) → last_read m c ≤ 65535)
      → comes_first k commit m sealed z.cells ≡ write_write z k m || (write_read z k m || read_write z k m)
  comes_first_says fits fit = ap₂ ◌||◌ (write_write_seen fits) (ap₂ ◌||◌ (write_read_seen fit) read_write_seen)
