-- `pairs::pair::is_before` meets its contract: real time is asked first, and past it the other three kinds of pair are what `comes_first` says of all cells.
-- Rests on the contracts of `is_real_time` and `comes_first`.
use Prim.Native.Nat.{ℕ, ◌≤◌}
use mathlib.Core.Bool.{Bool, true, false, cond}
use mathlib.Core.Path.{◌≡◌, refl, sym, ◌∙◌, ap}
use native.Mathlib.Omega.{arith}
use mir.Syntax.{w16}
use mir.Val.{Fits}
use borrow.Author.Rules.{rules}
use Rattle.std.specs.Prelude.{Option, Some, None, unwrap_or}
use Rattle.basics.proofs.Bools.{or_left, or_second}
use Rattle.rules.specs.declared.Place.{Place}
use Rattle.rules.specs.declared.Size.{Size}
use Rattle.rules.specs.Books.{last_read, is_committed}
use Rattle.rules.specs.Judging.{real_time, precedes}
use Rattle.pairs.specs.CellPass.{comes_first}
use Rattle.pairs.specs.Commits.{commit_of, commit_or}
use Rattle.pairs.proofs.Pairs.{comes_first_says}
use Rattle.pairs.proofs.pair.is_before.Goals as goal

-- the commit record that the pass is given
told : (p : Place) (other : ℕ) {o : Option ℕ} {n : ℕ} → o ≡ commit_of p → n ≡ unwrap_or o other → n ≡ commit_or p other
told p other e f = f ∙ ap (λ (o : Option ℕ). unwrap_or o other) e ∙ by_status (is_committed p)
  where
    by_status : (b : Bool) → unwrap_or (cond b (Some p.commit) None) other ≡ cond b p.commit other
    by_status true = refl
    by_status false = refl

-- past real time, one of the four holds exactly if K comes first in some cell
by_cells : (z : Size) (k m : Place) (p q : ℕ) → m.commit ≤ 65535 → ((c : ℕ) → last_read m c ≤ 65535) → real_time k m ≡ false
    → p ≡ commit_or k 65535 → q ≡ commit_or m 0 → comes_first k p m q z.cells ≡ precedes z k m
unfolding precedes
by_cells z k m p q fits fit past e f = sym (or_second past (sym (rw (e, f) (comes_first_says z k m fits fit))))

pub returns-then-is_real_time : goal.returns-then-is_real_time
unfolding precedes
returns-then-is_real_time c = sym (or_left _ _ (sym c.is_real_time.ensures ∙ c.if-is_real_time.true))

pub returns-then-z-eq-WIDTH : goal.returns-then-z-eq-WIDTH
returns-then-z-eq-WIDTH c =
    let a = c.args in
    let commit_fits : Fits w16 a.m.commit = search rules in
    let last_fits : (i : ℕ) → Fits w16 (last_read a.m i) = search rules in
    c.comes_first.ensures
    ∙ rw (← c.if-z-eq-WIDTH.true)
    (by_cells a.z.size a.k a.m _ _ (omega arith) (λ i. omega (arith, last_fits i)) (sym c.is_real_time.ensures ∙ c.if-is_real_time.false) (told a.k 65535 c.commit_of.ensures c.unwrap_or-commit.ensures) (told a.m 0 c.commit_of-2.ensures c.unwrap_or-sealed.ensures))

pub returns-else-z-eq-WIDTH : goal.returns-else-z-eq-WIDTH
returns-else-z-eq-WIDTH c =
    let a = c.args in
    let commit_fits : Fits w16 a.m.commit = search rules in
    let last_fits : (i : ℕ) → Fits w16 (last_read a.m i) = search rules in
    c.comes_first-else-z-eq-WIDTH.ensures
    ∙ by_cells a.z.size a.k a.m _ _ (omega arith) (λ i. omega (arith, last_fits i)) (sym c.is_real_time.ensures ∙ c.if-is_real_time.false) (told a.k 65535 c.commit_of.ensures c.unwrap_or-commit.ensures) (told a.m 0 c.commit_of-2.ensures c.unwrap_or-sealed.ensures)
