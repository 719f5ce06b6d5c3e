-- An answer is settled by the number that it gives back and by what it gives besides: no two refusals have one number, and none has 0.
-- Assumes nothing.
use mathlib.Core.Path.{◌≡◌, refl, sym, ◌∙◌, ap}
use Prim.Native.Nat.{ℕ, ◌≤◌}
use native.Mathlib.Omega.{arith}
use Rattle.std.specs.Prelude.{cond, eqb, Result, Ok, Err}
use Rattle.rules.specs.declared.refusal.Refusal.{Refusal}
use Rattle.rules.specs.declared.refusal.Refusal.TheVariants.{Lent, Unsound, Stale, Ended, NoCell, Full, LogFull, Busy, Conflict, BadLog, Unknown, NoOrder}
use Rattle.rules.specs.Refusals.{number_of, said, given}

-- the refusal of a number
numbered : ℕ → Refusal
numbered n =
    cond (eqb n 1) Lent
    (cond (eqb n 2) Unsound
    (cond (eqb n 3) Stale
    (cond (eqb n 4) Ended
    (cond (eqb n 5) NoCell
    (cond (eqb n 6) Full
    (cond (eqb n 7) LogFull
    (cond (eqb n 8) Busy (cond (eqb n 9) Conflict (cond (eqb n 10) BadLog (cond (eqb n 11) Unknown NoOrder))))))))))

numbered_back : (r : Refusal) → numbered (number_of r) ≡ r
unfolding numbered
numbered_back Lent = refl
numbered_back Unsound = refl
numbered_back Stale = refl
numbered_back Ended = refl
numbered_back NoCell = refl
numbered_back Full = refl
numbered_back LogFull = refl
numbered_back Busy = refl
numbered_back Conflict = refl
numbered_back BadLog = refl
numbered_back Unknown = refl
numbered_back NoOrder = refl

pub refusal_settled : (r r' : Refusal) → number_of r ≡ number_of r' → r ≡ r'
refusal_settled r r' e = sym (numbered_back r) ∙ ap numbered e ∙ numbered_back r'

-- none is 0
pub refuses : (r : Refusal) → 1 ≤ number_of r
refuses Lent = omega arith
refuses Unsound = omega arith
refuses Stale = omega arith
refuses Ended = omega arith
refuses NoCell = omega arith
refuses Full = omega arith
refuses LogFull = omega arith
refuses Busy = omega arith
refuses Conflict = omega arith
refuses BadLog = omega arith
refuses Unknown = omega arith
refuses NoOrder = omega arith

-- the number, and what is given besides
pub answer_settled : {A : Type 0} (r r' : Result A Refusal) → said r ≡ said r' → given r ≡ given r' → r ≡ r'
answer_settled (Ok a) (Ok b) e g = cc
answer_settled (Ok a) (Err r) e g = cc
answer_settled (Err r) (Ok b) e g = cc
answer_settled (Err r) (Err r') e g = ap Err (refusal_settled r r' e)

-- where it gives nothing besides, the number alone
pub number_settles : (r r' : Result (Unit {0}) Refusal) → said r ≡ said r' → r ≡ r'
number_settles (Ok a) (Ok b) e = refl
number_settles (Ok a) (Err r) e = absurd (omega (arith, refuses r))
number_settles (Err r) (Ok b) e = absurd (omega (arith, refuses r))
number_settles (Err r) (Err r') e = ap Err (refusal_settled r r' e)
