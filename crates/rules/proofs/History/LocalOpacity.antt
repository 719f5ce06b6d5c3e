-- Every day that a run writes is conflict locally opaque, and permissive with respect to it, as source document 000 has it: each transaction's local
-- sub-history is conflict opaque, and with a Conflict turned into a grant it would not be. Rests on what every call keeps (Running) and on what
-- `accepted` says (AcceptedSays). Assumes nothing.
use Prim.Native.Nat.{ℕ}
use mathlib.Core.List.{List, ◌∷◌}
use Rattle.basics.proofs.Bools.{clash}
use Rattle.rules.specs.declared.Record.{Record}
use Rattle.rules.specs.Sizes.{Size}
use Rattle.rules.specs.Run.{Machine}
use Rattle.rules.specs.Day.{events, whose}
use Rattle.rules.specs.History.{LocallyOpaque, Permissive, DaysPermissive}
use Rattle.rules.proofs.History.AcceptedSays.{accepted_says}
use Rattle.rules.proofs.Judging.Explaining.{accepted_of, cycle_no_list, list_found}
use Rattle.rules.proofs.Runs.Running.{Cyclic, Kept, reached_kept}

-- a day that a run has come to is conflict locally opaque
opaque_kept : (z : Size) (m : Machine) → Kept z m → LocallyOpaque m.opening (events m.day)
opaque_kept z m kept t known =
    let w = kept.mirror.walking in
    let x = list_found z m.day t (kept.explained.each t known) in
    (accepted_says.of_history z m.opening m.day t w known).1
    (x.0, accepted_of z m.opening m.day t w known kept.valued.legal x.0 x.1 x.2)

-- a day that ends with a cyclic record is not
cyclic_not_opaque : (z : Size) (opening : List ℕ) (earlier : List Record) (r : Record) → Cyclic z earlier r → LocallyOpaque opening (events (r ∷ earlier)) → ⊥
cyclic_not_opaque z opening earlier r c opaque =
    let t = whose earlier r in
    let x = (accepted_says.of_history z opening (r ∷ earlier) t c.walking c.known).0 (opaque t c.known) in
    clash x.1 (cycle_no_list z (r ∷ earlier) t c.cycle opening x.0)

-- what every call keeps makes a day permissive
pub permissive_kept : (z : Size) (m : Machine) → Kept z m → Permissive m.opening m.day
permissive_kept z m kept =
    record {
      has_it = opaque_kept z m kept;
      no_grant = λ newer earlier r value q k. cyclic_not_opaque z m.opening earlier _ (kept.rightly newer earlier r q k value);
    }

pub days_permissive : DaysPermissive
days_permissive z m w r = permissive_kept z m (reached_kept z m w r)
