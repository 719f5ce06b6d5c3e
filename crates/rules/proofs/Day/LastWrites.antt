-- One event more: the value last committed to a cell, and the value that a transaction wrote last. Assumes nothing.
use Prim.Native.Nat.{ℕ}
use mathlib.Core.Path.{◌≡◌, refl}
use mathlib.Core.Logic.{◌≢◌}
use mathlib.Core.Bool.{true, false}
use mathlib.Core.List.{List, ◌∷◌}
use lib.Dec.{eqb}
use borrow.Author.Tests.{eq-eqb, ne_eqb}
use Rattle.basics.specs.Lists.{any_in}
use Rattle.basics.proofs.Bools.{and_fails_right}
use Rattle.rules.specs.Kinds.{kind_commits, kind_writes}
use Rattle.rules.specs.Day.{Event, wrote_cell, written_value}
use Rattle.rules.specs.History.{last_write}

module _ (e : Event) (es : List Event) where
  -- ---- the value that a transaction wrote last

  -- an event that writes nothing, or another cell, writes no value of the cell
  module _ (t c : ℕ) where
    pub wrote_past : kind_writes e.kind ≡ false → wrote_cell (e ∷ es) t c ≡ wrote_cell es t c
    unfolding wrote_cell any_in
    wrote_past k = rw (k, and_fails_right (eqb e.who t) false refl)

    pub value_past : kind_writes e.kind ≡ false → written_value (e ∷ es) t c ≡ written_value es t c
    unfolding written_value
    value_past k = rw (k, and_fails_right (eqb e.who t) false refl)

    pub wrote_elsewhere : e.cell ≢ c → wrote_cell (e ∷ es) t c ≡ wrote_cell es t c
    unfolding wrote_cell any_in
    wrote_elsewhere other =
        rw (ne_eqb e.cell c other, and_fails_right (kind_writes e.kind) false refl, and_fails_right (eqb e.who t) false refl)

    pub value_elsewhere : e.cell ≢ c → written_value (e ∷ es) t c ≡ written_value es t c
    unfolding written_value
    value_elsewhere other =
        rw (ne_eqb e.cell c other, and_fails_right (kind_writes e.kind) false refl, and_fails_right (eqb e.who t) false refl)

    -- another's event writes nothing of the transaction's
    pub value_of_other : e.who ≢ t → written_value (e ∷ es) t c ≡ written_value es t c
    unfolding written_value
    value_of_other other = rw (ne_eqb e.who t other)

    -- its own write of the cell is the last
    pub wrote_here : e.who ≡ t → kind_writes e.kind ≡ true → e.cell ≡ c → wrote_cell (e ∷ es) t c ≡ true
    unfolding wrote_cell any_in
    wrote_here own k cell = rw (eq-eqb e.who t own, k, eq-eqb e.cell c cell)

    pub value_here : e.who ≡ t → kind_writes e.kind ≡ true → e.cell ≡ c → written_value (e ∷ es) t c ≡ e.value
    unfolding written_value
    value_here own k cell = rw (eq-eqb e.who t own, k, eq-eqb e.cell c cell)

  -- ---- the value last committed to a cell

  module _ (opening : List ℕ) (c : ℕ) where
    -- an event that commits nothing leaves it, and so does a commit of one who did not write the cell
    pub last_past : kind_commits e.kind ≡ false → last_write opening (e ∷ es) c ≡ last_write opening es c
    unfolding last_write
    last_past k = rw k

    pub last_elsewhere : wrote_cell (e ∷ es) e.who c ≡ false → last_write opening (e ∷ es) c ≡ last_write opening es c
    unfolding last_write
    last_elsewhere w = rw (w, and_fails_right (kind_commits e.kind) false refl)

    -- a commit of one who wrote it leaves that one's last value
    pub last_here : kind_commits e.kind ≡ true → wrote_cell (e ∷ es) e.who c ≡ true
        → last_write opening (e ∷ es) c ≡ written_value (e ∷ es) e.who c
    unfolding last_write
    last_here k w = rw (k, w)
