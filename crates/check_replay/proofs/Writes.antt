-- The record of a listed transaction's latest write of a cell: none before its first record; once a write of the cell is noted, that one; any
-- other record that is noted leaves it as it was. Assumes nothing.
use Prim.Native.Nat.{ℕ, ◌<◌}
use mathlib.Core.Path.{◌≡◌, refl, ◌∙◌, ap}
use mathlib.Core.Bool.{Bool, true, false, cond, ◌&&◌}
use lib.ListN.{length, get_or}
use lib.Dec.{eqb}
use Rattle.std.proofs.Common.{None}
use Rattle.basics.proofs.Bools.{split, eqb_swap}
use Rattle.basics.proofs.Elements.{get_or_replicate_same, get_or_set}
use Rattle.rules.specs.declared.Record.{Record}
use Rattle.rules.specs.Sizes.{width}
use Rattle.rules.specs.Kinds.{kind_writes}
use Rattle.check_replay.specs.declared.state.Listed.{Listed}
use Rattle.check_replay.specs.Kept.{nothing, noted, record_or_none, wrote_in}

-- before the first record
pub nothing_wrote : (c : ℕ) → wrote_in nothing c ≡ None
nothing_wrote c = ap record_or_none (get_or_replicate_same width c 0)

-- a number by a test
record_chosen : (b : Bool) (n old : ℕ) → record_or_none (cond b n old) ≡ cond b (record_or_none n) (record_or_none old)
record_chosen true n old = refl
record_chosen false n old = refl

-- record number n, r, is noted
pub noted_wrote : (n : ℕ) (r : Record) (own : Listed) (c : ℕ) → c < length own.wrote
    → wrote_in (noted n r own) c ≡ cond (kind_writes r.kind && eqb r.cell c) (record_or_none n) (wrote_in own c)
unfolding noted
noted_wrote n r own c h =
    split (kind_writes r.kind)
    (λ w.
    rw (w, eqb_swap r.cell c)
    (ap record_or_none (get_or_set own.wrote r.cell c n 0 h) ∙ record_chosen (eqb c r.cell) n (get_or own.wrote c 0)))
    (λ w. rw w)
