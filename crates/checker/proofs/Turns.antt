-- A replay turn by turn: what is kept mirrors the records so far, and each of them is explained. A record that is not explained, or the end
-- of the log, settles acceptance. Assumes nothing.
use Prim.Native.Nat.{ℕ, suc, ◌+◌, ◌≤◌, ◌<◌}
use mathlib.Core.Path.{◌≡◌, refl, sym, ◌∙◌, ap, subst}
use mathlib.Core.Bool.{true, false, cond}
use mathlib.Core.List.{List, ◌∷◌}
use native.Mathlib.Decide.{dec_lt}
use native.Mathlib.Numerals.{add-one}
use native.Mathlib.Omega.{arith}
use lib.ListN.{length, get_or}
use lib.Dec.{eqb, ltb}
use borrow.Author.Tests.{lt-ltb, le-ltb}
use Rattle.std.proofs.Common.{Option, Some, None, IfSome}
use Rattle.std.proofs.lemmas.Option.{IfSome_then}
use Rattle.basics.specs.Lists.{member, distinct}
use Rattle.rules.specs.declared.Record.{Record}
use Rattle.rules.specs.declared.Size.{Size}
use Rattle.rules.specs.Sizes.{Within, width}
use Rattle.rules.specs.Daylog.{decode, bytes_at, day_of}
use Rattle.rules.specs.Layout.{walks}
use Rattle.rules.specs.Day.{whose, event, events, is_transaction}
use Rattle.rules.specs.Checker.{accepted}
use Rattle.rules.proofs.Replay.InTime.{step_right, replays}
use Rattle.rules.proofs.Log.StandingLog.{length_day_of}
use Rattle.log_back.proofs.FollowedLog.{walks_first}
use Rattle.check_replay.specs.declared.state.Replay.{Replay}
use Rattle.check_replay.specs.Kept.{nobody, wrote_in, fresh, whose_kept, followed}
use Rattle.check_list.specs.Listed.{position, found, all_in_time}
use Rattle.check_explain.specs.Explained.{PastRecord, PastOnly, CellRight, explained}
use Rattle.checker.proofs.KeptMirrored.{Mirrors, mirrors_fresh, whose_mirrored}
use Rattle.checker.proofs.Followed.{mirrors_more}
use Rattle.check_list.proofs.Positions.{position_member, found_told, found_some}
use Rattle.checker.proofs.Replaying.{explained_says, unlisted_right, in_time_says, cell_right, place_within}
use Rattle.checker.proofs.Stepwise.{replays_on, accepted_not, accepted_end}

module _ (z : Size) (opening log : List ℕ) (t : ℕ) (order : List ℕ) where
  -- after n records: what is kept mirrors them, and each is explained
  pub record Turn (n : ℕ) (s : Replay) : Type 0 where
    pub mirrors : Mirrors z t order (day_of log n) s
    pub explains : replays z opening t order (events (day_of log n)) ≡ true

  -- before the first
  pub turn_none : Turn 0 (fresh t)
  unfolding day_of events replays
  turn_none = record { mirrors = mirrors_fresh z t order; explains = refl }

  module _ (m : ℕ) (within : Within z) (walk : walks z (day_of log m) ≡ true) (once : distinct order ≡ true) (few : length order ≤ width) where
    module _ (n : ℕ) (s : Replay) (below : n < m) (turn : Turn n s) where
      -- the next record, behind the first n
      abbrev day : List Record
      day = day_of log n

      abbrev next : Record
      next = decode (bytes_at log n)

      walk_on : walks z (next ∷ day) ≡ true
      unfolding day_of
      walk_on = walks_first z log m (suc n) below walk

      number : suc (length day) ≡ n + 1
      number = ap suc (length_day_of log n) ∙ sym (add-one n)

      -- its place and its cell are within the arrays, and only earlier records are kept
      pub entry_place : (entry : Record) → entry ≡ next → entry.place < width
      entry_place entry read = subst (λ (r : Record). r.place < width) (sym read) (place_within z next day within walk_on)

      pub entry_cell : (entry : Record) → entry ≡ next → CellRight z entry
      entry_cell entry read = subst (CellRight z) (sym read) (cell_right z next day within walk_on)

      pub past_only : PastOnly (n + 1) s
      past_only =
          let few_records = length_day_of log n in
          let older : (o : Option ℕ) → PastRecord (length day) o → PastRecord (n + 1) o = λ o h. IfSome_then o h (λ w k. (k.0, omega arith)) in
          (λ c. older (get_or s.table c None) (turn.mirrors.past.0 c), λ i c. older (wrote_in (get_or s.listed i nobody) c) (turn.mirrors.past.1 i c))

      -- whose it is
      whose_next : whose_kept s.holder next (n + 1) ≡ whose day next
      whose_next = ap (whose_kept s.holder next) (sym number) ∙ whose_mirrored z t order day s next turn.mirrors walk_on

      module _ (who : ℕ) (place : Option ℕ) (its : who ≡ whose_kept s.holder next (n + 1)) (there : place ≡ found order who) where
        who_is : who ≡ whose day next
        who_is = its ∙ whose_next

        -- where it is listed, if it is
        abbrev at : ℕ
        at = position order (whose day next)

        place_is : place ≡ cond (ltb at (length order)) (Some at) None
        place_is = there ∙ ap (found order) who_is ∙ found_told order (whose day next)

        -- that it is explained says that it breaks nothing
        told : at < length order
            → explained z opening log s next (n + 1) at (length order) (eqb who t) ≡ step_right z opening t order (events day) (event day next)
        told h =
            rw (who_is, ← number)
            (explained_says z t order once opening log day s next turn.mirrors walk_on (ap (day_of log) (sym (length_day_of log n)))
            (ap (λ (i : ℕ). decode (bytes_at log i)) (sym (length_day_of log n))) h)

        right_there : IfSome place (λ i. explained z opening log s next (n + 1) i (length order) (eqb who t) ≡ true) → at < length order
            → explained z opening log s next (n + 1) at (length order) (eqb who t) ≡ true
        right_there right h =
            let here : place ≡ Some at = place_is ∙ ap (λ b. cond b (Some at) None) (lt-ltb at (length order) h) in
            subst (λ (o : Option ℕ). IfSome o (λ i. explained z opening log s next (n + 1) i (length order) (eqb who t) ≡ true)) here right

        -- one that is explained, or of nobody listed, breaks nothing
        step : member t order ≡ true → IfSome place (λ i. explained z opening log s next (n + 1) i (length order) (eqb who t) ≡ true)
            → step_right z opening t order (events day) (event day next) ≡ true
        step listed right =
            elim (dec_lt at (length order)) [
              | yes h ↦ sym (told h) ∙ right_there right h
              | no h ↦ unlisted_right z opening t order day next (sym (position_member order (whose day next)) ∙ le-ltb at (length order) (omega arith)) listed
            ]

        -- one that is explained, or of nobody listed, leads to the next turn
        next_on : member t order ≡ true → IfSome place (λ i. explained z opening log s next (n + 1) i (length order) (eqb who t) ≡ true)
            → Turn (n + 1) (followed z (n + 1) next place (eqb who t) s)
        unfolding day_of
        next_on listed right =
            record {
              mirrors = mirrored;
              explains = subst (λ (i : ℕ). replays z opening t order (events (day_of log i)) ≡ true) (sym (add-one n)) (replays_on z opening t order log n turn.explains (step listed right));
            }
          where
            mirrored : Mirrors z t order (day_of log (n + 1)) (followed z (n + 1) next place (eqb who t) s)
            mirrored =
                subst (λ (i : ℕ). Mirrors z t order (day_of log i) (followed z (n + 1) next place (eqb who t) s)) (sym (add-one n))
                (rw (who_is, place_is, ← number) (mirrors_more z t order within once few day s next turn.mirrors walk_on))

        -- one that is not explained: the list is not accepted
        next_fails : is_transaction (events (day_of log m)) t ≡ true → member t order ≡ true → (i : ℕ) → place ≡ Some i
            → explained z opening log s next (n + 1) i (length order) (eqb who t) ≡ false
            → accepted z opening (events (day_of log m)) t order ≡ false
        next_fails known listed i here wrong =
            let spot = found_some order (whose day next) i (sym (there ∙ ap (found order) who_is) ∙ here) in
            let wrong_at = ap (λ (j : ℕ). explained z opening log s next (n + 1) j (length order) (eqb who t)) spot.0 ∙ wrong in
            accepted_not z opening t order log m walk known once listed n below (sym (told (omega arith)) ∙ wrong_at)

      -- the same of the record as it is read
      pub turn_on : member t order ≡ true → (entry : Record) → entry ≡ next → (who : ℕ) (place : Option ℕ) → who ≡ whose_kept s.holder entry (n + 1)
          → place ≡ found order who → IfSome place (λ i. explained z opening log s entry (n + 1) i (length order) (eqb who t) ≡ true)
          → Turn (n + 1) (followed z (n + 1) entry place (eqb who t) s)
      turn_on listed entry read =
          subst
          (λ (r : Record). (who : ℕ) (place : Option ℕ) → who ≡ whose_kept s.holder r (n + 1) → place ≡ found order who
          → IfSome place (λ i. explained z opening log s r (n + 1) i (length order) (eqb who t) ≡ true)
          → Turn (n + 1) (followed z (n + 1) r place (eqb who t) s))
          (sym read) (λ who place its there. next_on who place its there listed)

      pub turn_fails : is_transaction (events (day_of log m)) t ≡ true → member t order ≡ true → (entry : Record) → entry ≡ next → (who : ℕ) (place : Option ℕ)
          → who ≡ whose_kept s.holder entry (n + 1) → place ≡ found order who → (i : ℕ) → place ≡ Some i
          → explained z opening log s entry (n + 1) i (length order) (eqb who t) ≡ false
          → accepted z opening (events (day_of log m)) t order ≡ false
      turn_fails known listed entry read =
          subst
          (λ (r : Record). (who : ℕ) (place : Option ℕ) → who ≡ whose_kept s.holder r (n + 1) → place ≡ found order who → (i : ℕ) → place ≡ Some i
          → explained z opening log s r (n + 1) i (length order) (eqb who t) ≡ false → accepted z opening (events (day_of log m)) t order ≡ false)
          (sym read) (λ who place its there. next_fails who place its there known listed)

    -- at the end: it is accepted exactly if everybody listed is in time
    pub turn_ends : (s : Replay) → is_transaction (events (day_of log m)) t ≡ true → member t order ≡ true → Turn m s
        → all_in_time s.listed s.moment order t ≡ accepted z opening (events (day_of log m)) t order
    turn_ends s known listed turn =
        in_time_says z t order (day_of log m) s turn.mirrors ∙ sym (accepted_end z opening t order log m walk known once listed turn.explains)
