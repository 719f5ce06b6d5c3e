-- A list is accepted for a transaction exactly if it is accepted told in time: one replay of the day's events, record by record, asks all
-- that acceptance asks of pairs, reads and own reads. Assumes nothing.
use Prim.Native.Nat.{ℕ}
use mathlib.Core.Path.{◌≡◌, refl, sym, ◌∙◌, ap}
use mathlib.Core.Bool.{true, not, cond, ◌&&◌}
use mathlib.Core.List.{List, [], ◌∷◌}
use lib.Dec.{eqb}
use Rattle.basics.specs.Lists.{all_in, member, distinct, keeps}
use Rattle.basics.specs.Bytes.{same}
use Rattle.basics.proofs.Bools.{and_left, and_right, and_when}
use Rattle.basics.proofs.Regrouped.{four_across, one_behind}
use Rattle.basics.proofs.Lists.{all_in_at, all_in_of}
use Rattle.rules.specs.declared.Record.{Record}
use Rattle.rules.specs.Sizes.{Size}
use Rattle.rules.specs.Kinds.{kind_judged_read, kind_own_read, kind_sets_moment}
use Rattle.rules.specs.Layout.{walks}
use Rattle.rules.specs.Day.{Event, events, is_transaction, written_value, company_of, day_before}
use Rattle.rules.specs.Checker.{lists_company, own_reads_right, accepted}
use Rattle.rules.proofs.Replay.InTime.{arises, pairs_in_time, table_by, reads_in_time, has_stranger, no_stranger, in_company, step_right, replays, accepted_in_time}
use Rattle.rules.proofs.Replay.CompanyInTime.{company_told}
use Rattle.rules.proofs.Replay.PairsInTime.{pairs_told}
use Rattle.rules.proofs.Replay.ReadsInTime.{reads_told}

module _ (z : Size) (opening : List ℕ) (t : ℕ) (order : List ℕ) where
  -- a replay breaks nothing exactly if each of the four is right
  pub replays_told : (es : List Event)
      → replays z opening t order es
      ≡ no_stranger t order es && (pairs_in_time z order es && (reads_in_time opening order es && own_reads_right order es))
  unfolding replays step_right no_stranger pairs_in_time reads_in_time own_reads_right
  replays_told [] = refl
  replays_told (e ∷ earlier) =
      ap (λ b. b && step_right z opening t order earlier e) (replays_told earlier)
      ∙ four_across (no_stranger t order earlier) (pairs_in_time z order earlier) (reads_in_time opening order earlier) (own_reads_right order earlier)
      (cond (eqb e.who t && kind_sets_moment e.kind) (not (has_stranger order earlier)) true)
      (keeps (λ k m. eqb e.who m && arises z earlier e k) order)
      (cond (member e.who order && kind_judged_read e.kind) (same e.value (table_by opening order earlier e.cell)) true)
      (cond (member e.who order && kind_own_read e.kind) (same e.value (written_value earlier e.who e.cell)) true)

-- all of a company are transactions
company_transactions : (t : ℕ) (order : List ℕ) (es : List Event) → lists_company es t order ≡ true → all_in (is_transaction es) order ≡ true
unfolding lists_company company_of
company_transactions t order es l =
    all_in_of (is_transaction es) order λ k m.
    and_left (is_transaction es k) _ (all_in_at (company_of es t) order (and_left (all_in (company_of es t) order) _ (and_right (distinct order) _ l)) m)

-- acceptance, told in time
pub accepted_told : (z : Size) (opening : List ℕ) (t : ℕ) (order : List ℕ) (day : List Record) → walks z day ≡ true → is_transaction (events day) t ≡ true
    → accepted z opening (events day) t order ≡ accepted_in_time z opening (events day) t order
unfolding accepted accepted_in_time
accepted_told z opening t order day w known =
    let es = events day in
    let company = lists_company es t order in
    let kept = keeps (day_before z es) order in
    let none = no_stranger t order es in
    let inside = all_in (in_company es t) order in
    let own = own_reads_right order es in
    let rest = pairs_in_time z order es && (reads_in_time opening order es && own) in
    and_when company
    (λ l.
    and_when kept (λ k. ap (λ b. b && own) (reads_told z opening t order day w known l k))
    ∙ ap (λ b. b && (reads_in_time opening order es && own))
    (pairs_told z order day w (and_left (distinct order) _ (sym (company_told z t order day w known) ∙ l)) (company_transactions t order es l)))
    ∙ ap (λ b. b && rest) (company_told z t order day w known)
    ∙ one_behind (distinct order) (member t order) inside none rest
    ∙ ap (λ b. distinct order && (member t order && (inside && b))) (sym (replays_told z opening t order es))
