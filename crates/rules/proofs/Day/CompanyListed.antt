-- Who is of the company of a transaction, and that a list is the company exactly if it has just those, each once. Rests on every
-- transaction being started by an event (Day). Assumes nothing.
use Prim.Native.Nat.{ℕ, ◌<◌}
use mathlib.Core.Path.{◌≡◌, sym, ◌∙◌, ap}
use mathlib.Core.Logic.Iff
use mathlib.Core.Logic.{◌↔◌, ◌⊎◌}
use mathlib.Core.Bool.{Bool, true, cond, ◌&&◌}
use mathlib.Core.List.{List}
use Rattle.basics.specs.Lists.{all_in, member, distinct}
use Rattle.basics.proofs.Bools.{and_right, and_both}
use Rattle.basics.proofs.Lists.{all_in_at, all_in_of, member_at, member_of}
use Rattle.basics.proofs.Says.{eqb_says, ltb_says, and_says, or_says, if_says}
use Rattle.rules.specs.declared.Record.{Record}
use Rattle.rules.specs.Kinds.{kind_starts}
use Rattle.rules.specs.Day.{Event, events, is_transaction, commit_of, committed, moment_of, company_of}
use Rattle.rules.specs.Checker.{lists_company}
use Rattle.rules.proofs.Replay.InTime.{in_company}
use Rattle.rules.proofs.Day.Events.{started}

-- those are the transaction itself and who committed before its moment
pub in_company_says : (es : List Event) (t k : ℕ)
    → (in_company es t k ≡ true) ↔ ((k ≡ t) ⊎ ((committed es k ≡ true) × (commit_of es k < moment_of es t)))
unfolding in_company
in_company_says es t k = or_says (eqb_says k t) (and_says Iff.rfl (ltb_says (commit_of es k) (moment_of es t)))

pub company_says : (es : List Event) (t k : ℕ)
    → (company_of es t k ≡ true) ↔ ((is_transaction es k ≡ true) × ((k ≡ t) ⊎ ((committed es k ≡ true) × (commit_of es k < moment_of es t))))
unfolding company_of in_company
company_says es t k = and_says Iff.rfl (in_company_says es t k)

module _ (day : List Record) (t : ℕ) (order : List ℕ) where
  abbrev es : List Event
  es = events day

  -- the test that one who starts is listed, if it is of the company
  abbrev listed_if : Event → Bool
  listed_if e = cond (kind_starts e.kind && company_of es t e.number) (member e.number order) true

  -- everybody of the company is listed
  pub complete_says : (all_in listed_if es ≡ true) ↔ ((k : ℕ) → company_of (events day) t k ≡ true → member k order ≡ true)
  complete_says = (
    λ a k c.
        let x = started day k ((company_says es t k).0 c).0 in
        let start = x.0 in
        let within = and_both (kind_starts start.kind) (company_of es t start.number) x.2 (ap (company_of es t) x.3 ∙ c) in
        ap (λ n. member n order) (sym x.3) ∙ (if_says _ Iff.rfl).0 (all_in_at listed_if es a x.1) within,
    λ f.
        all_in_of listed_if es λ e m.
        (if_says (kind_starts e.kind && company_of es t e.number) Iff.rfl).1 (λ i. f e.number (and_right (kind_starts e.kind) _ i)),
  )

  -- the list has just those of the company, each once
  pub company_listed : (lists_company (events day) t order ≡ true)
      ↔ ((distinct order ≡ true) × ((k : ℕ) → (member k order ≡ true) ↔ (company_of (events day) t k ≡ true)))
  unfolding lists_company
  company_listed =
      Iff.trans (and_says Iff.rfl (and_says Iff.rfl complete_says)) (
        λ s. (s.0, λ k. (λ i. all_in_at (company_of es t) order s.1.0 (member_at k order i), s.1.1 k)),
        λ s. (s.0, (all_in_of (company_of es t) order (λ k m. (s.1 k).0 (member_of k order m)), λ k. (s.1 k).1)),
      )
