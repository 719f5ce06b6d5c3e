-- Laws of the latest and the earliest event of a day that passes a test: which passing event lies beyond a number. Assumes nothing.
use Prim.Native.Nat.{ℕ, suc, ◌≤◌, ◌<◌}
use mathlib.Core.Path.{◌≡◌, refl, sym, ◌∙◌, ap}
use mathlib.Core.Logic.{◌↔◌, ◌⊎◌, inl, inr, ⊎_elim}
use mathlib.Core.Bool.{Bool, true}
use mathlib.Core.List.{List, [], ◌∷◌, Memᴰ}
use lib.ListN.{length}
use native.Mathlib.Omega.{arith}
use borrow.Author.Tests.{eq-eqb, ne_eqb}
use Rattle.basics.specs.Lists.{any_in}
use Rattle.basics.proofs.Bools.{split, equal_or_not}
use Rattle.rules.specs.declared.Record.{Record}
use Rattle.rules.specs.Day.{Event, event, events, latest}
use Rattle.rules.proofs.Mirror.Mirrors.{earliest}
use Rattle.rules.proofs.Day.Events.{event_cases, number_bounds}
use Rattle.rules.proofs.Day.Commits.{latest_none, latest_found, latest_some}

module _ (passes : Event → Bool) where
  -- ---- the latest

  -- an event that passes is no newer
  pub latest_newest : (day : List Record) {e : Event} → Memᴰ e (events day) → passes e ≡ true → e.number ≤ latest passes (events day)
  unfolding events event latest
  latest_newest [] m p = absurd (mathlib.Core.List.Memᴰ.not-nil m)
  latest_newest (r ∷ earlier) {e} m p =
      ⊎_elim (λ (q : e ≡ event earlier r). rw (sym (ap passes q) ∙ p) (omega (arith, ap (λ x. x.number) q)))
      (λ (k : Memᴰ e (events earlier)).
      split (passes (event earlier r)) (λ t. rw t (omega (arith, number_bounds earlier k))) (λ f. rw f (latest_newest earlier k p)))
      (event_cases r earlier m)

  -- it is beyond a number exactly if one that passes is
  pub latest_beyond : (day : List Record) (n : ℕ)
      → (n < latest passes (events day)) ↔ ((e : Event) × Memᴰ e (events day) × (passes e ≡ true) × (n < e.number))
  latest_beyond day n = (
    λ h. let x = latest_found passes (events day) (latest_some passes day (λ z. omega arith)) in (x.0, x.1, x.2, omega (arith, x.3)),
    λ x. omega (arith, latest_newest day x.1 x.2, x.3),
  )

  -- it is within a bound if all that pass are
  pub latest_within : (day : List Record) (b : ℕ) → ((e : Event) → Memᴰ e (events day) → passes e ≡ true → e.number ≤ b)
      → latest passes (events day) ≤ b
  latest_within day b h =
      split (any_in passes (events day))
      (λ t. let x = latest_found passes (events day) t in omega (arith, x.3, h x.0 x.1 x.2))
      (λ f. omega (arith, latest_none passes (events day) f))

  -- ---- the earliest

  -- it is the number of an event that passes, or 0
  earliest_known : (day : List Record)
      → (earliest passes (events day) ≡ 0) ⊎ ((e : Event) × Memᴰ e (events day) × (passes e ≡ true) × (earliest passes (events day) ≡ e.number))
  unfolding events event earliest
  earliest_known [] = inl refl
  earliest_known (r ∷ earlier) =
      let older = earliest passes (events earlier) in
      equal_or_not older 0
      (λ q.
      rw (eq-eqb older 0 q)
      (split (passes (event earlier r)) (λ t. inr (event earlier r, mathlib.Core.List.Memᴰ.head refl, t, rw t)) (λ f. inl (rw f))))
      (λ q.
      rw (ne_eqb older 0 q)
      (⊎_elim (λ z. absurd (q z)) (λ x. inr (x.0, mathlib.Core.List.Memᴰ.tail x.1, x.2, x.3)) (earliest_known earlier)))

  earliest_at_most : (day : List Record) → earliest passes (events day) ≤ length day
  earliest_at_most day = ⊎_elim (λ z. omega arith) (λ x. omega (arith, number_bounds day x.1, x.3)) (earliest_known day)

  -- an event that passes is no older
  earliest_oldest : (day : List Record) {e : Event} → Memᴰ e (events day) → passes e ≡ true
      → (1 ≤ earliest passes (events day)) × (earliest passes (events day) ≤ e.number)
  unfolding events event earliest
  earliest_oldest [] m p = absurd (mathlib.Core.List.Memᴰ.not-nil m)
  earliest_oldest (r ∷ earlier) {e} m p =
      let older = earliest passes (events earlier) in
      ⊎_elim
      (λ (q : e ≡ event earlier r).
      let n : e.number ≡ suc (length earlier) = ap (λ x. x.number) q in
      equal_or_not older 0 (λ z. rw (eq-eqb older 0 z, sym (ap passes q) ∙ p) (omega arith))
      (λ z. rw (ne_eqb older 0 z) (omega (arith, earliest_at_most earlier))))
      (λ (k : Memᴰ e (events earlier)). let b = earliest_oldest earlier k p in rw (ne_eqb older 0 (λ z. omega arith)) b)
      (event_cases r earlier m)

  -- it is there and before a number exactly if one that passes is before it
  pub earliest_before : (day : List Record) (n : ℕ) → ((1 ≤ earliest passes (events day)) × (earliest passes (events day) < n))
      ↔ ((e : Event) × Memᴰ e (events day) × (passes e ≡ true) × (e.number < n))
  earliest_before day n = (
    λ h. ⊎_elim (λ z. absurd (omega arith)) (λ x. (x.0, x.1, x.2, omega (arith, x.3))) (earliest_known day),
    λ x. let b = earliest_oldest day x.1 x.2 in omega (arith, x.3),
  )
