-- A list is the company of a transaction exactly if all of it is in the company, the transaction is listed and nobody unlisted commits before
-- the moment. Rests on what holds at a moment. Assumes nothing.
use Prim.Native.Nat.{ℕ, suc, ◌≤◌, ◌<◌}
use mathlib.Core.Path.{◌≡◌, refl, sym, ◌∙◌, ap, ap₂}
use mathlib.Core.Logic.Iff
use mathlib.Core.Logic.{◌↔◌, ◌⊎◌, inl, inr, ⊎_elim}
use mathlib.Core.Bool.{Bool, true, false, not, cond, ◌&&◌}
use mathlib.Core.List.{List, [], ◌∷◌, Memᴰ}
use lib.ListN.{length}
use lib.Dec.{eqb}
use native.Mathlib.Nat.{le_refl}
use native.Mathlib.Omega.{arith}
use borrow.Author.Tests.{not-true}
use Rattle.basics.specs.Lists.{all_in, any_in, member, distinct}
use Rattle.basics.proofs.Bools.{split, clash, true_of_not, same_tests, and_left, and_right, and_both, and_swap, and_fails_left, and_fails_right, or_false_right, cond_passes, cond_fails}
use Rattle.basics.proofs.Lists.{all_in_cong, any_in_fails, any_in_false}
use Rattle.rules.specs.declared.Record.{Record}
use Rattle.rules.specs.Sizes.{Size}
use Rattle.rules.specs.Kinds.{kind_starts, kind_commits, kind_sets_moment}
use Rattle.rules.specs.Layout.{walks}
use Rattle.rules.specs.Day.{Event, whose, event, events, is_transaction, moment_of, company_of}
use Rattle.rules.specs.Checker.{lists_company}
use Rattle.rules.proofs.Replay.InTime.{has_stranger, no_stranger, in_company}
use Rattle.rules.proofs.Day.Events.{event_cases, number_bounds}
use Rattle.rules.proofs.Day.Commits.{committed_by, committed_begun, commit_event, commit_of_event}
use Rattle.rules.proofs.Day.CompanyListed.{in_company_says, complete_says}
use Rattle.rules.proofs.Day.Moments.{at_moment}

-- ---- nobody unlisted commits before the moment

-- each commit and post with a number below n is of a listed transaction
abbrev pub ListedBefore : ℕ → List ℕ → List Event → Type 0
ListedBefore n order es = (e : Event) → Memᴰ e es → kind_commits e.kind ≡ true → e.number < n → member e.who order ≡ true

module _ (order : List ℕ) where
  -- nobody is a stranger exactly if each commit and post is of a listed transaction
  no_strangers_say : (earlier : List Record) → (not (has_stranger order (events earlier)) ≡ true) ↔ ListedBefore (suc (length earlier)) order (events earlier)
  unfolding has_stranger
  no_strangers_say earlier = (listed, λ f. ap not (any_in_fails strange (events earlier) (λ e m. passes e (λ c. f e m c (omega (arith, number_bounds earlier m))))))
    where
      strange : Event → Bool
      strange e = kind_commits e.kind && not (member e.who order)

      passes : (e : Event) → (kind_commits e.kind ≡ true → member e.who order ≡ true) → strange e ≡ false
      passes e f =
          split (kind_commits e.kind) (λ c. and_fails_right (kind_commits e.kind) (not (member e.who order)) (ap not (f c)))
          (λ c. and_fails_left (kind_commits e.kind) (not (member e.who order)) c)

      listed : not (any_in strange (events earlier)) ≡ true → ListedBefore (suc (length earlier)) order (events earlier)
      listed h e m c b =
          true_of_not (member e.who order) λ f.
          clash (and_both (kind_commits e.kind) (not (member e.who order)) c (ap not f))
          (any_in_false strange (events earlier) (not-true (any_in strange (events earlier)) h) m)

  -- and then none was one before
  none_before : (t : ℕ) (es : List Event) → has_stranger order es ≡ false → no_stranger t order es ≡ true
  unfolding has_stranger no_stranger any_in
  none_before t [] h = refl
  none_before t (e ∷ earlier) h =
      let strange = kind_commits e.kind && not (member e.who order) in
      let older = or_false_right strange (has_stranger order earlier) h in
      let sets = eqb e.who t && kind_sets_moment e.kind in
      and_both (no_stranger t order earlier) (cond sets (not (has_stranger order earlier)) true) (none_before t earlier older)
      (split sets (λ s. rw (s, older)) (λ s. rw s))

  -- a limit up to the newest record asks nothing of that
  listed_more : (n : ℕ) (r : Record) (earlier : List Record) → n ≤ suc (length earlier)
      → ListedBefore n order (events earlier) ↔ ListedBefore n order (events (r ∷ earlier))
  unfolding events event
  listed_more n r earlier h = (
    λ f e m c b. ⊎_elim (λ q. absurd (omega (arith, ap (λ x. x.number) q))) (λ k. f e k c b) (event_cases r earlier m),
    λ f e m c b. f e (Memᴰ.tail m) c b,
  )

  module _ (t : ℕ) where
    -- what is asked with one more record
    no_stranger_more : (r : Record) (earlier : List Record)
        → no_stranger t order (events (r ∷ earlier))
        ≡ no_stranger t order (events earlier) && cond (eqb (whose earlier r) t && kind_sets_moment r.kind) (not (has_stranger order (events earlier))) true
    unfolding no_stranger events event
    no_stranger_more r earlier = refl

    -- nobody unlisted commits before the moment exactly if each commit and post before it is of a listed transaction
    abbrev NoneSays : List Record → Type 0
    NoneSays day = (no_stranger t order (events day) ≡ true) ↔ ListedBefore (moment_of (events day) t) order (events day)

    none_set : (r : Record) (earlier : List Record) → eqb (whose earlier r) t && kind_sets_moment r.kind ≡ true
        → moment_of (events (r ∷ earlier)) t ≡ suc (length earlier) → NoneSays (r ∷ earlier)
    none_set r earlier s q =
        let older = no_stranger t order (events earlier) in
        let none = not (has_stranger order (events earlier)) in
        let here : older && none ≡ no_stranger t order (events (r ∷ earlier)) = sym (no_stranger_more r earlier ∙ ap (λ b. older && b) (cond_passes _ _ s)) in
        rw (q, ← here)
        (Iff.trans (and_right older none, λ e. and_both older none (none_before t (events earlier) (not-true _ e)) e)
        (Iff.trans (no_strangers_say earlier) (listed_more (suc (length earlier)) r earlier (le_refl _))))

    pub no_stranger_says : (z : Size) (day : List Record) → walks z day ≡ true → is_transaction (events day) t ≡ true
        → (no_stranger t order (events day) ≡ true) ↔ ListedBefore (moment_of (events day) t) order (events day)
    no_stranger_says z =
        at_moment z t NoneSays
        (record {
          on_set = λ r earlier w. none_set r earlier;
          on_other = λ r earlier w s q b known.
              let older = no_stranger t order (events earlier) in
              let here : older && true ≡ no_stranger t order (events (r ∷ earlier)) = sym (no_stranger_more r earlier ∙ ap (λ b. older && b) (cond_fails _ _ s)) in
              rw (q, ← here)
              (Iff.trans (and_left older true, λ e. and_both older true e refl)
              (Iff.trans known (listed_more (moment_of (events earlier) t) r earlier (omega arith))));
        })

-- ---- the company

-- who commits before the moment is in the company
pub company_early : (z : Size) (t : ℕ) (day : List Record) {e : Event} → walks z day ≡ true → Memᴰ e (events day) → kind_commits e.kind ≡ true
    → e.number < moment_of (events day) t → in_company (events day) t e.who ≡ true
company_early z t day {e} w m c b =
    (in_company_says (events day) t e.who).1 (inr (committed_by (events day) e.who m refl c, omega (arith, commit_of_event z day w m c)))

-- and who is in it is the transaction itself or commits before the moment
pub company_cases : (t : ℕ) (day : List Record) (k : ℕ) → in_company (events day) t k ≡ true
    → (k ≡ t) ⊎ ((e : Event) × Memᴰ e (events day) × (kind_commits e.kind ≡ true) × (e.who ≡ k) × (e.number < moment_of (events day) t))
company_cases t day k h =
    ⊎_elim inl (λ c. let x = commit_event (events day) k c.0 in inr (x.0, x.1, x.3, x.2, omega (arith, c.1, x.4)))
    ((in_company_says (events day) t k).0 h)

module _ (z : Size) (t : ℕ) (day : List Record) (w : walks z day ≡ true) (known : is_transaction (events day) t ≡ true) where
  abbrev es : List Event
  es = events day

  -- who is t or has committed is a transaction
  company_transaction : (k : ℕ) → in_company es t k ≡ true → is_transaction es k ≡ true
  company_transaction k h =
      ⊎_elim (λ q. ap (is_transaction es) q ∙ known) (λ c. committed_begun z day w k c.0) ((in_company_says es t k).0 h)

  -- so the company is told without asking for that
  company_is : (k : ℕ) → company_of es t k ≡ in_company es t k
  unfolding company_of in_company
  company_is k =
      let itself = is_transaction es k in
      let stands = in_company es t k in
      same_tests (itself && stands) stands (and_right itself stands) (λ h. and_both itself stands (company_transaction k h) h)

  -- everybody of the company is listed, exactly if t is and nobody unlisted commits before the moment
  complete_is : (order : List ℕ)
      → all_in (λ e. cond (kind_starts e.kind && company_of es t e.number) (member e.number order) true) es ≡ member t order && no_stranger t order es
  complete_is order =
      let it = member t order in
      let none = no_stranger t order es in
      let complete = complete_says day t order in
      same_tests _ (it && none)
      (λ a.
      let lists : (k : ℕ) → in_company es t k ≡ true → member k order ≡ true = λ k h. complete.0 a k (company_is k ∙ h) in
      and_both it none (lists t ((in_company_says es t t).1 (inl refl)))
      ((no_stranger_says order t z day w known).1 (λ e m c b. lists e.who (company_early z t day w m c b))))
      (λ h. complete.1 λ k c.
      ⊎_elim (λ q. ap (λ j. member j order) q ∙ and_left it none h)
      (λ x. ap (λ j. member j order) (sym x.3) ∙ (no_stranger_says order t z day w known).0 (and_right it none h) x.0 x.1 x.2 x.4)
      (company_cases t day k (sym (company_is k) ∙ c)))

-- a list is the company of a transaction exactly if the transaction is listed, all listed are of its company, and nobody unlisted commits
-- before the moment
pub company_told : (z : Size) (t : ℕ) (order : List ℕ) (day : List Record) → walks z day ≡ true → is_transaction (events day) t ≡ true
    → lists_company (events day) t order
    ≡ distinct order && (member t order && (all_in (in_company (events day) t) order && no_stranger t order (events day)))
unfolding lists_company
company_told z t order day w known =
    let all = all_in (in_company (events day) t) order in
    ap (λ b. distinct order && b)
    (ap₂ ◌&&◌ (all_in_cong (company_of (events day) t) (in_company (events day) t) order (λ k m. company_is z t day w known k)) (complete_is z t day w known order)
    ∙ and_swap all (member t order) (no_stranger t order (events day)))
