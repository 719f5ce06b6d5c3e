-- Reasons and refusals: the first reason that applies is the answer, and a refusal other than 9 changes nothing, for every call as one law.
-- Assumes nothing.
use mathlib.Core.Path.{◌≡◌, refl, sym, ap, ap₂, ◌∙◌}
use mathlib.Core.Logic.{◌≢◌, ◌⊎◌, inl, inr, ⊎_elim}
use Prim.Native.Nat.{ℕ, ◌<◌}
use native.Mathlib.Omega.{arith}
use mathlib.Core.Bool.{Bool, true, false, cond}
use mathlib.Core.List.{List, [], ◌∷◌, ◌++◌}
use lib.ListN.{length}
use lib.Dec.{ltb, eqb}
use borrow.Author.Tests.{ltb-true, eqb-true, eq-eqb}
use Rattle.basics.specs.Lists.{all_in, any_in}
use Rattle.basics.proofs.Bools.{split, clash, and_left, and_right, or_false_left, or_false_right}
use Rattle.rules.specs.Sizes.{Size}
use Rattle.rules.specs.Books.{place_at, wrote}
use Rattle.rules.specs.Handles.{place_of}
use Rattle.rules.specs.Numbers.{granted, conflict, Reason, first_reason}
use Rattle.rules.specs.State.{State, Outcome, refused, unless_refused, recorded}
use Rattle.rules.specs.Judged.{Judged, books_granted, granted_of, turned_back, meets_conflict, judged_of}
use Rattle.rules.specs.Steps.{show_reasons, order_reasons, own_read_of, judged_read_of, open_rule, begin_rule, write_rule, read_rule, show_rule, commit_rule, give_up_rule, post_rule, order_rule, close_rule, begin_of, write_of, read_of, show_of, give_up_of, post_of, order_of, close_of}
use Rattle.rules.specs.Calls.{Call, Open, Begin, Write, Read, Show, Commit, GiveUp, Post, Order, Close, Lending, issued}
use Rattle.rules.specs.Run.{Machine, moved_on, after_call}
use Rattle.rules.specs.Statements.{Looks, ChangesNothing, RefusalsChangeNothing, ResultsUnique}

-- ---- the first reason

-- one that applies is the answer, and one that does not is passed over
pub first_applies : (r : Reason) (later : List Reason) → r.applies ≡ true → first_reason (r ∷ later) ≡ r.number
unfolding first_reason
first_applies r later e = rw e

pub first_passes : (r : Reason) (later : List Reason) → r.applies ≡ false → first_reason (r ∷ later) ≡ first_reason later
unfolding first_reason
first_passes r later e = rw e

-- none applies: the answer is 0
pub first_none : (reasons : List Reason) → any_in (λ r. r.applies) reasons ≡ false → first_reason reasons ≡ granted
unfolding first_reason any_in
first_none [] e = refl
first_none (r ∷ later) e = rw (or_false_left r.applies _ e) (first_none later (or_false_right r.applies _ e))

-- the answer is 0: none applies, where no reason has the number 0
pub none_applies : (reasons : List Reason) → all_in (λ r. ltb 0 r.number) reasons ≡ true → first_reason reasons ≡ granted → any_in (λ r. r.applies) reasons ≡ false
unfolding first_reason any_in all_in
none_applies [] positive e = refl
none_applies (r ∷ later) positive e =
    split r.applies (λ t. let h : 0 < r.number = ltb-true 0 r.number (and_left (ltb 0 r.number) _ positive) in let z : r.number ≡ 0 = rw t at e in absurd (omega arith))
    (λ f. rw f (none_applies later (and_right (ltb 0 r.number) _ positive) (rw f at e)))

-- none of the reasons applies: the first does not, and none of the later ones
pub none_after : (r : Reason) (later : List Reason) → 0 < r.number → first_reason (r ∷ later) ≡ granted
    → (r.applies ≡ false) × (first_reason later ≡ granted)
unfolding first_reason
none_after r later positive e =
    split r.applies (λ t. let none : r.number ≡ 0 = rw t at e in absurd (omega arith)) (λ f. (f, rw f at e))

-- a run of reasons that has a number other than 0 gives it
pub run_first : (run later : List Reason) {n : ℕ} → n ≡ first_reason run → n ≢ granted → n ≡ first_reason (run ++ later)
unfolding first_reason
run_first [] later e other = absurd (other e)
run_first (r ∷ rest) later e other =
    split r.applies (λ t. rw t (rw t at e)) (λ f. rw f (run_first rest later (rw f at e) other))

-- none of two lists of reasons applies: none of the first and none of the second
pub none_of_both : (some later : List Reason) → all_in (λ r. ltb 0 r.number) some ≡ true → first_reason (some ++ later) ≡ granted
    → (first_reason some ≡ granted) × (first_reason later ≡ granted)
unfolding first_reason all_in
none_of_both [] later positive e = (refl, e)
none_of_both (r ∷ some) later positive e =
    let here = none_after r (some ++ later) (ltb-true 0 r.number (and_left (ltb 0 r.number) _ positive)) e in
    let rest = none_of_both some later (and_right (ltb 0 r.number) _ positive) here.1 in
    (rw here.0 rest.0, rest.1)

-- what holds of each reason's number and of 0 holds of the answer
pub first_among : (p : ℕ → Bool) (reasons : List Reason) → p granted ≡ true → all_in (λ r. p r.number) reasons ≡ true → p (first_reason reasons) ≡ true
unfolding first_reason all_in
first_among p [] zero e = zero
first_among p (r ∷ later) zero e =
    split r.applies (λ t. rw t (and_left (p r.number) _ e)) (λ f. rw f (first_among p later zero (and_right (p r.number) _ e)))

-- ---- a rule's outcome

module _ (reasons : List Reason) (s : State) (o : Outcome) where
  -- either no reason applies and the outcome stands, or the call is refused
  pub refused_or_not : ((first_reason reasons ≡ granted) × (unless_refused reasons s o ≡ o)) ⊎ ((first_reason reasons ≢ granted) × (unless_refused reasons s o ≡ refused (first_reason reasons) s))
  unfolding unless_refused
  refused_or_not =
      split (eqb (first_reason reasons) 0) (λ e. inl (eqb-true (first_reason reasons) 0 e, rw e)) (λ e. inr (λ q. clash (eq-eqb (first_reason reasons) 0 q) e, rw e))

  -- a refusal changes nothing
  refused_changes_nothing : (n : ℕ) (x : Outcome) → x ≡ refused n s → ChangesNothing s x
  unfolding refused
  refused_changes_nothing n x e =
      record {
        no_answer = ap (λ y. y.answer) e;
        no_order = ap (λ y. y.order) e;
        nothing_shown = ap (λ y. y.shown) e;
        state_stays = ap (λ y. y.after) e;
        nothing_added = ap (λ y. y.entry) e;
      }

  -- so a number that the outcome itself does not have is a refusal's
  other_number : (unless_refused reasons s o).number ≢ o.number → ChangesNothing s (unless_refused reasons s o)
  other_number n =
      ⊎_elim (λ g. absurd (n (ap (λ x. x.number) g.1))) (λ g. refused_changes_nothing (first_reason reasons) (unless_refused reasons s o) g.1) refused_or_not

  -- an outcome that only looks does so refused or not
  looks_either_way : Looks s o → Looks s (unless_refused reasons s o)
  unfolding refused
  looks_either_way h = ⊎_elim (λ g. rw g.1 h) (λ g. rw g.1 (refl, refl)) refused_or_not

-- ---- every call

-- a refusal other than 9 changes nothing
abbrev Unchanged : State → Outcome → Type 0
Unchanged s o = o.number ≢ granted → o.number ≢ conflict → ChangesNothing s o

-- an outcome that is granted or met Conflict
abbrev Settled : Outcome → Type 0
Settled o = (o.number ≡ granted) ⊎ (o.number ≡ conflict)

unchanged : (reasons : List Reason) (s : State) (o : Outcome) → Settled o → Unchanged s (unless_refused reasons s o)
unchanged reasons s o settled n k = other_number reasons s o (λ e. ⊎_elim (λ g. n (e ∙ g)) (λ c. k (e ∙ c)) settled)

-- what holds of both outcomes of a judged call holds of the one that it comes to
pub either_judged : (P : Outcome → Type 0) (z : Size) (s : State) (i : ℕ) (j : Judged) → P (turned_back s j.back i j.cell) → P (granted_of s i j)
    → P (judged_of z s i j)
unfolding judged_of
either_judged P z s i j h k = split (meets_conflict z (books_granted s.books i j) i) (λ t. rw t h) (λ f. rw f k)

-- one of two settled outcomes
settled_either : (t : Bool) (one other : Outcome) → Settled one → Settled other → Settled (cond t one other)
settled_either true one other h k = h
settled_either false one other h k = k

-- a judged call is granted or meets Conflict
settled_judged : (z : Size) (s : State) (i : ℕ) (j : Judged) → Settled (judged_of z s i j)
unfolding turned_back granted_of recorded
settled_judged z s i j = either_judged Settled z s i j (inr refl) (inl refl)

refusal_unchanged : (z : Size) (l : Lending) (c : Call) (s : State) → Unchanged s (issued z l c s)
unfolding issued open_rule begin_rule begin_of write_rule write_of read_rule read_of show_rule show_of commit_rule give_up_rule give_up_of post_rule post_of order_rule order_of close_rule close_of recorded own_read_of
refusal_unchanged z l Open s = λ n k. absurd (n refl)
refusal_unchanged z l Begin s = unchanged _ _ _ (inl refl)
refusal_unchanged z l (Write h c value) s = unchanged _ _ _ (inl refl)
refusal_unchanged z l (Read h c) s =
    unchanged _ _ _
    (settled_either (wrote (place_at s.books (place_of h)) c) (own_read_of z s (place_of h) c) (judged_read_of z s (place_of h) c) (inl refl) (settled_judged z s (place_of h) _))
refusal_unchanged z l (Show given h c) s = unchanged _ _ _ (inl refl)
refusal_unchanged z l (Commit h) s = unchanged _ _ _ (settled_judged z s (place_of h) _)
refusal_unchanged z l (GiveUp h) s = unchanged _ _ _ (inl refl)
refusal_unchanged z l (Post c value) s = unchanged _ _ _ (inl refl)
refusal_unchanged z l (Order h) s = unchanged _ _ _ (inl refl)
refusal_unchanged z l Close s = unchanged _ _ _ (inl refl)

-- a show that shows nothing changes nothing, and order and show only look
show_refused : (z : Size) (l : Lending) (given h c : ℕ) (s : State) → (issued z l (Show given h c) s).number ≢ granted → ChangesNothing s (issued z l (Show given h c) s)
unfolding issued show_rule show_of
show_refused z l given h c s n = other_number (show_reasons z (length s.table) (length s.drafts) s.books given h c) s _ n

looks : (z : Size) (l : Lending) (given h c : ℕ) (s : State) → Looks s (issued z l (Order h) s) × Looks s (issued z l (Show given h c) s)
unfolding issued order_rule order_of show_rule show_of
looks z l given h c s =
    (looks_either_way (order_reasons z l.buffer s.books h) s _ (refl, refl), looks_either_way (show_reasons z (length s.table) (length s.drafts) s.books given h c) s _ (refl, refl))

-- the machine after a call that changes nothing is the machine
machine_stays : (m : Machine) (o : Outcome) → ChangesNothing m.state o → after_call m o ≡ m
unfolding after_call moved_on
machine_stays m o h = ap₂ (moved_on m) h.state_stays h.nothing_added

pub refusals_change_nothing : RefusalsChangeNothing
refusals_change_nothing = record { every_call = refusal_unchanged; showing = show_refused; looking = looks; machine_stays = machine_stays }

-- a rule is a function: two results that meet it are equal
pub results_unique : ResultsUnique
results_unique z l c s one other p q = p ∙ sym q
