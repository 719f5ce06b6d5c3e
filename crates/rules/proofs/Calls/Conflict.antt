-- A judged call meets Conflict exactly if nothing refuses it and, with itself counted as granted, the pairs contain a cycle; no other call meets it.
-- Rests on the laws of reasons and of judging. Assumes nothing.
use mathlib.Core.Path.{◌≡◌, refl, ◌∙◌, sym, ap}
use mathlib.Core.Logic.{◌≢◌, ◌⊎◌, inl, inr, ⊎_elim}
use Prim.Native.Nat.{ℕ}
use mathlib.Core.Bool.{Bool, true}
use mathlib.Core.List.{List}
use Rattle.basics.proofs.Bools.{split, equal_or_not}
use Rattle.rules.specs.Sizes.{Size}
use Rattle.rules.specs.Handles.{place_of}
use Rattle.rules.specs.Judging.{has_cycle}
use Rattle.rules.specs.Numbers.{granted, conflict, Reason, first_reason}
use Rattle.rules.specs.State.{State, Outcome, refused, unless_refused, recorded}
use Rattle.rules.specs.Judged.{Judged, books_granted, granted_of, turned_back, meets_conflict, judged_of}
use Rattle.rules.specs.Steps.{open_rule, begin_of, write_of, own_read_of, show_of, give_up_of, post_of, order_of, close_of, read_rule, read_of, commit_rule}
use Rattle.rules.specs.Calls.{Call, Open, Begin, Write, Read, Show, Commit, GiveUp, Post, Order, Close, Lending, issued, reasons_of, owns, IsJudged, read_judged, commit_judged}
use Rattle.rules.specs.Statements.{TurnsBack, JudgedConflict, Conflicts}
use Rattle.rules.proofs.Calls.EachCall.{handed_on, never_nine, no_nine, EachOutcome, each_call}
use Rattle.rules.proofs.Judging.GivenOrders.{given_orders}
use Rattle.rules.proofs.Calls.Reasons.{refused_or_not}

-- ---- the judged calls

-- the rule of each, and that it hands on no number
pub judged_rule : (z : Size) (l : Lending) (s : State) {c : Call} {h : ℕ} {j : Judged} → IsJudged z (owns s.books) s c h j
    → issued z l c s ≡ unless_refused (reasons_of z l c s) s (judged_of z s (place_of h) j)
unfolding issued reasons_of read_rule read_of commit_rule
judged_rule z l s (read_judged h c other) = rw other refl
judged_rule z l s (commit_judged h) = refl

pub hands_nothing : {z : Size} {own : ℕ → ℕ → Bool} {s : State} {c : Call} {h : ℕ} {j : Judged} → IsJudged z own s c h j → handed_on c ≢ conflict
hands_nothing (read_judged h c other) = never_nine
hands_nothing (commit_judged h) = never_nine

-- what being turned back means
turned_back_turns : (s : State) (kind i c : ℕ) (o : Outcome) → o ≡ turned_back s kind i c → TurnsBack s kind i c o
unfolding turned_back recorded
turned_back_turns s kind i c o e =
    record {
      no_answer = ap (λ x. x.answer) e;
      no_order = ap (λ x. x.order) e;
      nothing_shown = ap (λ x. x.shown) e;
      place_freed = ap (λ x. x.after.books) e;
      table_stays = ap (λ x. x.after.table) e;
      drafts_stay = ap (λ x. x.after.drafts) e;
      one_record = ap (λ x. x.entry) e;
    }

module _ (z : Size) (s : State) (i : ℕ) (j : Judged) where
  -- the test of a cycle, with the call counted as granted
  abbrev cycle : Bool
  cycle = has_cycle z (books_granted s.books i j) i

  -- weighed, it meets Conflict only if the test finds a cycle
  weighed_conflict : (judged_of z s i j).number ≡ conflict → (cycle ≡ true) × (judged_of z s i j ≡ turned_back s j.back i j.cell)
  unfolding judged_of meets_conflict granted_of recorded
  weighed_conflict = split cycle (λ e. rw e (λ h. (refl, refl))) (λ e. rw e (λ h. absurd (never_nine h)))

  module _ (reasons : List Reason) (other : first_reason reasons ≢ conflict) where
    -- behind reasons that have not its number, only if nothing refuses it
    conflict_parts : (unless_refused reasons s (judged_of z s i j)).number ≡ conflict
        → (first_reason reasons ≡ granted) × (cycle ≡ true) × (unless_refused reasons s (judged_of z s i j) ≡ turned_back s j.back i j.cell)
    unfolding refused
    conflict_parts e =
        ⊎_elim
        (λ g.
        let w = weighed_conflict (sym (ap (λ (x : Outcome). x.number) g.1) ∙ e) in
        (g.0, w.0, g.1 ∙ w.1))
        (λ g. absurd (other (sym (ap (λ (x : Outcome). x.number) g.1) ∙ e))) (refused_or_not reasons s (judged_of z s i j))

    conflict_of : first_reason reasons ≡ granted → cycle ≡ true → (unless_refused reasons s (judged_of z s i j)).number ≡ conflict
    unfolding unless_refused judged_of meets_conflict turned_back recorded
    conflict_of g e = rw (g, e) refl

module _ (z : Size) (l : Lending) (s : State) (c : Call) (h : ℕ) (j : Judged) (judged : IsJudged z (owns s.books) s c h j) where
  rule_parts : (issued z l c s).number ≡ conflict
      → (first_reason (reasons_of z l c s) ≡ granted) × (cycle z s (place_of h) j ≡ true) × (issued z l c s ≡ turned_back s j.back (place_of h) j.cell)
  rule_parts =
      rw (judged_rule z l s judged) (conflict_parts z s (place_of h) j (reasons_of z l c s) (no_nine z l s c (hands_nothing judged)))

  judged_conflict : JudgedConflict z l s c h j
  judged_conflict =
      let told = (given_orders z (books_granted s.books (place_of h) j) (place_of h)).cycle_told in
      record {
        exactly = (
          λ e. let p = rule_parts e in (p.0, told.0 p.1),
          λ p. rw (judged_rule z l s judged)
              (conflict_of z s (place_of h) j (reasons_of z l c s) (no_nine z l s c (hands_nothing judged)) p.0 (told.1 p.1)),
        );
        turns_back = λ e. turned_back_turns s j.back (place_of h) j.cell (issued z l c s) (rule_parts e).2;
      }

-- ---- the other calls

-- a show that is given the number of Conflict is the one call that hands it on
abbrev Hands : Call → Type 0
Hands c = (h cell : ℕ) × (c ≡ Show conflict h cell)

hands : (c : Call) → handed_on c ≡ conflict → Hands c
hands Open e = absurd (never_nine e)
hands Begin e = absurd (never_nine e)
hands (Write h c value) e = absurd (never_nine e)
hands (Read h c) e = absurd (never_nine e)
hands (Show given h c) e = (h, c, ap (λ (n : ℕ). Show n h c) e)
hands (Commit h) e = absurd (never_nine e)
hands (GiveUp h) e = absurd (never_nine e)
hands (Post c value) e = absurd (never_nine e)
hands (Order h) e = absurd (never_nine e)
hands Close e = absurd (never_nine e)

module _ (z : Size) (l : Lending) (s : State) where
  -- a call that answers Conflict is judged, or is a show that hands the number on
  abbrev Judges : Call → Type 0
  Judges c = ((h : ℕ) × (j : Judged) × IsJudged z (owns s.books) s c h j) ⊎ Hands c

  no_other : EachOutcome z l s (λ c o. o.number ≡ conflict → Judges c)
  unfolding refused open_rule begin_of write_of own_read_of show_of give_up_of post_of order_of close_of recorded
  no_other =
      record {
        on_refused = λ c n k other e. equal_or_not (handed_on c) conflict (λ q. inr (hands c q)) (λ q. absurd (other q e));
        on_open = λ e. absurd (never_nine e);
        on_begin = λ asked e. absurd (never_nine e);
        on_write = λ h c value asked e. absurd (never_nine e);
        on_own_read = λ h c asked own e. absurd (never_nine e);
        on_judged = λ {c} {h} {j} judged asked free e. inl (h, j, judged);
        on_turned_back = λ {c} {h} {j} judged asked cycle e. inl (h, j, judged);
        on_show = λ given h c asked e. absurd (never_nine e);
        on_give_up = λ h asked e. absurd (never_nine e);
        on_post = λ c value asked e. absurd (never_nine e);
        on_order = λ h asked e. absurd (never_nine e);
        on_close = λ asked e. absurd (never_nine e);
      }

pub conflicts : Conflicts
conflicts = record { at_judged = judged_conflict; at_no_other = λ z l s c. each_call z l s _ (no_other z l s) c }
