-- The outcome of every call by cases: refused, granted with all that was asked for, or turned back. Rests on what is asked of each call.
-- Assumes nothing.
use Prim.Native.Nat.{ℕ}
use mathlib.Core.Path.{◌≡◌, refl, sym, subst}
use mathlib.Core.Logic.{◌≢◌, ⊎_elim}
use mathlib.Core.Bool.{Bool, true, false, not, cond}
use mathlib.Core.List.{List}
use lib.ListN.{length}
use lib.Dec.{eqb}
use native.Mathlib.Omega.{arith}
use borrow.Author.Tests.{eqb-false, ne_eqb, not-true}
use Rattle.basics.specs.Lists.{all_in}
use Rattle.rules.specs.Sizes.{Size}
use Rattle.rules.specs.Handles.{place_of}
use Rattle.rules.specs.Judging.{has_cycle}
use Rattle.rules.specs.Numbers.{granted, conflict, Reason, first_reason}
use Rattle.rules.specs.State.{State, Outcome, refused, unless_refused}
use Rattle.rules.specs.Judged.{Judged, books_granted, granted_of, turned_back, meets_conflict, judged_of}
use Rattle.rules.specs.Steps.{soundness_reason, handle_reasons, cell_reason, handle_cell_reasons, room_reason, begin_reasons, write_reasons, read_reasons, show_reasons, commit_reasons, give_up_reasons, post_reasons, order_reasons, close_reasons, own_read_of, open_rule, begin_rule, write_rule, read_rule, show_rule, commit_rule, give_up_rule, post_rule, order_rule, close_rule, begin_of, write_of, read_of, show_of, give_up_of, post_of, order_of, close_of}
use Rattle.rules.specs.Calls.{Call, Open, Begin, Write, Read, Show, Commit, GiveUp, Post, Order, Close, Lending, issued, reasons_of, owns, IsJudged, read_judged, commit_judged}
use Rattle.rules.specs.Kept.{BeginAsked, WriteAsked, ReadAsked, ShowAsked, CommitAsked, GiveUpAsked, PostAsked, OrderAsked, CloseAsked}
use Rattle.rules.proofs.Calls.Asked.{begin_asked, write_asked, read_asked, show_asked, commit_asked, give_up_asked, post_asked, order_asked, close_asked}
use Rattle.rules.proofs.Calls.Reasons.{first_among, refused_or_not}

-- ---- what a call hands on

-- the number that a call hands on: a show that of its read
abbrev pub handed_on : Call → ℕ
handed_on Open = granted
handed_on Begin = granted
handed_on (Write h c value) = granted
handed_on (Read h c) = granted
handed_on (Show given h c) = given
handed_on (Commit h) = granted
handed_on (GiveUp h) = granted
handed_on (Post c value) = granted
handed_on (Order h) = granted
handed_on Close = granted

-- ---- one rule

-- 0 is not 9
pub never_nine : granted ≢ conflict
never_nine e = omega arith

-- no reason to refuse a call has the number of Conflict, but that which a show hands on
none_nine : (z : Size) (l : Lending) (s : State) (c : Call) → handed_on c ≢ conflict → all_in (λ r. not (eqb r.number conflict)) (reasons_of z l c s) ≡ true
unfolding reasons_of all_in begin_reasons write_reasons read_reasons show_reasons commit_reasons give_up_reasons post_reasons order_reasons close_reasons handle_cell_reasons soundness_reason handle_reasons cell_reason room_reason
none_nine z l s Open k = refl
none_nine z l s Begin k = refl
none_nine z l s (Write h c value) k = refl
none_nine z l s (Read h c) k = refl
none_nine z l s (Show given h c) k = rw (ne_eqb given conflict k) refl
none_nine z l s (Commit h) k = refl
none_nine z l s (GiveUp h) k = refl
none_nine z l s (Post c value) k = refl
none_nine z l s (Order h) k = refl
none_nine z l s Close k = refl

pub no_nine : (z : Size) (l : Lending) (s : State) (c : Call) → handed_on c ≢ conflict → first_reason (reasons_of z l c s) ≢ conflict
no_nine z l s c k = eqb-false _ conflict (not-true _ (first_among (λ n. not (eqb n conflict)) (reasons_of z l c s) refl (none_nine z l s c k)))

-- what holds of a refusal, and of the outcome where no reason applies, holds of the rule
pub refused_or : (P : Outcome → Type 0) (reasons : List Reason) (s : State) (o : Outcome) → ((n : ℕ) → n ≢ granted → P (refused n s))
    → (first_reason reasons ≡ granted → P o) → P (unless_refused reasons s o)
refused_or P reasons s o back on =
    ⊎_elim (λ g. subst P (sym g.1) (on g.0)) (λ g. subst P (sym g.1) (back (first_reason reasons) g.0)) (refused_or_not reasons s o)

-- of one of two outcomes, what holds of both
pub one_of : (P : Outcome → Type 0) (t : Bool) (one other : Outcome) → (t ≡ true → P one) → (t ≡ false → P other) → P (cond t one other)
one_of P true one other h k = h refl
one_of P false one other h k = k refl

-- ---- what is asked

-- of each call
abbrev pub AskedOf : Size → Lending → State → Call → Type 0
AskedOf z l s Open = Unit
AskedOf z l s Begin = BeginAsked z l.log s.books
AskedOf z l s (Write h c value) = WriteAsked z (length value) (length s.drafts) l.log s.books h c
AskedOf z l s (Read h c) = ReadAsked z (length s.table) (length s.drafts) l.log s.books h c
AskedOf z l s (Show given h c) = ShowAsked z (length s.table) (length s.drafts) s.books given h c
AskedOf z l s (Commit h) = CommitAsked z (length s.table) (length s.drafts) l.log s.books h
AskedOf z l s (GiveUp h) = GiveUpAsked z l.log s.books h
AskedOf z l s (Post c value) = PostAsked z (length value) (length s.table) l.log s.books c
AskedOf z l s (Order h) = OrderAsked z l.buffer s.books h
AskedOf z l s Close = CloseAsked z l.log s.books

-- it is known where no reason applies
pub asked_of : (z : Size) (l : Lending) (s : State) (c : Call) → first_reason (reasons_of z l c s) ≡ granted → AskedOf z l s c
unfolding reasons_of
asked_of z l s Open = λ g. tt
asked_of z l s Begin = begin_asked z l.log s.books
asked_of z l s (Write h c value) = write_asked z (length value) (length s.drafts) l.log s.books h c
asked_of z l s (Read h c) = read_asked z (length s.table) (length s.drafts) l.log s.books h c
asked_of z l s (Show given h c) = show_asked z (length s.table) (length s.drafts) s.books given h c
asked_of z l s (Commit h) = commit_asked z (length s.table) (length s.drafts) l.log s.books h
asked_of z l s (GiveUp h) = give_up_asked z l.log s.books h
asked_of z l s (Post c value) = post_asked z (length value) (length s.table) l.log s.books c
asked_of z l s (Order h) = order_asked z l.buffer s.books h
asked_of z l s Close = close_asked z l.log s.books

-- ---- every call

-- what is to be shown of each outcome, to show it of every call
pub record EachOutcome (z : Size) (l : Lending) (s : State) (P : Call → Outcome → Type 0) : Type 0 where
  pub on_refused : (c : Call) (n : ℕ) → n ≢ granted → (handed_on c ≢ conflict → n ≢ conflict) → P c (refused n s)
  pub on_open : P Open (open_rule s)
  pub on_begin : AskedOf z l s Begin → P Begin (begin_of z s)
  pub on_write : (h c : ℕ) (value : List ℕ) → AskedOf z l s (Write h c value) → P (Write h c value) (write_of z s (place_of h) c value)
  pub on_own_read : (h c : ℕ) → AskedOf z l s (Read h c) → owns s.books h c ≡ true → P (Read h c) (own_read_of z s (place_of h) c)
  -- a judged call: granted, or turned back
  pub on_judged : {c : Call} {h : ℕ} {j : Judged} → IsJudged z (owns s.books) s c h j → AskedOf z l s c
      → has_cycle z (books_granted s.books (place_of h) j) (place_of h) ≡ false → P c (granted_of s (place_of h) j)
  pub on_turned_back : {c : Call} {h : ℕ} {j : Judged} → IsJudged z (owns s.books) s c h j → AskedOf z l s c
      → has_cycle z (books_granted s.books (place_of h) j) (place_of h) ≡ true → P c (turned_back s j.back (place_of h) j.cell)
  pub on_show : (given h c : ℕ) → AskedOf z l s (Show given h c) → P (Show given h c) (show_of z s (place_of h) c)
  pub on_give_up : (h : ℕ) → AskedOf z l s (GiveUp h) → P (GiveUp h) (give_up_of z s (place_of h))
  pub on_post : (c : ℕ) (value : List ℕ) → AskedOf z l s (Post c value) → P (Post c value) (post_of z s c value)
  pub on_order : (h : ℕ) → AskedOf z l s (Order h) → P (Order h) (order_of z s (place_of h))
  pub on_close : AskedOf z l s Close → P Close (close_of z l.total s)

module _ (z : Size) (l : Lending) (s : State) (P : Call → Outcome → Type 0) (each : EachOutcome z l s P) where
  -- refused, or the outcome
  ruled : (c : Call) (o : Outcome) → (AskedOf z l s c → P c o) → P c (unless_refused (reasons_of z l c s) s o)
  ruled c o on =
      let reasons = reasons_of z l c s in
      ⊎_elim (λ g. subst (P c) (sym g.1) (on (asked_of z l s c g.0)))
      (λ g. subst (P c) (sym g.1) (each.on_refused c (first_reason reasons) g.0 (no_nine z l s c))) (refused_or_not reasons s o)

  -- a judged call, weighed
  weighed : {c : Call} {h : ℕ} {j : Judged} → IsJudged z (owns s.books) s c h j → AskedOf z l s c → P c (judged_of z s (place_of h) j)
  unfolding judged_of meets_conflict
  weighed {c} {h} {j} judged asked =
      one_of (P c) (has_cycle z (books_granted s.books (place_of h) j) (place_of h)) _ _ (each.on_turned_back judged asked) (each.on_judged judged asked)

  read_cases : (h c : ℕ) → AskedOf z l s (Read h c) → P (Read h c) (read_of z s (place_of h) c)
  unfolding read_of
  read_cases h c asked =
      one_of (P (Read h c)) (owns s.books h c) _ _ (each.on_own_read h c asked) (λ other. weighed (read_judged h c other) asked)

  pub each_call : (c : Call) → P c (issued z l c s)
  unfolding issued reasons_of begin_rule write_rule read_rule show_rule commit_rule give_up_rule post_rule order_rule close_rule
  each_call Open = each.on_open
  each_call Begin = ruled Begin _ each.on_begin
  each_call (Write h c value) = ruled (Write h c value) _ (each.on_write h c value)
  each_call (Read h c) = ruled (Read h c) _ (read_cases h c)
  each_call (Show given h c) = ruled (Show given h c) _ (each.on_show given h c)
  each_call (Commit h) = ruled (Commit h) _ (weighed (commit_judged h))
  each_call (GiveUp h) = ruled (GiveUp h) _ (each.on_give_up h)
  each_call (Post c value) = ruled (Post c value) _ (each.on_post c value)
  each_call (Order h) = ruled (Order h) _ (each.on_order h)
  each_call Close = ruled Close _ each.on_close
