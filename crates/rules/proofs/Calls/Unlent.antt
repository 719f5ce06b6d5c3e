-- What a call is not lent is of no concern to its rule, and stays. Rests on nothing but the rules. Assumes nothing.
use Prim.Native.Nat.{ℕ}
use mathlib.Core.Path.{◌≡◌, refl, sym}
use mathlib.Core.Bool.{Bool, true, false, false≢true}
use mathlib.Core.List.{List, []}
use lib.Dec.{eqb}
use Rattle.basics.proofs.Bools.{split}
use Rattle.rules.specs.Sizes.{Size}
use Rattle.rules.specs.Books.{place_at, wrote}
use Rattle.rules.specs.Handles.{place_of}
use Rattle.rules.specs.Numbers.{Reason, first_reason}
use Rattle.rules.specs.State.{State, Outcome, state_of, refused, unless_refused, recorded}
use Rattle.rules.specs.Judged.{Judged, granted_of, turned_back, judged_of}
use Rattle.rules.specs.Steps.{own_read_of, judged_read, judged_read_of, judged_commit, judged_commit_of, open_rule, begin_rule, write_rule, read_rule, show_rule, commit_rule, give_up_rule, post_rule, order_rule, close_rule, begin_of, write_of, read_of, show_of, give_up_of, post_of, order_of, close_of}
use Rattle.rules.specs.Calls.{Call, Open, Begin, Write, Read, Show, Commit, GiveUp, Post, Order, Close, Lending, issued}
use Rattle.rules.specs.Kept.{AsLent, NeitherLent, Unlent}
use Rattle.rules.proofs.Calls.EachCall.{refused_or, one_of}
use Rattle.rules.proofs.Calls.Reasons.{either_judged}

-- two outcomes whose parts are the same one by one
alike : {o narrow : Outcome} → o.number ≡ narrow.number → o.answer ≡ narrow.answer → o.order ≡ narrow.order
    → o.shown ≡ narrow.shown → o.after.books ≡ narrow.after.books → o.entry ≡ narrow.entry → AsLent o narrow
alike n a r h b e = record { number = n; answer = a; order = r; shown = h; books = b; entry = e }

module _ (reasons : List Reason) (s other : State) (o narrow : Outcome) where
  -- two rules with the same reasons agree if they do refused and granted
  rule_agrees : s.books ≡ other.books → AsLent o narrow → AsLent (unless_refused reasons s o) (unless_refused reasons other narrow)
  unfolding unless_refused refused
  rule_agrees b h = split (eqb (first_reason reasons) 0) (λ e. rw e h) (λ e. rw e (alike refl refl refl refl b refl))

  rule_same : (f : State → List ℕ) → f s ≡ f other → f o.after ≡ f narrow.after
      → f (unless_refused reasons s o).after ≡ f (unless_refused reasons other narrow).after
  unfolding unless_refused refused
  rule_same f b h = split (eqb (first_reason reasons) 0) (λ e. rw e h) (λ e. rw e b)

module _ (reasons : List Reason) (s : State) (o : Outcome) where
  -- what the granted outcome leaves, the rule leaves
  rule_leaves : (f : State → List ℕ) → f o.after ≡ f s → f (unless_refused reasons s o).after ≡ f s
  unfolding refused
  rule_leaves f h = refused_or (λ x. f x.after ≡ f s) reasons s o (λ n k. refl) (λ g. h)

  neither : (narrow : Outcome) → AsLent o narrow → o.after.table ≡ s.table → o.after.drafts ≡ s.drafts
      → NeitherLent s (unless_refused reasons s o) (unless_refused reasons (state_of s.books [] []) narrow)
  neither narrow h t d =
      record {
        agrees = rule_agrees reasons s (state_of s.books [] []) o narrow refl h;
        table = rule_leaves (λ x. x.table) t;
        drafts = rule_leaves (λ x. x.drafts) d;
      }

-- ---- each call

module _ (z : Size) (s : State) where
  -- a judged call leaves a buffer, if it would granted
  judged_leaves : (f : State → List ℕ) (i : ℕ) (j : Judged) → f (turned_back s j.back i j.cell).after ≡ f s → f (granted_of s i j).after ≡ f s
      → f (judged_of z s i j).after ≡ f s
  judged_leaves f i j = either_judged (λ o. f o.after ≡ f s) z s i j

  -- a read leaves both
  read_leaves : (f : State → List ℕ) (i c : ℕ) → f (own_read_of z s i c).after ≡ f s → f (judged_read_of z s i c).after ≡ f s
      → f (read_of z s i c).after ≡ f s
  unfolding read_of
  read_leaves f i c own judged = one_of (λ o. f o.after ≡ f s) (wrote (place_at s.books i) c) _ _ (λ e. own) (λ e. judged)

  table_after_read : (i c : ℕ) → (read_of z s i c).after.table ≡ s.table
  unfolding own_read_of turned_back granted_of recorded
  table_after_read i c = read_leaves (λ x. x.table) i c refl (judged_leaves (λ x. x.table) i (judged_read z s i c) refl refl)

  drafts_after_read : (i c : ℕ) → (read_of z s i c).after.drafts ≡ s.drafts
  unfolding own_read_of turned_back granted_of recorded
  drafts_after_read i c = read_leaves (λ x. x.drafts) i c refl (judged_leaves (λ x. x.drafts) i (judged_read z s i c) refl refl)

  -- a commit leaves the drafts
  drafts_after_commit : (i : ℕ) → (judged_commit_of z s i).after.drafts ≡ s.drafts
  unfolding turned_back granted_of recorded
  drafts_after_commit i = judged_leaves (λ x. x.drafts) i (judged_commit z s i) refl refl

pub unlent : Unlent
unfolding refused open_rule begin_rule begin_of write_rule write_of read_rule show_rule show_of commit_rule give_up_rule give_up_of post_rule post_of order_rule order_of close_rule close_of recorded
unlent =
    record {
      of_open = λ s. record { agrees = alike refl refl refl refl refl refl; table = refl; drafts = refl };
      of_begin = λ z log s. neither _ s _ _ (alike refl refl refl refl refl refl) refl refl;
      of_give_up = λ z log s h. neither _ s _ _ (alike refl refl refl refl refl refl) refl refl;
      of_order = λ z buffer s h. neither _ s _ _ (alike refl refl refl refl refl refl) refl refl;
      of_close = λ z log total s. neither _ s _ _ (alike refl refl refl refl refl refl) refl refl;
      of_write = λ z log s h c value. rule_agrees _ s (state_of s.books [] s.drafts) _ _ refl (alike refl refl refl refl refl refl);
      write_drafts = λ z log s h c value. rule_same _ s (state_of s.books [] s.drafts) _ _ (λ x. x.drafts) refl refl;
      write_table = λ z log s h c value. rule_leaves _ s _ (λ x. x.table) refl;
      of_post = λ z log s c value. rule_agrees _ s (state_of s.books s.table []) _ _ refl (alike refl refl refl refl refl refl);
      post_table = λ z log s c value. rule_same _ s (state_of s.books s.table []) _ _ (λ x. x.table) refl refl;
      post_drafts = λ z log s c value. rule_leaves _ s _ (λ x. x.drafts) refl;
      read_table = λ z log s h c. rule_leaves _ s _ (λ x. x.table) (table_after_read z s (place_of h) c);
      read_drafts = λ z log s h c. rule_leaves _ s _ (λ x. x.drafts) (drafts_after_read z s (place_of h) c);
      commit_drafts = λ z log s h. rule_leaves _ s _ (λ x. x.drafts) (drafts_after_commit z s (place_of h));
      show_all = λ z s given h c. refused_or (λ x. x.after ≡ s) _ s _ (λ n k. refl) (λ g. refl);
    }

-- ---- orders

-- order is the one call that gives an order
abbrev pub gives_order : Call → Bool
gives_order Open = false
gives_order Begin = false
gives_order (Write h c value) = false
gives_order (Read h c) = false
gives_order (Show given h c) = false
gives_order (Commit h) = false
gives_order (GiveUp h) = false
gives_order (Post c value) = false
gives_order (Order h) = true
gives_order Close = false

-- an outcome without an order
abbrev Orderless : Outcome → Type 0
Orderless o = o.order ≡ []

-- only order gives an order
pub orderless : (z : Size) (l : Lending) (c : Call) (s : State) → gives_order c ≡ false → (issued z l c s).order ≡ []
unfolding issued open_rule begin_rule begin_of write_rule write_of read_rule read_of own_read_of show_rule show_of commit_rule granted_of turned_back give_up_rule give_up_of post_rule post_of close_rule close_of recorded refused
orderless z l Open s e = refl
orderless z l Begin s e = refused_or Orderless _ s _ (λ n k. refl) (λ g. refl)
orderless z l (Write h c value) s e = refused_or Orderless _ s _ (λ n k. refl) (λ g. refl)
orderless z l (Read h c) s e =
    refused_or Orderless _ s _ (λ n k. refl) λ g.
    one_of Orderless (wrote (place_at s.books (place_of h)) c) _ _ (λ own. refl)
    (λ other. either_judged Orderless z s (place_of h) _ refl refl)
orderless z l (Show given h c) s e = refused_or Orderless _ s _ (λ n k. refl) (λ g. refl)
orderless z l (Commit h) s e =
    refused_or Orderless _ s _ (λ n k. refl) λ g.
    either_judged Orderless z s (place_of h) _ refl refl
orderless z l (GiveUp h) s e = refused_or Orderless _ s _ (λ n k. refl) (λ g. refl)
orderless z l (Post c value) s e = refused_or Orderless _ s _ (λ n k. refl) (λ g. refl)
orderless z l (Order h) s e = absurd (false≢true (sym e))
orderless z l Close s e = refused_or Orderless _ s _ (λ n k. refl) (λ g. refl)
