-- Parts of a history: whose events a sub-history has, what is stated of each of them, one transaction's events, and transactions one after the other
-- in a sub-history. Assumes nothing.
use Prim.Native.Nat.{ℕ}
use mathlib.Core.Path.{◌≡◌, refl, sym, ◌∙◌, ap, ap₂, subst}
use mathlib.Core.Logic.{◌↔◌, ⊎_elim}
use mathlib.Core.Bool.{Bool, true, false}
use mathlib.Core.List.Memᴰ
use mathlib.Core.List.{List, [], ◌∷◌, ◌++◌, Memᴰ}
use lib.Dec.{eqb}
use borrow.Author.Tests.{eqb-true, eq-eqb, ne_eqb}
use Rattle.basics.specs.Lists.{member}
use Rattle.basics.proofs.Bools.{split, clash}
use Rattle.basics.proofs.Each.{each_none, each_cons}
use Rattle.basics.proofs.Lists.{member_head, member_tail}
use Rattle.rules.specs.Day.{Event}
use Rattle.rules.specs.History.{EachEvent, Txn, subhist, only, in_turn}

-- ---- sub-histories

module _ (among : ℕ → Bool) where
  -- the newest event is in a sub-history exactly if its transaction is
  pub sub_passes : (x : Event) (t : List Event) → among x.who ≡ true → subhist among (x ∷ t) ≡ x ∷ subhist among t
  unfolding subhist
  sub_passes x t y = rw y

  pub sub_fails : (x : Event) (t : List Event) → among x.who ≡ false → subhist among (x ∷ t) ≡ subhist among t
  unfolding subhist
  sub_fails x t n = rw n

  pub sub_nothing : subhist among [] ≡ []
  unfolding subhist
  sub_nothing = refl

  -- a sub-history of two parts
  sub_append : (newer older : List Event) → subhist among (newer ++ older) ≡ subhist among newer ++ subhist among older
  sub_append [] older = rw sub_nothing
  sub_append (x ∷ newer) older =
      split (among x.who) (λ y. rw (sub_passes x (newer ++ older) y, sub_passes x newer y, sub_append newer older))
      (λ n. rw (sub_fails x (newer ++ older) n, sub_fails x newer n, sub_append newer older))

  -- its events are those of its transactions
  in_sub : (h : List Event) {e : Event} → Memᴰ e h → among e.who ≡ true → Memᴰ e (subhist among h)
  in_sub [] m y = absurd (Memᴰ.not-nil m)
  in_sub (x ∷ t) {e} m y =
      split (among x.who)
      (λ a. rw (sub_passes x t a) (⊎_elim Memᴰ.head (λ n. Memᴰ.tail (in_sub t n y)) (Memᴰ.cases_cons m)))
      (λ a. rw (sub_fails x t a) (⊎_elim (λ q. absurd (clash (sym (ap (λ (f : Event). among f.who) q) ∙ y) a)) (λ n. in_sub t n y) (Memᴰ.cases_cons m)))

  of_sub : (h : List Event) {e : Event} → Memᴰ e (subhist among h) → Memᴰ e h × (among e.who ≡ true)
  of_sub [] {e} m = absurd (Memᴰ.not-nil (subst (Memᴰ e) sub_nothing m))
  of_sub (x ∷ t) {e} m =
      split (among x.who)
      (λ a.
      ⊎_elim (λ q. (Memᴰ.head q, ap (λ (f : Event). among f.who) q ∙ a)) (λ n. let r = of_sub t n in (Memᴰ.tail r.0, r.1))
      (Memᴰ.cases_cons (subst (Memᴰ e) (sub_passes x t a) m)))
      (λ a. let r = of_sub t (subst (Memᴰ e) (sub_fails x t a) m) in (Memᴰ.tail r.0, r.1))

  pub subhist_says : (h : List Event) {e : Event} → Memᴰ e (subhist among h) ↔ (Memᴰ e h × (among e.who ≡ true))
  subhist_says h = (of_sub h, λ p. in_sub h p.0 p.1)

  -- all of a history, or nothing of it
  pub sub_all : (h : List Event) → ((e : Event) → Memᴰ e h → among e.who ≡ true) → subhist among h ≡ h
  sub_all [] f = sub_nothing
  sub_all (x ∷ t) f =
      sub_passes x t (f x (Memᴰ.head refl)) ∙ ap (λ (ys : List Event). x ∷ ys) (sub_all t (λ e m. f e (Memᴰ.tail m)))

  pub sub_none : (h : List Event) → ((e : Event) → Memᴰ e h → among e.who ≡ false) → subhist among h ≡ []
  sub_none [] f = sub_nothing
  sub_none (x ∷ t) f = sub_fails x t (f x (Memᴰ.head refl)) ∙ sub_none t (λ e m. f e (Memᴰ.tail m))

  -- a statement of each of its events
  pub each_subhist : (P : List Event → Event → Type 0) (h : List Event)
      → EachEvent P (subhist among h) ↔ EachEvent (λ earlier e. among e.who ≡ true → P (subhist among earlier) e) h
  unfolding subhist
  each_subhist P [] = (λ f. each_none (λ earlier e. among e.who ≡ true → P (subhist among earlier) e), λ f. each_none P)
  each_subhist P (x ∷ h) =
      let rest = each_subhist P h in
      let whole = each_cons (λ earlier e. among e.who ≡ true → P (subhist among earlier) e) x h in
      split (among x.who)
      (λ t.
      let first = each_cons P x (subhist among h) in
      rw t (λ f. let s = first.0 f in whole.1 (λ i. s.0, rest.0 s.1), λ f. let s = whole.0 f in first.1 (s.0 t, rest.1 s.1)))
      (λ o. rw o (λ f. whole.1 (λ i. absurd (clash i o), rest.0 f), λ f. rest.1 (whole.0 f).1))

-- a sub-history of a sub-history that has all of its transactions
sub_within : (a b : ℕ → Bool) → ((k : ℕ) → a k ≡ true → b k ≡ true) → (s : List Event) → subhist a (subhist b s) ≡ subhist a s
sub_within a b wider [] = ap (subhist a) (sub_nothing b)
sub_within a b wider (x ∷ t) =
    let rest = sub_within a b wider t in
    split (a x.who)
    (λ y. rw (sub_passes b x t (wider x.who y), sub_passes a x (subhist b t) y, sub_passes a x t y, rest))
    (λ n.
    split (b x.who) (λ y. rw (sub_passes b x t y, sub_fails a x (subhist b t) n, sub_fails a x t n) rest)
    (λ m. rw (sub_fails b x t m, sub_fails a x t n) rest))

-- ---- one transaction

module _ (k : ℕ) where
  -- the newest event is its own exactly if it is of that transaction
  pub only_own : (e : Event) (h : List Event) → e.who ≡ k → only k (e ∷ h) ≡ e ∷ only k h
  unfolding only
  only_own e h q = sub_passes (λ m. eqb m k) e h (eq-eqb e.who k q)

  pub only_other : (e : Event) (h : List Event) → (e.who ≡ k → ⊥) → only k (e ∷ h) ≡ only k h
  unfolding only
  only_other e h other = sub_fails (λ m. eqb m k) e h (ne_eqb e.who k other)

  -- its events are those of that transaction
  pub only_of : (h : List Event) {e : Event} → Memᴰ e (only k h) ↔ (Memᴰ e h × (e.who ≡ k))
  unfolding only
  only_of h {e} =
      let both = subhist_says (λ m. eqb m k) h in
      (λ m. let p = both.0 m in (p.0, eqb-true e.who k p.1), λ p. both.1 (p.0, eq-eqb e.who k p.1))

  -- in two parts, and of one who has none
  pub only_append : (newer older : List Event) → only k (newer ++ older) ≡ only k newer ++ only k older
  unfolding only
  only_append newer older = sub_append (λ m. eqb m k) newer older

  pub only_nobody : (h : List Event) → (Txn h k → ⊥) → only k h ≡ []
  unfolding only
  only_nobody h none = sub_none (λ m. eqb m k) h (λ e m. ne_eqb e.who k (λ q. none (e, (m, q))))

  -- in a sub-history that has it, they are all there
  pub only_within : (among : ℕ → Bool) (h : List Event) → among k ≡ true → only k (subhist among h) ≡ only k h
  unfolding only
  only_within among h a = sub_within (λ m. eqb m k) among (λ m y. ap among (eqb-true m k y) ∙ a) h

-- ---- one after the other

-- histories with the same events of each who is listed are one after the other the same
pub turn_agrees : (s h : List Event) (order : List ℕ) → ((k : ℕ) → member k order ≡ true → only k s ≡ only k h) → in_turn s order ≡ in_turn h order
unfolding in_turn
turn_agrees s h [] same = refl
turn_agrees s h (k ∷ later) same =
    ap₂ (λ (xs ys : List Event). xs ++ ys) (turn_agrees s h later (λ m i. same m (member_tail m k later i))) (same k (member_head k k later refl))

-- so are a history and a sub-history that has all who are listed
pub in_turn_within : (among : ℕ → Bool) (h : List Event) (order : List ℕ) → ((k : ℕ) → member k order ≡ true → among k ≡ true)
    → in_turn (subhist among h) order ≡ in_turn h order
in_turn_within among h order a = turn_agrees (subhist among h) h order (λ k i. only_within k among h (a k i))
