-- How the events of a history stand: which of two comes before the other, in the whole and in a sub-history, and that none comes twice; in a day, and
-- in any sub-history of one, the one with the lower number comes before. Assumes nothing.
use Prim.Native.Nat.{ℕ, ◌<◌}
use mathlib.Core.Path.{◌≡◌, refl, sym, ◌∙◌, ap, subst}
use mathlib.Core.Logic.Iff
use mathlib.Core.Logic.{◌↔◌, ◌⊎◌, inl, inr, ⊎_elim}
use mathlib.Core.Bool.{Bool, true}
use mathlib.Core.List.Memᴰ
use mathlib.Core.List.{List, [], ◌∷◌, ◌++◌, Memᴰ, head-eq_of_cons-eq, tail-eq_of_cons-eq}
use native.Mathlib.Omega.{arith}
use Rattle.basics.proofs.Bools.{split, clash}
use Rattle.rules.specs.declared.Record.{Record}
use Rattle.rules.specs.Day.{Event, event, events}
use Rattle.rules.specs.History.{Before, subhist}
use Rattle.rules.proofs.Day.Events.{number_bounds}
use Rattle.rules.proofs.History.HistoryParts.{sub_passes, sub_fails, sub_nothing, subhist_says}

-- ---- the newest event and those before it

module _ (x : Event) (t : List Event) where
  -- one event comes before another if the other is the newest, or among those before the newest
  pub before_newest : {e f : Event} → Memᴰ e t → f ≡ x → Before (x ∷ t) e f
  before_newest m q = record { newer = x ∷ []; older = t; split = refl; first = m; second = Memᴰ.head q }

  before_more : {e f : Event} → Before t e f → Before (x ∷ t) e f
  before_more b =
      record { newer = x ∷ b.newer; older = b.older; split = ap (λ (ys : List Event). x ∷ ys) b.split; first = b.first; second = Memᴰ.tail b.second }

  before_parts : {e f : Event} (newer older : List Event) → x ∷ t ≡ newer ++ older → Memᴰ e older → Memᴰ f newer
      → ((f ≡ x) × Memᴰ e t) ⊎ Before t e f
  before_parts [] older q m n = absurd (Memᴰ.not-nil n)
  before_parts {e} (y ∷ newer) older q m n =
      let rest = tail-eq_of_cons-eq q in
      ⊎_elim (λ p. inl (p ∙ sym (head-eq_of_cons-eq q), subst (Memᴰ e) (sym rest) (Memᴰ.append_right newer m)))
      (λ k. inr (record { newer = newer; older = older; split = rest; first = m; second = k })) (Memᴰ.cases_cons n)

  pub before_cases : {e f : Event} → Before (x ∷ t) e f → ((f ≡ x) × Memᴰ e t) ⊎ Before t e f
  before_cases b = before_parts b.newer b.older b.split b.first b.second

-- both are events
before_events : (h : List Event) {e f : Event} → Before h e f → Memᴰ e h × Memᴰ f h
before_events h {e} {f} b = (
  subst (Memᴰ e) (sym b.split) (Memᴰ.append_right b.newer b.first),
  subst (Memᴰ f) (sym b.split) (Memᴰ.append_left b.older b.second),
)

-- ---- histories where no event comes twice

-- none comes before itself
abbrev pub Single : List Event → Type 0
Single h = (e : Event) → Before h e e → ⊥

-- so with those before the newest
pub single_tail : (x : Event) (t : List Event) → Single (x ∷ t) → Single t
single_tail x t s e b = s e (before_more x t b)

-- the newest is not among them
pub single_head : (x : Event) (t : List Event) → Single (x ∷ t) → {y : Event} → y ≡ x → Memᴰ y t → ⊥
single_head x t s q m = s x (before_newest x t (Memᴰ.cast (sym q) m) refl)

-- of two, one comes before the other one way only
pub single_before : (h : List Event) → Single h → (e f : Event) → Before h e f → Before h f e → ⊥
single_before [] s e f b c = Memᴰ.not-nil (before_events [] b).0
single_before (x ∷ t) s e f b c =
    ⊎_elim
    (λ p. ⊎_elim (λ q. out p.0 q.1) (λ d. out p.0 (before_events t d).0) (before_cases x t c))
    (λ d. ⊎_elim (λ q. out q.0 (before_events t d).0) (single_before t (single_tail x t s) e f d) (before_cases x t c))
    (before_cases x t b)
  where
    out : {y : Event} → y ≡ x → Memᴰ y t → ⊥
    out = single_head x t s

-- ---- sub-histories

-- two events of a sub-history stand in it as in the whole
module _ (among : ℕ → Bool) (e f : Event) where
  pub before_whole : (h : List Event) → Before (subhist among h) e f → Before h e f
  before_whole [] b = subst (λ (ys : List Event). Before ys e f) (sub_nothing among) b
  before_whole (x ∷ t) b =
      split (among x.who)
      (λ a.
      ⊎_elim (λ p. before_newest x t ((subhist_says among t).0 p.1).0 p.0) (λ c. before_more x t (before_whole t c))
      (before_cases x (subhist among t) (subst (λ (ys : List Event). Before ys e f) (sub_passes among x t a) b)))
      (λ a. before_more x t (before_whole t (subst (λ (ys : List Event). Before ys e f) (sub_fails among x t a) b)))

  pub before_part : among e.who ≡ true → among f.who ≡ true → (h : List Event) → Before h e f → Before (subhist among h) e f
  before_part y z [] b = absurd (Memᴰ.not-nil (before_events [] b).0)
  before_part y z (x ∷ t) b =
      split (among x.who)
      (λ a.
      rw (sub_passes among x t a)
      (⊎_elim (λ p. before_newest x (subhist among t) ((subhist_says among t).1 (p.1, y)) p.0) (λ c. before_more x (subhist among t) (before_part y z t c))
      (before_cases x t b)))
      (λ a.
      rw (sub_fails among x t a)
      (⊎_elim (λ p. absurd (clash (sym (ap (λ (g : Event). among g.who) p.0) ∙ z) a)) (before_part y z t) (before_cases x t b)))

pub before_subhist : (among : ℕ → Bool) (h : List Event) (e f : Event) → Memᴰ e (subhist among h) → Memᴰ f (subhist among h)
    → Before (subhist among h) e f ↔ Before h e f
before_subhist among h e f m n = (before_whole among e f h, before_part among e f ((subhist_says among h).0 m).1 ((subhist_says among h).0 n).1 h)

-- no event comes twice in it, if none does in the whole
pub single_subhist : (among : ℕ → Bool) (h : List Event) → Single h → Single (subhist among h)
single_subhist among h s e b = s e (before_whole among e e h b)

-- ---- days

-- an event that comes before another has a lower number
abbrev Falling : List Event → Type 0
Falling h = (e f : Event) → Before h e f → e.number < f.number

falling_events : (day : List Record) → Falling (events day)
unfolding events event
falling_events [] e f b = absurd (Memᴰ.not-nil (before_events [] b).0)
falling_events (r ∷ earlier) e f b =
    ⊎_elim (λ p. omega (arith, number_bounds earlier p.1, ap (λ x. x.number) p.0)) (falling_events earlier e f) (before_cases (event earlier r) (events earlier) b)

-- of two events of such a history the one with the lower number comes before
before_lower : (h : List Event) → Falling h → (e f : Event) → Memᴰ e h → Memᴰ f h → e.number < f.number → Before h e f
before_lower [] known e f i j l = absurd (Memᴰ.not-nil i)
before_lower (x ∷ h) known e f i j l =
    ⊎_elim
    (λ a. absurd (newest a))
    (λ a. ⊎_elim (before_newest x h a) (λ b. before_more x h (before_lower h (λ d g c. known d g (before_more x h c)) e f a b l)) (Memᴰ.cases_cons j))
    (Memᴰ.cases_cons i)
  where
    newest : e ≡ x → ⊥
    newest a =
        let n = ap (λ y. y.number) a in
        ⊎_elim (λ b. let o = ap (λ y. y.number) b in omega arith) (λ b. omega (arith, known f x (before_newest x h b refl))) (Memᴰ.cases_cons j)

-- no event of a day comes twice
pub events_single : (day : List Record) → Single (events day)
events_single day e b = omega (arith, falling_events day e e b)

-- in a sub-history of a day one event comes before another exactly if its number is lower
pub before_in : (among : ℕ → Bool) (day : List Record) (e f : Event) → Memᴰ e (subhist among (events day)) → Memᴰ f (subhist among (events day))
    → Before (subhist among (events day)) e f ↔ (e.number < f.number)
before_in among day e f i j =
    let es = events day in
    let known = falling_events day in
    Iff.trans (before_subhist among es e f i j) (known e f, before_lower es known e f ((subhist_says among es).0 i).0 ((subhist_says among es).0 j).0)
