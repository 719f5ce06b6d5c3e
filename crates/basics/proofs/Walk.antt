-- Walks and cycles: walks join and map, also to other names, a rank that grows rules cycles out, and marks that all have marked predecessors give a cycle.
-- Assumes nothing.
use mathlib.Core.Path.{◌≡◌, subst}
use mathlib.Core.Bool.{Bool, true, false}
use mathlib.Core.Logic.{◌⊎◌, inl, inr, ⊎_elim}
use Prim.Native.Nat.{ℕ, zero, suc, ◌<◌}
use native.Mathlib.Nat.{not-suc-le-zero}
use native.Mathlib.Omega.{arith}
use Rattle.basics.specs.Walk.{Walk, last, then, Cycle}
use Rattle.basics.proofs.Bools.{split, clash, below_more}

module _ {Step : ℕ → ℕ → Type 0} where
  -- two walks, one after the other
  pub join : {a b c : ℕ} → Walk Step a b → Walk Step b c → Walk Step a c
  join (last s) w = then s w
  join (then s v) w = then s (join v w)

  -- a walk's first and last steps
  pub first_step : {a b : ℕ} → Walk Step a b → (c : ℕ) × Step a c
  first_step (last {b = b} s) = (b, s)
  first_step (then {b = b} s w) = (b, s)

  pub last_step : {a b : ℕ} → Walk Step a b → (c : ℕ) × Step c b
  last_step (last {a = a} s) = (a, s)
  last_step (then s w) = last_step w

  -- a rank that grows at each step grows along a walk
  pub rank_grows : (rank : ℕ → ℕ) → ((a b : ℕ) → Step a b → rank a < rank b) → {a b : ℕ} → Walk Step a b → rank a < rank b
  rank_grows rank grows (last {a = a} {b = b} s) = grows a b s
  rank_grows rank grows (then {a = a} {b = b} s w) = let h = grows a b s in let k = rank_grows rank grows w in omega arith

  -- where a rank grows at each step there is no cycle
  pub ranked_no_cycle : (rank : ℕ → ℕ) → ((a b : ℕ) → Step a b → rank a < rank b) → ¬ Cycle Step
  ranked_no_cycle rank grows c = let h = rank_grows rank grows c.1 in omega arith

-- a walk is one among the names, if each step is
pub names_walk : {S R : ℕ → ℕ → Type 0} (name : ℕ → ℕ) → ((a b : ℕ) → S a b → R (name a) (name b)) → {a b : ℕ} → Walk S a b
    → Walk R (name a) (name b)
names_walk name f (last {a = a} {b = b} s) = last (f a b s)
names_walk name f (then {a = a} {b = b} s w) = then (f a b s) (names_walk name f w)

-- a walk among names is one among those who have them, if somebody has the name to which each step leads
module _ {S R : ℕ → ℕ → Type 0} (Has : ℕ → ℕ → Type 0) (somebody : (n o : ℕ) → R n o → (b : ℕ) × Has b o)
    (step : (n o a b : ℕ) → R n o → Has a n → Has b o → S a b) where
  pub named_walk : {n o a b : ℕ} → Walk R n o → Has a n → Has b o → Walk S a b
  named_walk {a = a} {b = b} (last {a = n} {b = o} s) h k = last (step n o a b s h k)
  named_walk {a = a} {b = b} (then {a = n} {b = o} s w) h k =
      let x = somebody n o s in
      then (step n o a x.0 s h x.1) (named_walk w x.1 k)

-- a cycle maps along a map of steps
pub map_cycle : {S R : ℕ → ℕ → Type 0} → ((a b : ℕ) → S a b → R a b) → Cycle S → Cycle R
map_cycle f c = (c.0, names_walk (λ k. k) f c.1)

-- where a step that another follows is a step of a second relation, a cycle of the first is one of the second
walk_followed : {S R : ℕ → ℕ → Type 0} → ((a b c : ℕ) → S a b → S b c → R a b) → {a b : ℕ} → Walk S a b → (c : ℕ) → S b c → Walk R a b
walk_followed f (last {a = a} {b = b} s) c next = last (f a b c s next)
walk_followed f (then {a = a} {b = b} s w) c next = let n = first_step w in then (f a b n.0 s n.1) (walk_followed f w c next)

pub cycle_followed : {S R : ℕ → ℕ → Type 0} → ((a b c : ℕ) → S a b → S b c → R a b) → Cycle S → Cycle R
cycle_followed f c = let n = first_step c.1 in (c.0, walk_followed f c.1 n.0 n.1)

module _ (marked : ℕ → Bool) (R : ℕ → ℕ → Type 0) where
  -- somebody marked below the limit who stands before m; everybody marked has one; somebody is marked
  abbrev pub MarkedBefore : ℕ → ℕ → Type 0
  MarkedBefore n m = (p : ℕ) × (p < n) × (marked p ≡ true) × R p m

  abbrev pub Stuck : ℕ → Type 0
  Stuck n = ((m : ℕ) → m < n → marked m ≡ true → MarkedBefore n m) × ((m : ℕ) × (m < n) × (marked m ≡ true))

  module _ (trans : (a b c : ℕ) → R a b → R b c → R a c) where
    -- the limit goes down by one, or the last one stands before itself
    narrow : (n : ℕ) → Stuck (suc n) → ((a : ℕ) × R a a) ⊎ Stuck n
    narrow n s = split (marked n) with_last (λ e. inr (without_last e))
      where
        -- one marked that is not the last is lower
        other : marked n ≡ false → {k : ℕ} → k < suc n → marked k ≡ true → k < n
        other e hk lk = below_more hk (λ q. q) (λ q. absurd (clash (subst (λ (j : ℕ). marked j ≡ true) q lk) e))

        without_last : marked n ≡ false → Stuck n
        without_last e = (
          (λ m h l. let p = s.0 m (omega arith) l in (p.0, other e p.1 p.2, p.2, p.3)),
          (s.1.0, other e s.1.1 s.1.2, s.1.2),
        )

        -- whoever had the last one before it has the last one's predecessor
        through : {q : ℕ} → q < n → marked q ≡ true → R q n → Stuck n
        through {q} hq lq r = (
          (λ m h l.
              let p = s.0 m (omega arith) l in
              below_more p.1 (λ hp. (p.0, hp, p.2, p.3)) (λ e. (q, hq, lq, trans q n m r (subst (λ (j : ℕ). R j m) e p.3)))),
          (q, hq, lq),
        )

        with_last : marked n ≡ true → ((a : ℕ) × R a a) ⊎ Stuck n
        with_last e =
            let p = s.0 n (omega arith) e in
            below_more p.1 (λ h. inr (through h p.2 p.3)) (λ q. inl (n, subst (λ (j : ℕ). R j n) q p.3))

    -- where each one marked has one marked before it, somebody stands before himself
    pub stuck_loop : (n : ℕ) → Stuck n → (a : ℕ) × R a a
    stuck_loop zero s = absurd (not-suc-le-zero s.1.1)
    stuck_loop (suc n) s = ⊎_elim (λ loop. loop) (stuck_loop n) (narrow n s)
