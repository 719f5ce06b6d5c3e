-- A list taken apart at a place, with a relation of which the list keeps every pair: how it stands before the first and past one more. Assumes
-- nothing.
use Prim.Native.Nat.{ℕ}
use mathlib.Core.Path.{◌≡◌, refl, ◌∙◌, ap, subst}
use mathlib.Core.Logic.{◌↔◌, ◌⊎◌, inl, inr, ⊎_elim}
use mathlib.Core.Bool.{Bool, true, false}
use mathlib.Core.List.{List, [], ◌∷◌}
use Rattle.basics.specs.Lists.{member, distinct, keeps}
use Rattle.basics.proofs.Bools.{clash}
use Rattle.basics.proofs.Lists.{member_nil, member_head, member_tail, member_cases, keeps_nil, keeps_cons, keeps_head, keeps_tail, distinct_head, distinct_tail}

-- a list taken apart at a place: those listed before it, the last listed first, and those from there on; nobody stands before one listed earlier
pub record Parted (stands : ℕ → ℕ → Bool) (order before later : List ℕ) : Type 0 where
  pub before_kept : keeps (λ j k. stands k j) before ≡ true
  pub later_kept : keeps stands later ≡ true
  pub later_once : distinct later ≡ true
  pub across : (k m : ℕ) → member k before ≡ true → member m later ≡ true → (stands m k ≡ false) × (m ≡ k → ⊥)
  pub listed : (k : ℕ) → (member k order ≡ true) ↔ ((member k before ≡ true) ⊎ (member k later ≡ true))

module _ (stands : ℕ → ℕ → Bool) (order : List ℕ) where
  -- all is still to come, and one more is listed
  pub parted_first : distinct order ≡ true → keeps stands order ≡ true → Parted stands order [] order
  parted_first d h =
      record {
        before_kept = keeps_nil (λ j k. stands k j);
        later_kept = h;
        later_once = d;
        across = λ k m i. absurd (clash i (member_nil k));
        listed = λ k. (inr, ⊎_elim (λ i. absurd (clash i (member_nil k))) (λ i. i));
      }

  pub parted_next : (before : List ℕ) (m : ℕ) (later : List ℕ) → Parted stands order before (m ∷ later) → Parted stands order (m ∷ before) later
  parted_next before m later p =
      record {
        before_kept = keeps_cons (λ j k. stands k j) m before (λ k i. (p.across k m i (member_head m m later refl)).0) p.before_kept;
        later_kept = keeps_tail stands m later p.later_kept;
        later_once = distinct_tail m later p.later_once;
        across = λ k n i j. ⊎_elim
            (λ q. (
              ap (stands n) q ∙ keeps_head stands m later p.later_kept n j,
              λ o. clash (subst (λ (x : ℕ). member x later ≡ true) (o ∙ q) j) (distinct_head m later p.later_once),
            ))
            (λ b. p.across k n b (member_tail n m later j)) (member_cases k m before i);
        listed = λ k. (
          λ i.
              ⊎_elim (λ b. inl (member_tail k m before b)) (λ l. ⊎_elim (λ q. inl (member_head k m before q)) inr (member_cases k m later l))
              ((p.listed k).0 i),
          λ i. (p.listed k).1 (
              ⊎_elim (λ b. ⊎_elim (λ q. inr (member_head k m later q)) inl (member_cases k m before b)) (λ l. inr (member_tail k m later l)) i
              ),
        );
      }
