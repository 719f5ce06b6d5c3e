-- Walks and cycles in any relation.
use Rattle.std.specs.Prelude.{ℕ}

-- a walk of one step or more
pub data Walk (Step : ℕ → ℕ → Type 0) : ℕ → ℕ → Type 0 where
  last : {a b : ℕ} → Step a b → Walk Step a b
  then : {a b c : ℕ} → Step a b → Walk Step b c → Walk Step a c

-- a cycle: a walk from somebody back to the same one
abbrev pub Cycle : (ℕ → ℕ → Type 0) → Type 0
Cycle Step = (a : ℕ) × Walk Step a a
