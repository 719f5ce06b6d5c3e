-- Everybody who committed is held: so it is before the first record, and with one record more if who was held still is and who commits with the
-- record is held; and then each of them has a place. These laws are all that is used of it. Assumes nothing.
use Prim.Native.Nat.{ℕ, ◌<◌}
use mathlib.Core.Path.{◌≡◌, subst}
use mathlib.Core.Logic.{⊎_elim}
use mathlib.Core.Bool.{true, false≢true}
use mathlib.Core.List.{List, [], ◌∷◌}
use Rattle.basics.specs.Lists.{any_in}
use Rattle.basics.proofs.Bools.{or_right}
use Rattle.rules.specs.declared.Record.{Record}
use Rattle.rules.specs.Sizes.{Size}
use Rattle.rules.specs.Books.{Books, place_at, is_live, is_committed, is_held}
use Rattle.rules.specs.Kinds.{kind_commits}
use Rattle.rules.specs.Day.{whose, events, committed}
use Rattle.rules.proofs.Mirror.Mirrors.{HeldCommitted, CommittedAreHeld}
use Rattle.rules.proofs.Day.Commits.{committed_cases}

-- a place is held with the transaction
abbrev pub HeldWith : Size → Books → ℕ → ℕ → Type 0
HeldWith z b k t = (k < z.places) × (is_held (place_at b k) ≡ true) × ((place_at b k).begin ≡ t)

module _ (z : Size) (b : Books) where
  -- before the first record nobody has committed
  pub none_committed : CommittedAreHeld z b []
  unfolding CommittedAreHeld events committed any_in
  none_committed t done = absurd (false≢true done)

  -- who committed has a place
  pub committed_placed : (day : List Record) → CommittedAreHeld z b day → (t : ℕ) → committed (events day) t ≡ true → (k : ℕ) × HeldWith z b k t
  unfolding CommittedAreHeld
  committed_placed day kept t done =
      let x = kept t done in
      let p = place_at b x.at in
      (x.at, (x.there, or_right (is_live p) (is_committed p) x.done, x.named))

  -- one record more
  pub committed_more : (after : Books) (r : Record) (day : List Record) → CommittedAreHeld z b day
      → ((t : ℕ) → HeldCommitted z b t → HeldCommitted z after t) → (kind_commits r.kind ≡ true → HeldCommitted z after (whose day r))
      → CommittedAreHeld z after (r ∷ day)
  unfolding CommittedAreHeld
  committed_more after r day kept still here t done =
      ⊎_elim (λ x. subst (HeldCommitted z after) x.0 (here x.1)) (λ c. still t (kept t c)) (committed_cases r day t done)
