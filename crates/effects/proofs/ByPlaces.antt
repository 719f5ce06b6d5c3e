-- Verdict and order are those of the places, whatever the record count; an order has at most 32 numbers. Rests on the law that judging depends on the
-- places alone.
use Prim.Native.Nat.{ℕ, ◌≤◌}
use mathlib.Core.Path.{◌≡◌, sym}
use mathlib.Core.List.{List}
use lib.ListN.{length}
use Rattle.rules.specs.declared.Place.{Place}
use Rattle.rules.specs.declared.Size.{Size}
use Rattle.rules.specs.Books.{books_of, of_places}
use Rattle.rules.specs.Judging.{has_cycle, given_order}
use Rattle.rules.proofs.Judging.GivenOrders.{cycle_by_places, order_by_places, order_length}

module _ (z : Size) (records : ℕ) (places : List Place) (i : ℕ) where
  pub cycle_at : has_cycle z (books_of records places) i ≡ has_cycle z (of_places places) i
  cycle_at = sym (cycle_by_places z (books_of records places) i)

  pub order_at : given_order z (books_of records places) i ≡ given_order z (of_places places) i
  order_at = sym (order_by_places z (books_of records places) i)

pub order_few : (z : Size) (places : List Place) (i : ℕ) → length (given_order z (of_places places) i) ≤ z.places
order_few z places i = order_length z (of_places places) i
