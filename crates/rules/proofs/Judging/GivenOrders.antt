-- The given order: the test of a cycle says that there is one, and the order by elimination is what document 01 asks for.
-- Rests on the laws of elimination in any relation. Assumes nothing.
use mathlib.Core.Path.{◌≡◌, refl, sym}
use mathlib.Core.Logic.{⊎_elim}
use Prim.Native.Nat.{ℕ, ◌≤◌}
use mathlib.Core.Bool.{true, false≢true}
use lib.ListN.{length, length-map}
use lib.Dec.{eqb}
use native.Mathlib.Omega.{arith}
use borrow.Author.Tests.{eqb-true, not-true}
use Rattle.basics.proofs.Bools.{split, clash, or_true, or_false_left, or_false_right}
use Rattle.basics.proofs.Below.{count_at_most}
use Rattle.basics.proofs.Walk.{first_step}
use Rattle.basics.proofs.Eliminated.{eliminated_takes, eliminated_unique, eliminated_members, eliminated_distinct, eliminated_length, eliminated_keeps, eliminated_exactly, eliminated_no_cycle, not_all_cycle, cycle_not_all}
use Rattle.rules.specs.Sizes.{Size}
use Rattle.rules.specs.Books.{Books, place_at, of_places, is_live, is_committed, is_held}
use Rattle.rules.specs.Judging.{company, stands_before, HasCycle, has_cycle, given_places, given_order}
use Rattle.rules.specs.Statements.{GivenOrder, GivenOrders}

module _ (z : Size) (b : Books) (i : ℕ) where
  -- the begin record of a place
  abbrev begin_of : ℕ → ℕ
  begin_of k = (place_at b k).begin

  -- the test of a cycle says that there is one
  cycle_of_test : has_cycle z b i ≡ true → HasCycle z b i
  unfolding has_cycle
  cycle_of_test e = not_all_cycle z.places (stands_before z b) begin_of (company z b i) (not-true _ e)

  test_of_cycle : HasCycle z b i → has_cycle z b i ≡ true
  unfolding has_cycle
  test_of_cycle c = rw (cycle_not_all z.places (stands_before z b) begin_of (company z b i) c)

  -- everybody in the company is held, where place i is: a place that is not held passes no test of being live or committed
  pub company_held : is_held (place_at b i) ≡ true → (k : ℕ) → company z b i k ≡ true → is_held (place_at b k) ≡ true
  unfolding company
  company_held held k e =
      ⊎_elim (λ same. rw (eqb-true k i same) held)
      (λ other. split (is_held (place_at b k)) (λ t. t) (λ f. absurd (false≢true (simp (or_false_left (is_live (place_at b k)) (is_committed (place_at b k)) f, or_false_right (is_live (place_at b k)) (is_committed (place_at b k)) f) at other))))
      (or_true (eqb k i) _ e)

  given_order_right : GivenOrder z b i
  unfolding given_places
  given_order_right =
      record {
        cycle_told = (cycle_of_test, test_of_cycle);
        everybody = (
          λ none k h e. (eliminated_exactly z.places (stands_before z b) _ (company z b i) none k).1 (h, e),
          λ all c. let s = (first_step c.1).1 in clash (all c.0 s.0 s.2) (eliminated_no_cycle z.places (stands_before z b) _ (company z b i) c.1),
        );
        nobody_else = eliminated_members z.places (stands_before z b) _ (company z b i);
        nobody_twice = eliminated_distinct z.places (stands_before z b) _ (company z b i);
        pairs_kept = eliminated_keeps z.places (stands_before z b) _ (company z b i);
        takes_lowest = eliminated_takes z.places (stands_before z b) begin_of (company z b i);
        only_one = λ s h held order t. sym (eliminated_unique z.places (stands_before z b) begin_of (company z b i) (λ j k hj hk ej ek same. s.begins_differ j k hj hk (company_held held j ej) (company_held held k ek) same) order t);
      }

pub given_orders : GivenOrders
given_orders z b i = given_order_right z b i

-- verdict and order depend on the places alone, and not on the record count
module _ (z : Size) (b : Books) (i : ℕ) where
  pub cycle_by_places : has_cycle z (of_places b.places) i ≡ has_cycle z b i
  unfolding has_cycle stands_before company
  cycle_by_places = refl

  pub order_by_places : given_order z (of_places b.places) i ≡ given_order z b i
  unfolding given_order given_places stands_before company
  order_by_places = refl

  -- an order has at most as many as there are places
  pub order_length : length (given_order z b i) ≤ z.places
  unfolding given_order given_places
  order_length =
      let most = eliminated_length z.places (stands_before z b) (λ k. (place_at b k).begin) (company z b i) in
      let all = count_at_most (company z b i) z.places in
      simp length-map (omega arith)
