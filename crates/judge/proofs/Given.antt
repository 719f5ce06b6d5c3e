-- From the arrays to the rules: a company and a square that are right give the verdict and the order of document 01. Elimination looks at no pairs
-- but those of the company, and on these the square says what the rule says. Assumes nothing.
use Prim.Native.Nat.{ℕ}
use mathlib.Core.Path.{◌≡◌, refl, sym, ◌∙◌, ap}
use mathlib.Core.Bool.{Bool, false, not}
use mathlib.Core.List.{List, map}
use lib.ListN.{length, length-map}
use native.Mathlib.Omega.{arith}
use Rattle.basics.specs.Below.{filled_below}
use Rattle.basics.specs.Elimination.{eliminated, gives_all}
use Rattle.basics.proofs.Below.{Agree}
use Rattle.basics.proofs.Filled.{filled_at}
use Rattle.basics.proofs.Lists.{map_agrees}
use Rattle.basics.proofs.Eliminated.{eliminated_members, eliminated_cong, gives_all_cong}
use Rattle.basics.proofs.SamePairs.{SameLeft, eliminated_same, gives_all_same}
use Rattle.rules.specs.declared.Size.{Size}
use Rattle.rules.specs.Sizes.{Within, width}
use Rattle.rules.specs.Books.{Books, place_at}
use Rattle.rules.specs.Judging.{company, stands_before, has_cycle, given_places, given_order}
use Rattle.pairs.specs.Square.{is_in, said_before, square_of}
use Rattle.judge.specs.Ordered.{begin_of}
use Rattle.pairs.proofs.Squares.{present_says, square_says}

module _ (z : Size) (within : Within z) (b : Books) (i : ℕ) (present : List Bool) (rows : List (List Bool))
    (company_right : present ≡ filled_below (company z b i) false z.places width) (square_right : rows ≡ square_of z b present) where
  present_company : Agree z.places (is_in present) (company z b i)
  present_company = present_says z within present (company z b i) company_right

  -- on those present the square says who stands before whom
  said_stands : SameLeft z.places (said_before rows) (stands_before z b) (is_in present)
  said_stands k m h g k_in m_in = ap (λ (r : List (List Bool)). said_before r k m) square_right ∙ square_says z within b present k m h g ∙ rw (m_in, k_in)

  pub verdict_right : (r : Bool) → ((key : ℕ → ℕ) → r ≡ not (gives_all z.places (said_before rows) key (is_in present))) → r ≡ has_cycle z b i
  unfolding has_cycle
  verdict_right r told =
      let key : ℕ → ℕ = λ k. (place_at b k).begin in
      told key
      ∙ ap not
      (gives_all_same z.places (said_before rows) (stands_before z b) key (is_in present) said_stands
      ∙ gives_all_cong z.places (stands_before z b) (stands_before z b) (λ k m h g. refl) key key (λ k h. refl) (is_in present) (company z b i) present_company)

  module _ (begins : List ℕ) (begins_right : begins ≡ filled_below (λ k. (place_at b k).begin) 0 z.places width) where
    begin_right : Agree z.places (begin_of begins) (λ k. (place_at b k).begin)
    begin_right k h =
        ap (λ (xs : List ℕ). begin_of xs k) begins_right
        ∙ filled_at (λ j. (place_at b j).begin) 0 z.places width k 0 (omega (arith, within.places)) h

    places_right : eliminated z.places (said_before rows) (begin_of begins) (is_in present) ≡ given_places z b i
    unfolding given_places
    places_right =
        eliminated_same z.places (said_before rows) (stands_before z b) (begin_of begins) (is_in present) said_stands
        ∙ eliminated_cong z.places (stands_before z b) (stands_before z b) (λ k m h g. refl) (begin_of begins) (λ k. (place_at b k).begin) begin_right (is_in present) (company z b i) present_company

    pub order_right : map (begin_of begins) (eliminated z.places (said_before rows) (begin_of begins) (is_in present)) ≡ given_order z b i
    unfolding given_order
    order_right =
        map_agrees (begin_of begins) (λ k. (place_at b k).begin) (eliminated z.places (said_before rows) (begin_of begins) (is_in present))
        (λ k m. begin_right k (eliminated_members z.places (said_before rows) (begin_of begins) (is_in present) k m).0)
        ∙ ap (map (λ k. (place_at b k).begin)) places_right

    pub count_right : length (eliminated z.places (said_before rows) (begin_of begins) (is_in present)) ≡ length (given_order z b i)
    unfolding given_order
    count_right = ap length places_right ∙ sym (simp length-map)
