-- The verdict and the given order on the books are those of the day: the pairs of a company contain a cycle exactly if those of the day do,
-- and without one the given order lists the company of the day and keeps its pairs. Rests on the mirror of the books in the day.
-- Assumes nothing.
use Prim.Native.Nat.{ℕ, ◌<◌}
use mathlib.Core.Path.{◌≡◌, sym, ◌∙◌, ap, ap₂, subst}
use mathlib.Core.Logic.{◌↔◌, ⊎_elim}
use mathlib.Core.Bool.{true, false}
use mathlib.Core.List.{List, map}
use Rattle.basics.specs.Lists.{member, keeps}
use Rattle.basics.specs.Walk.{Cycle}
use Rattle.basics.proofs.Bools.{clash}
use Rattle.basics.proofs.Lists.{keeps_cong}
use Rattle.basics.proofs.Renamed.{names_of, names_at, names_distinct, names_keep}
use Rattle.basics.proofs.Walk.{first_step, names_walk, named_walk}
use Rattle.rules.specs.declared.Record.{Record}
use Rattle.rules.specs.Sizes.{Size}
use Rattle.rules.specs.Books.{Books, place_at, is_held}
use Rattle.rules.specs.Judging.{company, stands_before, Pair, HasCycle, has_cycle, given_places, given_order}
use Rattle.rules.specs.Day.{events, company_of, day_before}
use Rattle.rules.specs.Checker.{lists_company}
use Rattle.rules.specs.Runs.{DayPair}
use Rattle.rules.proofs.Mirror.Mirrors.{Mirrored}
use Rattle.rules.proofs.Mirror.CommittedHeld.{HeldWith, committed_placed}
use Rattle.rules.proofs.Day.CompanyListed.{company_says, company_listed}
use Rattle.rules.proofs.Judging.GivenOrders.{company_held, given_orders}
use Rattle.rules.proofs.Judging.PairsMirrored.{pairs_mirrored, company_mirrored}

module _ (z : Size) (b : Books) (day : List Record) (mirror : Mirrored z b day) where
  -- the transaction of a place
  abbrev begin_of : ℕ → ℕ
  begin_of k = (place_at b k).begin

  module _ (i : ℕ) (there : i < z.places) (held : is_held (place_at b i) ≡ true) where
    -- ---- who is in the company

    -- everybody in the company on the books is in that of the day
    company_told : (k : ℕ) → k < z.places → company z b i k ≡ true → company_of (events day) (begin_of i) (begin_of k) ≡ true
    company_told k h c = sym (company_mirrored z b day mirror i k there h held (company_held z b i held k c)) ∙ c

    -- everybody in the company of the day has a place
    company_placed : (t : ℕ) → company_of (events day) (begin_of i) t ≡ true → (k : ℕ) × HeldWith z b k t
    company_placed t c =
        ⊎_elim (λ same. (i, (there, held, sym same))) (λ other. committed_placed z b day mirror.kept t other.0)
        ((company_says (events day) (begin_of i) t).0 c).1

    -- that is in the company on the books
    placed_company : (k t : ℕ) → HeldWith z b k t → company_of (events day) (begin_of i) t ≡ true → company z b i k ≡ true
    placed_company k t h c =
        company_mirrored z b day mirror i k there h.0 held h.1 ∙ ap (company_of (events day) (begin_of i)) h.2 ∙ c

    -- ---- the cycle

    -- a pair on the books is one of the day, and a pair of the day is one of their places
    pair_told : (k m : ℕ) → Pair z b i k m → DayPair z (events day) (begin_of i) (begin_of k) (begin_of m)
    pair_told k m p = (
      company_told k p.0 p.2,
      company_told m p.1 p.3,
      sym (pairs_mirrored z b day mirror k m p.0 p.1 (company_held z b i held k p.2) (company_held z b i held m p.3)) ∙ p.4,
    )

    placed_pair : (t u k m : ℕ) → DayPair z (events day) (begin_of i) t u → HeldWith z b k t → HeldWith z b m u → Pair z b i k m
    placed_pair t u k m p hk hm = (
      hk.0,
      hm.0,
      placed_company k t hk p.0,
      placed_company m u hm p.1,
      pairs_mirrored z b day mirror k m hk.0 hm.0 hk.1 hm.1 ∙ ap₂ (day_before z (events day)) hk.2 hm.2 ∙ p.2,
    )

    -- the pairs of the company contain a cycle exactly if those of the day do
    pub cycle_mirrored : HasCycle z b i ↔ Cycle (DayPair z (events day) (place_at b i).begin)
    cycle_mirrored = (
      λ c. (begin_of c.0, names_walk begin_of pair_told c.1),
      λ c.
          let k = company_placed c.0 (first_step c.1).1.0 in
          (k.0, named_walk (HeldWith z b) (λ t u p. company_placed u p.1) placed_pair c.1 k.1 k.1),
    )

    -- ---- the order

    -- everybody listed is of the company and held
    listed : (k : ℕ) → member k (given_places z b i) ≡ true → (k < z.places) × (company z b i k ≡ true) × (is_held (place_at b k) ≡ true)
    listed k m = let x = (given_orders z b i).nobody_else k m in (x.0, x.1, company_held z b i held k x.1)

    -- without a cycle everybody in the company of the day is listed
    all_listed : has_cycle z b i ≡ false → (t : ℕ) → company_of (events day) (begin_of i) t ≡ true → member t (given_order z b i) ≡ true
    unfolding given_order
    all_listed none t c =
        let laws = given_orders z b i in
        let k = company_placed t c in
        let m = laws.everybody.0 (λ cycle. clash (laws.cycle_told.1 cycle) none) k.0 k.1.0 (placed_company k.0 t k.1 c) in
        subst (λ (u : ℕ). member u (map begin_of (given_places z b i)) ≡ true) k.1.2 (names_of begin_of (given_places z b i) k.0 m)

    -- then the given order lists the company
    pub order_lists : has_cycle z b i ≡ false → lists_company (events day) (place_at b i).begin (given_order z b i) ≡ true
    unfolding given_order
    order_lists none =
        (company_listed day (begin_of i) (given_order z b i)).1 (
          names_distinct begin_of (given_places z b i) (given_orders z b i).nobody_twice (λ j k mj mk.
              let hj = listed j mj in
              let hk = listed k mk in
              mirror.sound.begins_differ j k hj.0 hk.0 hj.2 hk.2),
          λ t. (
            λ m.
                let x = names_at begin_of (given_places z b i) t m in
                let h = listed x.0 x.1 in
                ap (company_of (events day) (begin_of i)) (sym x.2) ∙ company_told x.0 h.0 h.1,
            all_listed none t,
          ),
        )

    -- and it keeps every pair in any case
    pub order_keeps : keeps (day_before z (events day)) (given_order z b i) ≡ true
    unfolding given_order
    order_keeps =
        names_keep begin_of (day_before z (events day)) (given_places z b i)
        (sym (keeps_cong (stands_before z b) _ (given_places z b i) (λ k m mk mm.
        let hk = listed k mk in
        let hm = listed m mm in
        pairs_mirrored z b day mirror k m hk.0 hm.0 hk.2 hm.2))
        ∙ (given_orders z b i).pairs_kept)
