-- Keys are apart in the columns of the books exactly if they differ in the books, whatever passes and whatever the key. Assumes nothing.
use Prim.Native.Nat.{ℕ, ◌+◌, ◌-◌, ◌≤◌, ◌<◌}
use mathlib.Core.Path.{◌≡◌, refl, sym, ◌∙◌, ap, subst}
use mathlib.Core.Bool.{Bool, true, false, not, ◌&&◌}
use mathlib.Core.List.{List}
use lib.Dec.{eqb}
use lib.ListN.{get_or}
use native.Mathlib.Decide.{dec_lt}
use native.Mathlib.Omega.{arith}
use Rattle.basics.specs.Below.{all_below, filled_below}
use Rattle.basics.proofs.Bools.{same_tests, and_swap, and_fails_right, eqb_swap}
use Rattle.basics.proofs.Below.{all_at, all_of}
use Rattle.basics.proofs.Filled.{filled_at, filled_past}
use Rattle.rules.specs.declared.Place.{Place}
use Rattle.rules.specs.declared.Size.{Size}
use Rattle.rules.specs.Sizes.{width}
use Rattle.rules.specs.Books.{Books, place_at}
use Rattle.rules.specs.Sound.{differ}
use Rattle.sound_keys.specs.Apart.{apart}

-- two that pass are compared either way round
unlike_swap : (p q : Bool) (m n : ℕ) → not (p && (q && eqb m n)) ≡ not (q && (p && eqb n m))
unlike_swap p q m n = rw (eqb_swap m n) (ap not (and_swap p q (eqb n m)))

module _
    (z : Size)
    (fits : z.places ≤ width)
    (b : Books)
    (passes : Place → Bool)
    (key : Place → ℕ)
    (passing : List Bool)
    (keys : List ℕ)
    (p : passing ≡ filled_below (λ i. passes (place_at b i)) false z.places (width + width))
    (k : keys ≡ filled_below (λ i. key (place_at b i)) 0 z.places (width + width))
  where
    -- what the columns hold of a place
    passing_at : (i : ℕ) → i < z.places → get_or passing i false ≡ passes (place_at b i)
    passing_at i h = rw p (filled_at (λ i. passes (place_at b i)) false z.places (width + width) i false (omega arith) h)

    key_at : (i : ℕ) → i < z.places → get_or keys i 0 ≡ key (place_at b i)
    key_at i h = rw k (filled_at (λ i. key (place_at b i)) 0 z.places (width + width) i 0 (omega arith) h)

    -- nobody passes behind the places
    nobody_at : (i : ℕ) → i < width + width → z.places ≤ i → get_or passing i false ≡ false
    nobody_at i h l = rw p (filled_past (λ i. passes (place_at b i)) false z.places (width + width) i false h l)

    -- i and j do not both pass with the same key: in the books, and in the columns
    abbrev unlike : ℕ → ℕ → Bool
    unlike i j = not (passes (place_at b i) && (passes (place_at b j) && eqb (key (place_at b i)) (key (place_at b j))))

    abbrev unlike_columns : ℕ → ℕ → Bool
    unlike_columns i j = not (get_or passing i false && (get_or passing j false && eqb (get_or keys i 0) (get_or keys j 0)))

    columns_say : (i j : ℕ) → i < z.places → j < z.places → unlike_columns i j ≡ unlike j i
    columns_say i j h l =
        rw (passing_at i h, passing_at j l, key_at i h, key_at j l)
        (unlike_swap (passes (place_at b i)) (passes (place_at b j)) (key (place_at b i)) (key (place_at b j)))

    -- a pair is asked at the first of the two in the columns, and at the second in the books
    differing : all_below (apart passing keys) z.places ≡ true → differ z b passes key ≡ true
    unfolding apart differ
    differing all =
        all_of _ z.places λ i h.
        all_of _ i λ j l.
        let m : j < z.places = omega arith in
        let t = i - (j + 1) in
        let here : j + 1 + t ≡ i = omega arith in
        sym (columns_say j i m h)
        ∙ subst (λ (n : ℕ). unlike_columns j n ≡ true) here (all_at (λ t. unlike_columns j (j + 1 + t)) width (all_at (apart passing keys) z.places all j m) t (omega arith))

    parted : differ z b passes key ≡ true → all_below (apart passing keys) z.places ≡ true
    unfolding apart differ
    parted all =
        all_of _ z.places λ i h.
        all_of _ width λ t l.
        elim (dec_lt (i + 1 + t) z.places) [
          | yes m ↦ columns_say i (i + 1 + t) h m ∙ all_at (unlike (i + 1 + t)) (i + 1 + t) (all_at (λ j. all_below (unlike j) j) z.places all (i + 1 + t) m) i (omega arith)
          | no m ↦ rw (nobody_at (i + 1 + t) (omega arith) (omega arith)) (ap not (and_fails_right (get_or passing i false) false refl))
        ]

    -- the test on the columns is the test on the books
    pub apart_is_differ : all_below (apart passing keys) z.places ≡ differ z b passes key
    apart_is_differ = same_tests _ _ differing parted
