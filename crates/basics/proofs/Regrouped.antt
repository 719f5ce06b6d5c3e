-- Tests taken together in another way: the same tests by `&&` and `||`, grouped and ordered otherwise. Assumes nothing.
use mathlib.Core.Path.{◌≡◌, refl, ◌∙◌, ap}
use mathlib.Core.Bool.{Bool, true, false, ◌&&◌, ◌||◌}
use Rattle.basics.proofs.Bools.{and_across}

-- a test asked with one of two others, the first of them behind a test of its own
pub and_over_or : (a b c d : Bool) → a && ((b && c) || d) ≡ (b && (a && c)) || (a && d)
and_over_or true b c d = refl
and_over_or false true c d = refl
and_over_or false false c d = refl

-- a test that passes by itself takes in what is asked with it
pub absorbed : (a b : Bool) → a || ((a && b) || false) ≡ a
absorbed true b = refl
absorbed false b = refl

-- five tests of which one must pass
pub or_five : (a b c d f : Bool) → (a || (b || false)) || (c || (d || f)) ≡ a || (d || ((c || b) || f))
or_five true b c d f = refl
or_five false true true true f = refl
or_five false true true false f = refl
or_five false true false true f = refl
or_five false true false false f = refl
or_five false false true true f = refl
or_five false false true false f = refl
or_five false false false d f = refl

-- four tests and four more, two by two
pub four_across : (a b c d a' b' c' d' : Bool)
    → (a && (b && (c && d))) && (a' && (b' && (c' && d'))) ≡ (a && a') && ((b && b') && ((c && c') && (d && d')))
four_across a b c d a' b' c' d' =
    and_across a (b && (c && d)) a' (b' && (c' && d'))
    ∙ ap (λ x. (a && a') && x) (and_across b (c && d) b' (c' && d') ∙ ap (λ x. (b && b') && x) (and_across c d c' d'))

-- one more test behind four
pub one_behind : (a b c d x : Bool) → (a && (b && (c && d))) && x ≡ a && (b && (c && (d && x)))
one_behind true true true d x = refl
one_behind true true false d x = refl
one_behind true false c d x = refl
one_behind false b c d x = refl
