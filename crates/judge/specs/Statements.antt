-- What is proved of the judging: the type of the theorem, to be read without its proof.
use Rattle.std.specs.Prelude.{◌≡◌, ◌↔◌, Bool, true, List, ℕ}
use Rattle.rules.specs.declared.Place.{Place}
use Rattle.rules.specs.declared.Size.{Size}
use Rattle.rules.specs.Books.{Books, of_places}
use Rattle.rules.specs.Judging.{HasCycle, has_cycle}

-- what `is_conflict` promises of its answer r, of whatever books with these places: it is true exactly if the pairs of the company contain a cycle
abbrev pub AnswerSaysCycle : Type 0
AnswerSaysCycle =
    (z : Size) (b : Books) (places : List Place) (i : ℕ) (r : Bool) → b.places ≡ places → r ≡ has_cycle z (of_places places) i
    → (r ≡ true) ↔ HasCycle z b i
