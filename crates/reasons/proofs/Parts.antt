-- What is asked of the books: the handle, a free place and the live ones. Rests on the laws of handles and of soundness.
use Prim.Native.Nat.{ℕ, ◌<◌, ◌≤◌}
use mathlib.Core.Path.{◌≡◌, refl, sym, ◌∙◌, ap}
use mathlib.Core.Bool.{Bool, true, false, not, ◌&&◌, ◌||◌}
use mathlib.Core.List.{List, [], ◌∷◌, ◌++◌}
use lib.Dec.{ltb, eqb}
use native.Mathlib.Omega.{arith}
use borrow.Author.Tests.{ltb-true, eqb-true, eq-eqb, not-false}
use Rattle.basics.specs.Lists.{all_in}
use Rattle.basics.specs.Below.{any_below}
use Rattle.basics.proofs.Bools.{split, clash, and_left, and_right}
use Rattle.basics.proofs.Below.{count_at_most, any_counted, none_counted}
use Rattle.rules.specs.declared.Size.{Size}
use Rattle.rules.specs.declared.Place.{Place}
use Rattle.rules.specs.declared.Caller.{Caller}
use Rattle.rules.specs.Books.{Books, books_of, of_places, place_at, is_live, lowest_free, live_count}
use Rattle.rules.specs.Handles.{place_of, looked_up}
use Rattle.rules.specs.Numbers.{granted, Reason, first_reason, wrong}
use Rattle.reasons.specs.Lengths.{any_wrong}
use Rattle.rules.specs.Sound.{sound}
use Rattle.rules.specs.Steps.{soundness_reason, handle_reasons}
use Rattle.rules.proofs.Calls.Asked.{status_asked, good_asked, held_asked}
use Rattle.rules.proofs.Calls.Reasons.{first_passes, none_after}
use Rattle.rules.proofs.Books.HandleLaws.{StatusKnown, looked_up_reasons}
use Rattle.rules.proofs.Books.SoundnessSays.{sound_says}

-- a run of reasons none of which applies leaves the number to the later ones
pub passed_over : (run later : List Reason) {n : ℕ} → all_in (λ r. ltb 0 r.number) run ≡ true → granted ≡ first_reason run → n ≡ first_reason later
    → n ≡ first_reason (run ++ later)
unfolding first_reason all_in
passed_over [] later numbered none e = e
passed_over (r ∷ run) later numbered none e =
    let here = none_after r run (ltb-true 0 r.number (and_left (ltb 0 r.number) _ numbered)) (sym none) in
    rw here.0 (passed_over run later (and_right (ltb 0 r.number) _ numbered) (sym here.1) e)

-- one of three lengths is not the one asked for: by the list of them, and one by one
not_all : (p q r : Bool) → not (p && (q && (r && true))) ≡ not p || (not q || not r)
not_all true true true = refl
not_all true true false = refl
not_all true false r = refl
not_all false q r = refl

pub three_lengths : (a x b y c w : ℕ) → any_wrong (a ∷ b ∷ c ∷ []) (x ∷ y ∷ w ∷ []) ≡ wrong a x || (wrong b y || wrong c w)
three_lengths a x b y c w = not_all (eqb a x) (eqb b y) (eqb c w)

module _ (z : Size) (b : Books) (h : ℕ) (who : Caller) where
  module _ (none : granted ≡ first_reason (soundness_reason z b ∷ [])) where
    -- books that are not refused are sound
    books_sound : sound z b ≡ true
    unfolding soundness_reason
    books_sound = not-false (sound z b) (none_after (soundness_reason z b) [] (omega arith) (sym none)).0

    -- in them a handle names a place of a known status
    pub status_known : {i : ℕ} → i ≡ place_of h → StatusKnown z (place_at b i) h
    status_known named = rw named (status_asked z b h ((sound_says z b).0 books_sound))

    -- and what is looked up at that place is the first of 2, 3 and 4
    pub handle_asked : {i n : ℕ} → i ≡ place_of h → n ≡ looked_up z who (place_at b i) h → n ≡ first_reason (soundness_reason z b ∷ handle_reasons z who b h)
    unfolding soundness_reason
    handle_asked named found =
        found
        ∙ ap (λ k. looked_up z who (place_at b k) h) named
        ∙ looked_up_reasons z b h (status_asked z b h ((sound_says z b).0 books_sound)) who
        ∙ sym (first_passes (soundness_reason z b) (handle_reasons z who b h) (ap not books_sound))

  -- where none of 2 to 4 applies, the handle names one of the places
  pub handle_named : granted ≡ first_reason (soundness_reason z b ∷ handle_reasons z who b h) → {i : ℕ} → i ≡ place_of h → i < z.places
  unfolding soundness_reason
  handle_named none named =
      let two = none_after (soundness_reason z b) (handle_reasons z who b h) (omega arith) (sym none) in
      let s = (sound_says z b).0 (not-false (sound z b) two.0) in
      rw named (held_asked z b h s (good_asked z b h s who two.1)).place

module _ (z : Size) (records : ℕ) (places : List Place) where
  -- the lowest free place is the same, whatever the number of records
  pub free_by_places : lowest_free z (of_places places) ≡ lowest_free z (books_of records places)
  unfolding lowest_free
  free_by_places = refl

  -- and as many are live
  pub live_by_places : live_count z (of_places places) ≡ live_count z (books_of records places)
  unfolding live_count
  live_by_places = refl

  -- and no more than there are places
  pub live_at_most : live_count z (of_places places) ≤ z.places
  unfolding live_count
  live_at_most = count_at_most (λ i. is_live (place_at (of_places places) i)) z.places

  -- one is live exactly if they are not 0
  pub some_live : any_below (λ i. is_live (place_at (books_of records places) i)) z.places ≡ not (eqb (live_count z (of_places places)) 0)
  unfolding live_count
  some_live =
      let live : ℕ → Bool = λ i. is_live (place_at (books_of records places) i) in
      split (eqb (live_count z (of_places places)) 0) (λ t. rw t (none_counted live z.places (eqb-true _ 0 t))) (λ f. rw f (any_counted live z.places (λ e. clash (eq-eqb _ 0 e) f)))
