-- What is known of a call that no reason refuses, in the form in which what it does then asks for it. Rests on what the reasons say.
use Prim.Native.Nat.{ℕ, ◌+◌, ◌≤◌, ◌<◌}
use mathlib.Core.Path.{◌≡◌, sym, subst}
use mathlib.Core.List.{List}
use native.Mathlib.Omega.{arith}
use Rattle.rules.specs.declared.Place.{Place}
use Rattle.rules.specs.declared.Size.{Size}
use Rattle.rules.specs.Sizes.{cell_bytes, table_bytes, drafts_bytes, log_bytes, order_numbers, most_records}
use Rattle.rules.specs.Books.{Books, books_of, of_places, lowest_free, room_taken}
use Rattle.rules.specs.Handles.{place_of}
use Rattle.rules.specs.Numbers.{first_reason}
use Rattle.rules.specs.Steps.{begin_reasons, write_reasons, read_reasons, show_reasons, commit_reasons, give_up_reasons, post_reasons, order_reasons, close_reasons}
use Rattle.rules.proofs.Books.Shape.{free_by_places}
use Rattle.rules.proofs.Calls.Asked.{begin_asked, write_asked, read_asked, show_asked, commit_asked, give_up_asked, post_asked, order_asked, close_asked, caller_has_room}

-- there is room for one record more in a log of the right length
abbrev pub Recordable : ℕ → ℕ → Type 0
Recordable records log = (records < most_records) × (log ≡ log_bytes)

module _ (z : Size) (records : ℕ) (places : List Place) where
  abbrev b : Books
  b = books_of records places

  -- room for two is room for one, and the lowest free place is so by the places alone
  roomy : (more : ℕ) → 1 ≤ more → room_taken z b + more ≤ most_records → records < most_records
  unfolding room_taken
  roomy more some h = omega arith

  free_of_places : lowest_free z b < z.places → lowest_free z (of_places places) < z.places
  free_of_places = subst (λ (i : ℕ). i < z.places) (sym (free_by_places z b))

  pub begin_known : {log : ℕ} → 0 ≡ first_reason (begin_reasons z log b) → (lowest_free z (of_places places) < z.places) × Recordable records log
  begin_known {log} asked =
      let k = begin_asked z log b (sym asked) in
      (free_of_places k.free, (roomy 2 (omega arith) k.room, k.log_right))

  pub post_known : {value table log c : ℕ} → 0 ≡ first_reason (post_reasons z value table log b c)
      → (value ≡ cell_bytes) × (((lowest_free z (of_places places) < z.places) × (c < z.cells)) × (Recordable records log × (table ≡ table_bytes z)))
  post_known {value} {table} {log} {c} asked =
      let k = post_asked z value table log b c (sym asked) in
      (k.value_right, ((free_of_places k.free, k.cell), ((roomy 1 (omega arith) k.room, k.log_right), k.table_right)))

  pub close_known : {log : ℕ} → 0 ≡ first_reason (close_reasons z log b) → (records ≤ most_records) × (log ≡ log_bytes)
  unfolding room_taken
  close_known {log} asked = let k = close_asked z log b (sym asked) in (omega (arith, k.books.room), k.log_right)

  -- the calls on a handle h: a place of the controller
  module _ (h : ℕ) where
    pub write_known : {value drafts log c : ℕ} → 0 ≡ first_reason (write_reasons z value drafts log b h c)
        → (value ≡ cell_bytes) × (((place_of h < z.places) × (c < z.cells)) × (Recordable records log × (drafts ≡ drafts_bytes z)))
    write_known {value} {drafts} {log} {c} asked =
        let k = write_asked z value drafts log b h c (sym asked) in
        (k.value_right, ((k.caller.place, k.cell), ((roomy 1 (omega arith) k.room, k.log_right), k.drafts_right)))

    pub read_known : {table drafts log c : ℕ} → 0 ≡ first_reason (read_reasons z table drafts log b h c)
        → ((place_of h < z.places) × (c < z.cells)) × (Recordable records log × ((table ≡ table_bytes z) × (drafts ≡ drafts_bytes z)))
    read_known {table} {drafts} {log} {c} asked =
        let k = read_asked z table drafts log b h c (sym asked) in
        ((k.caller.place, k.cell), ((roomy 1 (omega arith) k.room, k.log_right), (k.table_right, k.drafts_right)))

    pub commit_known : {table drafts log : ℕ} → 0 ≡ first_reason (commit_reasons z table drafts log b h)
        → (place_of h < z.places) × (Recordable records log × ((table ≡ table_bytes z) × (drafts ≡ drafts_bytes z)))
    commit_known {table} {drafts} {log} asked =
        let k = commit_asked z table drafts log b h (sym asked) in
        (k.caller.place, ((caller_has_room z b h k.caller, k.log_right), (k.table_right, k.drafts_right)))

    pub give_up_known : {log : ℕ} → 0 ≡ first_reason (give_up_reasons z log b h) → (place_of h < z.places) × Recordable records log
    give_up_known {log} asked =
        let k = give_up_asked z log b h (sym asked) in
        (k.caller.place, (caller_has_room z b h k.caller, k.log_right))

    pub show_known : {table drafts c : ℕ} (given : ℕ) → 0 ≡ first_reason (show_reasons z table drafts b given h c)
        → ((place_of h < z.places) × (c < z.cells)) × ((table ≡ table_bytes z) × (drafts ≡ drafts_bytes z))
    show_known {table} {drafts} {c} given asked =
        let k = show_asked z table drafts b given h c (sym asked) in
        ((k.caller.place, k.cell), (k.table_right, k.drafts_right))

    pub order_known : {buffer : ℕ} → 0 ≡ first_reason (order_reasons z buffer b h) → (place_of h < z.places) × (buffer ≡ order_numbers z)
    order_known {buffer} asked = let k = order_asked z buffer b h (sym asked) in (k.caller.place, k.buffer_right)
