-- What every call of a run keeps: books and day mirror each other, the bytes are those of the day, every transaction stays explained, and whoever was
-- turned back had to be. Rests on Mirrored, Valued, Verdicts and Explained, one for each. Assumes nothing.
use Prim.Native.Nat.{ℕ, ◌<◌}
use mathlib.Core.Path.{◌≡◌, refl, sym, ◌∙◌, ap, subst}
use mathlib.Core.Logic.Iff
use mathlib.Core.Logic.{◌↔◌}
use mathlib.Core.Bool.{true, false, cond}
use mathlib.Core.List.Memᴰ
use mathlib.Core.List.{List, [], ◌∷◌}
use Rattle.basics.specs.Bytes.{AreBytes, same}
use Rattle.basics.specs.Walk.{Cycle}
use Rattle.basics.proofs.Bools.{clash, never}
use Rattle.basics.proofs.Each.{each_none, each_cons}
use Rattle.rules.specs.declared.Record.{Record}
use Rattle.rules.specs.Sizes.{Size, Within}
use Rattle.rules.specs.Books.{Books, place_at, is_held}
use Rattle.rules.specs.Handles.{place_of}
use Rattle.rules.specs.Judging.{has_cycle}
use Rattle.rules.specs.Kinds.{kind_conflict, kind_judged_read, kind_judged, kind_has_value}
use Rattle.rules.specs.Daylog.{no_value}
use Rattle.rules.specs.State.{State, refused, recorded, record_at}
use Rattle.rules.specs.Judged.{Judged, books_granted, granted_of, turned_back}
use Rattle.rules.specs.Steps.{open_rule, begin_of, write_of, own_read_of, show_of, give_up_of, post_of, order_of, close_of}
use Rattle.rules.specs.Calls.{Call, Lending, owns, IsJudged}
use Rattle.rules.specs.Run.{Machine, lends, outcome, new_day, moved_on, after_call, played}
use Rattle.rules.specs.Layout.{walks, EachRecord}
use Rattle.rules.specs.Day.{events, event, is_transaction, whose}
use Rattle.rules.specs.Runs.{Starts, value_taken, InBytes, ran, Reached, DayPair}
use Rattle.rules.specs.History.{as_granted}
use Rattle.rules.proofs.Mirror.Callers.{caller_whose}
use Rattle.rules.proofs.Day.Events.{who_transaction}
use Rattle.rules.proofs.Calls.EachCall.{AskedOf, EachOutcome, each_call}
use Rattle.rules.proofs.Judging.Explained.{Explained, explained_new, explained_more}
use Rattle.rules.proofs.Books.HandleLaws.{place_of_below}
use Rattle.rules.proofs.Calls.JudgedStep.{allowed, JudgedStep, judged_step}
use Rattle.rules.proofs.Log.KindLaws.{frees_only}
use Rattle.rules.proofs.Judging.GivenOrders.{given_orders}
use Rattle.rules.proofs.Mirror.Mirrors.{Mirrored, Valued}
use Rattle.rules.proofs.Mirror.MirrorNew.{mirrored_new}
use Rattle.rules.proofs.Mirror.Mirrored.{mirrored_judged, mirrored_each}
use Rattle.rules.proofs.Books.Shape.{place_at_same}
use Rattle.rules.proofs.Mirror.Valued.{valued_new, valued_each}
use Rattle.rules.proofs.Judging.Verdicts.{cycle_mirrored}

-- ---- who was turned back

-- with the record the pairs of its transaction's company contain a cycle
abbrev CycleWith : Size → List Record → Record → Type 0
CycleWith z earlier r = Cycle (DayPair z (events (r ∷ earlier)) (whose earlier r))

-- the record walks behind the earlier ones, its transaction has begun, and there is such a cycle
pub record Cyclic (z : Size) (earlier : List Record) (r : Record) : Type 0 where
  pub walking : walks z (r ∷ earlier) ≡ true
  pub known : is_transaction (events (r ∷ earlier)) (whose earlier r) ≡ true
  pub cycle : CycleWith z earlier r

-- a record that turns its transaction back had to: granted, with whatever value, it would be cyclic
abbrev Rightly : Size → List Record → Record → Type 0
Rightly z earlier r = kind_conflict r.kind ≡ true → (value : List ℕ) → Cyclic z earlier (as_granted r value)

-- ---- what is kept

pub record Kept (z : Size) (m : Machine) : Type 0 where
  pub mirror : Mirrored z m.state.books m.day
  pub valued : Valued z m
  pub explained : Explained z m.day
  pub rightly : EachRecord (Rightly z) m.day

-- ---- a judged call

module _ (z : Size) (day : List Record) where
  -- books that mirror the log with a record, and hold its transaction at a place, have the verdict of the log there
  held_says : (b : Books) (r : Record) (i : ℕ) → Mirrored z b (r ∷ day) → i < z.places → is_held (place_at b i) ≡ true
      → whose day r ≡ (place_at b i).begin → (has_cycle z b i ≡ true) ↔ CycleWith z day r
  held_says b r i mirror there held named =
      rw named (Iff.trans (given_orders z b i).cycle_told (cycle_mirrored z b (r ∷ day) mirror i there held))

  -- with a cycle the record is cyclic
  cyclic : (b : Books) (r : Record) → Mirrored z b (r ∷ day) → CycleWith z day r → Cyclic z day r
  unfolding events event
  cyclic b r mirror cycle =
      record { walking = mirror.walking; known = who_transaction z (r ∷ day) mirror.walking (Memᴰ.head refl); cycle = cycle }

module _ (z : Size) (m : Machine) (mirror : Mirrored z m.state.books m.day) where
  abbrev b : Books
  b = m.state.books

  -- the books as they would be if it were granted: the caller's place is held by the same transaction
  module _ {h : ℕ} {j : Judged} (step : JudgedStep z m.state h j) where
    abbrev i : ℕ
    i = place_of h

    place_then : place_at (books_granted b i j) i ≡ j.place
    unfolding books_granted
    place_then = place_at_same i j.place mirror.shape (place_of_below h)

    pub held_then : is_held (place_at (books_granted m.state.books (place_of h) j) (place_of h)) ≡ true
    held_then = rw place_then step.held

    pub begin_then : (place_at (books_granted m.state.books (place_of h) j) (place_of h)).begin ≡ (place_at m.state.books (place_of h)).begin
    begin_then = ap (λ p. p.begin) place_then ∙ step.begin

    -- so their verdict is that of the log with the record
    judged_says : (value : List ℕ) → let r = record_at j.kind i (place_at b i) j.cell value in
        Mirrored z (books_granted b i j) (r ∷ m.day) → (has_cycle z (books_granted b i j) i ≡ true) ↔ CycleWith z m.day r
    judged_says value then =
        held_says z m.day (books_granted b i j) _ i then step.caller.place held_then
        (caller_whose z m mirror h step.caller j.kind j.cell value step.goes_on ∙ sym begin_then)

-- ---- every call

module _ (z : Size) (l : Lending) (m : Machine) (w : Within z) (kept : Kept z m) where
  abbrev s : State
  s = m.state

  -- one record more
  abbrev longer : State → Record → Machine
  longer t r = record { state = t; day = r ∷ m.day; opening = m.opening }

  adds_kept : (t : State) (r : Record) → Mirrored z t.books (r ∷ m.day) → Valued z (longer t r)
      → (kind_judged r.kind ≡ true → CycleWith z m.day r → ⊥) → Rightly z m.day r → Kept z (longer t r)
  adds_kept t r mirror valued free rightly =
      record {
        mirror = mirror;
        valued = valued;
        explained = explained_more z r m.day mirror.walking kept.explained free;
        rightly = (each_cons (Rightly z) r m.day).1 (rightly, kept.rightly);
      }

  -- one that turns nobody back
  goes_on : (r : Record) → kind_conflict r.kind ≡ false → Rightly z m.day r
  goes_on r none e = absurd (clash e none)

  -- a new day
  starts_kept : (t : State) → Mirrored z (new_day t).state.books (new_day t).day → Valued z (new_day t) → Kept z (new_day t)
  unfolding new_day
  starts_kept t mirror valued = record { mirror = mirror; valued = valued; explained = explained_new z; rightly = each_none (Rightly z) }

  -- each of the two, call by call
  abbrev mirrors : EachOutcome z l s (λ c o. Mirrored z (after_call m o).state.books (after_call m o).day)
  mirrors = mirrored_each z l m w kept.mirror

  abbrev values : EachOutcome z l s (λ c o. AreBytes (value_taken c) → Valued z (after_call m o))
  values = valued_each z l m w kept.mirror kept.valued

  -- a judged call: granted it has no cycle, and turned back, with whatever value, it would have one
  module _ {c : Call} {h : ℕ} {j : Judged} (judged : IsJudged z (owns s.books) s c h j) (asked : AskedOf z l s c) where
    abbrev step : JudgedStep z s h j
    step = judged_step z l s judged asked

    no_cycle : (value : List ℕ) → let r = record_at j.kind (place_of h) (place_at s.books (place_of h)) j.cell value in
        Mirrored z (books_granted s.books (place_of h) j) (r ∷ m.day) → has_cycle z (books_granted s.books (place_of h) j) (place_of h) ≡ false
        → CycleWith z m.day r → ⊥
    no_cycle value then free cycle = clash ((judged_says z m kept.mirror step value then).1 cycle) free

    rightly_back : has_cycle z (books_granted s.books (place_of h) j) (place_of h) ≡ true
        → Rightly z m.day (record_at j.back (place_of h) (place_at s.books (place_of h)) j.cell no_value)
    unfolding same
    rightly_back cycle e value =
        let i = place_of h in
        let p = place_at s.books i in
        let some = cond (kind_has_value j.kind) value no_value in
        let then = mirrored_judged z l m w kept.mirror judged asked some (allowed (kind_has_value j.kind) _ (λ none. rw none refl)) in
        subst (λ (k : ℕ). Cyclic z m.day (record_at k i p j.cell (cond (kind_has_value k) value no_value))) (sym step.as_granted)
        (cyclic z m.day _ _ then ((judged_says z m kept.mirror step some then).0 cycle))

  -- what a call leaves is kept, if the value that it takes is in bytes
  kept_each : EachOutcome z l s (λ c o. AreBytes (value_taken c) → Kept z (after_call m o))
  unfolding after_call moved_on refused open_rule begin_of write_of own_read_of granted_of show_of turned_back give_up_of post_of order_of close_of recorded kind_judged_read kind_judged
  kept_each =
      record {
        on_refused = λ c n k j bytes. kept;
        on_open = λ bytes. starts_kept _ mirrors.on_open (values.on_open bytes);
        on_begin = λ asked bytes. adds_kept _ _ (mirrors.on_begin asked) (values.on_begin asked bytes) never (goes_on _ refl);
        on_write = λ h c value asked bytes.
            adds_kept _ _ (mirrors.on_write h c value asked) (values.on_write h c value asked bytes) never (goes_on _ refl);
        on_own_read = λ h c asked own bytes.
            adds_kept _ _ (mirrors.on_own_read h c asked own) (values.on_own_read h c asked own bytes) never (goes_on _ refl);
        on_judged = λ judged asked free bytes.
            let then = mirrors.on_judged judged asked free in
            adds_kept _ _ then (values.on_judged judged asked free bytes) (λ e. no_cycle judged asked _ then free) (goes_on _ (step judged asked).no_conflict);
        on_turned_back = λ judged asked cycle bytes.
            adds_kept _ _ (mirrors.on_turned_back judged asked cycle) (values.on_turned_back judged asked cycle bytes)
            (λ e. absurd (clash e (frees_only _ (step judged asked).frees).judged)) (rightly_back judged asked cycle);
        on_show = λ given h c asked bytes. kept;
        on_give_up = λ h asked bytes. adds_kept _ _ (mirrors.on_give_up h asked) (values.on_give_up h asked bytes) never (goes_on _ refl);
        on_post = λ c value asked bytes.
            adds_kept _ _ (mirrors.on_post c value asked) (values.on_post c value asked bytes) never (goes_on _ refl);
        on_order = λ h asked bytes. kept;
        on_close = λ asked bytes. starts_kept _ (mirrors.on_close asked) (values.on_close asked bytes);
      }

-- ---- a run

-- every call on a machine keeps it
pub kept_after : (z : Size) (m : Machine) → Within z → Kept z m → (c : Call) → AreBytes (value_taken c) → Kept z (after_call m (outcome z c m))
unfolding outcome
kept_after z m w kept c = each_call z (lends z m) m.state _ (kept_each z (lends z m) m w kept) c

-- a machine at the start of a day has it
pub kept_new : (z : Size) (m : Machine) → Within z → Starts z m → Kept z m
unfolding new_day
kept_new z m w starts =
    let none : m.day ≡ [] = ap (λ n. n.day) starts.new in
    record {
      mirror = subst (Mirrored z m.state.books) (sym none) (mirrored_new z m.state.books w starts.books);
      valued = valued_new z m starts;
      explained = subst (Explained z) (sym none) (explained_new z);
      rightly = subst (EachRecord (Rightly z)) (sym none) (each_none (Rightly z));
    }

-- so any run does
pub kept_ran : (z : Size) (calls : List Call) (m : Machine) → Within z → InBytes calls → Kept z m → Kept z (ran z calls m)
unfolding played
kept_ran z [] m w bytes kept = kept
kept_ran z (c ∷ calls) m w bytes kept =
    kept_ran z calls (after_call m (outcome z c m)) w (λ d i. bytes d (Memᴰ.tail i)) (kept_after z m w kept c (bytes c (Memᴰ.head refl)))

-- and every machine that a run has come to has it
pub reached_kept : (z : Size) (m : Machine) → Within z → Reached z m → Kept z m
reached_kept z m w r = subst (Kept z) (sym r.come_to) (kept_ran z r.calls r.start w r.in_bytes (kept_new z r.start w r.starts))
