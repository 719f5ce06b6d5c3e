-- Soundness is kept by every call, and the lent log stays the day. Rests on the theorems of the rules, `soundness_kept` and `log_joins_day`.
use mathlib.Core.Path.{◌≡◌, sym, subst}
use mathlib.Core.Bool.{true}
use mathlib.Core.List.{List}
use Prim.Native.Nat.{ℕ}
use lib.ListN.{length}
use Rattle.rules.specs.Sizes.{yard}
use Rattle.rules.specs.Books.{Shaped}
use Rattle.rules.specs.Sound.{sound}
use Rattle.rules.specs.State.{state_of}
use Rattle.rules.specs.Run.{after_call}
use Rattle.rules.specs.Kept.{Joined}
use Rattle.rules.proofs.Books.Shape.{yard_within, shaped_opened}
use Rattle.rules.proofs.Books.SoundKept.{sound_opened}
use Rattle.rules.proofs.Calls.SoundCalls.{soundness_kept}
use Rattle.rules.proofs.Calls.Joined.{log_joins_day}
use Rattle.machine.specs.declared.books.Books.{Books}
use Rattle.machine.specs.declared.books.Told.{Told}
use Rattle.machine.specs.View.{view}
use Rattle.machine.specs.Promises.{call_outcome}
use Rattle.machine.specs.Called.{call_of, lent_to}
use Rattle.machine.specs.Statements.{SoundnessStays, machine_of, LentLogIsDay}

-- sound, and as wide as declared
abbrev Good : Books → Type 0
Good b = (sound yard (view b) ≡ true) × Shaped (view b)

pub soundness_stays : SoundnessStays
soundness_stays =
    record {
      opening = λ r e. subst Good (sym e) (sound_opened yard, shaped_opened);
      each_call =
          λ b call value table drafts log numbers r shaped s e.
          let lent = lent_to b log numbers in
          let RuleCall = call_of call value in
          let state = state_of (view b) table drafts in
          subst (λ (a : Told). Good a.books) (sym e) (soundness_kept.soundness yard lent RuleCall state yard_within shaped s, soundness_kept.shape yard lent RuleCall state shaped);
    }

pub lent_log_is_day : LentLogIsDay
lent_log_is_day b call value table drafts log numbers day opening after joined e =
    let m = machine_of b table drafts day opening in
    let o = call_outcome b call value table drafts log numbers in
    subst (λ (bytes : List ℕ). Joined (after_call m o) bytes) (sym e) (log_joins_day.after yard (length numbers) (call_of call value) m log joined)
