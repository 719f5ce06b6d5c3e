-- A run may start from fresh books, from what a granted close leaves and from what an open leaves: so what is proved of runs holds again from there. Rests on
-- what every call keeps. Assumes nothing.
use mathlib.Core.Path.{◌≡◌, refl}
use mathlib.Core.Logic.{inl, inr}
use lib.ListN.{length-replicate}
use Rattle.basics.proofs.Bytes.{zeros_are_bytes}
use Rattle.rules.specs.Sizes.{Size, table_bytes, drafts_bytes}
use Rattle.rules.specs.Books.{Books, opened, closed}
use Rattle.rules.specs.Numbers.{granted}
use Rattle.rules.specs.State.{refused, with_books}
use Rattle.rules.specs.Steps.{open_rule, close_rule, close_of}
use Rattle.rules.specs.Calls.{Open, Close, issued}
use Rattle.rules.specs.Run.{Machine, outcome, new_day, moved_on, after_call, fresh}
use Rattle.rules.specs.Runs.{DayStarts, Starts, DaysFollow}
use Rattle.rules.proofs.Calls.EachCall.{refused_or}
use Rattle.rules.proofs.Runs.Running.{Kept, reached_kept}

-- freshly opened books
fresh_starts : (z : Size) → Starts z (fresh z)
unfolding fresh new_day
fresh_starts z =
    record {
      books = inl refl;
      table = (length-replicate (table_bytes z) 0, zeros_are_bytes (table_bytes z));
      drafts = (length-replicate (drafts_bytes z) 0, zeros_are_bytes (drafts_bytes z));
      new = refl;
    }

module _ (z : Size) (m : Machine) (kept : Kept z m) where
  -- what is left with other books that a day may start with
  starts_with : (b : Books) → DayStarts b → Starts z (new_day (with_books m.state b))
  unfolding new_day
  starts_with b starts =
      let v = kept.valued in
      record { books = starts; table = (v.table_length, v.table_in_bytes); drafts = (v.drafts_length, v.drafts_in_bytes); new = refl }

  pub close_starts : (outcome z Close m).number ≡ granted → Starts z (after_call m (outcome z Close m))
  unfolding outcome issued close_rule close_of refused after_call moved_on
  close_starts =
      refused_or (λ o. o.number ≡ granted → Starts z (after_call m o)) _ m.state _ (λ n other e. absurd (other e))
      (λ g e. starts_with (closed m.state.books) (inr (m.state.books, kept.mirror.shape, refl)))

  open_starts : Starts z (after_call m (outcome z Open m))
  unfolding outcome issued open_rule after_call moved_on
  open_starts = starts_with opened (inl refl)

pub days_follow : DaysFollow
days_follow =
    record {
      from_fresh = fresh_starts;
      from_close = λ z m w r. close_starts z m (reached_kept z m w r);
      from_open = λ z m w r. open_starts z m (reached_kept z m w r);
    }
