-- The nine trials of document 01 marked ●, all together: the rules compute to what the document says. Assumes nothing.
use mathlib.Core.Path.{refl}
use Rattle.basics.specs.Below.{all_below, any_below, count_below, least_below, lowest_below, greatest_below, run_below}
use Rattle.basics.specs.Lists.{any_in, member}
use Rattle.basics.specs.Bytes.{part, splice}
use Rattle.basics.specs.Elimination.{clear, without, next, taken, eliminated, gives_all}
use Rattle.rules.specs.Books.{freed, begun, posted, marked, read_marked, sealed, with_place, with_record, opened, lowest_free, no_free, live_count, room_taken}
use Rattle.rules.specs.Handles.{out_of_range, turn_agrees, asks_live, is_stale, is_ended}
use Rattle.rules.specs.Sound.{cells_clear, is_clear, read_sound, reads_sound, held_sound, commit_sound, place_sound, differ, sound}
use Rattle.rules.specs.Judging.{latest_read, moment, company, real_time, write_write, write_read, read_write, precedes, stands_before, has_cycle, given_places, given_order}
use Rattle.rules.specs.Numbers.{first_reason}
use Rattle.rules.specs.Cells.{cell_of, with_cell, draft_of, with_draft, laid_over}
use Rattle.rules.specs.State.{refused, unless_refused, recorded}
use Rattle.rules.specs.Judged.{books_granted, granted_of, turned_back, meets_conflict, judged_of}
use Rattle.rules.specs.Steps.{soundness_reason, handle_reasons, cell_reason, handle_cell_reasons, room_reason, begin_reasons, begin_rule, write_reasons, write_rule, read_reasons, own_read_of, read_rule, commit_reasons, commit_rule, order_reasons, order_rule, begin_of, write_of, read_of, order_of}
use Rattle.rules.specs.Calls.{issued}
use Rattle.rules.specs.Run.{outcome, new_day, moved_on, after_call, played, fresh}
use Rattle.rules.specs.Trials.{Trials}

pub trials : Trials
unfolding all_below any_below count_below least_below lowest_below greatest_below run_below any_in member part splice clear without next taken eliminated gives_all freed begun posted marked read_marked sealed with_place with_record opened lowest_free no_free live_count room_taken out_of_range turn_agrees asks_live is_stale is_ended cells_clear is_clear read_sound reads_sound held_sound commit_sound place_sound differ sound latest_read moment company real_time write_write write_read read_write precedes stands_before has_cycle given_places given_order first_reason cell_of with_cell draft_of with_draft laid_over refused unless_refused recorded soundness_reason handle_reasons cell_reason handle_cell_reasons room_reason books_granted granted_of turned_back meets_conflict judged_of begin_reasons begin_of begin_rule write_reasons write_of write_rule read_reasons own_read_of read_of read_rule commit_reasons commit_rule order_reasons order_of order_rule issued outcome new_day moved_on after_call played fresh
trials =
    record {
      case_a_holds = refl;
      case_a_records = refl;
      read_again_holds = refl;
      offset_and_times_holds = refl;
      overtaken_holds = refl;
      lost_update_holds = refl;
      blind_writes_holds = refl;
      write_skew_holds = refl;
      through_real_time_holds = refl;
      unread_holds = refl;
    }
