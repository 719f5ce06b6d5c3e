-- The theorems about the rules, each under the statement that `specs/` gives it. Assumes nothing.
use mathlib.Core.Path.{◌∙◌, ap}
use Rattle.rules.specs.Daylog.{standing, day_of}
use Rattle.rules.specs.Trials.{Trials}
use Rattle.rules.specs.CaseA.{CaseALog}
use Rattle.rules.specs.Statements.{SoundnessSays, KindsSay, LayoutSays, LogReadsBack, ResultsUnique, RefusalsChangeNothing, Conflicts, GivenOrders}
use Rattle.rules.specs.Runs.{DaysFollow, RunsReadBack, HandlesName, OrdersAccepted, ConflictsMet}
use Rattle.rules.specs.History.{AcceptedSays, DaysPermissive}
use Rattle.rules.specs.Kept.{ReasonsAsked, SoundnessKept, ShownIsRecorded, LogJoinsDay, Unlent}
use Rattle.rules.proofs.History.AcceptedSays
use Rattle.rules.proofs.Calls.Asked
use Rattle.rules.proofs.CaseA
use Rattle.rules.proofs.Calls.Conflict
use Rattle.rules.proofs.Log.StandingLog
use Rattle.rules.proofs.Log.Encoding
use Rattle.rules.proofs.Runs.Holders
use Rattle.rules.proofs.Calls.Joined
use Rattle.rules.proofs.Judging.GivenOrders
use Rattle.rules.proofs.Log.KindsSaid
use Rattle.rules.proofs.Log.LaidOut
use Rattle.rules.proofs.History.LocalOpacity
use Rattle.rules.proofs.Runs.NewDays
use Rattle.rules.proofs.Calls.Reasons
use Rattle.rules.proofs.Runs.OfRuns
use Rattle.rules.proofs.Calls.Shown
use Rattle.rules.proofs.Books.SoundnessSays
use Rattle.rules.proofs.Calls.SoundCalls
use Rattle.rules.proofs.Trials
use Rattle.rules.proofs.Calls.Unlent

-- the nine trials marked ●, and case A from its log alone
pub trials : Trials
trials = Trials.trials

pub case_a_log : CaseALog
case_a_log = CaseA.case_a_log

-- tests say what the rules say
pub soundness_says : SoundnessSays
soundness_says = SoundnessSays.sound_says

pub kinds_say : KindsSay
kinds_say = KindsSaid.kinds_say

pub layout_says : LayoutSays
layout_says = LaidOut.layout_says

-- records, days and logs read back
pub log_reads_back : LogReadsBack
log_reads_back =
    record {
      record_back = Encoding.decode_encode;
      bytes_back = Encoding.encode_decode;
      day_back = λ day p. ap (day_of (standing day)) (StandingLog.records_in_standing day p) ∙ StandingLog.day_of_standing day p;
      log_back = LaidOut.laid_out_standing;
      day_laid_out = LaidOut.standing_laid_out;
    }

-- rules are functions, a refusal other than 9 changes nothing, and Conflict comes exactly when it must
pub results_unique : ResultsUnique
results_unique = Reasons.results_unique

pub refusals_change_nothing : RefusalsChangeNothing
refusals_change_nothing = Reasons.refusals_change_nothing

pub conflicts : Conflicts
conflicts = Conflict.conflicts

-- the given order
pub given_orders : GivenOrders
given_orders = GivenOrders.given_orders

-- what is known when no reason applies, and what every call keeps
pub reasons_asked : ReasonsAsked
reasons_asked = Asked.reasons_asked

pub soundness_kept : SoundnessKept
soundness_kept = SoundCalls.soundness_kept

pub shown_is_recorded : ShownIsRecorded
shown_is_recorded = Shown.shown_is_recorded

pub log_joins_day : LogJoinsDay
log_joins_day = Joined.log_joins_day

-- what a call is not lent stays, and is of no concern to its rule
pub unlent : Unlent
unlent = Unlent.unlent

-- of every run: a close begins a new day, the log reads back, a handle names its transaction, given orders are accepted, and Conflict comes exactly when no list would be
pub days_follow : DaysFollow
days_follow = NewDays.days_follow

pub runs_read_back : RunsReadBack
runs_read_back = OfRuns.runs_read_back

pub handles_name : HandlesName
handles_name = Holders.handles_name

pub orders_accepted : OrdersAccepted
orders_accepted = OfRuns.orders_accepted

pub conflicts_met : ConflictsMet
conflicts_met = OfRuns.conflicts_met

-- in the words of source document 000: what `accepted` says, and that every day of a run is conflict locally opaque and permissive
pub accepted_says : AcceptedSays
accepted_says = AcceptedSays.accepted_says

pub days_permissive : DaysPermissive
days_permissive = LocalOpacity.days_permissive
