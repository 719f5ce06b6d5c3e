-- Case A from its log alone: the rules compute to document 01's report and to the orders it names. Assumes nothing.
use mathlib.Core.Path.{refl}
use Rattle.basics.specs.Below.{all_below, any_below}
use Rattle.rules.specs.Numbers.{first_reason}
use Rattle.rules.specs.Cells.{cell_of}
use Rattle.basics.specs.Lists.{all_in, any_in, member, distinct, keeps}
use Rattle.basics.specs.Bytes.{part, little, number, same}
use Rattle.basics.specs.Text.{text, digits, decimal}
use Rattle.rules.specs.Kinds.{kind_starts, kind_commits, kind_writes, kind_frees, kind_judged_read, kind_own_read, kind_table_read, kind_has_value, kind_has_cell}
use Rattle.rules.specs.Daylog.{encode, decode, trailer, commit_total, day_bytes, trailer_true, standing, records_in, bytes_at, day_of}
use Rattle.rules.specs.Layout.{fields_right, moved, seat, fits, walks, well_laid_out}
use Rattle.rules.specs.Day.{whose, event, events, latest, is_transaction, commit_of, committed, moment_of, wrote_cell, written_value, has_kind, stands, company_of, day_real_time, day_write_write, day_write_read, day_read_write, day_before}
use Rattle.rules.specs.Checker.{lists_company, carried, reads_carried, own_reads_right, accepted, log_events, checked}
use Rattle.rules.specs.Report.{standing_word, first_line, transaction_line, transaction_lines, log_report, refused_line, report}
use Rattle.rules.specs.CaseA.{CaseALog}

pub case_a_log : CaseALog
unfolding all_below any_below first_reason cell_of any_in member part all_in distinct keeps little number same text digits decimal kind_starts kind_commits kind_frees kind_writes kind_judged_read kind_own_read kind_table_read kind_has_value kind_has_cell encode decode trailer commit_total day_bytes trailer_true standing records_in bytes_at day_of fields_right moved seat fits walks well_laid_out whose event events latest is_transaction commit_of committed moment_of wrote_cell written_value has_kind stands company_of day_real_time day_write_write day_write_read day_read_write day_before lists_company carried reads_carried own_reads_right accepted log_events checked standing_word first_line transaction_line transaction_lines log_report refused_line report
case_a_log =
    record {
      reported = refl;
      p_order = refl;
      p_commit_order = refl;
      q_order = refl;
      q_turned = refl;
      q_short = refl;
      q_repeated = refl;
      q_added = refl;
      no_begin = refl;
      wrong_length = refl;
      short_table = refl;
    }
