-- Opens every definition, so that a theorem that is computed says `unfolding computing` and no more.
use Rattle.paper.specs.Answers.{and_then, require}
use Rattle.paper.specs.Checks.{need, ◌also◌}
use Rattle.paper.specs.Fields.{among, every, good, digit, capital, identifier_field, same, value_from, number, spells}
use Rattle.paper.specs.Dates.{month_days, is_date, date_field, time_field}
use Rattle.paper.specs.Entities.{entity_value, of_currency, entity_field, entity, on_roster}
use Rattle.paper.specs.Accounts.{weighted, block_good, account_checked}
use Rattle.paper.specs.Kinds.{kind, kind_of, code_of, allowed}
use Rattle.paper.specs.Records.{member, member_field, origin_good, own_desk, headed, file_header, number_good, batch_header, amount_of, account_good, information_good, flag_good, counter_good, addressed, destination, transfer, individual, additional99, additional05, additional_by, additional}
use Rattle.paper.specs.Controls.{plus, with_individual, with_additional, batch_control, blocks, file_control}
use Rattle.paper.specs.Reading.{nothing_counted, counted, start, flag, before_next, last_individual, next, fields, judged, finish, at, reading_from, parts, records_of, record_at, length_good, reading_by, reading}
use Rattle.paper.specs.Postings.{posting, posted_by, sender_after, postings_from, postings, own_postings, signed, effect, position, how_many}
use Rattle.paper.specs.Sessions.{listed, new_session, opening_answer, opened_with, opening, cell_of, origin_of, identifier_if, identifier_of, key_of, answer_to, cell_after, cells_after, session_after, presenting}
use Rattle.paper.specs.Writing.{spelled, blanks, joined, numbered, batch_control_of, file_control_of, owed, settled, owed_before, settled_before, ending, with_controls, closing}
use Rattle.paper.specs.Listing.{width_by, width, decimal, signed_decimal, figures_line, entity_line, entity_lines, plus_cell, cell_sums, listing, refusal_line, has_header, date_in, currency_in, numbers_to, printed, one_file, positions_of}
use Rattle.paper.specs.Extract.{prepended, grouped, batches_of, is_to, items_to, holding, batches_to, item_records, batch_records, header_for, extract}
use Rattle.paper.specs.Trays.{tray_records, mark_good, tray_record_good, tray_fault, batches_after, individuals_after, numbered_by, numbering, build, zeroed, marked, stripped, strip}
use Rattle.paper.specs.Buffers.{over, written, room_for, entity_given, extracting, stripping, tray_answer, built_as, built_if, buildable, building}
use Rattle.paper.specs.Receiving.{receiving, motives_good, showable, explains, explains_at, text_at, shown_if, showing, text_in}

unfoldable pub computing : Unit {0}
unfolding and_then require need ◌also◌ among every good digit capital identifier_field same value_from number spells month_days is_date date_field time_field entity_value of_currency entity_field entity on_roster weighted block_good account_checked kind kind_of code_of allowed member member_field origin_good own_desk headed file_header number_good batch_header amount_of account_good information_good flag_good counter_good addressed destination transfer individual additional99 additional05 additional_by additional plus with_individual with_additional batch_control blocks file_control nothing_counted counted start flag before_next last_individual next fields judged finish at reading_from parts records_of record_at length_good reading_by reading posting posted_by sender_after postings_from postings own_postings signed effect position how_many listed new_session opening_answer opened_with opening cell_of origin_of identifier_if identifier_of key_of answer_to cell_after cells_after session_after presenting spelled blanks joined numbered batch_control_of file_control_of owed settled owed_before settled_before ending with_controls closing width_by width decimal signed_decimal figures_line entity_line entity_lines plus_cell cell_sums listing refusal_line has_header date_in currency_in numbers_to printed one_file positions_of prepended grouped batches_of is_to items_to holding batches_to item_records batch_records header_for extract tray_records mark_good tray_record_good tray_fault batches_after individuals_after numbered_by numbering build zeroed marked stripped strip over written room_for entity_given extracting stripping tray_answer built_as built_if buildable building receiving motives_good showable explains explains_at text_at shown_if showing text_in
computing = tt
