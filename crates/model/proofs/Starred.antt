-- The definitions meet every case of the table, so that a wrong definition is refused here.
-- Assumes nothing.
use mathlib.Core.Path.{refl}
use Rattle.finite.specs.Sums.{sum_to, max_to, min_to, sum_where, max_where, count_to}
use Rattle.finite.specs.Search.{any_below, all_below, first_step, first_below, chosen}
use Rattle.finite.specs.Lists.{tabulate, some_list, least_list, word_at}
use Rattle.finite.specs.Reach.{reach}
use Rattle.finite.specs.Bits.{bit}
use Rattle.finite.specs.Packed.{bit_at, pack_bits, packed_byte, packed}
use Rattle.model.specs.Contents.{sheet_count, sheet_start, sheet_size, sheet_end, body_start, book_fits}
use Rattle.model.specs.Instance.{cost, owner_of, price_of}
use Rattle.model.specs.Sheet.{agents_of, chores_of, easy_weight, difficult_weight, row_of, is_difficult, marks_easy, sheet_length, all_difficult, as_marked, as_read}
use Rattle.model.specs.Strands.{agree, joined_chores, joined_mark, joined_row, joined_rows, joined_header, joined_sheet, in_first, strand_sheet, strand_marks}
use Rattle.model.specs.Fairness.{owns, holds_any, bundle_size, total, cost_to, total_cost, cost_without, fair, ef1, dominates, entries_in_range, is_allocation, dominated}
use Rattle.model.specs.Slack.{costliest, without_costliest, left_after, rest_cost, fair_up_to, even_up_to}
use Rattle.model.specs.MaximinShare.{in_bundle, bundle_cost, costliest_bundle, maximin_share, cheapest_bundle, deal_chore, deal_kind, dealt, measures_of, within_measures}
use Rattle.model.specs.Prices.{ratio_at_most, best, dearest, price_up_to_one}
use Rattle.model.specs.Step2a.{giver2a, receiver2a, due2a, chore2a}
use Rattle.model.specs.Step2b.{least_sum, above, supplies, of_least_sum, within, reachable, at_distance, ring2b, due2b, giver2b, receiver2b, chore2b}
use Rattle.model.specs.Algorithm.{fewest, opens_with, opened_before, opening_owner, opening_price, opening, group, is_entitled, action2a, action2b, action, handed, passed, in_new_group, after_cut, result, step, next, after}
use Rattle.model.specs.Record.{round_of, step_of, hands_over, next_moves, moves_in, move_bytes, record_of}
use Rattle.model.specs.Refusals.{◌or_else◌, set_after, marks_fault, header_refusal, sheet_refusal, owners_refusal, prices_refusal, lent_refusal, allocate_refusal, record_refusal, recorded_refusal, strands_refusal, join_refusal, show_refusal, multiple_refusal, measures_refusal, measured_list_refusal, contents_refusal, book_refusal, slack_refusal, list_refusal, price_refusal}
use Rattle.model.specs.Verdicts.{first_of_pair, second_of_pair, unless_refused, envies, list_verdict, first_off_price, envies_by_price, price_verdict, list_check, price_check}
use Rattle.model.specs.Cases.{marks, row, all_rows, first_count, header, sheet, respecting, Meets, MeetsAll}
use Rattle.model.specs.Starred.{sheet_c, book_c, book_of_two, entries, sheet_d, sheet_e, sheet_s, sheet2a, strand1, strand2, eight, two_easy, agents, chores, too_many, book_of, bytes, table}
use Rattle.model.proofs.Cases.{seen, is_done, differs, passes_too, Computed, ComputedAll, met_all}

pub starred : MeetsAll table
unfolding table sheet_c book_c book_of_two entries sheet_d sheet_e sheet_s sheet2a strand1 strand2 eight two_easy agents chores too_many book_of bytes sheet marks row all_rows first_count header Meets MeetsAll Computed ComputedAll seen is_done differs passes_too respecting sum_to max_to min_to sum_where max_where any_below all_below first_step first_below chosen tabulate some_list word_at reach bit bit_at pack_bits packed_byte packed cost owner_of price_of agents_of chores_of easy_weight difficult_weight row_of is_difficult marks_easy sheet_length all_difficult as_marked as_read agree joined_chores joined_mark joined_row joined_rows joined_header joined_sheet in_first strand_sheet strand_marks owns holds_any count_to total cost_to total_cost cost_without fair ef1 costliest without_costliest left_after rest_cost fair_up_to even_up_to dominates entries_in_range is_allocation dominated ratio_at_most best dearest price_up_to_one bundle_size fewest opens_with opened_before opening_owner opening_price opening group is_entitled giver2a receiver2a due2a chore2a action2a least_sum above supplies of_least_sum within reachable at_distance ring2b due2b giver2b receiver2b chore2b action2b action handed passed in_new_group after_cut result step next after round_of step_of hands_over next_moves moves_in move_bytes record_of ◌or_else◌ set_after marks_fault header_refusal sheet_refusal owners_refusal prices_refusal lent_refusal allocate_refusal record_refusal recorded_refusal strands_refusal join_refusal show_refusal slack_refusal list_refusal price_refusal first_of_pair second_of_pair unless_refused envies list_verdict first_off_price envies_by_price price_verdict list_check price_check least_list in_bundle bundle_cost costliest_bundle maximin_share cheapest_bundle deal_chore deal_kind dealt measures_of within_measures multiple_refusal measures_refusal measured_list_refusal contents_refusal book_refusal sheet_count sheet_start sheet_size sheet_end body_start book_fits
starred =
    met_all 17 table
    ((refl, refl), ((refl, refl), ((refl, refl), ((refl, refl), ((refl, refl), ((refl, refl), ((refl, refl), ((refl, refl), ((refl, refl), ((refl, refl), ((refl, refl), ((refl, refl), ((refl, refl), ((refl, refl), ((refl, refl), ((refl, refl), ((refl, refl), ((refl, refl), (refl, (refl, (refl, (refl, ((refl, refl, refl), (refl, (refl, (refl, (refl, (refl, (refl, (refl, (refl, (refl, (refl, (refl, (refl, (refl, (refl, (refl, (refl, (refl, (refl, (refl, (refl, (refl, (refl, (refl, (refl, (refl, (refl, (refl, (refl, (refl, (refl, (refl, (refl, (refl, (refl, (refl, (refl, (refl, (refl, (refl, (refl, (refl, (refl, (refl, (refl, (refl, (refl, (refl, (refl, (refl, (refl, (refl, (refl, ((refl, refl), (refl, (refl, (refl, (refl, (refl, (refl, (refl, (refl, (refl, (refl, (refl, (refl, (refl, (refl, (refl, (refl, (refl, ((refl, refl, refl), ((refl, refl, refl), (refl, (refl, (refl, ((refl, refl), ((refl, refl), ((refl, refl), ((refl, refl), (refl, (refl, ((refl, refl), ((refl, refl), ((refl, refl), (refl, (refl, (refl, (refl, (refl, (refl, (refl, (refl, (refl, (refl, (refl, ((refl, refl), ((refl, refl), ((refl, refl), ((refl, refl), (refl, (refl, (refl, (refl, (refl, ((refl, refl), (refl, (refl, ((refl, refl), ((refl, refl), ((refl, refl), ((refl, refl), ((refl, refl), ((refl, refl), ((refl, refl), (refl, (refl, (refl, (refl, (refl, (refl, (refl, (refl, (refl, (refl, (refl, (refl, (refl, (refl, ((refl, refl), (refl, (refl, (refl, (refl, ((refl, refl, refl), ((refl, refl, refl), ((refl, refl, refl), (refl, (refl, (refl, (refl, (refl, (refl, (refl, tt))))))))))))))))))))))))))))))))))))))))))))))))))))))))))))))))))))))))))))))))))))))))))))))))))))))))))))))))))))))))))))))))))))))))))))))))))))))))))))))))))))))
