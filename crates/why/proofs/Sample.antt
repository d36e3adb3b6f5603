-- The text for a book that holds only document 01's sheet C, so that a wrong definition of the text is refused here.
-- Assumes nothing.
use Prim.Native.Nat.{ℕ}
use mathlib.Core.List.{List, [], ◌∷◌}
use mathlib.Core.Path.{◌≡◌, refl, sym, ap₂, subst, ◌∙◌}
use native.Mathlib.Omega.{arith}
use Rattle.finite.specs.Sums.{sum_to, max_to, min_to, sum_where, max_where}
use Rattle.finite.specs.Search.{any_below, all_below, first_step, first_below, chosen}
use Rattle.finite.specs.Lists.{tabulate, word_at}
use Rattle.finite.specs.Reach.{reach}
use Rattle.finite.specs.Bits.{bit}
use Rattle.finite.specs.Packed.{bit_at, pack_bits, packed_byte, packed}
use Rattle.model.specs.Instance.{cost, owner_of, price_of}
use Rattle.model.specs.Sheet.{agents_of, chores_of, easy_weight, difficult_weight, row_of, is_difficult, marks_easy, sheet_length, all_difficult, as_read}
use Rattle.model.specs.Contents.{sheet_count, sheet_start, sheet_size, sheet_of}
use Rattle.model.specs.Fairness.{owns, holds_any, total}
use Rattle.model.specs.Prices.{ratio_at_most, best, dearest, price_up_to_one}
use Rattle.model.specs.Step2a.{giver2a, receiver2a, due2a, chore2a}
use Rattle.model.specs.Step2b.{least_sum, above, supplies, of_least_sum, within, reachable, at_distance, ring2b, due2b, giver2b, receiver2b, chore2b}
use Rattle.model.specs.Algorithm.{State, done, opens_with, opening_owner, opening_price, opening, group, is_entitled, action2a, action2b, action, handed, passed, in_new_group, after_cut, result, step, next, after}
use Rattle.model.specs.Record.{Move, round_of, step_of, hands_over, next_moves, moves_in}
use Rattle.model.specs.Refusals.{◌or_else◌, set_after, marks_fault, header_refusal, sheet_refusal, record_refusal}
use Rattle.model.specs.Promises.{Demand3, RunMoves}
use Rattle.model.specs.Cases.{marks, row, all_rows, first_count, header, sheet}
use Rattle.model.specs.Starred.{sheet_c}
use Rattle.model.proofs.Unique.{same_moves}
use Rattle.text.specs.Text.{ascii, digits_in, decimal, field, spaced, joined}
use Rattle.text.specs.Lines.{sheet_line, list_line, opening_line, owners_line, prices_line, total_line}
use Rattle.text.specs.Moves.{numbers_line, move_line, move_lines}
use Rattle.why.specs.Page.{run_lines, run_refusal, run_text, adds, sheet_text, tally_to, last_line, book_text, Runs}

-- its contents, and then the sheet
unfoldable pub book_c : List ℕ
book_c = 1 ∷ 0 ∷ 5 ∷ 0 ∷ 9 ∷ sheet_c

-- the text for it, as it is to be printed
unfoldable pub text_c : List ℕ
text_c =
    ascii "sheet 1 moves 3 cuts 1\nopening 1 1 1 1 1\nreel 5 from 1 to 2 round 1 step 2\nreel 1 from 1 to 2 round 2 step 2\nreel 2 from 1 to 2 round 2 step 2\nowners 2 2 1 1 2\nprices 3 3 3 3 1\ntotal moves 3 cuts 1\n"

-- the state in which its run ends, and its moves
unfoldable final_c : State
final_c =
    record {
      owners = 2 ∷ 2 ∷ 1 ∷ 1 ∷ 2 ∷ [];
      prices = 3 ∷ 3 ∷ 3 ∷ 3 ∷ 1 ∷ [];
      groups = 0 ∷ 1 ∷ [];
      entitled = 0 ∷ 0 ∷ 0 ∷ 0 ∷ 1 ∷ [];
      moves = 3;
      cuts = 1;
      stage = 0;
    }

unfoldable moves_c : List Move
moves_c =
    record { chore = 4; giver = 0; receiver = 1; round = 1; step = 2 }
    ∷ record { chore = 0; giver = 0; receiver = 1; round = 2; step = 2 }
    ∷ record { chore = 1; giver = 0; receiver = 1; round = 2; step = 2 } ∷ []

-- five steps of Algorithm 1: a move, a cut, two moves, the stop
five_steps : (after (as_read sheet_c) 5 ≡ done final_c) × (moves_in (as_read sheet_c) 5 ≡ moves_c)
unfolding final_c moves_c sheet_c sheet header marks row all_rows first_count bit bit_at pack_bits packed_byte packed sum_to max_to min_to sum_where max_where any_below all_below first_step first_below chosen tabulate word_at reach cost owner_of price_of agents_of chores_of easy_weight difficult_weight row_of is_difficult marks_easy sheet_length all_difficult as_read owns holds_any total ratio_at_most best dearest price_up_to_one opens_with opening_owner opening_price opening group is_entitled giver2a receiver2a due2a chore2a action2a least_sum above supplies of_least_sum within reachable at_distance ring2b due2b giver2b receiver2b chore2b action2b action handed passed in_new_group after_cut result step next after round_of step_of hands_over next_moves moves_in
five_steps = (refl, refl)

printed : book_text book_c (λ _. final_c) (λ _. moves_c) ≡ text_c
unfolding book_c text_c final_c moves_c sheet_c sheet header marks row all_rows first_count bit bit_at pack_bits packed_byte packed sum_to any_below all_below first_step first_below tabulate word_at agents_of chores_of easy_weight difficult_weight row_of is_difficult marks_easy sheet_length all_difficult as_read opens_with opening_owner opening_price opening sheet_count sheet_start sheet_size sheet_of ◌or_else◌ set_after marks_fault header_refusal sheet_refusal record_refusal digits_in decimal field spaced sheet_line list_line opening_line owners_line prices_line total_line numbers_line move_line move_lines run_lines run_refusal run_text adds sheet_text joined tally_to last_line book_text
printed = refl

sheet_is : sheet_of book_c 0 ≡ sheet_c
unfolding book_c sheet_c sheet header marks row all_rows first_count bit bit_at pack_bits packed_byte packed tabulate word_at sheet_start sheet_size sheet_of
sheet_is = refl

taken : sheet_refusal sheet_c ≡ 0
unfolding sheet_c sheet header marks row all_rows first_count bit bit_at pack_bits packed_byte packed tabulate any_below word_at agents_of chores_of easy_weight difficult_weight row_of sheet_length ◌or_else◌ set_after marks_fault header_refusal sheet_refusal
taken = refl

module _ (finals : ℕ → State) (moves : ℕ → List Move) (R : Runs book_c finals moves) where
  -- it has one sheet
  one_sheet : book_text book_c finals moves ≡ book_text book_c (λ _. finals 0) (λ _. moves 0)
  unfolding book_c sheet_count sum_to joined sheet_text tally_to last_line book_text
  one_sheet = refl

  demand3 : Demand3 sheet_c (finals 0)
  unfolding book_c sheet_count
  demand3 = subst (λ s. Demand3 s (finals 0)) sheet_is (R.demand3 0 (omega arith) (rw sheet_is taken))

  run : RunMoves sheet_c (moves 0)
  unfolding book_c sheet_count
  run = subst (λ s. RunMoves s (moves 0)) sheet_is (R.runs 0 (omega arith) (rw sheet_is taken))

  final_is : finals 0 ≡ final_c
  final_is = sym (demand3.only final_c (record { steps = 5; ends = five_steps.0 }))

  moves_are_lem : moves 0 ≡ moves_c
  moves_are_lem = run.in_order ∙ same_moves (as_read sheet_c) run.ends.steps 5 run.final final_c run.ends.ends five_steps.0 ∙ five_steps.1

  -- The text of that book is this one: its share-out can end in no other state, and with no other moves.
  pub sheet_c_lem : book_text book_c finals moves ≡ text_c
  sheet_c_lem = one_sheet ∙ ap₂ (λ x ms. book_text book_c (λ _. x) (λ _. ms)) final_is moves_are_lem ∙ printed
