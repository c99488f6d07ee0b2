-- WITNESSES, by computing. Demand 3's hypotheses can be met: a start, and a list of orders to the three engines with refused ones in it
-- after which their totals are equal; so can those of C-17's theorem, every engine being over at one total, and those of C-11's theorem
-- about weighed stores. And the two engines' room may give out at different totals. And a batch with every outcome.
use Prim.Native.Nat.{◌+◌, ℕ}
use mathlib.Core.Path.{ap, refl, subst, sym, ◌∙◌, ◌≡◌}
use mathlib.Core.Logic.{inl, inr, ◌↔◌}
use mathlib.Core.List.{◌++◌, List, [], flat_map, ◌∷◌}
use mathlib.Core.Option.{some-injective}
use lib.Dec.{lit<, lit≤}
use lib.ListN.{length, replicate, take}
use lib.Seq.{take_all}
use native.Mathlib.Omega.{arith}
use Rattle.batch.specs.RunBatch.{answer_of, answers_of, bad_batch, bad_values, batch_by, end_values, jobs, longer_than_either, run_alone, run_batch}
use Rattle.buffer.specs.LittleEndian.{le, val}
use Rattle.counting.specs.CountStep.{count_step, enter_loop, step_here, step_in, step_state, step_sum, turn_done}
use Rattle.counting.specs.Counting.{expand, here, in_body, turns_around}
use Rattle.counting.specs.CountingCall.{bad_state, counted_to, counting_by, expand_call, or_start, run_counting, state_above, too_deep}
use Rattle.counting.specs.Depth.{depth_within, nesting}
use Rattle.counting.specs.Held.{around, block_numbers, held_block, held_loop, left_at_block, left_at_loop, numbers, shut_at, turn_numbers}
use Rattle.counting.specs.Place.{place_of, rest_at}
use Rattle.counting.specs.ReadState.{check, holding, is_last, is_right, on_rest, read_here, read_loop, read_numbers, read_open, read_shut, read_state, read_sum, read_waiting}
use Rattle.counting.specs.SmallState.{counts_in}
use Rattle.counting.specs.StateWords.{decode_state, encode_state, held_at, held_from, held_words, packed, unless_none, unpacked}
use Rattle.counting.proofs.ReadInversion.{right-injective}
use Rattle.record.specs.Answers.{Wrote, check_program, check_term, checked_by, padded, stored_by, too_short, wrote_by}
use Rattle.record.specs.Fix.{fixed, fuelled}
use Rattle.record.specs.declared.Header.{Header}
use Rattle.record.specs.Header.{HeaderFits, block_bytes, block_in, ceiling_bytes, ceiling_field, contents, contents_at, edition_by, edition_field, encode_program, encode_term, fields_of, form_of, headed, is_second, k_field, kind_field, kind_of, largest_of, length_field, ok_of, term, term_in}
use Rattle.record.specs.Program.{BlockWords, block_size, bound_from, bound_kind, bound_number, command_kind, decode_block, decode_block_part, decode_block_step, decode_command, encode_block, expr_from, expr_kind, expr_number}
use Rattle.record.specs.Reading.{any_record, any_record_of, at_end, bind, encode_leaf, from_some, leaf, leaf_of, of_kind, pick, sub, sub_of, then, word}
use Rattle.record.specs.Record.{cut, encode_record, split}
use Rattle.record.specs.Rows.{bad_block, bad_buffer, bad_header, bad_k, bad_store, bad_term, block_above, block_outside, finished_term, first_row, holds, is_none, open_term, or_else, pick_row, term_above, term_outside, too_long, unfinished, values_above}
use Rattle.record.specs.Term.{TermWords, atom_from, atom_kind, atom_number, decode_atoms, decode_term, decode_term_kind, decode_term_step, encode_atoms, encode_simple, encode_term_record, kind_of_term, last_term, measure_term, only_atom, plain_of, read_simple, simple_by, simple_from, simple_kind_if, simple_size, term_contents, term_kind, term_kind_if, term_size}
use Rattle.record.proofs.HeaderLaws.{length-encode_term_record, term_in-bytes}
use Rattle.record.proofs.HeldLaws.{held-contents, held-size}
use Rattle.record.proofs.HoldingLaws.{block-is}
use Rattle.reducer.specs.RunReducer.{reduced_to, reducer_by, run_reducer}
use Rattle.rules.specs.FreeVariables.{adding, closed, closed_atom, closed_atoms, closed_in, closed_simple}
use Rattle.rules.specs.Literals.{atom_numerals, atoms_numerals, bound_literals, expr_literals, literals_in, numerals_in, simple_numerals, small_values}
use Rattle.rules.specs.Play.{plays}
use Rattle.rules.specs.ReadBack.{block_of_source, bound_of, expr_of, read_back, same_atom, same_atoms, source, source_let_all, source_let_one, source_rec}
use Rattle.rules.specs.Reduction.{on_next, reduce, reduce_inside, reduce_let_one, unroll_rec, value_of}
use Rattle.rules.specs.Replaced.{given, or_zero, replaced, replaced_atom, replaced_atoms, replaced_let_all, replaced_let_one, replaced_next, replaced_simple, replaced_sum}
use Rattle.rules.specs.Run.{Outcome, go_on, is_over, iterate, one_more, or_stop, outcome_of, run, run_on, stop}
use Rattle.rules.specs.Scope.{atom_in_range, atoms_in_range, block_in_range, bound_in_range, expr_in_range, in_range, simple_in_range, term_in_range}
use Rattle.rules.specs.Sound.{SmallValues}
use Rattle.rules.specs.Step.{bound_value, step, step_assign, step_block, step_inside, unroll_loop}
use Rattle.rules.specs.Store.{lookup, minus_one, up_to, update}
use Rattle.rules.specs.Substitution.{except, from_store, only, or_ref, state_of, substitute, substitute_atom, substitute_simple}
use Rattle.rules.specs.Syntax.{Block, Config, Term, assign, empty, inc, nest}
use Rattle.rules.specs.Translation.{atom_of, refs, simple_of, translate}
use Rattle.rules.proofs.LiteralsLaws.{not-small}
use Rattle.run.specs.RunAnswer.{RunAnswer, outcome_number, refusal, room_for}
use Rattle.stepper.specs.RunStepper.{run_stepper, stepped_to, stepper_by}
use Rattle.term.specs.Calls.{no_source, numerals, read_back_call, result_call, substitute_call, substituted_by, translate_call}
use Rattle.agreement.specs.Demand3.{Agree, Agreement, Demand3Either, HoldsBlock, Start, begun, start_world}
use Rattle.agreement.specs.Examples.{accepted_values, add, budget, config_of, ending_of_reducer, ending_of_stepper, examples, expected, of_variables, program_bytes_of, reducer_ending, reducer_expected, shown, shown_by, shown_from, stepper_ending, substituted_of, translated_of, with_ceiling}
use Rattle.agreement.specs.GoingBack.{GoingBack, went_back, written_out}
use Rattle.agreement.specs.Orders.{AllAllowed, AllowedTo, Engine, Order, OrderTo, Stepper, World, advanced, after_counted, after_recorded, after_reducer, change, counted, order, other, own, own_after, play, played, played_counted, played_recorded, played_reducer, recorded, reduces, steps, to, to_counting, to_reducer, to_stepper, used_after, values_lent}
use Rattle.agreement.specs.RoomsDiffer.{RoomsDiffer}
use Rattle.agreement.specs.Together.{StopTogether, Stopped, Together, TogetherAnswered, answer_to, reducer_reads, stepper_reads}
use Rattle.agreement.specs.WeighedStore.{EnginesTake, WeighedStore}
use Rattle.weighing.specs.Weigh.{bad_rule, bad_size, count_of, net_load, tare_larger, weigh_call, weighed}
use Rattle.agreement.proofs.Demand3Laws.{accepted-program, demand3-either}
use Rattle.agreement.proofs.GoingBackLaws.{going-back}
use Rattle.agreement.proofs.TogetherLaws.{together, together-answered}
use Rattle.agreement.proofs.WeighedStoreLaws.{weighed-store}

-- P1, in a stepper's buffer of 160 bytes and a reducer's of 400, with nines behind the records
pub witness : Start (of_variables 4) add (7 ∷ 3 ∷ 0 ∷ 0 ∷ [])
unfolding adding closed_atom closed_atoms closed_simple closed_in closed plays same_atom same_atoms expr_of bound_of source_let_one source_let_all source_rec source block_of_source read_back value_of unroll_rec reduce_inside reduce_let_one reduce on_next or_stop iterate outcome_of stop one_more go_on run_on run in_range expr_in_range bound_in_range block_in_range atom_in_range atoms_in_range simple_in_range term_in_range bound_value unroll_loop step_inside step_assign step_block step up_to minus_one lookup update from_store only except or_ref substitute_atom substitute_simple substitute state_of refs simple_of atom_of translate le val padded checked_by check_program check_term wrote_by stored_by fuelled fixed length_field kind_field k_field kind_of largest_of fields_of contents_at contents headed block_bytes encode_term_record block_in term_in encode_program encode_term expr_kind expr_number bound_kind bound_number expr_from bound_from encode_block block_size command_kind decode_command decode_block_part decode_block_step decode_block then bind at_end from_some pick word of_kind sub_of sub encode_leaf leaf_of leaf any_record_of any_record encode_record cut split pick_row first_row is_none holds or_else too_long bad_buffer bad_header bad_k bad_block bad_term block_outside term_outside bad_store open_term finished_term unfinished atom_kind atom_number atom_from encode_atoms decode_atoms simple_kind_if encode_simple simple_size only_atom plain_of simple_by simple_from read_simple kind_of_term term_contents term_size term_kind_if term_kind last_term decode_term_kind decode_term_step measure_term decode_term outcome_number room_for too_short translate_call no_source read_back_call substitute_call substituted_by numerals result_call stepped_to stepper_by run_stepper reduced_to reducer_by run_reducer shown_by budget stepper_ending reducer_ending config_of program_bytes_of translated_of substituted_of ending_of_stepper accepted_values ending_of_reducer shown_from shown reducer_expected expected examples form_of ceiling_bytes ceiling_field is_second edition_by edition_field block_above term_above values_above small_values expr_literals bound_literals literals_in atom_numerals atoms_numerals simple_numerals numerals_in
witness = record {
  check_buf = encode_program (of_variables 4) add;
  check_used = 64;
  checked = refl;
  program = refl;
  program_words = (lit< tt, lit< tt, (lit< tt, lit< tt, (lit< tt, lit< tt, tt), tt));
  ceiling_word = lit< tt;
  term_buf = encode_term (of_variables 4) (translate 4 add);
  term_used = 172;
  term = refl;
  substituted = refl;
  stepper_buf = encode_program (of_variables 4) add ++ nines 96;
  stepper_begins = refl;
  reducer_buf = encode_term (of_variables 4) (substitute (from_store (7 ∷ 3 ∷ 0 ∷ 0 ∷ [])) (translate 4 add)) ++ nines 228;
  reducer_used = 172;
  reducer_fits = lit≤ tt;
  reducer_begins = refl;
}
  where
    nines : ℕ → List ℕ
    nines n = replicate n 9

-- THE LIST: of 01's stepper the second order's used length is not the one that the first gave, and the third lends no values; of the
-- counting stepper each order is lent the program in another buffer, the second has a wrong used length, and the third lends no
-- values; the reducer's second has a wrong used length
abbrev program : List ℕ
program = encode_program (of_variables 4) add

abbrev orders : List Order
orders = to_stepper 64 own 5
    ∷ to_counting program 64 own 4
    ∷ to_reducer 172 7
    ∷ to_stepper 64 own 9
    ∷ to_counting program 63 own 9
    ∷ to_stepper 124 (other []) 9
    ∷ to_counting program 64 (other []) 9
    ∷ to_stepper 124 own 2
    ∷ to_reducer 5 9
    ∷ to_counting (program ++ program) 64 own 3
    ∷ []

-- the world after it
abbrev after : World
after = play (start_world (of_variables 4) add (7 ∷ 3 ∷ 0 ∷ 0 ∷ []) witness) orders

pub record Totals : Type 0 where
  pub stepper : (after (steps recorded)).total ≡ 7
  pub counting : (after (steps counted)).total ≡ 7
  pub reducer : (after reduces).total ≡ 7
  -- x3 := x1 replaces 1, four unrollings none, the first turn's let-all 3 and its index 1
  pub replaced : (after reduces).memory.replaced ≡ 5
  -- the counting stepper stands within the loop at 16, its top 3, in the turn 1, at the place 36 of its body
  pub words : (after (steps counted)).memory.words ≡ (16 ∷ 0 ∷ 0 ∷ 2 ∷ 16 ∷ 3 ∷ 1 ∷ 1 ∷ 38 ∷ []) ++ replicate 180 0

pub totals : Totals
unfolding witness adding closed_atom closed_atoms closed_simple closed_in closed plays same_atom same_atoms expr_of bound_of source_let_one source_let_all source_rec source block_of_source read_back value_of unroll_rec reduce_inside reduce_let_one reduce on_next or_stop iterate outcome_of stop one_more go_on run_on run in_range expr_in_range bound_in_range block_in_range atom_in_range atoms_in_range simple_in_range term_in_range bound_value unroll_loop step_inside step_assign step_block step up_to minus_one lookup update from_store only except or_ref substitute_atom substitute_simple substitute state_of refs simple_of atom_of translate le val padded checked_by check_program check_term wrote_by stored_by fuelled fixed length_field kind_field k_field kind_of largest_of fields_of contents_at contents headed block_bytes encode_term_record block_in term_in encode_program encode_term expr_kind expr_number bound_kind bound_number expr_from bound_from encode_block block_size command_kind decode_command decode_block_part decode_block_step decode_block then bind at_end from_some pick word of_kind sub_of sub encode_leaf leaf_of leaf any_record_of any_record encode_record cut split pick_row first_row is_none holds or_else too_long bad_buffer bad_header bad_k bad_block bad_term block_outside term_outside bad_store open_term finished_term unfinished atom_kind atom_number atom_from encode_atoms decode_atoms simple_kind_if encode_simple simple_size only_atom plain_of simple_by simple_from read_simple kind_of_term term_contents term_size term_kind_if term_kind last_term decode_term_kind decode_term_step measure_term decode_term outcome_number room_for too_short translate_call no_source read_back_call substitute_call substituted_by given replaced replaced_atom replaced_atoms replaced_simple replaced_let_one replaced_let_all replaced_next or_zero replaced_sum numerals result_call stepped_to stepper_by run_stepper reduced_to reducer_by run_reducer shown_by budget stepper_ending reducer_ending config_of program_bytes_of translated_of substituted_of ending_of_stepper accepted_values ending_of_reducer shown_from shown reducer_expected expected examples begun values_lent own_after used_after after_recorded after_reducer played_recorded played_reducer played advanced change order after_counted played_counted is_right too_deep bad_state or_start counted_to counting_by run_counting step_in step_sum enter_loop turn_done step_here step_state count_step depth_within nesting held_block held_loop around shut_at left_at_loop left_at_block block_numbers turn_numbers numbers rest_at place_of check on_rest is_last read_sum read_waiting read_here read_shut read_loop read_open read_state read_numbers holding held_words packed held_at unless_none held_from unpacked decode_state encode_state form_of ceiling_bytes ceiling_field is_second edition_by edition_field block_above term_above values_above small_values expr_literals bound_literals literals_in atom_numerals atoms_numerals simple_numerals numerals_in state_above counts_in
totals = record { stepper = refl; counting = refl; reducer = refl; replaced = refl; words = refl }

-- a buffer that begins with it
program-begins : take (length program) program ≡ program
unfolding witness le encode_program headed kind_of fields_of block_bytes encode_block encode_leaf encode_record expr_kind expr_number bound_kind bound_number form_of ceiling_bytes
program-begins = refl

allowed : AllAllowed (of_variables 4) program orders
unfolding witness le encode_program headed kind_of fields_of block_bytes encode_block encode_leaf encode_record expr_kind expr_number bound_kind bound_number form_of ceiling_bytes
allowed = (tt, ((tt, refl), (tt, (tt, ((tt, refl), (empty-store, ((empty-store, refl), (tt, (tt, ((tt, refl), tt))))))))))
  where
    empty-store : ◌≡◌ {A = ℕ} 0 4 → Unit {0} → ⊥
    empty-store e v = omega arith

-- so either stepper agrees with the reducer after that list
pub agreed : (e : Stepper) → Agree (of_variables 4) add e (after (steps e)).memory (after reduces).memory
unfolding Demand3Either Agreement
agreed recorded = demand3-either recorded (of_variables 4) add (7 ∷ 3 ∷ 0 ∷ 0 ∷ []) witness orders allowed (totals.stepper ∙ sym totals.reducer)
agreed counted = demand3-either counted (of_variables 4) add (7 ∷ 3 ∷ 0 ∷ 0 ∷ []) witness orders allowed (totals.counting ∙ sym totals.reducer)

-- GOING BACK after that list, with an output buffer as long as the stepper's own: what is written out is what 01's stepper holds; then
-- both go on to the end
abbrev written : Wrote
written = written_out after program 64 (replicate 160 9)

abbrev further : List Order
further = to_reducer (after reduces).memory.used 100 ∷ to_stepper written.used own 100 ∷ []

-- the world gone back to, after those
abbrev ended : World
ended = play (went_back after written) further

pub record Back : Type 0 where
  pub accepted : written.number ≡ 0
  pub same : written.written ≡ (after (steps recorded)).memory.buf
  pub stepper : (ended (steps recorded)).total ≡ 18
  pub reducer : (ended reduces).total ≡ 18
  pub values : (ended (steps recorded)).memory.store ≡ 7 ∷ 3 ∷ 10 ∷ 3 ∷ []

pub back : Back
unfolding witness adding closed_atom closed_atoms closed_simple closed_in closed plays same_atom same_atoms expr_of bound_of source_let_one source_let_all source_rec source block_of_source read_back value_of unroll_rec reduce_inside reduce_let_one reduce on_next or_stop iterate outcome_of stop one_more go_on run_on run in_range expr_in_range bound_in_range block_in_range atom_in_range atoms_in_range simple_in_range term_in_range bound_value unroll_loop step_inside step_assign step_block step up_to minus_one lookup update from_store only except or_ref substitute_atom substitute_simple substitute state_of refs simple_of atom_of translate le val padded checked_by check_program check_term wrote_by stored_by fuelled fixed length_field kind_field k_field kind_of largest_of fields_of contents_at contents headed block_bytes encode_term_record block_in term_in encode_program encode_term expr_kind expr_number bound_kind bound_number expr_from bound_from encode_block block_size command_kind decode_command decode_block_part decode_block_step decode_block then bind at_end from_some pick word of_kind sub_of sub encode_leaf leaf_of leaf any_record_of any_record encode_record cut split pick_row first_row is_none holds or_else too_long bad_buffer bad_header bad_k bad_block bad_term block_outside term_outside bad_store open_term finished_term unfinished atom_kind atom_number atom_from encode_atoms decode_atoms simple_kind_if encode_simple simple_size only_atom plain_of simple_by simple_from read_simple kind_of_term term_contents term_size term_kind_if term_kind last_term decode_term_kind decode_term_step measure_term decode_term outcome_number room_for too_short translate_call no_source read_back_call substitute_call substituted_by given replaced replaced_atom replaced_atoms replaced_simple replaced_let_one replaced_let_all replaced_next or_zero replaced_sum numerals result_call stepped_to stepper_by run_stepper reduced_to reducer_by run_reducer shown_by budget stepper_ending reducer_ending config_of program_bytes_of translated_of substituted_of ending_of_stepper accepted_values ending_of_reducer shown_from shown reducer_expected expected examples begun values_lent own_after used_after after_recorded after_reducer played_recorded played_reducer played advanced change order after_counted played_counted is_right too_deep bad_state or_start counted_to counting_by run_counting step_in step_sum enter_loop turn_done step_here step_state count_step depth_within nesting held_block held_loop around shut_at left_at_loop left_at_block block_numbers turn_numbers numbers rest_at place_of check on_rest is_last read_sum read_waiting read_here read_shut read_loop read_open read_state read_numbers holding held_words packed held_at unless_none held_from unpacked decode_state encode_state turns_around expand expand_call went_back form_of ceiling_bytes ceiling_field is_second edition_by edition_field block_above term_above values_above small_values expr_literals bound_literals literals_in atom_numerals atoms_numerals simple_numerals numerals_in state_above counts_in
back = record { accepted = refl; same = refl; stepper = refl; reducer = refl; values = refl }

-- so it agrees with the reducer there too
pub agreed-back : Agree (of_variables 4) add recorded (ended (steps recorded)).memory (ended reduces).memory
unfolding GoingBack
agreed-back =
    (going-back (of_variables 4) add (7 ∷ 3 ∷ 0 ∷ 0 ∷ []) witness orders allowed after refl program 64 (replicate 160 9) program-begins back.accepted further (tt, (tt, tt))).agrees recorded (back.stepper ∙ sym back.reducer)

-- the whole of P1: its substitution replaces 5 variables, and its 18 reductions 20
pub record Counts : Type 0 where
  pub substitution : (substitute_call witness.term_buf 172 (7 ∷ 3 ∷ 0 ∷ 0 ∷ [])).replaced ≡ 5
  pub run : (run_reducer witness.reducer_buf 172 budget).replaced ≡ 20

pub counts : Counts
unfolding witness adding closed_atom closed_atoms closed_simple closed_in closed plays same_atom same_atoms expr_of bound_of source_let_one source_let_all source_rec source block_of_source read_back value_of unroll_rec reduce_inside reduce_let_one reduce on_next or_stop iterate outcome_of stop one_more go_on run_on run in_range expr_in_range bound_in_range block_in_range atom_in_range atoms_in_range simple_in_range term_in_range bound_value unroll_loop step_inside step_assign step_block step up_to minus_one lookup update from_store only except or_ref substitute_atom substitute_simple substitute state_of refs simple_of atom_of translate le val padded checked_by check_program check_term wrote_by stored_by fuelled fixed length_field kind_field k_field kind_of largest_of fields_of contents_at contents headed block_bytes encode_term_record block_in term_in encode_program encode_term expr_kind expr_number bound_kind bound_number expr_from bound_from encode_block block_size command_kind decode_command decode_block_part decode_block_step decode_block then bind at_end from_some pick word of_kind sub_of sub encode_leaf leaf_of leaf any_record_of any_record encode_record cut split pick_row first_row is_none holds or_else too_long bad_buffer bad_header bad_k bad_block bad_term block_outside term_outside bad_store open_term finished_term unfinished atom_kind atom_number atom_from encode_atoms decode_atoms simple_kind_if encode_simple simple_size only_atom plain_of simple_by simple_from read_simple kind_of_term term_contents term_size term_kind_if term_kind last_term decode_term_kind decode_term_step measure_term decode_term outcome_number room_for too_short translate_call no_source read_back_call substitute_call substituted_by given replaced replaced_atom replaced_atoms replaced_simple replaced_let_one replaced_let_all replaced_next or_zero replaced_sum numerals result_call stepped_to stepper_by run_stepper reduced_to reducer_by run_reducer shown_by budget stepper_ending reducer_ending config_of program_bytes_of translated_of substituted_of ending_of_stepper accepted_values ending_of_reducer shown_from shown reducer_expected expected examples form_of ceiling_bytes ceiling_field is_second edition_by edition_field block_above term_above values_above small_values expr_literals bound_literals literals_in atom_numerals atoms_numerals simple_numerals numerals_in
counts = record { substitution = refl; run = refl }

-- UNDER A CEILING of 9 (02 C-17): ADD on P1's store, each record and each buffer being 4 bytes longer than P1's
abbrev under : Header
under = with_ceiling 4 9

abbrev add-bytes : List ℕ
add-bytes = encode_program under add

pub ceiling-witness : Start under add (7 ∷ 3 ∷ 0 ∷ 0 ∷ [])
unfolding in_range expr_in_range bound_in_range block_in_range atom_in_range atoms_in_range simple_in_range term_in_range up_to from_store or_ref substitute_atom substitute_simple substitute refs simple_of atom_of translate le val padded checked_by check_program fuelled fixed length_field kind_field k_field kind_of largest_of fields_of contents_at contents headed block_bytes encode_term_record block_in term_in encode_program encode_term expr_kind expr_number bound_kind bound_number expr_from bound_from encode_block command_kind decode_command decode_block_part decode_block_step decode_block then bind at_end from_some pick word of_kind sub_of sub encode_leaf leaf_of leaf any_record_of any_record encode_record cut split pick_row first_row is_none holds too_long bad_buffer bad_header bad_k bad_block bad_term block_outside term_outside bad_store open_term atom_kind atom_number atom_from encode_atoms decode_atoms simple_kind_if encode_simple only_atom plain_of simple_by simple_from read_simple kind_of_term term_contents term_kind_if term_kind last_term decode_term_kind decode_term_step measure_term decode_term substitute_call substituted_by form_of ceiling_bytes ceiling_field is_second edition_by edition_field block_above term_above values_above small_values expr_literals bound_literals literals_in atom_numerals atoms_numerals simple_numerals numerals_in
ceiling-witness = record {
  check_buf = add-bytes;
  check_used = 68;
  checked = refl;
  program = refl;
  program_words = witness.program_words;
  ceiling_word = lit< tt;
  term_buf = encode_term under (translate 4 add);
  term_used = 176;
  term = refl;
  substituted = refl;
  stepper_buf = padded 160 add-bytes;
  stepper_begins = refl;
  reducer_buf = padded 388 (encode_term under (substitute (from_store (7 ∷ 3 ∷ 0 ∷ 0 ∷ [])) (translate 4 add)));
  reducer_used = 176;
  reducer_fits = lit≤ tt;
  reducer_begins = refl;
}

abbrev ceiling-start : World
ceiling-start = start_world under add (7 ∷ 3 ∷ 0 ∷ 0 ∷ []) ceiling-witness

-- THE LIST: the first order to each stepper lends it four values, one of them above the ceiling; then each engine goes a part of its way
abbrev with-ten : List ℕ
with-ten = 7 ∷ 3 ∷ 10 ∷ 0 ∷ []

abbrev above : (e : Stepper) → OrderTo (steps e)
above recorded = record { used = 68; lent = other with-ten; budget = 100 }
above counted = record { buf = add-bytes; used = 68; lent = other with-ten; budget = 100 }

abbrev ceiling-orders : List Order
ceiling-orders = to (steps recorded) (above recorded) ∷ to (steps counted) (above counted) ∷ to_stepper 68 own 5 ∷ to_counting add-bytes 68 own 4 ∷ to_reducer 176 7 ∷ []

-- the world after it
abbrev ceiling-after : World
ceiling-after = play ceiling-start ceiling-orders

-- one more order to each engine, of a budget that is enough, and what it is answered
abbrev last : (e : Engine) → OrderTo e
last (steps recorded) = record { used = (ceiling-after (steps recorded)).memory.used; lent = own; budget = 100 }
last (steps counted) = record { buf = add-bytes; used = 68; lent = own; budget = 100 }
last reduces = record { used = (ceiling-after reduces).memory.used; budget = 100 }

abbrev answered : Engine → RunAnswer
answered e = answer_to e (ceiling-after e).memory (last e)

-- the order that lends a value above the ceiling is refused by 16
pub refused-above : (e : Stepper) → answer_to (steps e) (ceiling-start (steps e)).memory (above e) ≡ refusal 16
unfolding ceiling-witness in_range expr_in_range bound_in_range block_in_range up_to le val padded fuelled fixed length_field kind_field k_field kind_of largest_of fields_of contents_at contents headed block_bytes block_in encode_program expr_kind expr_number bound_kind bound_number expr_from bound_from encode_block command_kind decode_command decode_block_part decode_block_step decode_block then bind at_end from_some pick word of_kind sub_of sub encode_leaf leaf_of leaf any_record_of any_record encode_record cut split pick_row first_row is_none holds or_else too_long bad_buffer bad_header bad_k bad_block block_outside bad_store stepper_by run_stepper begun values_lent is_right too_deep bad_state or_start counting_by run_counting depth_within nesting rest_at check on_rest is_last read_sum read_waiting read_here read_shut read_loop read_open read_state read_numbers holding held_at unless_none held_from unpacked decode_state form_of ceiling_bytes ceiling_field is_second edition_by edition_field block_above values_above small_values expr_literals bound_literals literals_in state_above counts_in
refused-above recorded = refl
refused-above counted = refl

-- an engine is over at the total n
pub record OverAt (e : Engine) (n : ℕ) : Type 0 where
  pub accepted : (answered e).number ≡ 0
  pub outcome : (answered e).outcome ≡ is_over
  pub total : (ceiling-after e).total + (answered e).steps ≡ n

-- all three are at 15, when the third turn's plus one is next
pub over-at-15 : (e : Engine) → OverAt e 15
unfolding ceiling-witness adding closed_atom closed_atoms closed_simple closed_in closed plays value_of unroll_rec reduce_inside reduce_let_one reduce outcome_of stop one_more go_on run_on run in_range expr_in_range bound_in_range block_in_range atom_in_range atoms_in_range simple_in_range term_in_range bound_value unroll_loop step_inside step_assign step_block step up_to lookup update from_store only except or_ref substitute_atom substitute_simple substitute refs simple_of atom_of translate le val padded fuelled fixed length_field kind_field k_field kind_of largest_of fields_of contents_at contents headed block_bytes encode_term_record block_in term_in encode_program encode_term expr_kind expr_number bound_kind bound_number expr_from bound_from encode_block block_size command_kind decode_command decode_block_part decode_block_step decode_block then bind at_end from_some pick word of_kind sub_of sub encode_leaf leaf_of leaf any_record_of any_record encode_record cut split pick_row first_row is_none holds or_else too_long bad_buffer bad_header bad_k bad_block bad_term block_outside term_outside bad_store open_term atom_kind atom_number atom_from encode_atoms decode_atoms simple_kind_if encode_simple only_atom plain_of simple_by simple_from read_simple kind_of_term term_contents term_kind_if term_kind last_term decode_term_kind decode_term_step measure_term decode_term room_for stepped_to stepper_by run_stepper reduced_to reducer_by run_reducer begun values_lent own_after used_after after_recorded after_reducer played_recorded played_reducer played advanced change order after_counted played_counted is_right too_deep bad_state or_start counted_to counting_by run_counting step_in step_sum enter_loop turn_done step_here step_state count_step depth_within nesting held_block held_loop around shut_at left_at_loop left_at_block block_numbers turn_numbers numbers rest_at place_of check on_rest is_last read_sum read_waiting read_here read_shut read_loop read_open read_state read_numbers holding held_words packed held_at unless_none held_from unpacked decode_state encode_state form_of ceiling_bytes ceiling_field is_second edition_by edition_field block_above term_above values_above small_values expr_literals bound_literals literals_in atom_numerals atoms_numerals simple_numerals numerals_in state_above counts_in
over-at-15 (steps recorded) = record { accepted = refl; outcome = refl; total = refl }
over-at-15 (steps counted) = record { accepted = refl; outcome = refl; total = refl }
over-at-15 reduces = record { accepted = refl; outcome = refl; total = refl }

add-begins : take (length add-bytes) add-bytes ≡ add-bytes
add-begins = take_all (length add-bytes) add-bytes (omega arith)

ceiling-allowed : (ps : List Order) → AllAllowed under add-bytes ps → AllAllowed under add-bytes (ceiling-orders ++ ps)
unfolding largest_of form_of
ceiling-allowed ps a = (too_large, ((too_large, add-begins), (tt, ((tt, add-begins), (tt, a)))))
  where
    too_large : ◌≡◌ {A = ℕ} 4 4 → SmallValues (ok_of under) with-ten → ⊥
    too_large e v = not-small 9 with-ten 10 (inr (inr (inl refl))) (lit< tt) v

over-stops : {o : Outcome} → o ≡ is_over → Stopped o
over-stops h = ((λ e. let z : ◌≡◌ {A = ℕ} 0 1 = cc in omega arith), (λ e. let z : ◌≡◌ {A = ℕ} 0 1 = cc in omega arith))

-- so the theorem applies to either stepper's answer and the reducer's
pub together-witness : (e : Stepper) → (((answered (steps e)).outcome ≡ is_over) ↔ ((answered reduces).outcome ≡ is_over))
    × ((ceiling-after (steps e)).total + (answered (steps e)).steps ≡ (ceiling-after reduces).total + (answered reduces).steps)
unfolding TogetherAnswered
together-witness e =
    together-answered e under add (7 ∷ 3 ∷ 0 ∷ 0 ∷ []) ceiling-witness ceiling-orders (ceiling-allowed [] tt) ceiling-after refl (last (steps e)) (may e) (last reduces) (answered (steps e)) (answered reduces) refl refl
    (over-at-15 (steps e)).accepted (over-at-15 reduces).accepted (over-stops (over-at-15 (steps e)).outcome) (over-stops (over-at-15 reduces).outcome)
  where
    may : (e : Stepper) → AllowedTo under add-bytes (steps e) (last (steps e))
    may recorded = tt
    may counted = (tt, add-begins)

-- and to the states that those orders leave, which read over too
abbrev lasts : List Order
lasts = to (steps recorded) (last (steps recorded)) ∷ to (steps counted) (last (steps counted)) ∷ to reduces (last reduces) ∷ []

abbrev ceiling-ended : World
ceiling-ended = play ceiling-start (ceiling-orders ++ lasts)

pub record ReadOver (e : Stepper) (x : StopTogether under add e ceiling-ended) : Type 0 where
  pub stepper : stepper_reads under e (ceiling-ended (steps e)).memory x.Q ≡ is_over
  pub reducer : reducer_reads under (ceiling-ended reduces).memory x.t ≡ is_over

pub read-over : (e : Stepper) (x : StopTogether under add e ceiling-ended) → ReadOver e x
unfolding ceiling-witness adding closed_atom closed_atoms closed_simple closed_in closed plays value_of unroll_rec reduce_inside reduce_let_one reduce outcome_of stop one_more go_on run_on run in_range expr_in_range bound_in_range block_in_range atom_in_range atoms_in_range simple_in_range term_in_range bound_value unroll_loop step_inside step_assign step_block step up_to lookup update from_store only except or_ref substitute_atom substitute_simple substitute state_of refs simple_of atom_of translate le val padded fuelled fixed length_field kind_field k_field kind_of largest_of fields_of contents_at contents headed block_bytes encode_term_record block_in term_in encode_program encode_term expr_kind expr_number bound_kind bound_number expr_from bound_from encode_block block_size command_kind decode_command decode_block_part decode_block_step decode_block then bind at_end from_some pick word of_kind sub_of sub encode_leaf leaf_of leaf any_record_of any_record encode_record cut split pick_row first_row is_none holds or_else too_long bad_buffer bad_header bad_k bad_block bad_term block_outside term_outside bad_store open_term atom_kind atom_number atom_from encode_atoms decode_atoms simple_kind_if encode_simple only_atom plain_of simple_by simple_from read_simple kind_of_term term_contents term_kind_if term_kind last_term decode_term_kind decode_term_step measure_term decode_term room_for stepped_to stepper_by run_stepper reduced_to reducer_by run_reducer begun values_lent own_after used_after after_recorded after_reducer played_recorded played_reducer played advanced change order after_counted played_counted is_right too_deep bad_state or_start counted_to counting_by run_counting step_in step_sum enter_loop turn_done step_here step_state count_step depth_within nesting held_block held_loop around shut_at left_at_loop left_at_block block_numbers turn_numbers numbers rest_at place_of check on_rest is_last read_sum read_waiting read_here read_shut read_loop read_open read_state read_numbers holding held_words packed held_at unless_none held_from unpacked decode_state encode_state form_of ceiling_bytes ceiling_field is_second edition_by edition_field block_above term_above values_above small_values expr_literals bound_literals literals_in atom_numerals atoms_numerals simple_numerals numerals_in state_above counts_in turns_around expand
read-over e x = record {
  stepper = subst (λ (Q : Block). stepper_reads under e (ceiling-ended (steps e)).memory Q ≡ is_over) (block_at e x.Q x.stepper_holds x.program_words) (block-over e);
  reducer = subst (λ (t : Term). reducer_reads under (ceiling-ended reduces).memory t ≡ is_over) (term-at x.t x.reducer_holds x.term_words) refl;
}
  where
    -- the block and the store, by the bytes and by the words
    third : Config
    third = record { block = nest (assign 3 (inc 3) empty) empty; store = 7 ∷ 3 ∷ 9 ∷ 3 ∷ [] }

    fits : HeaderFits under
    fits = (accepted-program under add (7 ∷ 3 ∷ 0 ∷ 0 ∷ []) ceiling-witness).header

    block-over : (e : Stepper) → stepper_reads under e (ceiling-ended (steps e)).memory third.block ≡ is_over
    block-over recorded = refl
    block-over counted = refl

    block_at : (e : Stepper) (Q : Block) → HoldsBlock under add e (ceiling-ended (steps e)).memory Q → BlockWords Q → third.block ≡ Q
    block_at recorded Q h w =
        let m = (ceiling-ended (steps recorded)).memory in
        some-injective third.block Q (block-is {buf = m.buf} {used = m.used} (record { within = lit≤ tt; header = fits; bytes = h; words = w }) (lit≤ tt))
    block_at counted Q h w = ap expand (right-injective (in_body 4 3 0 (assign 3 (inc 3) empty) (here (assign 3 (inc 3) empty)) empty) h.0 h.1) ∙ sym h.2

    term-at : (t : Term) → take (ceiling-ended reduces).memory.used (ceiling-ended reduces).memory.buf ≡ encode_term under t → TermWords 4 t → state_of 4 third ≡ t
    term-at t h w =
        let m = (ceiling-ended reduces).memory in
        some-injective (state_of 4 third) t
        (ap (term_in 4) (held-contents term under fits (encode_term_record t) m.buf m.used (lit≤ tt) h)
        ∙ term_in-bytes 4 t w (omega (arith, held-size term under fits (encode_term_record t) m.buf m.used (lit≤ tt) h, length-encode_term_record t)))

pub read-witness : (e : Stepper) → (ceiling-ended (steps e)).total ≡ (ceiling-ended reduces).total
unfolding Together
read-witness e =
    let x = together e under add (7 ∷ 3 ∷ 0 ∷ 0 ∷ []) ceiling-witness (ceiling-orders ++ lasts) (ceiling-allowed lasts (tt, ((tt, add-begins), (tt, tt)))) in
    (x.together (over-stops (read-over e x).stepper) (over-stops (read-over e x).reducer)).1

-- A WEIGHED STORE, of a load that leaves heavier: 1,370 kg and 1,500 kg are 130 apart, 10 over six twenties, so 7 by rule 2, and tare is
-- larger; into four values, for ADD

pub weighed-witness : EnginesTake (of_variables 4) add witness.check_buf 64 (7 ∷ 1 ∷ 0 ∷ 0 ∷ [])
unfolding WeighedStore witness weigh_call weighed count_of net_load tare_larger bad_size bad_rule in_range stored_by first_row pick_row up_to largest_of form_of
weighed-witness =
    weighed-store 2 1370 1500 (9 ∷ 9 ∷ 9 ∷ 9 ∷ []) refl (of_variables 4) add witness.check_buf 64 witness.checked witness.program witness.program_words witness.ceiling_word refl (refl, (refl, (refl, (refl, tt))))

-- ROOMS: ADD on 7, 4, 0, 0, both buffers of 172 bytes, as many as the term's record has

-- after 4 steps the loop is unrolled three times, and a fourth asks for 192 bytes; after one reduction the first asks for 232
pub rooms-differ : RoomsDiffer
unfolding witness adding closed_atom closed_atoms closed_simple closed_in closed value_of unroll_rec reduce_inside reduce_let_one reduce outcome_of stop one_more go_on run_on run in_range expr_in_range bound_in_range block_in_range atom_in_range atoms_in_range simple_in_range term_in_range bound_value unroll_loop step_inside step_assign step_block step up_to lookup update from_store only except or_ref substitute_atom substitute_simple substitute refs simple_of atom_of translate le val padded checked_by check_program wrote_by fuelled fixed length_field kind_field k_field kind_of largest_of fields_of contents_at contents headed block_bytes encode_term_record block_in term_in encode_program encode_term expr_kind expr_number bound_kind bound_number expr_from bound_from encode_block command_kind decode_command decode_block_part decode_block_step decode_block then bind at_end from_some pick word of_kind sub_of sub encode_leaf leaf_of leaf any_record_of any_record encode_record cut split pick_row first_row is_none holds or_else too_long bad_buffer bad_header bad_k bad_block bad_term block_outside term_outside bad_store open_term atom_kind atom_number atom_from encode_atoms decode_atoms simple_kind_if encode_simple only_atom plain_of simple_by simple_from read_simple kind_of_term term_contents term_kind_if term_kind last_term decode_term_kind decode_term_step measure_term decode_term room_for substitute_call substituted_by stepped_to stepper_by run_stepper reduced_to reducer_by run_reducer budget form_of ceiling_bytes ceiling_field is_second edition_by edition_field block_above term_above values_above small_values expr_literals bound_literals literals_in atom_numerals atoms_numerals simple_numerals numerals_in
rooms-differ = record {
  header = of_variables 4;
  program = add;
  store = 7 ∷ 4 ∷ 0 ∷ 0 ∷ [];
  start = record {
    check_buf = witness.check_buf;
    check_used = witness.check_used;
    checked = witness.checked;
    program = witness.program;
    program_words = witness.program_words;
    ceiling_word = witness.ceiling_word;
    term_buf = witness.term_buf;
    term_used = witness.term_used;
    term = witness.term;
    substituted = refl;
    stepper_buf = padded 172 (encode_program (of_variables 4) add);
    stepper_begins = refl;
    reducer_buf = encode_term (of_variables 4) (substitute (from_store (7 ∷ 4 ∷ 0 ∷ 0 ∷ [])) (translate 4 add));
    reducer_used = 172;
    reducer_fits = lit≤ tt;
    reducer_begins = refl;
  };
  same_length = refl;
  stepper_total = 4;
  reducer_total = 1;
  stepper_stops = record { outcome = refl; steps = refl };
  reducer_stops = record { outcome = refl; steps = refl };
  differ = λ e. omega arith;
}

-- A BATCH with every outcome (02 C-16), its reducer's buffer 384 bytes long: ADD on P1's store, on P3's, which goes over, on 0, 1000, which
-- has room for three turns, and on P1's again with a step less than it takes
pub batch-witness : run_batch program 64 (replicate 172 9) (replicate 384 9) (1000000 ∷ 1000000 ∷ 1000000 ∷ 17 ∷ [])
    (7 ∷ 3 ∷ 0 ∷ 0 ∷ largest_of (of_variables 4) ∷ 1 ∷ 0 ∷ 0 ∷ 0 ∷ 1000 ∷ 0 ∷ 0 ∷ 7 ∷ 3 ∷ 0 ∷ 0 ∷ []) (replicate 24 9)
    ≡ record {
      number = 0;
      used = 172;
      term = encode_term (of_variables 4) (translate 4 add);
      work = replicate 384 0;
      answers = 1 ∷ 18 ∷ 7 ∷ 3 ∷ 10 ∷ 3 ∷ 2 ∷ 5 ∷ 0 ∷ 0 ∷ 0 ∷ 0 ∷ 3 ∷ 4 ∷ 0 ∷ 0 ∷ 0 ∷ 0 ∷ 4 ∷ 17 ∷ 0 ∷ 0 ∷ 0 ∷ 0 ∷ [];
    }
unfolding adding closed_atom closed_atoms closed_simple closed_in closed value_of unroll_rec reduce_inside reduce_let_one reduce on_next or_stop outcome_of stop one_more go_on run_on run in_range expr_in_range bound_in_range block_in_range atom_in_range atoms_in_range simple_in_range term_in_range up_to from_store only except or_ref substitute_atom substitute_simple substitute refs simple_of atom_of translate le val padded stored_by fuelled fixed length_field kind_field k_field kind_of largest_of fields_of contents_at contents headed block_bytes encode_term_record block_in term_in encode_program encode_term expr_kind expr_number bound_kind bound_number expr_from bound_from encode_block block_size command_kind decode_command decode_block_part decode_block_step decode_block then bind at_end from_some pick word of_kind sub_of sub encode_leaf leaf_of leaf any_record_of any_record encode_record cut split pick_row first_row is_none holds or_else too_long bad_buffer bad_header bad_k bad_block bad_term block_outside term_outside bad_store open_term finished_term unfinished atom_kind atom_number atom_from encode_atoms decode_atoms simple_kind_if encode_simple simple_size only_atom plain_of simple_by simple_from read_simple kind_of_term term_contents term_size term_kind_if term_kind last_term decode_term_kind decode_term_step measure_term decode_term outcome_number room_for too_short substitute_call substituted_by given replaced replaced_atom replaced_atoms replaced_simple replaced_let_one replaced_let_all replaced_next or_zero replaced_sum numerals result_call reduced_to reducer_by run_reducer flat_map jobs run_alone end_values answer_of answers_of bad_batch bad_values longer_than_either batch_by run_batch form_of ceiling_bytes ceiling_field is_second edition_by edition_field block_above term_above values_above small_values expr_literals bound_literals literals_in atom_numerals atoms_numerals simple_numerals numerals_in
batch-witness = refl
