-- P1 to P9: one theorem over one list, by computing. It computes, so it unfolds what it meets.
use mathlib.Core.Path.{refl, ◌≡◌}
use mathlib.Core.List.{map}
use lib.ListN.{length}
use Rattle.buffer.specs.LittleEndian.{le, val}
use Rattle.record.specs.Answers.{check_program, check_term, checked_by, padded, stored_by, too_short, wrote_by}
use Rattle.record.specs.Fix.{fixed, fuelled}
use Rattle.record.specs.Header.{block_bytes, block_in, ceiling_bytes, ceiling_field, contents, contents_at, edition_by, edition_field, encode_program, encode_term, fields_of, form_of, headed, is_second, k_field, kind_field, kind_of, largest_of, length_field, term_in}
use Rattle.record.specs.Program.{block_size, bound_from, bound_kind, bound_number, command_kind, decode_block, decode_block_part, decode_block_step, decode_command, encode_block, expr_from, expr_kind, expr_number}
use Rattle.record.specs.Reading.{any_record, any_record_of, at_end, bind, encode_leaf, from_some, leaf, leaf_of, of_kind, pick, sub, sub_of, then, word}
use Rattle.record.specs.Record.{cut, encode_record, split}
use Rattle.record.specs.Rows.{bad_block, bad_buffer, bad_header, bad_k, bad_store, bad_term, block_above, block_outside, finished_term, first_row, holds, is_none, open_term, or_else, pick_row, term_above, term_outside, too_long, unfinished, values_above}
use Rattle.record.specs.Term.{atom_from, atom_kind, atom_number, decode_atoms, decode_term, decode_term_kind, decode_term_step, encode_atoms, encode_simple, encode_term_record, kind_of_term, last_term, measure_term, only_atom, plain_of, read_simple, simple_by, simple_from, simple_kind_if, simple_size, term_contents, term_kind, term_kind_if, term_size}
use Rattle.reducer.specs.RunReducer.{reduced_to, reducer_by, run_reducer}
use Rattle.rules.specs.FreeVariables.{adding, closed, closed_atom, closed_atoms, closed_in, closed_simple}
use Rattle.rules.specs.Literals.{atom_numerals, atoms_numerals, bound_literals, expr_literals, literals_in, numerals_in, simple_numerals, small_values}
use Rattle.rules.specs.Play.{plays}
use Rattle.rules.specs.ReadBack.{block_of_source, bound_of, expr_of, read_back, same_atom, same_atoms, source, source_let_all, source_let_one, source_rec}
use Rattle.rules.specs.Reduction.{on_next, reduce, reduce_inside, reduce_let_one, unroll_rec, value_of}
use Rattle.rules.specs.Run.{go_on, iterate, one_more, or_stop, outcome_of, run, run_on, stop}
use Rattle.rules.specs.Scope.{atom_in_range, atoms_in_range, block_in_range, bound_in_range, expr_in_range, in_range, simple_in_range, term_in_range}
use Rattle.rules.specs.Step.{bound_value, step, step_assign, step_block, step_inside, unroll_loop}
use Rattle.rules.specs.Store.{lookup, minus_one, up_to, update}
use Rattle.rules.specs.Substitution.{except, from_store, only, or_ref, state_of, substitute, substitute_atom, substitute_simple}
use Rattle.rules.specs.Translation.{atom_of, refs, simple_of, translate}
use Rattle.run.specs.RunAnswer.{outcome_number, room_for}
use Rattle.stepper.specs.RunStepper.{run_stepper, stepped_to, stepper_by}
use Rattle.term.specs.Calls.{no_source, numerals, read_back_call, result_call, substitute_call, substituted_by, translate_call}
use Rattle.agreement.specs.Examples.{accepted_values, add, budget, config_of, ending_of_reducer, ending_of_stepper, expected, examples, of_variables, program_bytes_of, reducer_ending, reducer_expected, shown, shown_by, shown_from, stepper_ending, substituted_of, translated_of}

-- the lengths of ADD's two records
pub add-lengths : (length (encode_program (of_variables 4) add) ≡ 64) × (length (encode_term (of_variables 4) (translate 4 add)) ≡ 172)
unfolding encode_program encode_term headed kind_of fields_of block_bytes encode_block encode_term_record kind_of_term term_contents encode_simple encode_atoms encode_leaf encode_record expr_kind expr_number bound_kind bound_number atom_kind atom_number le translate simple_of atom_of refs form_of ceiling_bytes
add-lengths = (refl, refl)

pub examples-hold : map shown examples ≡ map expected examples
unfolding adding closed_atom closed_atoms closed_simple closed_in closed plays same_atom same_atoms expr_of bound_of source_let_one source_let_all source_rec source block_of_source read_back value_of unroll_rec reduce_inside reduce_let_one reduce on_next or_stop iterate outcome_of stop one_more go_on run_on run in_range expr_in_range bound_in_range block_in_range atom_in_range atoms_in_range simple_in_range term_in_range bound_value unroll_loop step_inside step_assign step_block step up_to minus_one lookup update from_store only except or_ref substitute_atom substitute_simple substitute state_of refs simple_of atom_of translate le val padded checked_by check_program check_term wrote_by stored_by fuelled fixed length_field kind_field k_field kind_of largest_of fields_of contents_at contents headed block_bytes encode_term_record block_in term_in encode_program encode_term expr_kind expr_number bound_kind bound_number expr_from bound_from encode_block block_size command_kind decode_command decode_block_part decode_block_step decode_block then bind at_end from_some pick word of_kind sub_of sub encode_leaf leaf_of leaf any_record_of any_record encode_record cut split pick_row first_row is_none holds or_else too_long bad_buffer bad_header bad_k bad_block bad_term block_outside term_outside bad_store open_term finished_term unfinished atom_kind atom_number atom_from encode_atoms decode_atoms simple_kind_if encode_simple simple_size only_atom plain_of simple_by simple_from read_simple kind_of_term term_contents term_size term_kind_if term_kind last_term decode_term_kind decode_term_step measure_term decode_term outcome_number room_for too_short translate_call no_source read_back_call substitute_call substituted_by numerals result_call stepped_to stepper_by run_stepper reduced_to reducer_by run_reducer shown_by budget stepper_ending reducer_ending config_of program_bytes_of translated_of substituted_of ending_of_stepper accepted_values ending_of_reducer shown_from shown reducer_expected expected examples form_of ceiling_bytes ceiling_field is_second edition_by edition_field block_above term_above values_above small_values expr_literals bound_literals literals_in atom_numerals atoms_numerals simple_numerals numerals_in
examples-hold = refl
