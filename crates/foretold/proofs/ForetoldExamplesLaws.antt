-- The examples of a forecast: one theorem over one list, by computing. It computes, so it unfolds what it meets.
use mathlib.Core.Path.{refl, ◌≡◌}
use mathlib.Core.List.{map}
use Rattle.buffer.specs.LittleEndian.{le, val}
use Rattle.forecast.specs.Figures.{assign_weight, figures, longest_of, loop_longest, loop_steps, program_weights, steps_of, term_weights, turn_weight, weigh}
use Rattle.forecast.specs.Forecast.{bound_assigned, figure_too_large, forecast_by, forecast_call, some_too_large, too_large}
use Rattle.forecast.specs.Steady.{assigned, bound_outside, bounds_outside, steady}
use Rattle.record.specs.Fix.{fixed, fuelled}
use Rattle.record.specs.Header.{block_bytes, block_in, ceiling_bytes, ceiling_field, contents, contents_at, edition_by, edition_field, encode_program, fields_of, form_of, headed, is_second, k_field, kind_field, kind_of, largest_of, length_field}
use Rattle.record.specs.Program.{block_size, bound_from, bound_kind, bound_number, command_kind, decode_block, decode_block_part, decode_block_step, decode_command, encode_block, expr_from, expr_kind, expr_number}
use Rattle.record.specs.Reading.{any_record, any_record_of, at_end, bind, encode_leaf, from_some, leaf, leaf_of, of_kind, pick, sub, sub_of, then, word}
use Rattle.record.specs.Record.{cut, encode_record, split}
use Rattle.record.specs.Rows.{bad_block, bad_buffer, bad_header, bad_k, bad_store, block_above, block_outside, first_row, holds, is_none, or_else, pick_row, too_long, values_above}
use Rattle.rules.specs.Evaluate.{assign_steps}
use Rattle.rules.specs.Literals.{bound_literals, expr_literals, literals_in, small_values}
use Rattle.rules.specs.Scope.{block_in_range, bound_in_range, expr_in_range, in_range}
use Rattle.rules.specs.Step.{bound_value}
use Rattle.rules.specs.Store.{lookup, up_to}
use Rattle.foretold.specs.ForetoldExamples.{Example, examples, shown}

pub forecasts-hold : map shown examples ≡ map (λ (e : Example). e.expected) examples
unfolding shown examples le val fixed fuelled block_bytes block_in ceiling_bytes ceiling_field contents contents_at edition_by edition_field encode_program fields_of form_of headed is_second k_field kind_field kind_of largest_of length_field block_size bound_from bound_kind bound_number command_kind decode_block decode_block_part decode_block_step decode_command encode_block expr_from expr_kind expr_number any_record any_record_of at_end bind encode_leaf from_some leaf leaf_of of_kind pick sub sub_of then word cut encode_record split bad_block bad_buffer bad_header bad_k bad_store block_above block_outside first_row holds is_none or_else pick_row too_long values_above assign_steps bound_literals expr_literals literals_in small_values block_in_range bound_in_range expr_in_range in_range bound_value lookup up_to assign_weight figures longest_of loop_longest loop_steps program_weights steps_of term_weights turn_weight weigh bound_assigned figure_too_large forecast_by forecast_call some_too_large too_large assigned bound_outside bounds_outside steady
forecasts-hold = refl
