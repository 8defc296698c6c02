use Rattle.std.proofs.Common.{◌≤◌, length, ap, ◌∙◌, arith}
use Rattle.jesc_ast.specs.Lines.{lines_of}
use Rattle.jesc_jml_parser.proofs.Spanned.{are_within, are_few}
use Rattle.jesc_jml_parser.proofs.Answered.{fewer_turns}
use Rattle.jesc_java_parser.proofs.FileAnswered.{found_is, answer_is, memory_told, refusal_is}
use Rattle.jesc_java_parser.proofs.parse.parse_file.Goals as goal

pub read_unit-requires : goal.read_unit-requires
read_unit-requires c = are_within _ _ c.requires.spans

pub error_of-requires-clause-within : goal.error_of-requires-clause-within
error_of-requires-clause-within c = are_within _ _ c.requires.spans

pub returns-in_ok-with_lines-in-Ok-clause-found : goal.returns-in_ok-with_lines-in-Ok-clause-found
returns-in_ok-with_lines-in-Ok-clause-found c =
    found_is c.args.tokens.now c.in-Ok.unit c.in-Ok.ensures _ c.in_ok-with_lines-in-Ok.ensures.view (c.in_ok-with_lines-in-Ok.ensures.lines ∙ ap lines_of c.as_slice.ensures)

pub returns-in_ok-with_lines-in-Ok-clause-only : goal.returns-in_ok-with_lines-in-Ok-clause-only
returns-in_ok-with_lines-in-Ok-clause-only c t spelled within =
    let few : length c.args.tokens.now.list ≤ 1048576 = omega (arith, are_few _ _ c.requires.spans, c.requires.short) in
    c.in_ok-with_lines-in-Ok.ensures.view ∙ answer_is c.args.tokens.now (fewer_turns _ few) c.in-Ok.unit c.in-Ok.ensures t spelled within

pub returns-in-Err-clause-only : goal.returns-in-Err-clause-only
returns-in-Err-clause-only c =
    let few : length c.args.tokens.now.list ≤ 1048576 = omega (arith, are_few _ _ c.requires.spans, c.requires.short) in
    memory_told c.args.tokens.now (fewer_turns _ few) c.in-Err.error c.in-Err.ensures c.error_of.result c.error_of.ensures

pub returns-in-Err-clause-refused : goal.returns-in-Err-clause-refused
returns-in-Err-clause-refused c = refusal_is c.args.tokens.now c.in-Err.error c.in-Err.ensures c.error_of.result c.error_of.ensures
