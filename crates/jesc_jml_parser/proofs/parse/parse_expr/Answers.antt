use Rattle.std.proofs.Common.{◌≤◌, length, arith}
use Rattle.jesc_jml_parser.proofs.Spanned.{are_within, are_few}
use Rattle.jesc_jml_parser.proofs.Answered.{found_is, answer_is, memory_told, refusal_is, fewer_turns}
use Rattle.jesc_jml_parser.proofs.Parsers.{expression_parses}
use Rattle.jesc_ast.specs.Trees.{view}
use Rattle.jesc_jml_parser.proofs.parse.parse_expr.Goals as goal

pub read_expr-requires-clause-within : goal.read_expr-requires-clause-within
read_expr-requires-clause-within c = are_within _ _ c.requires.spans

pub read_expr-requires-clause-few : goal.read_expr-requires-clause-few
read_expr-requires-clause-few c = omega (arith, are_few _ _ c.requires.spans, c.requires.short)

pub error_of-requires-clause-within : goal.error_of-requires-clause-within
error_of-requires-clause-within c = are_within _ _ c.requires.spans

pub returns-in-Ok-clause-found : goal.returns-in-Ok-clause-found
returns-in-Ok-clause-found c = found_is view (expression_parses c.args.note) c.args.tokens.now c.args.from c.requires.from c.in-Ok.found c.in-Ok.ensures

pub returns-in-Ok-clause-only : goal.returns-in-Ok-clause-only
returns-in-Ok-clause-only c =
    let few : length c.args.tokens.now.list ≤ 1048576 = omega (arith, are_few _ _ c.requires.spans, c.requires.short) in
    answer_is view (expression_parses c.args.note) c.args.tokens.now c.args.from c.requires.from (fewer_turns _ few) c.in-Ok.found c.in-Ok.ensures

pub returns-in-Err-clause-only : goal.returns-in-Err-clause-only
returns-in-Err-clause-only c =
    let few : length c.args.tokens.now.list ≤ 1048576 = omega (arith, are_few _ _ c.requires.spans, c.requires.short) in
    memory_told view (expression_parses c.args.note) c.args.tokens.now c.args.from c.requires.from (fewer_turns _ few) c.in-Err.error c.in-Err.ensures c.error_of.result c.error_of.ensures

pub returns-in-Err-clause-refused : goal.returns-in-Err-clause-refused
returns-in-Err-clause-refused c =
    refusal_is view (expression_parses c.args.note) c.args.tokens.now c.args.from c.requires.from c.in-Err.error c.in-Err.ensures c.error_of.result c.error_of.ensures
