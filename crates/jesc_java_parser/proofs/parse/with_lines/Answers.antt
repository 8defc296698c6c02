use Rattle.std.proofs.Common.{sym, subst}
use Rattle.jesc_ast.specs.Lines.{IsLines}
use Rattle.jesc_ast.specs.laws.Places.{lines_rise}
use Rattle.jesc_java_parser.proofs.parse.with_lines.Goals as goal

pub invariant_of-result : goal.invariant_of-result
invariant_of-result c = let rise : IsLines _ = subst IsLines (sym c.in_ok-lines.ensures) (lines_rise c.args.text.now) in record { line_starts = ∣ rise ∣₁ }
