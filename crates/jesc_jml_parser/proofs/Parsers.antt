-- What is known of the parsers of expressions, of specifications, and of members in annotations.
use Rattle.std.proofs.Common.{Bool, true, refl, arith, inl, inr}
use Rattle.jesc_ast.specs.Expressions.{SpellsExpression}
use Rattle.jesc_ast.specs.Specifications.{SpellsSpec}
use Rattle.jesc_ast.specs.Depth.{depth, of_cases, of_member, IsWithinLimits, IsSpecWithinLimits, IsMemberWithinLimits}
use Rattle.jesc_jml_grammar.specs.Reading.{at_first, turns}
use Rattle.jesc_jml_grammar.specs.ClauseFound.{sized}
use Rattle.jesc_jml_parser.specs.Annotations.{SpellsAnnotation}
use Rattle.jesc_jml_parser.specs.laws.Given.{whole, parsed_tree, sized_tree}
use Rattle.jesc_jml_parser.specs.laws.Stable.{refines_expr}
use Rattle.jesc_jml_parser.specs.laws.Whole.{found, only, unexpected, deep, parsed_of}
use Rattle.jesc_jml_parser.specs.laws.DeepPlaces.{deep_place}
use Rattle.jesc_jml_parser.specs.laws.ClauseWhole.{spec_parser, member_parser, spec_exact, member_exact, spec_found, spec_only, spec_unexpected, spec_deep, member_found, member_only, member_unexpected, member_deep}
use Rattle.jesc_jml_parser.specs.laws.ClauseDeepPlaces.{spec_deep_place, member_deep_place}
use Rattle.jesc_jml_parser.proofs.Answered.{Parses}

pub expression_parses : (note : Bool) → Parses parsed_tree note (SpellsExpression note) IsWithinLimits (whole note)
expression_parses note = record {
  stable = refines_expr true note turns turns (omega arith) 200 200 (omega arith) (λ t. refl) 3 3 (omega arith) (λ t. refl) 1 at_first;
  found = found note turns;
  only = λ ts e n few is. (parsed_of e, only note turns ts e n (omega (arith, few)) is, refl);
  unexpected = unexpected note turns 200 3;
  deep = deep note turns;
  place = λ ts n is. elim (deep_place note turns 200 3 1 ts n is) [ inl word ↦ inl word | inr late ↦ inr (omega (arith, late)) ];
}

pub spec_parses : Parses sized_tree true SpellsSpec IsSpecWithinLimits (spec_parser turns 200 3)
spec_parses = record {
  stable = spec_exact.refines true turns turns (omega arith) 200 200 (omega arith) (λ t. refl) 3 3 (omega arith) (λ t. refl);
  found = spec_found turns;
  only = λ ts t n few is. (sized t (of_cases depth 1 t.cases), spec_only turns ts t n few is, refl);
  unexpected = spec_unexpected turns 200 3;
  deep = spec_deep turns;
  place = spec_deep_place turns 200 3;
}

pub member_parses : Parses sized_tree true SpellsAnnotation IsMemberWithinLimits (member_parser turns 200 3)
member_parses = record {
  stable = member_exact.refines true turns turns (omega arith) 200 200 (omega arith) (λ t. refl) 3 3 (omega arith) (λ t. refl);
  found = member_found turns;
  only = λ ts t n few is. (sized t (of_member depth 1 t.form), member_only turns ts t n few is, refl);
  unexpected = member_unexpected turns 200 3;
  deep = member_deep turns;
  place = member_deep_place turns 200 3;
}
