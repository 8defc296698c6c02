use Rattle.std.proofs.Common.{subst}
use Rattle.jesc_logic.specs.Terms.{Term, StandsFor}
use Rattle.jesc_arithmetic.specs.Rules.{place_term}
use Rattle.jesc_arithmetic.proofs.Saying.{same_place, says_equal}
use Rattle.jesc_arithmetic.proofs.rule.equal.Goals as goal

pub returns-clause-says : goal.returns-clause-says
returns-clause-says c =
    let old = c.args.terms.now in
    let mid = c.term_of.new.terms in
    let new = c.term_of-2.new.terms in
    let parts = c.args.parts.now in
    let first = c.in_ok-y.ensures.keeps.keeps c.in_ok-x.x.0 (place_term old parts c.args.a) c.in_ok-x.ensures.term in
    let second : StandsFor new c.in_ok-y.y (place_term old parts c.args.b) = subst (λ (t : Term). StandsFor new c.in_ok-y.y t) (same_place old mid c.in_ok-x.ensures.keeps parts c.requires c.args.b) c.in_ok-y.ensures.term in
    says_equal new c.in_ok-x.x c.in_ok-y.y (place_term old parts c.args.a) (place_term old parts c.args.b) first second c.made.result c.made.ensures
