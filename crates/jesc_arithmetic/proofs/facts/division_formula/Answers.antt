use Rattle.jesc_logic.specs.Terms.{term_at}
use Rattle.jesc_logic.specs.laws.Keeping.{stands}
use Rattle.jesc_arithmetic.specs.Arithmetic.{whole_of}
use Rattle.jesc_arithmetic.proofs.Saying.{says_equal}
use Rattle.jesc_arithmetic.proofs.facts.division_formula.Goals as goal

pub returns-clause-says : goal.returns-clause-says
returns-clause-says c =
    let old = c.args.terms.now in
    let new = c.make_whole.new.terms in
    let a = term_at old c.args.x in
    let b = term_at old c.args.y in
    says_equal new c.args.x c.in_ok-whole.whole a (whole_of a b)
    (c.in_ok-whole.ensures.keeps.keeps c.args.x.0 a (stands old c.args.x c.requires.x)) c.in_ok-whole.ensures.term c.made.result c.made.ensures
