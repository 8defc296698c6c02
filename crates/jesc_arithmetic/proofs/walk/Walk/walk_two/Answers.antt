use Rattle.jesc_logic.specs.Terms.{term_at}
use Rattle.jesc_arithmetic.specs.Occurrences.{terms_within}
use Rattle.jesc_arithmetic.proofs.Saying.{on_ok}
use Rattle.jesc_arithmetic.proofs.Walked.{walked_on}
use Rattle.jesc_arithmetic.proofs.walk.Walk.walk_two.Goals as goal

pub returns : goal.returns
returns c =
    let table = c.args.terms.now in
    on_ok _ _ (walked_on table c.args.self.now c.walk_term.new.self c.walk_term-2.new.self (terms_within (term_at table c.args.a)) (terms_within (term_at table c.args.b)) c.in_ok-walk_term.ensures) c.walk_term-2.result c.walk_term-2.ensures
