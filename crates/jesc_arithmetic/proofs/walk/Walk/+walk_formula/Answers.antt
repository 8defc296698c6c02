use Rattle.std.proofs.Common.{sym, ap, ◌∙◌, subst}
use Rattle.jesc_logic.specs.Claims.{claim_of, over}
use Rattle.jesc_logic.specs.Terms.{term_at}
use Rattle.jesc_logic.proofs.Shapes.{and_is, or_is}
use Rattle.jesc_arithmetic.specs.Occurrences.{terms_in}
use Rattle.jesc_arithmetic.specs.Walks.{HasWalked}
use Rattle.jesc_arithmetic.proofs.Saying.{on_ok}
use Rattle.jesc_arithmetic.proofs.Walked.{walked_on}
use Rattle.jesc_arithmetic.proofs.walk.Walk.+walk_formula.Goals as goal

pub returns-in_ok-walk_formula-in-And : goal.returns-in_ok-walk_formula-in-And
returns-in_ok-walk_formula-in-And t c =
    let table = c.args.terms.now in
    let x = c.in-And in
    let old = c.args.self.now in
    let mid = c.walk_formula-in-And.new.self in
    let new = c.walk_formula-in-And-2.new.self in
    let e = ap (λ f. terms_in (over (term_at table) f)) (and_is c.args.f.now x.g x.h (sym c.get.ensures ∙ x.is)) in
    on_ok _ _
    (λ h. subst (HasWalked table old new) (sym e) (walked_on table old mid new (terms_in (claim_of table x.g)) (terms_in (claim_of table x.h)) c.in_ok-walk_formula-in-And.ensures h))
    c.walk_formula-in-And-2.result c.walk_formula-in-And-2.ensures

pub returns-in_ok-walk_formula-in-Or : goal.returns-in_ok-walk_formula-in-Or
returns-in_ok-walk_formula-in-Or t c =
    let table = c.args.terms.now in
    let x = c.in-Or in
    let old = c.args.self.now in
    let mid = c.walk_formula-in-Or.new.self in
    let new = c.walk_formula-in-Or-2.new.self in
    let e = ap (λ f. terms_in (over (term_at table) f)) (or_is c.args.f.now x.g x.h (sym c.get.ensures ∙ x.is)) in
    on_ok _ _
    (λ h. subst (HasWalked table old new) (sym e) (walked_on table old mid new (terms_in (claim_of table x.g)) (terms_in (claim_of table x.h)) c.in_ok-walk_formula-in-Or.ensures h))
    c.walk_formula-in-Or-2.result c.walk_formula-in-Or-2.ensures
