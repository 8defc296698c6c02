use Rattle.std.proofs.Common.{sym, ◌∙◌, subst}
use Rattle.jesc_logic.specs.Claims.{shape}
use Rattle.jesc_logic.proofs.Shapes.{and_is, or_is}
use Rattle.jesc_clauses.specs.Formulas.{HasReadIn}
use Rattle.jesc_clauses.proofs.Wide.{on_ok}
use Rattle.jesc_clauses.proofs.Walking.{both_read, either_read}
use Rattle.jesc_clauses.proofs.reader.Reader.+read_formula.Goals as goal

pub returns-in_ok-read_formula-in-And-clause-read : goal.returns-in_ok-read_formula-in-And-clause-read
returns-in_ok-read_formula-in-And-clause-read t c =
    let table = c.args.terms.now in
    let x = c.in-And in
    let mid = c.read_formula-in-And.new.self in
    let last = c.read_formula-in-And-2.new.self in
    let e = and_is c.args.f.now x.g x.h (sym c.get.ensures ∙ x.is) in
    on_ok _ _
    (λ k. subst (HasReadIn table c.args.self.now.sums last.sums c.args.self.now.opaques last.opaques) (sym e)
    (both_read table c.args.self.now.sums mid.sums last.sums c.args.self.now.opaques mid.opaques last.opaques (shape x.g) (shape x.h) c.in_ok-read_formula-in-And.ensures.read k))
    c.read_formula-in-And-2.result c.read_formula-in-And-2.ensures.read

pub returns-in_ok-read_formula-in-Or-clause-read : goal.returns-in_ok-read_formula-in-Or-clause-read
returns-in_ok-read_formula-in-Or-clause-read t c =
    let table = c.args.terms.now in
    let x = c.in-Or in
    let mid = c.read_formula-in-Or.new.self in
    let last = c.read_formula-in-Or-2.new.self in
    let e = or_is c.args.f.now x.g x.h (sym c.get.ensures ∙ x.is) in
    on_ok _ _
    (λ k. subst (HasReadIn table c.args.self.now.sums last.sums c.args.self.now.opaques last.opaques) (sym e)
    (either_read table c.args.self.now.sums mid.sums last.sums c.args.self.now.opaques mid.opaques last.opaques (shape x.g) (shape x.h) c.in_ok-read_formula-in-Or.ensures.read k))
    c.read_formula-in-Or-2.result c.read_formula-in-Or-2.ensures.read
