use Rattle.std.proofs.Common.{true, Bool, get_or, refl, subst, ◌∙◌}
use Rattle.jesc_cert.specs.declared.cert.CertLine.{CertLine}
use Rattle.jesc_accept.specs.Moves.{none}
use Rattle.jesc_accept.specs.States.{Takes, state_of}
use Rattle.jesc_accept.proofs.LinesOn.{front_more}
use Rattle.jesc_accept.proofs.judge.take_front.Goals as goal

pub loop-n-init : goal.loop-n-init
loop-n-init c = record { same = refl; moves = none (state_of c.args.tables.now) }

pub loop-n-preserved : goal.loop-n-preserved
loop-n-preserved c =
    let line = c.index-lines-n-in-loop-n.result in
    let taken : Takes c.loop-n.tables (get_or c.args.lines.now c.loop-n.n line) c.take.new.self true =
    subst (λ (l : CertLine). Takes c.loop-n.tables l c.take.new.self true) c.index-lines-n-in-loop-n.is
    (subst (λ (b : Bool). Takes c.loop-n.tables line c.take.new.self b) c.if-not-branch.false c.in_ok-take.ensures) in
    record {
      same = taken.0 ∙ c.loop-n.invariant.same;
      moves = front_more c.args.tables.now c.loop-n.tables c.take.new.self c.args.lines.now c.loop-n.n line c.loop-n.invariant.same c.loop-n-test.true c.loop-n.invariant.moves taken;
    }
