use Rattle.std.proofs.Common.{IfOk}
use Rattle.jesc_cert.specs.declared.cert.CertLine.{CertLine}
use Rattle.jesc_cert.specs.declared.cert.CertKind.TheVariants.{T, G, R, Q}
use Rattle.jesc_accept.specs.States.{Takes}
use Rattle.jesc_accept.proofs.SameLines.{of_line}
use Rattle.jesc_accept.proofs.tables.Tables.take.Goals as goal

pub returns-in-Q : goal.returns-in-Q
returns-in-Q c = of_line (λ (l : CertLine). IfOk c.take_step.result (Takes c.args.self.now l c.take_step.new.self)) c.args.line.now Q _ c.in-Q.is c.as_slice.ensures c.take_step.ensures

pub returns-in-T : goal.returns-in-T
returns-in-T c = of_line (λ (l : CertLine). IfOk c.take_atom.result (Takes c.args.self.now l c.take_atom.new.self)) c.args.line.now T _ c.in-T.is c.as_slice-in-T.ensures c.take_atom.ensures

pub returns-in-G : goal.returns-in-G
returns-in-G c = of_line (λ (l : CertLine). IfOk c.take_congruence.result (Takes c.args.self.now l c.take_congruence.new.self)) c.args.line.now G _ c.in-G.is c.as_slice-in-G.ensures c.take_congruence.ensures

pub returns-in-R : goal.returns-in-R
returns-in-R c = of_line (λ (l : CertLine). IfOk c.take_linear.result (Takes c.args.self.now l c.take_linear.new.self)) c.args.line.now R _ c.in-R.is c.as_slice-in-R.ensures c.take_linear.ensures
