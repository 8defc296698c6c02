use Rattle.std.proofs.Common.{ℕ, List, Option, MatchOption, subst}
use Rattle.jesc_cert.specs.declared.cert.CertLine.{CertLine}
use Rattle.jesc_accept.specs.Verdicts.{IsAccepted, IsFirstBad}
use Rattle.jesc_accept.proofs.Sound.{sound}
use Rattle.jesc_accept.proofs.judge.accept.Goals as goal

pub returns-in-None-clause-sound : goal.returns-in-None-clause-sound
returns-in-None-clause-sound c =
    let lines = c.as_slice.result.now in
    let accepted : IsAccepted c.args.clauses.now lines =
    subst (λ (o : Option ℕ). MatchOption o (IsAccepted c.args.clauses.now lines) (IsFirstBad c.args.clauses.now lines)) c.in-None.is c.in_ok-first_bad.ensures in
    λ same. sound c.args.clauses.now c.args.cert.now.lines (subst (λ (ls : List CertLine). IsAccepted c.args.clauses.now ls) c.as_slice.ensures accepted)
