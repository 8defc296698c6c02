use Rattle.std.proofs.Common.{refl}
use Rattle.jesc_first.specs.declared.check.Kind.TheVariants.{Undefined}
use Rattle.jesc_first.specs.Machine.{check}
use Rattle.jesc_engine.specs.declared.answer.Finding.{Finding}
use Rattle.jesc_engine.specs.Ways.{Obligation, atom_in, trouble_ways, break_ways}
use Rattle.jesc_engine.proofs.AnswerLists.{extends_two}
use Rattle.jesc_engine.proofs.ways.conditions.find_in_condition.Goals as goal

pub returns-clause-findings : goal.returns-clause-findings
returns-clause-findings c =
    let atom = atom_in c.args.atoms.now c.args.outcome in
    let given = c.args.check in
    let trouble : Obligation = record { check = check Undefined given.at given.by; ways = trouble_ways atom c.args.facts.now c.args.condition.now } in
    let broken : Obligation = record { check = check given.kind given.at given.by; ways = break_ways atom c.args.facts.now c.args.condition.now } in
    let first : Finding = record { check = trouble.check; answer = c.in_ok-judgement.judgement.trouble } in
    let second : Finding = record { check = broken.check; answer = c.in_ok-judgement.judgement.broken } in
    extends_two trouble broken first second c.args.findings.now c.push.new.self c.push-2.new.self c.in_ok-push.ensures.ok c.in_ok-push-2.ensures.ok
    refl refl c.in_ok-judgement.ensures.trouble c.in_ok-judgement.ensures.broken
