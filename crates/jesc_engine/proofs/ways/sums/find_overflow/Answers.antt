use Rattle.std.proofs.Common.{◌∷◌, [], List, refl, subst, sym}
use Rattle.std.specs.Prelude.{None}
use Rattle.jesc_first.specs.declared.check.Kind.TheVariants.{Overflow}
use Rattle.jesc_engine.specs.declared.answer.Finding.{Finding}
use Rattle.jesc_engine.specs.Ways.{Obligation, operation_ways}
use Rattle.jesc_engine.specs.Walk.{Extends}
use Rattle.jesc_engine.proofs.AnswerLists.{extends_one}
use Rattle.jesc_engine.proofs.ways.sums.find_overflow.Goals as goal

pub returns-clause-findings : goal.returns-clause-findings
returns-clause-findings c =
    let o : Obligation = record {
      check = record { kind = Overflow; at = c.args.operation.at; by = None };
      ways = operation_ways c.args.facts.now c.args.x c.args.operation.operator c.args.y;
    } in
    let f : Finding = record { check = o.check; answer = c.in_ok-atom.answer } in
    subst (λ (now : List Finding). Extends (o ∷ []) c.args.findings.now now) (sym c.in_ok-push.ensures.ok)
    (extends_one o f c.args.findings.now refl c.in_ok-atom.ensures.1)
