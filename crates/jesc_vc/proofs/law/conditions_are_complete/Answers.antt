use Rattle.jesc_vc.proofs.Whole.{asked_complete}
use Rattle.jesc_vc.proofs.law.conditions_are_complete.Goals as goal

pub returns : goal.returns
returns c = λ core proper s short failure turns r.
    let a = asked_complete core proper s short failure turns r in
    record { condition = a.condition; there = a.there; turns_are = a.turns_are; failure_is = a.failure_is; other = a.extends.to; agrees = a.extends.agrees; met = a.extends.met }
