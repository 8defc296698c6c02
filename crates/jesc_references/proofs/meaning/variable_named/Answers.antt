use Rattle.std.proofs.Common.{◌<◌, Some, IfSome, cond, length, sym, ap, ◌∙◌, subst, take}
use Rattle.jesc_references.specs.Known.{last_from}
use Rattle.jesc_references.proofs.Variables.{last_step, names_of}
use Rattle.jesc_references.proofs.meaning.variable_named.Goals as goal
use Rattle.jesc_references.proofs.meaning.variable_named.Goals.{then-eq, else-eq}

pub loop-i-preserved : goal.loop-i-preserved
loop-i-preserved c =
    let vs = c.args.variables.now in
    let i = c.loop-i.i in
    let before = last_from 0 c.args.name.now (take i (names_of vs)) in
    let step = last_step c.args.name.now vs i _ c.loop-i-test.true in
    elim c.if-eq.branch [
      | then-eq w ↦ (w.last-is ∙ sym (step ∙ ap (λ b. cond b (Some i) before) (sym c.eq.ensures ∙ w.if-eq.true)), subst (λ l. IfSome l (λ k. k < length vs)) (sym w.last-is) c.loop-i-test.true)
      | else-eq w ↦ (w.last-is ∙ (c.loop-i.invariant.0 ∙ sym (step ∙ ap (λ b. cond b (Some i) before) (sym c.eq.ensures ∙ w.if-eq.false))), subst (λ l. IfSome l (λ k. k < length vs)) (sym w.last-is) c.loop-i.invariant.1)
    ]
