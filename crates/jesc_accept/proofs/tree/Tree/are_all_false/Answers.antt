use Rattle.std.proofs.Common.{◌≡◌, ◌∙◌, subst, sym, reverse}
use Rattle.jesc_accept.specs.Branches.{Branch, AreFalseOn}
use Rattle.jesc_accept.specs.States.{beside}
use Rattle.jesc_accept.proofs.Besides.{opened, first_is}
use Rattle.jesc_accept.proofs.tree.Tree.are_all_false.Goals as goal

pub returns-then-self : goal.returns-then-self
returns-then-self c =
    let t = c.args.self.now in
    let F = λ (b : Branch). AreFalseOn b c.args.literals.now in
    let v : c.deref.result.now ≡ t.values.items = c.deref.ensures.value in (
      (λ e. (t.values.items, beside t.values.items (reverse t.trail.items), (opened t c.if-self.true, subst F v (c.all_narrow_false.ensures.0 e)))),
      (λ w. c.all_narrow_false.ensures.1 (subst F (sym (v ∙ first_is t w.0 w.1 c.if-self.true w.2.0)) w.2.1)),
    )
