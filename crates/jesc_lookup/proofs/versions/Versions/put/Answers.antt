use Rattle.std.proofs.Common.{◌∙◌, ap, get_or, subst}
use Rattle.jesc_lookup.specs.Tries.{maps_of, IsPut}
use Rattle.jesc_lookup.proofs.TrieVersions.{first_version, key_inside, kept_are, kept_maps, next_are, next_maps, on_err}
use Rattle.jesc_lookup.proofs.versions.Versions.put.Goals as goal

pub put_in-requires-clause-key : goal.put_in-requires-clause-key
put_in-requires-clause-key c =
    let i = c.self.inside in
    key_inside i.bits i.nodes i.list c.args.self.now c.args.version c.args.key c.self.view_is c.requires.version c.requires.key

pub invariant_of-self : goal.invariant_of-self
invariant_of-self c = let i = c.self.inside in kept_are i.bits i.nodes c.put_in.new.nodes i.list c.put_in.ensures.kept c.self.invariant

pub returns-in_err-next-clause-err : goal.returns-in_err-next-clause-err
returns-in_err-next-clause-err c =
    let i = c.self.inside in on_err c.from_residual.result _ (kept_maps i.bits i.nodes c.put_in.new.nodes i.list c.put_in.ensures.kept c.self.invariant.tries ∙ c.self.view_is)

pub invariant_of-self-in_err-push : goal.invariant_of-self-in_err-push
invariant_of-self-in_err-push c =
    let i = c.self.inside in rw c.in_err-push.ensures.err (kept_are i.bits i.nodes c.put_in.new.nodes i.list c.put_in.ensures.kept c.self.invariant)

pub returns-in_err-push-clause-err : goal.returns-in_err-push-clause-err
returns-in_err-push-clause-err c =
    let i = c.self.inside in
    on_err c.from_residual-in_err-push.result _
    (ap (maps_of i.bits c.put_in.new.nodes) c.in_err-push.ensures.err ∙ kept_maps i.bits i.nodes c.put_in.new.nodes i.list c.put_in.ensures.kept c.self.invariant.tries ∙ c.self.view_is)

pub invariant_of-self-2 : goal.invariant_of-self-2
invariant_of-self-2 c =
    let i = c.self.inside in
    let put = subst (λ xs. IsPut i.bits i.nodes (get_or xs c.args.version first_version).root c.args.key c.args.value c.put_in.new.nodes c.in_ok-next.next) c.as_slice-list.ensures c.in_ok-next.ensures.put in
    next_are i.bits i.nodes c.put_in.new.nodes i.list c.push.new.self c.args.self.now c.args.version c.args.key c.args.value c.in_ok-next.next c.put_in.ensures.kept c.self.invariant c.self.view_is c.requires.version c.requires.key put
    c.in_ok-push.ensures.ok

pub returns-clause-ok : goal.returns-clause-ok
returns-clause-ok c =
    let i = c.self.inside in
    let put = subst (λ xs. IsPut i.bits i.nodes (get_or xs c.args.version first_version).root c.args.key c.args.value c.put_in.new.nodes c.in_ok-next.next) c.as_slice-list.ensures c.in_ok-next.ensures.put in
    next_maps i.bits i.nodes c.put_in.new.nodes i.list c.push.new.self c.args.self.now c.args.version c.args.key c.args.value c.in_ok-next.next c.put_in.ensures.kept c.self.invariant c.self.view_is c.requires.version put
    c.in_ok-push.ensures.ok
