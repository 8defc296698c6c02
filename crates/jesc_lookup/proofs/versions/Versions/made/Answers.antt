use Rattle.std.proofs.Common.{◌∙◌, [], ap, get_or, subst, sym}
use Rattle.jesc_lookup.specs.Maps.{at}
use Rattle.jesc_lookup.specs.Tries.{IsMade}
use Rattle.jesc_lookup.proofs.TrieVersions.{first_version, size_of, there}
use Rattle.jesc_lookup.proofs.versions.Versions.made.Goals as goal

pub returns-clause-small : goal.returns-clause-small
returns-clause-small c v l = let i = c.self.inside in size_of i.bits i.nodes i.list c.args.self.now v c.self.view_is l c.self.invariant.low

pub returns-clause-first : goal.returns-clause-first
returns-clause-first c key = ap (λ ms. at (get_or ms 0 []) key) (sym c.self.view_is) ∙ c.self.invariant.made.first key

pub returns-clause-each : goal.returns-clause-each
returns-clause-each c p =
    let i = c.self.inside in
    let l = there i.bits i.nodes i.list c.args.self.now c.args.version c.self.view_is c.requires.version in
    subst (λ xs. IsMade c.args.self.now c.args.version (get_or xs c.args.version first_version)) (sym c.as_slice-list.ensures)
    (subst (λ ms. IsMade ms c.args.version (get_or i.list c.args.version first_version)) c.self.view_is (c.self.invariant.made.each c.args.version first_version p l))
