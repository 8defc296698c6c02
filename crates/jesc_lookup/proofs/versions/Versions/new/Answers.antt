use Rattle.std.proofs.Common.{◌∙◌, ap, ◌++◌, ◌∷◌, []}
use Rattle.jesc_lookup.proofs.TrieVersions.{first_are, first_maps, first_version}
use Rattle.jesc_lookup.proofs.versions.Versions.new.Goals as goal

pub invariant_of-result : goal.invariant_of-result
invariant_of-result c =
    first_are c.bits_of-bits.result c.push.new.self c.push-2.new.self c.bits_of-bits.ensures.low (c.in_ok-push.ensures.ok ∙ ap (λ xs. xs ++ (0, 0) ∷ []) c.new-nodes.ensures)
    (c.in_ok-push-2.ensures.ok ∙ ap (λ xs. xs ++ first_version ∷ []) c.new-list.ensures)

pub returns : goal.returns
returns c =
    first_maps c.args.size c.bits_of-bits.result c.push.new.self c.push-2.new.self c.bits_of-bits.ensures.enough (c.in_ok-push.ensures.ok ∙ ap (λ xs. xs ++ (0, 0) ∷ []) c.new-nodes.ensures)
    (c.in_ok-push-2.ensures.ok ∙ ap (λ xs. xs ++ first_version ∷ []) c.new-list.ensures)
