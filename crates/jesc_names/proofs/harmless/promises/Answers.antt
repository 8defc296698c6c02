use Rattle.std.proofs.Common.{◌∙◌, ◌++◌, ◌∷◌, [], ap, refl}
use Rattle.jesc_tree.specs.declared.spec.TSpec.{TSpec}
use Rattle.jesc_names.proofs.harmless.promises.Goals as goal

pub returns : goal.returns
returns c =
    let s : TSpec = record { by = c.args.place; e = c.in_ok-e.e } in
    (s, (c.in_ok-push.ensures.ok ∙ ap (λ xs. xs ++ s ∷ []) c.new-promises.ensures), refl, c.in_ok-e.ensures)
