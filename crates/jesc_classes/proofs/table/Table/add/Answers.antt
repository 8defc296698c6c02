use Rattle.std.proofs.Common.{◌∙◌, ap, ◌++◌, ◌∷◌, [], bytes_eq}
use Rattle.indexmap.proofs.CallerLemmas.{insert_entry-new}
use Rattle.jesc_classes.specs.Named.{find}
use Rattle.jesc_classes.proofs.Shown.{find-shown, shown, shown-append}
use Rattle.jesc_classes.proofs.table.Table.add.Goals as goal

pub returns-clause-ok : goal.returns-clause-ok
returns-clause-ok g c =
    let name = c.args.name in
    let map = c.self.inside.map in
    let none = find-shown name.now map.entries ∙ ap (find name.now) c.self.view_is ∙ c.requires in
    let new = c.in-Ok.ensures.entries ∙ insert_entry-new (λ a b. bytes_eq a.now b.now) map name c.args.value none in
    ap shown new ∙ shown-append map.entries ((name, c.args.value) ∷ []) ∙ ap (λ xs. xs ++ (name.now, c.args.value) ∷ []) c.self.view_is
