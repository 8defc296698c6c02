use Rattle.std.proofs.Common.{◌≡◌, [], length, ◌∷◌, ◌++◌, ◌∙◌, ap, subst, sym}
use Rattle.jesc_meanings.specs.Labels.{TakesName}
use Rattle.jesc_meanings.proofs.Naming.{name_added}
use Rattle.jesc_meanings.proofs.label_table.LabelTable.row_of.Goals as goal

pub returns : goal.returns
returns c =
    let names = c.args.self.now.names in
    let rows = c.args.self.now.rows.items in
    let name = c.args.name.now in
    let number : c.len-row.result ≡ length rows = c.len-row.ensures ∙ c.args.self.now.rows.ok.0 in
    let is = c.in_ok-add.ensures.ok ∙ ap (λ n. names ++ (name, n) ∷ []) number in
    let are = c.in-Ok.ensures.items ∙ ap (λ r. rows ++ r ∷ []) c.new.ensures in
    subst (λ n. TakesName names rows name c.add.new.self c.push.new.self.items n) (sym number)
    (name_added names rows name c.requires (sym c.in_default.ensures) c.add.new.self c.push.new.self.items is are)
