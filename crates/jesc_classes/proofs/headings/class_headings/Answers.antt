use Rattle.std.proofs.Common.{◌∙◌, [], refl, sym, subst}
use Rattle.jesc_tree.specs.Programs.{IsProgram, IsLawful}
use Rattle.jesc_classes.specs.Headings.{sources}
use Rattle.jesc_classes.specs.Resolved.{AreHeadings}
use Rattle.jesc_classes.proofs.Ordered.{few_by, program_of, lawful_of, headings_of}
use Rattle.jesc_classes.proofs.headings.class_headings.Goals as goal

pub new-requires : goal.new-requires
new-requires c = few_by c.args.files.now (sources c.args.files.now) refl c.requires.given

pub new-requires-4 : goal.new-requires-4
new-requires-4 c =
    let t = c.in_ok-tables.tables in
    subst (λ fs. IsProgram t.classes fs c.new-3.result) (sym c.new-2.ensures) (subst (λ ms. IsProgram t.classes [] ms) (sym c.new-3.ensures) (program_of c.in_ok-given.given t c.in_ok-tables.ensures.tables))

pub returns-clause-table : goal.returns-clause-table
returns-clause-table c =
    let t = c.in_ok-tables.tables in
    subst (λ cs. ∥ AreHeadings (sources c.args.files.now) cs ∥₁) (sym c.new-4.ensures.classes)
    (subst (λ ss. ∥ AreHeadings ss t.classes ∥₁) c.in_ok-given.ensures (headings_of c.in_ok-given.given t c.in_ok-tables.ensures.tables))

pub returns-clause-lawful : goal.returns-clause-lawful
returns-clause-lawful c =
    let t = c.in_ok-tables.tables in
    let p = c.new-4.result in
    let lawful = lawful_of c.in_ok-given.given t c.in_ok-tables.ensures.judged c.in_ok-tables.ensures.tables in
    let with_methods = subst (λ ms. IsLawful t.classes [] ms) (sym (c.new-4.ensures.methods ∙ c.new-3.ensures)) lawful in
    let with_fields = subst (λ fs. IsLawful t.classes fs p.methods) (sym (c.new-4.ensures.fields ∙ c.new-2.ensures)) with_methods in
    ∣ subst (λ cs. IsLawful cs p.fields p.methods) (sym c.new-4.ensures.classes) with_fields ∣₁
