use Rattle.std.proofs.Common.{◌≡◌, ◌∙◌, Some, None, option_map, ap, sym}
use Rattle.jesc_tree.specs.Subtypes.{class_id}
use Rattle.jesc_meanings.specs.Meanings.{class_named}
use Rattle.jesc_meanings.specs.laws.Finding.{class_inside}
use Rattle.jesc_meanings.proofs.Answered.{class_told, classes_named}
use Rattle.jesc_meanings.proofs.names.Names.class.Goals as goal

pub find-requires : goal.find-requires
find-requires c =
    let n = c.args.self.now in
    classes_named n.program.now.classes n.program.now.fields n.program.now.methods n.classes n.fields n.methods n.constructors.items n.known

pub returns-in-Some-clause-found : goal.returns-in-Some-clause-found
returns-in-Some-clause-found c =
    let n = c.args.self.now in
    let is : class_named n.program.now.classes c.args.name.now ≡ Some c.in-Some.class = sym (class_told n.program.now.classes n.program.now.fields n.program.now.methods n.classes n.fields n.methods n.constructors.items n.known c.args.name.now) ∙ sym c.find.ensures ∙ c.in-Some.is in
    sym (ap (option_map class_id) is)

pub returns-in-Some-clause-inside : goal.returns-in-Some-clause-inside
returns-in-Some-clause-inside c =
    let n = c.args.self.now in
    let is : class_named n.program.now.classes c.args.name.now ≡ Some c.in-Some.class = sym (class_told n.program.now.classes n.program.now.fields n.program.now.methods n.classes n.fields n.methods n.constructors.items n.known c.args.name.now) ∙ sym c.find.ensures ∙ c.in-Some.is in
    class_inside n.program.now.classes c.args.name.now c.in-Some.class is

pub returns-in-None-clause-found : goal.returns-in-None-clause-found
returns-in-None-clause-found c =
    let n = c.args.self.now in
    let is : class_named n.program.now.classes c.args.name.now ≡ None = sym (class_told n.program.now.classes n.program.now.fields n.program.now.methods n.classes n.fields n.methods n.constructors.items n.known c.args.name.now) ∙ sym c.find.ensures ∙ c.in-None.is in
    sym (ap (option_map class_id) is)
