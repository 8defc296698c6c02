use Rattle.std.proofs.Common.{◌≡◌, ◌∙◌, Some, None, option_map, ap, sym}
use Rattle.jesc_meanings.specs.Ids.{method_id}
use Rattle.jesc_meanings.specs.Meanings.{method_found}
use Rattle.jesc_meanings.specs.laws.Finding.{method_inside}
use Rattle.jesc_meanings.proofs.Answered.{method_class, method_told, method_version, methods_named}
use Rattle.jesc_meanings.proofs.names.Names.method.Goals as goal

pub find-requires-clause-named : goal.find-requires-clause-named
find-requires-clause-named c =
    let n = c.args.self.now in
    methods_named n.program.now.classes n.program.now.fields n.program.now.methods n.classes n.fields n.methods n.constructors.items n.known

pub find-requires-clause-class : goal.find-requires-clause-class
find-requires-clause-class c =
    let n = c.args.self.now in
    method_class n.program.now.classes n.program.now.fields n.program.now.methods n.classes n.fields n.methods n.constructors.items n.known c.args.class.0 c.requires

pub find-requires-clause-version : goal.find-requires-clause-version
find-requires-clause-version c =
    let n = c.args.self.now in
    method_version n.program.now.classes n.program.now.fields n.program.now.methods n.classes n.fields n.methods n.constructors.items n.known c.args.class.0

pub returns-in-Some-clause-found : goal.returns-in-Some-clause-found
returns-in-Some-clause-found c =
    let n = c.args.self.now in
    let is : method_found n.program.now.classes n.program.now.methods c.args.name.now c.args.count c.args.class.0 ≡ Some c.in-Some.method =
    sym (method_told n.program.now.classes n.program.now.fields n.program.now.methods n.classes n.fields n.methods n.constructors.items n.known n.program.now.tables_agree c.args.class.0 c.requires c.args.name.now c.args.count) ∙ sym c.find.ensures ∙ c.in-Some.is in
    sym (ap (option_map method_id) is)

pub returns-in-Some-clause-inside : goal.returns-in-Some-clause-inside
returns-in-Some-clause-inside c =
    let n = c.args.self.now in
    let is : method_found n.program.now.classes n.program.now.methods c.args.name.now c.args.count c.args.class.0 ≡ Some c.in-Some.method =
    sym (method_told n.program.now.classes n.program.now.fields n.program.now.methods n.classes n.fields n.methods n.constructors.items n.known n.program.now.tables_agree c.args.class.0 c.requires c.args.name.now c.args.count) ∙ sym c.find.ensures ∙ c.in-Some.is in
    method_inside n.program.now.classes n.program.now.methods c.args.name.now c.args.count c.args.class.0 c.in-Some.method is

pub returns-in-None-clause-found : goal.returns-in-None-clause-found
returns-in-None-clause-found c =
    let n = c.args.self.now in
    let is : method_found n.program.now.classes n.program.now.methods c.args.name.now c.args.count c.args.class.0 ≡ None =
    sym (method_told n.program.now.classes n.program.now.fields n.program.now.methods n.classes n.fields n.methods n.constructors.items n.known n.program.now.tables_agree c.args.class.0 c.requires c.args.name.now c.args.count) ∙ sym c.find.ensures ∙ c.in-None.is in
    sym (ap (option_map method_id) is)
