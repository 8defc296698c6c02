use Rattle.std.proofs.Common.{◌≡◌, ◌∙◌, Some, None, [], get_or, option_map, ap, sym, arith}
use Rattle.std.proofs.lemmas.List.{get_or_default}
use Rattle.jesc_meanings.specs.Ids.{method_id}
use Rattle.jesc_meanings.specs.Meanings.{constructor_found}
use Rattle.jesc_meanings.specs.laws.Finding.{constructor_inside}
use Rattle.jesc_meanings.proofs.Answered.{constructor_class, constructor_told}
use Rattle.jesc_meanings.proofs.names.Names.constructor.Goals as goal

pub index-requires : goal.index-requires
index-requires c =
    let n = c.args.self.now in
    omega (arith, constructor_class n.program.now.classes n.program.now.fields n.program.now.methods n.classes n.fields n.methods n.constructors.items n.known c.args.class.0 c.requires, n.constructors.ok.0)

pub returns-in-Some-clause-found : goal.returns-in-Some-clause-found
returns-in-Some-clause-found c =
    let n = c.args.self.now in
    let row = c.index.ensures ∙ get_or_default n.constructors.items c.args.class.0 c.index.result.now [] (constructor_class n.program.now.classes n.program.now.fields n.program.now.methods n.classes n.fields n.methods n.constructors.items n.known c.args.class.0 c.requires) in
    let is : constructor_found n.program.now.classes n.program.now.methods c.args.count c.args.class.0 ≡ Some c.in-Some.method =
    sym (constructor_told n.program.now.classes n.program.now.fields n.program.now.methods n.classes n.fields n.methods n.constructors.items n.known c.args.class.0 c.requires c.args.count) ∙ sym (c.get.ensures ∙ ap (λ r. get_or r c.args.count None) row) ∙ c.in-Some.is in
    sym (ap (option_map method_id) is)

pub returns-in-Some-clause-inside : goal.returns-in-Some-clause-inside
returns-in-Some-clause-inside c =
    let n = c.args.self.now in
    let row = c.index.ensures ∙ get_or_default n.constructors.items c.args.class.0 c.index.result.now [] (constructor_class n.program.now.classes n.program.now.fields n.program.now.methods n.classes n.fields n.methods n.constructors.items n.known c.args.class.0 c.requires) in
    let is : constructor_found n.program.now.classes n.program.now.methods c.args.count c.args.class.0 ≡ Some c.in-Some.method =
    sym (constructor_told n.program.now.classes n.program.now.fields n.program.now.methods n.classes n.fields n.methods n.constructors.items n.known c.args.class.0 c.requires c.args.count) ∙ sym (c.get.ensures ∙ ap (λ r. get_or r c.args.count None) row) ∙ c.in-Some.is in
    constructor_inside n.program.now.classes n.program.now.methods c.args.count c.args.class.0 c.in-Some.method is

pub returns-in-None-clause-found : goal.returns-in-None-clause-found
returns-in-None-clause-found c =
    let n = c.args.self.now in
    let row = c.index.ensures ∙ get_or_default n.constructors.items c.args.class.0 c.index.result.now [] (constructor_class n.program.now.classes n.program.now.fields n.program.now.methods n.classes n.fields n.methods n.constructors.items n.known c.args.class.0 c.requires) in
    let is : constructor_found n.program.now.classes n.program.now.methods c.args.count c.args.class.0 ≡ None =
    sym (constructor_told n.program.now.classes n.program.now.fields n.program.now.methods n.classes n.fields n.methods n.constructors.items n.known c.args.class.0 c.requires c.args.count) ∙ sym (c.get.ensures ∙ ap (λ r. get_or r c.args.count None) row) ∙ c.in-None.is in
    sym (ap (option_map method_id) is)
