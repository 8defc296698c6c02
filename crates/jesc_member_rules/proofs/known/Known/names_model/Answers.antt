use Rattle.std.proofs.Common.{◌∙◌, subst, List, None, Some, ap}
use Rattle.jesc_classes.specs.Headings.{Source}
use Rattle.jesc_members.specs.Fields.{fields_of}
use Rattle.jesc_members.specs.Meanings.{FieldFound}
use Rattle.jesc_member_rules.proofs.JudgingKnown.{means_model, no_model, model_beyond}
use Rattle.jesc_member_rules.proofs.known.Known.names_model.Goals as goal

pub returns-in-Some-get : goal.returns-in-Some-get
returns-in-Some-get c =
    let found = subst (λ (l : List Source). FieldFound l c.args.name.now c.args.class (Some c.in-Some.number)) (c.self.invariant.inherited ∙ c.self.view_is) c.in-Some.ensures in
    let look = c.in-Some-get.ensures.lookup in
    means_model c.args.self.now c.self.inside.fields.now (c.self.invariant.seen ∙ ap fields_of c.self.view_is) c.args.class c.args.name.now c.in-Some.number c.in-Some-get.field.now c.is_model.result found
    look.3.0 look.1 c.is_model.ensures

pub returns-in-None-get : goal.returns-in-None-get
returns-in-None-get c =
    let found = subst (λ (l : List Source). FieldFound l c.args.name.now c.args.class (Some c.in-Some.number)) (c.self.invariant.inherited ∙ c.self.view_is) c.in-Some.ensures in
    let look = c.in-None-get.ensures.lookup in (
      (λ e. cc),
      (λ k. absurd (model_beyond c.args.self.now c.self.inside.fields.now (c.self.invariant.seen ∙ ap fields_of c.self.view_is) c.args.class c.args.name.now c.in-Some.number k.0 found look.3 k.1)),
    )

pub returns-in-None : goal.returns-in-None
returns-in-None c =
    let found = subst (λ (l : List Source). FieldFound l c.args.name.now c.args.class None) (c.self.invariant.inherited ∙ c.self.view_is) c.in-None.ensures in (
      (λ e. cc),
      (λ k. absurd (no_model c.args.self.now c.self.inside.fields.now (c.self.invariant.seen ∙ ap fields_of c.self.view_is) c.args.class c.args.name.now k.0 found k.1)),
    )
