use Rattle.std.proofs.Common.{◌≡◌, Bool, true, false, List, length, map, ap, arith, refl}
use Rattle.std.proofs.lemmas.List.{length-map}
use Rattle.jesc_members.specs.Fields.{fields_of, is_model}
use Rattle.jesc_members.proofs.GroupLists.{flag_read, found_within, none_named, model_found, other_found}
use Rattle.jesc_members.proofs.grouping.model_named.Goals as goal

pub bounds-models-group : goal.bounds-models-group
bounds-models-group c =
    let given = c.args.inheritance.now in
    let same : length c.args.models.now ≡ length (map is_model (fields_of given)) = ap (λ (ms : List Bool). length ms) c.requires.models in
    omega (arith, found_within given c.args.name.now c.args.class c.in-Some.group _ c.in-Some.ensures refl, same, length-map (fields_of given) is_model)

pub returns-then-models-group : goal.returns-then-models-group
returns-then-models-group c =
    let given = c.args.inheritance.now in
    let group = c.in-Some.group in
    let r = flag_read given c.args.models.now c.requires.models group (found_within given c.args.name.now c.args.class group _ c.in-Some.ensures refl) _ true c.if-models-group.true in
    model_found given c.args.name.now c.args.class group c.in-Some.ensures r.0 r.1 r.2

pub returns-else-models-group : goal.returns-else-models-group
returns-else-models-group c =
    let given = c.args.inheritance.now in
    let group = c.in-Some.group in
    let r = flag_read given c.args.models.now c.requires.models group (found_within given c.args.name.now c.args.class group _ c.in-Some.ensures refl) _ false c.if-models-group.false in
    other_found given c.args.name.now c.args.class group c.in-Some.ensures r.0 r.1 r.2

pub returns-in-None : goal.returns-in-None
returns-in-None c = none_named c.args.inheritance.now c.args.name.now c.args.class c.in-None.ensures
