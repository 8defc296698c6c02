use Rattle.std.proofs.Common.{◌<◌, ℕ, List, length, sym, subst}
use Rattle.jesc_classes.specs.Headings.{Source}
use Rattle.jesc_classes.specs.laws.Lawful.{inside}
use Rattle.jesc_members.specs.Fields.{fields_of}
use Rattle.jesc_members.specs.Seen.{seen_field}
use Rattle.jesc_names.proofs.field_table.row.Goals as goal

pub members_of-requires-clause-apart : goal.members_of-requires-clause-apart
members_of-requires-clause-apart c = c.requires.ids.apart

pub members_of-requires-clause-number : goal.members_of-requires-clause-number
members_of-requires-clause-number c =
    subst (λ (g : List Source). c.args.number < length (fields_of g)) (sym c.requires.same)
    (inside (fields_of c.args.names.classes.now) c.args.number (seen_field c.args.field.now) c.requires.there)

pub returns-clause-below : goal.returns-clause-below
returns-clause-below c = λ q m. subst (λ (xs : List ℕ). q < length xs) c.requires.ids.order (c.in_ok-members.ensures.below q m)
