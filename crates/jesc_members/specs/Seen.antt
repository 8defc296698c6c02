-- How lists of fields and methods are seen as those of the definitions.
use Rattle.jesc_classes.specs.Sources.{seen}
use Rattle.jesc_members.specs.declared.fields.GivenField.{GivenField}
use Rattle.jesc_members.specs.declared.methods.GivenMethod.{GivenMethod}
use Rattle.jesc_members.specs.Fields.{FieldOf, field_of}
use Rattle.jesc_members.specs.Methods.{MethodOf, method_of}

abbrev pub seen_field : GivenField → FieldOf
seen_field f = field_of f.number (seen f.class) f.is_spec f.tree.now

abbrev pub seen_method : GivenMethod → MethodOf
seen_method m = method_of m.number (seen m.class) m.tree.now
