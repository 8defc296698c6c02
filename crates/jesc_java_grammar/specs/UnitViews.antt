-- What a file's package and classes stand for.
use Rattle.std.specs.Prelude.{map}
use Rattle.jesc_ast.specs.FileTrees.{SourceUnit, unit_of, class_view}
use Rattle.jesc_java_grammar.specs.declared.make_class.Unit as code

abbrev pub unit_view : code.Unit → SourceUnit
unit_view u = unit_of u.package (map class_view u.classes)
