-- What is known of the tables of names of a program.
use Rattle.std.specs.Prelude.{ℕ, ◌<◌, ◌^◌, Option, List, length, map}
use Rattle.jesc_tree.specs.declared.class.Class.{Class}
use Rattle.jesc_tree.specs.declared.class.Field.{Field}
use Rattle.jesc_tree.specs.declared.class.Method.{Method}
use Rattle.jesc_meanings.specs.declared.label_table.LabelTable.{LabelTable}
use Rattle.jesc_meanings.specs.declared.members.Members.{Members}
use Rattle.jesc_meanings.specs.Labels.{IsTableOf, class_label, field_label, method_label}
use Rattle.jesc_meanings.specs.Layered.{KnowsMembers}
use Rattle.jesc_meanings.specs.Meanings.{field_rows, graph_of, method_rows}
use Rattle.jesc_meanings.specs.Rows.{AreConstructors}

-- the numbers of classes, fields and methods are small
pub record AreFew (classes : List Class) (fields : List Field) (methods : List Method) : Type 0 where
  pub classes_few : length classes < 2 ^ 32
  pub fields_few : length fields < 2 ^ 32
  pub methods_few : length methods < 2 ^ 32

pub record IsKnown (classes : List Class) (fields : List Field) (methods : List Method) (by_name : LabelTable) (f m : Members) (rows : List (List (Option ℕ))) : Type 0 where
  pub classes_known : IsTableOf (map class_label classes) by_name.names by_name.rows.items
  pub fields_known : KnowsMembers (graph_of classes) (map field_label fields) (field_rows classes) f.table.names f.table.rows.items f.layers.versions f.layers.of.items
  pub methods_known : KnowsMembers (graph_of classes) (map method_label methods) (method_rows classes) m.table.names m.table.rows.items m.layers.versions m.layers.of.items
  pub constructors_known : AreConstructors classes methods rows
