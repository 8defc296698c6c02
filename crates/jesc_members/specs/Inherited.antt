-- What the tables of inheritance say of the given classes.
use Rattle.std.specs.Prelude.{List}
use Rattle.jesc_classes.specs.Headings.{Source, graph_of}
use Rattle.jesc_members.specs.declared.field_layers.FieldLayers.{FieldLayers}
use Rattle.jesc_members.specs.declared.method_layers.MethodLayers.{MethodLayers}
use Rattle.jesc_members.specs.declared.methods.GivenMethod.{GivenMethod}
use Rattle.jesc_members.specs.declared.summary_layers.SummaryLayers.{SummaryLayers}
use Rattle.jesc_members.specs.Fields.{fields_of}
use Rattle.jesc_members.specs.Methods.{methods_of}
use Rattle.jesc_members.specs.Keys.{KnowsFields}
use Rattle.jesc_members.specs.Counts.{KnowsMethods}
use Rattle.jesc_members.specs.Overrides.{KnowsOverrides}
use Rattle.jesc_members.specs.BareMethods.{TellsBare}

pub record IsInherited (given : List Source) (fields : FieldLayers) (methods : MethodLayers) (summaries : SummaryLayers) (declared : List GivenMethod) : Type 0 where
  pub fields_known : KnowsFields (graph_of given) (fields_of given) fields.names fields.layers.versions fields.layers.of.items
  pub methods_known : KnowsMethods (graph_of given) (methods_of given) methods.keys.names methods.keys.rows.items methods.keys.counts methods.layers.versions methods.layers.of.items
  pub overrides_known : KnowsOverrides given methods summaries declared
  pub bare_known : TellsBare (graph_of given) (methods_of given) methods.bare methods.layers.of.items
