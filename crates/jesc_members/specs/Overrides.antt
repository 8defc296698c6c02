-- What the tables of inheritance say of methods that are like one another.
use Rattle.std.specs.Prelude.{◌≡◌, ℕ, ◌<◌, List, ◌∷◌, length, map}
use Rattle.jesc_classes.specs.Headings.{Source, graph_of}
use Rattle.jesc_classes.specs.Order.{IsAcyclic}
use Rattle.jesc_members.specs.declared.method_layers.MethodLayers.{MethodLayers}
use Rattle.jesc_members.specs.declared.methods.GivenMethod.{GivenMethod}
use Rattle.jesc_members.specs.declared.summary_layers.SummaryLayers.{SummaryLayers}
use Rattle.jesc_members.specs.KeyedMethods.{AreKeyed}
use Rattle.jesc_lookup.specs.Lines.{IsLine}
use Rattle.jesc_members.specs.Methods.{methods_of}
use Rattle.jesc_members.specs.Seen.{seen_method}
use Rattle.jesc_members.specs.SummaryLayers.{AreSummaries}

pub record KnowsOverrides (given : List Source) (methods : MethodLayers) (summaries : SummaryLayers) (declared : List GivenMethod) : Type 0 where
  pub acyclic : IsAcyclic (graph_of given)
  pub lines : (class : ℕ) → class < length (graph_of given) → (line : List ℕ) × IsLine (graph_of given) class (class ∷ line)
  pub declared_are : map seen_method declared ≡ methods_of given
  pub keyed : AreKeyed (length (graph_of given)) (methods_of given) methods.keys.names methods.keys.rows.items methods.keys.counts methods.key_of methods.rows.items
  pub summed : AreSummaries (graph_of given) (methods_of given) methods.key_of methods.rows.items summaries.versions summaries.summaries summaries.above.items
