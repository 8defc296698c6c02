-- What the tables of names tell is what names mean.
use Rattle.std.proofs.Common.{◌≡◌, ℕ, ◌<◌, Option, None, List, [], length, map, get_or, ◌∙◌, arith}
use Rattle.std.proofs.lemmas.List.{length-map}
use Rattle.std.proofs.Math.Logic.{∥∥₁_elim}
use Rattle.std.proofs.Props.{props}
use Rattle.jesc_tree.specs.declared.class.Class.{Class}
use Rattle.jesc_tree.specs.declared.class.Field.{Field}
use Rattle.jesc_tree.specs.declared.class.Method.{Method}
use Rattle.jesc_tree.specs.Programs.{IsProgram}
use Rattle.jesc_tree.specs.Subtypes.{supertypes}
use Rattle.jesc_classes.specs.Named.{Named}
use Rattle.jesc_classes.specs.Order.{Graph}
use Rattle.jesc_lookup.specs.Maps.{Map}
use Rattle.jesc_lookup.specs.laws.Lines.{one_found}
use Rattle.jesc_meanings.specs.declared.label_table.LabelTable.{LabelTable}
use Rattle.jesc_meanings.specs.declared.members.Members.{Members}
use Rattle.jesc_meanings.specs.Known.{IsKnown}
use Rattle.jesc_meanings.specs.Labels.{AreNamed, Key, field_label, found_in, method_label}
use Rattle.jesc_meanings.specs.Layered.{KnowsMembers, found_at, own_labelled}
use Rattle.jesc_meanings.specs.Meanings.{class_named, constructor_found, field_found, field_rows, found, graph_of, method_found, method_rows, own_field, own_method}
use Rattle.jesc_meanings.specs.Order.{IsFalling}
use Rattle.jesc_meanings.specs.laws.Finding.{found_in_order, found_same}
use Rattle.jesc_meanings.proofs.Meant.{class_is, field_own, method_own}
use Rattle.jesc_meanings.proofs.Tables.{falling}

-- what a table of members tells of a label, where that is what each class's own one says
module _ (graph : Graph) (falls : IsFalling graph) (labels : List (Option Key)) (rows : List (List ℕ)) (names : List (Named ℕ)) (table : List (List (Option ℕ))) (versions : List Map) (of : List ℕ) (knows : KnowsMembers graph labels rows names table versions of) where
  told : (class : ℕ) → class < length graph → (key : Key) (own : ℕ → Option ℕ) → ((c : ℕ) → own_labelled labels rows key c ≡ own c) → found_at (found_in names table key) (get_or versions (get_or of class 0) []) ≡ found graph own class
  told class inside key own same =
      let f = own_labelled labels rows key in
      let answer = found_at (found_in names table key) (get_or versions (get_or of class 0) []) in
      one_found graph f class answer (found graph f class) (knows.each class inside key) (found_in_order graph f class falls) ∙ found_same graph f own same class

module _ (classes : List Class) (fields : List Field) (methods : List Method) (t : LabelTable) (f m : Members) (rows : List (List (Option ℕ))) (known : ∥ IsKnown classes fields methods t f m rows ∥₁) where
  inside_graph : (class : ℕ) → class < length classes → class < length (graph_of classes)
  inside_graph class l = omega (arith, l, length-map classes supertypes)

  pub class_told : (name : List ℕ) → found_in t.names t.rows.items (name, 0) ≡ class_named classes name
  class_told name = ∥∥₁_elim known (hlevel props) (λ k. k.classes_known.each (name, 0) ∙ class_is classes name)

  pub field_told : ∥ IsProgram classes fields methods ∥₁ → (class : ℕ) → class < length classes → (name : List ℕ)
      → found_at (found_in f.table.names f.table.rows.items (name, 0)) (get_or f.layers.versions (get_or f.layers.of.items class 0) []) ≡ field_found classes fields name class
  field_told program class l name = ∥∥₁_elim known (hlevel props) (λ k. ∥∥₁_elim program (hlevel props) (λ p.
      told (graph_of classes) (falling classes fields methods p) (map field_label fields) (field_rows classes) f.table.names f.table.rows.items f.layers.versions f.layers.of.items k.fields_known
      class (inside_graph class l) (name, 0) (own_field classes fields name) (field_own classes fields name)))

  pub method_told : ∥ IsProgram classes fields methods ∥₁ → (class : ℕ) → class < length classes → (name : List ℕ) (count : ℕ)
      → found_at (found_in m.table.names m.table.rows.items (name, count)) (get_or m.layers.versions (get_or m.layers.of.items class 0) []) ≡ method_found classes methods name count class
  method_told program class l name count = ∥∥₁_elim known (hlevel props) (λ k. ∥∥₁_elim program (hlevel props) (λ p.
      told (graph_of classes) (falling classes fields methods p) (map method_label methods) (method_rows classes) m.table.names m.table.rows.items m.layers.versions m.layers.of.items k.methods_known
      class (inside_graph class l) (name, count) (own_method classes methods name count) (method_own classes methods name count)))

  pub constructor_told : (class : ℕ) → class < length classes → (count : ℕ) → get_or (get_or rows class []) count None ≡ constructor_found classes methods count class
  constructor_told class l count = ∥∥₁_elim known (hlevel props) (λ k. k.constructors_known.each class l count)

  -- what the calls below require

  pub classes_named : AreNamed t.names t.rows.items
  classes_named = ∥∥₁_elim known (hlevel props) (λ k. k.classes_known.named)

  pub fields_named : AreNamed f.table.names f.table.rows.items
  fields_named = ∥∥₁_elim known (hlevel props) (λ k. k.fields_known.named)

  pub methods_named : AreNamed m.table.names m.table.rows.items
  methods_named = ∥∥₁_elim known (hlevel props) (λ k. k.methods_known.named)

  pub field_class : (class : ℕ) → class < length classes → class < length f.layers.of.items
  field_class class l = ∥∥₁_elim known (hlevel props) (λ k. omega (arith, inside_graph class l, k.fields_known.count))

  pub method_class : (class : ℕ) → class < length classes → class < length m.layers.of.items
  method_class class l = ∥∥₁_elim known (hlevel props) (λ k. omega (arith, inside_graph class l, k.methods_known.count))

  pub field_version : (class : ℕ) → get_or f.layers.of.items class 0 < length f.layers.versions
  field_version class = ∥∥₁_elim known (hlevel props) (λ k. k.fields_known.there class)

  pub method_version : (class : ℕ) → get_or m.layers.of.items class 0 < length m.layers.versions
  method_version class = ∥∥₁_elim known (hlevel props) (λ k. k.methods_known.there class)

  pub constructor_class : (class : ℕ) → class < length classes → class < length rows
  constructor_class class l = ∥∥₁_elim known (hlevel props) (λ k. omega (arith, l, k.constructors_known.count))
