-- What names of methods mean in each class.
use Rattle.std.proofs.Common.{◌≡◌, ℕ, ◌+◌, ◌<◌, List, [], ◌∷◌, length, get_or, map, Option, Some, None, refl, ap, sym, ◌∙◌, arith, bytes_eq}
use Rattle.std.specs.List.{All}
use Rattle.std.proofs.lemmas.Slice.Eq.{bytes_eq-Decides}
use Rattle.std.proofs.lemmas.List.{length-map}
use Rattle.std.proofs.lemmas.List.Elements.{All-append, All-nil, All-cons, All-weaker}
use Rattle.jesc_ast.specs.declared.class.MemberTree.{MemberTree}
use Rattle.jesc_ast.specs.declared.class.MemberNode.{MemberNode}
use Rattle.jesc_ast.specs.declared.class.MemberNode.TheVariants as members
use Rattle.jesc_classes.specs.Headings.{Source, graph_of}
use Rattle.jesc_classes.specs.Named.{Named, find}
use Rattle.jesc_classes.specs.Order.{Graph}
use Rattle.jesc_classes.specs.laws.Graphs.{graph_length}
use Rattle.jesc_members.specs.declared.methods.GivenMethod.{GivenMethod}
use Rattle.jesc_members.specs.Fields.{first_that}
use Rattle.jesc_members.specs.Methods.{MethodOf, method_of, method_in, methods_in, methods_from, methods_of, is_method_named}
use Rattle.jesc_lookup.specs.Lookup.{Found}
use Rattle.jesc_lookup.specs.Maps.{Map}
use Rattle.jesc_lookup.specs.Numbering.{IsArranged}
use Rattle.jesc_members.specs.Seen.{seen_method}
use Rattle.jesc_members.specs.Counts.{AreCounted, KnowsMethods, Label, alike, found_in}
use Rattle.jesc_members.specs.Keys.{AreRows, HasKeys, HasNames, first_equal, found_at}
use Rattle.jesc_lookup.specs.Layers.{AreLayersOf}
use Rattle.jesc_members.proofs.InheritCounted.{alike_decides, alike_itself}
use Rattle.jesc_lookup.specs.laws.Layers.{found_none, found_some}
use Rattle.jesc_members.proofs.InheritNumbers.{bytes_same, found_like, own_by_key, own_none}

-- ---- the classes of methods

all_in : (class : ℕ) (s : Source) (node : MemberNode) → All (λ f. f.class ≡ class) (method_in class s node)
all_in class s members.Empty = All-nil (λ f. f.class ≡ class)
all_in class s (members.Field f) = All-nil (λ f. f.class ≡ class)
all_in class s (members.SpecField f) = All-nil (λ f. f.class ≡ class)
all_in class s (members.Invariant i) = All-nil (λ f. f.class ≡ class)
all_in class s (members.Represents r) = All-nil (λ f. f.class ≡ class)
all_in class s (members.Method m) = All-cons (λ x. x.class ≡ class) (method_of class s m) [] refl (All-nil (λ x. x.class ≡ class))
all_in class s (members.Constructor c) = All-nil (λ f. f.class ≡ class)

all_members : (class : ℕ) (s : Source) (ms : List MemberTree) → All (λ f. f.class ≡ class) (methods_in class s ms)
all_members class s [] = All-nil (λ f. f.class ≡ class)
all_members class s (m ∷ ms) = All-append (λ f. f.class ≡ class) (method_in class s m.node) (methods_in class s ms) (all_in class s m.node) (all_members class s ms)

owners_from : (class : ℕ) (given : List Source) → All (λ f. f.class < class + length given) (methods_from class given)
owners_from class [] = All-nil (λ f. f.class < class + 0)
owners_from class (s ∷ given) =
    All-append (λ f. f.class < class + length (s ∷ given)) (methods_in class s s.tree.members) (methods_from (class + 1) given)
    (All-weaker (λ f. f.class ≡ class) (λ f. f.class < class + length (s ∷ given)) (λ f e. omega (arith, e)) (methods_in class s s.tree.members) (all_members class s s.tree.members))
    (All-weaker (λ f. f.class < (class + 1) + length given) (λ f. f.class < class + length (s ∷ given)) (λ f l. omega (arith, l)) (methods_from (class + 1) given) (owners_from (class + 1) given))

pub method_owners_small : (given : List Source) → All (λ f. f.class < length (graph_of given)) (methods_of given)
method_owners_small given = All-weaker (λ f. f.class < 7 + length given) (λ f. f.class < length (graph_of given)) (λ f l. omega (arith, l, graph_length given)) (methods_of given) (owners_from 7 given)

-- ---- labels and owners, as the code sees them

abbrev pub given_label : GivenMethod → Label
given_label m = (m.tree.now.name.text, length m.tree.now.params)

abbrev pub label_of : MethodOf → Label
label_of m = (m.tree.name.text, length m.tree.params)

pub seen_labels : (methods : List GivenMethod) → map given_label methods ≡ map label_of (map seen_method methods)
seen_labels [] = refl
seen_labels (m ∷ methods) = ap (λ r. given_label m ∷ r) (seen_labels methods)

pub seen_texts : (methods : List GivenMethod) → map (λ m. m.tree.now.name.text) methods ≡ map (λ m. m.tree.name.text) (map seen_method methods)
seen_texts [] = refl
seen_texts (m ∷ methods) = ap (λ r. m.tree.now.name.text ∷ r) (seen_texts methods)

pub seen_method_owners : (methods : List GivenMethod) → map (λ m. m.number) methods ≡ map (λ m. m.class) (map seen_method methods)
seen_method_owners [] = refl
seen_method_owners (m ∷ methods) = ap (λ r. m.number ∷ r) (seen_method_owners methods)

texts_of : (methods : List MethodOf) → map (λ (l : Label). l.0) (map label_of methods) ≡ map (λ m. m.tree.name.text) methods
texts_of [] = refl
texts_of (m ∷ methods) = ap (λ r. m.tree.name.text ∷ r) (texts_of methods)

pub knows_methods : (graph : Graph) (order : List ℕ) → IsArranged graph order → (methods : List MethodOf) (names : List (Named ℕ)) (table : List (List ℕ)) (counts keys : List ℕ) (rows : List (List ℕ)) (versions : List Map) (of : List ℕ)
    → HasNames names (map (λ m. m.tree.name.text) methods) → AreCounted counts (length methods) (map label_of methods) table → HasKeys Label alike (map label_of methods) keys → AreRows (length graph) (map (λ m. m.class) methods) rows
    → AreLayersOf (λ class. class < length graph) graph keys rows versions of → KnowsMethods graph methods names table counts versions of
knows_methods graph order arranged methods names table counts keys rows versions of named counted keyed rs layers = record {
  count = layers.count;
  there = layers.there;
  names_small = λ name row e.
      let q = found_like (List ℕ) ℕ bytes_eq (λ a b. (bytes_eq-Decides a b).0) bytes_same (λ n. n) (λ n. []) 0 name (map (λ m. m.tree.name.text) methods) row [] (sym (named name) ∙ e) in
      omega (arith, q.1, q.2, counted.count, length-map methods (λ m. m.tree.name.text));
  rows_small = counted.small;
  each = λ class inside name count. by class inside name count (found_in counts table (find name names) count)
      (sym (counted.each name count) ∙ ap (λ o. found_in counts table o count) (ap (first_equal bytes_eq 0 name) (texts_of methods) ∙ sym (named name)));
}
  where
    by : (class : ℕ) → class < length graph → (name : List ℕ) (count : ℕ) (found : Option ℕ) → first_equal alike 0 (name, count) (map label_of methods) ≡ found
        → Found graph (λ c. first_that (is_method_named name count c) 0 methods) class (found_at found (get_or versions (get_or of class 0) []))
    by class inside name count None e =
        found_none graph order arranged (λ c. first_that (is_method_named name count c) 0 methods) class inside
        (λ c. own_none Label MethodOf alike alike_decides alike_itself (λ m. m.class) label_of methods c (name, count) e)
    by class inside name count (Some key) e =
        found_some graph order arranged (λ c. first_that (is_method_named name count c) 0 methods) class inside keys rows versions of key layers
        (λ c l. own_by_key Label MethodOf alike alike_decides alike_itself (λ m. m.class) label_of keys rows methods (length graph) keyed rs key c (name, count) l e)
