-- What names of fields mean in each class.
use Rattle.std.proofs.Common.{◌≡◌, Bool, ℕ, ◌+◌, ◌<◌, List, [], ◌∷◌, length, get_or, map, Option, Some, None, refl, ap, sym, ◌∙◌, subst, arith, bytes_eq}
use Rattle.std.specs.List.{All}
use Rattle.std.proofs.lemmas.Slice.Eq.{bytes_eq-Decides}
use Rattle.std.proofs.lemmas.List.{get_or_default}
use Rattle.std.proofs.lemmas.List.Elements.{All-append, All-nil, All-cons, All-weaker}
use Rattle.jesc_ast.specs.declared.class.MemberTree.{MemberTree}
use Rattle.jesc_ast.specs.declared.class.MemberNode.{MemberNode}
use Rattle.jesc_ast.specs.declared.class.MemberNode.TheVariants as members
use Rattle.jesc_classes.specs.Headings.{Source, graph_of}
use Rattle.jesc_classes.specs.Named.{Named, find}
use Rattle.jesc_classes.specs.Order.{Graph}
use Rattle.jesc_classes.specs.laws.Graphs.{graph_length}
use Rattle.jesc_members.specs.declared.fields.GivenField.{GivenField}
use Rattle.jesc_members.specs.Fields.{FieldOf, field_in, fields_in, fields_from, fields_of, first_that, is_field_named}
use Rattle.jesc_lookup.specs.Lookup.{Found}
use Rattle.jesc_lookup.specs.Maps.{Map}
use Rattle.jesc_lookup.specs.Numbering.{IsArranged}
use Rattle.jesc_members.specs.Seen.{seen_field}
use Rattle.jesc_members.specs.Keys.{AreRows, HasKeys, HasNames, KnowsFields, first_equal, found_at, numbers_of}
use Rattle.jesc_lookup.specs.Layers.{AreItems, AreLayersOf}
use Rattle.jesc_lookup.specs.laws.Layers.{found_none, found_some}
use Rattle.jesc_members.proofs.InheritNumbers.{numbers_below, own_by_key, own_none, small_keys, bytes_same}

-- ---- the classes of fields

all_in : (class : ℕ) (s : Source) (node : MemberNode) → All (λ f. f.class ≡ class) (field_in class s node)
all_in class s members.Empty = All-nil (λ f. f.class ≡ class)
all_in class s (members.Field f) = All-cons (λ x. x.class ≡ class) _ [] refl (All-nil (λ x. x.class ≡ class))
all_in class s (members.SpecField f) = All-cons (λ x. x.class ≡ class) _ [] refl (All-nil (λ x. x.class ≡ class))
all_in class s (members.Invariant i) = All-nil (λ f. f.class ≡ class)
all_in class s (members.Represents r) = All-nil (λ f. f.class ≡ class)
all_in class s (members.Method m) = All-nil (λ f. f.class ≡ class)
all_in class s (members.Constructor c) = All-nil (λ f. f.class ≡ class)

all_members : (class : ℕ) (s : Source) (ms : List MemberTree) → All (λ f. f.class ≡ class) (fields_in class s ms)
all_members class s [] = All-nil (λ f. f.class ≡ class)
all_members class s (m ∷ ms) = All-append (λ f. f.class ≡ class) (field_in class s m.node) (fields_in class s ms) (all_in class s m.node) (all_members class s ms)

owners_from : (class : ℕ) (given : List Source) → All (λ f. f.class < class + length given) (fields_from class given)
owners_from class [] = All-nil (λ f. f.class < class + 0)
owners_from class (s ∷ given) =
    All-append (λ f. f.class < class + length (s ∷ given)) (fields_in class s s.tree.members) (fields_from (class + 1) given)
    (All-weaker (λ f. f.class ≡ class) (λ f. f.class < class + length (s ∷ given)) (λ f e. omega (arith, e)) (fields_in class s s.tree.members) (all_members class s s.tree.members))
    (All-weaker (λ f. f.class < (class + 1) + length given) (λ f. f.class < class + length (s ∷ given)) (λ f l. omega (arith, l)) (fields_from (class + 1) given) (owners_from (class + 1) given))

pub field_owners_small : (given : List Source) → All (λ f. f.class < length (graph_of given)) (fields_of given)
field_owners_small given = All-weaker (λ f. f.class < 7 + length given) (λ f. f.class < length (graph_of given)) (λ f l. omega (arith, l, graph_length given)) (fields_of given) (owners_from 7 given)

-- ---- labels and owners, as the code sees them

pub seen_names : (fields : List GivenField) → map (λ f. f.tree.now.name.text) fields ≡ map (λ f. f.tree.name.text) (map seen_field fields)
seen_names [] = refl
seen_names (f ∷ fields) = ap (λ r. f.tree.now.name.text ∷ r) (seen_names fields)

pub seen_owners : (fields : List GivenField) → map (λ f. f.number) fields ≡ map (λ f. f.class) (map seen_field fields)
seen_owners [] = refl
seen_owners (f ∷ fields) = ap (λ r. f.number ∷ r) (seen_owners fields)

pub are_items : (L : Type 0) (like : L → L → Bool) (classes : ℕ) (labels : List L) (owners keys : List ℕ) (rows : List (List ℕ)) → length owners ≡ length labels → HasKeys L like labels keys → AreRows classes owners rows → AreItems classes keys rows
are_items L like classes labels owners keys rows long h rs = record {
  count = rs.count;
  each = λ class d l. subst (λ row. All (λ i. i < length keys) row) (sym (row_is class d l)) (λ k e m. omega (arith, numbers_below class 0 owners k e m, long, h.count));
  small = small_keys L like labels keys h;
}
  where
    row_is : (class : ℕ) (d : List ℕ) → class < length rows → get_or rows class d ≡ numbers_of class 0 owners
    row_is class d l = get_or_default rows class d [] l ∙ rs.each class (omega (arith, l, rs.count))

pub knows_fields : (graph : Graph) (order : List ℕ) → IsArranged graph order → (fields : List FieldOf) (names : List (Named ℕ)) (keys : List ℕ) (rows : List (List ℕ)) (versions : List Map) (of : List ℕ)
    → HasNames names (map (λ f. f.tree.name.text) fields) → HasKeys (List ℕ) bytes_eq (map (λ f. f.tree.name.text) fields) keys → AreRows (length graph) (map (λ f. f.class) fields) rows
    → AreLayersOf (λ class. class < length graph) graph keys rows versions of → KnowsFields graph fields names versions of
knows_fields graph order arranged fields names keys rows versions of named keyed rs layers = record {
  count = layers.count;
  there = layers.there;
  each = λ class inside name. by class inside name (find name names) (sym (named name));
}
  where
    by : (class : ℕ) → class < length graph → (name : List ℕ) (found : Option ℕ) → first_equal bytes_eq 0 name (map (λ f. f.tree.name.text) fields) ≡ found
        → Found graph (λ c. first_that (is_field_named name c) 0 fields) class (found_at found (get_or versions (get_or of class 0) []))
    by class inside name None e =
        found_none graph order arranged (λ c. first_that (is_field_named name c) 0 fields) class inside
        (λ c. own_none (List ℕ) FieldOf bytes_eq (λ a b. (bytes_eq-Decides a b).0) bytes_same (λ f. f.class) (λ f. f.tree.name.text) fields c name e)
    by class inside name (Some key) e =
        found_some graph order arranged (λ c. first_that (is_field_named name c) 0 fields) class inside keys rows versions of key layers
        (λ c l. own_by_key (List ℕ) FieldOf bytes_eq (λ a b. (bytes_eq-Decides a b).0) bytes_same (λ f. f.class) (λ f. f.tree.name.text) keys rows fields (length graph) keyed rs key c name l e)
