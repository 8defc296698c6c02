-- The key of each method is found by its name and number of parameters.
use Rattle.std.proofs.Common.{◌≡◌, ℕ, ◌<◌, List, [], ◌∷◌, length, get_or, map, Some, refl, ap, sym, ◌∙◌, arith, bytes_eq}
use Rattle.std.specs.List.{slice_get}
use Rattle.std.proofs.lemmas.List.{get_or-map, length-map}
use Rattle.std.proofs.lemmas.Option.{get_or_from_slice_get, slice_get_within}
use Rattle.jesc_classes.specs.Named.{Named, find}
use Rattle.jesc_members.specs.Methods.{MethodOf}
use Rattle.jesc_members.specs.Counts.{AreCounted, Label, alike, found_in}
use Rattle.jesc_members.specs.Keys.{AreRows, HasKeys, HasNames, first_equal}
use Rattle.jesc_members.specs.KeyedMethods.{AreKeyed}
use Rattle.jesc_members.proofs.InheritFields.{are_items}
use Rattle.jesc_members.proofs.InheritMethods.{label_of}

texts_of : (methods : List MethodOf) → map (λ (l : Label). l.0) (map label_of methods) ≡ map (λ m. m.tree.name.text) methods
texts_of [] = refl
texts_of (m ∷ methods) = ap (λ r. m.tree.name.text ∷ r) (texts_of methods)

label_at : (methods : List MethodOf) (i : ℕ) (m : MethodOf) → slice_get methods i ≡ Some m → get_or (map label_of methods) i ([], 0) ≡ label_of m
label_at methods i m e = get_or-map label_of methods i m ([], 0) (slice_get_within methods i m e) ∙ ap label_of (get_or_from_slice_get methods i m m e)

pub are_keyed : (classes : ℕ) (methods : List MethodOf) (names : List (Named ℕ)) (table : List (List ℕ)) (counts keys : List ℕ) (rows : List (List ℕ))
    → HasNames names (map (λ m. m.tree.name.text) methods) → AreCounted counts (length methods) (map label_of methods) table → HasKeys Label alike (map label_of methods) keys → AreRows classes (map (λ m. m.class) methods) rows
    → AreKeyed classes methods names table counts keys rows
are_keyed classes methods names table counts keys rows named counted keyed rowed = record {
  keyed = keyed;
  rowed = rowed;
  items = are_items Label alike classes (map label_of methods) (map (λ m. m.class) methods) keys rows (length-map methods (λ m. m.class) ∙ sym (length-map methods label_of)) keyed rowed;
  found = found;
}
  where
    found : (i : ℕ) (m : MethodOf) → slice_get methods i ≡ Some m → found_in counts table (find m.tree.name.text names) (length m.tree.params) ≡ Some (get_or keys i 0)
    found i m e =
        let inside : i < length (map label_of methods) = omega (arith, slice_get_within methods i m e, length-map methods label_of) in
        ap (λ o. found_in counts table o (length m.tree.params)) (named m.tree.name.text ∙ sym (ap (first_equal bytes_eq 0 m.tree.name.text) (texts_of methods)))
        ∙ counted.each m.tree.name.text (length m.tree.params)
        ∙ ap (λ l. first_equal alike 0 l (map label_of methods)) (sym (label_at methods i m e))
        ∙ keyed.each i ([], 0) inside
