-- What labels mean in each class.
use Rattle.std.proofs.Common.{◌≡◌, ℕ, ◌<◌, Option, Some, None, List, [], length, get_or, refl, sym, subst, arith}
use Rattle.jesc_classes.specs.Named.{Named}
use Rattle.jesc_classes.specs.Order.{Graph}
use Rattle.jesc_lookup.specs.Layers.{AreItems, AreLayersOf}
use Rattle.jesc_lookup.specs.Lookup.{Found}
use Rattle.jesc_lookup.specs.Maps.{Map}
use Rattle.jesc_lookup.specs.Numbering.{IsArranged}
use Rattle.jesc_lookup.specs.laws.Layers.{found_none, found_some}
use Rattle.jesc_meanings.specs.Labels.{AreKeys, IsTableOf, Key, first_labelled}
use Rattle.jesc_meanings.specs.Layered.{AreRows, KnowsMembers, found_at, own_labelled}
use Rattle.jesc_meanings.proofs.Labelling.{own_by_key, own_none, small_keys}

pub are_items : (graph : Graph) (labels : List (Option Key)) (rows : List (List ℕ)) (keys : List ℕ) → AreKeys labels keys → AreRows graph labels rows → AreItems (length graph) keys rows
are_items graph labels rows keys are rs = record {
  count = rs.count;
  each = λ k d l j e m. omega (arith, rs.small k d l j e m, are.count);
  small = small_keys labels keys are;
}

pub knows_members : (graph : Graph) (order : List ℕ) → IsArranged graph order → (labels : List (Option Key)) (rows : List (List ℕ)) (names : List (Named ℕ)) (table : List (List (Option ℕ))) (keys : List ℕ) (versions : List Map) (of : List ℕ)
    → IsTableOf labels names table → AreKeys labels keys → AreRows graph labels rows → AreLayersOf (λ class. class < length graph) graph keys rows versions of → KnowsMembers graph labels rows names table versions of
knows_members graph order arranged labels rows names table keys versions of is are rs layers = record {
  named = is.named;
  count = layers.count;
  there = layers.there;
  each = λ class inside key. subst (λ o. Found graph (own_labelled labels rows key) class (found_at o (get_or versions (get_or of class 0) []))) (sym (is.each key)) (by class inside key (first_labelled key labels) refl);
}
  where
    by : (class : ℕ) → class < length graph → (key : Key) (found : Option ℕ) → first_labelled key labels ≡ found → Found graph (own_labelled labels rows key) class (found_at found (get_or versions (get_or of class 0) []))
    by class inside key None e = found_none graph order arranged (own_labelled labels rows key) class inside (λ c. own_none labels key e (get_or rows c []))
    by class inside key (Some k) e =
        found_some graph order arranged (own_labelled labels rows key) class inside keys rows versions of k layers
        (λ c l. own_by_key labels keys are key k e (get_or rows c []) (rs.small c [] (omega (arith, l, rs.count))))
