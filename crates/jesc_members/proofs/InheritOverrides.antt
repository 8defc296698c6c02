-- How methods stand to those like them above their class.
use Rattle.std.proofs.Common.{◌≡◌, ◌↔◌, inl, inr, ℕ, ◌+◌, ◌<◌, Bool, true, false, not, true≢false, List, [], ◌∷◌, length, get_or, map, Option, Some, None, refl, ap, sym, ◌∙◌, subst, arith, nat_lt, ltb-true, ltb-false}
use Rattle.std.specs.Prelude.{IfSome}
use Rattle.std.specs.List.{Contains, slice_get}
use Rattle.std.proofs.lemmas.List.{get_or_default, get_or_past, length-map}
use Rattle.std.proofs.lemmas.List.Elements.{All-contains}
use Rattle.std.proofs.lemmas.Option.{slice_get-get_or}
use Rattle.jesc_classes.specs.Headings.{Source, graph_of}
use Rattle.jesc_classes.specs.Named.{find}
use Rattle.jesc_classes.specs.Order.{Graph, supers}
use Rattle.jesc_classes.specs.laws.Graphs.{graph_length}
use Rattle.jesc_classes.specs.laws.Lawful.{same_some}
use Rattle.jesc_classes.specs.laws.Orders.{nothing}
use Rattle.jesc_members.specs.declared.field_layers.FieldLayers.{FieldLayers}
use Rattle.jesc_members.specs.declared.method_layers.MethodLayers.{MethodLayers}
use Rattle.jesc_members.specs.declared.methods.GivenMethod.{GivenMethod}
use Rattle.jesc_members.specs.declared.summary.Summary.{Summary}
use Rattle.jesc_members.specs.declared.summary_layers.Above.{Above}
use Rattle.jesc_members.specs.declared.summary_layers.SummaryLayers.{SummaryLayers}
use Rattle.jesc_members.specs.Fields.{FieldOf, fields_of}
use Rattle.jesc_members.specs.Counts.{KnowsMethods, found_in}
use Rattle.jesc_members.specs.Keys.{KnowsFields}
use Rattle.jesc_members.specs.Inherited.{IsInherited}
use Rattle.jesc_members.specs.KeyedMethods.{AreKeyed}
use Rattle.jesc_lookup.specs.Lines.{AreExtras, IsLine}
use Rattle.jesc_members.specs.Methods.{MethodOf, methods_of, is_final, signature}
use Rattle.jesc_lookup.specs.Numbering.{IsArranged}
use Rattle.jesc_members.specs.BareMethods.{TellsBare}
use Rattle.jesc_members.specs.Overrides.{KnowsOverrides}
use Rattle.jesc_members.specs.Overriding.{Differ, IsLikeAbove, IsOneHidden, IsPairAbove}
use Rattle.jesc_members.specs.Seen.{seen_method}
use Rattle.jesc_members.specs.Summaries.{IsMethodAt, IsSummary, Summarizes}
use Rattle.jesc_members.specs.Summed.{AreKeysOf, DiffersFrom, HidesWith, IsSealed}
use Rattle.jesc_members.specs.SummaryLayers.{AreSummaries, IsAbove, above_at, nothing_above, summary_at}
use Rattle.jesc_members.proofs.GroupLists.{at_slot}
use Rattle.jesc_lookup.specs.laws.Lines.{arranged_acyclic}
use Rattle.jesc_lookup.specs.laws.Layers.{as_of, super_within, tail_of}
use Rattle.jesc_members.proofs.InheritMethods.{method_owners_small}
use Rattle.jesc_members.specs.laws.Summed as laws
use Rattle.jesc_members.proofs.SummedKeys.{are_keys_of}

-- ---- one method and the sample of a summary

same_method : (a b : MethodOf) → Some a ≡ Some b → a ≡ b
same_method a b e = cc

not_true : (b : Bool) → not b ≡ true → b ≡ false
not_true true e = absurd (true≢false (sym e))
not_true false e = refl

module _ (methods : List GivenMethod) (m sample : GivenMethod) (s : Summary) (plain : s.mixed ≡ false) (inside : s.sample < length methods) (is : sample ≡ get_or methods s.sample sample)
    (same : Bool) (says : (same ≡ true) ↔ (signature m.tree.now ≡ signature sample.tree.now)) where
  slot : slice_get (map seen_method methods) s.sample ≡ Some (seen_method sample)
  slot = at_slot seen_method methods s.sample sample inside is

  pub compares : (not same ≡ true) ↔ DiffersFrom (map seen_method methods) (seen_method m) (Some s)
  compares = (
    λ t. inr (seen_method sample, slot, λ d. absurd (true≢false (sym (says.1 d) ∙ not_true same t))),
    λ u. elim u [
      | inl t ↦ absurd (true≢false (sym t ∙ plain))
      | inr b ↦ by same refl b
    ],
  )
    where
      by : (x : Bool) → same ≡ x → (b : MethodOf) × IsMethodAt (map seen_method methods) s.sample b × Differ (seen_method m) b → not x ≡ true
      by false f b = refl
      by true f b = absurd (b.2 (says.0 f ∙ ap (λ (x : MethodOf). signature x.tree) (same_method (seen_method sample) b.0 (sym slot ∙ b.1))))

-- ---- the tables are made

pub knows_overrides : (given : List Source) (order : List ℕ) (extras : List (List ℕ)) (methods : MethodLayers) (summaries : SummaryLayers) (declared : List GivenMethod) → IsArranged (graph_of given) order → AreExtras (graph_of given) extras → map seen_method declared ≡ methods_of given
    → AreKeyed (length (graph_of given)) (methods_of given) methods.keys.names methods.keys.rows.items methods.keys.counts methods.key_of methods.rows.items
    → AreSummaries (graph_of given) (methods_of given) methods.key_of methods.rows.items summaries.versions summaries.summaries summaries.above.items
    → KnowsOverrides given methods summaries declared
knows_overrides given order extras methods summaries declared arranged are all keyed summed = record {
  acyclic = arranged_acyclic (graph_of given) order arranged;
  lines = lines;
  declared_are = all;
  keyed = keyed;
  summed = summed;
}
  where
    lines : (class : ℕ) → class < length (graph_of given) → (line : List ℕ) × IsLine (graph_of given) class (class ∷ line)
    lines class l =
        let extra = get_or extras class [] in
        let t = tail_of (graph_of given) order arranged class extra (supers (graph_of given) class) l (λ s c. super_within (graph_of given) order arranged class s c) (as_of (graph_of given) class extra (are.each class l)) in
        (t.0, t.1)

pub inherited : (given : List Source) (graph : Graph) (order : List ℕ) (extras : List (List ℕ)) (fs : List FieldOf) (fields : FieldLayers) (methods : MethodLayers) (summaries : SummaryLayers) (declared : List GivenMethod)
    → graph ≡ graph_of given → fs ≡ fields_of given → map seen_method declared ≡ methods_of given → IsArranged graph order → AreExtras graph extras
    → KnowsFields graph fs fields.names fields.layers.versions fields.layers.of.items
    → KnowsMethods graph (map seen_method declared) methods.keys.names methods.keys.rows.items methods.keys.counts methods.layers.versions methods.layers.of.items
    → AreKeyed (length graph) (map seen_method declared) methods.keys.names methods.keys.rows.items methods.keys.counts methods.key_of methods.rows.items
    → AreSummaries graph (map seen_method declared) methods.key_of methods.rows.items summaries.versions summaries.summaries summaries.above.items
    → TellsBare graph (map seen_method declared) methods.bare methods.layers.of.items
    → IsInherited given fields methods summaries declared
inherited given graph order extras fs fields methods summaries declared g f m arranged are knows_fields knows_methods keyed summed bare = record {
  fields_known = subst (λ x. KnowsFields x (fields_of given) fields.names fields.layers.versions fields.layers.of.items) g (subst (λ x. KnowsFields graph x fields.names fields.layers.versions fields.layers.of.items) f knows_fields);
  methods_known = subst (λ x. KnowsMethods x (methods_of given) methods.keys.names methods.keys.rows.items methods.keys.counts methods.layers.versions methods.layers.of.items) g
      (subst (λ x. KnowsMethods graph x methods.keys.names methods.keys.rows.items methods.keys.counts methods.layers.versions methods.layers.of.items) m knows_methods);
  overrides_known = knows_overrides given order extras methods summaries declared (subst (λ x. IsArranged x order) g arranged) (subst (λ x. AreExtras x extras) g are) m
      (subst (λ (x : Graph). AreKeyed (length x) (methods_of given) methods.keys.names methods.keys.rows.items methods.keys.counts methods.key_of methods.rows.items) g
      (subst (λ x. AreKeyed (length graph) x methods.keys.names methods.keys.rows.items methods.keys.counts methods.key_of methods.rows.items) m keyed))
      (subst (λ x. AreSummaries x (methods_of given) methods.key_of methods.rows.items summaries.versions summaries.summaries summaries.above.items) g
      (subst (λ x. AreSummaries graph x methods.key_of methods.rows.items summaries.versions summaries.summaries summaries.above.items) m summed));
  bare_known = subst (λ x. TellsBare x (methods_of given) methods.bare methods.layers.of.items) g (subst (λ x. TellsBare graph x methods.bare methods.layers.of.items) m bare);
}

-- ---- what the tables say

module _ (given : List Source) (methods : MethodLayers) (summaries : SummaryLayers) (declared : List GivenMethod) (h : KnowsOverrides given methods summaries declared) where
  keys_known : AreKeysOf given methods.key_of methods.rows.items
  keys_known = are_keys_of given methods.key_of methods.rows.items h.keyed.rowed h.keyed.keyed

  pub above_is : (class : ℕ) (l : class < length (graph_of given)) → IsAbove (methods_of given) methods.key_of methods.rows.items summaries.versions summaries.summaries (h.lines class l).0 (above_at summaries.above.items class)
  above_is class l = h.summed.each class l (h.lines class l).0 (h.lines class l).1

  at_class : (class : ℕ) (a : Above) → class < length (graph_of given) → a ≡ get_or summaries.above.items class a → a ≡ above_at summaries.above.items class
  at_class class a l e = e ∙ get_or_default summaries.above.items class a nothing_above (omega (arith, l, h.summed.count))

  pub differs_is : (class : ℕ) (a : Above) → class < length given + 7 → a ≡ get_or summaries.above.items class a → (a.differs ≡ true) ↔ IsPairAbove given class Differ
  differs_is class a l e =
      let inside : class < length (graph_of given) = omega (arith, l, graph_length given) in
      subst (λ (x : Above). (x.differs ≡ true) ↔ IsPairAbove given class Differ) (sym (at_class class a inside e))
      (laws.above_differs given methods.key_of methods.rows.items class (h.lines class inside).0 keys_known h.acyclic (h.lines class inside).1 summaries.versions summaries.summaries (above_at summaries.above.items class) (above_is class inside))

  pub hides_is : (class : ℕ) (a : Above) → class < length given + 7 → a ≡ get_or summaries.above.items class a → (a.hides ≡ true) ↔ IsPairAbove given class IsOneHidden
  hides_is class a l e =
      let inside : class < length (graph_of given) = omega (arith, l, graph_length given) in
      subst (λ (x : Above). (x.hides ≡ true) ↔ IsPairAbove given class IsOneHidden) (sym (at_class class a inside e))
      (laws.above_hides given methods.key_of methods.rows.items class (h.lines class inside).0 keys_known h.acyclic (h.lines class inside).1 summaries.versions summaries.summaries (above_at summaries.above.items class) (above_is class inside))

  keys_count : length methods.key_of ≡ length declared
  keys_count = h.keyed.keyed.count ∙ length-map (methods_of given) (λ m. (m.tree.name.text, length m.tree.params)) ∙ sym (ap length h.declared_are) ∙ length-map declared seen_method

  row_small : (c i : ℕ) → Contains (get_or methods.rows.items c []) i → i < length methods.key_of
  row_small c i k = by (nat_lt c (length methods.rows.items)) refl
    where
      by : (t : Bool) → nat_lt c (length methods.rows.items) ≡ t → i < length methods.key_of
      by true e = All-contains (λ x. x < length methods.key_of) (get_or methods.rows.items c []) i (h.keyed.items.each c [] (ltb-true c (length methods.rows.items) e)) k
      by false e = absurd (nothing i (subst (λ xs. Contains xs i) (get_or_past methods.rows.items c [] (ltb-false c (length methods.rows.items) e)) k))

  sample_small : (classes : List ℕ) (key : ℕ) (o : Option Summary) → Summarizes (methods_of given) methods.key_of methods.rows.items classes key o → IfSome o (λ s. s.sample < length declared)
  sample_small classes key None k = tt
  sample_small classes key (Some s) k =
      let all : IsSummary (methods_of given) k.0 s = k.2 in
      let one = (k.1 s.sample).0 all.sample in
      omega (arith, row_small one.0 s.sample one.2, keys_count)

  -- a given method, by its number
  module _ (m : MethodOf) (there : Contains (methods_of given) m) where
    pub class_small : m.class < length (graph_of given)
    class_small = All-contains (λ (x : MethodOf). x.class < length (graph_of given)) (methods_of given) m (method_owners_small given) there

    slot_of : slice_get (methods_of given) there.0 ≡ Some m
    slot_of = slice_get-get_or (methods_of given) there.0 m there.1 ∙ ap Some there.2

    pub key_there : (name : List ℕ) (count : ℕ) → name ≡ m.tree.name.text → count ≡ length m.tree.params → found_in methods.keys.counts methods.keys.rows.items (find name methods.keys.names) count ≡ Some (get_or methods.key_of there.0 0)
    key_there name count e f =
        ap (λ n. found_in methods.keys.counts methods.keys.rows.items (find n methods.keys.names) count) e
        ∙ ap (found_in methods.keys.counts methods.keys.rows.items (find m.tree.name.text methods.keys.names)) f
        ∙ h.keyed.found there.0 m slot_of

    pub found_there : (name : List ℕ) (count : ℕ) → name ≡ m.tree.name.text → count ≡ length m.tree.params → found_in methods.keys.counts methods.keys.rows.items (find name methods.keys.names) count ≡ None → ⊥
    found_there name count e f none = no (sym (key_there name count e f) ∙ none)
      where
        no : Some (get_or methods.key_of there.0 0) ≡ None → ⊥
        no x = cc

    pub summary_small : (key : ℕ) (o : Option Summary) → o ≡ summary_at summaries.versions summaries.summaries (above_at summaries.above.items m.class) key → IfSome o (λ s. s.sample < length declared)
    summary_small key o e =
        subst (λ x. IfSome x (λ s. s.sample < length declared)) (sym e)
        (sample_small (h.lines m.class class_small).0 key (summary_at summaries.versions summaries.summaries (above_at summaries.above.items m.class) key) ((above_is m.class class_small).each key))

    -- the key and what is known of it
    module _ (name : List ℕ) (count key : ℕ) (o : Option Summary) (e : name ≡ m.tree.name.text) (f : count ≡ length m.tree.params)
        (got : found_in methods.keys.counts methods.keys.rows.items (find name methods.keys.names) count ≡ Some key)
        (known : o ≡ summary_at summaries.versions summaries.summaries (above_at summaries.above.items m.class) key) where
      summary_is : summary_at summaries.versions summaries.summaries (above_at summaries.above.items m.class) (get_or methods.key_of there.0 0) ≡ o
      summary_is = ap (summary_at summaries.versions summaries.summaries (above_at summaries.above.items m.class)) (same_some (get_or methods.key_of there.0 0) key (sym (key_there name count e f) ∙ got)) ∙ sym known

      pub unlike_is : IsLikeAbove given m (Differ m) ↔ DiffersFrom (map seen_method declared) m o
      unlike_is =
          subst (λ ms. IsLikeAbove given m (Differ m) ↔ DiffersFrom ms m o) (sym h.declared_are)
          (subst (λ x. IsLikeAbove given m (Differ m) ↔ DiffersFrom (methods_of given) m x) summary_is
          (laws.like_differs given methods.key_of methods.rows.items m there.0 slot_of (h.lines m.class class_small).0 keys_known h.acyclic (h.lines m.class class_small).1 summaries.versions summaries.summaries (above_at summaries.above.items m.class) (above_is m.class class_small)))

      pub hidden_is : IsLikeAbove given m (IsOneHidden m) ↔ HidesWith m o
      hidden_is =
          subst (λ x. IsLikeAbove given m (IsOneHidden m) ↔ HidesWith m x) summary_is
          (laws.like_hidden given methods.key_of methods.rows.items m there.0 slot_of (h.lines m.class class_small).0 keys_known h.acyclic (h.lines m.class class_small).1 summaries.versions summaries.summaries (above_at summaries.above.items m.class) (above_is m.class class_small))

      pub final_is : IsLikeAbove given m (λ b. is_final b.tree ≡ true) ↔ IsSealed o
      final_is =
          subst (λ x. IsLikeAbove given m (λ b. is_final b.tree ≡ true) ↔ IsSealed x) summary_is
          (laws.like_final given methods.key_of methods.rows.items m there.0 slot_of (h.lines m.class class_small).0 keys_known h.acyclic (h.lines m.class class_small).1 summaries.versions summaries.summaries (above_at summaries.above.items m.class) (above_is m.class class_small))
