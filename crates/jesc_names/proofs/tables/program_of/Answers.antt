use Rattle.std.proofs.Common.{◌≡◌, ◌∙◌, ◌<◌, ◌^◌, ℕ, List, map, length, get_or, Contains, ap, sym, subst, arith}
use Rattle.std.proofs.lemmas.List.{length-map}
use Rattle.jesc_tree.specs.declared.class.Class.{Class}
use Rattle.jesc_tree.specs.declared.class.Field.{Field}
use Rattle.jesc_tree.specs.declared.class.Method.{Method}
use Rattle.jesc_tree.specs.Programs.{IsLawful}
use Rattle.jesc_classes.specs.Entries.{AreApart}
use Rattle.jesc_members.specs.Fields.{fields_of}
use Rattle.jesc_names.specs.Program.{IsProgramOf, numbers_in, callables_at}
use Rattle.jesc_members.specs.Seen.{seen_field}
use Rattle.jesc_names.specs.TablesKnown.{AreNumbers}
use Rattle.jesc_names.specs.TablesRows.{AreFieldIds}
use Rattle.jesc_names.proofs.TablesLists.{as_many_fields}
use Rattle.jesc_names.proofs.TablesRules.{ready as class_ready}
use Rattle.jesc_names.proofs.TablesWhole.{AreRows, all_ready, good_by, ordered, sized, lists_are, numbers_are, field_ids_by, below_count, program_made, lawful_made, headings_made}
use Rattle.jesc_names.proofs.tables.program_of.Goals as goal

pub places_of-requires-clause-few : goal.places_of-requires-clause-few
places_of-requires-clause-few c =
    let given = c.args.classes.now in
    let view = c.as_slice-order.result.now in
    let good = good_by given c.args.tables c.requires.tables c.requires.headed c.requires.few c.requires.held c.requires.placed c.as_slice-order.result.now c.as_slice-order.ensures in
    good.few

pub places_of-requires-clause-apart : goal.places_of-requires-clause-apart
places_of-requires-clause-apart c =
    let given = c.args.classes.now in
    let view = c.as_slice-order.result.now in
    let good = good_by given c.args.tables c.requires.tables c.requires.headed c.requires.few c.requires.held c.requires.placed c.as_slice-order.result.now c.as_slice-order.ensures in
    good.apart

pub places_of-requires-clause-within : goal.places_of-requires-clause-within
places_of-requires-clause-within c =
    let given = c.args.classes.now in
    let view = c.as_slice-order.result.now in
    let good = good_by given c.args.tables c.requires.tables c.requires.headed c.requires.few c.requires.held c.requires.placed c.as_slice-order.result.now c.as_slice-order.ensures in
    good.within

pub places_of-requires-clause-whole : goal.places_of-requires-clause-whole
places_of-requires-clause-whole c =
    let given = c.args.classes.now in
    let view = c.as_slice-order.result.now in
    let good = good_by given c.args.tables c.requires.tables c.requires.headed c.requires.few c.requires.held c.requires.placed c.as_slice-order.result.now c.as_slice-order.ensures in
    good.whole

pub fields_by_class-requires-clause-within : goal.fields_by_class-requires-clause-within
fields_by_class-requires-clause-within c =
    let given = c.args.classes.now in
    let view = c.as_slice-order.result.now in
    let good = good_by given c.args.tables c.requires.tables c.requires.headed c.requires.few c.requires.held c.requires.placed c.as_slice-order.result.now c.as_slice-order.ensures in
    below_count given (length view) good.long (all_ready given c.requires.held c.requires.placed) (map seen_field c.args.fields.now) c.requires.fields

pub field_order-requires : goal.field_order-requires
field_order-requires c =
    let given = c.args.classes.now in
    let view = c.as_slice-order.result.now in
    let good = good_by given c.args.tables c.requires.tables c.requires.headed c.requires.few c.requires.held c.requires.placed c.as_slice-order.result.now c.as_slice-order.ensures in
    subst (λ (xs : List (List ℕ)). (i : ℕ) → i < length view → get_or view i 0 < length xs) (sym c.as_slice-2.ensures.value) (λ i l. let w = good.within i l in omega (arith, w, c.in_ok-lists.ensures.count))

pub places_of-requires-2-clause-few : goal.places_of-requires-2-clause-few
places_of-requires-2-clause-few c =
    let given = c.args.classes.now in
    let view = c.as_slice-order.result.now in
    let good = good_by given c.args.tables c.requires.tables c.requires.headed c.requires.few c.requires.held c.requires.placed c.as_slice-order.result.now c.as_slice-order.ensures in
    let each = lists_are given (map seen_field c.args.fields.now) (length view) c.in_ok-lists.lists.items c.as_slice-2.result.now c.as_slice-2.ensures.value c.requires.fields c.in_ok-lists.ensures.each in
    let made = c.in_ok-numbers.ensures.numbers ∙ ordered given view good c.as_slice-2.result.now each in
    let e = c.as_slice-3.ensures ∙ made in
    subst (λ (xs : List ℕ). length xs < 2 ^ 32) (sym e) good.field_few

pub places_of-requires-2-clause-apart : goal.places_of-requires-2-clause-apart
places_of-requires-2-clause-apart c =
    let given = c.args.classes.now in
    let view = c.as_slice-order.result.now in
    let good = good_by given c.args.tables c.requires.tables c.requires.headed c.requires.few c.requires.held c.requires.placed c.as_slice-order.result.now c.as_slice-order.ensures in
    let each = lists_are given (map seen_field c.args.fields.now) (length view) c.in_ok-lists.lists.items c.as_slice-2.result.now c.as_slice-2.ensures.value c.requires.fields c.in_ok-lists.ensures.each in
    let made = c.in_ok-numbers.ensures.numbers ∙ ordered given view good c.as_slice-2.result.now each in
    let e = c.as_slice-3.ensures ∙ made in
    subst AreApart (sym e) good.field_apart

pub places_of-requires-2-clause-within : goal.places_of-requires-2-clause-within
places_of-requires-2-clause-within c =
    let given = c.args.classes.now in
    let view = c.as_slice-order.result.now in
    let good = good_by given c.args.tables c.requires.tables c.requires.headed c.requires.few c.requires.held c.requires.placed c.as_slice-order.result.now c.as_slice-order.ensures in
    let each = lists_are given (map seen_field c.args.fields.now) (length view) c.in_ok-lists.lists.items c.as_slice-2.result.now c.as_slice-2.ensures.value c.requires.fields c.in_ok-lists.ensures.each in
    let made = c.in_ok-numbers.ensures.numbers ∙ ordered given view good c.as_slice-2.result.now each in
    let e = c.as_slice-3.ensures ∙ made in
    let many = as_many_fields c.args.fields.now (fields_of given) c.requires.fields in
    subst (λ (xs : List ℕ). (i : ℕ) → i < length xs → get_or xs i 0 < length c.args.fields.now) (sym e) (λ i l. let w = good.field_within i l in omega (arith, w, many))

pub places_of-requires-2-clause-whole : goal.places_of-requires-2-clause-whole
places_of-requires-2-clause-whole c =
    let given = c.args.classes.now in
    let view = c.as_slice-order.result.now in
    let good = good_by given c.args.tables c.requires.tables c.requires.headed c.requires.few c.requires.held c.requires.placed c.as_slice-order.result.now c.as_slice-order.ensures in
    let each = lists_are given (map seen_field c.args.fields.now) (length view) c.in_ok-lists.lists.items c.as_slice-2.result.now c.as_slice-2.ensures.value c.requires.fields c.in_ok-lists.ensures.each in
    let made = c.in_ok-numbers.ensures.numbers ∙ ordered given view good c.as_slice-2.result.now each in
    let e = c.as_slice-3.ensures ∙ made in
    let many = as_many_fields c.args.fields.now (fields_of given) c.requires.fields in
    subst (λ (xs : List ℕ). (n : ℕ) → n < length c.args.fields.now → Contains xs n) (sym e) (λ n l. good.field_whole n (omega (arith, l, many)))

pub field_table-requires-clause-numbers : goal.field_table-requires-clause-numbers
field_table-requires-clause-numbers c =
    let given = c.args.classes.now in
    let view = c.as_slice-order.result.now in
    let good = good_by given c.args.tables c.requires.tables c.requires.headed c.requires.few c.requires.held c.requires.placed c.as_slice-order.result.now c.as_slice-order.ensures in
    subst (AreNumbers given view) (sym c.as_slice.ensures.value) (numbers_are given view c.in_ok-ids.ids.items good c.in_ok-ids.ensures.count c.in_ok-ids.ensures.ids)

pub field_table-requires-clause-ready : goal.field_table-requires-clause-ready
field_table-requires-clause-ready c =
    let given = c.args.classes.now in
    let view = c.as_slice-order.result.now in
    let good = good_by given c.args.tables c.requires.tables c.requires.headed c.requires.few c.requires.held c.requires.placed c.as_slice-order.result.now c.as_slice-order.ensures in
    all_ready given c.requires.held c.requires.placed

pub field_table-requires-clause-ids : goal.field_table-requires-clause-ids
field_table-requires-clause-ids c =
    let given = c.args.classes.now in
    let view = c.as_slice-order.result.now in
    let good = good_by given c.args.tables c.requires.tables c.requires.headed c.requires.few c.requires.held c.requires.placed c.as_slice-order.result.now c.as_slice-order.ensures in
    let each = lists_are given (map seen_field c.args.fields.now) (length view) c.in_ok-lists.lists.items c.as_slice-2.result.now c.as_slice-2.ensures.value c.requires.fields c.in_ok-lists.ensures.each in
    let made = c.in_ok-numbers.ensures.numbers ∙ ordered given view good c.as_slice-2.result.now each in
    subst (AreFieldIds given view c.as_slice-4.result.now) (sym c.as_slice-5.ensures.value) (field_ids_by given view c.as_slice-4.result.now c.as_slice-3.result.now c.in_ok-field_ids.field_ids.items good (c.as_slice-4.ensures ∙ made) (c.as_slice-3.ensures ∙ made) (c.in_ok-field_ids.ensures.count ∙ as_many_fields c.args.fields.now (fields_of given) c.requires.fields) c.in_ok-field_ids.ensures.ids)

pub method_table-requires-clause-numbers : goal.method_table-requires-clause-numbers
method_table-requires-clause-numbers c =
    let given = c.args.classes.now in
    let view = c.as_slice-order.result.now in
    let good = good_by given c.args.tables c.requires.tables c.requires.headed c.requires.few c.requires.held c.requires.placed c.as_slice-order.result.now c.as_slice-order.ensures in
    subst (AreNumbers given view) (sym c.as_slice.ensures.value) (numbers_are given view c.in_ok-ids.ids.items good c.in_ok-ids.ensures.count c.in_ok-ids.ensures.ids)

pub method_table-requires-clause-ready : goal.method_table-requires-clause-ready
method_table-requires-clause-ready c =
    let given = c.args.classes.now in
    let view = c.as_slice-order.result.now in
    let good = good_by given c.args.tables c.requires.tables c.requires.headed c.requires.few c.requires.held c.requires.placed c.as_slice-order.result.now c.as_slice-order.ensures in
    class_ready given c.requires.held c.requires.placed

pub with_members-requires-clause-fields : goal.with_members-requires-clause-fields
with_members-requires-clause-fields c =
    let given = c.args.classes.now in
    let view = c.as_slice-order.result.now in
    let good = good_by given c.args.tables c.requires.tables c.requires.headed c.requires.few c.requires.held c.requires.placed c.as_slice-order.result.now c.as_slice-order.ensures in
    let each = lists_are given (map seen_field c.args.fields.now) (length view) c.in_ok-lists.lists.items c.as_slice-2.result.now c.as_slice-2.ensures.value c.requires.fields c.in_ok-lists.ensures.each in
    let made = c.in_ok-numbers.ensures.numbers ∙ ordered given view good c.as_slice-2.result.now each in
    let sizes = c.as_slice-7.ensures ∙ c.in_ok-numbers.ensures.counts ∙ sized given view good c.as_slice-2.result.now each in
    let one : length c.as_slice-7.result.now ≡ length (map (λ class. length (numbers_in class 0 (fields_of given))) view) = ap (λ (xs : List ℕ). length xs) sizes in
    let two = ap (λ (xs : List Class). length xs) c.as_slice-6.ensures in
    let three = ap (λ (xs : List ℕ). length xs) c.as_slice-order.ensures in
    let four = c.requires.tables.entries.count in
    omega (arith, one, two, three, four, length-map view (λ class. length (numbers_in class 0 (fields_of given))))

pub with_members-requires-clause-methods : goal.with_members-requires-clause-methods
with_members-requires-clause-methods c =
    let given = c.args.classes.now in
    let view = c.as_slice-order.result.now in
    let good = good_by given c.args.tables c.requires.tables c.requires.headed c.requires.few c.requires.held c.requires.placed c.as_slice-order.result.now c.as_slice-order.ensures in
    let sizes = c.as_slice-8.ensures ∙ c.in_ok-methods.ensures.counts in
    let one : length c.as_slice-8.result.now ≡ length (map (λ class. length (callables_at given class)) view) = ap (λ (xs : List ℕ). length xs) sizes in
    let two = ap (λ (xs : List Class). length xs) c.as_slice-6.ensures in
    let three = ap (λ (xs : List ℕ). length xs) c.as_slice-order.ensures in
    let four = c.requires.tables.entries.count in
    omega (arith, one, two, three, four, length-map view (λ class. length (callables_at given class)))

pub new-requires : goal.new-requires
new-requires c =
    let given = c.args.classes.now in
    let view = c.as_slice-order.result.now in
    let good = good_by given c.args.tables c.requires.tables c.requires.headed c.requires.few c.requires.held c.requires.placed c.as_slice-order.result.now c.as_slice-order.ensures in
    let each = lists_are given (map seen_field c.args.fields.now) (length view) c.in_ok-lists.lists.items c.as_slice-2.result.now c.as_slice-2.ensures.value c.requires.fields c.in_ok-lists.ensures.each in
    let made = c.in_ok-numbers.ensures.numbers ∙ ordered given view good c.as_slice-2.result.now each in
    let ready = all_ready given c.requires.held c.requires.placed in
    let old = c.as_slice-6.result.now in
    let filled = c.in_ok-with_members.with_members in
    let rows = c.in_ok-rows.rows in
    let methods = c.in_ok-methods.methods.methods in
    let are : AreRows given view old filled rows methods = record {
      same = c.in_ok-with_members.ensures.plain;
      each_row = c.in_ok-rows.ensures;
      each_method = c.in_ok-methods.ensures.methods;
      field_counts = c.as_slice-7.result.now;
      method_counts = c.as_slice-8.result.now;
      field_sizes = c.as_slice-7.ensures ∙ c.in_ok-numbers.ensures.counts ∙ sized given view good c.as_slice-2.result.now each;
      method_sizes = c.as_slice-8.ensures ∙ c.in_ok-methods.ensures.counts;
      fields_as_many = c.in_ok-with_members.ensures.field_counts;
      methods_as_many = c.in_ok-with_members.ensures.method_counts;
      fields_listed = c.in_ok-with_members.ensures.field_ids;
      methods_listed = c.in_ok-with_members.ensures.method_ids;
    } in
    program_made given c.args.tables c.requires.tables c.requires.headed ready view old filled rows methods c.as_slice-order.ensures c.as_slice-6.ensures are

pub returns-clause-program : goal.returns-clause-program
returns-clause-program c =
    let given = c.args.classes.now in
    let view = c.as_slice-order.result.now in
    let good = good_by given c.args.tables c.requires.tables c.requires.headed c.requires.few c.requires.held c.requires.placed c.as_slice-order.result.now c.as_slice-order.ensures in
    let each = lists_are given (map seen_field c.args.fields.now) (length view) c.in_ok-lists.lists.items c.as_slice-2.result.now c.as_slice-2.ensures.value c.requires.fields c.in_ok-lists.ensures.each in
    let made = c.in_ok-numbers.ensures.numbers ∙ ordered given view good c.as_slice-2.result.now each in
    let ready = all_ready given c.requires.held c.requires.placed in
    let old = c.as_slice-6.result.now in
    let filled = c.in_ok-with_members.with_members in
    let rows = c.in_ok-rows.rows in
    let methods = c.in_ok-methods.methods.methods in
    let are : AreRows given view old filled rows methods = record {
      same = c.in_ok-with_members.ensures.plain;
      each_row = c.in_ok-rows.ensures;
      each_method = c.in_ok-methods.ensures.methods;
      field_counts = c.as_slice-7.result.now;
      method_counts = c.as_slice-8.result.now;
      field_sizes = c.as_slice-7.ensures ∙ c.in_ok-numbers.ensures.counts ∙ sized given view good c.as_slice-2.result.now each;
      method_sizes = c.as_slice-8.ensures ∙ c.in_ok-methods.ensures.counts;
      fields_as_many = c.in_ok-with_members.ensures.field_counts;
      methods_as_many = c.in_ok-with_members.ensures.method_counts;
      fields_listed = c.in_ok-with_members.ensures.field_ids;
      methods_listed = c.in_ok-with_members.ensures.method_ids;
    } in
    subst (λ (cs : List Class). ∥ IsProgramOf given cs c.new.result.fields c.new.result.methods ∥₁) (sym c.new.ensures.classes)
    (subst (λ (fs : List Field). ∥ IsProgramOf given filled fs c.new.result.methods ∥₁) (sym c.new.ensures.fields)
    (subst (λ (ms : List Method). ∥ IsProgramOf given filled rows ms ∥₁) (sym c.new.ensures.methods) (headings_made given c.args.tables c.requires.tables c.requires.headed ready view old filled rows methods c.as_slice-order.ensures c.as_slice-6.ensures are)))

pub returns-clause-lawful : goal.returns-clause-lawful
returns-clause-lawful c =
    let given = c.args.classes.now in
    let view = c.as_slice-order.result.now in
    let good = good_by given c.args.tables c.requires.tables c.requires.headed c.requires.few c.requires.held c.requires.placed c.as_slice-order.result.now c.as_slice-order.ensures in
    let each = lists_are given (map seen_field c.args.fields.now) (length view) c.in_ok-lists.lists.items c.as_slice-2.result.now c.as_slice-2.ensures.value c.requires.fields c.in_ok-lists.ensures.each in
    let made = c.in_ok-numbers.ensures.numbers ∙ ordered given view good c.as_slice-2.result.now each in
    let ready = all_ready given c.requires.held c.requires.placed in
    let old = c.as_slice-6.result.now in
    let filled = c.in_ok-with_members.with_members in
    let rows = c.in_ok-rows.rows in
    let methods = c.in_ok-methods.methods.methods in
    let are : AreRows given view old filled rows methods = record {
      same = c.in_ok-with_members.ensures.plain;
      each_row = c.in_ok-rows.ensures;
      each_method = c.in_ok-methods.ensures.methods;
      field_counts = c.as_slice-7.result.now;
      method_counts = c.as_slice-8.result.now;
      field_sizes = c.as_slice-7.ensures ∙ c.in_ok-numbers.ensures.counts ∙ sized given view good c.as_slice-2.result.now each;
      method_sizes = c.as_slice-8.ensures ∙ c.in_ok-methods.ensures.counts;
      fields_as_many = c.in_ok-with_members.ensures.field_counts;
      methods_as_many = c.in_ok-with_members.ensures.method_counts;
      fields_listed = c.in_ok-with_members.ensures.field_ids;
      methods_listed = c.in_ok-with_members.ensures.method_ids;
    } in
    ∣ subst (λ (cs : List Class). IsLawful cs c.new.result.fields c.new.result.methods) (sym c.new.ensures.classes)
    (subst (λ (fs : List Field). IsLawful filled fs c.new.result.methods) (sym c.new.ensures.fields)
    (subst (λ (ms : List Method). IsLawful filled rows ms) (sym c.new.ensures.methods) (lawful_made given c.args.tables c.requires.tables c.requires.headed ready view old filled rows methods c.as_slice-order.ensures c.as_slice-6.ensures are))) ∣₁
